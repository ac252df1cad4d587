-- Req 01 of document 02: digits with a bare point are numbers, and no other word and no other answer moves.
use Prim.Native.Nat.{ℕ, suc, ◌*◌}
use mathlib.Core.Path.{◌≡◌, refl, sym, ap, ap₂, subst, ◌∙◌}
use mathlib.Core.Logic.{◌⊎◌, inl, inr, ⊎_elim}
use mathlib.Core.Bool.{Bool, true, false, cond, ◌&&◌, ◌||◌}
use mathlib.Core.List.{List, [], ◌∷◌, ◌++◌, append_assoc, append-nil}
use native.Mathlib.Omega.{arith}
use borrow.Author.Tests.{eqb-true}
use lib.Dec.{eqb}
use lib.IntN.{ℤ}
use lib.ListN.{length, drop}
use Rattle.rules.specs.Units.{bound_limit, bound_places, place_limit, sample_limit, sample_places}
use Rattle.rules.specs.Descriptions.{rows}
use Rattle.rules.specs.Reading.{check, read, samples_in, samples_of, table_after}
use Rattle.rules.specs.Reading.Lines.{digit, every, minus_byte, run, after, starts, lines_of, words_of}
use Rattle.rules.specs.Reading.Numerals.{Exponent, Numeral, Sign, plain, pointed}
use Rattle.rules.specs.Reading.Numbers.{assemble, exponent_of, number_of, numeral_of, numeral_with, unsigned, value_of}
use Rattle.rules.specs.Reading.Contents.{bounds_at, bounds_of, content_by, content_of, formed, form_of, parameters, row_of, samples_on, three_of, values}
use Rattle.rules.specs.Reading.Judge.{head_fault, start}
use Rattle.rules.specs.Promises.{Checks, Reads}
use Rattle.rules.specs.declared.Bounds.{Bounds}
use Rattle.rules.specs.declared.Description.{Description}
use Rattle.rules.specs.declared.Form.{Form}
use Rattle.rules.specs.declared.Form.TheVariants.{Idle, Keyed, Data, Neither}
use Rattle.rules.specs.declared.Item.{Item}
use Rattle.rules.specs.declared.Item.TheVariants.{OfLower, OfRow, OfUpper}
use Rattle.rules.specs.declared.Keyword.TheVariants.{ATitle, ALower, AnUpper, ASize}
use Rattle.rules.specs.declared.Refusal.{Refusal}
use Rattle.rules.specs.declared.Refusal.TheVariants.{DomainNumberWrong, NotThreeNumbers, ParametersWrong, SampleBeyond, SampleTooFine}
use Rattle.rules.specs.declared.Three.{Three}
use Rattle.rules.proofs.Answers.{checks-is, reads-is}
use Rattle.rules.proofs.Tests.{no-some}
use Rattle.rules.proofs.Reading.Runs.{run-after, run-every, run-append, starts-append, starts_other}
use Rattle.rules.proofs.Reading.Numbers.{Unsigned, assemble-first, digit-no-sign, digits-parts, of-power, of-spells, parts-digits, power-of, sign-on, sign_byte, unsign}
use Rattle.rules.proofs.Reading.Walk.{no-refused}
use Rattle.signature.specs.Before.{bounds_by, form_by, judges_by, line_by, read_by, samples_by, samples_of_by, table_by, three_by}
use Rattle.signature.specs.BarePoints.{BareAmong, BarePoint, Freed, Unformed, Unmoved, line_before, lower_bounds, number_before, numeral_before, pointed_before, read_before, samples, table_before, upper_bounds, without_point}
use Rattle.signature.proofs.Reading.Parts.{read_is}
use Rattle.signature.proofs.Reading.Beside.{Stops, not_earlier}
use Rattle.signature.proofs.Reading.Moved.{OnMarked, SameOrDiffers, lines-moved, table-alike}
use Rattle.std.specs.Prelude.{Err, None, Ok, Option, Some}
use Rattle.rules.specs.declared.NumberFault.TheVariants.{Malformed}
use Rattle.rules.specs.Results.{Content, Number, Read, refused_on}

-- ---- words

-- a word with a bare point is a number now
pub bare-now : (w : List ℕ) (n : Numeral) → BarePoint w n → numeral_of w ≡ Some n
bare-now w n b =
    of-spells w n
    (record {
      sign = b.sign;
      mantissa = n.whole ++ 46 ∷ [];
      power = b.power;
      word = b.word ∙ ap (λ (l : List ℕ). b.sign ++ l) (sym (append_assoc n.whole (46 ∷ []) b.power));
      sign_so = b.sign_so;
      mantissa_so = pointed (ap (λ (f : List ℕ). n.whole ++ 46 ∷ f) (sym b.fraction_so)) (rw (b.fraction_so, append-nil n.whole) b.whole_so);
      power_so = b.power_so;
    })

-- it was none
pub bare-before : (w : List ℕ) (n : Numeral) → BarePoint w n → numeral_before w ≡ None
unfolding numeral_before pointed_before starts
bare-before w n b =
    let x = of-power b.power n.exponent b.power_so in
    let d = digits-parts n.whole b.whole_so in
    let l : List ℕ = n.whole ++ 46 ∷ b.power in
    let s = sign-on n.negative b.sign l b.sign_so (starts_other digit sign_byte digit-no-sign l (starts-append digit n.whole (46 ∷ b.power) d.0)) in
    let r = run-append digit n.whole (46 ∷ b.power) d.1 refl in
    rw (b.word, s.0, s.1, r.0, r.1, x.no_digit) (assemble-first false n.negative n.whole (run digit b.power) (exponent_of (after digit b.power)))

-- it is the same number without its point
pub bare-without : (w : List ℕ) (n : Numeral) (b : BarePoint w n) → numeral_of (without_point w n b) ≡ Some n
bare-without w n b =
    of-spells (without_point w n b) n
    (record {
      sign = b.sign;
      mantissa = n.whole;
      power = b.power;
      word = refl;
      sign_so = b.sign_so;
      mantissa_so = plain refl b.fraction_so b.whole_so;
      power_so = b.power_so;
    })

-- and has its value
pub bare-value : (places limit : ℕ) (w : List ℕ) (n : Numeral) (b : BarePoint w n) → number_of places limit w ≡ number_of places limit (without_point w n b)
unfolding number_of
bare-value places limit w n b = ap (value_of places limit) (bare-now w n b ∙ sym (bare-without w n b))

-- a point with no digit on either side makes no number, whatever follows it
pub lone-point : (negative : Bool) (sign rest : List ℕ) → Sign negative sign → starts digit rest ≡ false → numeral_of (sign ++ 46 ∷ rest) ≡ None
unfolding numeral_of numeral_with run after starts
lone-point negative sign rest s h =
    let k = sign-on negative sign (46 ∷ rest) s refl in
    rw (k.0, k.1, h) (assemble-first false negative [] (run digit rest) (exponent_of (after digit rest)))

-- what follows the whole digits, where it is a bare point and an exponent, if any
record BareTail (whole tail : List ℕ) : Type 0 where
  power : List ℕ
  exponent : Exponent
  tail-so : tail ≡ 46 ∷ power
  whole_so : starts digit whole ≡ true
  power_so : exponent_of power ≡ Some exponent

module _ (negative : Bool) (whole : List ℕ) (b : ℕ) (rest : List ℕ) where
  -- with a point or not, digits before it and after it or not, and an exponent or not: as it was, or a bare point
  abbrev AsItWas : Bool → Bool → Bool → Option Exponent → Type 0
  AsItWas point before after-it x =
      (cond point (assemble after-it negative whole (run digit rest) x) (assemble before negative whole [] (exponent_of (b ∷ rest)))
      ≡ cond point (assemble (before || after-it) negative whole (run digit rest) x) (assemble before negative whole [] (exponent_of (b ∷ rest))))
      ⊎ BareTail whole (b ∷ rest)

  bare-tail : eqb b 46 ≡ true → starts digit whole ≡ true → starts digit rest ≡ false → (x : Option Exponent) → exponent_of (after digit rest) ≡ x → AsItWas true true false x
  unfolding every
  bare-tail e w r None f = inl refl
  bare-tail e w r (Some x) f = inr (record {
    power = rest;
    exponent = x;
    tail-so = ap (λ (c : ℕ). c ∷ rest) (eqb-true b 46 e);
    whole_so = w;
    power_so = ap exponent_of (sym (run-append digit [] rest refl r).1) ∙ f;
  })

  by_digits : eqb b 46 ≡ true → (w : Bool) → starts digit whole ≡ w → (r : Bool) → starts digit rest ≡ r → AsItWas true w r (exponent_of (after digit rest))
  by_digits e true f true g = inl refl
  by_digits e true f false g = bare-tail e f g (exponent_of (after digit rest)) refl
  by_digits e false f true g = inl refl
  by_digits e false f false g = inl refl

  by-point : (t : Bool) → eqb b 46 ≡ t → AsItWas t (starts digit whole) (starts digit rest) (exponent_of (after digit rest))
  by-point true e = by_digits e (starts digit whole) refl (starts digit rest) refl
  by-point false e = inl refl

tail-moved : (negative : Bool) (whole tail : List ℕ) → (pointed_before negative whole tail ≡ numeral_with negative whole tail) ⊎ BareTail whole tail
unfolding pointed_before numeral_with
tail-moved negative whole [] = inl refl
tail-moved negative whole (b ∷ rest) = by-point negative whole b rest (eqb b 46) refl

bare_of : (w : List ℕ) (t : BareTail (run digit (unsigned w)) (after digit (unsigned w)))
    → BarePoint w (record { negative = starts minus_byte w; whole = run digit (unsigned w); fraction = []; exponent = t.exponent })
bare_of w t =
    let u : Unsigned w = unsign w in
    record {
      sign = u.sign;
      power = t.power;
      word = u.word ∙ ap (λ (l : List ℕ). u.sign ++ l) (run-after digit (unsigned w) ∙ ap (λ (l : List ℕ). run digit (unsigned w) ++ l) t.tail-so);
      sign_so = u.sign_so;
      whole_so = parts-digits (run digit (unsigned w)) t.whole_so (run-every digit (unsigned w));
      fraction_so = refl;
      power_so = power-of t.power t.exponent t.power_so;
    }

-- a word says what it said, or has a bare point
pub word_moved : (w : List ℕ) → (numeral_before w ≡ numeral_of w) ⊎ ((n : Numeral) × BarePoint w n)
unfolding numeral_before numeral_of
word_moved w = ⊎_elim inl (λ t. inr (_, bare_of w t)) (tail-moved (starts minus_byte w) (run digit (unsigned w)) (after digit (unsigned w)))

-- every word that was a number is one still, and the same
pub number-still : (w : List ℕ) (n : Numeral) → numeral_before w ≡ Some n → numeral_of w ≡ Some n
number-still w n h = ⊎_elim (λ e. sym e ∙ h) (λ k. absurd (no-some n (sym h ∙ bare-before w k.0 k.1))) (word_moved w)

-- a word that was no number and is one has a bare point
pub newly-number : (w : List ℕ) (n : Numeral) → numeral_before w ≡ None → numeral_of w ≡ Some n → BarePoint w n
newly-number w n h g = ⊎_elim (λ e. absurd (no-some n (sym g ∙ sym e ∙ h))) (λ k. the k (sym (bare-now w k.0 k.1) ∙ g)) (word_moved w)
  where
    the : (k : (m : Numeral) × BarePoint w m) → ◌≡◌ {A = Option Numeral} (Some k.0) (Some n) → BarePoint w n
    the k e = let same : k.0 ≡ n = cc in subst (BarePoint w) same k.1

-- ---- three numbers

abbrev NumberMoved : ℕ → ℕ → List ℕ → Type 0
NumberMoved places limit w = (number_before places limit w ≡ number_of places limit w) ⊎ ((number_before places limit w ≡ (Err Malformed)) × ((n : Numeral) × BarePoint w n))

number-moved : (places limit : ℕ) (w : List ℕ) → NumberMoved places limit w
unfolding number_before number_of
number-moved places limit w =
    ⊎_elim (λ e. inl (ap (value_of places limit) e)) (λ k. inr (ap (value_of places limit) (bare-before w k.0 k.1), k)) (word_moved w)

-- where one of three numbers is malformed, there are not three
second-malformed : (a c : Bool) (t : Option Three) → cond (a && (false && c)) t None ≡ None
second-malformed true c t = refl
second-malformed false c t = refl

third-malformed : (a b : Bool) (t : Option Three) → cond (a && (b && false)) t None ≡ None
third-malformed true true t = refl
third-malformed true false t = refl
third-malformed false b t = refl

abbrev ThreeMoved : ℕ → ℕ → List (List ℕ) → Type 0
ThreeMoved places limit ws = (three_by number_before places limit ws ≡ three_of places limit ws) ⊎ ((three_by number_before places limit ws ≡ None) × BareAmong ws)

three-moved : (places limit : ℕ) (ws : List (List ℕ)) → ThreeMoved places limit ws
unfolding three_by three_of
three-moved places limit [] = inl refl
three-moved places limit (a ∷ []) = inl refl
three-moved places limit (a ∷ b ∷ []) = inl refl
three-moved places limit (a ∷ b ∷ c ∷ d ∷ more) = inl refl
three-moved places limit (a ∷ b ∷ c ∷ []) = by (number-moved places limit a) (number-moved places limit b) (number-moved places limit c)
  where
    old : List ℕ → Number
    old = number_before places limit

    by : NumberMoved places limit a → NumberMoved places limit b → NumberMoved places limit c → ThreeMoved places limit (a ∷ b ∷ c ∷ [])
    by (inl x) (inl y) (inl z) = inl (rw (x, y, z))
    by (inr (x, (n, k))) y z = inr (rw x, record { before = []; word = a; later = b ∷ c ∷ []; parted = refl; numeral = n; bare = k })
    by (inl x) (inr (y, (n, k))) z =
        inr (rw y (second-malformed (formed (old a)) (formed (old c)) _), record { before = a ∷ []; word = b; later = c ∷ []; parted = refl; numeral = n; bare = k })
    by (inl x) (inl y) (inr (z, (n, k))) =
        inr (rw z (third-malformed (formed (old a)) (formed (old b)) _), record { before = a ∷ b ∷ []; word = c; later = []; parted = refl; numeral = n; bare = k })

-- where there are not three, they are refused for their form
values_moved : (unformed beyond finer : Refusal) (places limit : ℕ) (ws : List (List ℕ)) (next : ℤ → ℤ → ℤ → Content)
    → (values unformed beyond finer (three_by number_before places limit ws) next ≡ values unformed beyond finer (three_of places limit ws) next)
    ⊎ ((values unformed beyond finer (three_by number_before places limit ws) next ≡ Err unformed) × BareAmong ws)
values_moved unformed beyond finer places limit ws next =
    let said : Option Three → Content = λ t. values unformed beyond finer t next in
    ⊎_elim (λ e. inl (ap said e)) (λ k. inr (ap said k.0, k.1)) (three-moved places limit ws)

-- ---- a line

-- what is new of it
record Marked (l : List ℕ) (r : Refusal) : Type 0 where
  unformed : Unformed (form_of l) r
  bare : BareAmong (words_of l)

-- a word among the parameters is one among all
among-all : (ws : List (List ℕ)) → BareAmong (parameters ws) → BareAmong ws
unfolding parameters
among-all [] k = k
among-all (w ∷ ws) k =
    record { before = w ∷ k.before; word = k.word; later = k.later; parted = ap (λ (vs : List (List ℕ)). w ∷ vs) k.parted; numeral = k.numeral; bare = k.bare }

module _ (l : List ℕ) where
  abbrev LineMoved : Type 0
  LineMoved = SameOrDiffers line_before Marked l

  -- by its form, where that asks for three numbers
  told : (f : Form) (r : Refusal) (before now : Content) → form_of l ≡ f → Unformed f r → ((p : ℕ) → form_by number_before f p l ≡ before) → ((p : ℕ) → content_by f p l ≡ now)
      → (before ≡ now) ⊎ ((before ≡ Err r) × BareAmong (words_of l)) → LineMoved
  told f r before now e u x y (inl same) = inl (λ p. rw e (x p ∙ same ∙ sym (y p)))
  told f r before now e u x y (inr (wrong, k)) = inr (record { refusal = r; wrong = λ p. rw e (x p ∙ wrong); marked = record { unformed = rw e u; bare = k } })

  bounds-moved : (side : Bounds → Item) → let ws = parameters (words_of l) in (bounds_by number_before side ws ≡ bounds_of side ws) ⊎ ((bounds_by number_before side ws ≡ Err ParametersWrong) × BareAmong (words_of l))
  unfolding bounds_by bounds_of
  bounds-moved side =
      ⊎_elim inl (λ k. inr (k.0, among-all (words_of l) k.1))
      (values_moved ParametersWrong DomainNumberWrong DomainNumberWrong bound_places bound_limit (parameters (words_of l)) (λ x y z. Ok (side (bounds_at x y z))))

  samples-moved : (samples_by number_before (words_of l) ≡ samples_on (words_of l)) ⊎ ((samples_by number_before (words_of l) ≡ Err NotThreeNumbers) × BareAmong (words_of l))
  unfolding samples_by samples_on
  samples-moved = values_moved NotThreeNumbers SampleBeyond SampleTooFine sample_places sample_limit (words_of l) (λ x y z. Ok (OfRow (row_of x y z)))

  line-moved : LineMoved
  unfolding form_by content_by
  line-moved = by (form_of l) refl
    where
      by : (f : Form) → form_of l ≡ f → LineMoved
      by Idle e = inl (λ p. rw e)
      by (Keyed ATitle) e = inl (λ p. rw e)
      by (Keyed ALower) e = told (Keyed ALower) ParametersWrong _ _ e (lower_bounds refl refl) (λ p. refl) (λ p. refl) (bounds-moved OfLower)
      by (Keyed AnUpper) e = told (Keyed AnUpper) ParametersWrong _ _ e (upper_bounds refl refl) (λ p. refl) (λ p. refl) (bounds-moved OfUpper)
      by (Keyed (ASize k)) e = inl (λ p. rw e)
      by Data e = told Data NotThreeNumbers _ _ e (samples refl refl) (λ p. refl) (λ p. refl) samples-moved
      by Neither e = inl (λ p. rw e)

-- ---- a file

abbrev Stopped : List ℕ → ℕ → Type 0
Stopped file places =
    Stops (judges_by head_fault line_before places) (judges_by head_fault content_of places) (OnMarked line_before Marked) 0 0 start (lines_of file)

-- a file is answered as it was, or was refused on a line with a word that is a number now
pub read-moved : (file : List ℕ) (places : ℕ) → Unmoved file places ⊎ Freed file places
unfolding read_by
read-moved file places = by (lines-moved line_before Marked line-moved places file)
  where
    now : read_by head_fault content_of file places ≡ read file places
    now = read_is places file

    freed : (k : Stopped file places) (left : List (List ℕ)) → k.left ≡ left → OnMarked line_before Marked k.state left k.refusal → Freed file places
    freed k [] e marked = absurd marked
    freed k (l ∷ rest) e marked = record {
      before = k.before;
      line = l;
      rest = rest;
      lines_so = rw e at k.lines_so;
      refusal = k.refusal;
      refused = (rw e at k.refused) ∙ ap (refused_on k.refusal) (omega arith);
      unformed = marked.unformed;
      bare = marked.bare;
      not_earlier = λ r n h. omega (arith, rw e at (not_earlier _ _ _ k r n (now ∙ h)));
    }

    by : (read_before file places ≡ read_by head_fault content_of file places) ⊎ Stopped file places → Unmoved file places ⊎ Freed file places
    by (inl same) = inl (record { answer = same ∙ now; table = λ table. table-alike line_before Marked line-moved places file same table ∙ ap (table_after file table) now })
    by (inr k) = inr (freed k k.left refl k.marked)

-- a file that was accepted is accepted still, with the same description and the same table afterwards
pub accepted-still : (file : List ℕ) (places : ℕ) (d : Description) → read_before file places ≡ Ok d
    → (read file places ≡ Ok d) × ((table : List ℤ) → table_before file table (Ok d) ≡ table_after file table (Ok d))
accepted-still file places d h = by (read-moved file places)
  where
    by : Unmoved file places ⊎ Freed file places → (read file places ≡ Ok d) × ((table : List ℤ) → table_before file table (Ok d) ≡ table_after file table (Ok d))
    by (inl k) = let now : read file places ≡ Ok d = sym k.answer ∙ h in (now, rw (h, now) at k.table)
    by (inr k) = absurd (no-refused k.refusal (suc (length k.before)) d (sym k.refused ∙ h))

-- ---- the same of the calls, by their promises

pub reads-moved : (file : List ℕ) (table : List ℤ) (r : Read) (table' : List ℤ) → Reads file table r table'
    → ((r ≡ read_before file (length table)) × (table' ≡ table_before file table (read_before file (length table)))) ⊎ Freed file (length table)
reads-moved file table r table' h =
    let now = reads-is h in
    ⊎_elim (λ k. inl (now.0 ∙ sym k.answer, now.1 ∙ sym (k.table table))) inr (read-moved file (length table))

-- check is reading with room for every table
pub checks-moved : (file : List ℕ) (r : Read) → Checks file r → (r ≡ read_before file place_limit) ⊎ Freed file place_limit
unfolding check
checks-moved file r h = ⊎_elim (λ k. inl (checks-is h ∙ sym k.answer)) inr (read-moved file place_limit)

-- ---- the reading of before differs in its numbers alone: with those of the rules it is reading

three-same : (places limit : ℕ) (ws : List (List ℕ)) → three_by number_of places limit ws ≡ three_of places limit ws
unfolding three_by three_of
three-same places limit [] = refl
three-same places limit (a ∷ []) = refl
three-same places limit (a ∷ b ∷ []) = refl
three-same places limit (a ∷ b ∷ c ∷ []) = refl
three-same places limit (a ∷ b ∷ c ∷ d ∷ more) = refl

form-same : (f : Form) (p : ℕ) (l : List ℕ) → form_by number_of f p l ≡ content_by f p l
unfolding form_by content_by bounds_by bounds_of samples_by samples_on
form-same Idle p l = refl
form-same (Keyed ATitle) p l = refl
form-same (Keyed ALower) p l = rw (three-same bound_places bound_limit (parameters (words_of l)))
form-same (Keyed AnUpper) p l = rw (three-same bound_places bound_limit (parameters (words_of l)))
form-same (Keyed (ASize k)) p l = refl
form-same Data p l = rw (three-same sample_places sample_limit (words_of l))
form-same Neither p l = refl

samples-same : (ls : List (List ℕ)) → samples_of_by (line_by number_of) ls ≡ samples_of ls
unfolding samples_of_by samples_of
samples-same [] = refl
samples-same (l ∷ ls) = ap₂ (λ (c : Content) (vs : List ℤ). samples_in c ++ vs) (form-same (form_of l) 0 l) (samples-same ls)

table_same : (file : List ℕ) (table : List ℤ) (r : Read) → table_by (line_by number_of) file table r ≡ table_after file table r
unfolding table_by table_after
table_same file table (Ok d) = ap (λ (vs : List ℤ). vs ++ drop (3 * rows d) table) (samples-same (lines_of file))
table_same file table (Err x) = refl

pub same-reading : (file : List ℕ) (places : ℕ)
    → (read_by head_fault (line_by number_of) file places ≡ read file places)
    × ((table : List ℤ) → table_by (line_by number_of) file table (read_by head_fault (line_by number_of) file places) ≡ table_after file table (read file places))
same-reading file places = (same, λ table. rw same (table_same file table (read file places)))
  where
    same : read_by head_fault (line_by number_of) file places ≡ read file places
    same = ap (λ (content : ℕ → List ℕ → Content). read_by head_fault content file places) (λ i p l. form-same (form_of l) p l i) ∙ read_is places file
