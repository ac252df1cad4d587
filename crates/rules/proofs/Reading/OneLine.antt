-- What the judge finds in a line is what the property says of it.
use Prim.Native.Nat.{ℕ, suc, ◌+◌, ◌-◌, ◌≤◌}
use mathlib.Core.Path.{◌≡◌, refl, sym, ap, subst, ◌∙◌}
use mathlib.Core.Bool.{Bool, true, false, cond, not, ◌&&◌}
use mathlib.Core.List.{List, [], ◌∷◌, ◌++◌}
use native.Mathlib.Omega.{arith}
use borrow.Author.Tests.{leb-true, le-leb, eqb-true}
use lib.ListN.{length, length-append}
use lib.IntN.{ℤ}
use Rattle.rules.specs.Units.{bound_limit, bound_places, sample_limit, sample_places}
use Rattle.rules.specs.Reading.Lines.{line_limit, hash, number_byte, after, blank, bytes, every, in_title, in_word, permitted, quote, run, starts, words_of}
use Rattle.rules.specs.Reading.Numerals.{Mantissa, Numeral, Sign, Spells, minus, plain, plus, pointed, unwritten}
use Rattle.rules.specs.Reading.Items.{named}
use Rattle.rules.specs.Reading.Grammar.{BoundsLine, IdleLine, Line, Gives, ThreeNumbers, TitleLine, comment, empty}
use Rattle.rules.specs.Reading.Contents.{bounds_at, bounds_of, closes, content_by, content_of, form_of, parameters, quoted, row_of, samples_on, title_of, word_form}
use Rattle.rules.specs.Reading.Judge.{byte_fault}
use Rattle.rules.specs.declared.Form.{Form}
use Rattle.rules.specs.declared.Form.TheVariants.{Idle, Keyed, Data, Neither}
use Rattle.rules.specs.declared.Item.{Item}
use Rattle.rules.specs.declared.Item.TheVariants.{Nothing, OfTitle, OfLower, OfUpper, OfSize, OfRow}
use Rattle.rules.specs.declared.Keyword.{Keyword}
use Rattle.rules.specs.declared.Keyword.TheVariants.{ATitle, ALower, AnUpper, ASize}
use Rattle.rules.specs.declared.Title.{Title}
use Rattle.rules.specs.declared.Bounds.{Bounds}
use Rattle.rules.specs.Results.{Content}
use Rattle.rules.specs.declared.Refusal.TheVariants.{ParametersWrong, DomainNumberWrong, NotThreeNumbers, SampleBeyond, SampleTooFine}
use Rattle.rules.proofs.Tests.{no_true, and_both, need-none, none-need}
use Rattle.rules.proofs.Reading.Runs.{run-after, run-every, run-append, starts_other}
use Rattle.rules.proofs.Reading.Numbers.{digits-parts, number-digit, number-no-hash}
use Rattle.rules.proofs.Reading.Wordings.{words-first, First, first_of, form-words, keyword-form, form-keyword, form-idle}
use Rattle.rules.proofs.Reading.Threes.{no-wrong, values-say, say-values, Sized, size-says, says-size}
use Rattle.rules.proofs.Reading.Walk.{Found}
use Rattle.std.specs.Prelude.{Err, None, Ok}

-- ---- 1 and 2

bytes-pass : (l : List ℕ) → length l ≤ line_limit → every permitted l ≡ true → byte_fault l ≡ None
unfolding byte_fault
bytes-pass l s p = none-need _ _ _ (le-leb (length l) line_limit s) (none-need _ _ _ p refl)

-- ---- TITLE

closes-so : (x : List ℕ) → closes x ≡ true → (trail : List ℕ) × (x ≡ 34 ∷ trail) × (every blank trail ≡ true)
unfolding closes
closes-so [] h = absurd (no_true (sym h))
closes-so (b ∷ trail) h = let e = and_both (quote b) (every blank trail) h in (trail, ap (λ (c : ℕ). c ∷ trail) (eqb-true b 34 e.0), e.1)

record Quoted (end : ℕ) (x : List ℕ) (i : Item) : Type 0 where
  text : List ℕ
  trail : List ℕ
  bytes_so : x ≡ 34 ∷ (text ++ (34 ∷ trail))
  text_so : every in_title text ≡ true
  trail-so : every blank trail ≡ true
  item : i ≡ OfTitle (record { there = true; place = end - (length text + suc (length trail)); length = length text })

quoted-says : (end : ℕ) (x : List ℕ) (i : Item) → quoted end x ≡ Ok i → Quoted end x i
unfolding quoted
quoted-says end [] i h = absurd (no-wrong _ i h)
quoted-says end (b ∷ rest) i h = split (quote b && closes (after in_title rest)) refl h
  where
    split : (t : Bool) → quote b && closes (after in_title rest) ≡ t
        → cond t (Ok (OfTitle (record { there = true; place = end - length rest; length = length (run in_title rest) }))) (Err ParametersWrong) ≡ Ok i → Quoted end (b ∷ rest) i
    split true e g =
        let k = and_both (quote b) (closes (after in_title rest)) e in
        let c = closes-so (after in_title rest) k.1 in
        let r : rest ≡ run in_title rest ++ (34 ∷ c.0) = run-after in_title rest ∙ ap (λ (y : List ℕ). run in_title rest ++ y) c.1 in
        let n : length rest ≡ length (run in_title rest) + suc (length c.0) = ap length r ∙ length-append (run in_title rest) (34 ∷ c.0) in
        record {
          text = run in_title rest;
          trail = c.0;
          bytes_so = ap (λ (a : ℕ). a ∷ rest) (eqb-true b 34 k.0) ∙ ap (λ (y : List ℕ). 34 ∷ y) r;
          text_so = run-every in_title rest;
          trail-so = c.2;
          item = rw (← n) cc;
        }
    split false e g = absurd (no-wrong _ i g)

-- lengths of a title's line
line-length : (lead gap text trail : List ℕ) (l : List ℕ) → l ≡ lead ++ (named ATitle ++ (gap ++ (34 ∷ (text ++ (34 ∷ trail)))))
    → length l ≡ length lead + (length (named ATitle) + (length gap + suc (length text + suc (length trail))))
line-length lead gap text trail l e =
    ap length e ∙ length-append lead _
    ∙ ap (λ (n : ℕ). length lead + n) (simp (length-append) (omega arith))

no_gap : (x y : List ℕ) → x ≡ run blank x ++ (34 ∷ y) → starts in_word x ≡ false → 1 ≤ length (run blank x)
unfolding starts
no_gap x y e s = split (run blank x) refl
  where
    split : (g : List ℕ) → run blank x ≡ g → 1 ≤ length (run blank x)
    split [] f = absurd (no_true (sym (ap (starts in_word) (e ∙ ap (λ (g : List ℕ). g ++ (34 ∷ y)) f)) ∙ s))
    split (b ∷ g) f = rw f (omega arith)

title-says : (p : ℕ) (l : List ℕ) (ws : List (List ℕ)) (i : Item) → words_of l ≡ named ATitle ∷ ws → title_of p l ≡ Ok i → (t : Title) × (i ≡ OfTitle t) × TitleLine p l t
unfolding title_of
title-says p l ws i h g =
    let f : First l (named ATitle) ws = first_of l (named ATitle) ws h in
    let q : Quoted (p + length l) (after blank f.rest) i = quoted-says (p + length l) (after blank f.rest) i (rw f.rest-so g) in
    let r : f.rest ≡ run blank f.rest ++ (34 ∷ (q.text ++ (34 ∷ q.trail))) = run-after blank f.rest ∙ ap (λ (y : List ℕ). run blank f.rest ++ y) q.bytes_so in
    let e : l ≡ run blank l ++ (named ATitle ++ (run blank f.rest ++ (34 ∷ (q.text ++ (34 ∷ q.trail))))) =
    f.line ∙ ap (λ (y : List ℕ). run blank l ++ (named ATitle ++ y)) r in
    let n : p + length l - (length q.text + suc (length q.trail)) ≡ p + length (run blank l) + length (named ATitle) + length (run blank f.rest) + 1 =
    omega (arith, line-length (run blank l) (run blank f.rest) q.text q.trail l e) in (
      record { there = true; place = p + length (run blank l) + length (named ATitle) + length (run blank f.rest) + 1; length = length q.text },
      rw (← n) q.item,
      record {
        lead = run blank l;
        gap = run blank f.rest;
        text = q.text;
        trail = q.trail;
        line = e;
        lead_blank = run-every blank l;
        gap_blank = run-every blank f.rest;
        gap_there = no_gap f.rest (q.text ++ (34 ∷ q.trail)) r f.stops;
        text_so = q.text_so;
        trail_blank = q.trail-so;
        title_so = refl;
      },
    )

gap-stops : (gap y : List ℕ) → 1 ≤ length gap → every blank gap ≡ true → starts in_word (gap ++ y) ≡ false
unfolding starts every
gap-stops [] y h e = absurd (omega arith)
gap-stops (b ∷ gap) y h e = ap not (and_both (blank b) (every blank gap) e).0

says-title : (p : ℕ) (l : List ℕ) (t : Title) → TitleLine p l t → (form_of l ≡ Keyed ATitle) × (title_of p l ≡ Ok (OfTitle t))
unfolding title_of quoted closes bytes starts every
says-title p l t h =
    let y : List ℕ = h.text ++ (34 ∷ h.trail) in
    let rest : List ℕ = h.gap ++ (34 ∷ y) in
    let w : List ℕ = named ATitle in
    let s : starts in_word rest ≡ false = gap-stops h.gap (34 ∷ y) h.gap_there h.gap_blank in
    let words : words_of l ≡ w ∷ words_of rest = ap words_of h.line ∙ words-first h.lead w rest h.lead_blank refl refl s in
    let a : after blank l ≡ w ++ rest = ap (after blank) h.line ∙ (run-append blank h.lead (w ++ rest) h.lead_blank refl).1 in
    let b : after in_word (after blank l) ≡ rest = ap (after in_word) a ∙ (run-append in_word w rest refl s).1 in
    let c : after blank (after in_word (after blank l)) ≡ 34 ∷ y = ap (after blank) b ∙ (run-append blank h.gap (34 ∷ y) h.gap_blank refl).1 in
    let d = run-append in_title h.text (34 ∷ h.trail) h.text_so refl in
    let n : p + length l - length y ≡ p + length h.lead + length (named ATitle) + length h.gap + 1 =
    omega (arith, line-length h.lead h.gap h.text h.trail l h.line, length-append h.text (34 ∷ h.trail)) in
    (keyword-form l ATitle (words_of rest) words, rw (c, d.0, d.1, h.trail_blank, n, h.title_so))

-- ---- a number's first byte

mantissa-starts : (m whole fraction p : List ℕ) → Mantissa m whole fraction → starts number_byte (m ++ p) ≡ true
unfolding starts every
mantissa-starts m [] fraction p (plain e f d) = absurd (no_true (sym (digits-parts [] d).0))
mantissa-starts m (b ∷ whole) fraction p (plain e f d) = rw e (number-digit b (digits-parts (b ∷ whole) d).0)
mantissa-starts m [] fraction p (pointed e d) = rw e
mantissa-starts m (b ∷ whole) fraction p (pointed e d) = rw e (number-digit b (digits-parts (b ∷ (whole ++ fraction)) d).0)

-- a word that spells a number starts with a byte of one
pub spells-starts : (w : List ℕ) (n : Numeral) → Spells w n → starts number_byte w ≡ true
unfolding starts
spells-starts w n h = rw h.word (signs h.sign_so)
  where
    signs : Sign n.negative h.sign → starts number_byte (h.sign ++ (h.mantissa ++ h.power)) ≡ true
    signs (unwritten e f) = rw e (mantissa-starts h.mantissa n.whole n.fraction h.power h.mantissa_so)
    signs (plus e f) = rw e
    signs (minus e f) = rw e

row-form : (l : List ℕ) (x y z : ℤ) → ThreeNumbers sample_places sample_limit (words_of l) x y z → form_of l ≡ Data
unfolding word_form
row-form l x y z h =
    let s : starts number_byte h.a ≡ true = spells-starts h.a h.red.numeral h.red.spelt in
    form-words l h.a (h.b ∷ h.c ∷ []) h.words (starts_other number_byte hash number-no-hash h.a s) ∙ rw s

-- ---- a line's own law, both ways

says-bounds : (side : Bounds → Item) (b : Bounds) (ws : List (List ℕ)) → ThreeNumbers bound_places bound_limit ws b.red.0 b.green.0 b.blue.0
    → bounds_of side ws ≡ Ok (side b)
unfolding bounds_of
says-bounds side b ws h = say-values ParametersWrong DomainNumberWrong DomainNumberWrong bound_places bound_limit (λ x y z. Ok (side (bounds_at x y z))) ws _ _ _ h

pub found : (p : ℕ) (l : List ℕ) (i : Item) → Line p l i → Found p l i
unfolding form_of content_by parameters samples_on
found p l Nothing h = record { bytes-pass = bytes-pass l h.short h.permitted_so; form = form h.gives; content = refl }
  where
    form : IdleLine l → form_of l ≡ Idle
    form (empty e) = rw e
    form (comment text e) = rw e
found p l (OfTitle t) h =
    let k = says-title p l t h.gives in
    record { bytes-pass = bytes-pass l h.short h.permitted_so; form = k.0; content = k.1 }
found p l (OfLower b) h = record {
  bytes-pass = bytes-pass l h.short h.permitted_so;
  form = keyword-form l ALower h.gives.parameters h.gives.words;
  content = rw h.gives.words (says-bounds OfLower b h.gives.parameters h.gives.numbers);
}
found p l (OfUpper b) h = record {
  bytes-pass = bytes-pass l h.short h.permitted_so;
  form = keyword-form l AnUpper h.gives.parameters h.gives.words;
  content = rw h.gives.words (says-bounds OfUpper b h.gives.parameters h.gives.numbers);
}
found p l (OfSize s) h = record {
  bytes-pass = bytes-pass l h.short h.permitted_so;
  form = keyword-form l (ASize s.kind) (h.gives.word ∷ []) h.gives.words;
  content = rw (h.gives.words, says-size s.kind h.gives.word h.gives.digits_so (rw h.gives.n_so at h.gives.range), ← h.gives.n_so);
}
found p l (OfRow r) h = record {
  bytes-pass = bytes-pass l h.short h.permitted_so;
  form = row-form l _ _ _ h.gives;
  content = say-values NotThreeNumbers SampleBeyond SampleTooFine sample_places sample_limit (λ x y z. Ok (OfRow (row_of x y z))) (words_of l) _ _ _ h.gives;
}

idle-line : (l : List ℕ) → form_of l ≡ Idle → IdleLine l
idle-line [] h = empty refl
idle-line (b ∷ rest) h = comment rest (ap (λ (c : ℕ). c ∷ rest) (form-idle b rest h))

says-item : (i j : Item) → ◌≡◌ {A = Content} (Ok i) (Ok j) → i ≡ j
says-item i j h = cc

bounds-say : (side : Bounds → Item) (l : List ℕ) (k : Keyword) (ws : List (List ℕ)) (i : Item) → words_of l ≡ named k ∷ ws → bounds_of side (parameters (words_of l)) ≡ Ok i
    → (b : Bounds) × (side b ≡ i) × BoundsLine k l b
unfolding bounds_of parameters
bounds-say side l k ws i h g =
    let t = values-say ParametersWrong DomainNumberWrong DomainNumberWrong bound_places bound_limit (λ x y z. Ok (side (bounds_at x y z))) ws i (rw h at g) in
    (bounds_at t.x t.y t.z, says-item _ i t.said, record { parameters = ws; words = h; numbers = t.numbers })

speaks : (p : ℕ) (l : List ℕ) (i : Item) (f : Form) → form_of l ≡ f → content_by f p l ≡ Ok i → Gives p l i
unfolding content_by samples_on parameters
speaks p l i Idle e h = subst (λ (j : Item). Gives p l j) (says-item Nothing i h) (idle-line l e)
speaks p l i (Keyed ATitle) e h =
    let k = form-keyword l ATitle e in
    let t = title-says p l k.0 i k.1 h in
    subst (λ (j : Item). Gives p l j) (sym t.1) t.2
speaks p l i (Keyed ALower) e h =
    let k = form-keyword l ALower e in
    let t = bounds-say OfLower l ALower k.0 i k.1 h in
    subst (λ (j : Item). Gives p l j) t.1 t.2
speaks p l i (Keyed AnUpper) e h =
    let k = form-keyword l AnUpper e in
    let t = bounds-say OfUpper l AnUpper k.0 i k.1 h in
    subst (λ (j : Item). Gives p l j) t.1 t.2
speaks p l i (Keyed (ASize kind)) e h =
    let k = form-keyword l (ASize kind) e in
    let t : Sized kind k.0 i = size-says kind k.0 i (rw k.1 at h) in
    subst (λ (j : Item). Gives p l j) (sym t.item)
    (record {
      word = t.word;
      words = k.1 ∙ ap (λ (ws : List (List ℕ)). named (ASize kind) ∷ ws) t.words;
      digits_so = t.digits_so;
      n_so = refl;
      range = t.range;
    })
speaks p l i Data e h =
    let t = values-say NotThreeNumbers SampleBeyond SampleTooFine sample_places sample_limit (λ x y z. Ok (OfRow (row_of x y z))) (words_of l) i h in
    subst (λ (j : Item). Gives p l j) (says-item _ i t.said) t.numbers
speaks p l i Neither e h = absurd (no-wrong _ i h)

pub find : (p : ℕ) (l : List ℕ) (i : Item) → byte_fault l ≡ None → content_of p l ≡ Ok i → Line p l i
unfolding byte_fault
find p l i b c =
    let a = need-none _ _ _ b in
    record {
      short = leb-true (length l) line_limit a.0;
      permitted_so = (need-none _ _ _ a.1).0;
      gives = speaks p l i (form_of l) refl c;
    }
