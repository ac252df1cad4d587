-- A file is accepted with a description and samples exactly where it keeps the specification with them.
use Prim.Native.Nat.{ℕ, ◌+◌, ◌*◌, ◌≤◌}
use mathlib.Core.Path.{◌≡◌, refl, sym, ap, subst, ◌∙◌}
use mathlib.Core.Logic.{◌↔◌}
use mathlib.Core.Bool.{Bool, true, false, cond, ◌&&◌}
use mathlib.Core.List.{List, [], ◌∷◌, ◌++◌, map, flatten}
use native.Mathlib.Omega.{arith}
use borrow.Author.Tests.{leb-true, le-leb}
use lib.ListN.{length}
use lib.IntN.{ℤ}
use Rattle.rules.specs.Descriptions.{every_colour, ordered, narrow, agree, roomy, description, highest, lowest, no_title, rows}
use Rattle.rules.specs.Reading.Lines.{after, blank, in_title, in_word, lines_of, quote}
use Rattle.rules.specs.Reading.Items.{lower_in, numbers_of, row_in, size_in, title_in, upper_in}
use Rattle.rules.specs.Reading.Grammar.{Keeps, Lines, gather, lowers, put, uppers}
use Rattle.rules.specs.Reading.Contents.{closes, content_by, content_of, quoted, title_of}
use Rattle.rules.specs.Reading.Judge.{State, describe, domain_fault, end_fault, given, no_size, given_or, start, together}
use Rattle.rules.specs.Reading.{read, samples_in, samples_of}
use Rattle.rules.specs.declared.Item.{Item}
use Rattle.rules.specs.declared.Item.TheVariants.{Nothing, OfTitle, OfLower, OfUpper, OfSize, OfRow}
use Rattle.rules.specs.declared.Description.{Description}
use Rattle.rules.specs.declared.Title.{Title}
use Rattle.rules.specs.declared.Size.{Size}
use Rattle.rules.specs.declared.Row.{Row}
use Rattle.rules.specs.declared.Refusal.TheVariants.{ParametersWrong}
use Rattle.rules.proofs.Tests.{no-some, no_true, need-none, none-need, first-none, none_first}
use Rattle.rules.proofs.Reading.Order.{Admitted, final, Once, given-once, once-given, fields-items, items-fields, Due, told, admitted-due, HeadOk, Inv, head_ok, ok-head, inv-final, rows-final, due-admitted, due-final}
use Rattle.rules.proofs.Reading.Walk.{Found, Walked, walked, walk}
use Rattle.rules.proofs.Reading.OneLine.{find, found}
use Rattle.std.specs.Prelude.{Err, None, Ok, Option, Some}

-- ---- the samples of lines are those of their rows

quoted-none : (end : ℕ) (x : List ℕ) → samples_in (quoted end x) ≡ []
unfolding samples_in quoted
quoted-none end [] = refl
quoted-none end (b ∷ rest) = split (quote b && closes (after in_title rest)) _
  where
    split : (t : Bool) (i : Title) → samples_in (cond t (Ok (OfTitle i)) (Err ParametersWrong)) ≡ []
    split true i = refl
    split false i = refl

line-samples : (p : ℕ) (l : List ℕ) (i : Item) → Found p l i → samples_in (content_of 0 l) ≡ flatten (map numbers_of (put (row_in i) []))
unfolding samples_in content_by flatten title_of
line-samples p l Nothing f = rw f.form
line-samples p l (OfTitle t) f = rw f.form (quoted-none (0 + length l) (after blank (after in_word (after blank l))))
line-samples p l (OfLower b) f = rw (f.form, f.content)
line-samples p l (OfUpper b) f = rw (f.form, f.content)
line-samples p l (OfSize s) f = rw (f.form, f.content)
line-samples p l (OfRow r) f = rw (f.form, f.content)

put-samples : (o : Option Row) (rs : List Row) → flatten (map numbers_of (put o rs)) ≡ flatten (map numbers_of (put o [])) ++ flatten (map numbers_of rs)
unfolding flatten
put-samples None rs = refl
put-samples (Some r) rs = refl

pub lines-samples : (p : ℕ) (ls : List (List ℕ)) (is : List Item) → Lines p ls is → samples_of ls ≡ flatten (map numbers_of (gather row_in is))
unfolding samples_of gather flatten
lines-samples p [] [] h = refl
lines-samples p [] (i ∷ is) h = absurd h
lines-samples p (l ∷ ls) [] h = absurd h
lines-samples p (l ∷ ls) (i ∷ is) h =
    rw (line-samples p l i (found p l i h.0), lines-samples (p + length l + 1) ls is h.1) (sym (put-samples (row_in i) (gather row_in is)))

-- ---- 10 to 13 pass where the rules on the domains are kept and the table is long enough

abbrev HeadPasses : ℕ → Description → Type 0
HeadPasses places d = ((every_colour ordered d ≡ true) × (every_colour narrow d ≡ true)) × ((agree d.kind d ≡ true) × (3 * rows d ≤ places))

no-fault : (places : ℕ) (d : Description) → domain_fault places d ≡ None → HeadPasses places d
unfolding domain_fault roomy
no-fault places d h =
    let a = need-none _ _ _ h in
    let b = need-none _ _ _ a.1 in
    let c = need-none _ _ _ b.1 in
    ((a.0, b.0), (c.0, leb-true _ _ (need-none _ _ _ c.1).0))

without-fault : (places : ℕ) (d : Description) → HeadPasses places d → domain_fault places d ≡ None
unfolding domain_fault roomy
without-fault places d s =
    none-need _ _ _ s.0.0 (none-need _ _ _ s.0.1 (none-need _ _ _ s.1.0 (none-need _ _ _ (le-leb _ _ s.1.1) refl)))

-- ---- accepted, so it keeps

once-one : {A : Type 0} (default : A) (xs : List A) (o : Option A) → Once None xs o → given o ≡ true → xs ≡ given_or default o ∷ []
once-one default [] o h g = absurd (no_true (sym (ap given (sym h) ∙ g)))
once-one default (a ∷ []) o h g = rw h.1
once-one default (a ∷ b ∷ more) o h g = absurd (no-some a h.1.0)

module _ (file : List ℕ) (places : ℕ) where
  keeps-described : (d : Description) → Walked find found places 0 start (lines_of file) d → Keeps file places d (samples_of (lines_of file))
  unfolding end_fault describe
  keeps-described d w =
      let is : List Item = w.items in
      let end : State = final start is in
      let due = admitted-due places start is w.admitted in
      let inv : Inv places end = inv-final places start is w.admitted (record { head = λ p. absurd (omega arith); count = omega arith }) in
      let e = first-none _ _ w.ended in
      let ok : HeadOk places end = head_ok places end e.0 inv.head in
      let full : rows (describe end) ≤ end.rows = leb-true _ _ (need-none _ _ _ e.1).0 in
      let sound = no-fault places (describe end) ok.sound in
      subst (λ (x : Description). Keeps file places x (samples_of (lines_of file))) (sym w.described)
      (record {
        items = is;
        lines = w.lines;
        order = due.order;
        title = given-once no_title (gather title_in is) end.title due.title;
        lower = given-once lowest (gather lower_in is) end.lower due.lower;
        upper = given-once highest (gather upper_in is) end.upper due.upper;
        size = once-one no_size (gather size_in is) end.size due.size ok.sized;
        domain = fields-items (gather lower_in is) (gather upper_in is) end.lower end.upper due.lower due.upper ok.whole;
        ordered_so = sound.0.0;
        narrow_so = sound.0.1;
        agree_so = sound.1.0;
        room = sound.1.1;
        count = omega (arith, rows-final start is, inv.count);
        values = lines-samples 0 (lines_of file) is w.lines;
      })

  pub accepted-keeps : (d : Description) → read file places ≡ Ok d → Keeps file places d (samples_of (lines_of file))
  unfolding read
  accepted-keeps d h = keeps-described d (walked find found places 0 0 start (lines_of file) d h)

  -- ---- it keeps, so it is accepted

  one-once : {A : Type 0} (xs : List A) (a : A) → xs ≡ a ∷ [] → Once None xs (Some a)
  one-once xs a e = rw e (refl, refl)

  pub keeps-accepted : (d : Description) (samples : List ℤ) → Keeps file places d samples → (read file places ≡ Ok d) × (samples_of (lines_of file) ≡ samples)
  unfolding read end_fault
  keeps-accepted d samples k =
      let is : List Item = k.items in
      let end : State = final start is in
      let t = once-given no_title (gather title_in is) d.title k.title in
      let lo = once-given lowest (gather lower_in is) (lowers d) k.lower in
      let up = once-given highest (gather upper_in is) (uppers d) k.upper in
      let s : Size = record { kind = d.kind; n = d.n } in
      let same : d ≡ told t.0 lo.0 up.0 (Some s) = λ i. description (t.2 i) (lo.2 i) (up.2 i) s in
      let due : Due places start is t.0 lo.0 up.0 (Some s) = record {
        late = λ p. absurd (omega arith);
        order = k.order;
        title = t.1;
        lower = lo.1;
        upper = up.1;
        size = one-once (gather size_in is) s k.size;
      } in
      let whole : together lo.0 up.0 ≡ true = items-fields (gather lower_in is) (gather upper_in is) lo.0 up.0 lo.1 up.1 k.domain in
      let sound : domain_fault places (told t.0 lo.0 up.0 (Some s)) ≡ None = rw same at (without-fault places d ((k.ordered_so, k.narrow_so), (k.agree_so, k.room))) in
      let n : start.rows + length (gather row_in is) ≡ rows (told t.0 lo.0 up.0 (Some s)) = omega (arith, k.count) in
      let admitted : Admitted places start is = due-admitted places t.0 lo.0 up.0 (Some s) refl whole sound start is due n in
      let f = due-final places t.0 lo.0 up.0 (Some s) refl whole sound start is due in
      let full : rows (describe end) ≤ end.rows = rw f.0 (omega (arith, rows-final start is, n)) in
      let ended : end_fault places end ≡ None = none_first _ _ (ok-head places end f.1) (none-need _ _ _ (le-leb (rows (describe end)) end.rows full) refl) in
      (walk find found places 0 0 start (lines_of file) is k.lines admitted ended ∙ ap Ok (f.0 ∙ sym same), lines-samples 0 (lines_of file) is k.lines ∙ sym k.values)

  -- acceptance is the grammar
  pub acceptance : (d : Description) (samples : List ℤ) → ((read file places ≡ Ok d) × (samples_of (lines_of file) ≡ samples)) ↔ Keeps file places d samples
  acceptance d samples = (λ h. subst (λ (x : List ℤ). Keeps file places d x) h.1 (accepted-keeps d h.0), keeps-accepted d samples)

  -- a file keeps the specification in one way
  pub keeps-one : (d e : Description) (s t : List ℤ) → Keeps file places d s → Keeps file places e t → (d ≡ e) × (s ≡ t)
  keeps-one d e s t h k =
      let a = keeps-accepted d s h in
      let b = keeps-accepted e t k in
      let q : Ok d ≡ Ok e = sym a.0 ∙ b.0 in
      (cc, sym a.1 ∙ b.1)

-- ---- three numbers a row

pub samples-length : (rs : List Row) → length (flatten (map numbers_of rs)) ≡ 3 * length rs
unfolding flatten
samples-length [] = refl
samples-length (r ∷ rs) = omega (arith, samples-length rs)

pub keeps-length : (file : List ℕ) (places : ℕ) (d : Description) (samples : List ℤ) → Keeps file places d samples → length samples ≡ 3 * rows d
keeps-length file places d samples k = ap length k.values ∙ samples-length (gather row_in k.items) ∙ ap (λ (n : ℕ). 3 * n) k.count
