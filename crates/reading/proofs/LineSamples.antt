-- The samples of a line: the three numbers of a data line's row, and none of a line of any other form.
use Prim.Native.Nat.{ℕ}
use mathlib.Core.Path.{◌≡◌, refl, sym, ap, ◌∙◌}
use mathlib.Core.List.{List, [], ◌∷◌, append-nil, flatten, map}
use Rattle.std.specs.Prelude.{Result, Ok, Err}
use Rattle.rules.specs.Reading.Lines.{words_of}
use Rattle.rules.specs.Reading.Items.{numbers_of, row_in}
use Rattle.rules.specs.Reading.Grammar.{Line, gather, put}
use Rattle.rules.specs.Reading.Contents.{content_by, content_of, form_of, samples_on}
use Rattle.rules.specs.Reading.{samples_in, samples_of}
use Rattle.rules.specs.declared.Form.{Form}
use Rattle.rules.specs.declared.Form.TheVariants.{Data}
use Rattle.rules.specs.declared.Item.{Item}
use Rattle.rules.specs.declared.Item.TheVariants.{Nothing, OfTitle, OfLower, OfUpper, OfSize, OfRow}
use Rattle.rules.specs.declared.Refusal.{Refusal}
use Rattle.rules.specs.declared.Row.{Row}
use Rattle.rules.proofs.Reading.Acceptance.{lines-samples}
use Rattle.rules.proofs.Reading.OneLine.{found}
use Rattle.rules.proofs.Reading.Order.{form_for}
use Rattle.std.specs.Result.{result_map_both}
use Rattle.reading.specs.Tables.{LineKeeps}
use Rattle.rules.specs.Results.{Content}

-- the samples of a line that gives an item are those of its row, if it is one
item-samples : (p : ℕ) (l : List ℕ) (i : Item) → Line p l i → samples_in (content_of 0 l) ≡ flatten (map numbers_of (put (row_in i) []))
unfolding samples_of gather
item-samples p l i h = sym (append-nil (samples_in (content_of 0 l))) ∙ lines-samples p (l ∷ []) (i ∷ []) (h, tt)

pub plain-samples : (l : List ℕ) (r : Row) → Line 0 l (OfRow r) → samples_in (content_of 0 l) ≡ numbers_of r
unfolding flatten
plain-samples l r h = item-samples 0 l (OfRow r) h

no_row : (i : Item) → (form_for i ≡ Data → ⊥) → flatten (map numbers_of (put (row_in i) [])) ≡ []
unfolding flatten
no_row Nothing h = refl
no_row (OfTitle t) h = refl
no_row (OfLower b) h = refl
no_row (OfUpper b) h = refl
no_row (OfSize s) h = refl
no_row (OfRow r) h = absurd (h refl)

-- a line whose form is not data has none
pub no-samples : {l : List ℕ} → LineKeeps l → (form_of l ≡ Data → ⊥) → samples_in (content_of 0 l) ≡ []
no-samples {l} k h =
    item-samples k.place l k.item k.line ∙ no_row k.item (λ e. h ((found k.place l k.item k.line).form ∙ e))

-- what a row found says
abbrev row-said : Result Row Refusal → Content
row-said answer = result_map_both OfRow (λ r. r) answer

module _ (l : List ℕ) (answer : Result Row Refusal) (data-line : form_of l ≡ Data) (says : result_map_both OfRow (λ r. r) answer ≡ samples_on (words_of l)) where
  data-samples : samples_in (content_of 0 l) ≡ samples_in (row-said answer)
  unfolding content_by
  data-samples = ap (λ (f : Form). samples_in (content_by f 0 l)) data-line ∙ ap samples_in (sym says)

  pub row-samples : (r : Row) → answer ≡ Ok r → samples_in (content_of 0 l) ≡ numbers_of r
  unfolding samples_in
  row-samples r e = data-samples ∙ ap (λ (a : Result Row Refusal). samples_in (row-said a)) e

  pub wrong-samples : (r : Refusal) → answer ≡ Err r → samples_in (content_of 0 l) ≡ []
  unfolding samples_in
  wrong-samples r e = data-samples ∙ ap (λ (a : Result Row Refusal). samples_in (row-said a)) e
