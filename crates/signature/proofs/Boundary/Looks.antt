-- The demands, of `erythmoda_look` itself: what its number says of the memory that it was lent.
use Prim.Native.Nat.{ℕ}
use mathlib.Core.Path.{◌≡◌, refl, sym, ap, ◌∙◌}
use mathlib.Core.List.{List, map}
use lib.IntN.{ℤ, pos}
use lib.ListN.{replicate}
use Rattle.rules.specs.Units.{depths_of, raw_m}
use Rattle.rules.specs.Looking.{look}
use Rattle.rules.specs.Answers.{look_number, codes_of, shares_of, look_codes, look_rows, look_weights}
use Rattle.rules.specs.Boundary.{described_in, pixel_in, look_in, LooksC}
use Rattle.rules.specs.Demands.{LookRight}
use Rattle.rules.specs.declared.Codes.{Codes}
use Rattle.rules.specs.declared.Colour.{Colour}
use Rattle.rules.specs.declared.Bits.{Bits}
use Rattle.rules.specs.declared.Depths.{Depths}
use Rattle.rules.specs.declared.Description.{Description}
use Rattle.rules.specs.declared.Refusal.TheVariants.{CouldNotBeRead}
use Rattle.rules.specs.declared.Share.{Share}
use Rattle.rules.specs.declared.Shares.{Shares}
use Rattle.rules.proofs.Answers.{refused-not-0, is-looks}
use Rattle.rules.proofs.Boundary.Described.{called-described, given}
use Rattle.rules.proofs.Looking.Demand3.{looks-right}
use Rattle.signature.specs.Beyond.{AlikePixels}
use Rattle.signature.proofs.Looking.DomainEnds.{beyond-alike}
use Rattle.std.specs.Prelude.{Err, Ok, Some}
use Rattle.rules.specs.Results.{Look}

-- what acceptance says: the codes, rows and weights are right
pub record LookAccepted (eleven table : List ℤ) (bits : Bits) (pixel codes' rows' : List ℕ) (weights' : List ℤ) : Type 0 where
  pub d : Description
  pub described : described_in eleven ≡ Some d
  pub depths : Depths
  pub known : depths_of bits ≡ Some depths
  pub codes : Codes
  pub shares : Shares
  pub codes_so : codes' ≡ codes_of codes
  pub rows_so : rows' ≡ map (λ (s : Share). s.row) (shares_of shares)
  pub weights_so : weights' ≡ map (λ (s : Share). s.weight) (shares_of shares)
  pub all_right : (c : Colour) → LookRight d table depths (pixel_in pixel) codes shares c

module _
    {eleven table : List ℤ} {bits : Bits} {pixel : List ℕ} {number : ℕ} {codes' rows' : List ℕ} {weights' : List ℤ}
    (h : LooksC eleven table bits pixel number codes' rows' weights')
  where
    -- a refusal writes zeros
    pub look-refused : (number ≡ 0 → ⊥) → (codes' ≡ replicate 3 0) × (rows' ≡ replicate 6 0) × (weights' ≡ replicate 6 (pos 0))
    look-refused not-0 = by (look_in eleven table bits (pixel_in pixel)) h.number_so h.codes_so h.rows_so h.weights_so
      where
        by : (r : Look) → number ≡ look_number r → codes' ≡ look_codes r → rows' ≡ look_rows r → weights' ≡ look_weights r
            → (codes' ≡ replicate 3 0) × (rows' ≡ replicate 6 0) × (weights' ≡ replicate 6 (pos 0))
        by (Ok x) n codes rows weights = absurd (not-0 n)
        by (Err r) n codes rows weights = (codes, rows, weights)

    pub look-accepted : number ≡ 0 → LookAccepted eleven table bits pixel codes' rows' weights'
    look-accepted z =
        let g = given {call = λ d. look d table bits (pixel_in pixel)} eleven (λ a. look_number a ≡ 0) (refused-not-0 CouldNotBeRead) (sym h.number_so ∙ z) in
        let a = looks-right {r = look g.d table bits (pixel_in pixel)} (is-looks refl) (sym (h.number_so ∙ ap look_number g.answer-so) ∙ z) in
        let so = g.answer-so ∙ a.accepted in
        record {
          d = g.d;
          described = g.described;
          depths = a.depths;
          known = a.known;
          codes = a.codes;
          shares = a.shares;
          codes_so = h.codes_so ∙ ap look_codes so;
          rows_so = h.rows_so ∙ ap look_rows so;
          weights_so = h.weights_so ∙ ap look_weights so;
          all_right = a.all_right;
        }

-- two pixels within the depth that are alike in each colour have the same number, codes, rows and weights
pub looks-c-alike : {eleven table v w : List ℤ} {bits : Bits} {d : Description} {depths : Depths} {m n : ℕ} {pixel other a b r s : List ℕ}
    → described_in eleven ≡ Some d → depths_of bits ≡ Some depths → AlikePixels (raw_m depths) d (pixel_in pixel) (pixel_in other)
    → LooksC eleven table bits pixel m a r v → LooksC eleven table bits other n b s w → (m ≡ n) × (a ≡ b) × (r ≡ s) × (v ≡ w)
looks-c-alike {eleven} {table} {bits = bits} {d} {pixel = pixel} {other} described known alike p q =
    let at : (x : Codes) → look_in eleven table bits x ≡ look d table bits x = λ x. called-described _ (λ d. look d table bits x) eleven described in
    let e = at (pixel_in pixel) ∙ beyond-alike d table bits known alike ∙ sym (at (pixel_in other)) in (
      p.number_so ∙ ap look_number e ∙ sym q.number_so,
      p.codes_so ∙ ap look_codes e ∙ sym q.codes_so,
      p.rows_so ∙ ap look_rows e ∙ sym q.rows_so,
      p.weights_so ∙ ap look_weights e ∙ sym q.weights_so,
    )
