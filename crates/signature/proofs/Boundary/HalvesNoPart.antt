-- What plays no part in `erythmoda_rows` and `erythmoda_codes`: in both table places past 3·rows, in the first the samples of a table that could be read, and in
-- the second, of a 3D table, the last two rows and weights.
use Prim.Native.Nat.{ℕ, ◌*◌, ◌<◌}
use mathlib.Core.Path.{◌≡◌, sym, ap, ◌∙◌}
use mathlib.Core.Bool.{true}
use mathlib.Core.List.{List}
use native.Mathlib.Omega.{arith}
use lib.IntN.{ℤ, pos}
use lib.ListN.{take, get_or}
use lib.Seq.{get_or-take}
use Rattle.rules.specs.Descriptions.{could_be_read, rows}
use Rattle.rules.specs.Looking.{first_half, second_half}
use Rattle.rules.specs.Answers.{first_number, first_rows, first_weights, second_number, second_codes}
use Rattle.rules.specs.Boundary.{number_at, described_in, pixel_in, share_in, shares_in, first_in, second_in, FindsRowsC, GivesCodesC}
use Rattle.rules.specs.declared.Bits.{Bits}
use Rattle.rules.specs.declared.Description.{Description}
use Rattle.rules.specs.declared.Kind.TheVariants.{ThreeD}
use Rattle.signature.proofs.Looking.HalvesNoPart.{SameFour, samples-no-part, last-two-no-part, later_first, later_second}
use Rattle.signature.proofs.Boundary.Crossing.{kind_at, kind-given}
use Rattle.signature.proofs.Boundary.NoPart.{same-of-both}
use Rattle.std.specs.Prelude.{Some}

-- ---- what keeps the promise of one input keeps that of another with the same answer, by the description that eleven numbers give

same-finds-c : {eleven table table₂ : List ℤ} {raw : ℕ} {pixel : List ℕ} {number : ℕ} {rows' : List ℕ} {weights' : List ℤ}
    → ((d : Description) → described_in eleven ≡ Some d → first_half d table raw (pixel_in pixel) ≡ first_half d table₂ raw (pixel_in pixel))
    → FindsRowsC eleven table raw pixel number rows' weights' → FindsRowsC eleven table₂ raw pixel number rows' weights'
same-finds-c {eleven} {table} {table₂} {raw} {pixel} so h =
    let same : first_in eleven table raw (pixel_in pixel) ≡ first_in eleven table₂ raw (pixel_in pixel)
    = same-of-both eleven _ (λ d. first_half d table raw (pixel_in pixel)) (λ d. first_half d table₂ raw (pixel_in pixel)) so in
    record { number_so = h.number_so ∙ ap first_number same; rows_so = h.rows_so ∙ ap first_rows same; weights_so = h.weights_so ∙ ap first_weights same }

same-gives-c : {eleven table table₂ : List ℤ} {bits : Bits} {rows rows₂ : List ℕ} {weights weights₂ : List ℤ} {number : ℕ} {codes' : List ℕ}
    → ((d : Description) → described_in eleven ≡ Some d → second_half d table bits (shares_in rows weights) ≡ second_half d table₂ bits (shares_in rows₂ weights₂))
    → GivesCodesC eleven table bits rows weights number codes' → GivesCodesC eleven table₂ bits rows₂ weights₂ number codes'
same-gives-c {eleven} {table} {table₂} {bits} {rows} {rows₂} {weights} {weights₂} so h =
    let same : second_in eleven table bits (shares_in rows weights) ≡ second_in eleven table₂ bits (shares_in rows₂ weights₂)
    = same-of-both eleven _ (λ d. second_half d table bits (shares_in rows weights)) (λ d. second_half d table₂ bits (shares_in rows₂ weights₂)) so in
    record { number_so = h.number_so ∙ ap second_number same; codes_so = h.codes_so ∙ ap second_codes same }

-- ---- the table

-- any two that could be read
pub samples-no-part-c : {eleven table table₂ : List ℤ} {raw : ℕ} {pixel : List ℕ} {number : ℕ} {rows' : List ℕ} {weights' : List ℤ}
    → ((d : Description) → described_in eleven ≡ Some d → (could_be_read d table ≡ true) × (could_be_read d table₂ ≡ true))
    → FindsRowsC eleven table raw pixel number rows' weights' → FindsRowsC eleven table₂ raw pixel number rows' weights'
samples-no-part-c {eleven} {table} {table₂} {raw} {pixel} both = same-finds-c (λ d e. samples-no-part d table table₂ (both d e).0 (both d e).1 raw (pixel_in pixel))

-- places past 3·rows
pub later-first-c : {eleven table table₂ : List ℤ} {raw : ℕ} {pixel : List ℕ} {number : ℕ} {rows' : List ℕ} {weights' : List ℤ}
    → ((d : Description) → described_in eleven ≡ Some d → take (3 * rows d) table ≡ take (3 * rows d) table₂)
    → FindsRowsC eleven table raw pixel number rows' weights' → FindsRowsC eleven table₂ raw pixel number rows' weights'
later-first-c {eleven} {table} {table₂} {raw} {pixel} same = same-finds-c (λ d e. later_first d table table₂ (same d e) raw (pixel_in pixel))

pub later-second-c : {eleven table table₂ : List ℤ} {bits : Bits} {numbers : List ℕ} {weights : List ℤ} {number : ℕ} {codes' : List ℕ}
    → ((d : Description) → described_in eleven ≡ Some d → take (3 * rows d) table ≡ take (3 * rows d) table₂)
    → GivesCodesC eleven table bits numbers weights number codes' → GivesCodesC eleven table₂ bits numbers weights number codes'
later-second-c {eleven} {table} {table₂} {bits} {numbers} {weights} same = same-gives-c (λ d e. later_second d table table₂ (same d e) bits (shares_in numbers weights))

-- ---- the last two rows and weights, in 3D

-- rows and weights of which the first four are the same
module _ (rows rows₂ : List ℕ) (weights weights₂ : List ℤ) (same_rows : take 4 rows ≡ take 4 rows₂) (same-weights : take 4 weights ≡ take 4 weights₂) where
  same-share : (k : ℕ) → k < 4 → share_in rows weights k ≡ share_in rows₂ weights₂ k
  same-share k h i = record { row = row i; weight = weight i }
    where
      row : get_or rows k 0 ≡ get_or rows₂ k 0
      row = sym (get_or-take 4 rows k 0 h) ∙ ap (λ l. get_or l k 0) same_rows ∙ get_or-take 4 rows₂ k 0 h

      weight : get_or weights k (pos 0) ≡ get_or weights₂ k (pos 0)
      weight = sym (get_or-take 4 weights k (pos 0) h) ∙ ap (λ l. get_or l k (pos 0)) same-weights ∙ get_or-take 4 weights₂ k (pos 0) h

  same-four : SameFour (shares_in rows weights) (shares_in rows₂ weights₂)
  same-four =
      record { first = same-share 0 (omega arith); second = same-share 1 (omega arith); third = same-share 2 (omega arith); fourth = same-share 3 (omega arith) }

pub last-two-no-part-c : {eleven table : List ℤ} {bits : Bits} {rows rows₂ : List ℕ} {weights weights₂ : List ℤ} {number : ℕ} {codes' : List ℕ}
    → number_at eleven 0 ≡ pos 3 → take 4 rows ≡ take 4 rows₂ → take 4 weights ≡ take 4 weights₂
    → GivesCodesC eleven table bits rows weights number codes' → GivesCodesC eleven table bits rows₂ weights₂ number codes'
last-two-no-part-c {eleven} {table} {bits} {rows} {rows₂} {weights} {weights₂} three same_rows same-weights =
    same-gives-c (λ d e. last-two-no-part d table bits (kind-given eleven ThreeD (ap kind_at three) d e) (same-four rows rows₂ weights weights₂ same_rows same-weights))
