-- The numbers that the C calls can answer: those of the calls behind them.
use Prim.Native.Nat.{ℕ, ◌≤◌}
use mathlib.Core.Path.{◌≡◌, refl, sym, subst, ◌∙◌}
use mathlib.Core.Logic.{inl, inr}
use mathlib.Core.List.{List, [], ◌∷◌}
use native.Mathlib.Omega.{arith}
use lib.IntN.{ℤ}
use lib.ListN.{length}
use Rattle.rules.specs.Answers.{refusal_number}
use Rattle.rules.specs.Boundary.{ChecksC, LooksC, PicturesC, ReadsC, WritesC, pixel_in}
use Rattle.rules.specs.declared.Bits.{Bits}
use Rattle.signature.specs.Numbers.{OneOf}
use Rattle.rules.proofs.Boundary.Described.{called-each}
use Rattle.signature.proofs.Reading.Numbers.{check-number, read-number}
use Rattle.signature.proofs.Looking.Numbers.{OfLook, look-number}
use Rattle.signature.proofs.Picturing.Numbers.{OfPicture, picture-number}
use Rattle.signature.proofs.Writing.Numbers.{OfWrite, write-number}

pub reads-c-number : {file : List ℕ} {table table' eleven' : List ℤ} {number line' : ℕ} → ReadsC file table number table' eleven' line' → number ≤ 19
reads-c-number {file} {table} h = omega (arith, h.number_so, read-number file (length table))

pub checks-c-number : {file : List ℕ} {eleven' : List ℤ} {number line' places' : ℕ} → ChecksC file number eleven' line' places' → (number ≤ 19) × (number ≡ 13 → ⊥)
checks-c-number {file} h = (omega (arith, h.number_so, (check-number file).0), λ e. (check-number file).1 (sym h.number_so ∙ e))

module _ {eleven table : List ℤ} {bits : Bits} {number : ℕ} where
  pub looks-c-number : {pixel codes' rows' : List ℕ} {weights' : List ℤ} → LooksC eleven table bits pixel number codes' rows' weights' → OneOf number (0 ∷ 20 ∷ 23 ∷ 24 ∷ [])
  unfolding refusal_number
  looks-c-number {pixel} h =
      subst (λ n. OneOf n (0 ∷ 20 ∷ 23 ∷ 24 ∷ [])) (sym h.number_so)
      (called-each OfLook (inr (inr (inr (inl refl)))) (λ d. look-number d table bits (pixel_in pixel)) eleven)

  pub pictures-c-number : {src dst dst' : List ℕ} → PicturesC eleven table bits src dst number dst' → OneOf number (0 ∷ 20 ∷ 21 ∷ 22 ∷ 23 ∷ 24 ∷ [])
  unfolding refusal_number
  pictures-c-number {src} {dst} h =
      subst (λ n. OneOf n (0 ∷ 20 ∷ 21 ∷ 22 ∷ 23 ∷ 24 ∷ [])) (sym h.number_so)
      (called-each OfPicture (inr (inr (inr (inr (inr (inl refl)))))) (λ d. picture-number d table bits src (length dst)) eleven)

pub writes-c-number : {eleven table : List ℤ} {title out out' : List ℕ} {number length' : ℕ} → WritesC eleven table title out number out' length'
    → OneOf number (0 ∷ 13 ∷ 24 ∷ 27 ∷ [])
unfolding refusal_number
writes-c-number {eleven} {table} {title} {out} h =
    subst (λ n. OneOf n (0 ∷ 13 ∷ 24 ∷ 27 ∷ [])) (sym h.number_so)
    (called-each OfWrite (inr (inr (inl refl))) (λ d. write-number d table title (length out)) eleven)
