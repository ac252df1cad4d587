-- The first wrong word from a place on, as words that are right are passed one by one.
use Prim.Native.Nat.{ℕ, suc, ◌-◌, ◌≤◌, ◌<◌}
use mathlib.Core.Path.{◌≡◌, refl, ap, ◌∙◌}
use mathlib.Core.Bool.{true, false}
use mathlib.Core.List.{List}
use native.Mathlib.Omega.{arith}
use lib.ListN.{length}
use Rattle.text.specs.WordsFrom.{word_end}
use Rattle.pointing.specs.Pointing.{part, word_spot, right, first_wrong}
use Rattle.pointing.specs.declared.words.Wanted.{Wanted}
use Rattle.pointing.proofs.Inside.{end-inside}

-- it is the first wrong one of those that are left
pub record Failing (wanted : Wanted) (count : ℕ) (l : List ℕ) (from left place : ℕ) : Type 0 where
  pub inside : place ≤ length l
  pub to-come : first_wrong wanted count l from ≡ first_wrong wanted left l place

module _ {wanted : Wanted} {count : ℕ} {l : List ℕ} {from left place : ℕ} (f : Failing wanted count l from left place) where
  -- none is left
  pub runs-out : left ≤ 0 → first_wrong wanted count l from ≡ word_spot l place
  unfolding first_wrong
  runs-out z = let none : left ≡ 0 = omega (arith, z) in f.to-come ∙ ap (λ k. first_wrong wanted k l place) none

  -- this word is wrong
  pub fails : 0 < left → right wanted (part l (word_spot l place)) ≡ false → first_wrong wanted count l from ≡ word_spot l place
  unfolding first_wrong
  fails some wrong = let one : left ≡ suc (left - 1) = omega (arith, some) in f.to-come ∙ ap (λ k. first_wrong wanted k l place) one ∙ rw wrong refl

  -- this word is right
  pub goes-on : 0 < left → right wanted (part l (word_spot l place)) ≡ true → Failing wanted count l from (left - 1) (word_end l place)
  unfolding first_wrong
  goes-on some so =
      let one : left ≡ suc (left - 1) = omega (arith, some) in
      record {
        inside = end-inside l place f.inside;
        to-come = f.to-come ∙ ap (λ k. first_wrong wanted k l place) one ∙ rw so refl;
      }
