-- A weight's text by its first byte: a minus, or a digit like the others.
use Prim.Native.Nat.{ℕ, ◌-◌}
use mathlib.Core.Path.{◌≡◌, refl, ap}
use mathlib.Core.Bool.{true, false}
use mathlib.Core.List.{List, [], ◌∷◌}
use borrow.Author.Tests.{eq-eqb, ne_eqb}
use lib.ListN.{length, get_or, take, drop}
use lib.Seq.{take_all}
use native.Mathlib.Omega.{arith}
use Rattle.colour.specs.Limits.{den_limit}
use Rattle.desk.specs.Arguments.{argument_of}
use Rattle.given.specs.Written.{weight_by, weight_of}
use Rattle.std.specs.Prelude.{None}

pub no_text : (text : List ℕ) → length text ≡ 0 → weight_of text ≡ None
unfolding weight_of
no_text [] e = refl
no_text (b ∷ digits) e = absurd (omega (arith, e))

-- the code takes so much of what follows the minus: all of it
pub minus-first : (text : List ℕ) → (length text ≡ 0 → ⊥) → get_or text 0 0 ≡ 45 → weight_by true (argument_of den_limit (take (length text - 1) (drop 1 text))) ≡ weight_of text
unfolding weight_of
minus-first [] some e = absurd (some refl)
minus-first (b ∷ digits) some e = rw (eq-eqb b 45 e) (ap (λ x. weight_by true (argument_of den_limit x)) (take_all (length (b ∷ digits) - 1) digits (omega arith)))

pub no_minus : (text : List ℕ) → (length text ≡ 0 → ⊥) → (get_or text 0 0 ≡ 45 → ⊥) → weight_by false (argument_of den_limit text) ≡ weight_of text
unfolding weight_of
no_minus [] some e = absurd (some refl)
no_minus (b ∷ digits) some e = rw (ne_eqb b 45 e)
