use Prim.Native.Nat.{ℕ, ◌+◌}
use mathlib.Core.Path.{◌≡◌, sym, ap, ◌∙◌}
use mathlib.Core.Bool.{Bool, cond, ◌&&◌, and-false}
use mathlib.Core.List.{List}
use native.Mathlib.Omega.{arith}
use lib.ListN.{length, get_or, drop}
use Rattle.rules.specs.Reading.Lines.{e_byte, minus_byte, starts}
use Rattle.rules.specs.Reading.Numerals.{digits}
use Rattle.rules.specs.Reading.Numbers.{exponent_of, unsigned}
use Rattle.numbers.specs.Parts.{part}
use Rattle.numbers.proofs.Grammar.{exponent-absent, exponent-by, exponent-there}
use Rattle.scan.proofs.Runs.{part_to_end}
use Rattle.numbers.proofs.power_in.Goals as goal
use Rattle.std.specs.Prelude.{None, Some}

-- No text is no exponent; else the tests in the order of the definition, on what stands after the first byte.
-- what the tests say together
read : (e : List ℕ) (marked down whole : Bool) (n : ℕ) → (length e ≡ 0 → ⊥)
    → let s = part e 1 (length e) in
    marked ≡ e_byte (get_or e 0 0) → down ≡ starts minus_byte s → drop n s ≡ unsigned s → whole ≡ digits (part s n (length s))
    → cond (marked && whole) (Some (record { down = down; power = drop (1 + n) e })) None ≡ exponent_of e
read e marked down whole n h m d u w =
    let t = part_to_end e 1 in
    exponent-by e marked down whole n h m (d ∙ ap (starts minus_byte) t) (rw t at u)
    (w ∙ ap digits (part_to_end (part e 1 (length e)) n ∙ ap (drop n) t))

pub returns-then-e-eq0 : goal.returns-then-e-eq0
returns-then-e-eq0 c = record { says = exponent-absent c.args.e.now c.if-e-eq0.true; within = omega arith }

pub returns-then-not-is_e : goal.returns-then-not-is_e
returns-then-not-is_e c =
    record { says = sym (rw (← c.is_e.ensures, c.if-not-is_e.true) at (exponent-there c.args.e.now c.if-e-eq0.false)); within = tt }

pub returns-then-not-is_digits : goal.returns-then-not-is_digits
returns-then-not-is_digits c =
    let r = read c.args.e.now c.is_e.result c.starts_with-down.result c.is_digits.result c.sign_length-sign.result c.if-e-eq0.false c.is_e.ensures
    c.starts_with-down.ensures c.sign_length-sign.ensures.skips c.is_digits.ensures in
    record { says = rw (c.if-not-is_digits.true, and-false) at r; within = tt }

pub returns : goal.returns
returns c =
    let r = read c.args.e.now c.is_e.result c.starts_with-down.result c.is_digits.result c.sign_length-sign.result c.if-e-eq0.false c.is_e.ensures
    c.starts_with-down.ensures c.sign_length-sign.ensures.skips c.is_digits.ensures in
    record { says = rw (c.if-not-is_e.false, c.if-not-is_digits.false) at r; within = omega arith }
