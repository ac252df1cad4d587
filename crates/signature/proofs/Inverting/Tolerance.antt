-- A greater tolerance changes no answer of the inverse that is accepted.
use Prim.Native.Nat.{ℕ, ◌≤◌}
use mathlib.Core.Path.{◌≡◌}
use mathlib.Core.List.{List}
use native.Mathlib.Omega.{arith}
use lib.IntN.{ℤ}
use Rattle.rules.specs.Inverting.{inverse}
use Rattle.rules.specs.declared.Aim.{Aim}
use Rattle.rules.specs.declared.Bits.{Bits}
use Rattle.rules.specs.declared.Description.{Description}
use Rattle.rules.proofs.Inverting.Right.{inverse-right, right-inverse}
use Rattle.rules.specs.Results.{inverse_of}

-- the same aim with another tolerance
abbrev pub tolerating : ℕ → Aim → Aim
tolerating tolerance aim = record { colour = aim.colour; wanted = aim.wanted; tolerance = tolerance }

-- an accepted answer is the answer with every greater tolerance
pub wider-tolerance : (d : Description) (table : List ℤ) (bits : Bits) (aim : Aim) (code count wider : ℕ) → aim.tolerance ≤ wider
    → inverse d table bits aim ≡ inverse_of code count → inverse d table bits (tolerating wider aim) ≡ inverse_of code count
wider-tolerance d table bits aim code count wider h e =
    let a = inverse-right e in
    let p = a.passed in
    right-inverse (record {
      passed = record { line = p.line; could = p.could; depths = p.depths; known = p.known; inside = p.inside };
      right = record { nearest = a.right.nearest; counted = a.right.counted; within = omega (arith, h, a.right.within) };
    })
