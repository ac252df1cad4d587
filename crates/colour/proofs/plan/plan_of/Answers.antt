use Prim.Native.Nat.{◌*◌, ◌≤◌}
use native.Mathlib.Nat.{mul-le-mul}
use native.Mathlib.Omega.{arith}
use Rattle.colour.proofs.Plans.{sound, n-most}
use Rattle.colour.proofs.plan.plan_of.Goals as goal

-- What a description that could have been read has of each colour; N·N is no more than 65,536 · 65,536.
square-most : (s : goal.Start) → s.args.d.n * s.args.d.n ≤ 65536 * 65536
square-most s = let n = n-most (sound s.args.d s.requires.readable) in mul-le-mul n n

pub overflow_mul-square : goal.overflow_mul-square
overflow_mul-square c = record { fits = omega (arith, square-most c) }

pub overflow_sub-result : goal.overflow_sub-result
overflow_sub-result c = omega (arith, (sound _ c.requires.readable).least)
