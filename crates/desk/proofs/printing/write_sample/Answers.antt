use mathlib.Core.Path.{◌≡◌}
use native.Mathlib.Omega.{arith}
use mir.Syntax.{w64}
use mir.Val.{to_z, of_z}
use mir.ValLaws.{to_z-of_z}
use Rattle.lettering.proofs.Longest.{longest}
use Rattle.desk.proofs.printing.write_sample.Goals as goal

-- The longest text of a sample has room in the bytes that it is put into.
-- the sample comes through 64 bits as itself
same : (c : goal.After-struct_told-1) → let z = c.before.before.args.sample.0 in to_z w64 (of_z w64 z) ≡ z
same c = to_z-of_z w64 _ (record { sfits = c.struct_told-1.given.0.1 })

pub put_decimals-requires : goal.put_decimals-requires
put_decimals-requires c = rw (same c) (record { fits = omega (arith, longest c.before.before.args.sample.0 (record { sfits = c.struct_told-1.given.0.1 })) })
