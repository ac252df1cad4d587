use mathlib.Core.Path.{◌≡◌}
use mathlib.Core.List.{[], ◌∷◌, ◌++◌}
use Prim.Native.Nat.{ℕ}
use Rattle.rules.specs.Decimals.{decimal}
use Rattle.rules.specs.Fields.{parted}
use Rattle.rules.specs.Reading.Lines.{bytes}
use Rattle.rules.specs.Writing.{size_text}
use Rattle.rules.specs.declared.Kind.{Kind}
use Rattle.rules.specs.declared.Kind.TheVariants.{OneD, ThreeD}
use Rattle.writing.proofs.lines.put_size.Goals as goal

-- By the kind the line is its keyword, and N.
size-1d : (k : Kind) (n : ℕ) → k ≡ OneD → size_text k n ≡ bytes "LUT_1D_SIZE " ++ (decimal n ++ (10 ∷ []))
unfolding size_text parted bytes
size-1d k n e = rw e

size-3d : (k : Kind) (n : ℕ) → k ≡ ThreeD → size_text k n ≡ bytes "LUT_3D_SIZE " ++ (decimal n ++ (10 ∷ []))
unfolding size_text parted bytes
size-3d k n e = rw e

pub put_n-requires : goal.put_n-requires
unfolding bytes
put_n-requires c = rw (size-1d _ _ c.in-OneD.is) at c.requires

pub put_n-requires-in-ThreeD : goal.put_n-requires-in-ThreeD
unfolding bytes
put_n-requires-in-ThreeD c = rw (size-3d _ _ c.in-ThreeD.is) at c.requires

pub returns-in-OneD : goal.returns-in-OneD
unfolding bytes
returns-in-OneD c = rw (size-1d _ _ c.in-OneD.is) c.put_n.ensures

pub returns-in-ThreeD : goal.returns-in-ThreeD
unfolding bytes
returns-in-ThreeD c = rw (size-3d _ _ c.in-ThreeD.is) c.put_n-in-ThreeD.ensures
