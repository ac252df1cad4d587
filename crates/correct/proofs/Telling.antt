-- A code that is told as too great is above the greatest: it is the first of the piece that is.
use Prim.Native.Nat.{ℕ}
use mathlib.Core.Path.{◌≡◌, sym, subst}
use mathlib.Core.List.{List}
use mathlib.Core.Logic.{inl, inr}
use lib.Dec.{ltb}
use lib.IntN.{ℤ}
use Rattle.std.specs.Prelude.{Option, Some, None, Result, Ok, Err, IsErrAnd, ⊤}
use Rattle.rules.specs.declared.Description.{Description}
use Rattle.ppm.specs.Excess.{first_above}
use Rattle.ppm.specs.Raster.{codes_of}
use Rattle.ppm.specs.declared.excess.Excess.{Excess}
use Rattle.ppm.proofs.FirstAbove.{Tells, above-m}
use Rattle.ppm.proofs.Sizes.{either}
use Rattle.correct.specs.Pieces.{BySystem, PieceGoes, TrulyTold, passed_by, passed_of}
use Rattle.correct.specs.declared.jobs.Scales.{Scales}
use Rattle.correct.specs.declared.pieces.Stop.{Stop}
use Rattle.correct.specs.declared.pieces.Stop.TheVariants.{Cut, TooGreat, Unread, Unwritten}
use Rattle.correct.specs.declared.pieces.Piece.{Piece}

module _ (m : ℕ) (codes : List ℕ) (piece : Piece) (first want : ℕ) where
  told-by : (x : Option Excess) → Tells m codes x → TrulyTold m (passed_by x piece first want)
  unfolding passed_by
  told-by (Some excess) h = h
  told-by None h = either (TrulyTold m) (ltb piece.pixels want) tt tt

  pub truly-told : piece.excess ≡ first_above m codes → TrulyTold m (passed_of piece first want)
  unfolding passed_of
  truly-told e = told-by piece.excess (subst (Tells m codes) (sym e) (above-m m codes))

-- what the system could not do tells of no code
by-system : (m first : ℕ) (r : Result ⊤ Stop) → IsErrAnd r (BySystem first) → TrulyTold m r
by-system m first (Ok done) failed = absurd failed
by-system m first (Err (Cut pixel)) failed = absurd failed
by-system m first (Err (TooGreat pixel excess)) failed = absurd failed
by-system m first (Err (Unread pixel error)) failed = tt
by-system m first (Err (Unwritten error)) failed = tt

-- and so it is of whatever becomes of a piece
pub goes-truly : {d : Description} {table : List ℤ} (s : Scales) {first want : ℕ} {r : Result ⊤ Stop} → PieceGoes d table s first want r → TrulyTold s.raw.depth.greatest r
goes-truly s {first} {want} {r} (inl failed) = by-system s.raw.depth.greatest first r failed
goes-truly s {first} {want} (inr went) =
    let m = s.raw.depth.greatest in
    subst (TrulyTold m) (sym went.told) (truly-told m (codes_of s.raw.wide went.input) went.piece first want went.corrects.excess)
