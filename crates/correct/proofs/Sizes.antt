-- A piece fits its buffers, whether a code is one byte or two.
use Prim.Native.Nat.{ℕ, ◌*◌, ◌≤◌, ◌<◌}
use mathlib.Core.Bool.{Bool, true, false}
use mathlib.Core.Path.{◌≡◌}
use native.Mathlib.Omega.{arith}
use borrow.Author.Tests.{leb-true}
use Rattle.rules.proofs.Tests.{and_both}
use Rattle.ppm.specs.Raster.{byte_count, code_count}
use Rattle.correct.specs.Pieces.{pixel_bytes}
use Rattle.correct.specs.Sizes.{Buffers, has_room, piece_pixels}

pub pixel-there : (wide : Bool) → 0 < pixel_bytes wide
pixel-there false = omega arith
pixel-there true = omega arith

pub piece-bytes : (wide : Bool) (want : ℕ) → want ≤ piece_pixels → want * pixel_bytes wide ≤ 6_291_456
piece-bytes false want h = omega arith
piece-bytes true want h = omega arith

pub piece-codes : (wide : Bool) (want got : ℕ) → want ≤ piece_pixels → got ≤ want * pixel_bytes wide → code_count wide got ≤ 3_145_728
piece-codes false want got h g = omega arith
piece-codes true want got h g = omega arith

-- and so do the bytes of its corrected codes, which may be of the other width
pub piece-made : (wide made : Bool) (want got : ℕ) → want ≤ piece_pixels → got ≤ want * pixel_bytes wide → byte_count made (code_count wide got) ≤ 6_291_456
piece-made wide false want got h g = omega (arith, piece-codes wide want got h g)
piece-made wide true want got h g = omega (arith, piece-codes wide want got h g)

pub room_for : (bytes raw corrected : ℕ) → has_room bytes raw corrected ≡ true → Buffers bytes raw corrected
unfolding has_room
room_for bytes raw corrected h =
    let p = and_both _ _ h in
    let q = and_both _ _ p.1 in
    record { of_bytes = leb-true _ _ p.0; of_raw = leb-true _ _ q.0; of_corrected = leb-true _ _ q.1 }
