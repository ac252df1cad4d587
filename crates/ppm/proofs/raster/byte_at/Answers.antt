use Prim.Native.Nat.{ℕ, ◌+◌, ◌*◌, ◌/◌, ◌%◌, ◌<◌}
use mathlib.Core.Path.{◌≡◌, ap, ◌∙◌}
use native.Mathlib.Omega.{arith}
use lib.ListN.{length, get_or}
use Rattle.ppm.proofs.Codes.{narrow-byte, wide-bytes}
use Rattle.ppm.proofs.raster.byte_at.Goals as goal

-- The lesser byte alone, or the greater at an even place and the lesser at an odd one.
pub returns-then-not-wide : goal.returns-then-not-wide
returns-then-not-wide c =
    let narrow-place : let a = c.args in a.i < length a.codes.now = rw c.if-not-wide.true at c.requires in
    let a = c.args in
    ap (λ both. get_or both 1 0) c.to_be_bytes.ensures ∙ narrow-byte a.codes.now a.i narrow-place ∙ rw c.if-not-wide.true

pub returns-then-i-eq0 : goal.returns-then-i-eq0
returns-then-i-eq0 c =
    let wide-place : let a = c.args in a.i / 2 < length a.codes.now = let twice = rw c.if-not-wide.false at c.requires in omega arith in
    let a = c.args in
    let even : a.i / 2 * 2 ≡ a.i = omega (arith, c.if-i-eq0.true) in
    let code : ℕ = get_or a.codes.now (a.i / 2) 0 in
    let greater : code / 256 % 256 ≡ code / 256 = omega (arith, c.type_inv.codes (a.i / 2)) in
    ap (λ both. get_or both 0 0) c.to_be_bytes-2.ensures ∙ greater ∙ (wide-bytes a.codes.now (a.i / 2) wide-place).0 ∙ rw (even, c.if-not-wide.false)

pub returns-else-i-eq0 : goal.returns-else-i-eq0
returns-else-i-eq0 c =
    let wide-place : let a = c.args in a.i / 2 < length a.codes.now = let twice = rw c.if-not-wide.false at c.requires in omega arith in
    let a = c.args in
    let odd : a.i / 2 * 2 + 1 ≡ a.i = omega (arith, c.if-i-eq0.false) in
    ap (λ both. get_or both 1 0) c.to_be_bytes-2.ensures ∙ (wide-bytes a.codes.now (a.i / 2) wide-place).1 ∙ rw (odd, c.if-not-wide.false)
