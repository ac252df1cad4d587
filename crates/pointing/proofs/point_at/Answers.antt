use Prim.Native.Nat.{ℕ, ◌+◌, ◌-◌, ◌≤◌}
use mathlib.Core.Path.{◌≡◌, ap, ◌∙◌}
use mathlib.Core.List.{List}
use lib.ListN.{length, take, drop, length-take}
use Rattle.pointing.specs.Pointing.{part, spot_in, pointed}
use Rattle.pointing.specs.declared.spots.Spot.{Spot}
use Rattle.pointing.proofs.Inside.{spot-inside}
use native.Mathlib.Omega.{arith}
use Rattle.pointing.proofs.point_at.Goals as goal

-- the spot ends within the line, and so within the file
ended : (file : List ℕ) (number : ℕ) (on spot : Spot) → on.place + on.length ≤ length file → spot ≡ spot_in number (take (on.place + on.length - on.place) (drop on.place file))
    → on.place + (spot.place + spot.length) ≤ length file
ended file number on spot within e =
    let many = on.place + on.length - on.place in
    let l = take many (drop on.place file) in
    let inside : spot.place + spot.length ≤ length l = rw e (spot-inside number l).inside in
    omega (arith, inside, length-take many (drop on.place file), within)

pub overflow_add-result : goal.overflow_add-result
overflow_add-result c =
    record { fits = omega (arith, ended c.args.file.now c.args.number _ _ c.line_spot-on.ensures.within c.spot_in-spot.ensures, c.well_formed) }

pub returns : goal.returns
unfolding pointed
returns c =
    let on = c.line_spot-on.result in
    let file = c.args.file.now in
    let number = c.args.number in
    let long : on.place + on.length - on.place ≡ on.length = omega arith in
    let spot : c.spot_in-spot.result ≡ spot_in number (part file on) =
    c.spot_in-spot.ensures ∙ ap (λ (n : ℕ). spot_in number (take n (drop on.place file))) long in
    let at : Spot = record { place = on.place + c.spot_in-spot.result.place; length = c.spot_in-spot.result.length } in
    let is : at ≡ pointed file number c.args.line =
    ap (λ (x : Spot). record { place = on.place + x.place; length = x.length }) spot
    ∙ ap (λ (y : Spot). record { place = y.place + (spot_in number (part file y)).place; length = (spot_in number (part file y)).length }) c.line_spot-on.ensures.is in
    record { is = is; within = omega (arith, ended file number _ _ c.line_spot-on.ensures.within c.spot_in-spot.ensures) }
