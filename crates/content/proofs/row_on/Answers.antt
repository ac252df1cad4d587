use mathlib.Core.Path.{◌≡◌}
use mir.Syntax.{w64}
use mir.Val.{of_z, to_z}
use borrow.Author.Rules.{rules}
use Rattle.std.proofs.lemmas.Result.{err_from_is_err_and}
use Rattle.rules.specs.Reading.Contents.{row_of, samples_on}
use Rattle.rules.specs.declared.Item.TheVariants.{OfRow}
use Rattle.content.proofs.row_on.Goals as goal
use Rattle.std.specs.Prelude.{Ok}

-- What the values found say is what the definition says of the words; a value that an i64 holds is the sample handed on.
pub returns-in_err-t : goal.returns-in_err-t
unfolding samples_on
returns-in_err-t c =
    let p = err_from_is_err_and c.from_residual.result c.from_residual.ensures.1 in
    rw (p.1, p.2) (c.in_err-t.ensures (λ x y z. Ok (OfRow (row_of x y z))))

pub returns : goal.returns
unfolding samples_on
returns c =
    let t = c.in_ok-t.t in
    let r : to_z w64 (of_z w64 t.x) ≡ t.x = search rules in
    let g : to_z w64 (of_z w64 t.y) ≡ t.y = search rules in
    let b : to_z w64 (of_z w64 t.z) ≡ t.z = search rules in
    rw (r, g, b) (c.in_ok-t.ensures (λ x y z. Ok (OfRow (row_of x y z))))
