use mathlib.Core.Path.{◌≡◌, refl, ◌∙◌}
use mathlib.Core.Bool.{Bool, true, false}
use borrow.Author.Rules.{rules}
use lib.IntN.{pos}
use mir.Syntax.{w64}
use mir.Val.{bool_byte, to_z, of_z}
use mir.ValLaws.{to_z-of_z}
use Rattle.std.proofs.lemmas.Int.{to_z_pos}
use Rattle.rules.specs.Boundary.{mark_number}
use Rattle.crossing.proofs.layout.eleven_of.Goals as goal

marked : (there : Bool) → pos (bool_byte there) ≡ mark_number there
marked true = refl
marked false = refl

-- Each number comes through 64 bits as itself.
pub returns : goal.returns
returns c =
    let d = c.args.d in
    let mark : to_z w64 (of_z w64 c.from.result) ≡ mark_number d.title.there = to_z-of_z w64 c.from.result (search rules) ∙ c.from.ensures ∙ marked d.title.there in
    rw (
      to_z-of_z w64 d.red.lower.0 (search rules),
      to_z-of_z w64 d.green.lower.0 (search rules),
      to_z-of_z w64 d.blue.lower.0 (search rules),
      to_z-of_z w64 d.red.upper.0 (search rules),
      to_z-of_z w64 d.green.upper.0 (search rules),
      to_z-of_z w64 d.blue.upper.0 (search rules),
      to_z-of_z w64 c.kind_number.result (search rules),
      c.kind_number.ensures,
      mark,
      to_z_pos w64 d.n c.requires.size,
      to_z_pos w64 d.title.place c.requires.place,
      to_z_pos w64 d.title.length c.requires.span,
    )
