use Prim.Native.Nat.{◌≤◌, ◌<◌}
use mathlib.Core.Path.{◌≡◌, sym, ap, ap₂, subst, ◌∙◌}
use mathlib.Core.Bool.{true}
use Rattle.rules.specs.Units.{depths_of, corrected_m}
use Rattle.rules.specs.Descriptions.{could_be_read}
use Rattle.rules.specs.Looking.{line_code}
use Rattle.rules.specs.Inverting.{if_within, searched}
use Rattle.rules.specs.Inverting as Definition
use lib.IntN.{ℤ}
use mathlib.Core.List.{List}
use Rattle.rules.specs.declared.Bits.{Bits}
use Rattle.rules.specs.declared.Description.{Description}
use Rattle.rules.specs.declared.Colour.{Colour}
use Rattle.rules.specs.declared.Depths.{Depths}
use Rattle.rules.specs.declared.Kind.TheVariants.{OneD}
use Rattle.rules.proofs.Answers.{is-inverts}
use Rattle.rules.proofs.Inverting.Checks.{inverse-24-cube, inverse-24, inverse-20, inverse-23, inverse-searched}
use Rattle.colour.specs.Lines.{line_of, Lined}
use Rattle.colour.specs.Plans.{plan_of}
use Rattle.colour.specs.declared.lines.Line.{Line}
use Rattle.colour.specs.declared.plan.Plan.{Plan}
use Rattle.colour.proofs.Plans.{planned}
use Rattle.colour.proofs.Ratios.{ratio-known}
use Rattle.inverse.specs.Finding.{search_of}
use Rattle.inverse.proofs.inverse.Goals as goal
use Rattle.std.specs.Prelude.{Err, None, Option, Some, ok_or}
use Rattle.std.proofs.Common.{rules}

-- The checks run 24, 20, 23; what each has shown goes on to the next, and to the line that is searched.
-- so there is a line, of the colour that is asked for
abbrev lined : (d : Description) {table : List ℤ} (bits : Bits) {depths : Depths} {c : Colour} (plan : Plan) (line : Line) → d.kind ≡ OneD → could_be_read d table ≡ true →
    depths_of bits ≡ Some depths → plan ≡ plan_of d depths → line ≡ line_of plan c → Lined line table
lined d {table} bits plan line one_d could known made is = record {
  plan = plan;
  planned = planned d bits could known made;
  one_d = one_d;
  is = is ∙ ap (line_of plan) (sym (ap (λ x. x.colour) is));
}

pub returns-in_default : goal.returns-in_default
returns-in_default c = is-inverts (ap Err c.untried.ensures ∙ sym (inverse-24-cube _ _ _ _ c.in_default.is))

pub returns-then-not-could_be_read : goal.returns-then-not-could_be_read
returns-then-not-could_be_read c =
    is-inverts (ap Err c.untried-then-not-could_be_read.ensures ∙ sym (inverse-24 _ _ _ _ (sym c.could_be_read.ensures ∙ c.if-not-could_be_read.true)))

-- what is absent is refused for the reason that is given
only-reason : {A E : Type 0} (o : Option A) {given found : E} → Err found ≡ ok_or o given → found ≡ given
only-reason None q = cc
only-reason (Some _) q = cc

pub returns-in_err-depths : goal.returns-in_err-depths
returns-in_err-depths c =
    let could = sym c.could_be_read.ensures ∙ c.if-not-could_be_read.false in
    let same : c.from_residual.result ≡ Err c.in_err-depths.field-0.0 = search rules in
    is-inverts
    (same
    ∙ ap Err (only-reason _ c.in_err-depths.ensures.value ∙ c.untried-2.ensures)
    ∙ sym (inverse-20 _ _ _ _ c.in-OneD.is could (sym c.of.ensures ∙ c.in_err-depths.ensures.ok_part)))

pub returns-then-greatest-aim : goal.returns-then-greatest-aim
returns-then-greatest-aim c =
    let could = sym c.could_be_read.ensures ∙ c.if-not-could_be_read.false in
    let known = sym c.of.ensures ∙ c.in_ok-depths.ensures.ok_part in
    is-inverts
    (ap Err c.untried-then-greatest-aim.ensures
    ∙ sym (inverse-23 _ _ _ _ c.in-OneD.is could c.in_ok-depths.depths known (subst (λ m. m < c.args.aim.wanted) c.greatest.ensures c.if-greatest-aim.true)))

pub plan_of-requires-clause-in_terms : goal.plan_of-requires-clause-in_terms
plan_of-requires-clause-in_terms c = ratio-known c.args.bits c.in_ok-depths.depths (sym c.of.ensures ∙ c.in_ok-depths.ensures.ok_part)

pub search-requires : goal.search-requires
search-requires c =
    let could = sym c.could_be_read.ensures ∙ c.if-not-could_be_read.false in
    let known = sym c.of.ensures ∙ c.in_ok-depths.ensures.ok_part in
    lined c.args.d c.args.bits c.plan_of.result c.line_of-line.result c.in-OneD.is could known c.plan_of.ensures c.line_of-line.ensures

pub returns : goal.returns
returns c =
    let a = c.args in
    let table = a.table.now in
    let depths = c.in_ok-depths.depths in
    let could = sym c.could_be_read.ensures ∙ c.if-not-could_be_read.false in
    let known = sym c.of.ensures ∙ c.in_ok-depths.ensures.ok_part in
    let line = lined c.args.d c.args.bits c.plan_of.result c.line_of-line.result c.in-OneD.is could known c.plan_of.ensures c.line_of-line.ensures in
    let inside : a.aim.wanted ≤ corrected_m depths = subst (λ m. a.aim.wanted ≤ m) c.greatest.ensures c.if-greatest-aim.false in
    is-inverts
    (c.answer.ensures
    ∙ ap (λ f. if_within f.off a.aim.tolerance (search_of f)) (c.search.ensures line)
    ∙ ap₂ (λ (h : Colour) m. searched a.d table depths (record { colour = h; wanted = a.aim.wanted; tolerance = a.aim.tolerance }) (Definition.search (line_code a.d table depths h) a.aim.wanted m))
    (ap (λ x. x.colour) c.line_of-line.ensures) c.greatest-2.ensures
    ∙ sym (inverse-searched _ _ _ _ c.in-OneD.is could depths known inside))
