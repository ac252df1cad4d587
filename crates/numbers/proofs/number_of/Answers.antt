use Prim.Native.Nat.{ℕ, ◌-◌, ◌≤◌}
use mathlib.Core.Path.{sym, ap, ◌∙◌}
use mathlib.Core.List.{List}
use native.Mathlib.Omega.{arith}
use lib.ListN.{length, drop, length-drop, length-take}
use Rattle.rules.specs.Reading.Numbers.{number_of, value_of}
use Rattle.numbers.specs.Parts.{numeral, part}
use Rattle.numbers.proofs.Grammar.{numeral-digits}
use Rattle.scan.proofs.Runs.{part_to_end}
use Rattle.numbers.proofs.number_of.Goals as goal
use Rattle.std.specs.Prelude.{Some}

-- No numeral is no number; else the value of the numeral that stands where the grammar found it.
-- a part is no longer than the word
part-short : (w : List ℕ) (a e : ℕ) → length (part w a e) ≤ length w
part-short w a e = omega (arith, length-take (e - a) (drop a w), length-drop a w)

pub returns-in_default : goal.returns-in_default
unfolding number_of
returns-in_default c = ap (value_of _ _) c.in_default.ensures.says

pub value-requires : goal.value-requires
value-requires c =
    let w = c.args.w.now in
    let p = c.in-Some.p in
    let d = numeral-digits w _ (sym c.in-Some.ensures.says) in
    record {
      whole_short = omega (arith, part-short w p.whole p.point);
      fraction_short = omega (arith, part-short w p.fraction p.end);
      whole_digits = d.0;
      fraction_digits = d.1;
      few_places = c.requires.1;
      low-limit = c.requires.2;
    }

pub returns : goal.returns
unfolding number_of
returns c =
    let w = c.args.w.now in
    let p = c.in-Some.p in
    let a = c.args in
    c.value.ensures
    ∙ ap (λ l. value_of a.places a.limit (Some (numeral p.negative (part w p.whole p.point) (part w p.fraction p.end) p.down l))) (part_to_end w p.power)
    ∙ ap (value_of a.places a.limit) c.in-Some.ensures.says
