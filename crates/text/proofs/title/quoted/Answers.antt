use Prim.Native.Nat.{ℕ, ◌-◌}
use mathlib.Core.Bool.{Bool}
use mathlib.Core.List.{List}
use mathlib.Core.Path.{◌≡◌, ap, sym, ◌∙◌}
use borrow.Author.Tests.{eq-eqb, ne_eqb}
use lib.ListN.{drop, length, take}
use Rattle.rules.specs.Reading.Contents.{closes, quoted}
use Rattle.rules.specs.Reading.Lines.{after, in_title, run}
use Rattle.text.proofs.FirstBytes.{empty-list, quoted-first}
use Rattle.scan.proofs.Runs.{part-after, part_to_end}
use Rattle.text.proofs.title.quoted.Goals as goal

-- The opening quote, the text up to where it ends, and the closing quote there.
closing : (s : List ℕ) (n : ℕ) (t : Bool) → let p = take (length s - 1) (drop 1 s) in n ≡ length (run in_title p) → t ≡ closes (take (length p - n) (drop n p)) → closes (after in_title (drop 1 s)) ≡ t
closing s n t h e = sym (e ∙ ap closes (part-after in_title _ _ h ∙ ap (after in_title) (part_to_end s 1)))

pub returns-then-s-eq0 : goal.returns-then-s-eq0
unfolding quoted
returns-then-s-eq0 c = rw (empty-list c.before.before.args.s.now c.if-s-eq0.true)

pub returns-then-s-ne34 : goal.returns-then-s-ne34
returns-then-s-ne34 c = rw (quoted-first _ _ c.before.before.if-s-eq0.false, ne_eqb _ 34 c.if-s-ne34.true)

pub returns-then-not-closes : goal.returns-then-not-closes
returns-then-not-closes c =
    rw (quoted-first _ _ c.if-s-eq0.false, eq-eqb _ 34 c.if-s-ne34.false, closing c.args.s.now _ _ c.run_length-length.ensures.counts c.closes.ensures ∙ c.if-not-closes.true)

pub returns : goal.returns
returns c =
    rw (quoted-first _ _ c.if-s-eq0.false, eq-eqb _ 34 c.if-s-ne34.false, closing c.args.s.now _ _ c.run_length-length.ensures.counts c.closes.ensures ∙ c.if-not-closes.false, c.run_length-length.ensures.counts, part_to_end c.args.s.now 1)
