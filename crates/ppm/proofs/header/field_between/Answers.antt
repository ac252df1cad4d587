use Prim.Native.Nat.{ℕ, ◌+◌, ◌-◌, ◌<◌, ◌≤◌}
use mathlib.Core.Path.{◌≡◌, ap, sym, ◌∙◌}
use mathlib.Core.Bool.{true}
use mathlib.Core.List.{List}
use native.Mathlib.Omega.{arith}
use borrow.Author.Tests.{eq-eqb, ne_eqb, lt-leb, le-leb}
use lib.ListN.{get_or, take, drop}
use Rattle.std.specs.Prelude.{Ok}
use Rattle.rules.specs.Reading.Numerals.{spell}
use Rattle.ppm.specs.Header.{counted, field_between, most_of, whitespace}
use Rattle.ppm.proofs.header.field_between.Goals as goal
use Rattle.ppm.proofs.header.field_between.Goals.{then-end-start-via-then-end-start, then-end-start-via-else-end-start+then-not-is_whitespace}

-- The tests in the order of the definition; a number that is kept within the limit is the number itself.

-- the number that the digits spell
abbrev value : (s : List ℕ) (start end : ℕ) → ℕ
value s start end = spell 0 (take (end - start) (drop start s))

pub returns-then-end-s-clause-says : goal.returns-then-end-s-clause-says
unfolding field_between
returns-then-end-s-clause-says c = rw (eq-eqb _ _ c.if-end-s.true)

pub returns-then-end-start-clause-says : goal.returns-then-end-start-clause-says
unfolding field_between
returns-then-end-start-clause-says c =
    elim c.then-end-start.branch [
      | then-end-start-via-then-end-start w ↦ rw (ne_eqb _ _ c.if-end-s.false, eq-eqb _ _ w.if-end-start.true)
      | then-end-start-via-else-end-start+then-not-is_whitespace w ↦ rw (ne_eqb _ _ c.if-end-s.false, ne_eqb _ _ w.if-end-start.false, ← w.is_whitespace.ensures, w.if-not-is_whitespace.true)
    ]

pub returns-then-value-limit-clause-says : goal.returns-then-value-limit-clause-says
unfolding field_between
returns-then-value-limit-clause-says c =
    let ended : whitespace (get_or c.args.s.now c.args.end 0) ≡ true = sym c.is_whitespace.ensures ∙ c.if-not-is_whitespace.false in
    let past : most_of c.args.part < value c.args.s.now c.args.start c.args.end = omega (arith, c.spelt-value.ensures, c.most-limit.ensures, c.if-value-limit.true) in
    rw (ne_eqb _ _ c.if-end-s.false, ne_eqb _ _ c.if-end-start.false, ended, lt-leb _ _ past)

pub returns-clause-says : goal.returns-clause-says
unfolding field_between
returns-clause-says c =
    let ended : whitespace (get_or c.args.s.now c.args.end 0) ≡ true = sym c.is_whitespace.ensures ∙ c.if-not-is_whitespace.false in
    let inside : value c.args.s.now c.args.start c.args.end ≤ most_of c.args.part = omega (arith, c.spelt-value.ensures, c.most-limit.ensures, c.if-value-limit.false) in
    let same : c.spelt-value.result ≡ value c.args.s.now c.args.start c.args.end = omega (arith, c.spelt-value.ensures, c.most-limit.ensures) in
    rw (ne_eqb _ _ c.if-end-s.false, ne_eqb _ _ c.if-end-start.false, ended, le-leb _ _ inside) (ap (λ n. Ok (counted n (c.args.end + 1))) same)
