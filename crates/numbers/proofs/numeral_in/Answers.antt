use Prim.Native.Nat.{ℕ, ◌+◌}
use mathlib.Core.Path.{◌≡◌, refl, sym, ap, ◌∙◌}
use mathlib.Core.Bool.{Bool, true, cond, ◌||◌}
use mathlib.Core.List.{List}
use native.Mathlib.Omega.{arith}
use borrow.Author.Tests.{le-ltb, lt-ltb}
use lib.Dec.{ltb}
use lib.ListN.{drop, length, length-drop}
use lib.Seq.{drop-drop}
use mir.Val.{bool_byte}
use Rattle.rules.specs.Reading.Lines.{digit, minus_byte, point_byte, starts}
use Rattle.rules.specs.Reading.Numerals.{Exponent}
use Rattle.rules.specs.Reading.Numbers.{assemble, exponent_of, numeral_of, unsigned}
use Rattle.numbers.specs.Parts.{part}
use Rattle.numbers.proofs.Grammar.{numeral-by}
use Rattle.numbers.proofs.Words.{starts-room}
use Rattle.scan.specs.RunEnds.{run_end}
use Rattle.scan.proofs.Runs.{part_to_end}
use Rattle.numbers.proofs.numeral_in.Goals as goal
use Rattle.numbers.proofs.numeral_in.Goals.{then-whole-point, else-whole-point}
use Rattle.std.specs.Prelude.{None, Option}

-- Each place is found from the one before; what stands between them is what the definition reads.
read : (w : List ℕ) (negative : Bool) (a b : ℕ) (p : Bool) (d : ℕ) (there : Bool) → negative ≡ starts minus_byte w → drop a w ≡ unsigned w → b ≡ run_end digit w a
    → p ≡ starts point_byte (part w b (length w)) → d ≡ run_end digit w (b + bool_byte p) → there ≡ (ltb a b || ltb (b + bool_byte p) d)
    → (e : Option Exponent) → e ≡ exponent_of (part w d (length w))
    → cond there (assemble true negative (part w a b) (part w (b + bool_byte p) d) e) None ≡ numeral_of w
read w negative a b p d there sign skip whole-end point end enough e f =
    rw (enough, f, part_to_end w d) (numeral-by w negative a b d p sign skip whole-end (point ∙ ap (starts point_byte) (part_to_end w b)) end)

pub run_end-end-requires : goal.run_end-end-requires
run_end-end-requires c =
    let w = c.args.w.now in
    let b = c.run_end-point.result in
    omega (arith, ap bool_byte (c.starts_with-pointed.ensures ∙ ap (starts point_byte) (part_to_end w b)), starts-room point_byte (drop b w), length-drop b w)

pub returns-then-not-there-clause-says : goal.returns-then-not-there-clause-says
returns-then-not-there-clause-says c =
    let a = c.sign_length-whole.result in
    let b = c.run_end-point.result in
    let tested : c.if-whole-point.there ≡ (ltb a b || ltb (b + bool_byte c.starts_with-pointed.result) c.run_end-end.result) =
    elim c.if-whole-point.branch [
      | then-whole-point t ↦ t.there-is ∙ sym (rw (lt-ltb a b t.if-whole-point.true))
      | else-whole-point t ↦ t.there-is ∙ sym (rw (le-ltb a b t.if-whole-point.false))
    ]
    in
    let r =
    read c.args.w.now c.starts_with-negative.result a b c.starts_with-pointed.result c.run_end-end.result c.if-whole-point.there
    c.starts_with-negative.ensures c.sign_length-whole.ensures.skips c.run_end-point.ensures.ends c.starts_with-pointed.ensures c.run_end-end.ensures.ends
    tested _ refl
    in
    rw c.if-not-there.true at r

pub returns-in_err-down-clause-says : goal.returns-in_err-down-clause-says
returns-in_err-down-clause-says c =
    let a = c.sign_length-whole.result in
    let b = c.run_end-point.result in
    let tested : c.if-whole-point.there ≡ (ltb a b || ltb (b + bool_byte c.starts_with-pointed.result) c.run_end-end.result) =
    elim c.if-whole-point.branch [
      | then-whole-point t ↦ t.there-is ∙ sym (rw (lt-ltb a b t.if-whole-point.true))
      | else-whole-point t ↦ t.there-is ∙ sym (rw (le-ltb a b t.if-whole-point.false))
    ]
    in
    let r =
    read c.args.w.now c.starts_with-negative.result a b c.starts_with-pointed.result c.run_end-end.result c.if-whole-point.there
    c.starts_with-negative.ensures c.sign_length-whole.ensures.skips c.run_end-point.ensures.ends c.starts_with-pointed.ensures c.run_end-end.ensures.ends
    tested None (c.in_err-down.ensures.says)
    in
    rw c.from_residual.ensures (rw c.if-not-there.false at r)

pub returns-clause-says : goal.returns-clause-says
returns-clause-says c =
    let w = c.args.w.now in
    let a = c.sign_length-whole.result in
    let b = c.run_end-point.result in
    let d = c.run_end-end.result in
    let tested : c.if-whole-point.there ≡ (ltb a b || ltb (b + bool_byte c.starts_with-pointed.result) d) =
    elim c.if-whole-point.branch [
      | then-whole-point t ↦ t.there-is ∙ sym (rw (lt-ltb a b t.if-whole-point.true))
      | else-whole-point t ↦ t.there-is ∙ sym (rw (le-ltb a b t.if-whole-point.false))
    ]
    in
    let r =
    read w c.starts_with-negative.result a b c.starts_with-pointed.result d c.if-whole-point.there
    c.starts_with-negative.ensures c.sign_length-whole.ensures.skips c.run_end-point.ensures.ends c.starts_with-pointed.ensures c.run_end-end.ensures.ends
    tested _ c.in_ok-down.ensures.says
    in
    rw (← drop-drop c.in_ok-down.field-0.start d w, ← part_to_end w d) (rw c.if-not-there.false at r)
