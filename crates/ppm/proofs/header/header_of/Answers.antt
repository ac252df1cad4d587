use mathlib.Core.Path.{◌≡◌, refl, sym, ap, ◌∙◌}
use mathlib.Core.Bool.{true}
use borrow.Author.Tests.{lt-ltb, le-ltb}
use Rattle.std.specs.Prelude.{Ok, Err}
use Rattle.std.proofs.Common.{rules}
use Rattle.ppm.specs.Header.{starts_p6, field_at, most_size, most_maxval, with_width, after_width, with_height, after_height, with_maxval, header_of}
use Rattle.ppm.specs.declared.header.Fault.TheVariants.{NotP6}
use Rattle.ppm.specs.declared.header.Part.TheVariants.{Width, Height, Maxval}
use Rattle.ppm.proofs.header.header_of.Goals as goal

-- P6 first, then width, height and maxval, or what is wrong with the first that is no number.
pub returns-then-s-lt4 : goal.returns-then-s-lt4
unfolding header_of
returns-then-s-lt4 c = rw (lt-ltb _ 4 c.if-s-lt4.true)

pub returns-then-not-starts_p6 : goal.returns-then-not-starts_p6
unfolding header_of
returns-then-not-starts_p6 c =
    rw (le-ltb _ 4 c.if-s-lt4.false, ← c.starts_p6.ensures, c.if-not-starts_p6.true) (ap (λ kind. Err (NotP6 kind)) c.kind_of.ensures)

pub returns-in_err-width : goal.returns-in_err-width
unfolding header_of with_width
returns-in_err-width c =
    let s = c.args.s.now in
    let same : c.from_residual.result ≡ Err c.in_err-width.field-0.0 = search rules in
    let p6 : starts_p6 s ≡ true = sym c.starts_p6.ensures ∙ c.if-not-starts_p6.false in
    let width : field_at Width most_size s 3 ≡ Err c.in_err-width.field-0.0 = sym c.field_at.ensures.says ∙ c.in_err-width.was in
    rw (le-ltb _ 4 c.if-s-lt4.false, p6, width) same

pub returns-in_err-height : goal.returns-in_err-height
unfolding header_of with_width after_width with_height
returns-in_err-height c =
    let s = c.args.s.now in
    let same : c.from_residual-in_err-height.result ≡ Err c.in_err-height.field-0.0 = search rules in
    let p6 : starts_p6 s ≡ true = sym c.starts_p6.ensures ∙ c.if-not-starts_p6.false in
    let width : field_at Width most_size s 3 ≡ Ok c.in_ok-width.width = sym c.field_at.ensures.says ∙ c.in_ok-width.was in
    let height : field_at Height most_size s c.in_ok-width.width.next ≡ Err c.in_err-height.field-0.0 = sym c.field_at-2.ensures.says ∙ c.in_err-height.was in
    rw (le-ltb _ 4 c.if-s-lt4.false, p6, width, height) same

pub returns-in_err-maxval : goal.returns-in_err-maxval
unfolding header_of with_width after_width with_height after_height with_maxval
returns-in_err-maxval c =
    let s = c.args.s.now in
    let same : c.from_residual-in_err-maxval.result ≡ Err c.in_err-maxval.field-0.0 = search rules in
    let p6 : starts_p6 s ≡ true = sym c.starts_p6.ensures ∙ c.if-not-starts_p6.false in
    let width : field_at Width most_size s 3 ≡ Ok c.in_ok-width.width = sym c.field_at.ensures.says ∙ c.in_ok-width.was in
    let height : field_at Height most_size s c.in_ok-width.width.next ≡ Ok c.in_ok-height.height = sym c.field_at-2.ensures.says ∙ c.in_ok-height.was in
    let maxval : field_at Maxval most_maxval s c.in_ok-height.height.next ≡ Err c.in_err-maxval.field-0.0 = sym c.field_at-3.ensures.says ∙ c.in_err-maxval.was in
    rw (le-ltb _ 4 c.if-s-lt4.false, p6, width, height, maxval) same

pub returns : goal.returns
unfolding header_of with_width after_width with_height after_height with_maxval
returns c =
    let s = c.args.s.now in
    let p6 : starts_p6 s ≡ true = sym c.starts_p6.ensures ∙ c.if-not-starts_p6.false in
    let width : field_at Width most_size s 3 ≡ Ok c.in_ok-width.width = sym c.field_at.ensures.says ∙ c.in_ok-width.was in
    let height : field_at Height most_size s c.in_ok-width.width.next ≡ Ok c.in_ok-height.height = sym c.field_at-2.ensures.says ∙ c.in_ok-height.was in
    let maxval : field_at Maxval most_maxval s c.in_ok-height.height.next ≡ Ok c.in_ok-maxval.maxval = sym c.field_at-3.ensures.says ∙ c.in_ok-maxval.was in
    rw (le-ltb _ 4 c.if-s-lt4.false, p6, width, height, maxval) refl
