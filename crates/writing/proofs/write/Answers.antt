use mathlib.Core.Path.{◌≡◌, sym, ◌∙◌}
use mathlib.Core.Bool.{true}
use native.Mathlib.Omega.{arith}
use Rattle.rules.specs.Descriptions.{could_be_read}
use Rattle.rules.specs.Writing.{title_fits}
use Rattle.writing.proofs.Checks.{unreadable, unfit, no_room, written}
use Rattle.writing.proofs.write.Goals as goal

-- Each way out gives what the checks say.
pub returns-then-not-could_be_read : goal.returns-then-not-could_be_read
returns-then-not-could_be_read c = unreadable _ _ _ _ (sym c.could_be_read.ensures ∙ c.if-not-could_be_read.true)

pub returns-then-not-title_fits : goal.returns-then-not-title_fits
returns-then-not-title_fits c =
    let readable : let a = c.args in could_be_read a.d a.table.now ≡ true = sym c.could_be_read.ensures ∙ c.if-not-could_be_read.false in
    unfit _ _ _ _ readable (sym c.title_fits.ensures ∙ c.if-not-title_fits.true)

pub returns-then-out-length : goal.returns-then-out-length
returns-then-out-length c =
    let readable : let a = c.args in could_be_read a.d a.table.now ≡ true = sym c.could_be_read.ensures ∙ c.if-not-could_be_read.false in
    let fits : let a = c.args in title_fits a.d.title.there a.title.now ≡ true = sym c.title_fits.ensures ∙ c.if-not-title_fits.false in
    no_room _ _ _ _ readable fits (omega (arith, c.if-out-length.true, c.count_text-length.ensures))

pub returns : goal.returns
returns c =
    let readable : let a = c.args in could_be_read a.d a.table.now ≡ true = sym c.could_be_read.ensures ∙ c.if-not-could_be_read.false in
    let fits : let a = c.args in title_fits a.d.title.there a.title.now ≡ true = sym c.title_fits.ensures ∙ c.if-not-title_fits.false in
    rw c.count_text-length.ensures
    (written _ _ _ _ readable fits (omega (arith, c.if-out-length.false, c.count_text-length.ensures)) c.put_text.ensures)
