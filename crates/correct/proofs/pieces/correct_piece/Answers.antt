-- Read, counted, corrected and written: each step's promise goes into the law of a piece.
use Prim.Native.Nat.{◌*◌, ◌/◌}
use mathlib.Core.Path.{◌≡◌, sym, subst}
use mathlib.Core.Bool.{true}
use mathlib.Core.List.{◌++◌}
use native.Mathlib.Omega.{arith}
use lib.Dec.{leb}
use lib.ListN.{length, take, drop}
use lib.Seq.{length-take-le}
use Rattle.rules.specs.Units.{raw_m}
use Rattle.rules.specs.Reading.Lines.{run}
use Rattle.rules.specs.Looking.{correct}
use Rattle.rules.specs.Picturing.{each_pixel}
use Rattle.rules.proofs.Picturing.Checks.{within_all}
use Rattle.correct.specs.Pieces.{Corrects, Room}
use Rattle.correct.proofs.Corrected.{kept-within, piece-corrects, plan-there}
use Rattle.correct.proofs.pieces.correct_piece.Goals as goal

pub correct_all-requires-clause-depths_value : goal.correct_all-requires-clause-depths_value
correct_all-requires-clause-depths_value c =
    let made = c.codes_from-count.new.codes in
    let m = c.args.scales.raw.depth.greatest in
    let count = subst (λ g. c.count_within-within.result ≡ length (run (λ code. leb code g) (take c.codes_from-count.result made))) c.greatest.ensures c.count_within-within.ensures.counts in
    let is = sym c.depths_in.ensures in
    let inside = kept-within m c.codes_from-count.result made count in
    (plan-there c.requires.readable.1, (is, subst (λ depths. within_all (raw_m depths) (take (c.count_within-within.result / 3 * 3) made) ≡ true) is inside))

pub returns-clause-corrects : goal.returns-clause-corrects
returns-clause-corrects c = λ d able.
    let a = c.args in
    let input = take a.n a.bytes.now in
    let long : length input ≡ a.n = length-take-le a.n a.bytes.now c.requires.room.there in
    let room = subst (λ n. Room a.scales n (length a.bytes.now) (length a.raw.now) (length a.corrected.now)) (sym long) c.requires.room in
    let made = c.codes_from-count.new.codes in
    let count = subst (λ g. c.count_within-within.result ≡ length (run (λ code. leb code g) (take c.codes_from-count.result made))) c.greatest.ensures c.count_within-within.ensures.counts in
    let kept = take (c.count_within-within.result / 3 * 3) made in
    let is = c.depths_in.ensures in
    let fixed = subst (λ depths. c.correct_all.new.dst ≡ each_pixel (correct d a.table.now depths) kept ++ drop (length kept) a.corrected.now) is (c.correct_all.ensures (plan-there able) (sym is)) in
    subst (λ e. Corrects d a.table.now a.scales input (record { pixels = c.count_within-within.result / 3; bytes = c.bytes_from-made.result; excess = e }) c.bytes_from-made.new.bytes) (sym c.excess_at-excess.ensures)
    (piece-corrects able input a.raw.now a.corrected.now a.bytes.now room c.codes_from-count.ensures count fixed c.bytes_from-made.ensures)

pub returns-clause-few : goal.returns-clause-few
returns-clause-few c =
    let readable = c.requires.readable in
    omega (arith, (returns-clause-corrects c readable.0 readable.1).few, length-take-le c.args.n c.args.bytes.now c.requires.room.there)
