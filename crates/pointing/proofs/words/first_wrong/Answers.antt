use Prim.Native.Nat.{ℕ, ◌+◌, ◌-◌, ◌≤◌}
use mathlib.Core.Path.{◌≡◌, sym, ap, ◌∙◌}
use mathlib.Core.Bool.{Bool}
use mathlib.Core.List.{List}
use native.Mathlib.Omega.{arith}
use lib.ListN.{length, take, drop}
use Rattle.text.specs.WordsFrom.{word_end}
use Rattle.pointing.specs.Pointing.{part, word_spot, right}
use Rattle.pointing.specs.declared.spots.Spot.{Spot}
use Rattle.pointing.specs.declared.words.Wanted.{Wanted}
use Rattle.pointing.proofs.Inside.{word-inside, word-end}
use Rattle.pointing.proofs.Failing.{fails, goes-on, runs-out}
use Rattle.pointing.proofs.words.first_wrong.Goals as goal

-- what is told of the word
told : (wanted : Wanted) (l : List ℕ) (place : ℕ) (w : Spot) {b : Bool} → w ≡ word_spot l place → b ≡ right wanted (take (w.place + w.length - w.place) (drop w.place l))
    → right wanted (part l (word_spot l place)) ≡ b
told wanted l place w e h =
    let long : w.place + w.length - w.place ≡ w.length = omega arith in
    sym (h ∙ ap (λ (n : ℕ). right wanted (take n (drop w.place l))) long ∙ ap (λ (x : Spot). right wanted (part l x)) e)

-- the word ends within the line
ended : (l : List ℕ) (place : ℕ) (w : Spot) → place ≤ length l → w ≡ word_spot l place → w.place + w.length ≤ length l
ended l place w h e = rw e (word-inside l place h).inside

pub overflow_add-end : goal.overflow_add-end
overflow_add-end c =
    record { fits = omega (arith, ended c.args.l.now c.loop.place _ c.loop.invariant.inside c.word_from-word.ensures, c.well_formed) }

pub slice_bounds-is_right-end : goal.slice_bounds-is_right-end
slice_bounds-is_right-end c = ended c.args.l.now c.loop.place _ c.loop.invariant.inside c.word_from-word.ensures

pub returns-then-not-is_right : goal.returns-then-not-is_right
returns-then-not-is_right c =
    c.word_from-word.ensures ∙ sym (fails c.loop.invariant (omega arith) (told c.args.wanted c.args.l.now c.loop.place _ c.word_from-word.ensures c.is_right.ensures ∙ c.if-not-is_right.true))

pub loop-preserved : goal.loop-preserved
loop-preserved c =
    let p = c.loop.place in
    let ends : c.word_from-word.result.place + c.word_from-word.result.length ≡ word_end c.args.l.now p =
    ap (λ (x : Spot). x.place + x.length) c.word_from-word.ensures ∙ word-end c.args.l.now p c.loop.invariant.inside in
    let left : c.args.count - (c.loop.counter + 1) ≡ c.args.count - c.loop.counter - 1 = omega arith in
    rw (left, ends) (goes-on c.loop.invariant (omega arith) (told c.args.wanted c.args.l.now p _ c.word_from-word.ensures c.is_right.ensures ∙ c.if-not-is_right.false))

pub returns : goal.returns
returns c = c.word_from.ensures ∙ sym (runs-out c.loop.invariant (omega arith))
