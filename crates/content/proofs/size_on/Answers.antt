use mathlib.Core.Path.{◌≡◌, sym, ◌∙◌}
use Rattle.std.specs.Prelude.{Err, None, Ok, Option, Some}
use Rattle.std.specs.Option.{ok_or}
use Rattle.std.proofs.lemmas.Result.{err_from_is_err_and}
use Rattle.rules.specs.Reading.Contents.{size_of}
use Rattle.text.proofs.WordsFrom.{words-next, words-none}
use Rattle.content.proofs.size_on.Goals as goal

-- what was there, by what `ok_or` makes of it
there : {A E : Type 0} (o : Option A) (e : E) {a : A} → Ok a ≡ ok_or o e → o ≡ Some a
there None e h = cc
there (Some b) e h = cc

absent : {A E : Type 0} (o : Option A) (e : E) {d : E} → Err d ≡ ok_or o e → (d ≡ e) × (o ≡ None)
absent None e h = (cc, cc)
absent (Some b) e h = cc

-- No word, more than one, or the one that the part handed on is.
pub returns-in_err-word : goal.returns-in_err-word
unfolding size_of
returns-in_err-word c =
    let p = err_from_is_err_and c.from_residual.result c.from_residual.ensures.1 in
    let none = absent c.next_word.result _ (sym c.in_err-word.was ∙ c.ok_or.ensures.value) in
    rw (p.1, p.2, none.0, words-none _ _ (sym c.next_word.ensures ∙ none.1))

pub next_word-requires-2 : goal.next_word-requires-2
next_word-requires-2 c =
    (words-next _ _ _ c.requires (sym c.next_word.ensures ∙ there c.next_word.result _ (sym c.in_ok-word.was ∙ c.ok_or.ensures.value))).inside

pub returns-in_default : goal.returns-in_default
unfolding size_of
returns-in_default c =
    let w = words-next _ _ _ c.requires (sym c.next_word.ensures ∙ there c.next_word.result _ (sym c.in_ok-word.was ∙ c.ok_or.ensures.value)) in
    let v = words-next _ _ _ w.inside (sym c.next_word-2.ensures ∙ c.in_default.is) in
    rw (w.words, v.words)

pub returns : goal.returns
returns c =
    let w = words-next _ _ _ c.requires (sym c.next_word.ensures ∙ there c.next_word.result _ (sym c.in_ok-word.was ∙ c.ok_or.ensures.value)) in
    rw (w.words, words-none _ _ (sym c.in-None.ensures)) c.size_in.ensures
