-- What std's `map` makes of a value found, as a word: the item made of the value, or its refusal.
use mathlib.Core.Path.{◌≡◌, ap}
use Rattle.std.specs.Prelude.{Result, Ok, Err, MatchResult, IsOkAnd}
use Rattle.rules.specs.declared.Item.{Item}
use Rattle.rules.specs.declared.Refusal.{Refusal}
use Rattle.std.specs.Result.{result_map_both}

pub mapped : {A : Type 0} (found : Result A Refusal) (made : Result Item Refusal) (f : A → Item) (P : A → Item → Type 0)
    → ((a : A) (i : Item) → P a i → i ≡ f a) → MatchResult found (λ a. IsOkAnd made (P a)) (λ r. made ≡ Err r) → made ≡ result_map_both f (λ r. r) found
mapped (Ok a) (Ok i) f P says h = ap (λ i. Ok i) (says a i h)
mapped (Ok a) (Err r) f P says h = absurd h
mapped (Err r) made f P says h = h
