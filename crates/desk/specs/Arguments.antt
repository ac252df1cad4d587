-- What an argument says as a number.
use Rattle.std.specs.Prelude.{ℕ, ◌≤◌, cond, List, leb, Option, Result, Ok, Err, IfOk, IfSome}
use Rattle.rules.specs.Reading.Numerals.{digits, spell}
use Rattle.desk.specs.declared.arguments.Unfit.{Unfit}
use Rattle.desk.specs.declared.arguments.Unfit.TheVariants.{TooGreat, Unclear}

-- digits alone, at least one, spell a number, which is the argument's where it is at most `most`
unfoldable pub argument_of : ℕ → List ℕ → Result ℕ Unfit
argument_of most text = cond (digits text) (cond (leb (spell 0 text) most) (Ok (spell 0 text)) (Err TooGreat)) (Err Unclear)

-- a number that it says is at most `most`
abbrev pub UpTo : ℕ → Result ℕ Unfit → Type 0
UpTo most r = IfOk r (λ n. n ≤ most)

-- and so is an option's
abbrev pub OptionUpTo : ℕ → Result (Option ℕ) Unfit → Type 0
OptionUpTo most r = IfOk r (λ given. IfSome given (λ n. n ≤ most))
