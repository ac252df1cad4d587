-- What the first argument of the command asks for.
use Rattle.std.specs.Prelude.{ℕ, Bool, cond, ◌||◌, List}
use Rattle.rules.specs.Reading.Lines.{bytes, same}
use Rattle.command.specs.declared.verbs.Verb.{Verb}
use Rattle.command.specs.declared.verbs.Verb.TheVariants.{Report, Explain, Correct, Rewrite, Invert, Check, Help, Version, Unknown}

unfoldable pub asks_help : List ℕ → Bool
asks_help w = same w (bytes "--help") || same w (bytes "-h")

-- compared byte for byte
unfoldable pub verb_of : List ℕ → Verb
verb_of w =
    cond (same w (bytes "report")) Report
    (cond (same w (bytes "explain")) Explain
    (cond (same w (bytes "correct")) Correct
    (cond (same w (bytes "rewrite")) Rewrite
    (cond (same w (bytes "invert")) Invert
    (cond (same w (bytes "check")) Check
    (cond (same w (bytes "--version")) Version
    (cond (asks_help w) Help Unknown)))))))
