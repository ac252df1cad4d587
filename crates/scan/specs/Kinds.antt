-- Each kind of byte is one of the rules'.
use Rattle.std.specs.Prelude.{ℕ, Bool, not}
use Rattle.rules.specs.Reading.Lines.{newline, permitted, blank, in_word, digit, in_title}
use Rattle.scan.specs.declared.ByteKind.{ByteKind}
use Rattle.scan.specs.declared.ByteKind.TheVariants.{InLine, Permitted, Blank, InWord, Digit, InTitle}

-- any byte but a newline
abbrev pub in_line : ℕ → Bool
in_line b = not (newline b)

abbrev pub kind_of : ByteKind → ℕ → Bool
kind_of InLine = in_line
kind_of Permitted = permitted
kind_of Blank = blank
kind_of InWord = in_word
kind_of Digit = digit
kind_of InTitle = in_title
