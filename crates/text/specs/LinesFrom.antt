-- Document 01, "Lines", from a place of the file: what a cursor finds there.
use Rattle.std.specs.Prelude.{ℕ, ◌+◌, cond, List, [], ltb, length, drop, Option, None, Some}
use Rattle.rules.specs.Reading.Lines.{lines_of}
use Rattle.scan.specs.Kinds.{in_line}
use Rattle.scan.specs.RunEnds.{run_end}
use Rattle.text.specs.declared.cursor.Line.{Line}

-- where the line that starts at place p ends: at a newline, or at the end of the file
abbrev pub end_of : List ℕ → ℕ → ℕ
end_of s p = run_end in_line s p

-- the lines from place p on: none past the end of the file
abbrev pub lines_from : List ℕ → ℕ → List (List ℕ)
lines_from s p = cond (ltb (length s) p) [] (lines_of (drop p s))

-- what a cursor at place p on line n finds
abbrev pub step_at : List ℕ → ℕ → ℕ → Option Line
step_at s p n =
    cond (ltb (length s) p)
    None
    (Some (record {
      start = p;
      end = end_of s p;
      line = n;
      next = record { at = end_of s p + 1; line = cond (ltb (end_of s p) (length s)) (n + 1) n };
    }))
