-- The cursor past a run of rows: each row is a line.
use Rattle.std.specs.Prelude.{◌+◌}
use Rattle.text.specs.declared.cursor.Cursor.{Cursor}
use Rattle.plain.specs.declared.rows.Run.{Run}

abbrev pub past : Cursor → Run → Cursor
past c run = record { at = run.at; line = c.line + run.rows }
