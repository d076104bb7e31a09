-- Rows as they are read.
use Rattle.std.specs.Prelude.{◌≡◌, ℕ, true, List}
use Rattle.pcl_fonts.specs.Fields.{word, character_rows}
use Rattle.pcl_fonts.specs.SentRows.{is_whole, sent_rows_in}
use Rattle.pcl_fonts.specs.declared.sent_rows.SentRows.{SentRows}

-- the rows of the character that data define
abbrev pub AreRowsOf : List ℕ → SentRows → Type 0
AreRowsOf bytes rows =
    (is_whole (word bytes 10) (word bytes 12) rows ≡ true) × (sent_rows_in (word bytes 10) (word bytes 12) rows ≡ character_rows bytes)
