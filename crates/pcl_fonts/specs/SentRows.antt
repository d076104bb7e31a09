-- The rows of patterns, as a job sends them.
use Rattle.std.specs.Prelude.{ℕ, Bool, nat_le, List, [], length, is_some}
use Rattle.std.specs.Option.{unwrap_or}
use Rattle.pcl_fonts.specs.Compressed.{expanded}
use Rattle.pcl_fonts.specs.Fields.{pattern_bytes}
use Rattle.pcl_fonts.specs.declared.sent_rows.SentRows.{SentRows}
use Rattle.pcl_fonts.specs.declared.sent_rows.SentRows.TheVariants.{Plain, Compressed}
use Rattle.pcl_fonts.specs.declared.sent_rows.GlyphRows.{GlyphRows}
use Rattle.pcl_fonts.specs.declared.sent_rows.GlyphRows.TheVariants.{Lent, Expanded}

-- they are all there, of a pattern of this width and height
abbrev pub is_whole : ℕ → ℕ → SentRows → Bool
is_whole width height (Plain rows) = nat_le (pattern_bytes width height) (length rows.now)
is_whole width height (Compressed runs) = is_some (expanded width height runs.now)

-- their bytes
abbrev pub sent_rows_in : ℕ → ℕ → SentRows → List ℕ
sent_rows_in width height (Plain rows) = rows.now
sent_rows_in width height (Compressed runs) = unwrap_or (expanded width height runs.now) []

-- the bytes of rows that are as they are, or expanded
abbrev pub bytes_of_rows : GlyphRows → List ℕ
bytes_of_rows (Lent bytes) = bytes.now
bytes_of_rows (Expanded bytes) = bytes.items
