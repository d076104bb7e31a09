-- What is said of a job that is shrunk.
use Rattle.std.specs.Prelude.{ℕ, ◌==◌, if◌then◌else◌, List, ◌++◌, codes, vec_len, Option, Some, None}
use Rattle.pcl_printers.specs.declared.doubts.Doubt.{Doubt}
use Rattle.pcl_printers.specs.declared.doubts.Doubt.TheVariants.{BetweenDots, ShortRaster, FirstLine, SeedRow, RasterSize, Advance, Code}
use Rattle.pcl_printers.specs.declared.doubts.Doubt.TheVariants.{EmptyMark, ColumnWidth, PastEnd, PartOfUnit, Ejection, Edge, OpenRaster}
use Rattle.pcl_printers.specs.declared.doubts.Doubt.TheVariants.{RowStart, TextScale, Back, JobLine}
use Rattle.pcl_printers.specs.declared.doubts.Doubt.TheVariants.{OtherFont, RightMargin, RowData, Sides, CalledMacro, Paper, NoPage, OpenEnd}
use Rattle.pcl_shrink.specs.declared.candidate.Candidate.{Candidate}
use Rattle.pcl_shrink.specs.declared.candidate.Candidate.TheVariants.{Input, Raster, Coarse, Glyphs}
use Rattle.pcl_shrink.specs.declared.candidate.Shrunk.{Shrunk}
use Rattle.pcl_request.specs.declared.request.Layout.{Layout}
use Rattle.pcl_request.specs.declared.request.Layout.TheVariants.{Text, Json}
use Rattle.pcl_messages.specs.Texts.{labelled_number}

-- how its pages are written
abbrev pub candidate_text : Candidate → List ℕ
candidate_text Input = codes "as they came"
candidate_text Raster = codes "as least rasters"
candidate_text Coarse = codes "as rasters of other resolutions"
candidate_text Glyphs = codes "as glyphs"

-- what printers may read otherwise in it
abbrev pub doubt_text : Doubt → List ℕ
doubt_text BetweenDots = codes "what stands between dots"
doubt_text ShortRaster = codes "where the cursor is after fewer rows than a raster's height"
doubt_text FirstLine = codes "where the cursor is after settings"
doubt_text SeedRow = codes "an offset of 0 before a row by method 3"
doubt_text RasterSize = codes "a width or a height of a raster of 0"
doubt_text Advance = codes "an advance below 0"
doubt_text Code = codes "a code without a character"
doubt_text EmptyMark = codes "a mark without dots on the page"
doubt_text ColumnWidth = codes "the column width after another font, or a font sent anew"
doubt_text PastEnd = codes "a tab, a move by rows or a line spacing past the end of the page"
doubt_text PartOfUnit = codes "a part of a unit"
doubt_text Ejection = codes "sides, a media type, a page length or an orientation on a page with marks"
doubt_text Edge = codes "ink past an edge of the page"
doubt_text OpenRaster = codes "where a raster ends"
doubt_text RowStart = codes "where a row begins, after a raster away from the left edge"
doubt_text TextScale = codes "a text scale that isn't 0"
doubt_text Back = codes "the side of a sheet after a page that is moved"
doubt_text JobLine = codes "a line of @PJL"
doubt_text OtherFont = codes "a font that no ID of the job selects"
doubt_text RightMargin = codes "a line past a right margin, or one that wraps"
doubt_text RowData = codes "a row by method 3 that ends in an offset"
doubt_text Sides = codes "which side of the sheet comes next"
doubt_text CalledMacro = codes "a page size or the end of a page in a called macro"
doubt_text Paper = codes "a page without a size, where papers differ"
doubt_text NoPage = codes "a job without a page"
doubt_text OpenEnd = codes "what the job leaves at its end"

-- what follows the number of its pages
abbrev pub pages_word : ℕ → List ℕ
pages_word pages = if pages == 1 then codes " page, " else codes " pages, "

-- how many bytes came in and go out, and how many pages there are
abbrev pub counts_text : ℕ → Shrunk → List ℕ
counts_text len shrunk =
    labelled_number (codes "pclmin: ") len ++ labelled_number (codes " bytes in, ") (vec_len shrunk.job)
    ++ labelled_number (codes " out, ") shrunk.pages ++ pages_word shrunk.pages

-- why it goes as it came, where that is for what printers may read otherwise
abbrev pub reason_text : Option Doubt → List ℕ
reason_text None = codes ""
reason_text (Some doubt) = codes ", since printers read otherwise " ++ doubt_text doubt

-- the line on a job of this many bytes
abbrev pub shrunk_text : ℕ → Shrunk → List ℕ
shrunk_text len shrunk = counts_text len shrunk ++ candidate_text shrunk.by ++ reason_text shrunk.doubt ++ codes "\n"

-- ---- the same as an object of JSON: what is quoted has no quotation mark and no backslash

-- the members that are numbers
abbrev pub count_members : ℕ → Shrunk → List ℕ
count_members len shrunk =
    labelled_number (codes "{\"bytes_in\":") len ++ labelled_number (codes ",\"bytes_out\":") (vec_len shrunk.job)
    ++ labelled_number (codes ",\"pages\":") shrunk.pages

-- a label up to a quotation mark, a text, and another mark
abbrev pub quoted_text : List ℕ → List ℕ → List ℕ
quoted_text label text = label ++ text ++ codes "\""

abbrev pub written_member : Candidate → List ℕ
written_member by = quoted_text (codes ",\"written\":\"") (candidate_text by)

abbrev pub doubt_member : Option Doubt → List ℕ
doubt_member None = codes ",\"doubt\":null"
doubt_member (Some doubt) = quoted_text (codes ",\"doubt\":\"") (doubt_text doubt)

abbrev pub shrunk_object_text : ℕ → Shrunk → List ℕ
shrunk_object_text len shrunk = count_members len shrunk ++ written_member shrunk.by ++ doubt_member shrunk.doubt ++ codes "}\n"

-- ---- in a layout

abbrev pub shrunk_report_in : Layout → ℕ → Shrunk → List ℕ
shrunk_report_in Text len shrunk = shrunk_text len shrunk
shrunk_report_in Json len shrunk = shrunk_object_text len shrunk
