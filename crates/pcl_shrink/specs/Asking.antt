-- What a job asks of the printer, written around the texts of its pages.
use Rattle.std.specs.Prelude.{ℕ, zero, suc, ◌-◌, ◌==◌, Bool, true, false, not, ◌&&◌, ◌||◌, is_some, is_none, if◌then◌else◌, List, [], ◌∷◌, ◌++◌, length, drop, get_or, flat_map, codes, Option, Some, None, unwrap_or, ℤ, pos, int_div}
use Rattle.std.specs.Option.{option_map}
use Rattle.std.specs.Fmt.{signed_decimal}
use Rattle.std.specs.Ordering.{int_eq}
use Rattle.pcl_env.specs.declared.asked.Asked.{Asked}
use Rattle.pcl_env.specs.Offset.{offset_text}
use Rattle.pcl_env.specs.Settings.{nothing_asked}
use Rattle.pcl_page.specs.declared.asks.AskedPage.{AskedPage}
use Rattle.pcl_page.specs.declared.asks.PageStart.{PageStart}
use Rattle.pcl_page.specs.Asks.{Asks, Exit, next_page}
use Rattle.pcl_output.specs.Tokens.{frame_bytes}

-- ---- universal exits

abbrev pub exit_bytes : List ℕ
exit_bytes = 27 ∷ codes "%-12345X"

-- an exit with its lines, after a reset where one stands before it
abbrev pub exit_with_lines : Exit → List ℕ
exit_with_lines exit = (if exit.is_reset then frame_bytes else []) ++ exit_bytes ++ exit.lines

-- the same where it stands after this many pages
abbrev pub exit_text : ℕ → Exit → List ℕ
exit_text number exit = if exit.pages == number then exit_with_lines exit else []

abbrev pub exits_after : ℕ → List Exit → List ℕ
exits_after number exits = flat_map (exit_text number) exits

abbrev pub is_exit_after : ℕ → List Exit → Bool
is_exit_after number [] = false
is_exit_after number (exit ∷ exits) = exit.pages == number || is_exit_after number exits

-- ---- what a page is asked with

-- a command with a value, where that is another than before
abbrev pub value_text : List ℕ → List ℕ → Option ℤ → Option ℤ → List ℕ
value_text start letter old None = []
value_text start letter None (Some value) = start ++ signed_decimal value ++ letter
value_text start letter (Some before) (Some value) = if int_eq before value then [] else start ++ signed_decimal value ++ letter

-- a command with an offset, where that is another than before
abbrev pub offset_command : List ℕ → Option ℤ → Option ℤ → List ℕ
offset_command letter old None = []
offset_command letter None (Some offset) = 27 ∷ codes "&l" ++ offset_text offset ++ letter
offset_command letter (Some before) (Some offset) =
    if int_eq before offset then [] else 27 ∷ codes "&l" ++ offset_text offset ++ letter

-- what asks for an orientation, sides, bins, media and sources where others are asked for already
abbrev pub paper_text : Asked → Asked → List ℕ
paper_text old new =
    value_text (27 ∷ codes "&l") (codes "O") old.orientation new.orientation
    ++ value_text (27 ∷ codes "&l") (codes "S") old.sides new.sides
    ++ value_text (27 ∷ codes "&l") (codes "G") old.output_bin new.output_bin
    ++ value_text (27 ∷ codes "&l") (codes "M") old.media_type new.media_type
    ++ value_text (27 ∷ codes "&l") (codes "H") old.paper_source new.paper_source

-- the same of what only drivers ask for
abbrev pub quality_text : Asked → Asked → List ℕ
quality_text old new =
    value_text (27 ∷ codes "&k") (codes "W") old.text_scale new.text_scale
    ++ value_text (27 ∷ codes "*o") (codes "M") old.print_quality new.print_quality
    ++ value_text (27 ∷ codes "*o") (codes "Q") old.shingling new.shingling
    ++ value_text (27 ∷ codes "*o") (codes "D") old.depletion new.depletion
    ++ value_text (27 ∷ codes "*r") (codes "Q") old.raster_quality new.raster_quality

abbrev pub asked_text : Asked → Asked → List ℕ
asked_text old new = paper_text old new ++ quality_text old new

-- the same of the offsets of the page
abbrev pub offsets_text : Asked → Asked → List ℕ
offsets_text old new =
    offset_command (codes "U") old.left_offset new.left_offset ++ offset_command (codes "Z") old.top_offset new.top_offset

-- the side of the sheet that the next page is asked for
abbrev pub side_text : Option ℤ → List ℕ
side_text side = value_text (27 ∷ codes "&a") (codes "G") None side

-- ---- the start of a page text

-- a parameter of a sequence, where it has a value
abbrev pub parameter_text : List ℕ → Option ℤ → List ℕ
parameter_text letter None = []
parameter_text letter (Some value) = signed_decimal value ++ letter

-- the lines of the default spacing that make a length in units of 1/7200 inch
abbrev pub lines_of : ℤ → ℤ
lines_of length = int_div length (pos 1200)

-- a page text starts with the copies, the size and a top margin of 0
abbrev pub usual_start : Asked → List ℕ
usual_start said =
    27 ∷ codes "&l" ++ signed_decimal (unwrap_or said.copies (pos 1)) ++ codes "x" ++ signed_decimal (unwrap_or said.page_size (pos 2))
    ++ codes "a0E"

-- the same with what was said alone, and with the page length
abbrev pub start_as_said : Asked → List ℕ
start_as_said said =
    27 ∷ codes "&l" ++ parameter_text (codes "x") said.copies ++ parameter_text (codes "a") said.page_size
    ++ parameter_text (codes "p") (option_map lines_of said.page_length) ++ codes "0E"

-- copies and a size were said, and no length
abbrev pub is_usual : Asked → Bool
is_usual said = is_some said.copies && (is_some said.page_size && is_none said.page_length)

-- a page text of what was said that says a part of that
abbrev pub fitted : Asked → Asked → List ℕ → List ℕ
fitted part said text = if is_usual part then text else start_as_said part ++ drop (length (usual_start said)) text

-- whether a value is another than before
abbrev pub is_new : Option ℤ → Option ℤ → Bool
is_new old None = false
is_new None (Some value) = true
is_new (Some before) (Some value) = not (int_eq before value)

-- the value, where it is another than before
abbrev pub new_value : Option ℤ → Option ℤ → Option ℤ
new_value old new = if is_new old new then new else None

-- What a page text says of copies and paper: all of it with a size, which is said where it is another than before, and where it was said
-- between the two pages; else what is another than before.
abbrev pub part_to_say : Asked → AskedPage → Asked
part_to_say before page =
    if is_some page.start.size || is_new before.page_size page.said.page_size then page.said
    else record page.said {
      copies = new_value before.copies page.said.copies;
      page_size = None;
      page_length = new_value before.page_length page.said.page_length;
    }

-- what is asked for already and needn't be said: not sides and a source that were said between the two pages
abbrev pub still_asked : PageStart → Asked → Asked
still_asked start before = record before {
  sides = if is_some start.sides then None else before.sides;
  paper_source = if is_some start.source then None else before.paper_source;
}

-- ---- a job

-- a page of which nothing was asked
abbrev pub plain_page : AskedPage
plain_page = record { said = nothing_asked; start = next_page }

abbrev pub asked_at : Asks → ℕ → AskedPage
asked_at asks number = get_or asks.pages number plain_page

-- something puts the printer back to its defaults before the page of this number, from 0
abbrev pub is_reset_before : Asks → ℕ → Bool
is_reset_before asks number = number == 0 || (is_exit_after number asks.exits || (asked_at asks number).start.is_first)

-- a reset before the first page, and before one where nothing else puts the printer back
abbrev pub has_reset : Asks → ℕ → Bool
has_reset asks number = number == 0 || (not (is_exit_after number asks.exits) && (asked_at asks number).start.is_first)

abbrev pub reset_text : Asks → ℕ → List ℕ
reset_text asks number = if has_reset asks number then frame_bytes else []

-- what is asked for already before a page: what the page before it asks for, unless the printer is put back between them
abbrev pub asked_before : Asks → ℕ → Asked
asked_before asks number = if is_reset_before asks number then nothing_asked else (asked_at asks (number - 1)).said

-- what stands before the text of the page of this number, from 0; offsets last, since printers turn them by the side of the sheet
abbrev pub page_start : Asks → ℕ → List ℕ
page_start asks number =
    exits_after number asks.exits ++ reset_text asks number
    ++ asked_text (still_asked (asked_at asks number).start (asked_before asks number)) (asked_at asks number).said
    ++ side_text (asked_at asks number).start.sheet_side ++ offsets_text (asked_before asks number) (asked_at asks number).said

-- a text of the page of this number that says what was said of it
abbrev pub as_said : Asks → ℕ → List ℕ → List ℕ
as_said asks number text = fitted (part_to_say (asked_before asks number) (asked_at asks number)) (asked_at asks number).said text

-- what separates the job from the next, before the printer is put back
abbrev pub separation_text : Option ℤ → List ℕ
separation_text value = value_text (27 ∷ codes "&l") (codes "T") None value

-- a reset after the last page, unless universal exits stand there
abbrev pub end_reset : Bool → List ℕ
end_reset has_exit = if has_exit then [] else frame_bytes

-- what stands after the last of this many pages
abbrev pub job_end : Asks → ℕ → List ℕ
job_end asks zero = exits_after 0 asks.exits ++ frame_bytes ++ frame_bytes
job_end asks (suc before) =
    separation_text asks.separation ++ exits_after (suc before) asks.exits ++ end_reset (is_exit_after (suc before) asks.exits)

-- texts of the pages from a number on
abbrev pub asked_pages : Asks → ℕ → List (List ℕ) → List ℕ
asked_pages asks number [] = []
asked_pages asks number (text ∷ texts) =
    page_start asks number ++ as_said asks number text ++ asked_pages asks (suc number) texts

-- a job that asks for this, with these texts of its pages
abbrev pub asked_job : Asks → List (List ℕ) → List ℕ
asked_job asks texts = asked_pages asks 0 texts ++ job_end asks (length texts)
