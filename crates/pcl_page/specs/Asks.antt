-- What a job asks of the printer besides dots.
use Rattle.std.specs.Prelude.{ℕ, ℤ, pos, Bool, true, false, ◌||◌, is_some, if◌then◌else◌, List, [], ◌∷◌, ◌++◌, map, Option, Some, None}
use Rattle.std.specs.Ordering.{int_eq}
use Rattle.pcl_env.specs.declared.asked.Asked.{Asked}
use Rattle.pcl_page.specs.declared.asks.Asks.{Asks as AsksOfCode}
use Rattle.pcl_page.specs.declared.asks.AskedPage.{AskedPage}
use Rattle.pcl_page.specs.declared.asks.Exit.{Exit as ExitOfCode}
use Rattle.pcl_page.specs.declared.asks.PageStart.{PageStart}

-- a universal exit: how many pages were ejected before it, its own among them, whether a reset stands between the page or the exit before
-- it and itself, and its lines one after the other
pub record Exit : Type 0 where
  pub pages : ℕ
  pub is_reset : Bool
  pub lines : List ℕ

-- What each ejected page was asked with and the universal exits that were performed, both in order; how the next page would begin; whether
-- a reset was performed since the last of these; how the job is separated from the next, where that is said after its last page; whether
-- something counts on what stays in the printer, changes it, ejects a page on some printers, or separates jobs elsewhere; and where that
-- is so, the bytes of the job.
pub record Asks : Type 0 where
  pub pages : List AskedPage
  pub exits : List Exit
  pub next : PageStart
  pub is_reset : Bool
  pub separation : Option ℤ
  pub lasts : Bool
  pub whole : List ℕ

-- a page begins a sheet after a reset, and no side of it is asked for yet
abbrev pub first_page : PageStart
first_page = record { is_first = true; sheet_side = None; size = None; sides = None; source = None }

-- a page after another one, with no reset between them, begins no sheet, and nothing is asked for yet
abbrev pub next_page : PageStart
next_page = record { is_first = false; sheet_side = None; size = None; sides = None; source = None }

-- before the first command of a job: nothing is asked, and the first page begins a sheet
abbrev pub no_asks : Asks
no_asks = record { pages = []; exits = []; next = first_page; is_reset = false; separation = None; lasts = false; whole = [] }

-- one page more, of which this was said; a separation that was said before it wasn't said after the last page
abbrev pub with_page : Asked → Asks → Asks
with_page said asks = record asks {
  pages = asks.pages ++ record { said = said; start = asks.next } ∷ [];
  next = next_page;
  is_reset = false;
  lasts = asks.lasts || is_some asks.separation;
}

-- one universal exit more, after this many pages and with these lines
abbrev pub with_exit : ℕ → List ℕ → Asks → Asks
with_exit pages lines asks = record asks {
  exits = asks.exits ++ record { pages = pages; is_reset = asks.is_reset; lines = lines } ∷ [];
  is_reset = false;
}

-- a reset was performed
abbrev pub with_reset : Asks → Asks
with_reset asks = record asks { is_reset = true }

-- the printer is put back to its defaults
abbrev pub restarted : Asks → Asks
restarted asks = record asks { next = first_page }

-- the next page is asked for on this side of a sheet
abbrev pub with_side : ℤ → Asks → Asks
with_side side asks = record asks { next = record asks.next { sheet_side = Some side } }

-- A size, sides or a paper source said between two pages may begin a new sheet, also where they are what was said before; the first page
-- after a reset begins one anyway.
abbrev pub unless_first : PageStart → PageStart → PageStart
unless_first said start = if start.is_first then start else said

-- the size with this number was said
abbrev pub with_said_size : ℤ → Asks → Asks
with_said_size size asks = record asks { next = unless_first (record asks.next { size = Some size }) asks.next }

-- these sides were said
abbrev pub with_said_sides : ℤ → Asks → Asks
with_said_sides sides asks = record asks { next = unless_first (record asks.next { sides = Some sides }) asks.next }

-- this paper source was said; 0 is none
abbrev pub with_said_source : ℤ → Asks → Asks
with_said_source source asks = record asks {
  next = if int_eq source (pos 0) then asks.next else unless_first (record asks.next { source = Some source }) asks.next;
}

-- jobs are separated by this value: once, and before the printer is put back after a page
abbrev pub with_separation : ℤ → Asks → Asks
with_separation value asks =
    record asks { separation = Some value; lasts = asks.lasts || (asks.next.is_first || is_some asks.separation) }

-- where the test holds, the job does what `lasts` says
abbrev pub lasting_if : Bool → Asks → Asks
lasting_if test asks = record asks { lasts = asks.lasts || test }

-- the same of a job of these bytes, at its end
abbrev pub of_job : List ℕ → Asks → Asks
of_job job asks = record asks { next = first_page; is_reset = false; whole = if asks.lasts then job else [] }

-- ---- the same of the code

abbrev pub exit_of : ExitOfCode → Exit
exit_of exit = record { pages = exit.pages; is_reset = exit.is_reset; lines = exit.lines.now }

abbrev pub asks_of : AsksOfCode → Asks
asks_of asks = record {
  pages = asks.pages.items;
  exits = map exit_of asks.exits.items;
  next = asks.next;
  is_reset = asks.is_reset;
  separation = asks.separation;
  lasts = asks.lasts;
  whole = asks.whole.now;
}
