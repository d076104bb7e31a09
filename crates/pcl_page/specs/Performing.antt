-- What performing a job does: how far it comes, what it refuses, and which pages it hands over.
use Rattle.std.specs.Prelude.{◌≡◌, ℕ, zero, suc, ◌+◌, ◌-◌, ◌<◌, is_some, if◌then◌else◌, List, [], ◌∷◌, take, drop, Option, Some, None, Result, Ok, Err}
use Rattle.pcl_base.specs.declared.dpi.Dpi.{Dpi}
use Rattle.pcl_base.specs.declared.kind.Kind.{Kind}
use Rattle.pcl_base.specs.declared.kind.Kind.TheVariants.{MacroOpen, MacroDepth}
use Rattle.pcl_base.specs.declared.name.Name.TheVariants.{Empty}
use Rattle.pcl_base.specs.declared.profile.Profile.{Profile}
use Rattle.pcl_base.specs.declared.refusal.Refusal.{Refusal}
use Rattle.pcl_base.specs.Limits.{macro_limit}
use Rattle.pcl_base.specs.Refusal.{refusal}
use Rattle.pcl_base.specs.Size.{page_width, page_height}
use Rattle.pcl_bitmap.specs.Bitmap.{dot}
use Rattle.pcl_escape.specs.Said.{Said}
use Rattle.pcl_bitmap.specs.declared.page.Page.{Page}
use Rattle.pcl_page.specs.Asks.{Asks}
use Rattle.pcl_page.specs.Marks.{is_black}
use Rattle.pcl_page.specs.Situation.{Sheet, Situation, at_start, at_end, page_refusal}
use Rattle.pcl_page.specs.Macros.{Run, after_command, run_of, macro_ended}

-- ---- pages handed over

-- the page shows what the job means, dot for dot
pub record Shows (dpi : Dpi) (page : Page) (sheet : Sheet) : Type 0 where
  pub size : page.size ≡ sheet.size
  pub resolution : page.dpi ≡ dpi
  pub copies : page.copies ≡ sheet.copies
  pub dots : (x y : ℕ) → x < page_width sheet.size dpi → y < page_height sheet.size dpi → dot page.bitmap x y ≡ is_black sheet.marks x y

-- ---- commands in order

-- where performing has led, and why it stopped there, if it did
pub record Performance : Type 0 where
  pub situation : Situation
  pub refusal : Option Refusal

-- performing has led here, and nothing was refused
abbrev pub done : Situation → Performance
done s = record { situation = s; refusal = None }

-- the refusal of a command names it
abbrev pub stopped : Kind → Said → Situation → Performance
stopped kind command s = record { situation = s; refusal = Some (refusal kind command.at command.name) }

-- what is performed next follows only where nothing was refused
abbrev pub unless : Option Refusal → Situation → (Situation → Performance) → Performance
unless None s next = next s
unless (Some why) s next = record { situation = s; refusal = Some why }

-- one part of a job is performed, and then the next, unless the first is refused
abbrev pub then_on : Performance → (Situation → Performance) → Performance
then_on first next = unless first.refusal first.situation next

-- commands in order, of which the first stands at this place
abbrev pub in_order : (ℕ → Said → Situation → Performance) → ℕ → List Said → Situation → Performance
in_order step place [] s = done s
in_order step place (command ∷ commands) s = then_on (step place command s) (in_order step (place + 1) commands)

-- a command by what it led to; a refused one leaves the situation as it was before it
abbrev pub led_to : Said → Situation → Result Situation Kind → Performance
led_to command s (Ok later) = done later
led_to command s (Err kind) = stopped kind command s

-- ---- macros

-- what a command does, and then the macro that it runs, if any, by what running a macro does
abbrev pub and_run : (Run → Situation → Performance) → Option Run → Situation → Performance
and_run runs None s = done s
and_run runs (Some run) s = runs run s

-- the command at a place in the list of commands, and then the macro that it runs, if any
abbrev pub step : Dpi → (Said → Run → Situation → Performance) → ℕ → Said → Situation → Performance
step dpi runs place command s =
    then_on (led_to command s (after_command dpi place command s)) (λ later. and_run (runs command) (run_of command s later) later)

-- the commands that a macro has left, among all commands of the job
abbrev pub commands_left : List Said → Run → List Said
commands_left all run = take (run.end - run.next) (drop run.next all)

-- A macro that a command runs, with this many levels left: its commands in order, each with one level less, and then its end.
-- Where no level is left the command is refused.
abbrev pub runs : ℕ → Dpi → List Said → Said → Run → Situation → Performance
runs zero dpi all command run s = stopped MacroDepth command s
runs (suc levels) dpi all command run s =
    then_on (in_order (step dpi (runs levels dpi all)) run.next (commands_left all run) s) (λ later. done (macro_ended dpi run.saved later))

-- ---- whole jobs

-- the input's end is refused in a definition
abbrev pub end_refusal : Dpi → Situation → Option Kind
end_refusal dpi s = if is_some s.begun then Some MacroOpen else page_refusal (at_end dpi s)

-- the end of an input of this length, by why it is refused
abbrev pub ended : Dpi → ℕ → Option Kind → Situation → Performance
ended dpi end None s = done (at_end dpi s)
ended dpi end (Some kind) s = record { situation = s; refusal = Some (refusal kind end Empty) }

-- the end of an input of this many bytes: it acts as a reset, or is refused
abbrev pub after_end : Dpi → ℕ → Situation → Performance
after_end dpi end s = ended dpi end (end_refusal dpi s) s

-- the commands of a job that is read by this profile, and then the end of the input, which has this many bytes
abbrev pub performance : Profile → Dpi → ℕ → List Said → Performance
performance profile dpi end commands =
    then_on (in_order (step dpi (runs macro_limit dpi commands)) 0 commands (at_start profile)) (after_end dpi end)

-- what was asked besides dots
abbrev pub asks_among : Performance → Asks
asks_among performance = performance.situation.asks

-- the pages that were ejected
abbrev pub pages_of : Performance → List Sheet
pages_of performance = performance.situation.pages
