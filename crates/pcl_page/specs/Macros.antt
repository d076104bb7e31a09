-- Macros: what an open definition does with a command, what a macro control does, and which macro it runs.
use Rattle.std.specs.Prelude.{ℕ, ◌+◌, ◌==◌, ◌&&◌, Bool, true, false, not, is_some, if◌then◌else◌, ◌∷◌, Option, Some, None, Result, Ok, Err}
use Rattle.std.specs.Option.{option_map, option_and_then}
use Rattle.pcl_base.specs.declared.dpi.Dpi.{Dpi}
use Rattle.pcl_base.specs.declared.kind.Kind.{Kind}
use Rattle.pcl_base.specs.declared.kind.Kind.TheVariants.{UnsupportedValue, MacroOpen, MacroControl as OutOfPlace}
use Rattle.pcl_base.specs.declared.operation.Operation.{Operation}
use Rattle.pcl_base.specs.declared.operation.Operation.TheVariants.{Reset, UniversalExit, ControlMacros}
use Rattle.pcl_base.specs.declared.value.Value.{Value}
use Rattle.pcl_base.specs.Operation.{operation_of}
use Rattle.pcl_base.specs.Value.{count_of}
use Rattle.pcl_env.specs.Settings.{Settings, kept, restored}
use Rattle.pcl_env.specs.Offset.{lie_together}
use Rattle.pcl_escape.specs.Said.{Said}
use Rattle.pcl_macros.specs.declared.table.MacroControl.TheVariants.{All, Temporary, One, MakeTemporary, MakePermanent}
use Rattle.pcl_macros.specs.History.{MacroEvent, MacroBody, defined, control, body_after}
use Rattle.pcl_macros.specs.Table.{Begun}
use Rattle.pcl_page.specs.declared.macros.Action.{Action}
use Rattle.pcl_page.specs.declared.macros.Action.TheVariants.{Begin, End, Execute, Call, Control}
use Rattle.pcl_page.specs.declared.macros.Keeping.{Keeping}
use Rattle.pcl_page.specs.declared.macros.Keeping.TheVariants.{Kept, Ends, Refused}
use Rattle.pcl_page.specs.Situation.{Situation, is_marked, end_raster, with_lasting, ◌|>◌, after, counted_in_limit, within_page_limit}

-- what a macro control does, by its number
abbrev pub action_of : Value → Option Action
action_of value = option_and_then (λ n.
    if n == 0 then Some Begin
    else (if n == 1 then Some End
    else (if n == 2 then Some Execute
    else (if n == 3 then Some Call
    else (if n == 6 then Some (Control All)
    else (if n == 7 then Some (Control Temporary)
    else (if n == 8 then Some (Control One)
    else (if n == 9 then Some (Control MakeTemporary)
    else (if n == 10 then Some (Control MakePermanent) else None))))))))) (count_of value)

-- ---- in a definition

-- a definition keeps what runs macros, and no other macro control but its own end
abbrev pub control_keeping : Option Action → Keeping
control_keeping (Some End) = Ends
control_keeping (Some Execute) = Kept
control_keeping (Some Call) = Kept
control_keeping other = Refused OutOfPlace

-- it keeps every other command but resets
abbrev pub keeping_of : Option Operation → Value → Keeping
keeping_of (Some Reset) value = Refused MacroOpen
keeping_of (Some UniversalExit) value = Refused MacroOpen
keeping_of (Some ControlMacros) value = control_keeping (action_of value)
keeping_of other value = Kept

-- ---- macro controls

-- one thing more became of the macros: a definition that has ended, or a control
abbrev pub with_macro_event : MacroEvent → Situation → Situation
with_macro_event event s = record s { macros = event ∷ s.macros }

-- the definition that is open ends before this place; an end is refused where none is open
abbrev pub definition_ended : ℕ → Option Begun → Situation → Result Situation Kind
definition_ended place None s = Err OutOfPlace
definition_ended place (Some d) s = Ok (record s { macros = defined d.id d.from place ∷ s.macros; begun = None })

-- A definition of the macro whose ID is set begins after the command at this place. A number that says nothing is a value that isn't
-- taken; running a macro is what follows the command.
abbrev pub acted : ℕ → Option Action → Situation → Result Situation Kind
acted place None s = Err UnsupportedValue
acted place (Some Begin) s = Ok (record s { begun = Some (record { id = s.settings.macro_id; from = place + 1 }) })
acted place (Some End) s = definition_ended place s.begun s
acted place (Some (Control what)) s = Ok (with_macro_event (control what s.settings.macro_id) s)
acted place other s = Ok s

-- the macro whose ID is set, where it is there
abbrev pub macro_now : Situation → Option MacroBody
macro_now s = body_after s.macros s.settings.macro_id

-- a macro control changes what stays in the printer: all macros, or one that the job didn't define; and a macro that the job didn't define
-- may stand in the printer, where it is run
abbrev pub macro_lasts : Action → Bool → Bool
macro_lasts Begin is_defined = false
macro_lasts End is_defined = false
macro_lasts (Control All) is_defined = true
macro_lasts (Control Temporary) is_defined = false
macro_lasts other is_defined = not is_defined

-- it is noted where a macro control changes what stays in the printer, or counts on it
abbrev pub lasting_by : Option Action → Situation → Situation
lasting_by None s = s
lasting_by (Some action) s = with_lasting (macro_lasts action (is_some (macro_now s))) s

-- what the command at a place does to macros and definitions; a reset deletes the temporary macros
abbrev pub after_macros : ℕ → Option Operation → Value → Situation → Result Situation Kind
after_macros place (Some Reset) value s = Ok (with_macro_event (control Temporary 0) s)
after_macros place (Some UniversalExit) value s = Ok (with_macro_event (control Temporary 0) s)
after_macros place (Some ControlMacros) value s = acted place (action_of value) (lasting_by (action_of value) s)
after_macros place other value s = Ok s

-- ---- one command

-- a command that counts, at this place in the list of commands: the page that it ejects is among the pages, and then macros follow
abbrev pub after_counted : Dpi → ℕ → Said → Situation → Result Situation Kind
after_counted dpi place command s =
    counted_in_limit s |> after dpi (operation_of command.name) command |> within_page_limit
    |> after_macros place (operation_of command.name) command.value

-- a command in a definition: one that is kept changes nothing, and doesn't count
abbrev pub defining : Dpi → ℕ → Keeping → Said → Situation → Result Situation Kind
defining dpi place Kept command s = Ok s
defining dpi place Ends command s = after_counted dpi place command s
defining dpi place (Refused kind) command s = Err kind

-- the situation after a command, or why it is refused, but for a macro that it runs
abbrev pub after_command : Dpi → ℕ → Said → Situation → Result Situation Kind
after_command dpi place command s =
    if is_some s.begun then defining dpi place (keeping_of (operation_of command.name) command.value) command s
    else after_counted dpi place command s

-- ---- macros that run

-- a macro that runs: the place of its next command, the place after its last one, and what is set again at its end, where it
-- was called
pub record Run : Type 0 where
  pub next : ℕ
  pub end : ℕ
  pub saved : Option Settings

-- a macro from its first command on, with the settings to put back at its end, where it was called
abbrev pub run_with : Option Settings → MacroBody → Run
run_with saved body = record { next = body.from; end = body.to; saved = saved }

-- a call keeps the settings
abbrev pub run_by : Option Action → Situation → Option Run
run_by (Some Execute) s = option_map (run_with None) (macro_now s)
run_by (Some Call) s = option_map (run_with (Some (kept s.settings))) (macro_now s)
run_by other s = None

-- the macro that a macro control runs, where it is there; other commands run none
abbrev pub run_from : Option Operation → Value → Situation → Option Run
run_from (Some ControlMacros) value s = run_by (action_of value) s
run_from other value s = None

-- the macro that a command runs, by the situations before it and after it; one in a definition runs none
abbrev pub run_of : Said → Situation → Situation → Option Run
run_of command s later = if is_some s.begun then None else run_from (operation_of command.name) command.value later

-- A call's end ends the raster, and all is set as before the call but the page size, the cursor and its stack. Where that moves a page
-- that is marked, its dots lie at two offsets, as no other job's.
abbrev pub macro_ended : Dpi → Option Settings → Situation → Situation
macro_ended dpi None s = s
macro_ended dpi (Some saved) s =
    with_lasting (is_marked s && not (lie_together s.settings.asked saved.asked))
    (record (end_raster dpi s) { settings = restored saved (end_raster dpi s).settings })
