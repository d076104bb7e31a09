-- The flat list of a job: its commands as they are performed, those of macros among them, and where a macro begins and ends.
use Rattle.std.specs.Prelude.{◌≡◌, ℕ, zero, suc, ◌+◌, ◌-◌, ◌&&◌, Bool, true, false, not, is_some, if◌then◌else◌, List, [], ◌∷◌, length, take, drop, Option, Some, None, Result, Ok, Err}
use Rattle.pcl_base.specs.declared.dpi.Dpi.{Dpi}
use Rattle.pcl_base.specs.declared.kind.Kind.{Kind}
use Rattle.pcl_base.specs.declared.kind.Kind.TheVariants.{MacroDepth}
use Rattle.pcl_base.specs.declared.operation.Operation.{Operation}
use Rattle.pcl_base.specs.declared.operation.Operation.TheVariants.{ControlMacros}
use Rattle.pcl_base.specs.declared.profile.Profile.{Profile}
use Rattle.pcl_base.specs.declared.refusal.Refusal.{Refusal}
use Rattle.pcl_base.specs.declared.value.Value.{Value}
use Rattle.pcl_base.specs.Limits.{macro_limit}
use Rattle.pcl_base.specs.Operation.{operation_of}
use Rattle.pcl_base.specs.Refusal.{refusal}
use Rattle.pcl_env.specs.Offset.{lie_together}
use Rattle.pcl_env.specs.Settings.{kept, restored}
use Rattle.pcl_escape.specs.Said.{Said}
use Rattle.pcl_macros.specs.History.{MacroBody}
use Rattle.pcl_page.specs.declared.macros.Action.{Action}
use Rattle.pcl_page.specs.declared.macros.Action.TheVariants.{Execute, Call}
use Rattle.pcl_page.specs.declared.macros.Keeping.{Keeping}
use Rattle.pcl_page.specs.declared.macros.Keeping.TheVariants.{Kept}
use Rattle.pcl_page.specs.Situation.{Situation, at_start, is_marked, end_raster, with_lasting}
use Rattle.pcl_page.specs.Macros.{action_of, keeping_of, after_command, macro_now}
use Rattle.pcl_page.specs.Performing.{Performance, then_on, after_end, performance}

-- ---- a flat list, and the situation after it

-- A command with its place in the job's list of commands; the start of a macro that is run; the end of one that was executed; and
-- the end of one that was called, with how many items stand between its start and this. A list has its newest item first.
pub data Item : Type 0 where
  performed : ℕ → Said → Item
  enter : Item
  leave : Item
  return : ℕ → Item

-- what a command leads to; one that is refused leaves the situation as it is
abbrev pub or_as_before : Situation → Result Situation Kind → Situation
or_as_before s (Ok later) = later
or_as_before s (Err kind) = s

-- a call's end ends the raster; and everything is set as it was when the macro began, but the page size, the cursor and its stack; a page
-- that is marked and moved by that has dots at two offsets
abbrev pub returned : Dpi → Situation → Situation → Situation
returned dpi entered s =
    with_lasting (is_marked s && not (lie_together s.settings.asked entered.settings.asked))
    (record (end_raster dpi s) { settings = restored (kept entered.settings) (end_raster dpi s).settings })

-- the newest of some situations, and the one this many items before it
abbrev pub newest : Profile → List Situation → Situation
newest profile [] = at_start profile
newest profile (s ∷ past) = s

abbrev pub ago : Profile → ℕ → List Situation → Situation
ago profile zero past = newest profile past
ago profile (suc items) [] = at_start profile
ago profile (suc items) (s ∷ past) = ago profile items past

-- the situation after one item more, by those after the items before it, the newest first
abbrev pub after_item : Profile → Dpi → Item → List Situation → Situation
after_item profile dpi (performed place command) past =
    or_as_before (newest profile past) (after_command dpi place command (newest profile past))
after_item profile dpi enter past = newest profile past
after_item profile dpi leave past = newest profile past
after_item profile dpi (return items) past = returned dpi (ago profile items past) (newest profile past)

-- the situations after a list, after the list without its newest item, and so on to the empty one
abbrev pub situations : Profile → Dpi → List Item → List Situation
situations profile dpi [] = at_start profile ∷ []
situations profile dpi (item ∷ older) = after_item profile dpi item (situations profile dpi older) ∷ situations profile dpi older

abbrev pub now : Profile → Dpi → List Item → Situation
now profile dpi items = newest profile (situations profile dpi items)

-- ---- unfolding

-- a flat list, and why it doesn't go on, where a command is refused
pub record Unfolding : Type 0 where
  pub items : List Item
  pub refusal : Option Refusal

abbrev pub unrefused : List Item → Unfolding
unrefused items = record { items = items; refusal = None }

abbrev pub refused : Kind → Said → List Item → Unfolding
refused kind command items = record { items = items; refusal = Some (refusal kind command.at command.name) }

-- what comes next, where nothing is refused
abbrev pub unfold_unless : Option Refusal → List Item → (List Item → Unfolding) → Unfolding
unfold_unless None items next = next items
unfold_unless (Some why) items next = record { items = items; refusal = Some why }

abbrev pub and_on : Unfolding → (List Item → Unfolding) → Unfolding
and_on first next = unfold_unless first.refusal first.items next

-- commands in order, of which the first stands at this place
abbrev pub in_turn : (ℕ → Said → List Item → Unfolding) → ℕ → List Said → List Item → Unfolding
in_turn add place [] items = unrefused items
in_turn add place (command ∷ commands) items = and_on (add place command items) (in_turn add (place + 1) commands)

-- ---- one command

-- a command that an open definition keeps isn't performed
abbrev pub keeps : Keeping → Bool
keeps Kept = true
keeps other = false

abbrev pub is_kept : Said → Situation → Bool
is_kept command s = is_some s.begun && keeps (keeping_of (operation_of command.name) command.value)

-- the macro control that a command is, outside of definitions
abbrev pub control_in : Option Operation → Value → Option Action
control_in (Some ControlMacros) value = action_of value
control_in other value = None

abbrev pub macro_control : Said → Situation → Option Action
macro_control command s = if is_some s.begun then None else control_in (operation_of command.name) command.value

-- the body that it runs, if any: that of the macro whose ID is set then
abbrev pub body_run : Option Action → Situation → Option MacroBody
body_run (Some Execute) s = macro_now s
body_run (Some Call) s = macro_now s
body_run other s = None

-- the end of a macro that began this many items ago
abbrev pub end_of : Option Action → ℕ → Item
end_of (Some Call) items = return items
end_of other items = leave

-- the commands of a body, among all commands of the job
abbrev pub body_said : List Said → MacroBody → List Said
body_said all body = take (body.to - body.from) (drop body.from all)

-- what unfolding a body adds after its start: by a command and the control that it is
abbrev pub Bodies : Type 0
Bodies = Said → Option Action → MacroBody → List Item → Unfolding

abbrev pub with_body : Bodies → Said → Option Action → Option MacroBody → List Item → Unfolding
with_body bodies command control None items = unrefused items
with_body bodies command control (Some body) items = bodies command control body items

-- a command that is this macro control, if any, by what it leads to
abbrev pub with_command : Bodies → ℕ → Said → Option Action → Result Situation Kind → List Item → Unfolding
with_command bodies place command control (Err kind) items = refused kind command items
with_command bodies place command control (Ok later) items =
    with_body bodies command control (body_run control later) (performed place command ∷ items)

abbrev pub add : Profile → Dpi → Bodies → ℕ → Said → List Item → Unfolding
add profile dpi bodies place command items =
    if is_kept command (now profile dpi items) then unrefused items
    else with_command bodies place command (macro_control command (now profile dpi items))
    (after_command dpi place command (now profile dpi items)) items

-- ---- macros

-- the end of a body is put after what was unfolded of it
abbrev pub ended_by : Option Action → List Item → List Item → Unfolding
ended_by control begun items = unrefused (end_of control (length items - length begun) ∷ items)

-- A macro that a command runs, with this many levels left: its start, its commands in order, each with one level less, and its end.
-- Where no level is left the command is refused.
abbrev pub unfolded : ℕ → Profile → Dpi → List Said → Bodies
unfolded zero profile dpi all command control body items = refused MacroDepth command items
unfolded (suc levels) profile dpi all command control body items =
    and_on (in_turn (add profile dpi (unfolded levels profile dpi all)) body.from (body_said all body) (enter ∷ items))
    (ended_by control (enter ∷ items))

-- ---- a job

-- the flat list of some commands
abbrev pub flat_list : Profile → Dpi → List Said → Unfolding
flat_list profile dpi commands = in_turn (add profile dpi (unfolded macro_limit profile dpi commands)) 0 commands []

-- what it says of performing them
abbrev pub performed_by : Profile → Dpi → Unfolding → Performance
performed_by profile dpi u = record { situation = now profile dpi u.items; refusal = u.refusal }

-- performing commands by a profile, and then the input's end, leads to the situation after their flat list, and is refused where that
-- doesn't go on
abbrev pub PerformingIsUnfolding : Type 0
PerformingIsUnfolding = (profile : Profile) (dpi : Dpi) (end : ℕ) (commands : List Said)
    → performance profile dpi end commands ≡ then_on (performed_by profile dpi (flat_list profile dpi commands)) (after_end dpi end)
