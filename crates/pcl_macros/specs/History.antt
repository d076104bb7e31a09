-- The macros that are there after a history of definitions and macro controls, the newest first.
use Rattle.std.specs.Prelude.{ℕ, Bool, true, false, nat_eq, if◌then◌else◌, List, [], ◌∷◌, Option, None, Some, is_some}
use Rattle.std.specs.List.{list_any}
use Rattle.std.specs.Option.{option_map}
use Rattle.pcl_macros.specs.declared.table.MacroControl.{MacroControl}
use Rattle.pcl_macros.specs.declared.table.MacroControl.TheVariants.{All, Temporary, One, MakeTemporary, MakePermanent}

-- a definition that has ended, with its ID and the places from which and before which its commands stand, or a control of
-- macros with the ID of its time
pub data MacroEvent : Type 0 where
  defined : ℕ → ℕ → ℕ → MacroEvent
  control : MacroControl → ℕ → MacroEvent

-- the commands of a macro, from a place in the list of commands and before another
pub record MacroBody : Type 0 where
  pub from : ℕ
  pub to : ℕ
  pub permanent : Bool

-- a macro that was made temporary or permanent
abbrev pub with_permanent : Bool → MacroBody → MacroBody
with_permanent permanent body = record body { permanent = permanent }

-- a macro that a deletion of temporary macros leaves
abbrev pub if_permanent : Option MacroBody → Option MacroBody
if_permanent None = None
if_permanent (Some body) = if body.permanent then Some body else None

-- what an event makes of the body of an ID
abbrev pub body_step : MacroEvent → ℕ → Option MacroBody → Option MacroBody
body_step (defined of from to) id body =
    if nat_eq of id then Some (record { from = from; to = to; permanent = false }) else body
body_step (control All of) id body = None
body_step (control Temporary of) id body = if_permanent body
body_step (control One of) id body = if nat_eq of id then None else body
body_step (control MakeTemporary of) id body = if nat_eq of id then option_map (with_permanent false) body else body
body_step (control MakePermanent of) id body = if nat_eq of id then option_map (with_permanent true) body else body

-- the body of an ID: that of the last definition of it which no later deletion reached
abbrev pub body_after : List MacroEvent → ℕ → Option MacroBody
body_after [] id = None
body_after (event ∷ older) id = body_step event id (body_after older id)

-- the ID that an event is for
abbrev pub id_of : MacroEvent → ℕ
id_of (defined id from to) = id
id_of (control what id) = id

-- a macro is there that is permanent
abbrev pub has_permanent : List MacroEvent → Bool
has_permanent history = list_any (λ event. is_some (if_permanent (body_after history (id_of event)))) history
