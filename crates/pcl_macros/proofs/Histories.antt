-- Tables of macros along a history.
use Rattle.std.proofs.Common.{List, ◌∷◌, ap, ◌∙◌}
use Rattle.pcl_macros.proofs.Names.{MacroEvent, body_step, MacroTable, Holds, Follows}

-- a table that holds what a history leaves holds what is left after one event more
pub holds_after : (old new : MacroTable) (event : MacroEvent) (history : List MacroEvent) → Follows old new event → Holds old history
    → Holds new (event ∷ history)
holds_after old new event history f h id = f id ∙ ap (body_step event id) (h id)
