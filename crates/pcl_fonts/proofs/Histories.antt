-- Tables of fonts along a history.
use Rattle.std.proofs.Common.{List, ◌∷◌}
use Rattle.pcl_fonts.proofs.Names.{FontEvent, FontTable, Holds, Follows}

-- a table that holds what a history leaves holds what is left after one event more
pub holds_after : {old new : FontTable} {event : FontEvent} {history : List FontEvent} → Follows old new event → Holds old history
    → Holds new (event ∷ history)
holds_after f h = record { fonts = λ id. rw (f.fonts, h.fonts); characters = λ id code. rw (f.characters, h.fonts, h.characters) }
