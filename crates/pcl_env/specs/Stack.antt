-- Cited by contracts of private functions alone: a stack of positions, the newest first.
use Rattle.std.specs.Prelude.{nat_lt, if◌then◌else◌, length, List, [], ◌∷◌, Option, Some, None}
use Rattle.pcl_base.specs.Limits.{stack_limit}
use Rattle.pcl_env.specs.declared.stack.Position.{Position as Place}
use Rattle.pcl_env.specs.Settings.{Position}

abbrev pub position_of : Place → Position
position_of place = record { x = place.x; y = place.y }

-- one position more, where the stack isn't full
abbrev pub kept_with : Position → List Position → List Position
kept_with place places = if nat_lt (length places) stack_limit then place ∷ places else places

abbrev pub newest_of : List Position → Option Position
newest_of [] = None
newest_of (place ∷ older) = Some place

abbrev pub older_of : List Position → List Position
older_of [] = []
older_of (place ∷ older) = older
