-- Commands in few bytes: places in the job stand for their data.
use Rattle.std.specs.Prelude.{ℕ, ◌==◌, if◌then◌else◌, List, [], ◌∷◌, map, take, drop}
use Rattle.pcl_base.specs.declared.name.Name.{Name}
use Rattle.pcl_base.specs.declared.name.Name.TheVariants.{Empty, One, Two, Three}
use Rattle.pcl_escape.specs.declared.item.Item.{Item}
use Rattle.pcl_escape.specs.Said.{Said}

-- a name of one byte or more from its bytes, of which those past its length are 0
abbrev pub name_with : List ℕ → Name
name_with (first ∷ second ∷ third ∷ []) =
    if third == 0 then (if second == 0 then One first else Two first second) else Three first second third
name_with other = Empty

-- the bytes of the job from a place on, this many of them
abbrev pub bytes_in : List ℕ → ℕ → ℕ → List ℕ
bytes_in job begin len = take len (drop begin job)

-- what an item says of a command of the job
abbrev pub said_in : List ℕ → Item → Said
said_in job item = record {
  at = item.at;
  name = name_with item.name;
  value = record { sign = item.sign; parts = item.parts };
  bytes = bytes_in job item.begin item.len;
}

-- the same of all items
abbrev pub all_said_in : List ℕ → List Item → List Said
all_said_in job items = map (said_in job) items
