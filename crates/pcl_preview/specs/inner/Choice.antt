-- A sink that keeps one page.
use Rattle.std.specs.Prelude.{ℕ, ◌-◌, ◌==◌, if◌then◌else◌, Option, Some, None}
use Rattle.pcl_bitmap.specs.Bitmap.{Picture}
use Rattle.pcl_preview.specs.declared.page_preview.Chosen.{Chosen}

-- the sink after a page
abbrev pub chosen_after : Option ℕ → Chosen → Picture → Chosen
chosen_after None old picture = old
chosen_after (Some more) old picture =
    if more == 0 then record { skip = None; kept = Some picture } else record { skip = Some (more - 1); kept = old.kept }
