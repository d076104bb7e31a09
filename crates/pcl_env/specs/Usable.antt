-- What holds of the settings of every job.
use Rattle.std.specs.Prelude.{ℕ, ◌<◌, ◌≤◌, ◌^◌, Bool, IsTrue, [], ◌∷◌}
use Rattle.pcl_base.specs.Limits.{copies_limit}
use Rattle.pcl_base.specs.Size.{units_wide, units_high}
use Rattle.pcl_env.specs.Settings.{Settings}
use Rattle.pcl_env.specs.Outcome.{is_one_of}

-- dots per inch of a raster, at either resolution of the page
abbrev pub is_raster_resolution : ℕ → Bool
is_raster_resolution dots = is_one_of (75 ∷ 100 ∷ 150 ∷ 200 ∷ 300 ∷ 600 ∷ []) dots

-- no more copies than there may be, the cursor within the page, sizes that leave room for sums
pub record IsUsable (s : Settings) : Type 0 where
  pub some_copies : 1 ≤ s.copies
  pub few_copies : s.copies ≤ copies_limit
  pub within_width : s.cursor.x ≤ units_wide s.size
  pub within_height : s.cursor.y ≤ units_high s.size
  pub resolution : IsTrue (is_raster_resolution s.resolution)
  pub rectangle_width : s.rectangle_width < 2 ^ 51
  pub rectangle_height : s.rectangle_height < 2 ^ 51
