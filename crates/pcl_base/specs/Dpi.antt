-- Resolutions: a unit is 1/7200 inch.
use Rattle.std.specs.Prelude.{ℕ}
use Rattle.pcl_base.specs.declared.dpi.Dpi.{Dpi}
use Rattle.pcl_base.specs.declared.dpi.Dpi.TheVariants.{Dpi300, Dpi600}

-- how many dots an inch has
abbrev pub dots_per_inch : Dpi → ℕ
dots_per_inch Dpi300 = 300
dots_per_inch Dpi600 = 600

-- how many units a dot is wide and high
abbrev pub units_per_dot : Dpi → ℕ
units_per_dot Dpi300 = 24
units_per_dot Dpi600 = 12

-- how many times as fine as 300 dots per inch
abbrev pub fineness : Dpi → ℕ
fineness Dpi300 = 1
fineness Dpi600 = 2
