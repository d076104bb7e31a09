-- The model of a window.
use Rattle.std.specs.Prelude.{◌-◌, length, take, drop}
use Rattle.pcl_coders.specs.Windows.{Numbers, IsQueue}
use Rattle.pcl_coders.specs.declared.window.Window.TheInside.{Inside}

abbrev pub window_view : Inside → Numbers
window_view a = record { numbers = drop a.taken (take a.put a.numbers.now); room = length a.numbers.now - a.put }

abbrev pub IsWindow : Inside → Type 0
IsWindow a = IsQueue a.numbers.now a.places.now a.taken a.put a.first a.stop
