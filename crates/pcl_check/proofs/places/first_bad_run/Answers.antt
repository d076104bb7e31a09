use Rattle.std.proofs.Common.{◌≡◌, ◌-◌, length, arith}
use Rattle.pcl_check.proofs.Names.{IsNotUndercut, AreGoodRuns}
use Rattle.pcl_check.proofs.PlacesFound.{finds_place_too}
use Rattle.pcl_check.proofs.PlaceKinds.{runs_by_window, window_by_runs}
use Rattle.pcl_check.proofs.places.first_bad_run.Goals as goal

pub returns : goal.returns
returns c =
    let row = c.args.row.now in
    let numbers = c.args.numbers.now in
    let last : length numbers - 1 ≡ length row = omega (arith, c.requires.size) in
    finds_place_too (IsNotUndercut numbers numbers c.fill_run_stops.new.ends 2 c.args.most) (AreGoodRuns row numbers c.args.most)
    c.first_undercut.result (λ place le. runs_by_window numbers c.fill_run_stops.ensures)
    (λ place le. window_by_runs numbers c.fill_run_stops.ensures le) (rw (c.widen.ensures, last) at c.first_undercut.ensures)
