use Rattle.std.proofs.Common.{◌≡◌, ◌-◌, length, arith}
use Rattle.pcl_check.proofs.Names.{IsNotUndercut, AreGoodLiterals}
use Rattle.pcl_check.proofs.PlacesFound.{finds_place_too}
use Rattle.pcl_check.proofs.PlaceKinds.{literals_by_window, window_by_literals}
use Rattle.pcl_check.proofs.places.first_bad_literal.Goals as goal

pub returns : goal.returns
returns c =
    let numbers = c.args.numbers.now in
    let sums = c.add_places.new.sums in
    let ends = c.fill_ends.new.ends in
    let size : length ends ≡ length numbers = omega (arith, c.fill_ends.auto.ends, c.requires.room) in
    let wide : length sums - 1 ≡ length numbers - 1 = omega (arith, c.add_places.auto.sums, c.requires.room) in
    finds_place_too (IsNotUndercut sums sums ends 1 128) (AreGoodLiterals numbers) c.first_undercut.result
    (λ place le. literals_by_window numbers sums ends c.add_places.ensures size c.fill_ends.ensures)
    (λ place le.
    window_by_literals numbers sums ends c.add_places.ensures size c.fill_ends.ensures (omega (arith, le, c.requires.some)))
    (rw wide at c.first_undercut.ensures)
