use Rattle.std.proofs.Common.{◌≡◌, ℕ, ◌-◌, length, arith}
use Rattle.pcl_check.proofs.Names.{IsNotUndercut, AreGoodReplacements}
use Rattle.pcl_check.proofs.PlacesFound.{first_of_four, finds_place_too}
use Rattle.pcl_check.proofs.PlaceKinds.{AreKeptStarts, replacements_by_windows, kept_starts}
use Rattle.pcl_check.proofs.places.first_bad_replacement.Goals as goal

pub returns : goal.returns
returns c =
    let row = c.args.row.now in
    let numbers = c.args.numbers.now in
    let sums = c.fill_after_starts.new.sums in
    let ends = c.fill_start_ends.new.ends in
    let last : length numbers - 1 ≡ length row = omega (arith, c.requires.size) in
    let Kept : ℕ → ℕ → ℕ → Type 0 = λ cost most. IsNotUndercut numbers sums ends cost most in
    finds_place_too (AreKeptStarts numbers sums ends) (AreGoodReplacements c.args.old.now row numbers) c.first_place-3.result
    (λ place le. replacements_by_windows sums c.requires.size c.fill_start_ends.ensures c.fill_after_starts.ensures c.requires.small)
    (λ place le. kept_starts sums c.requires.size c.fill_start_ends.ensures c.fill_after_starts.ensures c.requires.same le)
    (first_of_four (Kept 1 31) (Kept 2 286) (Kept 3 541) (Kept 4 796) (length row) _ _ _ _
    (rw (c.widen.ensures, last) at c.first_undercut-one.ensures) (rw (c.widen.ensures, last) at c.first_undercut-two.ensures)
    (rw (c.widen.ensures, last) at c.first_undercut-three.ensures) (rw (c.widen.ensures, last) at c.first_undercut-four.ensures)
    c.first_place.ensures c.first_place-2.ensures c.first_place-3.ensures)
