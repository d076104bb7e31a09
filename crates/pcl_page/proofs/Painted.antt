-- What is inked: black over what was there, and a row that was decoded and painted.
use Rattle.std.proofs.Common.{◌≡◌, ℕ, ◌+◌, ◌*◌, Bool, true, false, cond, ◌||◌, List, ◌++◌, length, take, drop, refl, arith}
use Rattle.pcl_page.proofs.Names.{take_at, raster_dot, Raster, row_mark, is_below_height}

-- black over another ink
pub or_is : (covered before : Bool) → (covered || before) ≡ cond covered true before
or_is covered before = grind arith

-- bytes that were written over a whole buffer
pub written : {new : List ℕ} (items : List ℕ) {len : ℕ} → length new ≡ len → take len (new ++ drop (length new) items) ≡ new
written {new} items {len} e = take_at new (drop (length new) items) len e

-- a row below the height
pub painted_dot : (r : Raster) {row sent : List ℕ} {place : ℕ} (x y : ℕ) (before : Bool) {after : Bool}
    → after ≡ (raster_dot r.left place r.scale r.width sent x y || before)
    → is_below_height r.height r.rows ≡ true → place ≡ r.top + r.rows * r.scale → sent ≡ row
    → after ≡ ((row_mark row r).covers x y || before)
painted_dot r x y before e below p s = rw (e, p, s, below) refl

-- a row past the height
pub unpainted_dot : (r : Raster) (row : List ℕ) (x y : ℕ) {before : Bool} → is_below_height r.height r.rows ≡ false
    → before ≡ ((row_mark row r).covers x y || before)
unpainted_dot r row x y below = rw below refl
