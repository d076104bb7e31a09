-- The universal exits that count of a job.
use Rattle.std.proofs.Common.{◌≡◌, ℕ, zero, suc, ◌-◌, Bool, true, false, List, [], ◌∷◌, length, map, take, drop, refl, ap}
use Rattle.pcl_same.proofs.Names.{length-map, exit_of, counted_exits, is_end}
use Rattle.pcl_page.specs.declared.asks.Exit.{Exit as ExitOfCode}
use Rattle.pcl_same.specs.declared.asking.LastExit.{LastExit}
use Rattle.pcl_same.specs.declared.asking.LastExit.TheVariants.{Ends}

map_take : {A B : Type 0} (f : A → B) (n : ℕ) (xs : List A) → map f (take n xs) ≡ take n (map f xs)
map_take f zero xs = refl
map_take f (suc n) [] = refl
map_take f (suc n) (x ∷ xs) = ap (λ rest. f x ∷ rest) (map_take f n xs)

-- whether the last one ends the job
abbrev ends : ℕ → List ExitOfCode → Bool
ends pages exits = is_end pages (drop (length exits - 1) (map exit_of exits))

pub without_end : {last : LastExit} (pages : ℕ) (exits : List ExitOfCode) → last ≡ Ends → ends pages exits ≡ true
    → map exit_of (take (length exits - 1) exits) ≡ counted_exits last pages (map exit_of exits)
without_end pages exits is it = rw (is, length-map exits exit_of, it, map_take exit_of (length exits - 1) exits) refl

pub with_end : {last : LastExit} (pages : ℕ) (exits : List ExitOfCode) → last ≡ Ends → ends pages exits ≡ false
    → map exit_of exits ≡ counted_exits last pages (map exit_of exits)
with_end pages exits is it = rw (is, length-map exits exit_of, it) refl
