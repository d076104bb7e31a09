-- Which pages are listed by their flags.
use Rattle.std.proofs.Common.{◌≡◌, ℕ, suc, zero, ◌+◌, ◌<◌, ◌==◌, List, [], ◌∷◌, length, take, replicate, get_or, Bool, true, false, if◌then◌else◌, refl, subst, arith}
use Rattle.pcl_preview.proofs.Names.{last_listed, nat_tests}

pub none_listed : (count place : ℕ) → get_or (replicate count false) place false ≡ false
none_listed zero place = refl
none_listed (suc count) zero = refl
none_listed (suc count) (suc place) = none_listed count place

-- a flag before the others
step : (flag more : Bool) (place last longer : ℕ) → longer ≡ (if more then suc place else last)
    → (if longer == 0 then (if flag then 1 else 0) else suc longer)
    ≡ (if more then suc (suc place) else (if last == 0 then (if flag then 1 else 0) else suc last))
step flag true place last longer is = rw is (grind (arith, nat_tests))
step flag false place last longer is = rw is refl

-- the last of some more flags
last_longer : (flags : List Bool) (place : ℕ) → place < length flags
    → last_listed (take (suc place) flags) ≡ (if get_or flags place false then suc place else last_listed (take place flags))
last_longer [] place within = absurd (omega (arith, within))
last_longer (true ∷ flags) zero within = refl
last_longer (false ∷ flags) zero within = refl
last_longer (flag ∷ flags) (suc place) within =
    step flag (get_or flags place false) place (last_listed (take place flags)) _ (last_longer flags place (omega (arith, within)))

pub last_more : (flags : List Bool) (place : ℕ) → place < length flags
    → last_listed (take (place + 1) flags) ≡ (if get_or flags place false then place + 1 else last_listed (take place flags))
last_more flags place within =
    subst (λ (n : ℕ). last_listed (take n flags) ≡ (if get_or flags place false then n else last_listed (take place flags)))
    (omega arith) (last_longer flags place within)
