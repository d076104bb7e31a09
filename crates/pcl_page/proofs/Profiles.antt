-- What a command sets by the stated profile it sets by the drivers' too.
use Rattle.std.proofs.Common.{◌≡◌, ℕ, Bool, List, Some, None, refl, arith}
use Rattle.std.specs.Prelude.{pos}
use Rattle.pcl_env.specs.Outcome.{outcome}
use Rattle.pcl_page.proofs.Names.{Dpi, Asking, LeftOffset, Operation, Ask, LineSpacing, RasterResolution, UnitOfMeasure, Stated, Drivers, Value, Settings, lies_at, Outcome, line_spacings, one_of, resolutions, units_of_measure}

-- ---- settings by both profiles

-- settings by the stated profile, which asked for no offset but 0
abbrev pub IsStated : Settings → Type 0
IsStated s = (s.profile ≡ Stated) × (lies_at s.asked.left_offset ≡ pos 0) × (lies_at s.asked.top_offset ≡ pos 0)

-- the same by the drivers' profile
abbrev pub set_by_drivers : Settings → Settings
set_by_drivers s = record s { profile = Drivers }

-- settings by the stated profile, and those by the drivers', which are the same
abbrev pub AreSetAlike : Settings → Settings → Type 0
AreSetAlike s other = (other ≡ set_by_drivers s) × IsStated s

-- a value that the stated profile takes is taken by the drivers' too, and sets the same with the same effect
abbrev pub AreTakenAlike : Outcome → Outcome → Type 0
AreTakenAlike None other = Unit {0}
AreTakenAlike (Some done) None = ⊥
AreTakenAlike (Some done) (Some other) = AreSetAlike done.0 other.0 × (other.1 ≡ done.1)

-- ---- commands

-- one of some numbers
one_alike : (numbers : List ℕ) (v : Value) (s other : Settings) → AreSetAlike s other
    → AreTakenAlike (one_of numbers v s) (one_of numbers v other)
one_alike numbers v s other alike = grind (arith, alike)

asking_alike : (dpi : Dpi) (what : Asking) (v : Value) (m : Bool) (s : Settings) → IsStated s
    → AreTakenAlike (outcome dpi (Ask what) v m s) (outcome dpi (Ask what) v m (set_by_drivers s))
unfolding outcome
asking_alike dpi LeftOffset v m s stated = grind (arith, stated)
asking_alike dpi other v m s stated = grind (arith, stated)

pub outcome_alike : (dpi : Dpi) (operation : Operation) (v : Value) (m : Bool) (s : Settings) → IsStated s
    → AreTakenAlike (outcome dpi operation v m s) (outcome dpi operation v m (set_by_drivers s))
unfolding outcome
outcome_alike dpi (Ask what) v m s stated = asking_alike dpi what v m s stated
outcome_alike dpi LineSpacing v m s stated = one_alike line_spacings v _ _ (refl, stated)
outcome_alike dpi UnitOfMeasure v m s stated = one_alike units_of_measure v _ _ (refl, stated)
outcome_alike dpi RasterResolution v m s stated = one_alike (resolutions dpi) v _ _ (refl, stated)
outcome_alike dpi other v m s stated = grind (arith, stated)
