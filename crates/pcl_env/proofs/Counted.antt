-- A command that takes some numbers alone.
use Rattle.std.proofs.Common.{◌≡◌, ℕ, Bool, true, false, List, Some, None, Ok, refl, if◌then◌else◌}
use Rattle.pcl_base.specs.declared.value.Value.{Value}
use Rattle.pcl_base.specs.Value.{count_of, whole_of, is_below_zero}
use Rattle.pcl_env.specs.declared.effect.Effect.TheVariants as page
use Rattle.pcl_env.specs.Settings.{Settings}
use Rattle.pcl_env.specs.Outcome.{AnswersAs, is_one_of, one_of, stays_if}

taken_if : (b : Bool) (w n : ℕ) (numbers : List ℕ) (change : ℕ → Settings) (old new : Settings)
    → (if b then None else Some w) ≡ Some n → is_one_of numbers n ≡ true → new ≡ change n
    → AnswersAs (if b then None else stays_if (is_one_of numbers w) (change w)) (Ok page.Stay) old new
taken_if true w n numbers change old new is_n holds changed = cc
taken_if false w n numbers change old new is_n holds changed =
    let same : w ≡ n = cc in
    rw (same, holds) (refl, changed)

pub taken : (v : Value) (n : ℕ) (numbers : List ℕ) (change : ℕ → Settings) (old new : Settings)
    → count_of v ≡ Some n → is_one_of numbers n ≡ true → new ≡ change n
    → AnswersAs (one_of numbers v (change (whole_of v))) (Ok page.Stay) old new
taken v n numbers change old new = taken_if (is_below_zero v) (whole_of v) n numbers change old new
