-- Windows over the places that a step may lead to.
use Rattle.std.proofs.Common.{◌≡◌, ℕ, ◌+◌, ◌-◌, ◌<◌, ◌≤◌, min, List, [], ◌++◌, length, drop, ap, arith}
use Rattle.pcl_check.proofs.Names.{slice_index, AreEnds, values, IsLeastOf}
use Rattle.pcl_check.proofs.Values.{length_values, value_in, values_joined, values_rest, no_values}

-- the last place that a step over at most this many places leads to
abbrev pub last_of : List ℕ → ℕ → ℕ → ℕ
last_of ends most place = min (slice_index ends place) (place + most)

-- ---- the window of a place

-- the window as it stands before a place: the values from there on, as far as a step from the place before leads
pub record IsStepWindow (ends : List ℕ) (value : ℕ → ℕ) (most : ℕ) (numbers : List ℕ) (place stop : ℕ) : Type 0 where
  pub order : place ≤ stop
  pub near : stop ≤ place + most
  pub within : stop ≤ length ends
  pub before : place < length ends → stop ≤ slice_index ends place + 1
  pub numbers_are : numbers ≡ values value place (stop - place)

pub window_begins : {ends : List ℕ} {value : ℕ → ℕ} {most : ℕ} {numbers : List ℕ} → numbers ≡ [] → IsStepWindow ends value most numbers 0 0
window_begins {value} none = let empty = no_values value 0 {count = 0 - 0} (omega arith) in search arith

-- the window after a place, taken from one that was filled up to the farthest place that a step leads to
pub record IsNextWindow (ends : List ℕ) (value : ℕ → ℕ) (most : ℕ) (filled taken : List ℕ) (place stop far : ℕ) : Type 0 where
  pub some : 0 < length filled
  pub grows : stop ≤ far + 1
  pub size : length taken ≡ far - place
  pub window : IsStepWindow ends value most taken (place + 1) (far + 1)

pub window_next : {ends : List ℕ} {last : ℕ} {value : ℕ → ℕ} {most : ℕ} {numbers filled taken : List ℕ} {place stop far : ℕ}
    → AreEnds ends last → place ≤ last → 0 < most → IsStepWindow ends value most numbers place stop → far ≡ last_of ends most place
    → filled ≡ numbers ++ values value stop (far + 1 - stop) → taken ≡ drop 1 filled
    → IsNextWindow ends value most filled taken place stop far
window_next {ends} {value = value} {most} {numbers} {filled} {taken} {place} {stop} {far} are le some is farthest put took =
    let above = are.above place le in
    let grows : stop ≤ far + 1 = omega (arith, is.before (omega (arith, are.size)), is.near, farthest) in
    let joined = values_joined value place (stop - place) (far + 1 - stop) in
    let all : filled ≡ values value place (far + 1 - place) = grind (arith, joined, put, is.numbers_are, is.order, grows) in
    let rest = values_rest value place (far + 1 - place) (omega (arith, above, farthest)) in
    let now : taken ≡ values value (place + 1) (far + 1 - (place + 1)) = grind (arith, rest, took, all) in
    record {
      some = omega (arith, ap length all, length_values value place (far + 1 - place), above, farthest);
      grows = grows;
      size = omega (arith, ap length now, length_values value (place + 1) (far + 1 - (place + 1)));
      window = record {
        order = omega (arith, above, farthest);
        near = omega (arith, farthest);
        within = omega (arith, are.within place le, are.size, farthest);
        before = λ inside. omega (arith, are.grow place (omega (arith, are.size)), farthest);
        numbers_are = now;
      };
    }

-- ---- the least value in a window

pub least_below : {ends : List ℕ} {value : ℕ → ℕ} {most : ℕ} {filled taken : List ℕ} {place stop far least : ℕ}
    → IsNextWindow ends value most filled taken place stop far → IsLeastOf taken least → (step : ℕ) → place < step → step ≤ far
    → least ≤ value step
least_below {value = value} {taken = taken} {place} {far = far} next is step past within =
    let k : ℕ = step - (place + 1) in
    grind (arith, is.below k, next.size, next.window.numbers_are, value_in value (place + 1) (far + 1 - (place + 1)) k)

pub least_reached : {ends : List ℕ} {value : ℕ → ℕ} {most : ℕ} {filled taken : List ℕ} {place stop far least : ℕ}
    → IsNextWindow ends value most filled taken place stop far → IsLeastOf taken least
    → (step : ℕ) × (place < step) × (step ≤ far) × (value step ≡ least)
least_reached {value = value} {place = place} {far = far} next is =
    let k : ℕ = is.among.0 in
    let inside : k < far - place = omega (arith, is.among.1, next.size) in
    let at = value_in value (place + 1) (far + 1 - (place + 1)) k (omega (arith, inside)) in
    (place + 1 + k, omega arith, omega (arith, inside), cc)
