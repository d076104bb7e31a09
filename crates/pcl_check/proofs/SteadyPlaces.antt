-- Places of rows whose numbers never grow.
use Rattle.std.proofs.Common.{◌≡◌, ◌≢◌, ℕ, zero, suc, ◌+◌, ◌-◌, ◌<◌, ◌≤◌, min, List, length, take, refl, arith}
use Rattle.pcl_check.proofs.Names.{slice_index, get_or-take, length-take-le, alike_at, rest_of_alike, run_byte, rest_of_run, falls_on, start_within, replacement_bytes, ends_at, near_bytes, far_bytes, IsGoodEnd, AreGoodRuns, AreGoodLiterals, AreGoodReplacements, most_number, IsSteady, IsNeedEnd, FallsByRun, FallsByStart, AreLeastSums, TakesLater, IsKeptBefore}

-- ---- steady numbers

pub steady_by : {numbers : List ℕ} → slice_index numbers 0 ≤ most_number
    → ((k : ℕ) → k + 1 < length numbers → slice_index numbers (k + 1) ≤ slice_index numbers k) → IsSteady numbers
steady_by {numbers} small falls =
    let on : (place later : ℕ) → place ≤ later → slice_index numbers later ≤ slice_index numbers place =
    λ place later le. grind (arith, falls_on numbers falls place (later - place)) in
    record { falls = on; small = λ place. omega (arith, on 0 place (omega arith), small) }

-- no more data is needed only where the number is 0
pub end_of_need : {old row numbers : List ℕ} {end : ℕ} (place : ℕ) → IsSteady numbers → IsNeedEnd old row numbers end
    → IsGoodEnd old row numbers place
end_of_need {old} {row} {numbers} {end} place steady need = λ ends.
    grind (arith, ends_at old row (end - 1) ends, need.needed, steady.falls end place, need.none)

-- ---- runs

-- a run that begins before a place where the bytes change ends there or before it
pub runs_by_stop : (row : List ℕ) {numbers : List ℕ} {most end : ℕ} (stop : ℕ) {place : ℕ} → IsSteady numbers → slice_index numbers end ≡ 0
    → place < stop → stop ≤ end → (stop < end → slice_index row (stop - 1) ≢ slice_index row stop)
    → slice_index numbers place ≤ 2 + slice_index numbers (min stop (place + most)) → AreGoodRuns row numbers most place
runs_by_stop row {numbers} {most} {end} stop {place} steady none after within breaks kept = λ count byte some few inside alike.
    let byte_at : (k : ℕ) → k < count → slice_index row (place + k) ≡ byte = λ k. run_byte row place count byte k alike in
    grind (arith, byte_at (stop - 1 - place), byte_at (stop - place), steady.falls (place + count) (min stop (place + most)))

-- ---- literals

-- sums of one count, and of twice as many with what was taken from later places
abbrev pub Sums : List ℕ → ℕ → List ℕ → Type 0
Sums numbers count least = (length least ≡ length numbers) × AreLeastSums numbers count least

pub sums_more : (numbers : List ℕ) {old new : List ℕ} (count : ℕ) → Sums numbers count old → TakesLater count old new
    → Sums numbers (count + count) new
sums_more numbers count sums takes = (
  omega (arith, takes.size, sums.0),
  λ place stop after before inside.
      grind (arith, takes.here place, takes.beyond place, sums.1 place stop, sums.1 (place + count) stop, sums.0),
)

-- a literal that goes on where no more is needed
pub literals_of_front : {numbers : List ℕ} {end : ℕ} (place : ℕ) → IsSteady numbers → slice_index numbers end ≡ 0 → end < length numbers
    → AreGoodLiterals (take (end + 1) numbers) place → AreGoodLiterals numbers place
literals_of_front {numbers} {end} place steady none inside good = λ count some few within.
    let stop : ℕ = min (place + count) end in
    let size = length-take-le (end + 1) numbers (omega arith) in
    let at = get_or-take (end + 1) numbers in
    grind (arith, steady.falls end place, good (stop - place), at place 0, at (place + (stop - place)) 0)

-- ---- replacements

bytes_grow : (offset : ℕ) → replacement_bytes offset ≤ replacement_bytes (suc offset)
bytes_grow offset = grind (arith, near_bytes offset, far_bytes offset, near_bytes (suc offset), far_bytes (suc offset))

-- the least sums of the numbers up to a place that needs no more
pub record AreFrontSums (numbers least : List ℕ) (end : ℕ) : Type 0 where
  pub none : slice_index numbers end ≡ 0
  pub inside : end < length numbers
  pub sums : AreLeastSums (take (end + 1) numbers) 8 least

pub sums_of_front : {old row numbers least : List ℕ} {end : ℕ} → IsNeedEnd old row numbers end → length numbers ≡ length row + 1
    → AreLeastSums (take (end + 1) numbers) 8 least → AreFrontSums numbers least end
sums_of_front need size sums = record { none = need.none; inside = omega (arith, need.within, size); sums = sums }

-- they are least sums of all numbers
front_sums : {numbers least : List ℕ} {end : ℕ} (place stop : ℕ) → AreFrontSums numbers least end → place ≤ stop → stop < place + 8
    → place ≤ end → slice_index least place ≤ stop + slice_index numbers stop
front_sums {numbers} {end = end} place stop front low high within =
    let last : ℕ = min stop end in
    let size = length-take-le (end + 1) numbers (omega (arith, front.inside)) in
    grind (arith, front.none, front.sums place last, get_or-take (end + 1) numbers last 0)

pub replacements_by_start : (old row : List ℕ) {numbers least : List ℕ} {end place start : ℕ} → IsSteady numbers
    → AreFrontSums numbers least end → place ≤ start → start < end → slice_index old start ≢ slice_index row start
    → IsKeptBefore (slice_index numbers place) least place start → AreGoodReplacements old row numbers place
replacements_by_start old row {place = place} steady front order before differs kept = λ offset len some few within alike.
    let k = kept offset (start_within old row offset order differs alike) in
    let far : ℕ = k.0 in
    let sum = front_sums (far + 1) (far + len) front (omega arith) (omega arith) (omega (arith, k.2)) in
    omega (arith, k.3, steady.falls (place + (offset + len)) (far + len) (omega (arith, k.1)))

-- ---- from a place to the one before

-- a run of some bytes at the place before
pub runs_before : {row numbers : List ℕ} {most place : ℕ} → IsSteady numbers → FallsByRun row numbers place
    → AreGoodRuns row numbers most (place + 1) → AreGoodRuns row numbers most place
runs_before {row} {numbers} {place = place} steady falls next = λ count byte some few inside alike.
    let byte_at : (k : ℕ) → k < count → slice_index row (place + k) ≡ byte = λ k. run_byte row place count byte k alike in
    let rest = λ (more : 1 < count).
    let same : count ≡ suc (count - 1) = omega arith in
    next (count - 1) byte (omega arith) (omega arith) (omega arith) (rest_of_run row place (count - 1) (rw same at alike)) in
    grind (arith, falls.one, falls.two, falls.more, steady.falls (place + 1) (place + 2), byte_at 0, byte_at 1, byte_at 2, rest)

-- replacements at the place before
pub replacements_before : {old row numbers least : List ℕ} {end place : ℕ} → AreFrontSums numbers least end → place < end
    → FallsByStart old row numbers least place → AreGoodReplacements old row numbers (place + 1) → AreGoodReplacements old row numbers place
replacements_before {numbers = numbers} {place = place} front before falls next zero len some few within alike =
    let later = λ (more : 1 < len). next 0 (len - 1) (omega arith) (omega arith) (omega arith) refl in
    let front_sum = front_sums (place + 1) (place + len) front (omega arith) (omega arith) (omega arith) in
    grind (arith, falls.same, falls.differs, later, front_sum, near_bytes 0)
replacements_before {old} {row} {numbers} {place = place} front before falls next (suc offset) len some few within alike =
    let more : suc offset ≡ 1 + offset = omega arith in
    let kept = next offset len some few (omega arith) (rest_of_alike old row place offset (rw more at alike)) in
    grind (arith, falls.same, alike_at old row place {count = suc offset} 0 alike, kept, bytes_grow offset)
