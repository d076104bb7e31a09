-- An earlier start of a replacement is never shorter than the latest.
use Rattle.std.proofs.Common.{◌≡◌, ℕ, ◌+◌, ◌-◌, ◌≤◌, List, [], ◌∷◌, length, drop, sym, inl, inr, arith}
use Rattle.pcl_coders.proofs.Names.{cases_lt, length-drop, Delta, offset_of, Element, Walk, total, StepsOver, NeedsNoMore, element_cost, IsLatestStart, StartsAt, replacement_bytes, Replace, element_of}
use Rattle.pcl_coders.proofs.Shapes.{delta_shape, replacement_is}
use Rattle.pcl_coders.proofs.Choices.{agrees_gives, replace_step}
use Rattle.pcl_coders.proofs.Ends.{ends_at}
use Rattle.pcl_coders.proofs.Places.{command_grows, command_joins, same_to_start}

-- a replacement at the latest start, and a walk on from where it stops
latest_step : {old row : List ℕ} {place start next most : ℕ} (len : ℕ) (es : List Element) → length old ≡ length row
    → IsLatestStart old row place start → 1 ≤ len → len ≤ 8 → next ≡ start + len → next ≤ length row
    → Walk (StepsOver Delta old row) (NeedsNoMore old row) next es → replacement_bytes (start - place) + len + total element_cost es ≤ most
    → StartsAt old row place start most
latest_step {old} {row} {place} {start} {next} len es size is some few next-is fits walk cheap =
    let last : ℕ = start - place in
    let s = replace_step (drop place old) (drop place row) last len some few (omega (arith, length-drop place row, is.order))
    (same_to_start size is).equal in
    record {
      first = element_of (Replace last len) (drop place row);
      rest = es;
      offset_is = (replacement_is some few).offset_is;
      walk = (next, record { element = s.element; agrees = s.agrees; next_is = omega (arith, s.stop_is, is.order) }, walk);
      cheap = omega (arith, s.bytes_are);
    }

-- what an element of a walk gives
pub record IsDeltaStep (old row : List ℕ) (place start next : ℕ) (e : Element) : Type 0 where
  pub len : ℕ
  pub some : 1 ≤ len
  pub few : len ≤ 8
  pub early : offset_of e.head ≤ start - place
  pub next_is : next ≡ place + (offset_of e.head + len)
  pub within : next ≤ length row
  pub cost_is : element_cost e ≡ replacement_bytes (offset_of e.head) + len

pub delta_step : {old row : List ℕ} {place start next : ℕ} {e : Element} → length old ≡ length row → IsLatestStart old row place start
    → StepsOver Delta old row place e next → IsDeltaStep old row place start next e
delta_step {old} {row} {place} {e} size is l =
    let g = agrees_gives (drop place old) (omega (arith, length-drop place row, length-drop place old)) l.element l.agrees in
    let early = (same_to_start size is).longest (offset_of e.head) (omega (arith, g.0)) g.1 in
    grind (arith, delta_shape e.head l.element.head_is.method_is l.element.head_is.in_range l.element.complete, length-drop place row)

pub latest_is_as_good : (old row : List ℕ) (steps : List Element) (place start : ℕ) → length old ≡ length row
    → IsLatestStart old row place start → Walk (StepsOver Delta old row) (NeedsNoMore old row) place steps
    → StartsAt old row place start (total element_cost steps)
latest_is_as_good old row [] place start size is walk = absurd (is.differs (sym (ends_at old row start walk is.order)))
latest_is_as_good old row (e ∷ es) place start size is walk =
    let last : ℕ = start - place in
    let d = delta_step size is walk.1 in
    elim (cases_lt start walk.0) [
      | inl far ↦
          latest_step (walk.0 - start) es size is (omega arith) (omega (arith, d.few, d.next_is, d.early)) (omega arith) d.within walk.2
          (omega (arith, d.cost_is, d.next_is, d.early, command_grows (offset_of e.head) last d.early))
      | inr near ↦
          let later : IsLatestStart old row walk.0 start = grind (arith, is, d.next_is) in
          let r = latest_is_as_good old row es walk.0 start size later walk.2 in
          let f = delta_step size later r.walk.1 in
          let left : offset_of r.first.head ≡ last - (offset_of e.head + d.len) = omega (arith, r.offset_is, d.next_is) in
          let joins = command_joins (offset_of e.head) d.len last d.some (omega (arith, d.next_is)) in
          latest_step f.len r.rest size is f.some f.few (omega (arith, f.next_is, r.offset_is)) f.within r.walk.2
          (omega (arith, d.cost_is, rw left at f.cost_is, r.cheap, joins))
    ]
