-- A table that is filled from the row's end, and data along it.
use Rattle.std.proofs.Common.{◌≡◌, ◌≢◌, ℕ, zero, suc, ◌+◌, ◌-◌, ◌*◌, ◌<◌, ◌≤◌, List, [], ◌∷◌, ◌++◌, length, get_or, set, drop, refl, sym, ap, ◌∙◌, inl, inr, append_assoc, arith}
use Rattle.pcl_coders.proofs.Names.{slice_index, flat_map, cases_lt, append-nil, drop-drop, drop_all, length-drop, get_or-drop, get_or-set_same, get_or-set_other, get_or_past, drop_more, flat_map-append, first_byte, Method, Plain, Runs, Packed, Delta, Element, element_bytes, stop, base, IsRowData, spelling_has_byte, Walk, total, IsAttained, StepsOver, NeedsNoMore, element_cost, IsRowTable, IsLeastTable, IsCodable, IsLeastLength, AppendsLeast, IsPlaceNumber, AreRightFrom, AppendsWalk, Shape, SingleByte, Run, LiteralRun, Replace, element_of, shape_stop, IsShapeChoice, feasible_bounds}
use Rattle.pcl_coders.proofs.RowWalks.{length-base, total_is, stop_within, walk_of_data, data_of_walk}
use Rattle.pcl_coders.proofs.Choices.{HasShapeElement, byte_step, run_step, literal_step, replace_step}

-- ---- an element of one byte, for each method

one_byte : (method : Method) (old wanted : List ℕ) → 0 < length wanted → HasShapeElement method old wanted 1 2
one_byte Plain old wanted some = (SingleByte, 1, byte_step old wanted some, refl, omega arith)
one_byte Runs old wanted some = (Run 1, 2, run_step old (omega arith) (omega arith) some (first_byte wanted some), refl, omega arith)
one_byte Packed old wanted some = (LiteralRun 1, 2, literal_step old wanted 1 (omega arith) (omega arith) some, refl, omega arith)
one_byte Delta old wanted some =
    (Replace 0 1, 2, replace_step old wanted 0 1 (omega arith) (omega arith) (omega arith) refl, refl, omega arith)

-- ---- the numbers of a table

-- a number after the place that is set
pub number_after : (table : List ℕ) (at number place : ℕ) → at < place → slice_index (set table at number) place ≡ slice_index table place
number_after table at number place after = let other : place ≢ at = omega arith in get_or-set_other table at place number 0 other

-- where more data is needed
pub number_of_choice : {method : Method} {old row : List ℕ} (table : List ℕ) {place : ℕ} {shape : Shape} {sum : ℕ} → place < length row
    → length table ≡ length row + 1 → (NeedsNoMore old row place → ⊥)
    → IsShapeChoice method (drop place old) (drop place row) (drop place table) shape sum → sum ≤ 2 * (length row - place)
    → IsPlaceNumber method old row (set table place sum) place
number_of_choice {row} table {place} {shape} {sum} inside size more c small =
    grind (arith, c.choice.least, get_or-set_same, get_or-drop, number_after table place sum)

-- the best element has no more than two bytes for each byte of the row, where that holds after it
pub choice_small : {method : Method} (old row table : List ℕ) {place : ℕ} {shape : Shape} {sum : ℕ} → place < length row
    → IsShapeChoice method (drop place old) (drop place row) (drop place table) shape sum
    → slice_index table (place + 1) ≤ 2 * (length row - (place + 1)) → sum ≤ 2 * (length row - place)
choice_small {method} old row table {place} {sum} inside c small =
    let one = one_byte method (drop place old) (drop place row) (omega (arith, length-drop place row)) in
    grind (arith, c.choice.least (element_of one.0 (drop place row)) one.2.element one.2.agrees, one.3, get_or-drop place table)

-- ---- places from which no more data is needed

pub ends_here : (old row : List ℕ) {place : ℕ} → length old ≡ length row → place < length row → get_or row place 0 ≡ get_or old place 0
    → NeedsNoMore old row (place + 1) → NeedsNoMore old row place
ends_here old row {place} size inside same end = cc (drop_more row place 0 inside, drop_more old place 0 (omega arith))

pub ends_after : (old row : List ℕ) (place : ℕ) → NeedsNoMore old row place → NeedsNoMore old row (place + 1)
ends_after old row place end = cc (drop-drop 1 place row, drop-drop 1 place old)

-- one more number
pub right_more : {method : Method} {old row table : List ℕ} {place : ℕ} (number : ℕ) → AreRightFrom method old row table (place + 1)
    → IsPlaceNumber method old row (set table place number) place → AreRightFrom method old row (set table place number) place
right_more {method} {old} {row} {table} {place} number after here q low high =
    elim (cases_lt place q) [
      | inl above ↦
          let is = after q (omega arith) high in grind (arith, is.steps, is.attained, number_after table place number)
      | inr same ↦ let at : q ≡ place = omega arith in rw at here
    ]

-- ---- a whole table

-- past the row's end no more data is needed
pub ends_past : (old row : List ℕ) {place : ℕ} → length old ≡ length row → length row ≤ place → NeedsNoMore old row place
ends_past old row {place} size past = drop_all place row past ∙ sym (drop_all place old (omega arith))

pub attained_from : {method : Method} {old row table : List ℕ} (rest : ℕ) {place : ℕ} → length old ≡ length row
    → AreRightFrom method old row table 0 → place ≤ length row → length row - place ≤ rest
    → IsAttained (StepsOver method old row) (NeedsNoMore old row) element_cost place (slice_index table place)
attained_from {old} {row} zero {place} size right within left =
    let end : NeedsNoMore old row place = ends_past old row size (omega arith) in
    ([], end, sym ((right place (omega arith) within).ends end))
attained_from {method} {old} {row} (suc rest) {place} size right within left =
    let is = right place (omega arith) within in
    elim is.attained [
      | inl end ↦ ([], end, sym (is.ends end))
      | inr next ↦
          let e : Element = next.0 in
          let inside = stop_within method old row place e size next.1.element next.1.agrees in
          let walk = attained_from rest size right (omega arith) (omega (arith, next.1.goes_on)) in
          let first : StepsOver method old row place e (place + stop e) =
          record { element = next.1.element; agrees = next.1.agrees; next_is = refl } in
          (e ∷ walk.0, (place + stop e, first, walk.1), omega (arith, walk.2, next.1.number_is))
    ]

pub table_is_least : {method : Method} {seed row table : List ℕ} → length seed ≡ length row → length table ≡ length row + 1
    → AreRightFrom method (base method seed) row table 0 → IsLeastTable method seed row table
table_is_least {method} {seed} {row} {table} same size right = record {
  table_is = record {
    size = size;
    feasible = record {
      steps = λ place e next l. grind (arith, get_or_past, right place, l);
      ends = λ place end. grind (arith, get_or_past, right place);
    };
  };
  attained = λ place within. attained_from (length row) (length-base method seed ∙ same) right within (omega arith);
}

-- ---- what the first number says

pub first_bounds : (method : Method) (seed row table bytes : List ℕ) → length seed ≡ length row → IsRowTable method seed row table
    → IsRowData method seed row bytes → slice_index table 0 ≤ length bytes
first_bounds method seed row table bytes same is has =
    let w = walk_of_data same has in omega (arith, feasible_bounds is.feasible 0 w.0 w.1, w.2)

-- no number of a row table is above two bytes for each byte of the row
pub row_table_small : {method : Method} {seed row table : List ℕ} (rest place : ℕ) → length seed ≡ length row
    → IsRowTable method seed row table → place + rest ≡ length row → slice_index table place ≤ 2 * rest
row_table_small {method} {seed} {row} zero place same is at =
    omega (arith, is.feasible.ends place (ends_past (base method seed) row (length-base method seed ∙ same) (omega arith)))
row_table_small {method} {seed} {row} (suc rest) place same is at =
    let one = one_byte method (drop place (base method seed)) (drop place row) (omega (arith, length-drop place row)) in
    let e = one.2 in
    let next : place + 1 ≡ place + stop (element_of one.0 (drop place row)) = omega (arith, e.stop_is, one.3) in
    let step = is.feasible.steps place (element_of one.0 (drop place row)) (place + 1)
    (record { element = e.element; agrees = e.agrees; next_is = next }) in
    omega (arith, step, e.bytes_are, one.4, row_table_small rest (place + 1) same is (omega arith))

-- data along a walk of least cost
pub least_along : {method : Method} {seed row table : List ℕ} (es : List Element) → IsCodable seed row → IsRowTable method seed row table
    → Walk (StepsOver method (base method seed) row) (NeedsNoMore (base method seed) row) 0 es → total element_cost es ≡ slice_index table 0
    → IsRowData method seed row (flat_map element_bytes es) × IsLeastLength method seed row (length (flat_map element_bytes es))
least_along {method} {seed} {row} {table} es codable is walk total-is =
    let small = row_table_small (length row) 0 codable.same_size is (omega arith) in
    let has = data_of_walk es codable.same_size (omega (arith, total-is, small, codable.small)) walk in
    let bytes : length (flat_map element_bytes es) ≡ slice_index table 0 = sym (total_is es) ∙ total-is in
    let least : IsLeastLength method seed row (length (flat_map element_bytes es)) = record {
      attained = (flat_map element_bytes es, has, refl);
      shortest = λ other whole. omega (arith, first_bounds method seed row table other codable.same_size is whole, bytes);
    } in
    (has, least)

pub first_is_least : (method : Method) (seed row table : List ℕ) → IsCodable seed row → IsLeastTable method seed row table
    → IsLeastLength method seed row (slice_index table 0)
first_is_least method seed row table codable is =
    let w = is.attained 0 (omega arith) in
    rw (sym (total_is w.0) ∙ w.2) at (least_along w.0 codable is.table_is w.1 w.2).1

-- ---- appending

-- what was appended up to a place
pub record IsAppendedTo (method : Method) (old row table before now : List ℕ) (place : ℕ) : Type 0 where
  pub within : place ≤ length row
  pub done : List Element
  pub joined : now ≡ before ++ flat_map element_bytes done
  pub goes_on : (es : List Element) → Walk (StepsOver method old row) (NeedsNoMore old row) place es
      → total element_cost es ≡ slice_index table place
      → Walk (StepsOver method old row) (NeedsNoMore old row) 0 (done ++ es) × (total element_cost (done ++ es) ≡ slice_index table 0)

pub appended_more : {method : Method} {old row table before now : List ℕ} {place : ℕ} {shape : Shape} {sum : ℕ} {now' : List ℕ} {place' : ℕ}
    → length old ≡ length row → AreRightFrom method old row table 0 → 0 < slice_index table place
    → IsAppendedTo method old row table before now place
    → IsShapeChoice method (drop place old) (drop place row) (drop place table) shape sum
    → now' ≡ now ++ element_bytes (element_of shape (drop place row)) → place' ≡ place + shape_stop shape
    → IsAppendedTo method old row table before now' place'
appended_more {method} {old} {row} {table} {before} {place} {shape} {place'} size right some a c now-is place-is =
    let e : Element = element_of shape (drop place row) in
    let is = right place (omega arith) a.within in
    let inside = stop_within method old row place e size c.choice.element c.choice.agrees in
    let next : place' ≡ place + stop e = omega (arith, c.stop_is) in
    let number : slice_index table place ≡ element_cost e + slice_index table (place + stop e) =
    grind (arith, is.steps e c.choice.element c.choice.agrees, c.choice.least, get_or-drop place table) in
    let past : length row ≤ place → NeedsNoMore old row place = ends_past old row size in
    let begins : place < length row = grind (arith, is.ends) in
    record {
      within = omega arith;
      done = a.done ++ e ∷ [];
      joined = rw flat_map-append (rw (append-nil (element_bytes e)) (now-is ∙ rw a.joined (rw append_assoc refl)));
      goes_on = λ es w t. rw append_assoc
          (a.goes_on (e ∷ es) (place', record { element = c.choice.element; agrees = c.choice.agrees; next_is = next }, w)
          (omega (arith, t, number, ap (slice_index table) next)));
    }

pub appended_all : {method : Method} {old row table before now : List ℕ} {place : ℕ} → AreRightFrom method old row table 0
    → slice_index table place ≡ 0 → IsAppendedTo method old row table before now place → AppendsWalk method old row table before now
appended_all {method} {old} {row} {before} {place} right none a =
    let end : NeedsNoMore old row place = elim (right place (omega arith) a.within).attained [
      | inl end ↦ end
      | inr next ↦ absurd (omega (arith, next.1.number_is, spelling_has_byte method next.0 next.1.element))
    ] in
    let g = a.goes_on [] end (sym none) in
    record { steps = a.done ++ []; walk = g.0; total_is = g.1; joined = rw append-nil a.joined }

-- what was appended is least
pub appends_least : {method : Method} {seed row old table before now : List ℕ} → IsCodable seed row → IsLeastTable method seed row table
    → old ≡ base method seed → AppendsWalk method old row table before now → AppendsLeast method seed row before now
appends_least codable is old-is a =
    let b = rw old-is at a in
    let l = least_along b.steps codable is.table_is b.walk b.total_is in
    record { bytes = flat_map element_bytes b.steps; joined = b.joined; whole = l.0; least = l.1 }
