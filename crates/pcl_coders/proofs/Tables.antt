-- Tables that are known without being filled, and what a table of least numbers says of its places.
use Rattle.std.proofs.Common.{◌≡◌, ℕ, ◌+◌, ◌-◌, ◌⊎◌, List, [], ◌∷◌, ◌++◌, length, take, drop, refl, sym, ap, ◌∙◌, subst, inl, inr, arith, zero-add}
use Rattle.pcl_coders.proofs.Names.{slice_index, cases_lt, length-take-le, drop_at, take-append-drop, Method, Plain, Element, stop, base, RowFrom, IsRowData, overlaid, overlaid_within, plain_elements, row_of_plain, decoded_is, spelling_has_byte, Walk, total, StepsOver, NeedsNoMore, element_cost, IsRowTable, IsLeastTable, IsCodable, IsLeastLength, AppendsLeast, IsNext, AreRightFrom, IsFirstEnd, feasible_bounds}
use Rattle.pcl_coders.proofs.RowWalks.{length-base, data_of_walk}
use Rattle.pcl_coders.proofs.Filling.{row_table_small}

-- where no data is needed at all
pub none_least : {method : Method} {seed row : List ℕ} {end : ℕ} → IsCodable seed row → IsFirstEnd (base method seed) row end → end ≡ 0
    → IsLeastLength method seed row 0
none_least codable first none = record {
  attained = ([], data_of_walk [] codable.same_size (omega arith) (rw none at first.ends), refl);
  shortest = λ bytes has. omega arith;
}

-- ---- method 0

-- a row up to where no more of it is needed is its data
pub plain_data : {seed row : List ℕ} {end : ℕ} → IsCodable seed row → IsFirstEnd (base Plain seed) row end
    → IsRowData Plain seed row (take end row)
plain_data {seed} {row} {end} codable first =
    let old : List ℕ = base Plain seed in
    let long : length (take end row) ≡ end = length-take-le end row first.within in
    let same : length old ≡ length row = length-base Plain seed ∙ codable.same_size in
    let begin : 0 + length (take end row) ≡ end = omega (arith, long) in
    let laid : overlaid old 0 (take end row) ≡ row =
    overlaid_within old 0 (take end row) (omega (arith, long, same, first.within)) ∙ rw (begin, ← first.ends) (take-append-drop end row) in
    let elements = plain_elements (take end row) in
    record {
      whole = (elements.0, elements.1, elements.2, omega (arith, elements.3, long, first.within));
      decodes = decoded_is Plain seed (take end row) row (subst (RowFrom Plain (take end row) old) laid (row_of_plain (take end row) old));
      fits = omega (arith, long, first.within, codable.small);
    }

pub plain_least : {seed row : List ℕ} {end : ℕ} → IsCodable seed row → IsFirstEnd (base Plain seed) row end
    → IsLeastLength Plain seed row end
plain_least {seed} {row} {end} codable first =
    let old : List ℕ = base Plain seed in
    let same : length old ≡ length row = length-base Plain seed ∙ codable.same_size in
    record {
      attained = (take end row, plain_data codable first, length-take-le end row first.within);
      shortest = λ bytes has.
          elim (cases_lt (length row) (length bytes)) [
            | inl more ↦ omega (arith, first.within)
            | inr fits ↦
                let laid = has.decodes ∙ sym (decoded_is Plain seed bytes (overlaid old 0 bytes) (row_of_plain bytes old))
                ∙ overlaid_within old 0 bytes (omega arith) in
                first.first (length bytes)
                (ap (drop (length bytes)) (rw zero-add at laid) ∙ drop_at bytes (drop (length bytes) old) (length bytes) refl)
          ];
    }

pub plain_appended : {seed row old : List ℕ} {end : ℕ} → IsCodable seed row → IsFirstEnd (base Plain seed) row end
    → AppendsLeast Plain seed row old (old ++ take end row)
plain_appended {seed} {row} {end} codable first = record {
  bytes = take end row;
  joined = refl;
  whole = plain_data codable first;
  least = rw (length-take-le end row first.within) (plain_least codable first);
}

-- ---- a table of least numbers, whoever made it

-- the next element of least data goes on
attained_here : {method : Method} {seed row table : List ℕ} (place : ℕ) (es : List Element) → IsRowTable method seed row table
    → Walk (StepsOver method (base method seed) row) (NeedsNoMore (base method seed) row) place es
    → total element_cost es ≡ slice_index table place
    → NeedsNoMore (base method seed) row place ⊎ ((e : Element) × IsNext method (base method seed) row table place e)
attained_here place [] is walk total-is = inl walk
attained_here {method} place (e ∷ es) is walk total-is =
    let next = walk.1.next_is in
    let rest = feasible_bounds is.feasible walk.0 es walk.2 in
    let some = spelling_has_byte method e walk.1.element in
    let above = is.feasible.steps place e walk.0 walk.1 in
    inr (e, record { element = walk.1.element; agrees = walk.1.agrees; goes_on = grind arith; number_is = grind arith })

pub right_of_least : {method : Method} {seed row table : List ℕ} → length seed ≡ length row → IsLeastTable method seed row table
    → AreRightFrom method (base method seed) row table 0
right_of_least {method} {seed} {row} same is place low high =
    let table = is.table_is in
    let w = is.attained place high in
    record {
      steps = λ e element agrees. table.feasible.steps place e (place + stop e)
          (record { element = element; agrees = agrees; next_is = refl });
      ends = table.feasible.ends place;
      attained = attained_here place w.0 table w.1 w.2;
      small = row_table_small (length row - place) place same table (omega arith);
    }
