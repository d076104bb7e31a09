-- Bodies worked out by hand from docs/OUTPUT.md. The rows are one byte wide.
use Rattle.std.proofs.Common.{◌≡◌, ℕ, true, false, List, [], ◌∷◌, ◌++◌, refl, lit≤, arith}
use Rattle.pcl_output.proofs.Names.{codes, flat_map, Plain, Delta, Itself, IsElement, IsRowData, Token, opening, method, skip, send, token_bytes, IsSpelled}
use Rattle.pcl_rows.specs.Decoding.{treated_by, decoded}
use Rattle.pcl_output.specs.Tokens.{PrintsRows}

-- ---- numbers

leading_zeros : IsSpelled (codes "007") 7
leading_zeros = ((refl, (refl, (refl, tt))), refl)

no_digits : IsSpelled [] 0
no_digits = (tt, refl)

one : IsSpelled (codes "1") 1
one = ((refl, tt), refl)

three : IsSpelled (codes "3") 3
three = ((refl, tt), refl)

-- ---- rows

is_byte : {b : ℕ} → IsElement Plain (record { head = Itself; bytes = b ∷ [] })
is_byte = record { head_is = record { method_is = refl; in_range = tt }; complete = refl }

-- a plain row of one byte
plain_row : {seed b : ℕ} → IsRowData Plain (seed ∷ []) (b ∷ []) (b ∷ [])
unfolding decoded treated_by
plain_row {b} = record {
  whole = (record { head = Itself; bytes = b ∷ [] } ∷ [], (is_byte, tt), refl, lit≤ tt);
  decodes = refl;
  fits = lit≤ tt;
}

-- the row above again, without data in method 3
row_again : {b : ℕ} → IsRowData Delta (b ∷ []) (b ∷ []) []
unfolding decoded treated_by
row_again = record {
  whole = ([], tt, refl, lit≤ tt);
  decodes = refl;
  fits = lit≤ tt;
}

-- ---- bodies

-- two rows with a white one between them
abbrev skipping : List Token
skipping = opening ∷ send (codes "1") (128 ∷ []) ∷ opening ∷ skip (codes "1") 1 false ∷ send (codes "1") (128 ∷ []) ∷ []

skipping_spelled : flat_map token_bytes skipping ≡ 27 ∷ codes "*b1W" ++ 128 ∷ 27 ∷ codes "*b1y1W" ++ 128 ∷ []
skipping_spelled = refl

skipping_prints : PrintsRows false Plain (0 ∷ []) skipping ((128 ∷ []) ∷ (0 ∷ []) ∷ (128 ∷ []) ∷ [])
unfolding PrintsRows
skipping_prints = (one, plain_row, (one, lit≤ tt, lit≤ tt, ((refl, tt), tt), (one, plain_row, tt)))

-- three equal rows, the second and third by method 3; below them the page is white
abbrev repeating : List Token
repeating = opening ∷ send (codes "1") (128 ∷ []) ∷ opening ∷ method (codes "3") Delta false ∷ send [] [] ∷ opening ∷ send [] [] ∷ []

repeating_spelled : flat_map token_bytes repeating ≡ 27 ∷ codes "*b1W" ++ 128 ∷ 27 ∷ codes "*b3mW" ++ 27 ∷ codes "*bW"
repeating_spelled = refl

repeating_prints : PrintsRows false Plain (0 ∷ []) repeating ((128 ∷ []) ∷ (128 ∷ []) ∷ (128 ∷ []) ∷ (0 ∷ []) ∷ [])
unfolding PrintsRows
repeating_prints = (one, plain_row, (three, (no_digits, row_again, (no_digits, row_again, ((refl, tt), tt)))))

-- a sequence without a parameter prints nothing, and so does one that isn't ended
lone_opening : PrintsRows false Plain (0 ∷ []) (opening ∷ []) ((0 ∷ []) ∷ []) → ⊥
unfolding PrintsRows
lone_opening p = p

open_at_the_end : PrintsRows false Plain (0 ∷ []) (opening ∷ skip (codes "1") 1 false ∷ []) ((0 ∷ []) ∷ []) → ⊥
unfolding PrintsRows
open_at_the_end p = p.4

-- rows that are skipped have to be white
inked_row_skipped : PrintsRows false Plain (0 ∷ []) (opening ∷ skip (codes "1") 1 true ∷ []) ((128 ∷ []) ∷ []) → ⊥
unfolding PrintsRows
inked_row_skipped p = let byte : 128 ≡ 0 = p.3.0.0 in absurd (omega (arith, byte))
