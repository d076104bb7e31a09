-- Examples worked out by hand, which the definitions compute.
use Rattle.std.proofs.Common.{◌≡◌, ℕ, List, [], ◌∷◌, ◌+◌, take, refl}
use Rattle.pcl_rows.proofs.Names.{Packed, Delta, Head, Itself, Count, Literal, Skipped, Repeat, Near, Far, offset_of, Element, element_bytes, stop, base, after_elements, treated}

abbrev element : Head → List ℕ → Element
element head bytes = record { head = head; bytes = bytes }

abbrev made_by : List Element → List ℕ → List ℕ
made_by es old = after_elements es (λ rest. rest) old

-- a byte stands for itself
plain_row : made_by (element Itself (1 ∷ []) ∷ element Itself (2 ∷ []) ∷ []) (0 ∷ 0 ∷ 0 ∷ []) ≡ 1 ∷ 2 ∷ 0 ∷ []
plain_row = refl

-- 02 FF 00 C0: three bytes FF and one C0
run_row : made_by (element (Count 2) (255 ∷ []) ∷ element (Count 0) (192 ∷ []) ∷ []) (0 ∷ 0 ∷ 0 ∷ 0 ∷ 0 ∷ []) ≡ 255 ∷ 255 ∷ 255 ∷ 192 ∷ 0
    ∷ []
run_row = refl

-- 01 07 08 80 FE 06: two literal bytes, nothing, and three bytes 06
packed_row : made_by (element (Literal 1) (7 ∷ 8 ∷ []) ∷ element Skipped [] ∷ element (Repeat 254) (6 ∷ []) ∷ [])
    (0 ∷ 0 ∷ 0 ∷ 0 ∷ 0 ∷ 0 ∷ []) ≡ 7 ∷ 8 ∷ 6 ∷ 6 ∷ 6 ∷ 0 ∷ []
packed_row = refl

packed_spelling : element_bytes (element (Literal 1) (7 ∷ 8 ∷ [])) ≡ 1 ∷ 7 ∷ 8 ∷ []
packed_spelling = refl

-- 21 07 08 00 09: two bytes after an offset of 1, and one right after them
delta_row : made_by (element (Near 1 1) (7 ∷ 8 ∷ []) ∷ element (Near 0 0) (9 ∷ []) ∷ []) (1 ∷ 2 ∷ 3 ∷ 4 ∷ 5 ∷ []) ≡ 1 ∷ 7 ∷ 8 ∷ 9 ∷ 5 ∷ []
delta_row = refl

delta_spelling : element_bytes (element (Near 1 1) (7 ∷ 8 ∷ [])) ≡ 33 ∷ 7 ∷ 8 ∷ []
delta_spelling = refl

-- offsets of 31, of 30 and 255 more, of 286, and of 31 and twice 255 more
offset_31 : element_bytes (element (Far 0 0 0) (255 ∷ [])) ≡ 31 ∷ 0 ∷ 255 ∷ []
offset_31 = refl

offset_285 : offset_of (Far 0 0 254) ≡ 30 + 255
offset_285 = refl

offset_286 : stop (element (Far 0 1 0) (255 ∷ [])) ≡ 287
offset_286 = refl

offset_541 : element_bytes (element (Far 7 2 0) (1 ∷ 2 ∷ 3 ∷ 4 ∷ 5 ∷ 6 ∷ 7 ∷ 8 ∷ [])) ≡ 255 ∷ 255 ∷ 255 ∷ 0 ∷ 1 ∷ 2 ∷ 3 ∷ 4 ∷ 5 ∷ 6 ∷ 7 ∷ 8
    ∷ []
offset_541 = refl

-- 05 41: a literal of six bytes of which one stands there
cut_literal : treated [] (element (Literal 5) (65 ∷ 0 ∷ 0 ∷ 0 ∷ 0 ∷ 0 ∷ [])) (5 ∷ 65 ∷ []) (base Packed (9 ∷ 9 ∷ [])) ≡ 65 ∷ 0 ∷ []
cut_literal = refl

-- a run goes past the row: what lies past it is dropped
past_the_row : take 2 (made_by (element (Count 9) (1 ∷ []) ∷ []) (0 ∷ 0 ∷ [])) ≡ 1 ∷ 1 ∷ []
past_the_row = refl

-- an offset past the row changes nothing of it
offset_past : take 2 (made_by (element (Near 0 5) (7 ∷ []) ∷ []) (base Delta (1 ∷ 2 ∷ []))) ≡ 1 ∷ 2 ∷ []
offset_past = refl
