-- Tokens that print rows are a walk, and a walk's tokens print them.
use Rattle.std.proofs.Common.{◌≡◌, ℕ, zero, suc, ◌+◌, ◌-◌, ◌<◌, ◌≤◌, Bool, true, false, List, [], ◌∷◌, length, take, drop, replicate, refl, sym, ap, subst, ◌∙◌, arith, add-one}
use Rattle.pcl_output.proofs.Names.{not, drop-drop, drop_more, length-drop, length-replicate, get_or-drop, Method, IsRowData, Walk, Token, opening, method, skip, send, IsWhite, AreWhite, Node, row_at, row_above, Leads, Ends, AreOfWidth}
use Rattle.pcl_output.specs.Tokens.{PrintsRows}

-- ---- rows

-- a white row is zeros
pub white_is_zeros : (row : List ℕ) → IsWhite row → row ≡ replicate (length row) 0
white_is_zeros [] w = refl
white_is_zeros (byte ∷ row) w = let rest = white_is_zeros row w.1 in let first : byte ≡ 0 = w.0 in cc

-- the first of the rows from one on
pub row_at_first : (y : ℕ) (rows : List (List ℕ)) {first : List ℕ} {rest : List (List ℕ)} → drop y rows ≡ first ∷ rest → row_at rows y
    ≡ first
row_at_first zero (row ∷ rows) e = cc
row_at_first (suc y) (row ∷ rows) e = row_at_first y rows e
row_at_first y rows e = absurd cc

pub row_width : {width : ℕ} (rows : List (List ℕ)) (y : ℕ) → AreOfWidth width rows → y < length rows → length (row_at rows y) ≡ width
row_width [] y are lt = absurd (omega arith)
row_width (row ∷ rows) zero are lt = are.0
row_width {width} (row ∷ rows) (suc y) are lt = row_width rows y are.1 (omega arith)

-- each of the white rows is white
pub white_at : (count : ℕ) (rows : List (List ℕ)) (y : ℕ) → AreWhite (take count rows) → y < count → y < length rows
    → IsWhite (row_at rows y)
white_at (suc count) (row ∷ rows) zero w lt inside = w.0
white_at (suc count) (row ∷ rows) (suc y) w lt inside = white_at count rows y w.1 (omega arith) (omega arith)
white_at count rows y w lt inside = absurd (omega arith)

-- the row above a row that isn't the topmost
pub row_above_is : (width : ℕ) (rows : List (List ℕ)) (y : ℕ) → 0 < y → row_above width rows y ≡ row_at rows (y - 1)
row_above_is width rows y some = grind arith

pub above_width : {width : ℕ} (rows : List (List ℕ)) (y : ℕ) → AreOfWidth width rows → y ≤ length rows → length (row_above width rows y)
    ≡ width
above_width {width} rows zero are within = length-replicate width 0
above_width {width} rows (suc y) are within = row_width rows y are (omega arith)

-- below white rows the row above is zeros
pub zeros_above : (width : ℕ) (rows : List (List ℕ)) (y : ℕ) {count : ℕ} → AreOfWidth width rows → 0 < count → y + count ≤ length rows
    → AreWhite (take count (drop y rows)) → row_above width rows (y + count) ≡ replicate width 0
zeros_above width rows y {count} are some within white =
    let above : row_above width rows (y + count) ≡ row_at (drop y rows) (count - 1) =
    row_above_is width rows (y + count) (omega arith) ∙ grind (arith, get_or-drop y rows (count - 1) []) in
    let zeros = white_is_zeros _ (white_at count (drop y rows) (count - 1) white (omega arith) (omega (arith, length-drop y rows))) in
    let wide = above_width rows (y + count) are within in cc

-- ---- tokens are a walk

abbrev pub node : ℕ → Method → Bool → Node
node row current inside = record { row = row; method = current; inside = inside }

pub walk_of_tokens : (width : ℕ) (rows : List (List ℕ)) → AreOfWidth width rows
    → (tokens : List Token) (inside : Bool) (current : Method) {y : ℕ} {seed : List ℕ} (left : List (List ℕ))
    → y ≤ length rows → seed ≡ row_above width rows y → drop y rows ≡ left → PrintsRows inside current seed tokens left
    → Walk (Leads width rows) (Ends rows) (node y current inside) tokens
unfolding PrintsRows
walk_of_tokens width rows are [] false current left within s l p = (refl, subst AreWhite (sym l) p)
walk_of_tokens width rows are (opening ∷ tokens) false current {y} left within s l p =
    (node y current true, (refl, refl), walk_of_tokens width rows are tokens true current left within s l p)
walk_of_tokens width rows are (method digits next ends ∷ tokens) true current {y} left within s l p =
    (node y next (not ends), (refl, p.0, refl), walk_of_tokens width rows are tokens (not ends) next left within s l p.1)
walk_of_tokens width rows are (skip digits count ends ∷ tokens) true current {y} {seed} left within s l p =
    let room : y + count ≤ length rows = omega (arith, p.1, p.2, ap length l, length-drop y rows) in
    let white : AreWhite (take count (drop y rows)) = rw l p.3 in
    let seed_is : replicate (length seed) 0 ≡ row_above width rows (y + count) =
    rw (s, above_width rows y are within, zeros_above width rows y are p.1 room white) in
    let rest : drop (y + count) rows ≡ drop count left = sym (drop-drop count y rows) ∙ ap (drop count) l in
    let walk = walk_of_tokens width rows are tokens (not ends) current (drop count left) room seed_is rest p.4 in
    (node (y + count) current (not ends), (refl, p.0, p.1, room, white, refl), walk)
walk_of_tokens width rows are (send digits bytes ∷ tokens) true current {y} {seed} (first ∷ rest) within s l p =
    let room : y < length rows = omega (arith, ap length l, length-drop y rows) in
    let first_is : first ≡ row_at rows y = sym (row_at_first y rows l) in
    let data_is : IsRowData current (row_above width rows y) (row_at rows y) bytes = rw (← s, ← first_is) p.1 in
    let seed_is : first ≡ row_above width rows (y + 1) = first_is ∙ rw add-one refl in
    let below : drop (y + 1) rows ≡ rest = sym (drop-drop 1 y rows) ∙ ap (drop 1) l in
    let walk = walk_of_tokens width rows are tokens false current rest (omega arith) seed_is below p.2 in
    (node (y + 1) current false, (refl, p.0, room, data_is, refl), walk)
walk_of_tokens width rows are tokens inside current left within s l p = absurd p

-- ---- a walk's tokens

pub tokens_of_walk : (width : ℕ) (rows : List (List ℕ)) → AreOfWidth width rows
    → (tokens : List Token) (inside : Bool) (current : Method) {y : ℕ} {seed : List ℕ} → y ≤ length rows → seed ≡ row_above width rows y
    → Walk (Leads width rows) (Ends rows) (node y current inside) tokens → PrintsRows inside current seed tokens (drop y rows)
unfolding PrintsRows
tokens_of_walk width rows are [] false current within s w = w.1
tokens_of_walk width rows are (opening ∷ tokens) false current within s w =
    tokens_of_walk width rows are tokens true current within s (rw (← w.1.1) w.2)
tokens_of_walk width rows are (method digits next ends ∷ tokens) true current within s w =
    (w.1.1, tokens_of_walk width rows are tokens (not ends) next within s (rw (← w.1.2) w.2))
tokens_of_walk width rows are (skip digits count ends ∷ tokens) true current {y} {seed} within s w =
    let l = w.1 in
    let seed_is : replicate (length seed) 0 ≡ row_above width rows (y + count) =
    rw (s, above_width rows y are within, zeros_above width rows y are l.2 l.3 l.4) in
    let rest = tokens_of_walk width rows are tokens (not ends) current l.3 seed_is (rw (← l.5) w.2) in
    (l.1, l.2, omega (arith, length-drop y rows, l.2, l.3), l.4, rw drop-drop rest)
tokens_of_walk width rows are (send digits bytes ∷ tokens) true current {y} {seed} within s w =
    let l = w.1 in
    let seed_is : row_at rows y ≡ row_above width rows (y + 1) = rw add-one refl in
    let rest = tokens_of_walk width rows are tokens false current (omega (arith, l.2)) seed_is (rw (← l.4) w.2) in
    rw (drop_more rows y [] l.2) (l.1, rw s l.3, rest)
tokens_of_walk width rows are tokens inside current within s w = absurd cc
