-- What is seen of a pattern.
use Rattle.std.proofs.Common.{◌≡◌, ℕ, ℤ, ◌+◌, ◌-◌, ◌*◌, ◌/◌, ◌%◌, ◌<◌, ◌≤◌, min, nat_le, nat_lt, Bool, false, ◌&&◌, ◌||◌, if◌then◌else◌, Some, None, List, drop, ◌⊎◌, arith}
use Rattle.pcl_bitmap.proofs.Names.{nat_tests, mul-le, div_below, mod_below, div-add-mod', div-mul-add, dot_of_row, rectangle_dot, dots_past, pattern_bit, pattern_dot}
use Rattle.pcl_bitmap.proofs.Spread.{quotient_test}

-- a line whose bits are those of the line above
pub same_bits_above : (line s : ℕ) → 1 ≤ s → (line % s ≡ 0 → ⊥) → (line - 1) / s ≡ line / s
same_bits_above line s some begun =
    let whole : line / s * s + line % s ≡ line = div-add-mod' line s in
    let short : line % s < s = mod_below line s some in
    let place : line - 1 ≡ line / s * s + (line % s - 1) = omega arith in
    rw place (div-mul-add (line / s) s (line % s - 1) (omega arith))

-- dots hold the bits of a line, from dot u on
abbrev pub HasLine : (dots rows : List ℕ) (line u s n count : ℕ) → Type 0
HasLine dots rows line u s n count = (k : ℕ) → k < 8 * count → dot_of_row dots k ≡ dot_of_row (drop (line / s * n) rows) ((u + k) / s)

-- a dot of an area after the pattern: with bits of s dots, n bytes a row, and its dot (u, v) at the area's corner (x, y)
abbrev pub line_or : (rows : List ℕ) (x y u v s n : ℕ) → ℕ → ℕ → Bool → Bool
line_or rows x y u v s n px py before = dot_of_row (drop ((py - y + v) / s * n) rows) ((u + (px - x)) / s) || before

-- a pattern's bit where its edges are before a dot, the left one by the test t and the upper one by the test u
seen_bit : (s w h : ℕ) (rows : List ℕ) (t u : Bool) (i j : ℕ)
    → pattern_bit s w h rows (if t then Some i else None) (if u then Some j else None)
    ≡ (t && u && nat_lt (i / s) w && nat_lt (j / s) h && dot_of_row (drop (j / s * ((w + 7) / 8)) rows) (i / s))
seen_bit s w h rows t u i j = grind arith

-- the dots of a pattern that are seen on the page, its edges at `left` and `top` and `skip` dots before that
pub seen_pattern : (x y : ℤ) (left top skip_x skip_y wide high w h s n width height px py : ℕ) (rows : List ℕ) (d : Bool)
    → 1 ≤ s → n ≡ (width + 7) / 8 → w ≡ min (width * s - skip_x) (wide - left) → h ≡ min (height * s - skip_y) (high - top)
    → dots_past x px ≡ (if nat_le left px then Some (px + skip_x - left) else None)
    → dots_past y py ≡ (if nat_le top py then Some (py + skip_y - top) else None) → px < wide → py < high
    → (if rectangle_dot left top w h px py then line_or rows left top skip_x skip_y s n px py d else d)
    ≡ (pattern_dot x y s width height rows px py || d)
seen_pattern x y left top skip_x skip_y wide high w h s n width height px py rows d some e_n e_w e_h e_x e_y within on_page =
    let across : ℕ = px + skip_x - left in
    let down : ℕ = py + skip_y - top in
    let in_x : left ≤ px → skip_x + (px - left) ≡ px + skip_x - left = λ h. omega arith in
    let in_y : top ≤ py → py - top + skip_y ≡ py + skip_y - top = λ h. omega arith in
    rw (e_x, e_y, seen_bit, quotient_test across s width some, quotient_test down s height some, e_n) (grind (arith, nat_tests, in_x, in_y))

-- a row that is seen is one of the pattern's
pub seen_row : (j skip s height n size : ℕ) → 1 ≤ s → j + skip < height * s → height * n ≤ size → (j + skip) / s * n ≤ size
seen_row j skip s height n size some below fits =
    let row : (j + skip) / s < height = div_below (j + skip) s height some below in
    omega (arith, mul-le ((j + skip) / s) n height n (omega arith) (omega arith))

-- a pattern that begins right of or below the page
pub pattern_off : (x y : ℤ) (left top skip_x skip_y wide high s w h px py : ℕ) (rows : List ℕ) → (wide ≤ left) ⊎ (high ≤ top)
    → dots_past x px ≡ (if nat_le left px then Some (px + skip_x - left) else None)
    → dots_past y py ≡ (if nat_le top py then Some (py + skip_y - top) else None)
    → px < wide → py < high → pattern_dot x y s w h rows px py ≡ false
pattern_off x y left top skip_x skip_y wide high s w h px py rows off e_x e_y within on_page =
    rw (e_x, e_y, seen_bit) (grind (arith, nat_tests))
