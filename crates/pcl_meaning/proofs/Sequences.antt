-- Page texts are read as deeds.
use Rattle.pcl_meaning.proofs.Names.{letter, may_go_on, not, is_last, decimal, flat_map, length-drop, Dpi, Method, Horizontal, Vertical, PclUnit, Operation, Reset, FormFeed, PageSize, Copies, TopMargin, Move, RasterResolution, RasterWidth, StartRaster, EndRasterResetMethod, RasterMethod, RasterOffset, RasterRow, Size, dots_per_inch, method_code, code_of, page_width, zero_value, width_small, Prefix, two_character, Token, opening, method, skip, send, token_bytes, start_bytes, end_bytes, frame_bytes, decimal_spelled}
use Rattle.std.proofs.Common.{◌≡◌, ℕ, ◌+◌, ◌≤◌, true, false, List, [], ◌∷◌, ◌++◌, length, drop, Some, refl, append_assoc, arith, lit≤, Bool}
use Rattle.pcl_base.specs.Operation.{operation_of}
use Rattle.pcl_escape.specs.Pieces.{control}
use Rattle.pcl_output.specs.Tokens.{PrintsRows}
use Rattle.pcl_meaning.proofs.Deeds.{Deed, deed}
use Rattle.pcl_meaning.proofs.Readings.{ReadsAs, reads_joined, reads_none, reads_piece, number_value, IsSetting, setting, ReadsInside, begin_inside, end_inside, set_inside, set_last, row_prefix, row_end, row_meant}

-- ---- the deeds of a text

-- a setting to a number
abbrev set_to : Operation → ℕ → Deed
set_to operation n = deed operation (number_value n) []

-- what the commands of a token do
abbrev pub token_deeds : Token → List Deed
token_deeds opening = []
token_deeds (method digits next ends) = deed RasterMethod (number_value (method_code next)) [] ∷ []
token_deeds (skip digits count ends) = deed RasterOffset (number_value count) [] ∷ []
token_deeds (send digits bytes) = deed RasterRow (number_value (length bytes)) bytes ∷ []

-- what those of a body do
abbrev pub body_deeds : List Token → List Deed
body_deeds tokens = flat_map token_deeds tokens

-- what those before a body do
abbrev pub start_deeds : Dpi → ℕ → Size → List Deed
start_deeds dpi copies size =
    deed Copies (number_value copies) []
    ∷ deed PageSize (number_value (code_of size)) []
    ∷ deed TopMargin (number_value 0) []
    ∷ deed (Move Horizontal PclUnit) (number_value 0) []
    ∷ deed (Move Vertical PclUnit) (number_value 0) []
    ∷ deed RasterResolution (number_value (dots_per_inch dpi)) []
    ∷ deed RasterWidth (number_value (page_width size dpi)) []
    ∷ deed StartRaster (number_value 0) []
    ∷ []

-- what those after it do
abbrev pub end_deeds : List Deed
end_deeds = deed EndRasterResetMethod (number_value 0) [] ∷ deed FormFeed zero_value [] ∷ []

abbrev pub reset : Deed
reset = deed Reset zero_value []

-- ---- sequences of a body

-- outside a sequence tokens are read as their deeds; inside one they are read with the parameters before them
abbrev pub AreRead : Bool → List Token → Type 0
AreRead false tokens = ReadsAs (flat_map token_bytes tokens) (body_deeds tokens)
AreRead true tokens = (before : List ℕ) (deeds : List Deed) → ReadsInside row_prefix before deeds
    → ReadsAs (27 ∷ 42 ∷ 98 ∷ (before ++ flat_map token_bytes tokens)) (deeds ++ body_deeds tokens)

-- a setting, after which the sequence goes on, or ends
set_read : (capital : ℕ) (ends : Bool) {digits : List ℕ} {n : ℕ} {operation : Operation} (tokens : List Token)
    → IsSetting row_prefix (capital + 32) digits n operation → IsSetting row_prefix capital digits n operation
    → may_go_on row_prefix (capital + 32) ≡ true → is_last capital ≡ true → AreRead (not ends) tokens
    → (before : List ℕ) (deeds : List Deed) → ReadsInside row_prefix before deeds
    → ReadsAs (27 ∷ 42 ∷ 98 ∷ (before ++ ((digits ++ letter capital ends) ++ flat_map token_bytes tokens)))
    (deeds ++ (set_to operation n ∷ body_deeds tokens))
set_read capital false tokens more last goes stops rest before deeds r =
    simp append_assoc (simp append_assoc at (rest _ _ (set_inside r more goes)))
set_read capital true tokens more last goes stops rest before deeds r =
    simp append_assoc (simp append_assoc at (reads_joined (set_last r last stops) rest))

pub tokens_read : (inside : Bool) (tokens : List Token) (current : Method) (seed : List ℕ) (rows : List (List ℕ))
    → PrintsRows inside current seed tokens rows → length rows ≤ 65535 → AreRead inside tokens
unfolding PrintsRows operation_of
tokens_read false [] current seed rows p few = reads_none
tokens_read false (opening ∷ tokens) current seed rows p few =
    tokens_read true tokens current seed rows p few [] [] (begin_inside (refl, refl))
tokens_read true (method digits next ends ∷ tokens) current seed rows p few =
    let small : method_code next ≤ 65535 = grind arith in
    set_read 77 ends tokens (setting p.0 small refl refl refl refl) (setting p.0 small refl refl refl refl) refl refl
    (tokens_read (not ends) tokens next seed rows p.1 few)
tokens_read true (skip digits count ends ∷ tokens) current seed rows p few =
    let small : count ≤ 65535 = omega (arith, p.2) in
    set_read 89 ends tokens (setting p.0 small refl refl refl refl) (setting p.0 small refl refl refl refl) refl refl
    (tokens_read (not ends) tokens current _ (drop count rows) p.4 (omega (arith, length-drop count rows)))
tokens_read true (send digits bytes ∷ tokens) current seed (first ∷ rest) p few = λ before deeds r.
    let sent = end_inside r (row_end p.0 p.1.fits) (row_meant digits p.0) in
    simp append_assoc (simp append_assoc at (reads_joined sent (tokens_read false tokens current first rest p.2 (omega arith))))
tokens_read inside tokens current seed rows p few = absurd p

-- ---- start and end

-- &l, *p, *t and *r
abbrev prefix : ℕ → ℕ → Prefix
prefix parameterized group = record { parameterized = parameterized; group = Some group }

pub start_read : (dpi : Dpi) {copies : ℕ} (size : Size) → copies ≤ 65535
    → ReadsAs (start_bytes dpi copies size) (start_deeds dpi copies size)
unfolding operation_of
start_read dpi {copies} size le =
    let sizes : code_of size ≤ 65535 = grind arith in
    let dots : dots_per_inch dpi ≤ 65535 = grind arith in
    let wide : page_width size dpi ≤ 65535 = omega (arith, width_small size dpi) in
    let c : IsSetting (prefix 38 108) 120 (decimal copies) copies Copies =
    setting (decimal_spelled _ (omega arith)) le refl refl refl refl in
    let s : IsSetting (prefix 38 108) 97 (decimal (code_of size)) (code_of size) PageSize =
    setting (decimal_spelled _ (omega arith)) sizes refl refl refl refl in
    let margin : IsSetting (prefix 38 108) 69 (48 ∷ []) 0 TopMargin = setting ((refl, tt), refl) (lit≤ tt) refl refl refl refl in
    let across : IsSetting (prefix 42 112) 120 (48 ∷ []) 0 (Move Horizontal PclUnit) =
    setting ((refl, tt), refl) (lit≤ tt) refl refl refl refl in
    let down : IsSetting (prefix 42 112) 89 (48 ∷ []) 0 (Move Vertical PclUnit) =
    setting ((refl, tt), refl) (lit≤ tt) refl refl refl refl in
    let fine : IsSetting (prefix 42 116) 82 (decimal (dots_per_inch dpi)) (dots_per_inch dpi) RasterResolution =
    setting (decimal_spelled _ (omega arith)) dots refl refl refl refl in
    let width : IsSetting (prefix 42 114) 115 (decimal (page_width size dpi)) (page_width size dpi) RasterWidth =
    setting (decimal_spelled _ (omega arith)) wide refl refl refl refl in
    let start : IsSetting (prefix 42 114) 65 (48 ∷ []) 0 StartRaster = setting ((refl, tt), refl) (lit≤ tt) refl refl refl refl in
    let r = reads_joined (set_last (set_inside (set_inside (begin_inside (refl, refl)) c refl) s refl) margin refl)
    (reads_joined (set_last (set_inside (begin_inside (refl, refl)) across refl) down refl)
    (reads_joined (set_last (begin_inside (refl, refl)) fine refl)
    (set_last (set_inside (begin_inside (refl, refl)) width refl) start refl))) in
    simp append_assoc (simp append_assoc at r)

pub end_read : ReadsAs end_bytes end_deeds
unfolding operation_of
end_read =
    let end : IsSetting (prefix 42 114) 67 [] 0 EndRasterResetMethod = setting (tt, refl) (lit≤ tt) refl refl refl refl in
    reads_joined (set_last (begin_inside (refl, refl)) end refl)
    (reads_piece (control 12) (λ profile after. (refl, refl, refl)) (λ at. ((refl, refl, refl), tt)))

pub frame_read : ReadsAs frame_bytes (reset ∷ [])
unfolding operation_of
frame_read = reads_piece (two_character 69) (λ profile after. (refl, refl)) (λ at. ((refl, refl, refl), tt))
