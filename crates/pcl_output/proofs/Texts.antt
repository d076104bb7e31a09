-- Lengths of page texts and costs of walks.
use Rattle.std.proofs.Common.{◌≡◌, ℕ, ◌+◌, ◌<◌, ◌≤◌, false, List, [], ◌∷◌, ◌++◌, length, replicate, refl, ap, ◌∙◌, arith}
use Rattle.pcl_output.proofs.Names.{copies_limit, flat_map, AllByRecursion, length-append, Dpi, Size, Plain, page_height, page_row_bytes, Walk, total, IsFeasible, IsLeastCost, feasible_bounds, Token, token_bytes, start_bytes, end_bytes, PrintsRows, IsRowOf, IsPageText, Node, start, Leads, Ends, cost, AreOfWidth, fixed_bytes, IsLeastText}
use Rattle.pcl_output.proofs.Walking.{walk_of_tokens, tokens_of_walk}

pub total_is : (tokens : List Token) → total cost tokens ≡ length (flat_map token_bytes tokens)
total_is [] = refl
total_is (token ∷ tokens) = omega (arith, total_is tokens, length-append (token_bytes token) (flat_map token_bytes tokens))

-- rows of a page have its width
pub widths : (size : Size) (dpi : Dpi) (rows : List (List ℕ)) → AllByRecursion (IsRowOf size dpi) rows
    → AreOfWidth (page_row_bytes size dpi) rows
widths size dpi [] are = tt
widths size dpi (row ∷ rows) are = (are.0.0, widths size dpi rows are.1)

pub walk_of_prints : (width : ℕ) (rows : List (List ℕ)) (tokens : List Token) → AreOfWidth width rows
    → PrintsRows false Plain (replicate width 0) tokens rows → Walk (Leads width rows) (Ends rows) start tokens
walk_of_prints width rows tokens are p = walk_of_tokens width rows are tokens false Plain rows (omega arith) refl refl p

pub prints_of_walk : (width : ℕ) (rows : List (List ℕ)) (tokens : List Token) → AreOfWidth width rows
    → Walk (Leads width rows) (Ends rows) start tokens → PrintsRows false Plain (replicate width 0) tokens rows
prints_of_walk width rows tokens are w = tokens_of_walk width rows are tokens false Plain (omega arith) refl w

-- a page text has its fixed part, and the bytes of its tokens
pub text_length : (dpi : Dpi) (size : Size) (copies : ℕ) (tokens : List Token)
    → length (start_bytes dpi copies size ++ flat_map token_bytes tokens ++ end_bytes) ≡ fixed_bytes dpi size copies + total cost tokens
text_length dpi size copies tokens =
    let begin = start_bytes dpi copies size in
    let body = flat_map token_bytes tokens in
    omega (arith, length-append (begin ++ body) end_bytes, length-append begin body, total_is tokens)

pub printed_length : {dpi : Dpi} {size : Size} {copies : ℕ} {rows : List (List ℕ)} {text : List ℕ}
    → (printed : IsPageText dpi size copies rows text) → length text ≡ fixed_bytes dpi size copies + total cost printed.tokens
printed_length {dpi} {size} {copies} printed = ap length printed.spelled ∙ text_length dpi size copies printed.tokens

pub printed_walk : {dpi : Dpi} {size : Size} {copies : ℕ} {rows : List (List ℕ)} {text : List ℕ}
    → (printed : IsPageText dpi size copies rows text) → Walk (Leads (page_row_bytes size dpi) rows) (Ends rows) start printed.tokens
printed_walk {dpi} {size} {rows} printed =
    walk_of_prints (page_row_bytes size dpi) rows printed.tokens (widths size dpi rows printed.rows_are) printed.prints

pub text_bounded : (dpi : Dpi) (size : Size) (copies : ℕ) (rows : List (List ℕ)) (text : List ℕ) (number : Node → ℕ)
    → IsFeasible (Leads (page_row_bytes size dpi) rows) (Ends rows) cost number → IsPageText dpi size copies rows text
    → fixed_bytes dpi size copies + number start ≤ length text
text_bounded dpi size copies rows text number feasible printed =
    omega (arith, printed_length printed, feasible_bounds feasible start printed.tokens (printed_walk printed))

pub text_of_least : (dpi : Dpi) (size : Size) (copies : ℕ) (rows : List (List ℕ)) (number : ℕ) → 0 < copies → copies ≤ copies_limit
    → length rows ≡ page_height size dpi
    → AllByRecursion (IsRowOf size dpi) rows → IsLeastCost (Leads (page_row_bytes size dpi) rows) (Ends rows) cost start number
    → IsLeastText dpi size copies rows (fixed_bytes dpi size copies + number)
text_of_least dpi size copies rows number some few count are least =
    let w = least.attained in
    let printed : IsPageText dpi size copies rows (start_bytes dpi copies size ++ flat_map token_bytes w.0 ++ end_bytes) = record {
      some_copies = some;
      few_copies = few;
      count = count;
      rows_are = are;
      tokens = w.0;
      spelled = refl;
      prints = prints_of_walk (page_row_bytes size dpi) rows w.0 (widths size dpi rows are) w.1;
    } in
    record {
      attained = (_, printed, omega (arith, text_length dpi size copies w.0, w.2));
      shortest = λ other is. omega (arith, printed_length is, least.least is.tokens (printed_walk is));
    }
