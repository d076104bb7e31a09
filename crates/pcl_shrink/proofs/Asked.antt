-- What a job asks for, written around the texts of its pages, one exit or page more.
use Rattle.std.proofs.Common.{◌≡◌, ◌≢◌, ℕ, suc, ◌+◌, Bool, true, false, ◌==◌, ◌||◌, List, [], ◌∷◌, ◌++◌, length, map, take, get_or, ◌<◌, ◌≤◌, refl, sym, ap, subst, ◌∙◌, append_assoc, append-nil, arith}
use Rattle.pcl_shrink.proofs.Names.{nat_tests, length-append, length-map, length-take-le, map_more, flat_map-cons, flat_map-append, Asks, Exit, exit_of, Text, least_of, exit_with_lines, exit_text, exits_after, is_exit_after, as_said, page_start, asked_pages}
use Rattle.std.specs.List.{list_any}
use Rattle.pcl_page.specs.declared.asks.Exit.{Exit as ExitOfCode}

-- ---- exits

same_number : {a b : ℕ} → a ≡ b → (a == b) ≡ true
same_number e = grind (arith, nat_tests)

other_number : {a b : ℕ} → a ≢ b → (a == b) ≡ false
other_number n = grind (arith, nat_tests)

exits_more : (number : ℕ) (exits : List Exit) (exit : Exit)
    → exits_after number (exits ++ exit ∷ []) ≡ exits_after number exits ++ exit_text number exit
exits_more number exits exit = simp (flat_map-append, flat_map-cons, append-nil)

either_order : (a b c : Bool) → (a || (b || c)) ≡ (b || (a || c))
either_order a b c = grind arith

found_more : (number : ℕ) (exits : List Exit) (exit : Exit)
    → is_exit_after number (exits ++ exit ∷ []) ≡ ((exit.pages == number) || is_exit_after number exits)
found_more number [] exit = refl
found_more number (e ∷ exits) exit =
    rw (found_more number exits exit) (either_order (e.pages == number) (exit.pages == number) (is_exit_after number exits))

-- the exits up to a place are written, and it is known whether one stands there
abbrev pub WritesExits : ℕ → List ExitOfCode → ℕ → List ℕ → List ℕ → Bool → Type 0
WritesExits number exits i old new found =
    (new ≡ old ++ exits_after number (map exit_of (take i exits))) × (found ≡ is_exit_after number (map exit_of (take i exits)))

pub writes_there : (number : ℕ) (exits : List ExitOfCode) {i : ℕ} (d : ExitOfCode) (old mid : List ℕ) {new : List ℕ}
    (before : Bool) {found : Bool} → i < length exits → (get_or exits i d).pages ≡ number → WritesExits number exits i old mid before
    → new ≡ mid ++ exit_with_lines (exit_of (get_or exits i d)) → found ≡ true → WritesExits number exits (i + 1) old new found
writes_there number exits {i} d old mid before lt here so_far written same =
    let exit = exit_of (get_or exits i d) in
    let front = map exit_of (take i exits) in
    let more = map_more exit_of exits i d lt in (
      rw (written, so_far.0, more, exits_more number front exit, same_number here) (append_assoc old (exits_after number front) _),
      rw (same, more, found_more number front exit, same_number here) refl,
    )

pub writes_elsewhere : (number : ℕ) (exits : List ExitOfCode) {i : ℕ} (d : ExitOfCode) (old mid : List ℕ) {new : List ℕ}
    (before : Bool) {found : Bool} → i < length exits → (get_or exits i d).pages ≢ number → WritesExits number exits i old mid before
    → new ≡ mid → found ≡ before → WritesExits number exits (i + 1) old new found
writes_elsewhere number exits {i} d old mid before lt here so_far stays same =
    let exit = exit_of (get_or exits i d) in
    let front = map exit_of (take i exits) in
    let more = map_more exit_of exits i d lt in (
      rw (stays, so_far.0, more, exits_more number front exit, other_number here, append-nil) refl,
      rw (same, so_far.1, more, found_more number front exit, other_number here) refl,
    )

-- whether one of them stands there
pub any_there : (number : ℕ) (exits : List ExitOfCode)
    → list_any (λ (exit : ExitOfCode). exit.pages == number) exits ≡ is_exit_after number (map exit_of exits)
any_there number [] = refl
any_there number (exit ∷ exits) = ap (λ (test : Bool). (exit.pages == number) || test) (any_there number exits)

-- ---- pages

-- a page with what stands before its text
abbrev pub page_text : Asks → ℕ → List ℕ → List ℕ
page_text asks number text = page_start asks number ++ as_said asks number text

pub pages_more : (asks : Asks) (number : ℕ) (texts : List (List ℕ)) (text : List ℕ)
    → asked_pages asks number (texts ++ text ∷ []) ≡ asked_pages asks number texts ++ page_text asks (number + length texts) text
pages_more asks number [] text =
    let last : number ≡ number + 0 = omega arith in
    subst (λ (n : ℕ). page_text asks number text ++ [] ≡ page_text asks n text) last (append-nil (page_text asks number text))
pages_more asks number (t ∷ texts) text =
    let first = page_text asks number t in
    let rest = asked_pages asks (suc number) texts in
    let last = page_text asks (suc number + length texts) text in
    let place : suc number + length texts ≡ number + suc (length texts) = omega arith in
    ap (λ (bytes : List ℕ). first ++ bytes) (pages_more asks (suc number) texts text)
    ∙ subst (λ (n : ℕ). first ++ (rest ++ last) ≡ first ++ rest ++ page_text asks n text) place (sym (append_assoc first rest last))

-- one page more of a job's texts
pub next_page : (asks : Asks) (texts : List Text) {i : ℕ} (d : Text) → i < length texts → asked_pages asks 0 (least_of (take (i + 1) texts))
    ≡ asked_pages asks 0 (least_of (take i texts)) ++ page_text asks i (get_or texts i d).least.items
next_page asks texts {i} d lt =
    let so_far = least_of (take i texts) in
    let place : 0 + length so_far ≡ i =
    omega (arith, length-map (take i texts) (λ (t : Text). t.least.items), length-take-le i texts (omega arith)) in
    rw (map_more (λ (t : Text). t.least.items) texts i d lt, pages_more asks 0 so_far (get_or texts i d).least.items, place) refl

pub appended_page : (asks : Asks) (texts : List Text) {i : ℕ} (d : Text) {old start new : List ℕ} → i < length texts
    → old ≡ asked_pages asks 0 (least_of (take i texts)) → start ≡ old ++ page_start asks i
    → new ≡ start ++ as_said asks i (get_or texts i d).least.items
    → new ≡ asked_pages asks 0 (least_of (take (i + 1) texts))
appended_page asks texts {i} d lt so_far begun written =
    rw (written, begun, so_far, next_page asks texts d lt) (append_assoc _ (page_start asks i) _)

-- bytes that are counted, in place of bytes that are written
pub counted_page : (asks : Asks) (texts : List Text) {i : ℕ} (d : Text) (old new : ℕ) {start around : List ℕ} → i < length texts
    → old ≤ length (asked_pages asks 0 (least_of (take i texts))) → start ≡ page_start asks i
    → around ≡ start ++ as_said asks i (get_or texts i d).least.items
    → new ≤ old + length around → new ≤ length (asked_pages asks 0 (least_of (take (i + 1) texts)))
counted_page asks texts {i} d old new {around = around} lt so_far begun written counted =
    let page : around ≡ page_text asks i (get_or texts i d).least.items = rw (written, begun) refl in
    let joined = length-append (asked_pages asks 0 (least_of (take i texts))) (page_text asks i (get_or texts i d).least.items) in
    omega (arith, ap length (next_page asks texts d lt), ap length page, joined, so_far, counted)
