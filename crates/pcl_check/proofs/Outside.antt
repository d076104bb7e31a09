-- Outside a sequence: another one is sequence_opened, or the text ends.
use Rattle.std.proofs.Common.{◌≡◌, ℕ, true, false, List, [], ◌∷◌, ◌++◌, length, replicate, refl, sym, ◌⊎◌, inl, inr, ap, ◌∙◌, arith}
use Rattle.pcl_check.proofs.Names.{flat_map, AllByRecursion, length-replicate, append-nil, Dpi, Size, page_row_bytes, Token, opening, token_bytes, AreWhite, end_bytes, IsRowOf, LeftOver, RestPrints, GivesRows}
use Rattle.pcl_output.specs.Tokens.{PrintsRows}
use Rattle.pcl_check.proofs.Fronts.{left_over, white_rows}
use Rattle.pcl_check.proofs.Moves.{rows_white, white_before, all_white}

abbrev pub opening_bytes : List ℕ
opening_bytes = 27 ∷ 42 ∷ 98 ∷ []

-- ---- another sequence, or the end

outside_by : {size : Size} {dpi : Dpi} (left : LeftOver) {rows : List (List ℕ)} (tokens : List Token)
    → left.text ≡ flat_map token_bytes tokens ++ end_bytes → length rows ≡ left.rows → AllByRecursion (IsRowOf size dpi) rows
    → PrintsRows false left.method left.above tokens rows → ((left.text ≡ end_bytes) × AreWhite rows) ⊎ ((rest : List ℕ)
    × (left.text ≡ opening_bytes ++ rest) × RestPrints size dpi (left_over true left.method left.above left.rows rest) rows)
unfolding PrintsRows
outside_by left [] e n all p = inl (e, p)
outside_by left (opening ∷ tokens) e n all p =
    inr ((flat_map token_bytes tokens ++ end_bytes), e, record { count = n; rows_are = all; tokens = tokens; spelled = refl; prints = p })
outside_by left (token ∷ tokens) e n all p = absurd p

pub opening_becomes : {size : Size} {dpi : Dpi} {left : LeftOver} {rest : List ℕ} → left.inside ≡ false → left.text ≡ opening_bytes ++ rest
    → GivesRows size dpi left [] (left_over true left.method left.above left.rows rest)
unfolding PrintsRows
opening_becomes {left} {rest} outside e = record {
  splits = λ rows p. elim (outside_by left p.tokens p.spelled p.count p.rows_are (rw outside at p.prints)) [
    | inl ended ↦ let same : ◌≡◌ {A = ℕ} 98 114 = cc in absurd (omega arith)
    | inr opened ↦ let same : opened.0 ≡ rest = cc in (rows, refl, rw same at opened.2)
  ];
  joins = λ rows p. record {
    count = p.count;
    rows_are = p.rows_are;
    tokens = opening ∷ p.tokens;
    spelled = cc;
    prints = rw outside p.prints;
  };
}

-- neither is there
pub no_opening : {size : Size} {dpi : Dpi} {left : LeftOver} {rows : List (List ℕ)} → left.inside ≡ false
    → ((rest : List ℕ) → left.text ≡ opening_bytes ++ rest → ⊥) → (left.text ≡ end_bytes → ⊥) → RestPrints size dpi left rows → ⊥
no_opening {left} outside not_open not_end p =
    elim (outside_by left p.tokens p.spelled p.count p.rows_are (rw outside at p.prints)) [
      | inl ended ↦ not_end ended.0
      | inr opened ↦ not_open opened.0 opened.1
    ]

-- ---- the text ends

pub end_only : {size : Size} {dpi : Dpi} {left : LeftOver} {rows : List (List ℕ)} → left.inside ≡ false → left.text ≡ end_bytes
    → RestPrints size dpi left rows → rows ≡ white_rows size dpi left.rows
end_only {size} {dpi} {left} {rows} outside e p =
    elim (outside_by left p.tokens p.spelled p.count p.rows_are (rw outside at p.prints)) [
      | inl ended ↦ all_white size dpi rows p.rows_are ended.1 ∙ ap (white_rows size dpi) p.count
      | inr opened ↦ let same : ◌≡◌ {A = ℕ} 114 98 = cc in absurd (omega arith)
    ]

pub end_prints : {size : Size} {dpi : Dpi} {left : LeftOver} → left.inside ≡ false → left.text ≡ end_bytes
    → RestPrints size dpi left (white_rows size dpi left.rows)
unfolding PrintsRows
end_prints {size} {dpi} {left} outside e = record {
  count = length-replicate left.rows (replicate (page_row_bytes size dpi) 0);
  rows_are = rw (sym (append-nil (white_rows size dpi left.rows))) (white_before size dpi left.rows [] tt);
  tokens = [];
  spelled = e;
  prints = rw outside (rows_white size dpi left.rows);
}
