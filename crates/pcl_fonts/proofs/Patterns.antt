-- Characters as they are read.
use Rattle.std.proofs.Common.{◌≡◌, ◌≤◌, ◌+◌, ◌-◌, ◌*◌, ◌/◌, ℕ, zero, suc, Bool, true, false, nat_le, if◌then◌else◌, List, [], ◌∷◌, ◌++◌, length, replicate, Option, Some, None, is_some, Result, Ok, Err, IfOk, refl, sym, ap, ◌∙◌, arith}
use Rattle.std.specs.List.{concat}
use Rattle.std.specs.Option.{option_map, option_and_then, unwrap_or}
use Rattle.std.proofs.Math.Nat.{add-mul}
use Rattle.std.proofs.lemmas.Bool.{leb-true}
use Rattle.std.proofs.lemmas.List.{length-append}
use Rattle.std.proofs.lemmas.Option.{same_Some}
use Rattle.pcl_fonts.specs.Compressed.{RowFront, bytes_of, row_by_runs, with_copies, rows_by_groups, expanded}
use Rattle.pcl_fonts.specs.SentRows.{is_whole, sent_rows_in, bytes_of_rows}
use Rattle.pcl_fonts.specs.declared.sent_rows.SentRows.{SentRows}
use Rattle.pcl_fonts.specs.declared.sent_rows.SentRows.TheVariants.{Plain, Compressed}
use Rattle.pcl_fonts.specs.declared.sent_rows.GlyphRows.{GlyphRows}
use Rattle.pcl_fonts.proofs.Names.{Character, pattern_bytes}
use Rattle.pcl_fonts.proofs.Expanding.{length-bytes_of}

pub same_character : {a b : Character} → a.left ≡ b.left → a.top ≡ b.top → a.width ≡ b.width → a.height ≡ b.height → a.delta ≡ b.delta
    → a.rows ≡ b.rows → a ≡ b
same_character l t w h d r i = record { left = l i; top = t i; width = w i; height = h i; delta = d i; rows = r i }

-- ---- how many bytes rows have

length-copies : (n : ℕ) (row : List ℕ) → length (concat (replicate n row)) ≡ n * length row
length-copies zero row = let none : length (concat (replicate zero row)) ≡ 0 = refl in omega (arith, none)
length-copies (suc n) row = omega (arith, length-append row (concat (replicate n row)), length-copies n row)

module _ (bytes repeats below : ℕ) (row : List ℕ) (long : length row ≡ bytes) (within : repeats ≤ below) where
  length-after : (later : Option (List ℕ)) (rows : List ℕ) → ((l : List ℕ) → later ≡ Some l → length l ≡ (below - repeats) * bytes)
      → option_map (with_copies repeats row) later ≡ Some rows → length rows ≡ suc below * bytes
  length-after None rows each e = absurd (cc)
  length-after (Some later) rows each e =
      let copies = concat (replicate (repeats + 1) row) in
      let sum : repeats + 1 + (below - repeats) ≡ suc below = omega arith in
      let beyond = each later refl in
      ap length (sym (same_Some (copies ++ later) rows e)) ∙ length-append copies later
      ∙ ap (λ n. n + length later) (length-copies (repeats + 1) row ∙ ap (λ n. (repeats + 1) * n) long)
      ∙ ap (λ n. (repeats + 1) * bytes + n) beyond ∙ sym (add-mul (repeats + 1) (below - repeats) bytes) ∙ ap (λ n. n * bytes) sum

-- the rows of a group and of those after it
length-group : (width repeats below : ℕ) (later : List ℕ → Option (List ℕ))
    → ((rest rows : List ℕ) → later rest ≡ Some rows → length rows ≡ (below - repeats) * ((width + 7) / 8)) → (test : Bool)
    → nat_le repeats below ≡ test → (front : Option RowFront) (rows : List ℕ)
    → (if test
    then option_and_then (λ f. option_map (with_copies repeats (bytes_of ((width + 7) / 8) f.bits)) (later f.rest)) front
    else None) ≡ Some rows → length rows ≡ suc below * ((width + 7) / 8)
length-group width repeats below later each false t front rows e = absurd (cc)
length-group width repeats below later each true t None rows e = absurd (cc)
length-group width repeats below later each true t (Some f) rows e =
    length-after ((width + 7) / 8) repeats below (bytes_of ((width + 7) / 8) f.bits) (length-bytes_of ((width + 7) / 8) f.bits)
    (leb-true repeats below t) (later f.rest) rows (each f.rest) e

length-rows_by_groups : (most width height : ℕ) (bytes rows : List ℕ) → rows_by_groups most width height bytes ≡ Some rows
    → length rows ≡ height * ((width + 7) / 8)
unfolding rows_by_groups
length-rows_by_groups most width zero bytes rows e =
    let none : length rows ≡ 0 = ap length (sym (same_Some [] rows e)) in
    omega (arith, none)
length-rows_by_groups zero width (suc below) bytes rows e = absurd (cc)
length-rows_by_groups (suc most) width (suc below) [] rows e = absurd (cc)
length-rows_by_groups (suc most) width (suc below) (repeats ∷ bytes) rows e =
    length-group width repeats below (rows_by_groups most width (below - repeats))
    (λ rest later. length-rows_by_groups most width (below - repeats) rest later) (nat_le repeats below) refl
    (row_by_runs false width bytes) rows e

length-expanded : (width height : ℕ) (bytes : List ℕ) (rows : Option (List ℕ)) → expanded width height bytes ≡ rows → is_some rows ≡ true
    → pattern_bytes width height ≤ length (unwrap_or rows [])
unfolding expanded
length-expanded width height bytes None e some = absurd (cc)
length-expanded width height bytes (Some rows) e some = omega (arith, length-rows_by_groups height width height bytes rows e)

whole_rows : (width height : ℕ) (sent : SentRows) → is_whole width height sent ≡ true
    → pattern_bytes width height ≤ length (sent_rows_in width height sent)
whole_rows width height (Plain rows) whole = leb-true (pattern_bytes width height) (length rows.now) whole
whole_rows width height (Compressed runs) whole = length-expanded width height runs.now (expanded width height runs.now) refl whole

pub all_rows : {E : Type 0} (width height : ℕ) (result : Result GlyphRows E) (sent : SentRows) → is_whole width height sent ≡ true
    → IfOk result (λ rows. bytes_of_rows rows ≡ sent_rows_in width height sent)
    → IfOk result (λ rows. pattern_bytes width height ≤ length (bytes_of_rows rows))
all_rows width height (Ok rows) sent whole is = rw is (whole_rows width height sent whole)
all_rows width height (Err fault) sent whole is = tt
