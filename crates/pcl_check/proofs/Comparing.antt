-- Rows of a text beside those of a page.
use Rattle.std.proofs.Common.{◌≡◌, ℕ, ◌-◌, ◌≤◌, Bool, true, false, IsTrue, List, [], ◌++◌, length, take, drop, replicate, refl, sym, subst, ◌∙◌, append_assoc, arith, ◌↔◌}
use Rattle.pcl_check.proofs.Names.{length-append, length-replicate, append_assoc, parts_of, of_parts, Dpi, Size, page_height, page_row_bytes, Picture, end_bytes, bitmap_rows, Place, LeftOver, GivesRows, left_at, body_of, AreRowsAt, Advances, IsOnlyPrinted}
use Rattle.pcl_check.proofs.Fronts.{white_rows}
use Rattle.pcl_check.proofs.Outside.{end_only, end_prints}

-- ---- tests that are joined

pub both : {may test outcome : Bool} {P : Type 0} → (IsTrue test ↔ P) → may ≡ true → outcome ≡ test → IsTrue outcome ↔ (IsTrue may × P)
both says m o = (λ yes. (m, says.0 (sym o ∙ yes)), λ h. o ∙ says.1 h.1)

pub neither : {may outcome : Bool} {P : Type 0} → may ≡ false → outcome ≡ may → IsTrue outcome ↔ (IsTrue may × P)
neither {may} m o = (λ yes. absurd cc, λ h. let yes : may ≡ true = h.0 in absurd cc)

-- ---- moves one after the other

pub becomes_trans : {size : Size} {dpi : Dpi} {a : LeftOver} {given : List (List ℕ)} {b : LeftOver} {more : List (List ℕ)} {c : LeftOver}
    → GivesRows size dpi a given b → GivesRows size dpi b more c → GivesRows size dpi a (given ++ more) c
becomes_trans {size} {dpi} {a} {given} {more} first second = record {
  splits = λ rows p.
      let one = first.splits rows p in
      let two = second.splits one.0 one.2 in (two.0, simp (one.1, two.1, append_assoc), two.2);
  joins = λ rows p. rw (append_assoc given more rows) (first.joins (more ++ rows) (second.joins rows p));
}

pub becomes_same : {size : Size} {dpi : Dpi} {a b : LeftOver} → a ≡ b → GivesRows size dpi a [] b
becomes_same e = record { splits = λ rows p. (rows, refl, rw (sym e) p); joins = λ rows p. rw e p }

-- a body read to some place, and the comparison so far
pub record IsBodyReadTo (picture : Picture) (size : Size) (text : List ℕ) (can_match : Bool) (place : Place) (above : List ℕ) : Type 0 where
  pub given : List (List ℕ)
  pub becomes : GivesRows size picture.dpi (body_of size picture.dpi text) given (left_at size picture.dpi place above)
  pub row_is : place.row ≡ length given
  pub within : place.row ≤ page_height size picture.dpi
  pub same : IsTrue place.is_same ↔ (IsTrue can_match × AreRowsAt picture 0 given)

-- rows are a page's first ones where those before a place are, and those from there on
same_joined : (picture : Picture) {can_match before after : Bool} (given : List (List ℕ)) {more : List (List ℕ)}
    → (IsTrue after ↔ (IsTrue before × AreRowsAt picture (length given) more))
    → (IsTrue before ↔ (IsTrue can_match × AreRowsAt picture 0 given))
    → IsTrue after ↔ (IsTrue can_match × AreRowsAt picture 0 (given ++ more))
same_joined picture given {more} later first =
    grind (arith, of_parts given {b = more} (bitmap_rows picture), parts_of given {b = more} (bitmap_rows picture))

pub read_on : {picture : Picture} {size : Size} {text : List ℕ} {can_match : Bool} {place : Place} {above : List ℕ} {next : Place}
    {below : List ℕ} → IsBodyReadTo picture size text can_match place above → Advances picture size place above next below
    → IsBodyReadTo picture size text can_match next below
read_on {picture} {place} read advances =
    record {
      given = read.given ++ advances.given;
      becomes = becomes_trans read.becomes advances.becomes;
      row_is = omega (arith, length-append read.given advances.given, read.row_is, advances.row_is);
      within = advances.within;
      same = same_joined picture read.given (rw read.row_is at advances.same) read.same;
    }

-- at the end of the text the other rows are white
pub read_all : {picture : Picture} {size : Size} {text : List ℕ} {can_match : Bool} {place : Place} {above : List ℕ} {outcome : Bool}
    → IsBodyReadTo picture size text can_match place above → place.inside ≡ false → place.text.now ≡ end_bytes
    → (IsTrue outcome ↔ (IsTrue place.is_same × AreRowsAt picture place.row
    (white_rows size picture.dpi (page_height size picture.dpi - place.row)))) → IsOnlyPrinted picture size text can_match outcome
read_all {picture} {size} {place = place} {above} {outcome} read outside ended same =
    let white = white_rows size picture.dpi (page_height size picture.dpi - place.row) in
    record {
      rows = read.given ++ white;
      printed = read.becomes.joins white (end_prints outside ended);
      only = λ other p. let parts = read.becomes.splits other p in let rest = end_only outside ended parts.2 in cc;
      same = same_joined picture read.given
          (subst (λ (y : ℕ). IsTrue outcome ↔ (IsTrue place.is_same × AreRowsAt picture y white)) read.row_is same) read.same;
    }

-- a test of white rows, by their count
pub white_test : (picture : Picture) (size : Size) (y : ℕ) {n count : ℕ} {test : Bool} → n ≡ count
    → (IsTrue test ↔ (white_rows size picture.dpi n ≡ take n (drop y (bitmap_rows picture))))
    → IsTrue test ↔ AreRowsAt picture y (white_rows size picture.dpi count)
white_test picture size y {count = count} e says =
    rw (length-replicate count (replicate {A = ℕ} (page_row_bytes size picture.dpi) 0), sym e) says
