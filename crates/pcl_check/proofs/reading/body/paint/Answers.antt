use Rattle.std.proofs.Common.{◌≡◌, ℕ, ◌≤◌, Bool, true, false, IsTrue, List, length, refl, sym, subst, ◌∙◌, ◌↔◌}
use Rattle.pcl_check.proofs.Names.{Dpi, Method, Size, page_width, page_row_bytes, dot_of_row, IsRowData, decoded_is, IsPaintedRow}
use Rattle.pcl_check.proofs.reading.body.paint.Goals as goal

abbrev HasClearPads : Size → Dpi → List ℕ → Type 0
HasClearPads size dpi row = (x : ℕ) → page_width size dpi ≤ x → dot_of_row row x ≡ false

-- whole data that makes a row
painted : (size : Size) (dpi : Dpi) {method : Method} {above bytes row : List ℕ} (clear : Bool) → length row ≡ page_row_bytes size dpi
    → IsRowData method above row bytes → (IsTrue clear ↔ HasClearPads size dpi row) → IsPaintedRow dpi size method above bytes clear row
painted size dpi true wide makes pads = ((wide, pads.0 refl), makes)
painted size dpi {method} {above} {bytes} {row} false wide makes pads = λ other is made.
    let same : other ≡ row = made.decodes ∙ sym makes.decodes in
    let yes : false ≡ true = pads.1 (subst (HasClearPads size dpi) same is.1) in cc

pub returns-then-is_whole : goal.returns-then-is_whole
returns-then-is_whole c =
    let wide : length c.copy_from_slice.new.self ≡ length c.args.above.now = c.copy_from_slice.auto.self in
    painted c.args.comparison.size c.args.comparison.bitmap.now.dpi c.has_clear_pads.result (wide ∙ c.requires.above) (record {
      whole = c.is_whole.ensures.0 c.if-is_whole.true;
      decodes = decoded_is _ _ _ _ (rw c.copy_from_slice.ensures.after c.decode.ensures);
      fits = c.requires.fits;
    }) c.has_clear_pads.ensures
