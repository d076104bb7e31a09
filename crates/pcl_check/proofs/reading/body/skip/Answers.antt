use Rattle.std.proofs.Common.{◌≡◌, ℕ, List, replicate, sym, arith}
use Rattle.pcl_check.proofs.Names.{length-replicate, number_of, page_row_bytes, height_small}
use Rattle.pcl_check.proofs.Fronts.{white_rows, front_at, is_method, is_skip, is_send}
use Rattle.pcl_check.proofs.Moves.{skip_becomes}
use Rattle.pcl_check.proofs.Steps.{told, shorter, cased, becomes_to}
use Rattle.pcl_check.proofs.reading.body.skip.Goals as goal

pub returns-then-count-eq0 : goal.returns-then-count-eq0
returns-then-count-eq0 c = λ rows printed.
    let is = c.requires.parameter in
    let signed = cased c.requires.letter in
    elim (front_at (told c.args.comparison.bitmap.now c.args.comparison.size c.args.above.now c.args.place _ c.requires.inside is)
    printed) [
      | is_method next last b m p ↦ grind (arith, signed.1)
      | is_skip last others b some few r p ↦ grind (arith, is.number_is, c.then-count-eq0.branch)
      | is_send bytes more first others b m r some f row row_data p ↦ grind (arith, signed.1)
    ]

pub returns : goal.returns
returns c =
    let picture = c.args.comparison.bitmap.now in
    let size = c.args.comparison.size in
    let is = c.requires.parameter in
    let count : ℕ = c.args.parameter.number in
    let high = height_small size picture.dpi in
    let few = c.if-count-height.false in
    let signed = cased c.requires.letter in
    let number : number_of c.args.parameter.digits.now ≡ count = omega (arith, is.number_is, few, c.height.ensures) in
    let many = length-replicate {A = List ℕ} count (replicate (page_row_bytes size picture.dpi) 0) in
    let moved = skip_becomes {size = size} {dpi = picture.dpi} (told picture size c.args.above.now c.args.place _ c.requires.inside is)
    signed.0 signed.1 (omega (arith, number)) (omega (arith, number, few, c.height.ensures)) in (
      record {
        given = white_rows size picture.dpi count;
        becomes = becomes_to (sym signed.2) (sym (c.fill.ensures.after (λ y e. e))) (omega arith) (rw number at moved);
        row_is = omega (arith, many);
        within = omega (arith, few, c.height.ensures);
        same = rw many (grind (arith, c.if-place.branch));
      },
      shorter c.args.place.text.now c.args.parameter is,
    )
