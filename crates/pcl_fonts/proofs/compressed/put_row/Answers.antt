use Rattle.std.proofs.Common.{◌≡◌, ◌∷◌, ◌++◌, ◌/◌, ◌+◌, ◌-◌, true, replicate, arith, ap, sym, ◌∙◌}
use Rattle.std.proofs.lemmas.List.{nil_from_length}
use Rattle.pcl_fonts.specs.Compressed.{bytes_of}
use Rattle.pcl_fonts.proofs.Expanding.{begun, has_no_bytes, goes_past, begun_more, has_row, white_bytes}
use Rattle.pcl_fonts.proofs.compressed.put_row.Goals as goal
use Rattle.pcl_fonts.proofs.compressed.put_row.Goals.{then-is_black, else-is_black}

pub loop-column-init : goal.loop-column-init
loop-column-init c = rw (c.fill.ensures.after (λ y e. e), c.requires) (begun c.args.width c.args.bytes.now)

pub returns-in_err-run : goal.returns-in_err-run
returns-in_err-run c =
    rw c.from_residual.ensures (has_no_bytes c.loop-column.invariant c.loop-column-test.true
    (nil_from_length c.loop-column.rest.now c.in_err-run.ensures.cases))

pub returns-then-count-width : goal.returns-then-count-width
returns-then-count-width c =
    goes_past c.in_ok-run.run'.now c.in_ok-run.others.now c.loop-column.invariant c.loop-column-test.true c.in_ok-run.ensures.cases.0
    (omega (arith, c.from-count.ensures))

pub loop-column-preserved : goal.loop-column-preserved
loop-column-preserved c =
    let bytes = c.in_ok-run.ensures.cases.0 ∙ ap (λ n. n ∷ c.in_ok-run.others.now) (sym c.from-count.ensures) in
    let long = c.loop-column.auto.row ∙ c.fill.ensures.len ∙ c.requires in
    let within = c.loop-column.invariant.within in
    let count = c.from-count.result in
    let column = c.loop-column.column in
    let width : column + count - column ≡ count = omega arith in
    begun_more c.if-is_black.row count c.in_ok-run.others.now c.loop-column.invariant c.loop-column-test.true bytes (omega arith)
    (λ bits begins is.
    elim c.if-is_black.branch [
      | then-is_black w ↦
          w.row-is ∙ w.blacken.ensures bits begins (is ∙ ap (λ n. bytes_of n bits) (sym long))
          ∙ ap (λ n. bytes_of n (bits ++ replicate (column + count - column) true)) long
          ∙ ap (λ n. bytes_of ((c.args.width + 7) / 8) (bits ++ replicate n true)) width
          ∙ ap (λ b. bytes_of ((c.args.width + 7) / 8) (bits ++ replicate count b)) (sym w.if-is_black.true)
      | else-is_black w ↦
          w.row-is ∙ is ∙ sym (white_bytes ((c.args.width + 7) / 8) count bits)
          ∙ ap (λ b. bytes_of ((c.args.width + 7) / 8) (bits ++ replicate count b)) (sym w.if-is_black.false)
    ])

pub returns : goal.returns
returns c = has_row c.loop-column.invariant c.loop-column-test.false
