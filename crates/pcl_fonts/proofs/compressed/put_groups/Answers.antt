use Rattle.std.proofs.Common.{◌∷◌, arith, ap, sym, ◌∙◌}
use Rattle.std.proofs.lemmas.List.{nil_from_length}
use Rattle.pcl_fonts.specs.Compressed.{rows_by_groups}
use Rattle.pcl_fonts.proofs.Expanding.{groups_begun, groups_cut, group_past, group_bad, no_groups, has_groups, groups_more}
use Rattle.pcl_fonts.proofs.compressed.put_groups.Goals as goal

pub loop-left-init : goal.loop-left-init
loop-left-init c = groups_begun c.args.width c.args.height c.args.bytes.now c.args.rows.now.items

pub returns-in_default : goal.returns-in_default
returns-in_default c =
    let left = c.loop-left.left in
    no_groups c.loop-left.invariant (λ most.
    ap (rows_by_groups most c.args.width left) (nil_from_length c.loop-left.rest.now c.in_default.ensures.cases)
    ∙ groups_cut most c.args.width left c.loop-left-test.true)

pub returns-then-copies-left : goal.returns-then-copies-left
returns-then-copies-left c =
    let left = c.loop-left.left in
    no_groups c.loop-left.invariant (λ most.
    ap (rows_by_groups most c.args.width left) c.in-Some.ensures.cases.0
    ∙ group_past most c.args.width left c.in-Some.repeats.now c.in-Some.runs.now c.loop-left-test.true
    (omega (arith, c.from-copies.ensures)))

pub returns-in_default-put_row : goal.returns-in_default-put_row
returns-in_default-put_row c =
    let left = c.loop-left.left in
    no_groups c.loop-left.invariant (λ most.
    ap (rows_by_groups most c.args.width left) c.in-Some.ensures.cases.0
    ∙ group_bad most c.args.width left c.in-Some.repeats.now c.in-Some.runs.now c.loop-left-test.true
    (omega (arith, c.from-copies.ensures)) c.in_default-put_row.ensures)

pub loop-left-preserved : goal.loop-left-preserved
loop-left-preserved c =
    let bytes = c.in-Some.ensures.cases.0 ∙ ap (λ n. n ∷ c.in-Some.runs.now) (sym c.from-copies.ensures) in
    groups_more c.put_copies.new.rows.items c.put_row.new.row c.in-Some.runs.now c.in-Some-put_row.after.now c.from-copies.result
    c.loop-left-test.true bytes (omega arith) c.in-Some-put_row.ensures c.in_ok-put_copies.ensures c.loop-left.invariant

pub returns : goal.returns
returns c = has_groups c.loop-left.invariant (omega arith)
