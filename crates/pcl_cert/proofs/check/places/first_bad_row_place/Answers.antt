use Rattle.std.proofs.Common.{sym, ap, ◌∙◌, arith}
use Rattle.pcl_cert.proofs.Names.{option_copied}
use Rattle.pcl_cert.proofs.RowPlaces.{rows_on, rows_end}
use Rattle.pcl_cert.proofs.check.places.first_bad_row_place.Goals as goal

pub returns-then-is_some : goal.returns-then-is_some
returns-then-is_some c =
    rows_end c.args.page.now c.in_ok-tables.tables.now c.loop-row.invariant c.first_bad_in_row-found.result
    (ap option_copied c.in_ok-tables.was) (let below = c.loop-row-test.true in omega (arith, c.height-row-end.ensures))
    c.first_bad_in_row-found.ensures (sym c.is_some.ensures ∙ c.if-is_some.true)

pub loop-row-preserved : goal.loop-row-preserved
loop-row-preserved c =
    rows_on c.args.page.now c.in_ok-tables.tables.now c.loop-row.invariant c.first_bad_in_row-found.result c.first_bad_in_row-found.ensures
    (sym c.is_some.ensures ∙ c.if-is_some.false)
