use Rattle.std.proofs.Common.{refl, sym, ◌∙◌, arith}
use Rattle.pcl_rows.proofs.Names.{Literal, Repeat, Skipped}
use Rattle.pcl_rows.proofs.Beginnings.{Begins-one, opens_with}
use Rattle.pcl_rows.proofs.head.control.Goals as goal

pub returns-in-128-clause-opens : goal.returns-in-128-clause-opens
returns-in-128-clause-opens c =
    opens_with Skipped (record { method_is = refl; in_range = tt })
    (Begins-one c.args.bytes.now 128 c.requires (sym c.in-128.is ∙ c.from-control.ensures))

pub returns-in-0-to-127-clause-opens : goal.returns-in-0-to-127-clause-opens
returns-in-0-to-127-clause-opens c =
    opens_with (Literal c.from-control.result) (record { method_is = refl; in_range = omega arith })
    (Begins-one c.args.bytes.now c.from-control.result c.requires c.from-control.ensures)

pub returns-in_default-clause-opens : goal.returns-in_default-clause-opens
returns-in_default-clause-opens c =
    opens_with (Repeat c.from-control.result) (record { method_is = refl; in_range = (omega arith, omega (arith, c.type_inv.bytes 0)) })
    (Begins-one c.args.bytes.now c.from-control.result c.requires c.from-control.ensures)
