use Rattle.pcl_rows.proofs.Names.{refl, sym, arith, [], Itself, Count}
use Rattle.pcl_rows.proofs.Beginnings.{Begins-one, opens_with}
use Rattle.pcl_rows.proofs.head.Opening.read.Goals as goal

pub returns-in-Plain-clause-opens : goal.returns-in-Plain-clause-opens
returns-in-Plain-clause-opens c = opens_with Itself (record { method_is = sym c.in-Plain.is; in_range = tt }) ([], refl)

pub returns-in-Runs-clause-opens : goal.returns-in-Runs-clause-opens
returns-in-Runs-clause-opens c =
    opens_with (Count c.from.result) (record { method_is = sym c.in-Runs.is; in_range = omega (arith, c.type_inv.bytes 0) })
    (Begins-one c.args.bytes.now c.from.result c.requires c.from.ensures)
