use Rattle.pcl_plan.proofs.planner.plan.Goals as goal

pub returns : goal.returns
returns c =
    let page = c.args.page.now in
    rw (← page.size_is, ← page.dpi_is)
    (rw (
      c.row_bytes.ensures,
      c.size.ensures.value,
      c.dpi.ensures.value,
      c.height.ensures,
      c.size-2.ensures.value,
      c.dpi-2.ensures.value,
      c.bytes.ensures.bytes,
    ) at c.plan_rows.ensures)
