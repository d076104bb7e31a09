use Rattle.std.proofs.Common.{sym, ◌∙◌}
use Rattle.pcl_preview.proofs.Flags.{last_more}
use Rattle.pcl_preview.proofs.page_images.last_listed.Goals as goal
use Rattle.pcl_preview.proofs.page_images.last_listed.Goals.{then-flag, else-flag}

pub loop-before-preserved : goal.loop-before-preserved
loop-before-preserved c =
    let more = last_more c.args.flags.now c.loop-before.before c.loop-before-test.true in
    elim c.if-flag.branch [
      | then-flag w ↦ w.last-is ∙ sym (rw w.if-flag.true at more)
      | else-flag w ↦ w.last-is ∙ c.loop-before.invariant ∙ sym (rw w.if-flag.false at more)
    ]
