use Rattle.std.proofs.Common.{◌≡◌, length, refl, sym, ◌∙◌, arith}
use Rattle.pcl_same.proofs.Names.{take-length}
use Rattle.pcl_same.proofs.LastExits.{without_end, with_end}
use Rattle.pcl_same.proofs.asking.LastExit.counted.Goals.{in-Ends, in_default-2, in_default}
use Rattle.pcl_same.proofs.asking.LastExit.counted.Goals as goal

pub returns : goal.returns
returns c =
    let same = c.as_slice-exits.ensures.value in
    elim c.match-self.branch [
      | in-Ends w ↦
          let count : w.len.result ≡ length c.args.asks.now.pages.items = omega (arith, w.len.ensures) in
          rw (w.count-is, same) (without_end _ _ w.in-Ends.is (rw (← count, ← same) (sym w.ends_job.ensures ∙ w.if-ends_job.true)))
      | in_default-2 w ↦
          let count : w.len.result ≡ length c.args.asks.now.pages.items = omega (arith, w.len.ensures) in
          rw (w.count-is, take-length c.as_slice-exits.result.now, same)
          (with_end _ _ w.in-Ends.is (rw (← count, ← same) (sym w.ends_job.ensures ∙ w.if-ends_job.false)))
      | in_default w ↦ rw (w.count-is, take-length c.as_slice-exits.result.now, w.in_default.is, same) refl
    ]
