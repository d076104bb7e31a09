use Rattle.pcl_coders.proofs.Names.{Runs, AreRightFrom, white_like}
use Rattle.pcl_coders.proofs.Places.{IsRunFrom}
use Rattle.pcl_coders.proofs.fill.fill_runs.Given as goal

abbrev pub invariant-loop-place : goal.invariant-loop-place
invariant-loop-place l =
    record { right : AreRightFrom Runs (white_like l.row) l.row l.out l.place; run : IsRunFrom l.row l.end l.place l.run_end }
