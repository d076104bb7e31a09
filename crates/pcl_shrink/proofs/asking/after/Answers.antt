use Rattle.std.proofs.Common.{sym, arith}
use Rattle.pcl_shrink.proofs.Names.{drop_all}
use Rattle.pcl_shrink.proofs.asking.after.Goals as goal

pub returns-in-None : goal.returns-in-None
returns-in-None c = sym (drop_all c.args.len c.args.text.now (omega (arith, c.in-None.ensures)))
