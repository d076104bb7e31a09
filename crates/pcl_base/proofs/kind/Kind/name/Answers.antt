use Rattle.pcl_base.proofs.Names.{rules}
use Rattle.pcl_base.proofs.kind.Kind.name.Goals as goal

pub returns-in-BadSequence : goal.returns-in-BadSequence
returns-in-BadSequence c = search rules
