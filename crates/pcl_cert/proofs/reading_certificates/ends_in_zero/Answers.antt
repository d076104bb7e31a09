use Rattle.pcl_cert.proofs.Names.{refl, arith}
use Rattle.pcl_cert.proofs.Numbers.{end_of_numbers, no_numbers_end}
use Rattle.pcl_cert.proofs.reading_certificates.ends_in_zero.Goals as goal

pub returns-in-0 : goal.returns-in-0
returns-in-0 c = no_numbers_end c.args.count c.args.numbers.now c.in-0.is

pub returns-in_default : goal.returns-in_default
returns-in_default c = rw (end_of_numbers c.args.count c.args.numbers.now (omega (arith, c.in_default)), c.word.ensures) refl
