use Rattle.std.proofs.Common.{◌-◌, ◌*◌, ◌/◌, ◌%◌, ◌^◌, ap, ◌∙◌, ℕ}
use Rattle.std.specs.Int.Count.{ones}
use Rattle.pcl_preview.proofs.Counts.{few_bits, set_bits}
use Rattle.pcl_preview.proofs.greymap.black_bits.Goals as goal

pub returns-clause-count : goal.returns-clause-count
returns-clause-count c =
    ap (λ (byte : ℕ). ones (byte % (1 * 2 ^ (8 - c.args.skip) % 4294967296) / 2 ^ (8 - c.args.skip - c.args.count))) c.from.ensures
    ∙ set_bits c.args.byte c.args.skip c.args.count c.requires

pub returns-clause-bound : goal.returns-clause-bound
returns-clause-bound c = rw (returns-clause-count c) (few_bits c.args.byte c.args.skip c.args.count)
