use Rattle.std.proofs.Common.{◌≡◌, ◌/◌, Some, rules, ap, true}
use Rattle.pcl_base.specs.Value.{count_of}
use Rattle.pcl_env.specs.Settings.{Settings, inch}
use Rattle.pcl_env.specs.Outcome.{outcome, is_one_of, line_spacings}
use Rattle.pcl_env.proofs.Counted.{taken}
use Rattle.pcl_env.proofs.env.Env.set_line_spacing.Goals as goal

pub returns : goal.returns
unfolding outcome
returns c =
    let lines = c.in_ok-lines.lines in
    let is_count : count_of c.args.value ≡ Some lines = search rules in
    let holds : is_one_of line_spacings lines ≡ true = search rules in
    taken c.args.value lines line_spacings (λ n. record c.args.self.now { vmi = inch / n }) _ _
    is_count holds (ap (λ (s : Settings). record s { vmi = inch / lines }) c.self.view_is)
