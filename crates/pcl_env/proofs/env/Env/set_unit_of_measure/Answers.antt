use Rattle.std.proofs.Common.{◌≡◌, ◌/◌, Some, rules, ap, true}
use Rattle.pcl_base.specs.Value.{count_of}
use Rattle.pcl_env.specs.Settings.{Settings, inch}
use Rattle.pcl_env.specs.Outcome.{outcome, is_one_of, units_of_measure}
use Rattle.pcl_env.proofs.Counted.{taken}
use Rattle.pcl_env.proofs.env.Env.set_unit_of_measure.Goals as goal

pub returns : goal.returns
unfolding outcome
returns c =
    let units = c.in_ok-units.units in
    let is_count : count_of c.args.value ≡ Some units = search rules in
    let holds : is_one_of units_of_measure units ≡ true = search rules in
    taken c.args.value units units_of_measure (λ n. record c.args.self.now { pcl_unit = inch / n }) _ _
    is_count holds (ap (λ (s : Settings). record s { pcl_unit = inch / units }) c.self.view_is)
