use Rattle.std.proofs.Common.{◌≡◌, ◌∙◌, Some, rules, ap, sym}
use Rattle.pcl_base.specs.Value.{count_of}
use Rattle.pcl_env.specs.Settings.{Settings}
use Rattle.pcl_env.specs.Outcome.{outcome, resolutions}
use Rattle.pcl_env.proofs.Counted.{taken}
use Rattle.pcl_env.proofs.env.Env.set_raster_resolution.Goals as goal

pub returns : goal.returns
unfolding outcome
returns c =
    let dots = c.in_ok-resolution.resolution in
    let is_count : count_of c.args.value ≡ Some dots = search rules in
    taken c.args.value dots (resolutions c.args.dpi) (λ n. record c.args.self.now { resolution = n }) _ _
    is_count (sym c.is_resolution.ensures.value ∙ c.if-not-is_resolution.false)
    (ap (λ (s : Settings). record s { resolution = dots }) c.self.view_is)
