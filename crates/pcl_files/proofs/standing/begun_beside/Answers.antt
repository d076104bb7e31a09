use Rattle.pcl_files.proofs.Names.{Decides-eqb, List, MatchOption, strip_suffix_is, subst, ℕ, ◌++◌, ◌≡◌, ◌≢◌}
use Rattle.std.proofs.Common.{◌∙◌}
use Rattle.pcl_files.proofs.standing.begun_beside.Goals as goal

pub returns : goal.returns
returns c =
    subst (λ ending. MatchOption c.strip_suffix.result ((stem : List ℕ) → c.args.name.now ≢ stem ++ ending)
    (λ stem. c.args.name.now ≡ stem.now ++ ending))
    (c.deref.ensures.value ∙ c.in_ok-ending.ensures)
    (strip_suffix_is Decides-eqb c.args.name.now c.deref.result.now c.strip_suffix.result c.strip_suffix.ensures.cases)
