-- Refusals, and how messages print them.
use Rattle.std.specs.Prelude.{ℕ, List, ◌++◌, codes, decimal}
use Rattle.pcl_base.specs.declared.kind.Kind.{Kind}
use Rattle.pcl_base.specs.declared.name.Name.{Name}
use Rattle.pcl_base.specs.declared.refusal.Refusal.{Refusal}
use Rattle.pcl_base.specs.Kind.{kind_name}
use Rattle.pcl_base.specs.Name.{name_text}

-- why and where a job is refused: the kind, the place in bytes, and the name of the command
abbrev pub refusal : Kind → ℕ → Name → Refusal
refusal kind at name = record { kind = kind; at = at; name = name }

abbrev pub refusal_text : Refusal → List ℕ
refusal_text r = kind_name r.kind ++ codes " at " ++ decimal r.at ++ codes " " ++ name_text r.name
