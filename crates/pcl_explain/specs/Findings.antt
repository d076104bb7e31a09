-- What is found in a job.
use Rattle.std.specs.Prelude.{◌≡◌, ◌++◌, ℕ, List, length, take, codes, Option, Some, None}
use Rattle.std.specs.Str.Lossy.{utf8_lossy}
use Rattle.serde_json.specs.Data.{string}
use Rattle.serde_json.specs.Written.{compact_text}
use Rattle.pcl_base.specs.declared.dpi.Dpi.{Dpi}
use Rattle.pcl_base.specs.declared.kind.Kind.{Kind}
use Rattle.pcl_base.specs.declared.profile.Profile.{Profile}
use Rattle.pcl_base.specs.declared.refusal.Refusal.{Refusal}
use Rattle.pcl_base.specs.Refusal.{refusal_text}
use Rattle.pcl_base.specs.Kind.{kind_name}
use Rattle.pcl_page.specs.Accepting.{IsAccepted}
use Rattle.pcl_page.specs.Delivering.{IsRefusalBy}
use Rattle.pcl_explain.specs.declared.finding.Findings.{Findings}

-- the refusal of a job by a profile, or none where it is accepted
abbrev pub IsFirstRefusal : Profile → Dpi → List ℕ → Option Refusal → Type 0
IsFirstRefusal profile dpi job None = IsAccepted profile dpi job
IsFirstRefusal profile dpi job (Some refusal) = IsRefusalBy profile dpi job refusal

-- nothing is found where the job is accepted; else first its refusal
abbrev pub AreFindings : Profile → Dpi → List ℕ → Option Findings → Type 0
AreFindings profile dpi job None = IsFirstRefusal profile dpi job None
AreFindings profile dpi job (Some findings) = IsFirstRefusal profile dpi job (Some findings.first.refusal)

-- the text starts with these bytes
abbrev pub StartsWith : List ℕ → List ℕ → Type 0
StartsWith start text = take (length start) text ≡ start

-- a text on findings: it starts with the first refusal as messages print it
abbrev pub IsTextOn : Option Findings → List ℕ → Type 0
IsTextOn None text = text ≡ codes "nothing is refused\n"
IsTextOn (Some findings) text = StartsWith (refusal_text findings.first.refusal) text

-- what is said of a job
abbrev pub Explains : Profile → Dpi → List ℕ → List ℕ → Type 0
Explains profile dpi job text = (findings : Option Findings) × AreFindings profile dpi job findings × IsTextOn findings text

-- what is said of a kind of refusal starts with its name
abbrev pub ExplainsKind : Kind → List ℕ → Type 0
ExplainsKind kind text = StartsWith (kind_name kind) text

-- a refusal as messages print it, as a string of JSON
abbrev pub refusal_string : Refusal → List ℕ
refusal_string refusal = compact_text (string (utf8_lossy (refusal_text refusal)))

-- the same as an object of JSON: first come whether the job is accepted, and its refusal
abbrev pub IsObjectOn : Option Findings → List ℕ → Type 0
IsObjectOn None text = text ≡ codes "{\"accepted\":true,\"refusal\":null,\"refused\":[],\"language\":null}\n"
IsObjectOn (Some findings) text =
    StartsWith (codes "{\"accepted\":false,\"refusal\":" ++ refusal_string findings.first.refusal ++ codes ",") text

abbrev pub ExplainsAsObject : Profile → Dpi → List ℕ → List ℕ → Type 0
ExplainsAsObject profile dpi job text = (findings : Option Findings) × AreFindings profile dpi job findings × IsObjectOn findings text

-- and of a kind its name
abbrev pub ExplainsKindAsObject : Kind → List ℕ → Type 0
ExplainsKindAsObject kind text = StartsWith (codes "{\"kind\":\"" ++ kind_name kind) text
