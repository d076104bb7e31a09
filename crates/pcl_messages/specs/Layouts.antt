-- What is said on standard output of jobs that were checked or compared.
use Rattle.std.specs.Prelude.{ℕ, Bool, true, false, List, ◌++◌, codes}
use Rattle.pcl_request.specs.declared.request.Layout.{Layout}
use Rattle.pcl_request.specs.declared.request.Layout.TheVariants.{Text, Json}

abbrev pub truth_text : Bool → List ℕ
truth_text true = codes "true"
truth_text false = codes "false"

-- a text as a line; or as an object of JSON, in which a member of a name says whether it holds. No text of an answer has a quotation mark
-- or a backslash.
abbrev pub laid_out : Layout → (name : List ℕ) → (holds : Bool) → (text : List ℕ) → List ℕ
laid_out Text name holds text = text ++ codes "\n"
laid_out Json name holds text =
    codes "{\"" ++ name ++ codes "\":" ++ truth_text holds ++ codes ",\"line\":\"" ++ text ++ codes "\"}\n"
