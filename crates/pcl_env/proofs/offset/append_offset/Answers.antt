use Rattle.std.proofs.Common.{◌≡◌, ℕ, List, ◌++◌, append_assoc, ℤ, ap, ◌∙◌}
use Rattle.std.proofs.lemmas.Int.{to_z-of_z}
use Rattle.std.proofs.lemmas.Result.{on_ok_weaker}
use Rattle.std.specs.Int.{w64}
use Rattle.std.specs.Prelude.{unsigned_abs}
use Rattle.pcl_env.specs.Offset.{offset_text, minus_text, parts_text}
use Rattle.pcl_env.proofs.offset.append_offset.Goals as goal

-- the sign, and then the parts
spelled : (offset : ℤ) (old : List ℕ) {middle new : List ℕ} {parts : ℕ} → middle ≡ old ++ minus_text offset → parts ≡ unsigned_abs offset
    → new ≡ middle ++ parts_text parts → new ≡ old ++ offset_text offset
spelled offset old {middle} sign size rest =
    rest ∙ ap (λ (n : ℕ). middle ++ parts_text n) size ∙ ap (λ (bytes : List ℕ). bytes ++ parts_text (unsigned_abs offset)) sign
    ∙ append_assoc old (minus_text offset) (parts_text (unsigned_abs offset))

pub returns : goal.returns
returns c =
    let same = to_z-of_z w64 c.args.offset c.ranges.offset in
    on_ok_weaker c.append_parts.result
    (λ rest. spelled c.args.offset c.args.out.now.items (rw same at c.in_ok-append_minus.ensures)
    (rw same at c.unsigned_abs.ensures.value) rest)
    c.append_parts.ensures
