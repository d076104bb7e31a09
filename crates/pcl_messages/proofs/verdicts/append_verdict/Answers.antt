use Rattle.std.proofs.Common.{◌≡◌, ◌++◌, ◌∙◌, ℕ, Bool, List, Result, Ok, Err, sym, ap, append_assoc, OnOk, is_ok, if◌then◌else◌, codes}
use Rattle.pcl_messages.proofs.Names.{Bor, Method, Edge, numbers_text, openness_text, verdict_text}
use Rattle.pcl_messages.proofs.verdicts.append_verdict.Goals as goal
use Rattle.pcl_messages.proofs.verdicts.append_verdict.Goals.{then-inside, else-inside}

-- the side is said after the row and the method of an edge
edge_said : {T E : Type 0} (result : Result T E) (old named numbered new side : List ℕ) (row : ℕ) (method : Method) (inside : Bool)
    → named ≡ old ++ codes "Edge" → numbered ≡ named ++ numbers_text row method
    → new ≡ (if is_ok result then numbered ++ side else numbered) → side ≡ openness_text inside
    → OnOk result (new ≡ old ++ verdict_text (Edge row method inside))
edge_said (Ok x) old named numbered new side row method inside n m e s =
    let front = append_assoc old (codes "Edge") (numbers_text row method) in
    cc (front, append_assoc old (codes "Edge" ++ numbers_text row method) (openness_text inside))
edge_said (Err x) old named numbered new side row method inside n m e s = tt

pub returns-after-inside : goal.returns-after-inside
returns-after-inside c =
    let side : c.if-inside.extend_from_slice.now ≡ openness_text c.in-Edge.inside =
    elim c.if-inside.branch [
      | then-inside w ↦ ap (λ (b : Bor (List ℕ)). b.now) w.extend_from_slice-is ∙ ap openness_text (sym w.if-inside.true)
      | else-inside w ↦ ap (λ (b : Bor (List ℕ)). b.now) w.extend_from_slice-is ∙ ap openness_text (sym w.if-inside.false)
    ] in
    rw c.in-Edge.is
    (edge_said c.extend_from_slice-in-Edge-2.result _ _ _ _ _ _ _ _ c.in_ok-extend_from_slice-in-Edge.ensures.items
    c.in_ok-append_numbers-in-Edge.ensures c.extend_from_slice-in-Edge-2.ensures.items side)
