-- Texts that are appended one after the other.
use Rattle.std.proofs.Common.{◌≡◌, ◌++◌, List, ℕ, Result, append_assoc}
use Rattle.pcl_messages.proofs.Names.{OnOk, on_ok_weaker}

pub then_appended : {T E : Type 0} (result : Result T E) (old new : List ℕ) {middle : List ℕ} (first second : List ℕ)
    → middle ≡ old ++ first → OnOk result (new ≡ middle ++ second) → OnOk result (new ≡ old ++ (first ++ second))
then_appended result old new {middle} first second p h =
    on_ok_weaker result (λ (e : new ≡ middle ++ second). cc (append_assoc old first second)) h
