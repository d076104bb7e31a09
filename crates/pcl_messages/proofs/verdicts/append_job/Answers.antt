use Rattle.std.proofs.Common.{◌≡◌, ◌++◌, List, ℕ, Result, Ok, Err, append_assoc, OnOk, is_ok, if◌then◌else◌, codes}
use Rattle.pcl_messages.proofs.Appended.{then_appended}
use Rattle.pcl_messages.proofs.verdicts.append_job.Goals as goal

appended : {T E : Type 0} (result : Result T E) (old new text : List ℕ) → new ≡ (if is_ok result then old ++ text else old)
    → OnOk result (new ≡ old ++ text)
appended (Ok x) old new text e = e
appended (Err x) old new text e = tt

behind : {T E : Type 0} (result : Result T E) (old middle new first second text : List ℕ) → middle ≡ old ++ first
    → new ≡ (if is_ok result then middle ++ second else middle) → second ≡ text → OnOk result (new ≡ old ++ (first ++ text))
behind (Ok x) old middle new first second text p e q = cc (append_assoc old first second)
behind (Err x) old middle new first second text p e q = tt

pub returns-in-PageCount : goal.returns-in-PageCount
returns-in-PageCount c =
    rw c.in-PageCount.is (appended c.extend_from_slice-in-PageCount.result c.args.line.now.items _ (codes "not proved: page count")
    c.extend_from_slice-in-PageCount.ensures.items)

pub returns-in-Frame : goal.returns-in-Frame
returns-in-Frame c =
    rw c.in-Frame.is (appended c.extend_from_slice-in-Frame.result c.args.line.now.items _ (codes "not proved: frame")
    c.extend_from_slice-in-Frame.ensures.items)

pub returns-in_ok-extend_from_slice-in-Certificate : goal.returns-in_ok-extend_from_slice-in-Certificate
returns-in_ok-extend_from_slice-in-Certificate c =
    rw c.in-Certificate.is
    (behind c.extend_from_slice-in-Certificate.result _ _ _ _ _ _ c.in_ok-extend_from_slice-in-Certificate.ensures.items
    c.extend_from_slice-in-Certificate.ensures.items c.fault_name.ensures)

pub returns-in_ok-append_subject-in-Page : goal.returns-in_ok-append_subject-in-Page
returns-in_ok-append_subject-in-Page c =
    rw c.in-Page.is (then_appended c.append_verdict.result _ _ _ _ c.in_ok-append_subject-in-Page.ensures c.append_verdict.ensures)
