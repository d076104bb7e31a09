use Rattle.pcl_messages.proofs.Appended.{then_appended}
use Rattle.pcl_messages.proofs.comparison_lines.append_asks.Goals as goal

pub returns-in_ok-append_subject-in-Page : goal.returns-in_ok-append_subject-in-Page
returns-in_ok-append_subject-in-Page c =
    rw c.in-Page.is (then_appended c.append_asked.result _ _ _ _ c.in_ok-append_subject-in-Page.ensures c.append_asked.ensures)

pub returns-in_ok-append_subject-in-Exit : goal.returns-in_ok-append_subject-in-Exit
returns-in_ok-append_subject-in-Exit c =
    rw c.in-Exit.is (then_appended c.append_exit.result _ _ _ _ c.in_ok-append_subject-in-Exit.ensures c.append_exit.ensures)
