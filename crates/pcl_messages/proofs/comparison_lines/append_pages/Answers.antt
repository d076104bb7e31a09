use Rattle.pcl_messages.proofs.Appended.{then_appended}
use Rattle.pcl_messages.proofs.comparison_lines.append_pages.Goals as goal

pub returns-in_ok-append_subject-in-Page : goal.returns-in_ok-append_subject-in-Page
returns-in_ok-append_subject-in-Page c =
    rw c.in-Page.is (then_appended c.append_difference.result _ _ _ _ c.in_ok-append_subject-in-Page.ensures c.append_difference.ensures)
