use Rattle.pcl_command.proofs.Names.{err_from_is_err_and}
use Rattle.pcl_command.proofs.SamePages.{both_number, page_fails, same_size}
use Rattle.pcl_command.proofs.difference_images.differing_page.Goals as goal

pub returns-in_err-one : goal.returns-in_err-one
returns-in_err-one c =
    let p = err_from_is_err_and c.from_residual-in_err-one.result c.from_residual-in_err-one.ensures.1 in
    rw (p.1, p.2) (page_fails c.args.jobs.widest _ _ c.args.jobs.first.now c.args.jobs.second.now _ c.in_err-one.field-0.0
    (both_number _ _ _ _ _ _ c.in_ok-profile.ensures c.requires).page_is c.in_err-one.ensures)

pub returns-in_err-other : goal.returns-in_err-other
returns-in_err-other c =
    let p = err_from_is_err_and c.from_residual-in_err-other.result c.from_residual-in_err-other.ensures.1 in
    rw (p.1, p.2) (page_fails c.args.jobs.widest _ _ c.args.jobs.first.now c.args.jobs.second.now _ c.in_err-other.field-0.0
    (both_number _ _ _ _ _ _ c.in_ok-profile.ensures c.requires).other_is c.in_err-other.ensures)

pub differing_dots-requires-clause-size : goal.differing_dots-requires-clause-size
differing_dots-requires-clause-size c =
    (same_size c.args.jobs.widest c.in_ok-profile.profile c.args.jobs.dpi c.args.jobs.first.now c.args.jobs.second.now c.args.page
    c.in_ok-profile.ensures c.requires c.in_ok-one.ensures c.in_ok-other.ensures).0
