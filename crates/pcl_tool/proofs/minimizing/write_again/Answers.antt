use Rattle.std.proofs.Common.{◌∙◌, ◌++◌, refl, ap}
use Rattle.pcl_tool.proofs.Names.{err_from_is_err_and, frame_bytes, SoFar, TakesText}
use Rattle.pcl_tool.proofs.Proved.{not_taken, not_written, written_output}
use Rattle.pcl_tool.proofs.minimizing.write_again.Goals as goal

pub returns : goal.returns
returns g c =
    let h = c.in_ok-written.ensures in
    written_output c.args.format _ _ _ h.1 refl
    (rw (c.in_ok-write_frame.ensures, c.new-bytes.ensures.items)) c.in_ok-certificate.ensures h.2
    (c.in_ok-write_frame-2.ensures ∙ ap (λ (s : SoFar). s.bytes ++ frame_bytes) c.written.view_is)
    (ap (λ (s : SoFar). s.certificate) c.written.view_is)

pub returns-in_err-write_frame : goal.returns-in_err-write_frame
returns-in_err-write_frame g c =
    let p = err_from_is_err_and c.from_residual.result c.from_residual.ensures.1 in
    rw (p.1, p.2) (not_written c.args.dpi c.args.job.now c.args.format _ tt)

pub returns-in_err-certificate : goal.returns-in_err-certificate
returns-in_err-certificate g c =
    let p = err_from_is_err_and c.from_residual-in_err-certificate.result c.from_residual-in_err-certificate.ensures.1 in
    rw (p.1, p.2) (not_written c.args.dpi c.args.job.now c.args.format _ tt)

pub returns-in_err-written : goal.returns-in_err-written
returns-in_err-written g c =
    let p = err_from_is_err_and c.from_residual-in_err-written.result c.from_residual-in_err-written.ensures.1 in
    rw (p.1, p.2) (not_written c.args.dpi c.args.job.now c.args.format _
    (not_taken TakesText _ _
    (record { format = c.args.format; bytes = c.write_frame.new.out.items; certificate = c.in_ok-certificate.certificate.items })
    c.in_err-written.field-0.0 c.in_err-written.ensures))

pub returns-in_err-write_frame-2 : goal.returns-in_err-write_frame-2
returns-in_err-write_frame-2 g c =
    let p = err_from_is_err_and c.from_residual-in_err-write_frame-2.result c.from_residual-in_err-write_frame-2.ensures.1 in
    rw (p.1, p.2) (not_written c.args.dpi c.args.job.now c.args.format _ tt)
