use Rattle.pcl_tool.proofs.Names.{Some, strip_prefix_is, strip_suffix_is, Decides-eqb, frame_bytes}
use Rattle.pcl_tool.proofs.Framed.{framed_is}
use Rattle.pcl_tool.proofs.page_checks.framed.Goals as goal

pub returns : goal.returns
returns c =
    let output = c.args.output.now in
    let rest = c.in_ok-strip_prefix.field-0.now in
    let front = strip_prefix_is Decides-eqb output frame_bytes (Some c.in_ok-strip_prefix.field-0) c.in_ok-strip_prefix.ensures.cases in
    framed_is c.strip_suffix.result front (strip_suffix_is Decides-eqb rest frame_bytes c.strip_suffix.result c.strip_suffix.ensures.cases)
