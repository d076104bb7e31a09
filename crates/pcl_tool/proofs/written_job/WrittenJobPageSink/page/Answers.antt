use Rattle.std.proofs.Common.{◌≡◌, ◌-◌, length, refl, ap, arith}
use Rattle.pcl_tool.proofs.Names.{length-append, PageProof}
use Rattle.pcl_tool.proofs.Proved.{plan_proves, proof_said}
use Rattle.pcl_tool.proofs.written_job.WrittenJobPageSink.page.Goals as goal

pub overflow_cast-proof : goal.overflow_cast-proof
overflow_cast-proof c =
    let a = c.in_ok-write_page.ensures.ok in
    let proof : PageProof = record { text_len = length a.0; table = c.in_ok-least.least.table; places = c.in_ok-places.places } in
    let p = plan_proves c.in-Some.format c.args.page.now a.0 _ proof c.in_ok-least.ensures a.2 c.in_ok-places.ensures refl refl in
    omega (arith, p.can_be_said.text_len, ap length a.1, length-append c.self.inside.bytes.items a.0, c.len.ensures, c.len-before.ensures)

pub add_proof-requires-clause-fits : goal.add_proof-requires-clause-fits
add_proof-requires-clause-fits c =
    let a = c.in_ok-write_page.ensures.ok in
    let long : c.len.result - c.len-before.result ≡ length a.0 =
    omega (arith, ap length a.1, length-append c.self.inside.bytes.items a.0, c.len.ensures, c.len-before.ensures) in
    let proof : PageProof =
    record { text_len = c.len.result - c.len-before.result; table = c.into_table.result; places = c.in_ok-places.places } in
    let is = plan_proves c.in-Some.format c.args.page.now a.0 _ proof c.in_ok-least.ensures a.2 c.in_ok-places.ensures long
    c.into_table.ensures in
    (c.args.page.now.dpi, rw (proof_said c.in-Some.format is.can_be_said) is.can_be_said.fits)

pub returns-in-Ok-clause-taken : goal.returns-in-Ok-clause-taken
returns-in-Ok-clause-taken c =
    let a = c.in_ok-write_page.ensures.ok in
    let long : c.len.result - c.len-before.result ≡ length a.0 =
    omega (arith, ap length a.1, length-append c.self.inside.bytes.items a.0, c.len.ensures, c.len-before.ensures) in
    let proof : PageProof =
    record { text_len = c.len.result - c.len-before.result; table = c.into_table.result; places = c.in_ok-places.places } in
    let is = plan_proves c.in-Some.format c.args.page.now a.0 _ proof c.in_ok-least.ensures a.2 c.in_ok-places.ensures long
    c.into_table.ensures in
    rw (← c.self.view_is) (record {
      text = a.0;
      bytes = a.1;
      written = a.2;
      proved = rw c.in-Some.is
          (record { proof = _; certificate = rw (proof_said c.in-Some.format is.can_be_said) at c.in-Ok.ensures.ok; proves = is });
      format = refl;
    })
