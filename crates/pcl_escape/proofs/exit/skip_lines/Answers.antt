use Rattle.std.proofs.Common.{◌≡◌, Bool, true, if◌then◌else◌, ◌≤◌, ◌+◌, ◌-◌, length, Ok, Err, refl, sym, ◌∙◌, arith}
use Rattle.pcl_escape.proofs.Names.{names_language, names_pcl, lines_at}
use Rattle.pcl_escape.proofs.Lines.{IsCut, at_other_bytes, at_cut}
use Rattle.pcl_escape.proofs.Squeezed.{slice_names_language, slice_names_pcl}
use Rattle.pcl_escape.proofs.exit.skip_lines.Goals as goal
use Rattle.pcl_escape.proofs.exit.skip_lines.Goals.{After-front-1}

-- the line at the front is cut off
cut_off : (c : After-front-1) → IsCut c.loop-line.rest.now c.split_at.result.0.now c.split_at.result.1.now
cut_off c = record { job = c.loop-line-test.ensures.value; line_is = cc; after_is = cc }

-- where it asks for a language, nothing more is skipped
asking : (c : After-front-1) {pcl : Bool} → true ≡ names_language c.split_at.result.0.now → pcl ≡ names_pcl c.split_at.result.0.now
    → lines_at c.args.place c.args.bytes.now
    ≡ (if pcl then Ok c.split_at.result.1.now else Err (c.args.place + (length c.args.bytes.now - length c.loop-line.rest.now)))
asking c asks says = sym c.loop-line.invariant.same ∙ at_cut _ (cut_off c) ∙ rw (← asks, ← says) refl

pub returns-then-eq : goal.returns-then-eq
returns-then-eq c =
    let line = c.split_at.result.0.now in
    asking (goal.at.returns-then-eq c).After-front-1
    (slice_names_language line c.if-starts_with.ensures.value c.as_slice.ensures.value c.squeezed_front-front.ensures)
    (slice_names_pcl line c.if-eq.ensures c.as_slice-then-starts_with.ensures.value c.squeezed_front-front.ensures)

pub returns-else-eq : goal.returns-else-eq
returns-else-eq c =
    let line = c.split_at.result.0.now in
    asking (goal.at.returns-else-eq c).After-front-1
    (slice_names_language line c.if-starts_with.ensures.value c.as_slice.ensures.value c.squeezed_front-front.ensures)
    (slice_names_pcl line c.if-eq.ensures c.as_slice-then-starts_with.ensures.value c.squeezed_front-front.ensures)

pub loop-line-preserved : goal.loop-line-preserved
loop-line-preserved c =
    let rest = c.loop-line.rest.now in
    let after = c.split_at.result.1.now in
    let at = c.args.place + (length c.args.bytes.now - length rest) in
    let other = slice_names_language c.split_at.result.0.now c.if-starts_with.ensures.value c.as_slice.ensures.value
    c.squeezed_front-front.ensures in
    let within : length rest ≤ length c.args.bytes.now = c.loop-line.invariant.within in
    let fewer : length after ≤ length rest = omega arith in
    let place : c.args.place + (length c.args.bytes.now - length after) ≡ at + (length rest - length after) = omega arith in
    record {
      within = omega arith;
      same = rw place (sym (at_cut at (cut_off (goal.at.loop-line-preserved c).After-front-1) ∙ rw (← other) refl))
          ∙ c.loop-line.invariant.same;
    }

pub returns : goal.returns
returns c = sym c.loop-line.invariant.same ∙ at_other_bytes _ c.loop-line-test.ensures.value
