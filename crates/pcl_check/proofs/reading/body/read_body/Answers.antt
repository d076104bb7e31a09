use Rattle.std.proofs.Common.{◌≡◌, ◌-◌, [], ℕ, List, sym, ap, ◌∙◌, true, false, refl, arith}
use Rattle.pcl_check.proofs.Names.{take-replicate, row_small, not, bytes_eq, slice_eq-Decides, nat_tests, Decides-eqb, end_bytes}
use Rattle.pcl_check.proofs.Comparing.{both, neither, becomes_same, read_on, read_all, white_test}
use Rattle.pcl_check.proofs.Steps.{becomes_to}
use Rattle.pcl_check.proofs.reading.body.read_body.Goals as goal

pub loop-place-init : goal.loop-place-init
loop-place-init c =
    let small = row_small c.args.comparison.size c.args.comparison.bitmap.now.dpi in
    record {
      given = [];
      becomes = becomes_to refl (rw (sym c.row_bytes.ensures) (sym (take-replicate c.row_bytes.result 600 0
          (omega (arith, small, c.row_bytes.ensures))))) (omega arith) (becomes_same refl);
      row_is = refl;
      within = omega arith;
      same = (λ yes. (yes, refl), λ h. h.0);
    }

pub returns-in_err-place : goal.returns-in_err-place
returns-in_err-place c =
    rw c.from_residual.ensures
    (λ rows printed. let left = c.loop-place.invariant.becomes.splits rows printed in c.in_err-place.ensures left.0 left.2)

pub loop-place-preserved : goal.loop-place-preserved
loop-place-preserved c = read_on c.loop-place.invariant c.in_ok-place.ensures.0

-- the text isn't other than the end
ended : (text : List ℕ) → not (bytes_eq text end_bytes) ≡ false → text ≡ end_bytes
ended text e = (slice_eq-Decides Decides-eqb text end_bytes (bytes_eq text end_bytes) refl).0 (grind (arith, nat_tests))

pub returns-then-place-2 : goal.returns-then-place-2
returns-then-place-2 c =
    let place = c.loop-place.place in
    read_all c.loop-place.invariant c.if-place.false (ended place.text.now (sym c.ne.ensures ∙ c.if-ne.false))
    (both (white_test c.args.comparison.bitmap.now c.args.comparison.size place.row
    (ap (λ (n : ℕ). n - place.row) c.height.ensures) c.has_white_rows.ensures) c.if-place-2.true refl)

pub returns-else-place-2 : goal.returns-else-place-2
returns-else-place-2 c =
    read_all c.loop-place.invariant c.if-place.false (ended c.loop-place.place.text.now (sym c.ne.ensures ∙ c.if-ne.false))
    (neither c.if-place-2.false refl)
