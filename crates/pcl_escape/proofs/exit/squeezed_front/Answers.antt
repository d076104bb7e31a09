use Rattle.std.proofs.Common.{◌≡◌, ◌<◌, List, ℕ, [], ◌∷◌, ◌++◌, length, take, get_or, sym, ap, ◌∙◌}
use Rattle.pcl_escape.proofs.Names.{take_at_read, squeezed}
use Rattle.pcl_escape.proofs.Squeezed.{blank_step, full_step, push_step}
use Rattle.pcl_escape.proofs.exit.squeezed_front.Goals as goal
use Rattle.pcl_escape.proofs.exit.squeezed_front.Goals.{then-not-is_white_space+then-not-is_full, else-not-is_white_space, else-not-is_white_space-via-then-not-is_white_space+else-not-is_full, else-not-is_white_space-via-else-not-is_white_space}

pub loop-byte-preserved : goal.loop-byte-preserved
loop-byte-preserved c =
    let line = c.args.line.now in
    let i = c.loop-byte.byte-index in
    let byte = get_or line i 0 in
    let below : i < length line = c.loop-byte-test.true in
    let one_more = (take_at_read line i 0 below).1 in
    let so_far = c.loop-byte.invariant in
    let step : c.if-not-is_white_space.front.items ≡ take 22 (squeezed (take i line ++ byte ∷ [])) = elim c.if-not-is_white_space.branch [
      | then-not-is_white_space+then-not-is_full w ↦ cc (
        w.front-is,
        w.push.ensures.items,
        w.to_ascii_uppercase.ensures.value,
        push_step (take i line) byte so_far w.if-not-is_white_space.ensures w.if-not-is_full.ensures.value w.is_full.ensures.fits,
      )
      | else-not-is_white_space w ↦ elim w.else-not-is_white_space.branch [
        | else-not-is_white_space-via-then-not-is_white_space+else-not-is_full w' ↦ rw w.front-is
            (full_step (take i line) byte so_far w'.if-not-is_white_space.ensures w'.if-not-is_full.ensures.value)
        | else-not-is_white_space-via-else-not-is_white_space w' ↦
            rw w.front-is (blank_step (take i line) byte so_far w'.if-not-is_white_space.ensures)
      ]
    ] in
    step ∙ ap (λ (bs : List ℕ). take 22 (squeezed bs)) (sym one_more)
