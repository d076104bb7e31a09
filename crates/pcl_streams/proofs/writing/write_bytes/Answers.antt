use Rattle.std.proofs.Common.{◌≡◌, ◌++◌, List, ℕ, take, drop, append_assoc}
use Rattle.pcl_streams.proofs.Names.{Appends-kept, Appends-trans, take-append-drop, take_rest}
use Rattle.pcl_streams.proofs.writing.write_bytes.Goals as goal

-- a prefix of the bytes, and more of the rest after it
more : {bytes : List ℕ} (front rest : List ℕ) (count : ℕ) → bytes ≡ front ++ rest → bytes ≡ (front ++ take count rest) ++ drop count rest
more front rest count e = rw (append_assoc, take-append-drop) e

pub loop-rest-preserved : goal.loop-rest-preserved
loop-rest-preserved g c =
    let i = c.loop-rest.invariant in
    (_, rw take_rest (more i.0 c.loop-rest.rest.now c.in-Ok.count i.1), Appends-trans _ _ _ _ _ i.2 c.in-Ok.ensures.bytes)

pub returns-in_default : goal.returns-in_default
returns-in_default g c =
    let i = c.loop-rest.invariant in
    (_, _, more i.0 c.loop-rest.rest.now c.in-Ok.count i.1, Appends-trans _ _ _ _ _ i.2 c.in-Ok.ensures.bytes)

pub returns-in_default-2 : goal.returns-in_default-2
returns-in_default-2 g c =
    let i = c.loop-rest.invariant in
    (i.0, c.loop-rest.rest.now, i.1, Appends-kept _ _ _ _ i.2 c.in_default.ensures.bytes)
