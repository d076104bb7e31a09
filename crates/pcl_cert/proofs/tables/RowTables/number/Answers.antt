use Rattle.std.proofs.Common.{◌≡◌, ◌<◌, ◌≤◌, ℕ, List, drop, sym, ◌∙◌, arith}
use Rattle.pcl_cert.proofs.Names.{contents, count_at_front}
use Rattle.pcl_cert.proofs.Written.{number_there, number_past, list_within}
use Rattle.pcl_cert.proofs.tables.RowTables.number.Goals as goal

pub returns-then-place-from : goal.returns-then-place-from
returns-then-place-from c =
    let starts : List ℕ = c.self.inside.starts.items in
    let bytes : List ℕ = contents c.self.inside.bytes in
    let start : ℕ = c.index-start.result.now in
    let slice : c.as_slice-bytes.result.now ≡ bytes = c.as_slice-bytes.ensures in
    let within : c.args.place < count_at_front (drop start bytes) =
    rw (← slice) (omega (arith, c.if-place-from.true, c.from.ensures, c.word.ensures)) in
    let lt = list_within bytes starts c.args.row c.args.method (sym c.self.view_is) c.requires c.code.ensures in
    rw (← c.self.view_is, ← c.code.ensures) (c.word-then-place-from.ensures
    ∙ rw slice (sym (number_there bytes starts lt c.index-start.ensures within)))

pub returns-else-place-from : goal.returns-else-place-from
returns-else-place-from c =
    let starts : List ℕ = c.self.inside.starts.items in
    let bytes : List ℕ = contents c.self.inside.bytes in
    let start : ℕ = c.index-start.result.now in
    let slice : c.as_slice-bytes.result.now ≡ bytes = c.as_slice-bytes.ensures in
    let past : count_at_front (drop start bytes) ≤ c.args.place =
    rw (← slice) (omega (arith, c.if-place-from.false, c.from.ensures, c.word.ensures)) in
    let lt = list_within bytes starts c.args.row c.args.method (sym c.self.view_is) c.requires c.code.ensures in
    rw (← c.self.view_is, ← c.code.ensures) (sym (number_past bytes starts lt c.index-start.ensures past))
