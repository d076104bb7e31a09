use Rattle.std.proofs.Common.{◌++◌, ℕ, take, length-append, arith}
use Rattle.pcl_streams.proofs.Names.{Consumes-kept, Consumes-trans, err_from_is_err_and, length-take}
use Rattle.pcl_streams.proofs.reading.read_all.Goals as goal

pub returns-in_default : goal.returns-in_default
returns-in_default g c = (
  c.loop-chunk.bytes.items,
  Consumes-kept _ _ _ _ c.loop-chunk.invariant.given c.in_default.ensures.bytes,
  omega (arith, c.len.ensures, c.loop-chunk.bytes.ok.0, c.loop-chunk-test.true),
)

pub returns-in_err-extend_from_slice : goal.returns-in_err-extend_from_slice
returns-in_err-extend_from_slice g c =
    let p = err_from_is_err_and c.from_residual.result c.from_residual.ensures.1 in
    rw (p.1, p.2) (
      c.loop-chunk.bytes.items ++ take c.in-Ok.count c.read.new.buf,
      Consumes-trans _ _ _ _ _ c.loop-chunk.invariant.given c.in-Ok.ensures.bytes.0,
      omega (arith, length-append {A = ℕ}, length-take {A = ℕ}, c.read.auto.buf, c.min-room.ensures, c.loop-chunk.bytes.ok.0),
    )

pub returns : goal.returns
returns g c = (
  c.loop-chunk.bytes.items,
  c.loop-chunk.invariant.given,
  omega (arith, c.len.ensures, c.loop-chunk.bytes.ok.0, c.loop-chunk-test.false, c.loop-chunk.invariant.within),
)
