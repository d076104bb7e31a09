use Rattle.std.proofs.Common.{ℕ, ◌+◌, ◌*◌, ◌++◌, ◌∷◌, [], List, replicate, refl, arith}
use Rattle.pcl_rows.proofs.Names.{take_rest, length-append, length-replicate, Near, Far}
use Rattle.pcl_rows.proofs.Beginnings.{Begins-one, Begins-cons, opens_with}
use Rattle.pcl_rows.proofs.head.command.Goals as goal

pub returns-then-offset-lt31-clause-opens : goal.returns-then-offset-lt31-clause-opens
returns-then-offset-lt31-clause-opens c =
    opens_with (Near c.from-new_count.result c.from.result)
    (record { method_is = refl; in_range = (omega (arith, c.type_inv.bytes 0), omega arith) })
    (Begins-one c.args.bytes.now (32 * c.from-new_count.result + c.from.result) c.requires (omega arith))

pub returns-clause-opens : goal.returns-clause-opens
returns-clause-opens c =
    let more = c.from-new_count.result in
    let further = c.further-further.ensures.further in
    let tail : List ℕ = replicate further.full 255 ++ further.last ∷ [] in
    let begins = rw (take_rest c.args.bytes.now 1) at further.begins in
    record {
      head = Far more further.full further.last;
      head_is = record { method_is = refl; in_range = (omega (arith, c.type_inv.bytes 0), further.last_in_range) };
      len_is = omega (arith, further.len_is, length-append {A = ℕ}, length-replicate {A = ℕ});
      offset_is = omega (arith, further.sum_is);
      count_is = refl;
      copies_is = refl;
      begins = Begins-cons c.args.bytes.now tail (32 * more + 31) c.requires (omega (arith, c.type_inv.bytes 0)) begins;
    }
