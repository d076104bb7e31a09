use Rattle.std.proofs.Common.{◌≡◌, ℕ, ◌+◌, ◌/◌, ◌<◌, ◌≤◌, List, length, get_or, set, sym, ◌∙◌, arith}
use Rattle.pcl_cert.proofs.Names.{ext_get_or, get_or-set_same, get_or-set_other, get_or_past, length-set, numbers_from, table_of}
use Rattle.pcl_cert.proofs.Numbers.{length_numbers, number_within}
use Rattle.pcl_cert.proofs.KeptLists.{table_length, table_number}
use Rattle.pcl_cert.proofs.tables.copy_numbers.Goals as goal

-- a number more is the list's
number_more : (list out : List ℕ) {place number : ℕ} → place < length out → ((k : ℕ) → k < place → get_or out k 0 ≡ get_or list k 0)
    → number ≡ get_or list place 0 → (k : ℕ) → k < place + 1 → get_or (set out place number) k 0 ≡ get_or list k 0
number_more list out {place} {number} inside same is k within =
    grind (arith, get_or-set_other out place k number 0, get_or-set_same out place number 0 inside, same k)

pub loop-place-preserved : goal.loop-place-preserved
loop-place-preserved c =
    let bytes = c.args.bytes.now in
    let place = c.loop-place.place in
    let count : ℕ = length bytes / 2 in
    record {
      size = length-set c.loop-place.out place c.word.result ∙ c.loop-place.invariant.size;
      same = number_more (numbers_from count bytes) c.loop-place.out
          (omega (arith, c.loop-place-test.true, c.min-count.ensures, c.loop-place.invariant.size))
          c.loop-place.invariant.same
          (c.word.ensures ∙ sym (number_within count place bytes (omega (arith, c.loop-place-test.true, c.min-count.ensures))));
    }

pub loop-place-2-preserved : goal.loop-place-2-preserved
loop-place-2-preserved c =
    let bytes = c.args.bytes.now in
    let place = c.loop-place-2.place in
    let count : ℕ = length bytes / 2 in
    let past : count ≤ place =
    omega (arith, c.loop-place-2.auto.place, c.loop-place-2-test.true, c.loop-place.invariant.size, c.min-count.ensures) in
    record {
      size = length-set c.loop-place-2.out place 0 ∙ c.loop-place-2.invariant.size;
      same = number_more (numbers_from count bytes) c.loop-place-2.out
          (omega (arith, c.loop-place-2-test.true, c.loop-place.invariant.size, c.loop-place-2.invariant.size))
          c.loop-place-2.invariant.same
          (sym (get_or_past (numbers_from count bytes) place 0 (omega (arith, length_numbers count bytes, past))));
    }

pub returns : goal.returns
returns c =
    let n : ℕ = length c.args.out.now in
    let list : List ℕ = numbers_from (length c.args.bytes.now / 2) c.args.bytes.now in
    ext_get_or 0 c.loop-place-2.out (table_of n list) (c.loop-place-2.invariant.size ∙ sym (table_length n list)) (λ k lt.
    c.loop-place-2.invariant.same k (omega (arith, c.loop-place-2-test.false))
    ∙ sym (table_number list (omega (arith, c.loop-place-2.invariant.size))))
