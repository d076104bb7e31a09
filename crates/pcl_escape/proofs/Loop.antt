-- The steps of the loop: each takes the front off the reading.
use Rattle.std.proofs.Common.{◌≡◌, ℕ, ◌+◌, ◌-◌, ◌≤◌, true, false, ◌==◌, is_some, List, ◌++◌, length, Option, Result, Ok, Err, refl, sym, append-nil, arith}
use Rattle.pcl_escape.proofs.Names.{Profile, Refusal, Prefix, Said, Reads, step_at, commands_said, with_front, nat_tests}
use Rattle.pcl_escape.specs.inner.Scan.{read_outcome}
use Rattle.pcl_escape.proofs.Again.{with_fronts, GoesOn, step_shorter, all_at, one_step}

-- what was read before, and what is still read of the rest of this many bytes
abbrev pub so_far : Profile → List Said → ℕ → Option Prefix → List ℕ → Result (List Said) Refusal
so_far profile front total inside rest = with_front front (all_at profile inside (total - length rest) rest)

-- a command goes over to what was read before
pub one_more : (profile : Profile) (front : List Said) (total : ℕ) (inside : Option Prefix) (rest : List ℕ) (reads : Reads)
    → length rest ≤ total
    → GoesOn inside rest → step_at profile inside (total - length rest) rest ≡ Ok reads
    → so_far profile (front ++ commands_said reads.said) total reads.inside reads.rest ≡ so_far profile front total inside rest
one_more profile front total inside rest reads h goes e =
    let shorter = step_shorter profile inside (total - length rest) rest goes e in
    let place : (total - length rest) + (length rest - length reads.rest) ≡ total - length reads.rest = omega arith in
    rw (one_step profile inside (total - length rest) rest goes, e, place) (sym (with_fronts front _ _))

-- a fault of a step is the job's
pub stops_at : (profile : Profile) (front : List Said) (total : ℕ) (inside : Option Prefix) (rest : List ℕ) {fault : Refusal}
    → GoesOn inside rest
    → step_at profile inside (total - length rest) rest ≡ Err fault → so_far profile front total inside rest ≡ Err fault
stops_at profile front total inside rest goes e = rw (one_step profile inside (total - length rest) rest goes, e) refl

-- at the end all was read
pub is_done : (profile : Profile) (front : List Said) (total : ℕ) (inside : Option Prefix) (rest : List ℕ) → true ≡ (length rest == 0)
    → false ≡ is_some inside
    → so_far profile front total inside rest ≡ Ok front
unfolding read_outcome
is_done profile front total inside rest e i = grind (arith, nat_tests, append-nil front)
