use Rattle.std.proofs.Common.{Bool, true, ℕ, ◌-◌, ◌≤◌, List, arith}
use Rattle.pcl_check.proofs.Names.{Method, Node, node_number, count_is, count_le, At, Both, AreEnds, AreGoodSkipsOf, AreGoodSkipsTo}
use Rattle.pcl_check.proofs.Found.{first_of_four}
use Rattle.pcl_check.proofs.edges.skips.first_bad_skip.Goals as goal

-- the four counts of digits
abbrev AreGoodByDigits : List ℕ → (Node → ℕ) → Method → ℕ → Method → Bool → Type 0
AreGoodByDigits ends number method =
    Both (Both (At method true (AreGoodSkipsOf ends number method 1 9)) (At method true (AreGoodSkipsOf ends number method 2 99)))
    (Both (At method true (AreGoodSkipsOf ends number method 3 999)) (At method true (AreGoodSkipsOf ends number method 4 9999)))

by_digits : (ends : List ℕ) (number : Node → ℕ) (method : Method) {row : ℕ} {current : Method} {inside : Bool}
    → At method true (AreGoodSkipsTo ends number method) row current inside → AreGoodByDigits ends number method row current inside
by_digits ends number method good = grind (arith, good, count_le 1, count_le 2, count_le 3, count_le 4)

all_digits : {ends : List ℕ} {last : ℕ} (number : Node → ℕ) (method : Method) {row : ℕ} {current : Method} {inside : Bool}
    → AreEnds ends last → row ≤ last → AreGoodByDigits ends number method row current inside
    → At method true (AreGoodSkipsTo ends number method) row current inside
all_digits number method {row = row} are le good = λ same here count inside some within.
    let few : count ≤ 9999 = omega (arith, are.within row le, are.few) in
    grind (arith, good, count_is 0 count, count_is 1 count, count_is 2 count, count_is 3 count)

pub returns : goal.returns
returns c =
    let ends = c.args.ends.now in
    let number = node_number c.args.table.now in
    let method = c.args.method in
    let Of : ℕ → ℕ → ℕ → Method → Bool → Type 0 = λ digits most. At method true (AreGoodSkipsOf ends number method digits most) in
    first_of_four (Of 1 9) (Of 2 99) (Of 3 999) (Of 4 9999) (At method true (AreGoodSkipsTo ends number method)) _ _ _ _
    (λ row current inside le. all_digits number method c.requires.ends le) (λ row current inside le. by_digits ends number method)
    c.first_bad_skip_of-one.ensures c.first_bad_skip_of-two.ensures c.first_bad_skip_of-three.ensures c.first_bad_skip_of-four.ensures
    c.first_of.ensures c.first_of-2.ensures c.first_of-3.ensures
