use Rattle.std.proofs.Common.{◌≡◌, ℕ, ◌-◌, Bool, true, false, List, length, arith, ◌↔◌}
use Rattle.pcl_check.proofs.Names.{Method, Node, AreGoodSwitches, At, Both, IsGoodStart, IsGoodSending, AreGoodSkipsTo, IsGoodIn, page_height, node_number}
use Rattle.pcl_check.proofs.Found.{first_of_four}
use Rattle.pcl_check.proofs.edges.first_bad_in.Goals as goal

abbrev InParts : List ℕ → ℕ → (ℕ → Method → ℕ → Type 0) → (Node → ℕ) → Method → ℕ → Method → Bool → Type 0
InParts ends last Counts number method =
    Both (Both (At method false (IsGoodStart ends number method)) (At method true (AreGoodSwitches number method)))
    (Both (At method true (IsGoodSending last Counts number method)) (At method true (AreGoodSkipsTo ends number method)))

parts_are_good : (ends : List ℕ) {last : ℕ} (Counts : ℕ → Method → ℕ → Type 0) (number : Node → ℕ) {method : Method} {row : ℕ}
    {current : Method} (inside : Bool) → InParts ends last Counts number method row current inside
    ↔ IsGoodIn ends last Counts number method row current inside
parts_are_good ends Counts number inside = (λ parts. grind arith, λ good. grind arith)

pub returns : goal.returns
returns g c =
    let page = c.args.page.now in
    let ends = c.args.ends.now in
    let number = node_number c.args.table.now in
    let method = c.args.method in
    let last : ℕ = page_height page.size page.dpi in
    let Counts : ℕ → Method → ℕ → Type 0 = g.L.RowLengths.counts c.args.lengths.now page in
    let rows : length c.args.table.now - 1 ≡ last = omega (arith, c.requires.rows) in
    let Start : ℕ → Method → Bool → Type 0 = At method false (IsGoodStart ends number method) in
    let Switches : ℕ → Method → Bool → Type 0 = At method true (AreGoodSwitches number method) in
    let Sending : ℕ → Method → Bool → Type 0 = At method true (IsGoodSending last Counts number method) in
    let Skips : ℕ → Method → Bool → Type 0 = At method true (AreGoodSkipsTo ends number method) in
    first_of_four Start Switches Sending Skips (IsGoodIn ends last Counts number method) _ _ _ _
    (λ row current inside le. (parts_are_good ends Counts number inside).0)
    (λ row current inside le. (parts_are_good ends Counts number inside).1)
    (rw rows at c.first_bad_start-outside.ensures) (rw rows at c.first_bad_switch-switch.ensures) c.first_bad_sending-sent.ensures
    (rw rows at c.first_bad_skip-skip.ensures) c.first_of.ensures c.first_of-2.ensures c.first_of-3.ensures
