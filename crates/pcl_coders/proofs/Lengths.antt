-- Least lengths.
use Rattle.std.proofs.Common.{ℕ, ◌≡◌, ◌≤◌, List, arith}
use Rattle.pcl_coders.proofs.Names.{Method, IsLeastLength}

-- data of a least length is small
pub length_small : {current : Method} {seed row : List ℕ} {least : ℕ} → IsLeastLength current seed row least → least ≤ 65535
length_small is = omega (arith, is.attained.1.fits, is.attained.2)

-- two least lengths are the same
pub least_alone : {method : Method} {seed row : List ℕ} {one other : ℕ} → IsLeastLength method seed row one
    → IsLeastLength method seed row other → one ≡ other
least_alone a b = omega (arith, a.attained.2, b.attained.2, a.shortest b.attained.0 b.attained.1, b.shortest a.attained.0 a.attained.1)
