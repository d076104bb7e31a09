-- What stands at a name.
use Rattle.std.specs.Prelude.{◌≡◌, ◌≢◌, ℕ, Bool, true, List, ◌++◌, codes, decimal, bit_and}
use Rattle.std.specs.Int.{bit_not, w32}
use Rattle.pcl_files.specs.declared.standing.Descriptor.{Descriptor}
use Rattle.pcl_files.specs.declared.standing.Descriptor.TheVariants.{Input, Output, Other}

-- what the name of a file of this number ends in that is begun beside another one
abbrev pub part_ending : ℕ → List ℕ
part_ending number = codes ".pclmin-part" ++ decimal number

-- what a name leads to in a folder of descriptors, which is that of this process or another's
abbrev pub IsDescriptorAt : (is_own : Bool) → List ℕ → Descriptor → Type 0
IsDescriptorAt is_own name Input = (is_own ≡ true) × (name ≡ codes "0")
IsDescriptorAt is_own name Output = (is_own ≡ true) × (name ≡ codes "1")
IsDescriptorAt is_own name Other = is_own ≡ true → (name ≢ codes "0") × (name ≢ codes "1")

-- the rights to read and write that a user's mask leaves
abbrev pub new_rights : ℕ → ℕ
new_rights mask = bit_and 438 (bit_not w32 mask)
