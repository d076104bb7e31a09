-- What a run finds in its surroundings, and what it leaves there.
use Rattle.std.specs.Prelude.{ℕ, List, Option}
use Rattle.std.specs.Borrow.{MutBor}
use Rattle.pcl_files.specs.declared.surroundings.Surroundings.{Surroundings}

-- the files, what is left to be read of the reader, and what the writer holds: the bytes where these are known
pub record World (F : Type 0) : Type 0 where
  pub files : F
  pub given : Option (List ℕ)
  pub written : Option (List ℕ)

abbrev pub world : {F : Type 0} → (files : F) → (given written : Option (List ℕ)) → World F
world files given written = record { files = files; given = given; written = written }

-- what surroundings have at first, by what is left to be read of a reader, and what a writer holds
abbrev pub world_found : {F R W P : Type 0} → (remaining : R → Option (List ℕ)) → (contents : W → Option (List ℕ))
    → Surroundings F R W P → World F
world_found remaining contents found = world found.files.now (remaining found.reader.now) (contents found.out.now)

-- what they have at the end: the files, the reader and the writer are the first three fields
abbrev pub world_left : {F R W Others : Type 0} → (remaining : R → Option (List ℕ)) → (contents : W → Option (List ℕ))
    → (MutBor F × (MutBor R × (MutBor W × Others))) → World F
world_left remaining contents left = world left.0.now (remaining left.1.0.now) (contents left.1.1.0.now)
