-- What a command does, without its place and its name.
use Rattle.pcl_meaning.proofs.Names.{ℕ, List, Operation, Value}

pub record Deed : Type 0 where
  pub operation : Operation
  pub value : Value
  pub bytes : List ℕ

-- one from its parts
abbrev pub deed : Operation → Value → List ℕ → Deed
deed operation value bytes = record { operation = operation; value = value; bytes = bytes }
