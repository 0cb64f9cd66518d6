-- Where a fault that ends a run is told, and which ends can be told.
use Rattle.std.specs.Prelude.{◌≡◌, ◌≢◌, ℕ, ◌<◌, List, length, Some}
use Rattle.abc_base.specs.declared.names.Fault.{Fault}
use Rattle.abc_file_types.specs.declared.tables.Abc.{Abc}
use Rattle.abc_link_names.specs.PartsByNumber.{body_at}
use Rattle.abc_link_names.specs.Owners.{body_of}
use Rattle.abc_meaning.specs.Meaning.{Meaning, Ran}
use Rattle.abc_meaning.specs.Throwing.{Profile, Stuck}

-- an instruction of a method's body
pub record IsInstruction (v : Abc) (m i : ℕ) : Type 0 where
  pub body : ℕ
  pub of_method : body_of v m ≡ Some body
  pub low : body < length v.bodies
  pub inside : i < length (body_at v body).code

-- how a run ends can be told: it is never stuck, and a fault has its place at an instruction
pub record CanBeTold (v : Abc) (m : Meaning) : Type 0 where
  pub unstuck : (wrote : List ℕ) → m ≢ Ran wrote Stuck
  pub placed : (wrote : List ℕ) (n i : ℕ) (fault : Fault) → m ≡ Ran wrote (Profile n i fault) → IsInstruction v n i
