-- What a verified file is (profile: docs/VERIFYING.md, "Typings").
use Rattle.std.specs.Prelude.{◌≡◌, ℕ, List}
use Rattle.abc_link_layouts.specs.Numbering.{HasLayoutNumbers}
use Rattle.abc_link_names.specs.Linked.{IsLinkedFile, LinkedFile}
use Rattle.abc_file_types.specs.declared.tables.Abc.{Abc}
use Rattle.abc_file_types.specs.Files.{IsFileRead}
use Rattle.abc_verify.specs.Typed.{AllTyped}

-- the linked file of a file, each of whose bodies has a typing
pub record IsVerifiedOf (v : Abc) (l : LinkedFile) : Type 0 where
  pub file : l.file ≡ v
  pub linked : IsLinkedFile l
  pub numbered : HasLayoutNumbers l
  pub typed : AllTyped l

-- a file that was read with the starts of its instructions, linked and verified
pub record IsReadVerified (l : LinkedFile) (starts : List (List ℕ)) (input : List ℕ) : Type 0 where
  pub read : IsFileRead (l.file, starts) input
  pub verified : IsVerifiedOf l.file l
