-- An input of `replay`: a log with its file (profile: docs/PROGRAM.md, "Logs").
use Rattle.std.specs.Prelude.{◌≡◌, ℕ, ◌<◌, ◌^◌, List, ◌++◌, length}
use Rattle.abc_base.specs.declared.formula.Formula.{Formula}
use Rattle.abc_heap_store.specs.declared.records.Limits.{Limits}
use Rattle.abc_link_layouts.specs.Numbering.{HasLayoutNumbers}
use Rattle.abc_meaning.specs.ThrowLaws.{IsVerifiedSetting}
use Rattle.abc_link_names.specs.Linked.{LinkedFile}
use Rattle.abc_file_types.specs.Files.{IsFile}
use Rattle.abc_log.specs.Lines.{AreLimits, head_line, limits_line}
use Rattle.abc_meaning.specs.Logs.{log}

-- a head, a file that is verified, a line of limits and the log of them, and nothing else; the file need not be canonical, but its
-- length has eight digits
pub record IsLogOf (formulas : List Formula) (l : LinkedFile) (fuel : ℕ) (m : Limits) (input : List ℕ) : Type 0 where
  pub file : List ℕ
  pub spells : IsFile l.file file
  pub short : length file < 2 ^ 32
  pub verified : IsVerifiedSetting (record { linked = l; formulas = formulas })
  pub numbered : HasLayoutNumbers l
  pub limits : AreLimits fuel m
  pub is : input ≡ head_line (length file) ++ file ++ limits_line fuel m ++ log (record { linked = l; formulas = formulas }) m fuel
