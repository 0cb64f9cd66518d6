-- Code that is too long, by the lines below its body's.
use Rattle.std.specs.Prelude.{◌≡◌, ◌≢◌, ◌↔◌, ◌⊎◌, ◌≤◌, ◌^◌, ℕ, List, [], ◌∷◌, ◌++◌}
use Rattle.abc_text_lines.specs.declared.reason.AsmReason.TheVariants as reasons
use Rattle.abc_text_lines.specs.declared.word.Word.TheVariants as words
use Rattle.abc_file_types.specs.declared.code.Handler.{Handler}
use Rattle.abc_file_types.specs.declared.code.Instr.{Instr}
use Rattle.abc_file_types.specs.declared.tables.Sizes.{Sizes}
use Rattle.abc_file_types.specs.declared.traits.TraitInfo.{TraitInfo}
use Rattle.abc_file_types.specs.CodeBytes.{code_len}
use Rattle.abc_text_lines.specs.Law.{Match}
use Rattle.abc_text_lines.specs.Lines.{Row}
use Rattle.abc_text_lines.specs.Rows.{Rows}
use Rattle.abc_text_lines.specs.Wordlines.{faults_by_rules, plain_faults, shows_operands}
use Rattle.abc_text_lines.specs.File.{body_below, faults, plain_rules, rules}

-- the next line is a body's, or there is none
abbrev pub IsBodyNext : List Row → Type 0
IsBodyNext [] = Unit {0}
IsBodyNext (row ∷ rows) = row.word ≡ words.Body

module _ (v : Sizes) (instances : ℕ) where
  -- the lines of code, handlers and traits
  abbrev pub lines_below : Rows (List Instr × (List Handler × List TraitInfo))
  lines_below = body_below v instances (faults_by_rules (plain_rules v instances)) 0

  -- The lines up to the next body's or to the end are those of code of 2^23 bytes or more, of handlers and of traits, whose fields are in their ranges.
  pub record HasLongCode (after : List Row) : Type 0 where
    pub front : List Row
    pub rest : List Row
    pub parts : after ≡ front ++ rest
    pub next : IsBodyNext rest
    pub below : List Instr × (List Handler × List TraitInfo)
    pub shown : Match shows_operands front (lines_below.shows below)
    pub fits : lines_below.fits below
    pub long : 2 ^ 23 ≤ code_len below.0

  -- Where nothing else is told of a line, CodeTooLong is told of it exactly where it is a body's and such lines follow; else nothing more is.
  pub record TellsLongCode (row : Row) (after : List Row) : Type 0 where
    pub alone : plain_faults (rules v instances) row after ≡ [] → (faults v instances row after ≡ reasons.CodeTooLong ∷ []) ↔ ((row.word ≡ words.Body) × HasLongCode after)
    pub no_other : plain_faults (rules v instances) row after ≡ [] → (faults v instances row after ≡ []) ⊎ (faults v instances row after ≡ reasons.CodeTooLong ∷ [])
    pub last : plain_faults (rules v instances) row after ≢ [] → faults v instances row after ≡ plain_faults (rules v instances) row after
