-- The labels of a body, as they are found.
use Rattle.std.specs.Prelude.{◌≡◌, ◌≤◌, ◌+◌, ℕ, List, ◌∷◌, Some, None}
use Rattle.std.specs.declared.option.Option.{Option}
use Rattle.abc_text_lines.specs.Lines.{Label}
use Rattle.abc_text_lines.specs.Operands.{place_of_label}
use Rattle.abc_text_lines.specs.Texts.{Raw, labels_set}
use Rattle.abc_text_tokens.specs.Names.{NameMap, either_of, found_name}

-- each name has the place of its label
abbrev pub LabelsLead : NameMap ℕ → List Label → Type 0
LabelsLead m labels = (name : List ℕ) → found_name m name ≡ place_of_label labels name

-- what is found of a name among the labels that lines set, which have so many instructions ahead of them
abbrev pub among_set : ℕ → List Raw → List ℕ → Option ℕ
among_set n raws name = place_of_label (labels_set n raws) name

-- what is found so far, and else among the lines that are left
abbrev pub found_label : NameMap ℕ → ℕ → List Raw → List ℕ → Option ℕ
found_label m n raws name = either_of (found_name m name) (among_set n raws name)

-- A line is taken in: behind it the same is found as ahead of it, and it has at most one instruction. There is no number behind the line of another body.
abbrev pub TakesIn : NameMap ℕ → ℕ → Raw → NameMap ℕ → Option ℕ → Type 0
TakesIn old n raw new None = (raws : List Raw) (name : List ℕ) → found_name new name ≡ found_label old n (raw ∷ raws) name
TakesIn old n raw new (Some m) = (m ≤ n + 1) × ((raws : List Raw) (name : List ℕ) → found_label new m raws name ≡ found_label old n (raw ∷ raws) name)
