-- Which lines are those of a value, and the first fault of lines that are none's (profile: docs/ASSEMBLY.md, "Why a text is refused").
use Rattle.std.specs.Prelude.{◌≡◌, ℕ, ◌≤◌, ◌⊎◌, nat_eq, List, [], ◌∷◌, ◌++◌, Ok, Err, if◌then◌else◌}
use Rattle.std.specs.declared.result.Result.{Result}
use Rattle.abc_text_lines.specs.declared.reason.AsmReason.{AsmReason}
use Rattle.abc_text_lines.specs.declared.reason.AsmReason.TheVariants as reasons
use Rattle.abc_text_lines.specs.declared.word.Word.TheVariants as words
use Rattle.abc_text_lines.specs.Reasons.{least, lesser, rank_of_reason}
use Rattle.abc_text_lines.specs.Words.{place_of}
use Rattle.abc_text_lines.specs.Lines.{Row, Shown, Line, Number, line_places, places_shown}
use Rattle.abc_text_lines.specs.Rows.{Fault, Faults, Rows, fault, unless, ◌>>=◌}
use Rattle.abc_text_lines.specs.Law.{Match, Shows}

-- all lines of a value, the first of which is the version's
abbrev pub lines_of_value : {A : Type 0} → Rows A → A → List Shown
lines_of_value body v = Line words.Abc (Number 16 ∷ Number 46 ∷ []) ∷ body.shows v

-- The lines are those of a value that has a text.
pub record IsAssemblyOf {A : Type 0} (same : Shows) (body : Rows A) (rows : List Row) (v : A) : Type 0 where
  pub shown : Match same rows (lines_of_value body v)
  pub fits : body.fits v

abbrev pub IsIn : AsmReason → List AsmReason → Type 0
IsIn r [] = ⊥
IsIn r (s ∷ rs) = (r ≡ s) ⊎ IsIn r rs

-- the lines of some value begin with lines of these words
abbrev pub CanBeginLines : {A : Type 0} → Rows A → List ℕ → Type 0
CanBeginLines {A} body begun = (v : A) × (more : List ℕ) × (places_shown (lines_of_value body v) ≡ begun ++ more)

-- The reason holds at a line, behind some and before others. A line may not stand where no value has lines of these words up to it.
abbrev pub HasReason : {A : Type 0} → Faults → Rows A → List Row → Row → List Row → AsmReason → Type 0
HasReason faults body front row after reason = IsIn reason (faults row after) ⊎ ((reason ≡ reasons.Order) × ¬ CanBeginLines body (line_places front ++ place_of row.word ∷ []))

-- The first line at which a reason holds, and the first reason there.
pub record IsFaultOf {A : Type 0} (faults : Faults) (body : Rows A) (rows : List Row) (f : Fault) : Type 0 where
  pub front : List Row
  pub row : Row
  pub after : List Row
  pub parts : rows ≡ front ++ row ∷ after
  pub before : (a : List Row) (other : Row) (b : List Row) (reason : AsmReason) → front ≡ a ++ other ∷ b → HasReason faults body a other (b ++ row ∷ after) reason → ⊥
  pub holds : HasReason faults body front row after f.reason
  pub first : (reason : AsmReason) → HasReason faults body front row after reason → rank_of_reason f.reason ≤ rank_of_reason reason
  pub line : f.line ≡ row.number

-- that, or there are no lines
abbrev pub IsAssemblyFault : {A : Type 0} → Faults → Rows A → List Row → Fault → Type 0
IsAssemblyFault faults body [] f = f ≡ fault 1 reasons.Order
IsAssemblyFault faults body (row ∷ rows) f = IsFaultOf faults body (row ∷ rows) f

-- ---- the plain program

abbrev pub order_fault : {A : Type 0} → Faults → Row → List Row → Result A Fault
order_fault faults row after = Err (fault row.number (lesser reasons.Order (least (faults row after))))

abbrev pub end_or_fault : {A : Type 0} → Faults → A × List Row → Result A Fault
end_or_fault faults (x, []) = Ok x
end_or_fault faults (x, row ∷ after) = order_fault faults row after

abbrev pub assembles : {A : Type 0} → Faults → Rows A → List Row → Result A Fault
assembles faults body [] = Err (fault 1 reasons.Order)
assembles faults body (row ∷ rows) = if nat_eq (place_of row.word) 0 then unless (least (faults row rows)) row.number (body.reads rows >>= λ x. end_or_fault faults x) else order_fault faults row rows

-- Lines are those of exactly one value, or have exactly one fault, and never both.
pub record IsTextDetermined {A : Type 0} (same : Shows) (faults : Faults) (body : Rows A) (rows : List Row) : Type 0 where
  pub some : ((v : A) × IsAssemblyOf same body rows v) ⊎ ((f : Fault) × IsAssemblyFault faults body rows f)
  pub one_value : (v w : A) → IsAssemblyOf same body rows v → IsAssemblyOf same body rows w → v ≡ w
  pub one_fault : (f g : Fault) → IsAssemblyFault faults body rows f → IsAssemblyFault faults body rows g → f ≡ g
  pub never_both : (v : A) (f : Fault) → IsAssemblyOf same body rows v → IsAssemblyFault faults body rows f → ⊥
