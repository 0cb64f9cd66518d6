-- What a step writes, as its line in a log.
use Rattle.std.specs.Prelude.{◌≡◌, ℕ, ◌≤◌, Bool, true, false, List, [], ◌∷◌, ◌++◌, codes, IsSome}
use Rattle.std.specs.List.{flat_map}
use Rattle.std.specs.Io.KnownBytes.{append_known}
use Rattle.std.specs.declared.option.Option.{Option}
use Rattle.abc_base.specs.Faults.{Rose}
use Rattle.abc_base.specs.Sinks.{GrowsByFront}
use Rattle.abc_log.specs.Lines.{log_hex}
use Rattle.abc_log.specs.OutlineViews.{ShownView}

-- the line as long as it isn't ended
abbrev pub open_line : List ℕ → List ℕ
open_line [] = []
open_line (b ∷ bs) = codes "out " ++ flat_map log_hex (b ∷ bs)

abbrev pub has_some : List ℕ → Bool
has_some [] = false
has_some (b ∷ bs) = true

-- one byte more of it, and its end
abbrev pub shown_byte : (some : Bool) → ℕ → List ℕ
shown_byte true byte = log_hex byte
shown_byte false byte = codes "out " ++ log_hex byte

-- the end of the line that shows what a step wrote: none where it wrote nothing
abbrev pub end_of_line : (some : Bool) → List ℕ
end_of_line true = 10 ∷ []
end_of_line false = []

-- a log has these bytes more, or a front of them where it failed
abbrev pub HasMore : (before : Option (List ℕ)) → (faults_before : ℕ) → (bytes : List ℕ) → (now : Option (List ℕ)) → (faults : ℕ) → (failed : Bool) → Type 0
HasMore before faults_before bytes now faults false = IsSome before → now ≡ append_known before bytes
HasMore before faults_before bytes now faults true = (IsSome before → GrowsByFront before now bytes) × Rose faults_before faults

-- one byte more is shown
pub record ShowsByte {L : Type 0} (written : L → Option (List ℕ)) (faults : L → ℕ) (byte : ℕ) (old new : ShownView L) : Type 0 where
  pub later : faults old.log ≤ faults new.log
  pub some : new.some ≡ true
  pub is : HasMore (written old.log) (faults old.log) (shown_byte old.some byte) (written new.log) (faults new.log) new.failed

-- these bytes are shown since
pub record AreBytesShown (before : Option (List ℕ)) (faults_before : ℕ) (bytes : List ℕ) (now : Option (List ℕ)) (faults : ℕ) (some failed : Bool) : Type 0 where
  pub later : faults_before ≤ faults
  pub some_is : some ≡ has_some bytes
  pub is : HasMore before faults_before (open_line bytes) now faults failed
