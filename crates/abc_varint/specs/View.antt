-- What contracts see of a window.
use Rattle.std.specs.Prelude.{◌≡◌, ℕ, ◌+◌, ◌<◌, ◌≤◌, ◌⊎◌, List, [], ◌∷◌, Ok, Err, Some, None, drop}
use Rattle.std.specs.declared.result.Result.{Result}
use Rattle.std.specs.declared.option.Option.{Option}
use Rattle.abc_file_types.specs.declared.reason.Reason.{Reason}
use Rattle.abc_file_types.specs.declared.reason.Reason.TheVariants as reasons
use Rattle.abc_file_types.specs.Part.{limit}
use Rattle.abc_varint.specs.declared.error.ReadError.{ReadError}
use Rattle.abc_varint.specs.declared.error.ReadError.TheVariants as errors

pub record View : Type 0 where
  -- of the next byte
  pub place : ℕ
  -- every byte that was taken from the source, in their order
  pub taken : List ℕ
  -- the Err that every later read answers
  pub kept : Option ReadError
  -- no byte from this place on is read
  pub end : ℕ

-- taken from the source, and not read yet
abbrev pub held_bytes : View → List ℕ
held_bytes w = drop w.place w.taken

-- the window, n bytes further on
abbrev pub onward : ℕ → View → View
onward n w = record { place = w.place + n; taken = w.taken; kept = w.kept; end = w.end }

-- ---- what is kept

abbrev pub kept_reason : Reason → ReadError → Option ReadError
kept_reason reasons.Short e = Some e
kept_reason reasons.LongNumber e = Some e
kept_reason reasons.BigNumber e = Some e
kept_reason reasons.CodeEnds e = Some e
kept_reason reasons.FileTooLong e = Some e
kept_reason _ e = None

-- A window keeps an Err of a byte or a number that can't be read, and no other.
abbrev pub error_kept : ReadError → Option ReadError
error_kept (errors.Refused place reason) = kept_reason reason (errors.Refused place reason)
error_kept errors.ReadFault = Some errors.ReadFault
error_kept errors.NoMemory = None

-- The window keeps it.
abbrev pub IsKept : ReadError → View → Type 0
IsKept e w = (w.kept ≡ Some e) × (error_kept e ≡ Some e)

-- ---- the next byte

-- The next byte of a window that keeps nothing, where nothing else can be taken from the source.
abbrev pub NextHere : View → List ℕ → View → Result ℕ ReadError → Type 0
NextHere w [] new r = (r ≡ Err (errors.Refused w.place reasons.Short)) × (new ≡ record w { kept = Some (errors.Refused w.place reasons.Short) })
NextHere w (x ∷ rest) new r =
    ((w.place < limit) × (r ≡ Ok x) × (new ≡ onward 1 w))
    ⊎ ((limit ≤ w.place) × (r ≡ Err (errors.Refused w.place reasons.FileTooLong)) × (new ≡ record w { kept = Some (errors.Refused w.place reasons.FileTooLong) }))

abbrev pub NextOf : View → View → Result ℕ ReadError → Type 0
NextOf w new r =
    ((w.end ≤ w.place) × (r ≡ Err (errors.Refused w.place reasons.CodeEnds)) × (new ≡ record w { kept = Some (errors.Refused w.place reasons.CodeEnds) }))
    ⊎ ((w.place < w.end) × NextHere w (held_bytes w) new r)

-- The window went over at least so many bytes, each of them before its end.
abbrev pub GoesOver : ℕ → View → View → Type 0
GoesOver count w w2 = (w.place + count ≤ w2.place) × (w2.place ≤ w.end)
