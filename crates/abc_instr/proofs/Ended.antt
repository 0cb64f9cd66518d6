-- What was read within an end that was set for it, and then set back.
use Rattle.std.proofs.Common.{◌≡◌, ℕ, ◌+◌, List, Ok, Err, sym, subst, min}
use Rattle.std.specs.declared.option.Option.{Option}
use Rattle.std.specs.declared.result.Result.{Result}
use Rattle.abc_file_types.specs.Instructions.{RawInstr}
use Rattle.abc_file_types.specs.Part.{At, Refusal}
use Rattle.abc_varint.specs.declared.error.ReadError.{ReadError}
use Rattle.abc_varint.specs.Reads.{Reads, ReadsUntil}
use Rattle.abc_varint.specs.View.{View}
use Rattle.abc_varint.proofs.Fill.{until_within}
use Rattle.abc_instr.specs.declared.raw.RawInstr.{RawInstr as Raw}
use Rattle.abc_instr.specs.declared.reading.Reading.{Reading}
use Rattle.abc_instr.specs.declared.scan.Scan.{Scan}
use Rattle.abc_instr.specs.Reading.{ReadsPieces}
use Rattle.abc_instr.specs.Scanning.{ScansOn, raws_in}

module _ (reads : At → Result (List (RawInstr × ℕ) × At) Refusal) (n : ℕ) (w : View) (s : Option (List ℕ)) (w2 : View) (s2 : Option (List ℕ)) where
  abbrev within : View
  within = record w { end = min w.end (w.place + n) }

  abbrev back : View
  back = record w2 { end = w.end }

  read_back : {T : Type 0} (leaves : List (Raw × ℕ) → Reading → Type 0) (reading : Reading) (r : Result T ReadError)
      → ReadsPieces (ReadsUntil n reads within s w2 s2) leaves n within w2 reading r → ReadsPieces (Reads reads w s back s2) leaves n w back reading r
  read_back leaves reading (Ok t) h = (h.0, h.1, h.2, h.3, until_within reads n w s w2 s2 (Ok (raws_in h.0)) h.4)
  read_back leaves reading (Err e) h = until_within reads n w s w2 s2 (Err e) h

  scan_back : {T : Type 0} (scan : Scan) (r : Result T ReadError) → ScansOn (ReadsUntil n reads within s w2 s2) n within w2 scan r → ScansOn (Reads reads w s back s2) n w back scan r
  scan_back scan (Ok t) h = (h.0, h.1, h.2, h.3, until_within reads n w s w2 s2 (Ok (raws_in h.0)) h.4)
  scan_back scan (Err e) h = until_within reads n w s w2 s2 (Err e) h

  module _ (v w3 : View) (set : v ≡ within) (reset : w3 ≡ back) where
    pub read_within : {T : Type 0} (leaves : List (Raw × ℕ) → Reading → Type 0) (reading : Reading) (r : Result T ReadError)
        → ReadsPieces (ReadsUntil n reads v s w2 s2) leaves n v w2 reading r → ReadsPieces (Reads reads w s w3 s2) leaves n w w3 reading r
    read_within leaves reading r h =
        subst (λ (u : View). ReadsPieces (Reads reads w s u s2) leaves n w u reading r) (sym reset)
        (read_back leaves reading r (subst (λ (u : View). ReadsPieces (ReadsUntil n reads u s w2 s2) leaves n u w2 reading r) set h))

    pub scan_within : {T : Type 0} (scan : Scan) (r : Result T ReadError) → ScansOn (ReadsUntil n reads v s w2 s2) n v w2 scan r → ScansOn (Reads reads w s w3 s2) n w w3 scan r
    scan_within scan r h =
        subst (λ (u : View). ScansOn (Reads reads w s u s2) n w u scan r) (sym reset)
        (scan_back scan r (subst (λ (u : View). ScansOn (ReadsUntil n reads u s w2 s2) n u w2 scan r) set h))
