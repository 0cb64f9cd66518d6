-- The code of a body that some bytes spell is short.
use Rattle.std.proofs.Common.{◌≡◌, ℕ, zero, suc, ◌^◌, ◌<◌, ◌≤◌, List, length, get_or, subst, sym, arith}
use Rattle.abc_link_names.specs.Linked.{IsLinkedFile, LinkedFile}
use Rattle.abc_link_names.specs.PartsByNumber.{body_at, no_body}
use Rattle.abc_file_types.specs.Bodies.{IsReadyBody}
use Rattle.abc_file_types.specs.CodeBytes.{canonical_starts}
use Rattle.abc_file_types.specs.Files.{Fits}
use Rattle.abc_file_types.specs.Starts.{IsRising}
use Rattle.abc_file_types.specs.declared.code.Body.{Body}
use Rattle.abc_file_types.specs.declared.tables.Abc.{Abc}
use Rattle.abc_file_types.proofs.BodiesShortest.{canonical_rising}
use Rattle.abc_file_types.proofs.Lengths.{canonical_count, canonical_small}
use Rattle.abc_file_types.proofs.Whole.{file_ready}
use Rattle.abc_verify_typing.specs.Routines.{Routine, routine}

rises : (ss : List ℕ) → IsRising ss → (i : ℕ) → i < length ss → i ≤ get_or ss i 0
rises ss r zero h = omega arith
rises ss r (suc i) h = omega (arith, rises ss r i (omega arith), r.rising i (suc i) (omega arith) h)

body_short : (b : Body) → IsReadyBody b → length b.code < 2 ^ 31
body_short b ready =
    let starts = canonical_starts b.code in
    let small = canonical_small b.code ready.code.short (length b.code) (omega arith) in
    let within : length b.code < length starts = omega (arith, canonical_count b.code) in
    omega (arith, rises starts (canonical_rising b.code) (length b.code) within, small)

code_short : (v : Abc) → Fits v → (b : ℕ) → b < length v.bodies → length (body_at v b).code < 2 ^ 31
code_short v fits b lt = body_short (body_at v b) (file_ready v fits.0 fits.1 b no_body lt)

pub routine_short : (l : LinkedFile) (b : ℕ) (r : Routine) → IsLinkedFile l → b < length l.file.bodies → r ≡ routine l b → length r.code < 2 ^ 31
routine_short l b r t lt e = subst (λ (s : Routine). length s.code < 2 ^ 31) (sym e) (code_short l.file t.fits b lt)
