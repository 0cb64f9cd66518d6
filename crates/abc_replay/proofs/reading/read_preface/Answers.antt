use Rattle.std.proofs.Common.{Err, List, ℕ, ◌+◌, ◌^◌, ap, arith, subst}
use Rattle.std.proofs.lemmas.Result.{err_from_is_err_and}
use Rattle.abc_verify.specs.FileRefusing.{IsFileRefusedBy}
use Rattle.abc_replay.specs.Prefaces.{IsVerifiedIn}
use Rattle.abc_log.proofs.Takings.{takes_more, takes_then}
use Rattle.abc_replay.proofs.Found.{file_faulty, preface_found, preface_refused}
use Rattle.abc_replay.proofs.Fronts.{no_front, whole_front}
use Rattle.abc_replay.proofs.reading.read_preface.Goals as goal

pub returns-in_err-verified-clause-refused : goal.returns-in_err-verified-clause-refused
returns-in_err-verified-clause-refused g c =
    let p = err_from_is_err_and c.from_residual-in_err-verified.result c.from_residual-in_err-verified.ensures.1 in
    let e = c.in_err-verified.field-0.0 in
    rw (p.1, p.2) (no_front (g.S.Source.left c.args.source.now) (g.S.Source.left c.read_file.new.source) c.in_ok-bytes.bytes.items e c.in_ok-bytes.ensures.file (subst (λ (b : List ℕ). IsFileRefusedBy b e) c.deref.ensures.value c.in_err-verified.ensures.refused))

pub returns-in_err-verified-clause-cause : goal.returns-in_err-verified-clause-cause
returns-in_err-verified-clause-cause g c =
    let p = err_from_is_err_and c.from_residual-in_err-verified.result c.from_residual-in_err-verified.ensures.1 in
    λ fault. absurd (c.in_err-verified.ensures.read (ap Err (file_faulty c.from_residual-in_err-verified.result p.0 c.in_err-verified.field-0.0 p.1 p.2 fault)))

pub returns-clause-preface : goal.returns-clause-preface
returns-clause-preface g c =
    let l = c.in_ok-verified.verified in
    let line = c.read_line-line.ensures in
    let v = subst (λ (b : List ℕ). IsVerifiedIn b l) c.deref.ensures.value c.in_ok-verified.ensures.ok in
    preface_found (g.S.Source.left c.args.source.now) (g.S.Source.left c.read_file.new.source) (g.S.Source.left c.read_line-line.new.source) c.in_ok-bytes.bytes.items l (9 + c.len.result) c.with_line.result (whole_front (g.S.Source.left c.args.source.now) (g.S.Source.left c.read_file.new.source) c.in_ok-bytes.bytes.items c.in_ok-bytes.ensures.file v.spells.1) v (omega (arith, c.len.ensures)) c.read_line-line.result line.line line.limits line.long c.with_line.ensures.ok c.with_line.ensures.err

pub returns-clause-refused : goal.returns-clause-refused
returns-clause-refused g c =
    let l = c.in_ok-verified.verified in
    let v = subst (λ (b : List ℕ). IsVerifiedIn b l) c.deref.ensures.value c.in_ok-verified.ensures.ok in
    preface_refused (g.S.Source.left c.args.source.now) (g.S.Source.left c.read_file.new.source) (g.S.Source.left c.read_line-line.new.source) c.in_ok-bytes.bytes.items l (9 + c.len.result) c.with_line.result (whole_front (g.S.Source.left c.args.source.now) (g.S.Source.left c.read_file.new.source) c.in_ok-bytes.bytes.items c.in_ok-bytes.ensures.file v.spells.1) v (omega (arith, c.len.ensures)) c.read_line-line.result c.read_line-line.ensures.refused c.with_line.ensures.ok c.with_line.ensures.err

pub returns-in_err-bytes-clause-taken : goal.returns-in_err-bytes-clause-taken
returns-in_err-bytes-clause-taken g c = takes_more _ _ (2 ^ 24 + 10) (2 ^ 24 + 74) (omega arith) c.in_err-bytes.ensures.taken

pub returns-in_err-verified-clause-taken : goal.returns-in_err-verified-clause-taken
returns-in_err-verified-clause-taken g c = takes_more _ _ (2 ^ 24 + 10) (2 ^ 24 + 74) (omega arith) c.in_ok-bytes.ensures.taken

pub returns-clause-taken : goal.returns-clause-taken
returns-clause-taken g c = takes_then _ _ _ (2 ^ 24 + 10) 64 (2 ^ 24 + 74) (omega arith) c.in_ok-bytes.ensures.taken c.read_line-line.ensures.taken
