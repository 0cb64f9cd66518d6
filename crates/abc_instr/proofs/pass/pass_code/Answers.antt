use Rattle.std.proofs.Common.{◌∙◌, ap, arith}
use Rattle.std.proofs.lemmas.Result.{err_from_is_err_and}
use Rattle.abc_file_types.specs.Part.{refusal}
use Rattle.abc_file_types.specs.declared.reason.Reason.TheVariants as reasons
use Rattle.abc_file_types.specs.Starts.{starts}
use Rattle.abc_file_types.proofs.Resolving.{missed_within}
use Rattle.abc_varint.specs.declared.error.ReadError.TheVariants as errors
use Rattle.abc_varint.specs.Reads.{known_input}
use Rattle.abc_varint.proofs.Inputs.{known_is}
use Rattle.abc_varint.proofs.Loop.{other_err}
use Rattle.abc_instr.specs.Marks.{mark_at}
use Rattle.abc_instr.specs.Scanning.{raws_in}
use Rattle.abc_instr.proofs.Scanned.{holes_are}
use Rattle.abc_instr.proofs.Passing.{code_found, code_missed, is_put, is_missed, length_fails, pieces_fail, raws_some, raws_size}
use Rattle.abc_instr.proofs.pass.pass_code.Goals as goal

pub returns-in_err-length : goal.returns-in_err-length
returns-in_err-length g c =
    let p = err_from_is_err_and c.from_residual.result c.from_residual.ensures.1 in
    let e = c.in_err-length.field-0.0 in
    let v = c.in_err-length.ensures.value in
    rw (p.1, p.2) ((λ k. ((v.0 k).0, length_fails e _ (v.0 k).1)), (λ f h. let k = v.1 f h in (other_err e f k.0, k.1, k.2)), v.2, (λ k h. v.3 k (other_err e errors.ReadFault h)), v.4)

pub returns-in_err-scan_code : goal.returns-in_err-scan_code
returns-in_err-scan_code g c =
    let p = err_from_is_err_and c.from_residual-in_err-scan_code.result c.from_residual-in_err-scan_code.ensures.1 in
    let e = c.in_err-scan_code.field-0.0 in
    let length = c.in_ok-length.ensures.value in
    let v = c.in_err-scan_code.ensures in
    rw (p.1, p.2) (
      (λ k. let f = v.value length.0.1 in let a = length.0.4 _ f.0 in (a.0, pieces_fail e c.in_ok-length.length _ _ a.1 f.1)),
      (λ f h. absurd (let k = length.0.0 in cc)),
      omega (arith, length.2, v.later),
      (λ k h. let r = v.cause length.0.1 (other_err e errors.ReadFault h) in omega (arith, length.2, r)),
      (v.keeps.0, v.keeps.1 ∙ length.0.3),
    )

pub put_scan-requires : goal.put_scan-requires
put_scan-requires g c = let v = c.in_ok-scan_code.ensures.value in holes_are c.in_ok-length.length v.0 c.scan_code.new.scan c.in_ok-length.ensures.small v.1 v.2

pub overflow_add-result : goal.overflow_add-result
overflow_add-result g c =
    let v = c.in_ok-scan_code.ensures.value in
    let h = rw c.in-Err-Target.field-0-is at c.in-Err-Target.ensures.bytes in
    let d = refusal c.in-Err-Target.at reasons.Target in
    let within = missed_within (starts 0 (raws_in v.0)) 0 (raws_in v.0) d (raws_some v.0 v.2.some) (is_missed c.in_ok-length.length v.0 c.scan_code.new.scan v.1 v.2 c.args.out.now.items d h) in
    omega (arith, within, raws_size v.0, v.2.size, c.in_ok-length.ensures.small, c.place-first.ensures.bound)

pub returns-in-Ok : goal.returns-in-Ok
returns-in-Ok g c =
    let n = c.in_ok-length.length in
    let length = c.in_ok-length.ensures.value in
    let v = c.in_ok-scan_code.ensures.value in
    let p = is_put n v.0 c.scan_code.new.scan v.1 v.2 c.args.out.now.items c.put_scan.new.out.items c.in-Ok.ensures.bytes in (
      (
        length.0.0,
        v.3.1,
        omega (arith, length.0.2, v.3.2),
        v.3.3 ∙ length.0.3,
        λ input is.
            let b = v.3.4 input is in let a = length.0.4 input b.0 in (
              a.0,
              record {
                value = record { instrs = p.instrs; offsets = starts 0 (raws_in v.0) };
                read = code_found n _ _ _ v.0 p.instrs a.1 b.1 p.found;
                bytes = p.bytes;
                tells = ap mark_at c.put_scan.ensures.marks ∙ p.marks;
              },
            ),
      ),
      (λ e h. absurd (let k = length.0.0 in cc)),
      omega (arith, length.2, c.in_ok-scan_code.ensures.later),
      (λ k h. absurd cc),
      tt,
    )

pub returns-in-Err-Target : goal.returns-in-Err-Target
returns-in-Err-Target g c =
    let n = c.in_ok-length.length in
    let length = c.in_ok-length.ensures.value in
    let v = c.in_ok-scan_code.ensures.value in
    let h = rw c.in-Err-Target.field-0-is at c.in-Err-Target.ensures.bytes in
    let d = refusal c.in-Err-Target.at reasons.Target in
    let m = is_missed n v.0 c.scan_code.new.scan v.1 v.2 c.args.out.now.items d h in (
      (λ k.
          let w2 = c.scan_code.new.w in let s2 = g.S.Source.left c.scan_code.new.source in
          let b = v.3.4 (known_input w2 s2) (known_is w2 s2) in let a = length.0.4 (known_input w2 s2) b.0 in (a.0, rw c.place-first.ensures.is (code_missed n _ _ _ v.0 d a.1 b.1 m))),
      (λ e h. absurd (let k = length.0.0 in cc)),
      omega (arith, length.2, c.in_ok-scan_code.ensures.later),
      (λ k h. absurd cc),
      (v.3.1, v.3.3 ∙ length.0.3),
    )
