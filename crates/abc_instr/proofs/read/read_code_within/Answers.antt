use Rattle.std.proofs.Common.{◌∙◌, ap, arith}
use Rattle.abc_file_types.specs.Part.{refusal}
use Rattle.abc_file_types.specs.declared.reason.Reason.TheVariants as reasons
use Rattle.abc_varint.specs.Reads.{known_input}
use Rattle.abc_varint.proofs.Inputs.{known_is}
use Rattle.abc_instr.specs.Reading.{code_from, with_starts}
use Rattle.abc_instr.proofs.Aiming.{aims_are, code_of, code_read, code_refused, missed_near, places_are, resolved}
use Rattle.abc_instr.proofs.read.read_code_within.Goals as goal

pub take_instrs-requires-clause-places : goal.take_instrs-requires-clause-places
take_instrs-requires-clause-places g c = let v = c.in_ok-read_pieces.ensures.value in places_are c.in_ok-length.length v.0 c.read_pieces.new.reading c.in_ok-length.ensures.small v.1 v.2

pub take_instrs-requires-clause-aims : goal.take_instrs-requires-clause-aims
take_instrs-requires-clause-aims g c = let v = c.in_ok-read_pieces.ensures.value in aims_are v.0 c.read_pieces.new.reading v.1

pub overflow_add-result : goal.overflow_add-result
overflow_add-result g c =
    let v = c.in_ok-read_pieces.ensures.value in
    let h = rw c.in-Err-Target.field-0-is at c.in-Err-Target.ensures.value in
    let near = missed_near v.0 c.read_pieces.new.reading (refusal c.in-Err-Target.at reasons.Target) v.1 v.2.some h in
    omega (arith, near, v.2.size, c.in_ok-length.ensures.small, c.place-first.ensures.bound)

pub returns-in-Ok-clause-value : goal.returns-in-Ok-clause-value
returns-in-Ok-clause-value g c =
    let n = c.in_ok-length.length in
    let length = c.in_ok-length.ensures.value in
    let v = c.in_ok-read_pieces.ensures.value in
    let r = c.read_pieces.new.reading in
    let found = resolved v.0 r v.1 ∙ ap (with_starts r.starts) c.in-Ok.ensures.value in
    rw c.take_instrs.ensures.starts (
      (
        length.0.0,
        v.4.1,
        omega (arith, length.0.2, v.4.2),
        v.4.3 ∙ length.0.3,
        λ input is. let b = v.4.4 input is in let a = length.0.4 input b.0 in (a.0, code_read n _ _ _ v.0 (code_from r.starts c.in-Ok.instrs) a.1 b.1 found),
      ),
      (λ e h. absurd (let k = length.0.0 in cc)),
      omega (arith, length.2, c.in_ok-read_pieces.ensures.later),
      (λ k h. absurd cc),
      tt,
    )

pub returns-in-Ok-clause-rising : goal.returns-in-Ok-clause-rising
returns-in-Ok-clause-rising g c =
    let v = c.in_ok-read_pieces.ensures.value in
    rw c.take_instrs.ensures.starts ((code_of c.in_ok-length.length v.0 c.read_pieces.new.reading c.in-Ok.instrs c.in_ok-length.ensures.small v.1 v.2 c.in-Ok.ensures.value).rising)

pub returns-in-Ok-clause-count : goal.returns-in-Ok-clause-count
returns-in-Ok-clause-count g c =
    let v = c.in_ok-read_pieces.ensures.value in
    rw c.take_instrs.ensures.starts ((code_of c.in_ok-length.length v.0 c.read_pieces.new.reading c.in-Ok.instrs c.in_ok-length.ensures.small v.1 v.2 c.in-Ok.ensures.value).count)

pub returns-in-Ok-clause-few : goal.returns-in-Ok-clause-few
returns-in-Ok-clause-few g c =
    let v = c.in_ok-read_pieces.ensures.value in
    rw c.take_instrs.ensures.starts ((code_of c.in_ok-length.length v.0 c.read_pieces.new.reading c.in-Ok.instrs c.in_ok-length.ensures.small v.1 v.2 c.in-Ok.ensures.value).few)

-- what got its targets can be put
pub returns-in-Ok-clause-ready : goal.returns-in-Ok-clause-ready
returns-in-Ok-clause-ready g c =
    let v = c.in_ok-read_pieces.ensures.value in
    (code_of c.in_ok-length.length v.0 c.read_pieces.new.reading c.in-Ok.instrs c.in_ok-length.ensures.small v.1 v.2 c.in-Ok.ensures.value).ready

-- where the target that was missed stands
pub returns-in-Err-Target-clause-value : goal.returns-in-Err-Target-clause-value
returns-in-Err-Target-clause-value g c =
    let n = c.in_ok-length.length in
    let length = c.in_ok-length.ensures.value in
    let v = c.in_ok-read_pieces.ensures.value in
    let r = c.read_pieces.new.reading in
    let h = rw c.in-Err-Target.field-0-is at c.in-Err-Target.ensures.value in
    let d = refusal c.in-Err-Target.at reasons.Target in
    let missed = resolved v.0 r v.1 ∙ ap (with_starts r.starts) h in (
      (λ k.
          let w2 = c.read_pieces.new.w in let s2 = g.S.Source.left c.read_pieces.new.source in
          let b = v.4.4 (known_input w2 s2) (known_is w2 s2) in let a = length.0.4 (known_input w2 s2) b.0 in (a.0, rw c.place-first.ensures.is (code_refused n _ _ _ v.0 d a.1 b.1 missed))),
      (λ e h. absurd (let k = length.0.0 in cc)),
      omega (arith, length.2, c.in_ok-read_pieces.ensures.later),
      (λ k h. absurd cc),
      (v.4.1, v.4.3 ∙ length.0.3),
    )
