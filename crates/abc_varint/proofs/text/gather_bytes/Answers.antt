use Rattle.std.proofs.Common.{◌≡◌, ◌-◌, ◌+◌, ◌∷◌, ◌++◌, [], suc, arith, ◌∙◌}
use Rattle.std.proofs.lemmas.Result.{err_from_is_err_and}
use Rattle.abc_file_types.specs.Numbers.{u8}
use Rattle.abc_varint.specs.declared.error.ReadError.TheVariants as errors
use Rattle.abc_varint.specs.View.{held_bytes}
use Rattle.abc_varint.proofs.Chunks.{far_length, goes_far, more_length}
use Rattle.abc_varint.proofs.Loop.{ends, goes_on, other_err, starts}
use Rattle.abc_varint.proofs.text.gather_bytes.Goals as goal

pub loop-missing-init : goal.loop-missing-init
loop-missing-init g c =
    let t = c.in_ok-missing.ensures in
    let n = c.in_ok-missing.field-0 in
    let count = c.args.count in
    let all : n + (count - n) ≡ count - 0 = omega (arith, t.few.0) in
    rw (t.bytes, t.window, c.new-bytes.ensures) (
      goes_far n count (count - 0) (count - n) [] _ _ _ _ all t.few.1 t.room.0 t.room.1 (starts u8 count c.args.w.now (g.S.Source.left c.args.source.now) c.requires),
      omega arith,
      far_length n (count - n) (count - 0) count [] (held_bytes c.args.w.now) all t.few.1 (omega arith),
    )

pub returns-in_err-x-clause-value : goal.returns-in_err-x-clause-value
returns-in_err-x-clause-value g c =
    let p = err_from_is_err_and c.from_residual-in_err-x.result c.from_residual-in_err-x.ensures.1 in
    let e = c.in_err-x.ensures in
    let i = c.loop-missing.invariant in
    rw (p.1, p.2) (
      (λ k. ends c.in_err-x.field-0.0 u8 c.args.count c.loop-missing.missing c.loop-missing.bytes _ _ _ _ _ (omega arith) i.0 (e.value i.0.fresh)),
      (λ d h. absurd (let k = c.requires in cc)),
      omega (arith, i.1, e.later),
      (λ k h. let r = e.cause i.0.fresh (other_err c.in_err-x.field-0.0 errors.ReadFault h) in omega (arith, i.1, r)),
      (let q = e.keeps in cc, e.stays ∙ i.0.ends_at),
    )

pub loop-missing-preserved : goal.loop-missing-preserved
loop-missing-preserved g c =
    let t = c.in_ok-missing-2.ensures in
    let n = c.in_ok-missing-2.field-0 in
    let count = c.args.count in
    let i = c.loop-missing.invariant in
    let x = c.in_ok-x.x in
    let more = c.loop-missing.missing in
    let one : more ≡ suc (more - 1) = omega arith in
    let all : n + (more - 1 - n) ≡ more - 1 = omega (arith, t.few.0) in
    rw (t.bytes, t.window, c.in_ok-push.ensures.ok) (
      goes_far n count (more - 1) (more - 1 - n) (c.loop-missing.bytes ++ x ∷ []) _ _ _ _ all t.few.1 t.room.0 t.room.1 (goes_on u8 count more (more - 1) c.loop-missing.bytes _ _ _ _ _ _ x one i.0 c.in_ok-x.ensures.value),
      omega (arith, i.1, c.in_ok-x.ensures.later),
      far_length n (more - 1 - n) (more - 1) count (c.loop-missing.bytes ++ x ∷ []) _ all t.few.1 (more_length more (more - 1) count c.loop-missing.bytes x one i.2),
    )
