use mir.Val.{SFits}
use Rattle.std.proofs.Common.{◌-◌, ◌+◌, ◌∷◌, [], length-append, arith, rules, ◌∙◌}
use Rattle.std.proofs.lemmas.Int.{to_z-of_z}
use Rattle.std.proofs.lemmas.Result.{err_from_is_err_and}
use Rattle.std.specs.Int.{w32}
use Rattle.std.proofs.lemmas.List.Elements.{All-push}
use Rattle.abc_file_types.specs.Canonical.{FitsS24}
use Rattle.abc_file_types.specs.Numbers.{s24}
use Rattle.abc_varint.specs.declared.error.ReadError.TheVariants as errors
use Rattle.abc_varint.proofs.Loop.{goes_on, ends, other_err}
use Rattle.abc_instr.proofs.raw.read_offsets.Goals as goal

pub returns-in_err-offset-clause-value : goal.returns-in_err-offset-clause-value
returns-in_err-offset-clause-value g c =
    let p = err_from_is_err_and c.from_residual.result c.from_residual.ensures.1 in
    let e = c.in_err-offset.ensures.value in
    let before = c.loop.invariant in
    rw (p.1, p.2) (
      (λ k. ends c.in_err-offset.field-0.0 s24 c.args.count (c.args.count - c.loop.counter) c.loop.offsets _ _ _ _ _ (omega arith) before.going (e.0 before.going.fresh)),
      (λ e h. absurd (let k = c.requires in cc)),
      omega (arith, before.later, e.2),
      (λ k h. let r = e.3 before.going.fresh (other_err c.in_err-offset.field-0.0 errors.ReadFault h) in omega (arith, before.later, r)),
      (e.4.0, e.4.1 ∙ before.going.ends_at),
    )

pub loop-preserved : goal.loop-preserved
loop-preserved g c =
    let e = c.in_ok-offset.ensures.value in
    let now = c.in_ok-offset.ensures.passes in
    let before = c.loop.invariant in
    let fits : SFits w32 c.in_ok-offset.offset = search rules in
    let bits = to_z-of_z w32 c.in_ok-offset.offset fits in
    record {
      going = rw (c.in_ok-push.ensures.ok, bits)
          (goes_on s24 c.args.count (c.args.count - c.loop.counter) (c.args.count - (c.loop.counter + 1)) c.loop.offsets _ _ _ _ _ _ _ (omega arith) before.going e.0);
      later = omega (arith, before.later, e.2);
      count = rw (c.in_ok-push.ensures.ok, bits) (omega (arith, length-append c.loop.offsets (c.in_ok-offset.offset ∷ []), before.count));
      fits = rw (c.in_ok-push.ensures.ok, bits) (All-push FitsS24 c.loop.offsets c.in_ok-offset.offset before.fits c.in_ok-offset.ensures.fits);
      passes = λ h. let p = before.passes h in (omega (arith, p.0, now.0), omega (arith, now.1, before.going.ends_at));
    }
