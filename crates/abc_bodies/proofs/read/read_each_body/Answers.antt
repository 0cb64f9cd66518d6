use Rattle.std.proofs.Common.{ℕ, List, [], ◌∷◌, ◌++◌, ◌∙◌, ap, arith, false, ◌-◌, ◌+◌}
use Rattle.std.proofs.lemmas.List.Elements.{All-nil, All-push}
use Rattle.std.proofs.lemmas.Option.{slice_get_within}
use Rattle.std.proofs.lemmas.Result.{err_from_is_err_and}
use Rattle.abc_file_types.specs.Bodies.{IsReadyBody}
use Rattle.abc_varint.specs.declared.error.ReadError.TheVariants as errors
use Rattle.abc_varint.specs.Reads.{known_input}
use Rattle.abc_varint.proofs.Inputs.{known_is}
use Rattle.abc_varint.proofs.Loop.{other_err}
use Rattle.abc_bodies.proofs.Collecting.{gathered, gathered_places, gathering_begins, gathering_fails, gathers}
use Rattle.abc_bodies.proofs.read.read_each_body.Goals as goal

pub returns-in_err-body-clause-value : goal.returns-in_err-body-clause-value
returns-in_err-body-clause-value g c =
    let p = err_from_is_err_and c.from_residual-in_err-body.result c.from_residual-in_err-body.ensures.1 in
    let e = c.in_err-body.ensures.value in
    rw (p.1, p.2) (
      gathering_fails g.K.Keeping.of_places c.args.sizes.now c.args.count c.args.w.now (g.S.Source.left c.args.source.now) c.in_err-body.field-0.0 (c.args.count - c.loop.counter) c.loop.has_body c.loop.bodies c.loop.places
          c.loop.w (g.S.Source.left c.loop.source) c.read_body.new.w (g.S.Source.left c.read_body.new.source) (omega arith) c.loop.invariant.gathering e.0,
      (λ e h. absurd (let k = c.requires.fresh in cc)),
      omega (arith, c.loop.invariant.later, e.2),
      (λ k h. let r = e.3 c.loop.invariant.gathering.collecting.chained.fresh (other_err c.in_err-body.field-0.0 errors.ReadFault h) in omega (arith, c.loop.invariant.later, r)),
      (e.4.0, e.4.1 ∙ c.loop.invariant.gathering.collecting.chained.ends_at),
    )

pub set-requires : goal.set-requires
set-requires g c = slice_get_within c.loop.has_body c.in_ok-body.body.method false c.in_ok-body.ensures.free

pub loop-init : goal.loop-init
loop-init g c = record {
  gathering = gathering_begins g.K.Keeping.of_places c.args.sizes.now c.args.count c.args.w.now (g.S.Source.left c.args.source.now) c.in_ok-has_body.has_body _ _ c.in_ok-has_body.ensures c.new-bodies.ensures c.none-places.ensures c.requires.fresh;
  later = omega arith;
  ready = rw c.new-bodies.ensures (All-nil IsReadyBody);
}

pub loop-preserved : goal.loop-preserved
loop-preserved g c =
    let e = c.in_ok-body.ensures.value in
    record {
      gathering = rw (c.set.ensures, c.in_ok-push.ensures.ok)
          (gathers g.K.Keeping.of_places c.args.sizes.now c.args.count c.args.w.now (g.S.Source.left c.args.source.now) (c.args.count - c.loop.counter) (c.args.count - (c.loop.counter + 1)) c.loop.has_body c.loop.bodies c.loop.places _
          c.loop.w (g.S.Source.left c.loop.source) c.read_body.new.w (g.S.Source.left c.read_body.new.source) c.in_ok-body.body c.read_body.new.reading.starts (omega arith) c.loop.invariant.gathering e.0 c.in_ok-body.ensures.free c.in_ok-body.ensures.count
          (λ places is. c.in_ok-keep.ensures places is ∙ ap (λ (row : List ℕ). g.K.Keeping.of_places (places ++ row ∷ [])) c.as_slice.ensures));
      later = omega (arith, e.2, c.loop.invariant.later);
      ready = rw c.in_ok-push.ensures.ok (All-push IsReadyBody c.loop.bodies c.in_ok-body.body c.loop.invariant.ready c.in_ok-body.ensures.ready);
    }

pub returns-clause-value : goal.returns-clause-value
returns-clause-value g c = (
  gathered g.K.Keeping.of_places c.args.sizes.now c.args.count c.args.w.now (g.S.Source.left c.args.source.now) (c.args.count - c.loop.counter) c.loop.has_body c.loop.bodies c.loop.places c.loop.w (g.S.Source.left c.loop.source)
      (omega arith) c.requires.fresh c.loop.invariant.gathering,
  (λ e h. absurd (let k = c.requires.fresh in cc)),
  c.loop.invariant.later,
  (λ k h. absurd cc),
  tt,
)

pub returns-clause-places : goal.returns-clause-places
returns-clause-places g c = gathered_places g.K.Keeping.of_places c.args.sizes.now c.args.count (c.args.count - c.loop.counter) c.loop.has_body c.loop.bodies c.loop.places _ _ _ _ c.loop.invariant.gathering

pub returns-in_err-push-clause-value : goal.returns-in_err-push-clause-value
returns-in_err-push-clause-value g c =
    let p = err_from_is_err_and c.from_residual-in_err-push.result c.from_residual-in_err-push.ensures.1 in
    let e = c.in_ok-body.ensures.value in
    let before = c.loop.invariant in
    let w = c.read_body.new.w in
    let s = g.S.Source.left c.read_body.new.source in
    rw (p.1, p.2) (
      (λ k. (before.gathering.collecting.chained.told (known_input w s) (e.0.4 (known_input w s) (known_is w s)).0, tt)),
      (λ e h. absurd (let k = c.requires.fresh in cc)),
      omega (arith, before.later, e.2),
      (λ k h. absurd cc),
      (e.0.1, e.0.3 ∙ before.gathering.collecting.chained.ends_at),
    )

pub returns-in_err-keep-clause-value : goal.returns-in_err-keep-clause-value
returns-in_err-keep-clause-value g c =
    let p = err_from_is_err_and c.from_residual-in_err-keep.result c.from_residual-in_err-keep.ensures.1 in
    let e = c.in_ok-body.ensures.value in
    let before = c.loop.invariant in
    let w = c.read_body.new.w in
    let s = g.S.Source.left c.read_body.new.source in
    rw (p.1, p.2) (
      (λ k. (before.gathering.collecting.chained.told (known_input w s) (e.0.4 (known_input w s) (known_is w s)).0, tt)),
      (λ e h. absurd (let k = c.requires.fresh in cc)),
      omega (arith, before.later, e.2),
      (λ k h. absurd cc),
      (e.0.1, e.0.3 ∙ before.gathering.collecting.chained.ends_at),
    )
