use Rattle.std.proofs.Common.{refl, ap, ◌∙◌}
use Rattle.abc_heap_store.specs.Heap.{Heap}
use Rattle.abc_run_state.proofs.StateLimits.{double_same}
use Rattle.abc_run_state.proofs.parts.compute_two.Goals as goal

pub returns-in-Ok-clause-stays : goal.returns-in-Ok-clause-stays
returns-in-Ok-clause-stays g c = record {
  over = c.in-Ok.ensures.over;
  grows = c.in-Ok.ensures.grows;
  limits = ap (λ (h : Heap). h.limits) c.in-Ok.ensures.left.1 ∙ double_same c.args.linked.now c.args.s.now.arena c.args.op c.args.x c.args.y;
  frames = refl;
  started = refl;
  given = refl;
}

pub returns-in-Err-clause-stays : goal.returns-in-Err-clause-stays
returns-in-Err-clause-stays g c = record {
  over = c.in-Err.ensures.over;
  grows = c.in-Err.ensures.grows;
  limits = ap (λ (h : Heap). h.limits) c.in-Err.ensures.left.1 ∙ double_same c.args.linked.now c.args.s.now.arena c.args.op c.args.x c.args.y;
  frames = refl;
  started = refl;
  given = refl;
}
