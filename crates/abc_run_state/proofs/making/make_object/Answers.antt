use Rattle.std.proofs.Common.{refl, ap}
use Rattle.abc_heap_store.specs.Heap.{Heap}
use Rattle.abc_run_state.specs.Outer.{setting_in, world}
use Rattle.abc_run_state.proofs.Made.{object_full, object_grows, object_made, object_there, same_grows}
use Rattle.abc_run_state.proofs.making.make_object.Goals as goal

pub returns-in-Ok-clause-part : goal.returns-in-Ok-clause-part
returns-in-Ok-clause-part c = λ out. object_made (setting_in c.args.linked.now out) (world c.args.s.now out) c.args.layout.0 c.args.delegate c.args.what c.new_object.new.self c.in-Ok.made c.in-Ok.ensures.made

pub returns-in-Ok-clause-stays : goal.returns-in-Ok-clause-stays
returns-in-Ok-clause-stays c = record {
  over = c.in-Ok.ensures.over;
  grows = object_grows _ _ _ _ _ _ _ c.in-Ok.ensures.made;
  limits = ap (λ (h : Heap). h.limits) c.in-Ok.ensures.made.heap;
  frames = refl;
  started = refl;
  given = refl;
}

pub returns-in-Ok-clause-there : goal.returns-in-Ok-clause-there
returns-in-Ok-clause-there c = object_there _ _ _ _ _ _ _ c.in-Ok.ensures.made

pub returns-in-Err-clause-part : goal.returns-in-Err-clause-part
returns-in-Err-clause-part c = λ out. object_full (setting_in c.args.linked.now out) (world c.args.s.now out) c.args.layout.0 c.args.delegate c.args.what c.new_object.new.self c.in-Err.full c.in-Err.ensures.made

pub returns-in-Err-clause-stays : goal.returns-in-Err-clause-stays
returns-in-Err-clause-stays c = record {
  over = c.in-Err.ensures.over;
  grows = same_grows c.args.s.now.arena c.new_object.new.self c.in-Err.ensures.made.0;
  limits = ap (λ (h : Heap). h.limits) c.in-Err.ensures.made.0;
  frames = refl;
  started = refl;
  given = refl;
}
