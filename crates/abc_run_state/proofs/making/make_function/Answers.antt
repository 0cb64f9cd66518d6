use Rattle.std.proofs.Common.{refl, ap}
use Rattle.abc_frames.specs.Frame.{newest}
use Rattle.abc_heap_store.specs.Heap.{Heap}
use Rattle.abc_run_state.specs.Outer.{setting_in, world}
use Rattle.abc_run_state.proofs.Made.{function_full_by, function_grows, function_made_by, function_there, same_grows}
use Rattle.abc_run_state.proofs.making.make_function.Goals as goal

pub returns-in-Ok-clause-part : goal.returns-in-Ok-clause-part
returns-in-Ok-clause-part c = λ out. function_made_by (setting_in c.args.linked.now out) (world c.args.s.now out) c.args.method c.home-home.result (newest c.args.s.now.frames).home c.prototype_for-delegate.result c.saved-saved.result (newest c.args.s.now.frames).saved c.scopes.result.now (newest c.args.s.now.frames).scopes c.new_function.new.self c.in-Ok.made c.prototype_for-delegate.ensures.is c.home-home.ensures c.saved-saved.ensures c.scopes.ensures c.in-Ok.ensures.made

pub returns-in-Ok-clause-stays : goal.returns-in-Ok-clause-stays
returns-in-Ok-clause-stays c = record {
  over = c.in-Ok.ensures.over;
  grows = function_grows _ _ _ _ _ _ _ _ _ _ c.in-Ok.ensures.made;
  limits = ap (λ (h : Heap). h.limits) c.in-Ok.ensures.made.heap;
  frames = refl;
  started = refl;
  given = refl;
}

pub returns-in-Ok-clause-there : goal.returns-in-Ok-clause-there
returns-in-Ok-clause-there c = function_there _ _ _ _ _ _ _ _ _ _ c.in-Ok.ensures.made

pub returns-in-Err-clause-part : goal.returns-in-Err-clause-part
returns-in-Err-clause-part c = λ out. function_full_by (setting_in c.args.linked.now out) (world c.args.s.now out) c.args.method c.home-home.result (newest c.args.s.now.frames).home c.saved-saved.result (newest c.args.s.now.frames).saved c.scopes.result.now (newest c.args.s.now.frames).scopes c.new_function.new.self c.in-Err.full c.home-home.ensures c.saved-saved.ensures c.scopes.ensures c.in-Err.ensures.made

pub returns-in-Err-clause-stays : goal.returns-in-Err-clause-stays
returns-in-Err-clause-stays c = record {
  over = c.in-Err.ensures.over;
  grows = same_grows c.args.s.now.arena c.new_function.new.self c.in-Err.ensures.made.0;
  limits = ap (λ (h : Heap). h.limits) c.in-Err.ensures.made.0;
  frames = refl;
  started = refl;
  given = refl;
}
