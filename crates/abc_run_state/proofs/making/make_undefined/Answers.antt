use Rattle.std.proofs.Common.{refl, ap, subst, sym}
use Rattle.std.proofs.lemmas.List.{length-replicate}
use Rattle.std.specs.Prelude.{replicate}
use Rattle.abc_heap_values.specs.declared.values.Value.TheVariants.{Undefined}
use Rattle.abc_heap_store.specs.Heap.{Heap, IsFullOf}
use Rattle.abc_run_state.specs.Outer.{setting_in, world}
use Rattle.abc_run_state.proofs.Made.{array_full, array_grows, array_made, array_there, same_grows}
use Rattle.abc_run_state.proofs.making.make_undefined.Goals as goal

pub returns-in-Ok-clause-part : goal.returns-in-Ok-clause-part
returns-in-Ok-clause-part c = λ out. array_made (setting_in c.args.linked.now out) (world c.args.s.now out) (replicate c.args.count Undefined) c.new_undefined.new.self c.in-Ok.made c.in-Ok.ensures.made

pub returns-in-Ok-clause-stays : goal.returns-in-Ok-clause-stays
returns-in-Ok-clause-stays c = record {
  over = c.in-Ok.ensures.over;
  grows = array_grows _ _ _ _ _ _ c.in-Ok.ensures.made;
  limits = ap (λ (h : Heap). h.limits) c.in-Ok.ensures.made.heap;
  frames = refl;
  started = refl;
  given = refl;
}

pub returns-in-Ok-clause-there : goal.returns-in-Ok-clause-there
returns-in-Ok-clause-there c = array_there _ _ _ _ _ _ c.in-Ok.ensures.made

pub returns-in-Err-clause-part : goal.returns-in-Err-clause-part
returns-in-Err-clause-part c = λ out. array_full (setting_in c.args.linked.now out) (world c.args.s.now out) (replicate c.args.count Undefined) c.new_undefined.new.self c.in-Err.full (subst (λ k. IsFullOf c.args.s.now.arena c.new_undefined.new.self 1 k c.in-Err.full) (sym (length-replicate c.args.count Undefined)) c.in-Err.ensures.made)

pub returns-in-Err-clause-stays : goal.returns-in-Err-clause-stays
returns-in-Err-clause-stays c = record {
  over = c.in-Err.ensures.over;
  grows = same_grows c.args.s.now.arena c.new_undefined.new.self c.in-Err.ensures.made.0;
  limits = ap (λ (h : Heap). h.limits) c.in-Err.ensures.made.0;
  frames = refl;
  started = refl;
  given = refl;
}
