use Rattle.std.proofs.Common.{◌∙◌, List, [], ◌∷◌, refl, ap}
use Rattle.abc_heap_values.specs.declared.values.ObjId.{ObjId}
use Rattle.abc_heap_values.specs.declared.values.Value.{Value}
use Rattle.abc_heap_values.specs.declared.values.Value.TheVariants.{Obj}
use Rattle.abc_heap_store.specs.Heap.{Heap}
use Rattle.abc_run_state.proofs.Made.{array_full, array_grows, array_made, same_grows}
use Rattle.abc_run_state.specs.Outer.{setting_in, world}
use Rattle.abc_meaning.specs.World.{Outcome, and_then, pure}
use Rattle.abc_run_finish.proofs.starting.array_with.Goals as goal

-- the array comes in a list
abbrev in_list : Outcome ObjId → Outcome (List Value)
in_list o = and_then o (λ a. pure (Obj a ∷ []))

pub returns-in-Ok-clause-part : goal.returns-in-Ok-clause-part
returns-in-Ok-clause-part c = λ out. ap in_list (array_made (setting_in c.args.linked.now out) (world c.args.s.now out) c.args.args.now c.new_array.new.self c.in-Ok.made c.in-Ok.ensures.made)

pub returns-in-Ok-clause-stays : goal.returns-in-Ok-clause-stays
returns-in-Ok-clause-stays c = record {
  over = c.in-Ok.ensures.over;
  grows = array_grows _ _ _ _ _ _ c.in-Ok.ensures.made;
  limits = ap (λ (h : Heap). h.limits) c.in-Ok.ensures.made.heap;
  frames = refl;
  started = refl;
  given = refl;
}

pub returns-in-Err-clause-part : goal.returns-in-Err-clause-part
returns-in-Err-clause-part c = λ out. ap in_list (array_full (setting_in c.args.linked.now out) (world c.args.s.now out) c.args.args.now c.new_array.new.self c.in-Err.full c.in-Err.ensures.made)

pub returns-in-Err-clause-stays : goal.returns-in-Err-clause-stays
returns-in-Err-clause-stays c = record {
  over = c.in-Err.ensures.over;
  grows = same_grows c.args.s.now.arena c.new_array.new.self c.in-Err.ensures.made.0;
  limits = ap (λ (h : Heap). h.limits) c.in-Err.ensures.made.0;
  frames = refl;
  started = refl;
  given = refl;
}
