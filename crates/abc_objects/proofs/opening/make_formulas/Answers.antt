use Rattle.std.proofs.Common.{sym, arith, ℕ}
use Rattle.abc_heap_store.specs.declared.records.What.TheVariants as whats
use Rattle.abc_objects.specs.Opening.{function_object}
use Rattle.abc_objects.proofs.Steps.{formula_room, no_objects, range_on}
use Rattle.abc_objects.proofs.opening.make_formulas.Goals as goal

pub loop-formula-init : goal.loop-formula-init
loop-formula-init c = (sym (no_objects c.args.store.now), omega arith)

pub make_function-requires-clause-room : goal.make_function-requires-clause-room
make_function-requires-clause-room c = formula_room c.args.l.now c.args.store.now _ c.loop-formula.formula c.args.formulas c.linked_law.ensures (omega arith) c.loop-formula.invariant.0 c.requires.room

pub loop-formula-preserved : goal.loop-formula-preserved
loop-formula-preserved c = (range_on (λ (n : ℕ). function_object c.args.l.now (whats.Formula n)) c.args.store.now _ _ c.loop-formula.formula c.loop-formula.invariant.0 c.make_function.ensures, omega arith)
