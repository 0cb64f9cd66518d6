use Rattle.std.proofs.Common.{refl, ap}
use Rattle.abc_heap_store.specs.Heap.{Heap}
use Rattle.abc_heap_store.specs.Properties.{cells_to_put, place_of_property}
use Rattle.abc_heap_store.specs.Texts.{text_of}
use Rattle.abc_run_state.specs.Outer.{setting_in, world}
use Rattle.abc_run_state.proofs.Made.{property_full, property_grows, property_put, same_grows}
use Rattle.abc_run_state.proofs.making.put_property.Goals as goal

pub returns-in-Ok-clause-part : goal.returns-in-Ok-clause-part
returns-in-Ok-clause-part c = λ out. property_put (setting_in c.args.linked.now out) (world c.args.s.now out) c.args.o c.args.name c.args.v c.set_property.new.self c.in-Ok.ensures.put

pub returns-in-Ok-clause-stays : goal.returns-in-Ok-clause-stays
returns-in-Ok-clause-stays c = record {
  over = c.in-Ok.ensures.over;
  grows = property_grows c.args.s.now.arena c.set_property.new.self (cells_to_put (place_of_property c.args.linked.now.file.strings c.args.s.now.arena c.args.o.0 c.args.name)) (text_of c.args.linked.now.file.strings c.args.s.now.arena) (text_of c.args.linked.now.file.strings c.args.s.now.arena c.args.name) c.args.name c.args.v c.args.o.0 c.in-Ok.ensures.put;
  limits = ap (λ (h : Heap). h.limits) c.in-Ok.ensures.put.1;
  frames = refl;
  started = refl;
  given = refl;
}

pub returns-in-Err-clause-part : goal.returns-in-Err-clause-part
returns-in-Err-clause-part c = λ out. property_full (setting_in c.args.linked.now out) (world c.args.s.now out) c.args.o c.args.name c.args.v c.set_property.new.self c.in-Err.full c.in-Err.ensures.put

pub returns-in-Err-clause-stays : goal.returns-in-Err-clause-stays
returns-in-Err-clause-stays c = record {
  over = c.in-Err.ensures.over;
  grows = same_grows c.args.s.now.arena c.set_property.new.self c.in-Err.ensures.put.2;
  limits = ap (λ (h : Heap). h.limits) c.in-Err.ensures.put.2;
  frames = refl;
  started = refl;
  given = refl;
}
