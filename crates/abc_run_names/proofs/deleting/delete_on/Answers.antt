use Rattle.std.proofs.Common.{◌≡◌, false, refl, subst, sym, true}
use Rattle.abc_heap_values.specs.declared.values.Value.TheVariants.{Obj}
use Rattle.abc_objects.proofs.Grown.{grows_self}
use Rattle.abc_objects.specs.Laws.{IsFoundPresent}
use Rattle.abc_objects.specs.declared.found.Found.{Found}
use Rattle.abc_objects.specs.declared.found.Want.TheVariants.{Read}
use Rattle.abc_run_state.specs.Outer.{setting_in, world}
use Rattle.abc_run_names.proofs.Removed.{decided, sealed}
use Rattle.abc_run_names.proofs.deleting.delete_on.Goals as goal

pub delete_found-requires-clause-found : goal.delete_found-requires-clause-found
delete_found-requires-clause-found c =
    let l = c.args.linked.now in
    let h = c.args.s.now.arena in
    subst (λ (f : Found). IsFoundPresent h f) (sym c.find_on-found.ensures) (c.found_is_there.ensures l h (Obj c.args.o) c.args.name.now Read)

pub returns-then-not-dynamic-clause-part : goal.returns-then-not-dynamic-clause-part
returns-then-not-dynamic-clause-part c = λ out.
    let not_so : c.is_dynamic_object-dynamic.result ≡ false = cc (c.if-not-dynamic.true, c.if-not-dynamic.true) in
    sealed (setting_in c.args.linked.now out) c.args.o c.args.name.now (world c.args.s.now out) c.is_dynamic_object-dynamic.result not_so (c.is_dynamic_object-dynamic.ensures out)

pub returns-then-not-dynamic-clause-stays : goal.returns-then-not-dynamic-clause-stays
returns-then-not-dynamic-clause-stays c = record { over = c.requires.over; grows = grows_self c.args.s.now.arena; limits = refl; frames = refl; started = refl; given = refl }

pub returns-clause-part : goal.returns-clause-part
returns-clause-part c = λ out.
    let so : c.is_dynamic_object-dynamic.result ≡ true = cc (c.if-not-dynamic.false, c.if-not-dynamic.false) in
    decided (setting_in c.args.linked.now out) c.args.o c.args.name.now (world c.args.s.now out) (world c.delete_found.new.s out) c.find_on-found.result c.is_dynamic_object-dynamic.result c.delete_found.result so (c.is_dynamic_object-dynamic.ensures out) c.find_on-found.ensures (c.delete_found.ensures.part out)
