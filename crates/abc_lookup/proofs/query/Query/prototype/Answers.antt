use Rattle.std.proofs.Common.{◌∙◌, ℕ, Some, sym, ap}
use Rattle.std.specs.Prelude.{slice_get}
use Rattle.abc_heap_values.specs.declared.values.Value.TheVariants as values
use Rattle.abc_heap_store.specs.Heap.{slots_of_object}
use Rattle.abc_lookup.proofs.Stands.{slot_exists}
use Rattle.abc_lookup.proofs.query.Query.prototype.Goals as goal

pub returns-in-Obj-clause-inside : goal.returns-in-Obj-clause-inside
returns-in-Obj-clause-inside c =
    let q = c.args.self.now in
    slot_exists q.l.now q.a.now c.args.class (values.Obj c.in-Obj.prototype) c.requires
    (ap (λ (n : ℕ). slice_get (slots_of_object q.a.now.objects n) 0) (sym c.host_class.ensures.number) ∙ c.slot.ensures ∙ ap (λ v. Some v) c.in-Obj.is)
