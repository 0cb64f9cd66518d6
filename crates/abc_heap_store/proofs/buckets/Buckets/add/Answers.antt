use Rattle.std.proofs.Common.{ℕ, ◌+◌, List, ◌++◌, ◌∷◌, [], Some, get_or, set, sym, subst}
use Rattle.abc_heap_values.specs.Filling.{Filling}
use Rattle.abc_heap_store.specs.Buckets.{AreBuckets}
use Rattle.abc_heap_store.proofs.Lasts.{one_added, reached}
use Rattle.abc_heap_store.proofs.buckets.Buckets.add.Goals as goal

pub returns-clause-added : goal.returns-clause-added
returns-clause-added c = λ ks e a.
    let further = reached ks c.args.self.now.lasts.items c.args.self.now.befores.items c.reach.new.self.befores.items a c.reach.ensures.same in
    let more : AreBuckets (ks ++ Some c.args.bucket ∷ []) (set c.args.self.now.lasts.items c.args.bucket (c.args.place + 1)) (set c.reach.new.self.befores.items c.args.place (get_or c.args.self.now.lasts.items c.args.bucket 0)) =
    one_added ks c.args.self.now.lasts.items c.reach.new.self.befores.items c.args.bucket c.args.place further e c.reach.ensures.reached c.requires.bucket in
    subst (λ (f : Filling ℕ). AreBuckets (ks ++ Some c.args.bucket ∷ []) (set c.reach.new.self.lasts.items c.args.bucket (c.args.place + 1)) f.items) (sym c.set.ensures)
    (subst (λ (ls : List ℕ). AreBuckets (ks ++ Some c.args.bucket ∷ []) (set ls c.args.bucket (c.args.place + 1)) (set c.reach.new.self.befores.items c.args.place c.last-last.result)) (sym c.reach.ensures.lasts)
    (subst (λ v. AreBuckets (ks ++ Some c.args.bucket ∷ []) (set c.args.self.now.lasts.items c.args.bucket (c.args.place + 1)) (set c.reach.new.self.befores.items c.args.place v)) (sym c.last-last.ensures) more))
