use Rattle.std.proofs.Common.{◌∙◌, ℕ, ap}
use Rattle.abc_heap_values.specs.Filling.{Filling}
use Rattle.abc_heap_store.proofs.Indexed.{index_text}
use Rattle.abc_heap_store.proofs.store.Store.text_join.Goals as goal

pub invariant_of-self : goal.invariant_of-self
invariant_of-self c =
    let l = c.self.invariant.limits in
    record {
      heads = c.self.invariant.heads;
      limits = record {
        objects = l.objects;
        cells = l.cells;
        scopes = l.scopes;
        text = ap (λ (f : Filling ℕ). f.limit) c.join.ensures ∙ l.text;
        within = l.within;
        small = l.small;
      };
      index = index_text c.self.inside.fixed c.self.inside.made.items _ _ c.self.inside.strings c.self.inside.cells c.self.inside.buckets c.self.invariant.index (ap (λ (f : Filling ℕ). f.items) c.join.ensures);
    }
