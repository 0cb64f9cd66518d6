use Rattle.std.proofs.Common.{◌∙◌, ap, refl, arith, length, ◌∷◌, []}
use Rattle.std.proofs.lemmas.List.{length-append}
use Rattle.abc_heap_values.specs.Filling.{Filling}
use Rattle.abc_heap_store.specs.declared.records.ScopeNode.{ScopeNode}
use Rattle.abc_heap_store.proofs.Calls.{sizes_are}
use Rattle.abc_heap_store.proofs.store.Store.keep_above.Goals as goal

pub invariant_of-self : goal.invariant_of-self
invariant_of-self c =
    let s = sizes_are _ c.args.self.now c.self.inside.cells.items c.self.inside.heads.items c.self.view_is refl c.self.invariant.heads in
    let l = c.self.invariant.limits in
    record {
      heads = c.self.invariant.heads;
      limits = record {
        objects = l.objects;
        cells = l.cells;
        scopes = ap (λ (f : Filling ScopeNode). f.limit) c.push.ensures ∙ l.scopes;
        text = l.text;
        within = omega (arith, s, c.requires, ap (λ (f : Filling ScopeNode). length f.items) c.push.ensures, length-append c.self.inside.scopes.items ((record { entry = c.args.entry; parent = c.args.below }) ∷ []));
        small = l.small;
      };
      index = c.self.invariant.index;
    }
