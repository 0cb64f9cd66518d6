use Rattle.std.proofs.Common.{◌∙◌, ap, refl, arith, length}
use Rattle.std.proofs.lemmas.List.{length-append}
use Rattle.abc_heap_values.specs.Filling.{Filling}
use Rattle.abc_heap_store.specs.declared.records.ScopeNode.{ScopeNode}
use Rattle.abc_heap_store.specs.Scopes.{nodes}
use Rattle.abc_heap_store.proofs.Calls.{sizes_are}
use Rattle.abc_heap_store.proofs.Makes.{nodes_length}
use Rattle.abc_heap_store.proofs.store.Store.keep_scopes.Goals as goal

pub invariant_of-self : goal.invariant_of-self
invariant_of-self c =
    let s = sizes_are _ c.args.self.now c.self.inside.cells.items c.self.inside.heads.items c.self.view_is refl c.self.invariant.heads in
    let l = c.self.invariant.limits in
    let n = length c.self.inside.scopes.items in
    record {
      heads = c.self.invariant.heads;
      limits = record {
        objects = l.objects;
        cells = l.cells;
        scopes = ap (λ (f : Filling ScopeNode). f.limit) c.capture.ensures.scopes ∙ l.scopes;
        text = l.text;
        within = omega (arith, s, c.requires, ap (λ (f : Filling ScopeNode). length f.items) c.capture.ensures.scopes, length-append c.self.inside.scopes.items (nodes n c.args.saved c.args.scopes.now), nodes_length n c.args.saved c.args.scopes.now);
        small = l.small;
      };
      index = c.self.invariant.index;
    }
