use Rattle.std.proofs.Common.{◌∙◌, refl, arith}
use Rattle.abc_heap_store.proofs.Calls.{sizes_are}
use Rattle.abc_heap_store.proofs.store.Store.add_element.Goals as goal

pub add_element-requires-clause-room : goal.add_element-requires-clause-room
add_element-requires-clause-room c =
    let s = sizes_are _ c.args.self.now c.self.inside.cells.items c.self.inside.heads.items c.self.view_is refl c.self.invariant.heads in
    omega (arith, s, c.requires.room, c.self.invariant.limits.cells)

pub invariant_of-self : goal.invariant_of-self
invariant_of-self c =
    let s = sizes_are _ c.args.self.now c.self.inside.cells.items c.self.inside.heads.items c.self.view_is refl c.self.invariant.heads in
    let l = c.self.invariant.limits in
    let sizes = c.add_element.ensures.sizes in
    record {
      heads = c.add_element.ensures.heads;
      limits = record {
        objects = sizes.heads_limit ∙ l.objects;
        cells = sizes.cells_limit ∙ l.cells;
        scopes = l.scopes;
        text = l.text;
        within = omega (arith, s, c.requires.room, sizes.cells);
        small = l.small;
      };
      index = c.add_element.ensures.index _ _ _ _ c.self.invariant.index;
    }
