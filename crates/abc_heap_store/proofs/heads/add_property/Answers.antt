use Rattle.std.proofs.Common.{◌∙◌, ap, sym, subst, length}
use Rattle.std.proofs.lemmas.List.{length-set}
use Rattle.abc_heap_values.specs.Filling.{Filling}
use Rattle.abc_heap_values.specs.Links.{links}
use Rattle.abc_heap_store.specs.declared.heads.Head.{Head}
use Rattle.abc_heap_store.specs.View.{objects, AreObjectHeads}
use Rattle.abc_heap_store.proofs.Growth.{property_grown}
use Rattle.abc_heap_store.proofs.heads.add_property.Goals as goal

pub append-properties-requires-clause-chain : goal.append-properties-requires-clause-chain
append-properties-requires-clause-chain c = (c.requires.heads.heads _ _ c.head_at-head.ensures).properties

pub returns : goal.returns
returns c =
    let g = property_grown c.args.cells.now.items c.append-properties.new.cells.items c.args.heads.now.items c.args.o c.head_at-head.result c.append-properties.result c.args.name c.args.v c.requires.heads c.head_at-head.ensures c.requires.inside c.append-properties.ensures.added c.append-properties.ensures.linked c.append-properties.ensures.chain in
    let e = ap (λ (f : Filling Head). f.items) c.set.ensures in
    record {
      objects = ap (objects c.append-properties.new.cells.items 0) e ∙ g.0;
      heads = subst (AreObjectHeads (links c.append-properties.new.cells.items)) (sym e) g.1;
      added = c.append-properties.ensures.added;
      sizes = record {
        heads = ap length e ∙ length-set c.args.heads.now.items c.args.o _;
        heads_limit = ap (λ (f : Filling Head). f.limit) c.set.ensures;
        cells = g.2;
        cells_limit = c.append-properties.ensures.limit;
      };
    }
