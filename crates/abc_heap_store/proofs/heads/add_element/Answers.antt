use Rattle.std.proofs.Common.{◌∙◌, ap, sym, refl, subst, length}
use Rattle.std.proofs.lemmas.List.{length-set}
use Rattle.abc_heap_values.specs.Filling.{Filling}
use Rattle.abc_heap_values.specs.Links.{links, IsChain}
use Rattle.abc_heap_values.specs.declared.cell.Lane.TheVariants.{Elements}
use Rattle.abc_heap_store.specs.declared.heads.Head.{Head}
use Rattle.abc_heap_store.specs.View.{objects, AreObjectHeads}
use Rattle.abc_heap_values.specs.declared.cell.Held.TheVariants.{Element}
use Rattle.abc_heap_store.proofs.Indexed.{added_keeps, element_full}
use Rattle.abc_heap_store.proofs.Flat.{array_head}
use Rattle.abc_heap_store.proofs.Growth.{element_grown}
use Rattle.abc_heap_store.proofs.heads.add_element.Goals as goal

pub append-elements-requires-clause-chain : goal.append-elements-requires-clause-chain
append-elements-requires-clause-chain c = subst (IsChain (links c.args.cells.now.items) c.args.o Elements) (sym c.elements_kept-before.ensures) (c.requires.heads.heads _ _ c.head_at-head.ensures).elements

pub returns : goal.returns
returns c =
    let g = element_grown c.args.cells.now.items c.append-elements.new.cells.items c.args.heads.now.items c.args.o c.head_at-head.result c.append-elements.result c.args.v c.requires.heads c.head_at-head.ensures c.requires.inside (array_head c.args.cells.now.items c.args.heads.now.items c.args.o c.head_at-head.result c.head_at-head.ensures c.requires.array) c.append-elements.ensures.added c.append-elements.ensures.linked c.append-elements.ensures.chain in
    let e = ap (λ (f : Filling Head). f.items) c.set.ensures in
    record {
      objects = ap (objects c.append-elements.new.cells.items 0) e ∙ g.0;
      heads = subst (AreObjectHeads (links c.append-elements.new.cells.items)) (sym e) g.1;
      index = added_keeps c.args.cells.now c.append-elements.new.cells c.args.o (Element c.args.v) c.append-elements.ensures.added c.append-elements.ensures.limit c.requires.room refl (element_full c.args.v);
      sizes = record {
        heads = ap length e ∙ length-set c.args.heads.now.items c.args.o _;
        heads_limit = ap (λ (f : Filling Head). f.limit) c.set.ensures;
        cells = g.2;
        cells_limit = c.append-elements.ensures.limit;
      };
    }
