use Rattle.std.proofs.Common.{arith, sym, subst}
use Rattle.std.proofs.lemmas.List.{length-map}
use Rattle.abc_heap_values.specs.Links.{link_of, links, IsChain}
use Rattle.abc_heap_values.specs.declared.cell.Lane.TheVariants.{Elements}
use Rattle.abc_heap_store.proofs.Flat.{elements_past, element_count, chain_reached, chain_at}
use Rattle.abc_heap_store.proofs.heads.element_place.Goals as goal

pub head_at-requires : goal.head_at-requires
head_at-requires c = elements_past c.args.cells.now.items 0 c.args.o c.args.k c.args.heads.now.items c.requires.element

pub place_of-requires-clause-above : goal.place_of-requires-clause-above
place_of-requires-clause-above c = chain_reached _ c.args.o _ Elements c.elements_kept-elements.result (subst (IsChain (links c.args.cells.now.items) c.args.o Elements) (sym c.elements_kept-elements.ensures) (c.requires.heads.heads _ _ c.head_at.ensures).elements) (element_count c.args.cells.now.items c.args.heads.now.items c.args.o c.args.k (elements_past c.args.cells.now.items 0 c.args.o c.args.k c.args.heads.now.items c.requires.element) c.requires.element)

pub is_element-requires : goal.is_element-requires
is_element-requires c =
    let cells = c.args.cells.now.items in
    let chain = subst (IsChain (links cells) c.args.o Elements) (sym c.elements_kept-elements.ensures) (c.requires.heads.heads _ _ c.head_at.ensures).elements in
    let some = element_count cells c.args.heads.now.items c.args.o c.args.k (elements_past cells 0 c.args.o c.args.k c.args.heads.now.items c.requires.element) c.requires.element in
    let counted = chain.counted in
    let last = (chain.last (omega (arith, counted, some))).inside in
    omega (arith, last, length-map cells link_of, c.near_place-near.ensures)

pub returns-then-is_element : goal.returns-then-is_element
returns-then-is_element c = c.is_element.ensures c.if-is_element.true

pub returns-else-is_element : goal.returns-else-is_element
returns-else-is_element c = chain_at _ _ _ _ Elements c.elements_kept-elements.result (subst (IsChain (links c.args.cells.now.items) c.args.o Elements) (sym c.elements_kept-elements.ensures) (c.requires.heads.heads _ _ c.head_at.ensures).elements) (element_count c.args.cells.now.items c.args.heads.now.items c.args.o c.args.k (elements_past c.args.cells.now.items 0 c.args.o c.args.k c.args.heads.now.items c.requires.element) c.requires.element) c.place_of.ensures
