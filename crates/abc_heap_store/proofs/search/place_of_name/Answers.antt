use Rattle.std.proofs.Common.{sym, length, arith, ◌∙◌}
use Rattle.abc_heap_store.specs.Heap.{properties_of}
use Rattle.abc_heap_store.specs.View.{objects}
use Rattle.abc_heap_store.specs.Texts.{text_in}
use Rattle.abc_heap_store.proofs.Searches.{search_start, search_on, search_found, search_none, search_falls, search_within, search_empty}
use Rattle.abc_heap_store.proofs.search.place_of_name.Goals as goal

pub loop-left-init : goal.loop-left-init
loop-left-init c = search_start c.args.fixed.now c.args.made.now c.args.strings.now c.args.cells.now c.args.buckets.now c.args.o c.args.text.now c.of.result c.last-left.result c.requires.index c.of.ensures.bucket c.of.ensures.inside c.last-left.ensures

pub has_name-requires : goal.has_name-requires
has_name-requires c = record {
  held = λ n v e. c.requires.index.names _ c.cell_at-here.result n v c.cell_at-here.ensures e;
  text = c.requires.text;
}

pub returns-then-has_name : goal.returns-then-has_name
returns-then-has_name c = search_found c.args.cells.now.items c.args.heads.now.items (length c.args.buckets.now.lasts.items) c.args.o (text_in c.args.fixed.now c.args.made.now c.args.strings.now) c.args.text.now c.loop-left.left c.cell_at-here.result c.requires.heads c.requires.inside c.loop-left.invariant c.loop-left-test.true c.cell_at-here.ensures (sym c.has_name.ensures ∙ c.if-has_name.true)

pub before-left-requires : goal.before-left-requires
before-left-requires c = search_within c.args.fixed.now c.args.made.now c.args.strings.now c.args.cells.now c.args.buckets.now c.args.o c.args.text.now c.loop-left.left c.requires.index c.loop-left.invariant c.loop-left-test.true

pub loop-left-preserved : goal.loop-left-preserved
loop-left-preserved c = search_on c.args.fixed.now c.args.made.now c.args.strings.now c.args.cells.now c.args.buckets.now c.args.o c.args.text.now c.loop-left.left _ c.cell_at-here.result c.requires.index c.loop-left.invariant c.loop-left-test.true c.cell_at-here.ensures (sym c.has_name.ensures ∙ c.if-has_name.false) c.before-left.ensures

pub loop-left-smaller : goal.loop-left-smaller
loop-left-smaller c = search_falls c.args.fixed.now c.args.made.now c.args.strings.now c.args.cells.now c.args.buckets.now c.args.o c.args.text.now c.loop-left.left _ c.requires.index c.loop-left.invariant c.loop-left-test.true c.before-left.ensures

pub returns-then-count-eq0 : goal.returns-then-count-eq0
returns-then-count-eq0 c = search_empty (text_in c.args.fixed.now c.args.made.now c.args.strings.now) c.args.text.now (properties_of (objects c.args.cells.now.items 0 c.args.heads.now.items) c.args.o) (sym c.property_count-count.ensures ∙ c.if-count-eq0.true)

pub returns : goal.returns
returns c = search_none c.args.cells.now.items c.args.heads.now.items (length c.args.buckets.now.lasts.items) c.args.o (text_in c.args.fixed.now c.args.made.now c.args.strings.now) c.args.text.now c.loop-left.left c.requires.inside c.loop-left.invariant (omega arith)
