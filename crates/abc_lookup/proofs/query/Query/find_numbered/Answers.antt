use Rattle.std.proofs.Common.{◌∙◌, sym, ap, arith}
use Rattle.abc_heap_store.specs.Heap.{elements_of}
use Rattle.abc_objects.specs.ElementNames.{element_number}
use Rattle.abc_lookup.proofs.Things.{no_number, number_hit, number_past}
use Rattle.abc_lookup.proofs.query.Query.find_numbered.Goals as goal

pub returns-then-index-length : goal.returns-then-index-length
returns-then-index-length c =
    let q = c.args.self.now in
    sym (number_hit q.l.now q.a.now q.name q.skip c.args.o.0 c.in-Some.index (elements_of q.a.now.objects c.args.o.0) (ap element_number (sym q.texted) ∙ sym c.in-Some.ensures) (omega (arith, c.if-index-length.true, c.length.ensures)))

pub returns-else-index-length : goal.returns-else-index-length
returns-else-index-length c =
    let q = c.args.self.now in
    sym (number_past q.l.now q.a.now q.name q.skip c.args.o.0 c.in-Some.index (elements_of q.a.now.objects c.args.o.0) (ap element_number (sym q.texted) ∙ sym c.in-Some.ensures) (omega (arith, c.if-index-length.false, c.length.ensures)))

pub returns-in-None : goal.returns-in-None
returns-in-None c =
    let q = c.args.self.now in
    sym (no_number q.l.now q.a.now q.name q.skip c.args.o.0 (elements_of q.a.now.objects c.args.o.0) (ap element_number (sym q.texted) ∙ sym c.in-None.ensures))
