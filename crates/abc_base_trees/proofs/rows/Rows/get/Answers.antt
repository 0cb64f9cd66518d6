use Rattle.std.proofs.Common.{ap, get_or, ◌∙◌}
use Rattle.abc_base_trees.specs.Rows.{begin_of}
use Rattle.abc_base_trees.proofs.InRows.{read_end, read_order, read_row, read_within}
use Rattle.abc_base_trees.proofs.rows.Rows.get.Goals as goal

pub begin-begin-requires : goal.begin-begin-requires
begin-begin-requires g c = read_within c.self.inside.ends.items c.self.inside.items.items c.deref.result.now c.args.self.now c.args.i c.self.view_is c.deref.ensures.value c.requires

pub end-end-requires : goal.end-end-requires
end-end-requires g c = read_within c.self.inside.ends.items c.self.inside.items.items c.deref-2.result.now c.args.self.now c.args.i c.self.view_is c.deref-2.ensures.value c.requires

pub part-requires-clause-order : goal.part-requires-clause-order
part-requires-clause-order g c =
    read_order c.self.inside.ends.items c.self.inside.items.items c.args.self.now c.args.i c.begin-begin.result c.end-end.result c.self.invariant c.self.view_is c.requires
    (c.begin-begin.ensures ∙ ap (begin_of c.args.i 0) c.deref.ensures.value) (c.end-end.ensures ∙ ap (λ es. get_or es c.args.i 0) c.deref-2.ensures.value)

pub part-requires-clause-within : goal.part-requires-clause-within
part-requires-clause-within g c =
    read_end c.self.inside.ends.items c.self.inside.items.items c.deref-3.result.now c.args.self.now c.args.i c.end-end.result c.self.invariant c.self.view_is c.requires
    (c.end-end.ensures ∙ ap (λ es. get_or es c.args.i 0) c.deref-2.ensures.value) c.deref-3.ensures.value

pub returns : goal.returns
returns g c =
    c.part.ensures
    ∙ read_row c.self.inside.ends.items c.self.inside.items.items c.deref-3.result.now c.args.self.now c.args.i c.begin-begin.result c.end-end.result c.self.view_is c.requires
    (c.begin-begin.ensures ∙ ap (begin_of c.args.i 0) c.deref.ensures.value) (c.end-end.ensures ∙ ap (λ es. get_or es c.args.i 0) c.deref-2.ensures.value) c.deref-3.ensures.value
