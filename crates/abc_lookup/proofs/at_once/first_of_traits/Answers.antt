use Rattle.std.proofs.Common.{ℕ, arith, subst}
use Rattle.abc_lookup.proofs.Stands.{layout_in}
use Rattle.abc_lookup.specs.OwnTraits.{HasTable}
use Rattle.abc_link_names.specs.declared.part.Part.{Part}
use Rattle.abc_lookup.proofs.at_once.first_of_traits.Goals as goal

pub part_of-requires : goal.part_of-requires
part_of-requires c = let h = layout_in c.args.l.now c.args.a.now c.args.o.0 c.requires.over c.requires.holder in let e = c.layout-x.ensures in omega (arith, h, e)

pub own_member-requires : goal.own_member-requires
own_member-requires c = let h = layout_in c.args.l.now c.args.a.now c.args.o.0 c.requires.over c.requires.holder in let e = c.layout-x.ensures in omega (arith, h, e)

pub first_as-requires-clause-part : goal.first_as-requires-clause-part
first_as-requires-clause-part c = subst (λ (p : Part). HasTable p) c.part_of.ensures (c.has_table.ensures c.if-not-has_table.false)

pub first_as-requires-clause-layout : goal.first_as-requires-clause-layout
first_as-requires-clause-layout c = c.layout-x.ensures

pub first_as-requires-clause-member : goal.first_as-requires-clause-member
first_as-requires-clause-member c = c.in-Some.ensures
