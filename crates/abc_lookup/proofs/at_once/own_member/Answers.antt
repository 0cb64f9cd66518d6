use Rattle.abc_lookup.proofs.at_once.own_member.Goals as goal

pub numbered_member-requires-clause-number : goal.numbered_member-requires-clause-number
numbered_member-requires-clause-number c = c.in-Some.ensures c.args.a.now
