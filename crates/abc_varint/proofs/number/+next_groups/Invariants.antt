use Rattle.abc_varint.proofs.number.+next_groups.Given as goal

abbrev pub decreases-next_groups : goal.decreases-next_groups
decreases-next_groups g l = l.more
