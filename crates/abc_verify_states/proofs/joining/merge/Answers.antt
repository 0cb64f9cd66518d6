use Rattle.abc_verify_states.proofs.Pairs.{clash, shape_back}
use Rattle.abc_verify_states.proofs.Threes.{joins}
use Rattle.abc_verify_states.proofs.joining.merge.Goals as goal

pub is_state_at_most-requires : goal.is_state_at_most-requires
is_state_at_most-requires g c = shape_back _ _ (c.have_one_shape.ensures.0 c.if-not-have_one_shape.false)

pub join_states-requires : goal.join_states-requires
join_states-requires g c = c.have_one_shape.ensures.0 c.if-not-have_one_shape.false

pub returns-then-not-have_one_shape : goal.returns-then-not-have_one_shape
returns-then-not-have_one_shape g c = λ s. clash c.have_one_shape.result (c.have_one_shape.ensures.1 s) c.if-not-have_one_shape.true

pub returns-then-is_state_at_most : goal.returns-then-is_state_at_most
returns-then-is_state_at_most g c = c.is_state_at_most.ensures.0 c.if-is_state_at_most.true

pub returns : goal.returns
returns g c =
    joins (g.T.Tree.file c.args.tree.now) c.linked_law.ensures c.args.old.now c.args.next.now _ (c.have_one_shape.ensures.0 c.if-not-have_one_shape.false)
    (λ le. clash c.is_state_at_most.result (c.is_state_at_most.ensures.1 le) c.if-is_state_at_most.false)
    c.in_ok-join_states.ensures
