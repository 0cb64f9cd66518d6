use Rattle.abc_base_graphs.proofs.Searched.{begins, taken, ends, search_next, todo_in_range}
use Rattle.abc_base_graphs.proofs.search.reached.Goals as goal

pub loop-node-init : goal.loop-node-init
loop-node-init c = begins _ _ _ _ _ _ _ (c.in_ok-found.ensures.items_if_clones_equal (λ y e. e)) c.len.ensures c.new.ensures.items c.in_ok-follow.ensures

pub follow-requires-in-Some-clause-known : goal.follow-requires-in-Some-clause-known
follow-requires-in-Some-clause-known c =
    let i = c.loop-node.invariant in
    todo_in_range _ _ _ _ _ (taken _ _ _ _ _ _ _ i c.in-Some.ensures.taken c.in-Some.ensures.found)

pub loop-node-preserved : goal.loop-node-preserved
loop-node-preserved c =
    let i = c.loop-node.invariant in
    search_next _ _ _ _ _ _ _ (taken _ _ _ _ _ _ _ i c.in-Some.ensures.taken c.in-Some.ensures.found) c.in_ok-follow-2.ensures

pub returns : goal.returns
returns c = let i = c.loop-node.invariant in ends _ _ _ _ _ i c.in_default.ensures.taken.0 c.in_default.ensures.found
