use Rattle.abc_frames.proofs.FrameCalls.{same_depth, scope_some, pop_scope_laid, pop_scope_is}
use Rattle.abc_frames.proofs.frames.Frames.pop_scope.Goals as goal

pub pop-requires : goal.pop-requires
pop-requires c =
    let i = c.self.inside in
    let l = c.self.invariant in
    let r = rw (← c.self.view_is) at c.requires in
    scope_some i.newest i.below i.values i.scopes l r

pub invariant_of-self : goal.invariant_of-self
invariant_of-self c =
    let i = c.self.inside in
    let l = c.self.invariant in
    let r = rw (← c.self.view_is) at c.requires in
    pop_scope_laid i.newest i.below i.values i.scopes c.pop.new.self c.pop.result c.pop.ensures l r

pub returns-clause-popped : goal.returns-clause-popped
returns-clause-popped c =
    let i = c.self.inside in
    let l = c.self.invariant in
    let r = rw (← c.self.view_is) at c.requires in
    rw (← c.self.view_is) (pop_scope_is i.newest i.below i.values i.scopes c.pop.new.self c.pop.result c.pop.ensures l r)

pub returns-clause-depth : goal.returns-clause-depth
returns-clause-depth c =
    let i = c.self.inside in
    rw (← c.self.view_is) (same_depth i.newest i.below i.values i.values i.scopes c.pop.new.self)
