use Rattle.abc_frames.proofs.FrameCalls.{same_depth, pop_some, pop_laid, pop_is}
use Rattle.abc_frames.proofs.frames.Frames.pop.Goals as goal

pub pop-requires : goal.pop-requires
pop-requires c =
    let i = c.self.inside in
    let l = c.self.invariant in
    let r = rw (← c.self.view_is) at c.requires in
    pop_some i.newest i.below i.values i.scopes l r

pub invariant_of-self : goal.invariant_of-self
invariant_of-self c =
    let i = c.self.inside in
    let l = c.self.invariant in
    let r = rw (← c.self.view_is) at c.requires in
    pop_laid i.newest i.below i.values c.pop.new.self i.scopes c.pop.result c.pop.ensures l r

pub returns-clause-popped : goal.returns-clause-popped
returns-clause-popped c =
    let i = c.self.inside in
    let l = c.self.invariant in
    let r = rw (← c.self.view_is) at c.requires in
    rw (← c.self.view_is) (pop_is i.newest i.below i.values c.pop.new.self i.scopes c.pop.result c.pop.ensures l r)

pub returns-clause-depth : goal.returns-clause-depth
returns-clause-depth c =
    let i = c.self.inside in
    rw (← c.self.view_is) (same_depth i.newest i.below i.values c.pop.new.self i.scopes i.scopes)
