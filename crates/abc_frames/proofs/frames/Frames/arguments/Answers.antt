use Rattle.std.proofs.Common.{◌-◌, ◌∙◌, arith, length}
use Rattle.std.proofs.lemmas.List.{take_rest}
use Rattle.abc_frames.proofs.FrameCalls.{operands_from, arguments_in}
use Rattle.abc_frames.proofs.frames.Frames.arguments.Goals as goal

pub overflow_sub-from : goal.overflow_sub-from
overflow_sub-from c =
    let i = c.self.inside in
    let l = c.self.invariant in
    let r = rw (← c.self.view_is) at c.requires in
    omega (arith, operands_from i.newest i.below i.values i.scopes c.args.count l r, c.len.ensures.len)

pub returns : goal.returns
returns c =
    let i = c.self.inside in
    let l = c.self.invariant in
    let r = rw (← c.self.view_is) at c.requires in
    rw (c.as_slice.ensures, c.len.ensures.len, ← c.self.view_is) (take_rest i.values.items (length i.values.items - c.args.count) ∙ arguments_in i.newest i.below i.values i.scopes c.args.count l r)
