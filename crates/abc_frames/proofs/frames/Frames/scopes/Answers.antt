use Rattle.std.proofs.Common.{◌∙◌}
use Rattle.std.proofs.lemmas.List.{take_rest}
use Rattle.abc_frames.proofs.FrameCalls.{scopes_are}
use Rattle.abc_frames.proofs.frames.Frames.scopes.Goals as goal

pub returns : goal.returns
returns c =
    let i = c.self.inside in
    let l = c.self.invariant in
    let r = rw (← c.self.view_is) at c.requires in
    rw (c.as_slice.ensures, ← c.self.view_is) (take_rest i.scopes.items i.newest.marks.scopes_at ∙ scopes_are i.newest i.below i.values i.scopes r)
