use Rattle.std.proofs.Common.{sym, arith}
use Rattle.abc_frames.proofs.FrameCalls.{used_in, depth_is, room_ok, room_frames, room_stack}
use Rattle.abc_frames.specs.Laid.{frames_in}
use Rattle.abc_frames.proofs.frames.Frames.room.Goals as goal

pub returns-then-len-limit-clause-exact : goal.returns-then-len-limit-clause-exact
returns-then-len-limit-clause-exact c =
    let i = c.self.inside in
    let l = c.self.invariant in
    let u = used_in i.newest i.below i.values i.scopes l in
    let d = depth_is i.newest i.below i.values i.scopes in
    let v = frames_in i.newest i.below i.values i.scopes in
    rw (← c.self.view_is) (sym (room_frames v c.args.size (omega (arith, d, c.len.ensures.len))))

pub returns-then-from-need-clause-exact : goal.returns-then-from-need-clause-exact
returns-then-from-need-clause-exact c =
    let i = c.self.inside in
    let l = c.self.invariant in
    let u = used_in i.newest i.below i.values i.scopes l in
    let d = depth_is i.newest i.below i.values i.scopes in
    let v = frames_in i.newest i.below i.values i.scopes in
    rw (← c.self.view_is) (sym (room_stack v c.args.size (omega (arith, d, c.len.ensures.len)) (omega (arith, u))))

pub returns-clause-exact : goal.returns-clause-exact
returns-clause-exact c =
    let i = c.self.inside in
    let l = c.self.invariant in
    let u = used_in i.newest i.below i.values i.scopes l in
    let d = depth_is i.newest i.below i.values i.scopes in
    let v = frames_in i.newest i.below i.values i.scopes in
    rw (← c.self.view_is) (sym (room_ok v c.args.size (omega (arith, d, c.len.ensures.len)) (omega (arith, u))))

pub returns-clause-room : goal.returns-clause-room
returns-clause-room c =
    let i = c.self.inside in
    let l = c.self.invariant in
    let u = used_in i.newest i.below i.values i.scopes l in
    let d = depth_is i.newest i.below i.values i.scopes in
    let v = frames_in i.newest i.below i.values i.scopes in
    rw (← c.self.view_is) (omega (arith, d, c.len.ensures.len), omega (arith, u))
