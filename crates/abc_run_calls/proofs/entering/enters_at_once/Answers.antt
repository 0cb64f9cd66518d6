use Rattle.std.proofs.Common.{refl}
use Rattle.abc_frames.specs.Frame.{newest}
use Rattle.abc_run_state.specs.Outer.{setting_in, world}
use Rattle.abc_run_calls.specs.Entering.{place_in_meaning}
use Rattle.abc_run_calls.proofs.Stayed.{method_there}
use Rattle.abc_run_calls.proofs.entering.enters_at_once.Goals as goal

pub method_at-signature-requires : goal.method_at-signature-requires
method_at-signature-requires g c =
    let s = c.args.s.now in
    method_there (setting_in c.args.linked.now g.out) c.args.method c.args.this (place_in_meaning c.args.at) c.args.count c.args.taken c.args.wait (newest s.frames) (world s g.out) c.requires.1.1

pub is_in_place-requires : goal.is_in_place-requires
is_in_place-requires g c = c.requires.1.0

pub enters_in_place-requires : goal.enters_in_place-requires
enters_in_place-requires g c = (c.requires.0, (c.requires.1.0, (c.method_at-signature.ensures, (c.is_in_place.ensures c.if-not-is_in_place.false, c.requires.1.1))))
