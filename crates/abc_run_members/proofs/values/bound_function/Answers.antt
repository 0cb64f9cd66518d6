use Rattle.std.proofs.Common.{rules}
use Rattle.abc_run_calls.specs.Entering.{place_in_meaning}
use Rattle.abc_run_state.specs.Outer.{setting_in, world}
use Rattle.abc_run_members.proofs.Owners.{closure_there}
use Rattle.abc_run_members.proofs.Places.{bound_is, bound_open}
use Rattle.abc_run_members.proofs.values.bound_function.Goals as goal

pub place_of_owner-at-requires : goal.place_of_owner-at-requires
place_of_owner-at-requires g c =
    (search rules, (bound_open (setting_in c.args.linked.now g.out) c.args.owner c.args.method c.args.o (world c.args.s.now g.out) c.requires.1.1.1))

pub make_of_host-requires-clause-names : goal.make_of_host-requires-clause-names
make_of_host-requires-clause-names g c = closure_there c.args.linked.now (world c.args.s.now g.out) c.args.owner c.args.method (place_in_meaning c.place_of_owner-at.result) c.args.o c.requires.0 c.requires.1.0 c.requires.1.1.0 c.place_of_owner-at.ensures

pub returns-in-Ok-clause-part : goal.returns-in-Ok-clause-part
returns-in-Ok-clause-part g c = bound_is (setting_in c.args.linked.now g.out) c.args.owner c.args.method (place_in_meaning c.place_of_owner-at.result) c.args.o (world c.args.s.now g.out) _ c.place_of_owner-at.ensures (c.in-Ok.ensures.part g.out)

pub returns-in-Err-clause-part : goal.returns-in-Err-clause-part
returns-in-Err-clause-part g c = bound_is (setting_in c.args.linked.now g.out) c.args.owner c.args.method (place_in_meaning c.place_of_owner-at.result) c.args.o (world c.args.s.now g.out) _ c.place_of_owner-at.ensures (c.in-Err.ensures.part g.out)
