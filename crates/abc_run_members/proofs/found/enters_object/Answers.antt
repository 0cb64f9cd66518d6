use Rattle.std.proofs.Common.{rules, subst}
use Rattle.abc_heap_values.specs.declared.values.Value.TheVariants.{Obj}
use Rattle.abc_run_calls.specs.Entering.{enters_owned_above}
use Rattle.abc_frames.specs.Frame.{newest}
use Rattle.abc_run_state.proofs.AtOnce.{done_as}
use Rattle.abc_run_state.specs.Outer.{setting_in, world}
use Rattle.abc_run_state.specs.Stops.{IsOpen}
use Rattle.abc_run_members.specs.Members.{enters_found}
use Rattle.abc_run_members.proofs.Settled.{enters_as}
use Rattle.abc_run_members.proofs.found.enters_object.Goals as goal

pub enters_on_object-requires : goal.enters_on_object-requires
enters_on_object-requires g c = (
  search rules,
  (
    search rules,
    (
      search rules,
      (subst IsOpen (enters_as (setting_in c.args.linked.now g.out) c.args.method (Obj c.args.o) c.args.count c.args.how (newest c.args.s.now.frames) (world c.args.s.now g.out) c.waiting-taken.result.0 c.waiting-taken.result.1 c.waiting-taken.ensures.taken c.waiting-taken.ensures.wait c.requires.1.1)
          c.requires.1.1),
    ),
  ),
)

pub returns : goal.returns
returns g c =
    let l = c.args.linked.now in
    let p = setting_in l g.out in
    let f = newest c.args.s.now.frames in
    let e = enters_as p c.args.method (Obj c.args.o) c.args.count c.args.how f (world c.args.s.now g.out) c.waiting-taken.result.0 c.waiting-taken.result.1 c.waiting-taken.ensures.taken c.waiting-taken.ensures.wait c.requires.1.1 in
    done_as c.enters_on_object.result l g.out (enters_found p c.args.method (Obj c.args.o) c.args.count c.args.how f) (enters_owned_above p c.args.method (Obj c.args.o) c.args.count c.waiting-taken.result.0 c.waiting-taken.result.1 f) c.args.s.now c.enters_on_object.new.s e c.enters_on_object.ensures
