use Rattle.std.proofs.Common.{rules}
use Rattle.abc_run_calls.proofs.Finishing.{goes_finishes}
use Rattle.abc_heap_values.specs.declared.values.Value.TheVariants.{Obj}
use Rattle.abc_run_members.specs.Members.{enters_found}
use Rattle.abc_frames.specs.Frame.{newest}
use Rattle.abc_run_state.proofs.Told.{runs_leaves}
use Rattle.abc_run_state.specs.Outer.{setting_in}
use Rattle.abc_run_members.proofs.found.enter_slowly.Goals as goal

pub enter_on-requires : goal.enter_on-requires
enter_on-requires g c = (c.requires.0, (c.requires.1.0, c.requires.1.1.0))

pub returns : goal.returns
returns g c = record {
  leaves = runs_leaves c.args.linked.now g.out (enters_found (setting_in c.args.linked.now g.out) c.args.method (Obj c.args.o) c.args.count c.args.how (newest c.args.s.now.frames)) c.args.s.now c.enter_on.new.s c.enter_on.result _ c.goes.ensures.left c.enter_on.ensures.runs;
  finishes = goes_finishes c.args.linked.now c.enter_on.result c.enter_on.new.s _ c.goes.ensures.left;
  goes = search rules;
  limit = search rules;
}
