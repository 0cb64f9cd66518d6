use Rattle.std.proofs.Common.{rules}
use Rattle.abc_run_members.specs.Members.{calls_named}
use Rattle.abc_run_calls.proofs.Finishing.{told_finishes}
use Rattle.abc_frames.specs.Frame.{newest}
use Rattle.abc_run_state.proofs.Told.{told_leaves}
use Rattle.abc_run_state.specs.Outer.{setting_in}
use Rattle.abc_run_members.proofs.searching.call_searching.Goals as goal

pub call_searched-requires : goal.call_searched-requires
call_searched-requires g c = (c.requires.0, (c.requires.1.0, (c.requires.1.1.0, c.requires.1.1.1.0)))

pub returns : goal.returns
returns g c = record {
  leaves = told_leaves c.args.linked.now g.out (calls_named (setting_in c.args.linked.now g.out) c.args.name c.args.count c.args.lexical c.args.how (newest c.args.s.now.frames)) c.args.s.now c.call_searched.new.s c.call_searched.result _ c.leaves.ensures.left c.call_searched.ensures.leaves;
  finishes = told_finishes c.args.linked.now c.call_searched.result c.call_searched.new.s _ c.leaves.ensures.left c.call_searched.ensures.finishes;
  goes = search rules;
  limit = search rules;
}
