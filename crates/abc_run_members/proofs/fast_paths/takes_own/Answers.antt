use Rattle.std.proofs.Common.{◌∙◌, sym}
use Rattle.abc_run_state.specs.Outer.{setting_in, world}
use Rattle.abc_run_members.proofs.AtOnce.{own_taken}
use Rattle.abc_run_members.proofs.fast_paths.takes_own.Goals as goal

pub returns : goal.returns
returns c = λ e out x initial. own_taken (setting_in c.args.linked.now out) c.args.o c.args.name.now x initial (world c.args.s.now out) c.is_dynamic.result c.requires.inside (c.is_plain.ensures c.if-not-is_plain.false) (sym c.is_array.ensures ∙ c.if-is_array.false) (c.is_dynamic.ensures out) e
