use Rattle.std.proofs.Common.{◌+◌, subst}
use Rattle.std.specs.declared.option.Option.{Option}
use Rattle.abc_frames.specs.Ready.{HasFrameRoom}
use Rattle.abc_run_names.specs.Named.{name_parts_count}
use Rattle.abc_frames.specs.Frame.{newest}
use Rattle.abc_run_state.specs.Operands.{operand_at}
use Rattle.abc_run_state.specs.Outer.{setting_in, world}
use Rattle.abc_meaning.specs.Setting.{NameForm}
use Rattle.abc_run_members.proofs.AtOnce.{whole_put}
use Rattle.abc_run_state.proofs.AtOnce.{done_as}
use Rattle.abc_run_members.proofs.fast_paths.sets_on_object.Goals as goal

pub puts_at_once-requires : goal.puts_at_once-requires
puts_at_once-requires g c = (c.requires.0, ((subst (λ (r : Option NameForm). HasFrameRoom (name_parts_count r + 2) 0 c.args.s.now.frames) c.requires.1.1.0 c.requires.1.0), (c.requires.1.1.1.1.1, c.requires.1.1.1.0)))

pub returns-then-takes_own : goal.returns-then-takes_own
returns-then-takes_own g c =
    let p = setting_in c.args.linked.now g.out in
    let q = c.args.s.now.frames in
    let w = world c.args.s.now g.out in
    done_as c.puts_at_once.result c.args.linked.now g.out _ _ c.args.s.now c.puts_at_once.new.s
    (whole_put p c.args.name c.args.wanted.now c.args.o c.args.initial (newest q) w c.requires.1.1.0 c.requires.1.1.1.1.0 (c.takes_own.ensures c.if-takes_own.true g.out (operand_at 0 (newest q)) c.args.initial))
    c.puts_at_once.ensures
