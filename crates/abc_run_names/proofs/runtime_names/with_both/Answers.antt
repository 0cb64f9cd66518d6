use Rattle.std.proofs.lemmas.Result.{err_from_is_err_and}
use Rattle.abc_run_state.specs.Outer.{setting_in, world}
use Rattle.abc_run_state.specs.Stops.{why}
use Rattle.abc_run_names.proofs.Naming.{both_stopped, both_went, open_both, text_stopped}
use Rattle.abc_run_names.proofs.runtime_names.with_both.Goals as goal

pub space_in-requires : goal.space_in-requires
space_in-requires g c = open_both (setting_in c.args.linked.now g.out) c.args.text c.args.space (world c.args.s.now g.out) (world c.spell.new.s g.out) c.in_ok-text.text c.in_ok-text.ensures.part c.requires.1.1

pub returns-clause-part : goal.returns-clause-part
returns-clause-part g c =
    let n = world c.spell.new.s g.out in
    both_went (setting_in c.args.linked.now g.out) c.args.text c.args.space (world c.args.s.now g.out) n n c.in_ok-text.text c.in_ok-spaces.spaces c.in_ok-text.ensures.part (c.in_ok-spaces.ensures n)

pub returns-in_err-text-clause-part : goal.returns-in_err-text-clause-part
returns-in_err-text-clause-part g c =
    let e = err_from_is_err_and c.from_residual.result c.from_residual.ensures.1 in
    rw (e.1, e.2) (text_stopped (setting_in c.args.linked.now g.out) c.args.text c.args.space (world c.args.s.now g.out) (world c.spell.new.s g.out) (why c.in_err-text.field-0.0) c.in_err-text.ensures.part)

pub returns-in_err-spaces-clause-part : goal.returns-in_err-spaces-clause-part
returns-in_err-spaces-clause-part g c =
    let n = world c.spell.new.s g.out in
    let e = err_from_is_err_and c.from_residual-in_err-spaces.result c.from_residual-in_err-spaces.ensures.1 in
    rw (e.1, e.2) (both_stopped (setting_in c.args.linked.now g.out) c.args.text c.args.space (world c.args.s.now g.out) n n c.in_ok-text.text (why c.in_err-spaces.field-0.0) c.in_ok-text.ensures.part (c.in_err-spaces.ensures n))
