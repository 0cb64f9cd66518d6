use Rattle.std.proofs.lemmas.Result.{err_from_is_err_and}
use Rattle.abc_run_state.specs.Outer.{setting_in, world}
use Rattle.abc_run_state.specs.Stops.{why}
use Rattle.abc_run_names.proofs.Naming.{texted_stopped, texted_went}
use Rattle.abc_run_names.proofs.runtime_names.with_text.Goals as goal

pub returns-clause-part : goal.returns-clause-part
returns-clause-part g c = texted_went (setting_in c.args.linked.now g.out) c.args.spaces c.args.text (world c.args.s.now g.out) (world c.spell.new.s g.out) c.in_ok-text.text c.in_ok-text.ensures.part

pub returns-in_err-text-clause-part : goal.returns-in_err-text-clause-part
returns-in_err-text-clause-part g c =
    let e = err_from_is_err_and c.from_residual.result c.from_residual.ensures.1 in
    rw (e.1, e.2) (texted_stopped (setting_in c.args.linked.now g.out) c.args.spaces c.args.text (world c.args.s.now g.out) (world c.spell.new.s g.out) (why c.in_err-text.field-0.0) c.in_err-text.ensures.part)
