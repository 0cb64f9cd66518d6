use Rattle.std.proofs.Common.{◌∙◌, None, ap, sym}
use Rattle.abc_run_state.specs.Outer.{world}
use Rattle.abc_meaning.specs.Calling.{this_of as this_so}
use Rattle.abc_run_calls.proofs.calling.this_of.Goals as goal

pub returns-in-Undefined : goal.returns-in-Undefined
returns-in-Undefined c = λ out.
    let w = world c.args.s.now out in
    c.global_of.ensures.is out ∙ sym (ap (λ b. this_so b c.args.home c.args.receiver w) c.in-None.is ∙ ap (λ v. this_so None c.args.home v w) c.in-Undefined.is)

pub returns-in-Null : goal.returns-in-Null
returns-in-Null c = λ out.
    let w = world c.args.s.now out in
    c.global_of-in-Null.ensures.is out ∙ sym (ap (λ b. this_so b c.args.home c.args.receiver w) c.in-None.is ∙ ap (λ v. this_so None c.args.home v w) c.in-Null.is)
