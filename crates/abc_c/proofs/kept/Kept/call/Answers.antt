use Rattle.abc_base.specs.Hosts.{plain_arguments, builtin_formulas}
use Rattle.abc_c.proofs.Telling.{done_as}
use Rattle.abc_c.proofs.kept.Kept.call.Goals as goal

pub invariant_of-self : goal.invariant_of-self
invariant_of-self c = record {
  beside = c.sessions_stay_beside.ensures.called c.args.self.now.session c.call-reply.new.self _ _ _ c.call-reply.result builtin_formulas c.call-reply.ensures.answers c.args.self.now.beside;
}

pub returns : goal.returns
returns c = done_as c.args.self.now.session c.call-reply.new.self c.args.method c.args.call.now (plain_arguments c.numbers-numbers.result) c.args.out.now.taken c.call-reply.new.out.taken c.tell.new.out.taken c.call-reply.result c.tell.result c.numbers-numbers.ensures c.call-reply.ensures.answers c.tell.ensures
