use Rattle.abc_file_types.specs.declared.code.Instr.TheVariants.{One}
use Rattle.abc_run_values.proofs.Doing.{can_at}
use Rattle.abc_run_dispatch.proofs.Dispatched.{here_at}
use Rattle.abc_run_dispatch.proofs.supers.run_super.Goals as goal

pub read_super-requires : goal.read_super-requires
read_super-requires g c = (can_at c.args.linked.now g.out c.args.s.now (λ o. One o c.args.n) c.args.op 4 c.in-4.is c.requires.0, c.requires.1.0)

pub returns-in-4 : goal.returns-in-4
returns-in-4 g c = here_at c.args.linked.now g.out c.args.s.now (λ o. One o c.args.n) c.args.op 4 _ _ c.in-4.is c.read_super.ensures

pub write_super-requires : goal.write_super-requires
write_super-requires g c = (can_at c.args.linked.now g.out c.args.s.now (λ o. One o c.args.n) c.args.op 5 c.in-5.is c.requires.0, c.requires.1.0)

pub returns-in-5 : goal.returns-in-5
returns-in-5 g c = here_at c.args.linked.now g.out c.args.s.now (λ o. One o c.args.n) c.args.op 5 _ _ c.in-5.is c.write_super.ensures

pub make_super-requires : goal.make_super-requires
make_super-requires g c = (can_at c.args.linked.now g.out c.args.s.now (λ o. One o c.args.n) c.args.op 73 c.in-73.is c.requires.0, c.requires.1.0)

pub returns-in-73 : goal.returns-in-73
returns-in-73 g c = here_at c.args.linked.now g.out c.args.s.now (λ o. One o c.args.n) c.args.op 73 _ _ c.in-73.is c.make_super.ensures
