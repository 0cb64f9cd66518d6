use Rattle.abc_file_types.specs.declared.code.Instr.TheVariants.{Two}
use Rattle.abc_run_values.proofs.Doing.{can_at}
use Rattle.abc_run_dispatch.proofs.Dispatched.{leaves_at}
use Rattle.abc_run_dispatch.proofs.supers.run_super_call.Goals as goal

pub call_pushing-requires : goal.call_pushing-requires
call_pushing-requires g c = (can_at c.args.linked.now g.out c.args.s.now (λ o. Two o c.args.n c.args.count) c.args.op 69 c.in-69.is c.requires.0, c.requires.1.0)

pub returns-in-69-clause-leaves : goal.returns-in-69-clause-leaves
returns-in-69-clause-leaves g c = leaves_at c.args.linked.now g.out c.args.s.now (λ o. Two o c.args.n c.args.count) c.args.op 69 _ _ c.in-69.is c.call_pushing.ensures.leaves

pub call_dropping-requires : goal.call_dropping-requires
call_dropping-requires g c = (can_at c.args.linked.now g.out c.args.s.now (λ o. Two o c.args.n c.args.count) c.args.op 78 c.in-78.is c.requires.0, c.requires.1.0)

pub returns-in-78-clause-leaves : goal.returns-in-78-clause-leaves
returns-in-78-clause-leaves g c = leaves_at c.args.linked.now g.out c.args.s.now (λ o. Two o c.args.n c.args.count) c.args.op 78 _ _ c.in-78.is c.call_dropping.ensures.leaves
