use Rattle.abc_run_dispatch.proofs.Dispatched.{dispatches_run}
use Rattle.abc_file_types.specs.declared.code.Instr.TheVariants.{Two}
use Rattle.abc_file_types.specs.declared.op.TheConstants.{CONSTRUCTPROP}
use Rattle.abc_run_dispatch.proofs.arms.construct_property_arm.Goals as goal

pub returns : goal.returns
returns g c = dispatches_run c.args.linked.now g.out c.args.s.now (Two CONSTRUCTPROP c.args.n c.args.count) c.run_construct_property.new.s _ _ c.goes.ensures.goes c.run_construct_property.result c.run_construct_property.ensures c.goes.ensures.left
