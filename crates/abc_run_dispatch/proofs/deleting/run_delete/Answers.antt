use Rattle.abc_run_dispatch.proofs.NamedOps.{op_6A}
use Rattle.abc_run_values.proofs.Doing.{open_as, turns_as}
use Rattle.abc_file_types.specs.declared.code.Instr.TheVariants.{One}
use Rattle.abc_run_dispatch.proofs.deleting.run_delete.Goals as goal

pub delete_property-requires : goal.delete_property-requires
delete_property-requires g c =
    let can = c.requires in
    let d = op_6A c.args.linked.now g.out c.args.s.now c.args.n can in
    (can.set, (d.ready, open_as c.args.linked.now g.out c.args.s.now (One 0x6A c.args.n) _ 1 _ d can.free))

pub returns : goal.returns
returns g c = record {
  runs = turns_as c.args.linked.now g.out c.args.s.now (One 0x6A c.args.n) _ 1 _ _ (op_6A c.args.linked.now g.out c.args.s.now c.args.n c.requires) c.delete_property.ensures.runs;
  limit = c.delete_property.ensures.limit;
}
