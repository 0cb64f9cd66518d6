use Rattle.std.proofs.Common.{take}
use Rattle.std.specs.List.{flat_map}
use Rattle.std.proofs.lemmas.Result.{err_from_is_err_and}
use Rattle.abc_file_types.specs.Bodies.{body_bytes}
use Rattle.abc_varint.proofs.Putting.{stays}
use Rattle.abc_bodies.proofs.put.put_each_body.Goals as goal

pub returns-in_err-put_body : goal.returns-in_err-put_body
returns-in_err-put_body c =
    let p = err_from_is_err_and c.from_residual.result c.from_residual.ensures.1 in
    rw p.1 (stays c.args.out.now.items (flat_map body_bytes (take c.loop-body.body-index c.args.bodies.now)) c.loop-body.out.items c.put_body.new.out.items c.loop-body.invariant c.in_err-put_body.ensures)
