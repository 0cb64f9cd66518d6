use mir.Val.{SFits}
use Rattle.std.proofs.lemmas.Int.{to_z-of_z}
use Rattle.std.specs.Int.{w32}
use Rattle.std.proofs.Common.{refl, arith, rules}
use Rattle.abc_instr.proofs.Adding.{branch_put}
use Rattle.abc_instr.proofs.scan.Scan.put_branch.Goals as goal

pub returns : goal.returns
returns c =
    let hole = c.in_ok-put_hole.ensures in
    let fits : SFits w32 c.args.offset = search rules in
    let bits = to_z-of_z w32 c.args.offset fits in
    branch_put c.args.op c.args.offset c.args.here c.args.next _ _ c.args.self.now (record c.args.self.now { code = c.put_u8.new.out }) c.put_hole.new.self c.requires.here refl (omega (arith, c.len-moved.ensures)) c.in_ok-put_u8.ensures refl
    refl (rw bits at hole.code) (rw bits at hole.holes) hole.marks
