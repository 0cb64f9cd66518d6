use mir.Val.{SFits}
use Rattle.std.proofs.lemmas.Int.{to_z-of_z}
use Rattle.std.specs.Int.{w32}
use Rattle.std.proofs.Common.{◌≡◌, ◌∙◌, ap, length, get_or, pos, arith, rules}
use Rattle.std.proofs.lemmas.List.{get_or_default}
use Rattle.abc_instr.proofs.Adding.{case_code, case_hole, case_room}
use Rattle.abc_instr.proofs.scan.Scan.put_cases.Goals as goal

pub loop-i-preserved : goal.loop-i-preserved
loop-i-preserved c =
    let put = rw c.as_slice-slice.ensures at c.in_ok-put_hole.ensures in
    let within = rw c.as_slice-slice.ensures at c.loop-i-test.true in
    let so_far = c.loop-i.invariant in
    let cases = c.args.cases.now in
    let i = c.loop-i.i in
    let z = get_or cases i (pos 0) in
    let fits : SFits w32 z = search rules in
    let bits = to_z-of_z w32 z fits in
    let read : z ≡ get_or cases i z = get_or_default cases i (pos 0) z within in
    let code = rw bits at put.code in
    record {
      code = case_code c.args.next c.args.base c.args.moved i z cases within read c.loop-i.self.code.items c.put_hole.new.self.code.items code _ so_far.code;
      holes = case_hole c.args.next c.args.base c.args.moved i z cases within read c.loop-i.self.code.items c.put_hole.new.self.code.items code _ c.loop-i.self.holes.items c.put_hole.new.self.holes.items _
          (omega (arith, c.saturating_sub-place.ensures, c.saturating_mul.ensures, ap length c.as_slice-slice.ensures)) (rw bits at put.holes) so_far.holes;
      room = case_room c.args.next c.args.base c.args.moved i z cases within read c.loop-i.self.code.items c.put_hole.new.self.code.items code _ so_far.room;
      marks = put.marks ∙ so_far.marks;
    }
