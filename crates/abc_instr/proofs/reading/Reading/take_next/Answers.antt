use mir.Val.{SFits}
use Rattle.std.proofs.Common.{◌≡◌, ◌∙◌, ℤ, None, Some, sym, ap, refl, rules}
use Rattle.std.proofs.lemmas.Int.{to_z-of_z}
use Rattle.std.specs.Int.{w32, cast_signed}
use Rattle.abc_file_types.specs.Instructions.{Branch}
use Rattle.abc_file_types.specs.declared.code.Instr.TheVariants as instrs
use Rattle.abc_instr.specs.declared.raw.RawInstr.TheVariants as raws
use Rattle.abc_instr.specs.Fronts.{branch_in}
use Rattle.abc_instr.specs.Reading.{done_in}
use Rattle.abc_instr.specs.Scanning.{jump_in}
use Rattle.abc_instr.proofs.Aiming.{done, waited}
use Rattle.abc_instr.proofs.Fronts.{passed, taken}
use Rattle.abc_instr.proofs.reading.Reading.take_next.Goals as goal

pub returns-in-Some-Put-clause-value : goal.returns-in-Some-Put-clause-value
returns-in-Some-Put-clause-value g c =
    let f = c.in-Some-Put.field-0 in
    let t = rw c.in-Some-Put.is at c.in_ok-push_next.ensures.taken in
    let front = t.2 in
    let none : jump_in front.instr ≡ None = sym front.told ∙ ap branch_in c.in-Some-Put.field-0-is in
    let moves = passed done_in f _ _ _ _ t.0 t.1 front in
    record {
      instr = front.instr;
      moves = moves.moves;
      passes = moves.passes;
      room = moves.room;
      raw = front.raw;
      takes = done front.instr c.args.self.now _ front.raw none front.put refl refl;
      says_so = taken done_in f _ _ _ _ _ t.0 t.1 front;
    }

pub returns-in_ok-wait-in-Some-Branch-clause-value : goal.returns-in_ok-wait-in-Some-Branch-clause-value
returns-in_ok-wait-in-Some-Branch-clause-value g c =
    let f = c.in-Some-Branch.field-0 in
    let t = rw c.in-Some-Branch.is at c.in_ok-push_next.ensures.taken in
    let front = t.2 in
    let wait = c.in_ok-wait-in-Some-Branch.ensures in
    let jump = raws.Branch c.in-Some-Branch.op c.in-Some-Branch.offset in
    let some : Some jump ≡ jump_in front.instr = sym (ap branch_in c.in-Some-Branch.field-0-is) ∙ front.told in
    let fits : SFits w32 c.in-Some-Branch.offset = search rules in
    let bits = to_z-of_z w32 c.in-Some-Branch.offset fits in
    let same : cast_signed w32 c.cast_unsigned.result ≡ c.in-Some-Branch.offset = ap (cast_signed w32) (rw c.in-Some-Branch.field-0-is at c.cast_unsigned.ensures) ∙ simp bits in
    let moves = passed done_in f _ _ _ _ t.0 t.1 front in
    record {
      instr = front.instr;
      moves = moves.moves;
      passes = moves.passes;
      room = moves.room;
      raw = front.raw;
      takes = waited front.instr jump (instrs.Branch c.in-Some-Branch.op c.cast_unsigned.result) c.args.self.now (record c.args.self.now { instrs = c.push_next.new.instrs }) _ some (ap (λ (z : ℤ). Branch c.in-Some-Branch.op z) same) front.put refl refl (rw c.in-Some-Branch.field-0-is at wait.instrs) wait.aims wait.starts;
      says_so = taken done_in f _ _ _ _ _ t.0 t.1 front;
    }
