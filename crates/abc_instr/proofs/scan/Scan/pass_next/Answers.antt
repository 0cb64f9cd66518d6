use mir.Val.{SFits}
use Rattle.std.proofs.Common.{◌≡◌, ◌∙◌, ◌++◌, ℕ, List, None, Some, sym, ap, refl, arith, rules}
use Rattle.std.proofs.lemmas.Int.{to_z-of_z}
use Rattle.std.proofs.lemmas.List.{append-nil}
use Rattle.std.specs.Int.{w32}
use Rattle.abc_instr.specs.declared.holes.Hole.{Hole}
use Rattle.abc_instr.specs.declared.raw.RawInstr.TheVariants as raws
use Rattle.abc_instr.specs.Fronts.{branch_in}
use Rattle.abc_instr.specs.Scanning.{jump_in, plain_bytes}
use Rattle.abc_instr.proofs.Adding.{no_holes, plain_is, told_adds}
use Rattle.abc_instr.proofs.Fronts.{passed, taken}
use Rattle.abc_instr.proofs.scan.Scan.pass_next.Goals as goal

pub returns-in-Some-Put-clause-value : goal.returns-in-Some-Put-clause-value
returns-in-Some-Put-clause-value g c =
    let f = c.in-Some-Put.field-0 in
    let t = rw c.in-Some-Put.is at c.in_ok-take_front.ensures.taken in
    let front = t.2 in
    let none : jump_in front.instr ≡ None = sym front.told ∙ ap branch_in c.in-Some-Put.field-0-is in
    let moves = passed plain_bytes f _ _ _ _ t.0 t.1 front in
    let old = c.args.self.now in
    record {
      instr = front.instr;
      moves = moves.moves;
      passes = moves.passes;
      room = moves.room;
      raw = front.raw;
      adds = record {
        code = front.put ∙ ap (λ (l : List ℕ). old.code.items ++ l) (plain_is front.instr none);
        holes = sym (append-nil old.holes.items) ∙ ap (λ (l : List Hole). old.holes.items ++ l) (sym (no_holes front.instr _ _ _ none));
        marks = refl;
      };
      says_so = taken plain_bytes f _ _ _ _ _ t.0 t.1 front;
    }

pub returns-in_ok-put_branch-in-Some-Branch-clause-value : goal.returns-in_ok-put_branch-in-Some-Branch-clause-value
returns-in_ok-put_branch-in-Some-Branch-clause-value g c =
    let f = c.in-Some-Branch.field-0 in
    let t = rw c.in-Some-Branch.is at c.in_ok-take_front.ensures.taken in
    let front = t.2 in
    let jump = raws.Branch c.in-Some-Branch.op c.in-Some-Branch.offset in
    let fits : SFits w32 c.in-Some-Branch.offset = search rules in
    let bits = to_z-of_z w32 c.in-Some-Branch.offset fits in
    let some : Some jump ≡ jump_in front.instr = sym (ap branch_in c.in-Some-Branch.field-0-is) ∙ front.told in
    let moves = passed plain_bytes f _ _ _ _ t.0 t.1 front in
    let old = c.args.self.now in
    record {
      instr = front.instr;
      moves = moves.moves;
      passes = moves.passes;
      room = moves.room;
      raw = front.raw;
      adds = told_adds front.instr jump _ _ _ _ old (record old { code = c.take_front.new.plain }) _ some (omega (arith, c.place.ensures.is, c.place-in-Some-Branch.ensures.is, moves.moves, c.requires.first)) (omega (arith, c.place.ensures.is)) front.put refl refl
          (rw bits at (rw c.in-Some-Branch.field-0-is at c.in_ok-put_branch-in-Some-Branch.ensures));
      says_so = taken plain_bytes f _ _ _ _ _ t.0 t.1 front;
    }
