use Rattle.std.proofs.Common.{◌≡◌, ◌∙◌, ◌++◌, ℕ, List, Err, ap, subst, length, take, drop, arith, rules}
use Rattle.abc_instr.specs.declared.holes.Hole.{Hole}
use Rattle.abc_instr.specs.Marks.{mark_at}
use Rattle.abc_instr.specs.Resolving.{Resolves}
use Rattle.abc_instr.specs.Scanning.{mended}
use Rattle.std.specs.Vec.{vec_len}
use Rattle.std.proofs.Math.Seq.{take-append_seam}
use Rattle.std.proofs.lemmas.Result.{err_from_is_err_and}
use Rattle.abc_instr.proofs.Mending.{not_mended, put_mended}
use Rattle.abc_instr.proofs.scan.put_scan.Goals as goal

pub returns-clause-bytes : goal.returns-clause-bytes
returns-clause-bytes c =
    let code = c.args.scan.now.code in
    let many : vec_len code ≡ length code.items = omega (arith, code.ok.0) in
    let code_is : c.deref_mut.result.now ≡ c.args.scan.now.code.items = search rules in
    let holes_are : c.deref.result.now ≡ c.args.scan.now.holes.items = search rules in
    let kept = c.mend.auto in
    let rest = drop (length c.mend.new.code) code.items in
    let len : code.len ≡ length c.mend.new.code = omega (arith, code.ok.0, ap length code_is) in
    let left : take code.len (c.mend.new.code ++ rest) ≡ c.mend.new.code = ap (λ (n : ℕ). take n (c.mend.new.code ++ rest)) len ∙ take-append_seam c.mend.new.code rest in
    put_mended c.args.scan.now c.args.out.now.items c.put_count.new.out.items c.put_bytes.new.out.items c.mend.new.code (rw many at (rw c.len.ensures at c.in_ok-put_count.ensures)) (rw (code_is, holes_are) at c.in_ok-mend.ensures) (c.in_ok-put_bytes.ensures ∙ ap (λ (l : List ℕ). c.put_count.new.out.items ++ l) (c.deref-2.ensures.value ∙ left))

pub returns-in_err-mend-clause-bytes : goal.returns-in_err-mend-clause-bytes
returns-in_err-mend-clause-bytes c =
    let p = err_from_is_err_and c.from_residual-in_err-mend.result c.from_residual-in_err-mend.ensures.1 in
    let code_is : c.deref_mut.result.now ≡ c.args.scan.now.code.items = search rules in
    let holes_are : c.deref.result.now ≡ c.args.scan.now.holes.items = search rules in
    rw (p.1, p.2) (not_mended c.args.scan.now c.args.out.now.items c.in_err-mend.field-0.0 (subst (λ (l : List ℕ). Resolves {A = List ℕ} (mended (mark_at c.args.scan.now.marks) l c.args.scan.now.holes.items) (Err c.in_err-mend.field-0.0)) code_is (subst (λ (hs : List Hole). Resolves {A = List ℕ} (mended (mark_at c.args.scan.now.marks) c.deref_mut.result.now hs) (Err c.in_err-mend.field-0.0)) holes_are c.in_err-mend.ensures)))
