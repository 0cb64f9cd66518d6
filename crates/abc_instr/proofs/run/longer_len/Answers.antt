use Rattle.std.proofs.Common.{◌≡◌, ◌<◌, get_or, ap, subst, refl, arith}
use Rattle.abc_file_types.specs.Opcodes.{form_at}
use Rattle.abc_instr.specs.declared.run.Step.{Step}
use Rattle.abc_instr.specs.Runs.{step_of_form}
use Rattle.abc_instr.proofs.Steps.{longer_one, longer_two}
use Rattle.abc_instr.proofs.run.longer_len.Goals as goal

pub returns-then-step-eq2 : goal.returns-then-step-eq2
returns-then-step-eq2 c = λ some.
    let bytes = c.args.bytes.now in
    let form = form_at (get_or bytes 0 0) in
    let is : c.args.step ≡ step_of_form form = c.requires.step in
    let other = subst (λ (s : Step). (get_or bytes 1 0 < s.first) × (get_or bytes 2 0 < s.second) → ⊥) is c.requires.other in
    let len : (step_of_form form).len ≡ 2 = omega (arith, ap (λ (s : Step). s.len) is, c.if-step-eq2.true) in
    longer_one form bytes c.requires.room (omega (arith, c.type_inv.bytes 0)) (omega (arith, c.type_inv.bytes 1)) refl other len (omega (arith, c.if-bytes-eq0.false)) (omega (arith, c.if-bytes-ge128.false))

pub returns-then-bytes-lt128 : goal.returns-then-bytes-lt128
returns-then-bytes-lt128 c = λ some.
    let bytes = c.args.bytes.now in
    let form = form_at (get_or bytes 0 0) in
    let is : c.args.step ≡ step_of_form form = c.requires.step in
    let other = subst (λ (s : Step). (get_or bytes 1 0 < s.first) × (get_or bytes 2 0 < s.second) → ⊥) is c.requires.other in
    let len : (step_of_form form).len ≡ 3 = omega (arith, ap (λ (s : Step). s.len) is, c.if-step-eq3.true) in
    longer_two form bytes c.requires.room (omega (arith, c.type_inv.bytes 1)) refl other len (omega (arith, c.if-bytes-eq0.false)) (omega (arith, c.if-bytes-ge128.false)) (omega (arith, c.if-bytes-lt128.true))
