use Rattle.std.proofs.Common.{◌≡◌, ◌<◌, get_or, ap, subst, sym, refl, arith}
use Rattle.abc_file_types.specs.Opcodes.{form_at}
use Rattle.abc_instr.specs.declared.run.Step.{Step}
use Rattle.abc_instr.specs.Runs.{IsPassed, step_of_form}
use Rattle.abc_instr.proofs.Steps.{quick}
use Rattle.abc_instr.proofs.run.step_len.Goals as goal

pub returns-then-bytes-step-2 : goal.returns-then-bytes-step-2
returns-then-bytes-step-2 c = λ some.
    let bytes = c.args.bytes.now in
    let form = form_at (get_or bytes 0 0) in
    let is : c.step_of-step.result ≡ step_of_form form = c.step_of-step.ensures in
    let first : get_or bytes 1 0 < (step_of_form form).first = omega (arith, ap (λ (s : Step). s.first) is, c.if-bytes-step.true) in
    let second : get_or bytes 2 0 < (step_of_form form).second = omega (arith, ap (λ (s : Step). s.second) is, c.if-bytes-step-2.true) in
    subst (λ (s : Step). IsPassed s.len bytes) (sym is) (quick form bytes c.requires (omega (arith, c.type_inv.bytes 0)) (omega (arith, c.type_inv.bytes 1)) refl first second)
