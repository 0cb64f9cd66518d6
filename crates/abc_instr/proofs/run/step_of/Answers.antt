use Rattle.std.proofs.Common.{◌∙◌, ap, List, get_or, arith}
use Rattle.abc_instr.specs.declared.run.Step.{Step}
use Rattle.abc_instr.proofs.Steps.{step_is}
use Rattle.abc_instr.proofs.run.step_of.Goals as goal

pub returns : goal.returns
returns c =
    let other : Step = record { len = 0; first = 0; second = 0 } in
    ap (λ (rows : List Step). get_or rows c.args.op other) c.requires ∙ step_is c.args.op other (omega arith)
