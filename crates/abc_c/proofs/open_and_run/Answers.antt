use Rattle.std.proofs.Common.{ap}
use Rattle.abc_machine.specs.Machines.{Opened}
use Rattle.abc_c.specs.Outcome.{use_of}
use Rattle.abc_c.proofs.Using.{came_limited, came_nowhere, came_refused, came_used}
use Rattle.abc_c.proofs.open_and_run.Goals as goal

pub run-came-requires : goal.run-came-requires
run-came-requires c = record { begun = ap (λ (m : Opened). m.ended) c.in-Ok.ensures.opened.is; fresh = c.requires }

pub returns-in-Ok-clause-came : goal.returns-in-Ok-clause-came
returns-in-Ok-clause-came c =
    came_used (use_of c.args.file.now c.args.bounds.now c.args.names.now c.args.calls.now) c.run-came.new.answers c.run-came.result.status c.run-came.result.refusal c.run-came.result.answered c.run-came.new.out.taken
    c.run-came.ensures.refusal (record { opened = c.in-Ok.kept.session; begun = c.in-Ok.ensures; runs = c.run-came.ensures.used })

pub returns-in-Err-Refused-clause-came : goal.returns-in-Err-Refused-clause-came
returns-in-Err-Refused-clause-came c =
    let told = c.refuse.ensures.came in
    came_refused (use_of c.args.file.now c.args.bounds.now c.args.names.now c.args.calls.now) c.args.answers.now c.refuse.result.status c.refuse.result.refusal c.refuse.result.answered c.refuse.new.out.taken
    c.in-Err-Refused.e told.0 told.1 told.2 (rw c.in-Err-Refused.field-0-is at c.in-Err-Refused.ensures) c.refuse.ensures.front

pub returns-in-Err-TooSmall-clause-came : goal.returns-in-Err-TooSmall-clause-came
returns-in-Err-TooSmall-clause-came c =
    let told = c.to.ensures in
    came_limited (use_of c.args.file.now c.args.bounds.now c.args.names.now c.args.calls.now) c.args.answers.now c.to.result.status c.to.result.refusal c.to.result.answered c.args.out.now.taken
    told.0 told.1 told.2 c.requires (rw c.in-Err-TooSmall.field-0-is at c.in-Err-TooSmall.ensures)

pub returns-in-Err-NoMemory-clause-came : goal.returns-in-Err-NoMemory-clause-came
returns-in-Err-NoMemory-clause-came c =
    let told = c.to-in-Err-NoMemory.ensures in
    came_nowhere (use_of c.args.file.now c.args.bounds.now c.args.names.now c.args.calls.now) c.args.answers.now c.to-in-Err-NoMemory.result.status c.to-in-Err-NoMemory.result.refusal c.to-in-Err-NoMemory.result.answered c.args.out.now.taken
    told.0 told.1 told.2 c.requires
