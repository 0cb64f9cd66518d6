use Rattle.abc_c.proofs.Begun.{refused_by}
use Rattle.abc_c.proofs.opening.unopened_by.Goals as goal

pub returns-in_default : goal.returns-in_default
returns-in_default c = λ file bounds unread. refused_by file c.args.e c.in_default.not-NoMemory unread
