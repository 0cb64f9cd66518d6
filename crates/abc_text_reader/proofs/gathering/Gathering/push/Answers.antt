use Rattle.abc_text_reader.proofs.Coding.{summed_more}
use Rattle.abc_text_reader.proofs.gathering.Gathering.push.Goals as goal

pub returns-clause-summed : goal.returns-clause-summed
returns-clause-summed c = rw c.in_ok-push.ensures.ok (summed_more c.args.self.now.instrs c.args.instr c.args.self.now.len c.instr_len.result c.saturating_add-len.result c.requires c.instr_len.ensures c.saturating_add-len.ensures)
