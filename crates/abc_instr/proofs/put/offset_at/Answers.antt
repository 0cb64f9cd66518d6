use Rattle.std.proofs.Common.{sym, ◌∙◌, arith}
use Rattle.abc_file_types.proofs.Lengths.{start_step, len_step}
use Rattle.abc_instr.proofs.put.offset_at.Goals as goal

pub loop-i-preserved : goal.loop-i-preserved
loop-i-preserved c =
    rw c.short_len-here.ensures (
      sym (start_step c.args.code.now c.loop-i.i c.args.index c.loop-i.here c.get.result.now (omega arith) (omega arith) (sym c.get.ensures)) ∙ c.loop-i.invariant.0,
      len_step c.args.code.now c.loop-i.i c.loop-i.here _ c.get.result.now (omega arith) (sym c.get.ensures) c.loop-i.invariant.1,
    )
