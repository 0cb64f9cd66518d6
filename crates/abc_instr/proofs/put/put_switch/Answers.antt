use Rattle.std.proofs.Common.{◌≡◌, ◌-◌, length, arith}
use Rattle.abc_file_types.proofs.Lengths.{four}
use Rattle.abc_instr.proofs.put.put_switch.Goals as goal

pub returns : goal.returns
returns c =
    let count : c.saturating_sub.result ≡ length c.args.cases.now - 1 = omega (arith, c.saturating_sub.ensures, c.len.ensures) in
    four 0x1b c.args.out.now.items c.put_u8.new.out.items c.put_offset.new.out.items c.put_count.new.out.items c.put_offsets.new.out.items _ _ _
    c.in_ok-put_u8.ensures c.in_ok-put_offset.ensures (rw count at c.in_ok-put_count.ensures) c.in_ok-put_offsets.ensures
