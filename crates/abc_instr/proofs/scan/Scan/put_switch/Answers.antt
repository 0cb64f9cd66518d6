use mir.Val.{SFits}
use Rattle.std.proofs.lemmas.Int.{to_z-of_z}
use Rattle.std.specs.Int.{w32}
use Rattle.std.proofs.Common.{◌≡◌, ◌∙◌, ◌-◌, ◌∷◌, [], ap, length, length-append, refl, arith, rules}
use Rattle.abc_base.specs.Numbers.{number_bytes}
use Rattle.abc_file_types.specs.Canonical.{s24_bytes}
use Rattle.abc_file_types.proofs.Canon.{s24_length}
use Rattle.abc_instr.proofs.Adding.{switch_put}
use Rattle.abc_instr.proofs.scan.Scan.put_switch.Goals as goal

pub put_cases-requires-clause-room : goal.put_cases-requires-clause-room
put_cases-requires-clause-room c =
    let count : c.saturating_sub.result ≡ length c.args.cases.now - 1 = omega (arith, c.saturating_sub.ensures, c.len.ensures) in
    let fits : SFits w32 c.args.default = search rules in
    let bits = to_z-of_z w32 c.args.default fits in
    let hole = rw bits at c.in_ok-put_hole.ensures.code in
    let many = rw count at c.in_ok-put_count.ensures in
    omega (
      arith,
      c.requires.room,
      ap length c.in_ok-put_u8.ensures,
      length-append c.args.self.now.code.items (0x1b ∷ []),
      ap length hole,
      length-append c.put_u8.new.out.items (s24_bytes c.args.default),
      s24_length c.args.default,
      ap length many,
      length-append c.put_hole.new.self.code.items (number_bytes (length c.args.cases.now - 1)),
    )

pub returns : goal.returns
returns c =
    let count : c.saturating_sub.result ≡ length c.args.cases.now - 1 = omega (arith, c.saturating_sub.ensures, c.len.ensures) in
    let fits : SFits w32 c.args.default = search rules in
    let bits = to_z-of_z w32 c.args.default fits in
    let hole = c.in_ok-put_hole.ensures in
    let cases = c.in_ok-put_cases.ensures in
    switch_put c.args.default c.args.cases.now c.args.here c.args.next _ _ c.put_u8.new.out.items c.put_hole.new.self.code.items c.put_count.new.out.items c.put_hole.new.self.holes.items c.args.self.now c.put_cases.new.self
    c.requires.here refl c.len-moved.ensures c.in_ok-put_u8.ensures (rw bits at hole.code) (rw bits at hole.holes) (rw count at c.in_ok-put_count.ensures) cases.code cases.holes (cases.marks ∙ hole.marks)
