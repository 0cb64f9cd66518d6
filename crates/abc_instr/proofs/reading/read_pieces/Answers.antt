use Rattle.std.proofs.Common.{refl, arith}
use Rattle.abc_instr.proofs.Aiming.{reading_whole}
use Rattle.abc_instr.proofs.reading.read_pieces.Goals as goal

pub returns-clause-value : goal.returns-clause-value
returns-clause-value g c =
    let v = c.in_ok-read_within.ensures.value in
    let xs = v.0 in (
      xs,
      reading_whole xs _ c.read_within.new.reading _ (omega (arith, v.3, c.place.ensures.is, c.place-first.ensures.is)) v.1 c.in_ok-push.ensures refl refl,
      v.2,
      v.3,
      v.4,
    )
