use Rattle.std.proofs.Common.{◌≡◌, ◌-◌, refl, arith}
use Rattle.abc_file_types.specs.Starts.{size}
use Rattle.abc_instr.proofs.Scanned.{code_len_is, scan_whole}
use Rattle.abc_instr.proofs.scan.scan_code.Goals as goal

pub len-moved-requires : goal.len-moved-requires
len-moved-requires g c = let v = c.in_ok-scan_within.ensures.value in omega (arith, code_len_is v.0 c.scan_within.new.scan v.2.raw v.1, v.2.few, c.requires.small)

pub set-requires : goal.set-requires
set-requires g c = let v = c.in_ok-scan_within.ensures.value in omega (arith, c.len-moved.ensures, code_len_is v.0 c.scan_within.new.scan v.2.raw v.1, v.2.few, c.requires.small)

pub returns-clause-value : goal.returns-clause-value
returns-clause-value g c =
    let v = c.in_ok-scan_within.ensures.value in
    let xs = v.0 in
    let here : c.place.result - c.place-first.result ≡ size xs = omega (arith, v.3, c.place.ensures.is, c.place-first.ensures.is) in (
      xs,
      scan_whole xs (c.place.result - c.place-first.result) c.scan_within.new.scan _ v.2.some v.2.raw here v.1 (rw (← c.len-moved.ensures) c.in_ok-set.ensures) refl refl,
      v.2,
      v.4,
    )
