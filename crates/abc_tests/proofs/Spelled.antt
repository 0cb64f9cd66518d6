-- Code that was read is spelled by some bytes.
use Rattle.std.specs.Prelude.{List, ℕ}
use Rattle.abc_file_types.proofs.CodeShortest.{ready_spelled}
use Rattle.abc_file_types.specs.Code.{code_listing}
use Rattle.abc_file_types.specs.CodeBytes.{code_bytes}
use Rattle.abc_file_types.specs.Ready.{IsReady}
use Rattle.abc_file_types.specs.declared.code.Instr.{Instr}

pub ready_code : (is : List Instr) → IsReady is → (b : List ℕ) × code_listing.spells is b
ready_code is ready = (code_bytes is, ready_spelled is ready)
