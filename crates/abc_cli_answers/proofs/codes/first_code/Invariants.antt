use Rattle.std.proofs.Common.{◌≡◌, pos, [], ◌∷◌, ◌++◌}
use Rattle.std.specs.List.{flat_map, range_with_len}
use Rattle.abc_cli_answers.specs.Codes.{call_code, getlocal_0, pushbyte, pushscope, setlocal_1}
use Rattle.abc_cli_answers.proofs.codes.first_code.Given as goal

abbrev pub invariant-loop-function : goal.invariant-loop-function
invariant-loop-function v = v.code ≡ (getlocal_0 ∷ pushscope ∷ pushbyte (pos 1) ∷ setlocal_1 ∷ []) ++ flat_map call_code (range_with_len 1 v.function)
