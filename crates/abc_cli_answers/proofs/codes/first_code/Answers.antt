use Rattle.std.proofs.Common.{[], ◌∷◌, pos}
use Rattle.abc_cli_answers.specs.Codes.{call_code, getlocal_0, pushbyte, pushscope, setlocal_1}
use Rattle.abc_cli_answers.proofs.Listed.{one_joined}
use Rattle.abc_cli_answers.proofs.codes.first_code.Goals as goal

pub loop-function-preserved : goal.loop-function-preserved
loop-function-preserved c =
    one_joined call_code c.loop-function.function (getlocal_0 ∷ pushscope ∷ pushbyte (pos 1) ∷ setlocal_1 ∷ []) _ _ c.in_ok-push_call.ensures c.loop-function.invariant
