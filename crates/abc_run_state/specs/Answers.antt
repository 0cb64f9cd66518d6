-- What code answers that goes on or stops, as code does that may leave something to be done.
use Rattle.std.specs.Prelude.{Ok, Err}
use Rattle.std.specs.declared.result.Result.{Result}
use Rattle.abc_run_state.specs.declared.state.Left.{Left}
use Rattle.abc_run_state.specs.declared.state.Left.TheVariants as lefts
use Rattle.abc_run_state.specs.declared.state.Stop.{Stop}

-- what goes on leaves nothing to be done
abbrev pub goes_as : Result Unit Stop → Result Left Stop
goes_as (Ok u) = Ok lefts.Goes
goes_as (Err e) = Err e
