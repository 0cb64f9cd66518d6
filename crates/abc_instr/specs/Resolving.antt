-- What the search for targets answers.
use Rattle.std.specs.Prelude.{◌≡◌, List, ◌++◌, Ok, Err}
use Rattle.std.specs.declared.result.Result.{Result}
use Rattle.abc_file_types.specs.declared.reason.Reason.TheVariants as reasons
use Rattle.abc_file_types.specs.Part.{Refusal, refusal, ◌>>=◌}
use Rattle.abc_instr.specs.declared.resolve.Missed.{Missed}
use Rattle.abc_instr.specs.declared.resolve.Missed.TheVariants as missed

-- the value or the first target that leads nowhere, unless memory ran out
abbrev pub Resolves : {A : Type 0} → Result A Refusal → Result A Missed → Type 0
Resolves spec (Ok x) = spec ≡ Ok x
Resolves spec (Err (missed.Target place)) = spec ≡ Err (refusal place reasons.Target)
Resolves spec (Err missed.NoMemory) = Unit {0}

-- what was found before, and what is still to be found
abbrev pub onto_found : {A : Type 0} → List A → Result (List A) Refusal → Result (List A) Refusal
onto_found front read = read >>= λ xs. Ok (front ++ xs)
