-- A reader of an exact part answers as its part says.
use Rattle.std.proofs.Common.{ℕ, ◌≤◌, List, Ok, Err}
use Rattle.std.specs.declared.result.Result.{Result}
use Rattle.std.specs.declared.option.Option.{Option}
use Rattle.abc_file_types.specs.Part.{Part, refusal, limit}
use Rattle.abc_file_types.specs.Law.{Exact}
use Rattle.abc_varint.specs.declared.error.ReadError.{ReadError}
use Rattle.abc_varint.specs.declared.error.ReadError.TheVariants as errors
use Rattle.abc_varint.specs.View.{View}
use Rattle.abc_varint.specs.Reads.{Reads, known_input, stand}
use Rattle.abc_varint.specs.Answers.{AnswersPart}
use Rattle.abc_varint.proofs.Inputs.{known_is}

pub answers : {A : Type 0} (p : Part A) → Exact p → (w w2 : View) (s s2 : Option (List ℕ)) (r : Result A ReadError) → w.place ≤ limit → Reads p.reads w s w2 s2 r → AnswersPart p w s w2 s2 r
answers p ep w w2 s s2 (Ok x) room reads = λ fresh.
    let input = known_input w2 s2 in let h = reads.4 input (known_is w2 s2) in
    record { input = input; before = h.0; after = known_is w2 s2; is = ep.found (stand w input) x (stand w2 input) room h.1 }
answers p ep w w2 s s2 (Err (errors.Refused place reason)) room reads = λ fresh.
    let input = known_input w2 s2 in let h = reads fresh in
    record { input = input; before = h.0; after = known_is w2 s2; is = ep.refused (stand w input) (refusal place reason) room h.1 }
answers p ep w w2 s s2 (Err errors.ReadFault) room reads = λ fresh. record { input = known_input w2 s2; before = (reads fresh).0; after = known_is w2 s2; is = tt }
answers p ep w w2 s s2 (Err errors.NoMemory) room reads = λ fresh. record { input = known_input w2 s2; before = (reads fresh).0; after = known_is w2 s2; is = tt }
