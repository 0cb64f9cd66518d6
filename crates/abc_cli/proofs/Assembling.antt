-- What `asm` gives, and why it stops.
use Rattle.std.proofs.Common.{◌≡◌, ℕ, zero, suc, ◌+◌, ◌≤◌, ◌<◌, List, [], ◌∷◌, ◌++◌, length, Some, None, Err, refl, sym, ap, ◌∙◌, subst, arith}
use Rattle.std.specs.Prelude.{IfSome}
use Rattle.std.proofs.lemmas.List.{append-nil}
use Rattle.std.specs.Io.KnownBytes.{Consumes, IsAtEnd}
use Rattle.std.specs.declared.option.Option.{Option}
use Rattle.abc_asm.specs.Whole.{Assembles}
use Rattle.abc_text_reader.specs.declared.error.AsmError.{AsmError}
use Rattle.abc_text_reader.specs.declared.error.AsmError.TheVariants as faults
use Rattle.abc_file.specs.Reading.{IsUsedUp, OfInput}
use Rattle.abc_base.specs.declared.input_error.InputError.{InputError}
use Rattle.abc_base.specs.declared.input_error.InputError.TheVariants as inputs
use Rattle.abc_text_lines.specs.Answers.{IsAssemblyOf}
use Rattle.abc_text_lines.specs.Rows.{fault}
use Rattle.abc_file_types.specs.declared.tables.Abc.{Abc}
use Rattle.abc_file_types.specs.Files.{file_bytes}
use Rattle.abc_text_lines.specs.declared.reason.AsmReason.TheVariants as reasons
use Rattle.abc_cli_answers.specs.declared.stop.Stop.{Stop}
use Rattle.abc_cli_answers.specs.declared.stop.Stop.TheVariants as stops
use Rattle.abc_cli_answers.specs.End.{Channel, HasFailed}
use Rattle.abc_cli_answers.specs.Answers.{On, bytes_answer}
use Rattle.abc_cli.specs.Outcome.{Asm, text_limit}
use Rattle.abc_cli_answers.specs.Stops.{GivesAllBytes, Stops, StopsAt, stop_answer, stop_of_asm, stop_of_input}
use Rattle.abc_cli_answers.proofs.Ending.{memory_stops}
use Rattle.abc_cli.proofs.Files.{memory_stops_at}

-- ---- the input that was held

-- what holds of the whole input that was held holds of the input
held : (P : List ℕ → Type 0) (a b : Option (List ℕ)) (text : List ℕ) → Consumes a b text → IsAtEnd b → P text → OfInput a P
held P None b text taken end h = (text, h)
held P (Some x) None text taken end h = absurd taken
held P (Some x) (Some y) text taken end h = subst P (sym (taken ∙ ap (λ (l : List ℕ). text ++ l) end ∙ append-nil text)) h

held_whole : (a b : Option (List ℕ)) (text : List ℕ) → Consumes a b text → IsAtEnd b → IsUsedUp a b
held_whole None b text taken end = tt
held_whole (Some x) None text taken end = absurd taken
held_whole (Some x) (Some y) text taken end = ap (λ (l : List ℕ). Some l) end

-- ---- a text that is too long

-- a list of so many zeros
zeros : ℕ → List ℕ
zeros zero = []
zeros (suc n) = 0 ∷ zeros n

zeros_length : (n : ℕ) → length (zeros n) ≡ n
unfolding zeros
zeros_length zero = refl
zeros_length (suc n) = ap suc (zeros_length n)

-- some text is longer than any limit
longer : (n : ℕ) → n < length (zeros (n + 1))
longer n = let e = zeros_length (n + 1) in omega arith

too_long : (a : Option (List ℕ)) → IfSome a (λ input. text_limit < length input) → On Asm a (stop_answer (stops.Text 0 reasons.TextTooLong))
too_long None h = (zeros (text_limit + 1), Asm.too_long (longer text_limit) refl)
too_long (Some x) h = Asm.too_long h refl

pub input_stops : (source : Channel) (e : InputError) → (e ≡ inputs.TooLong → IfSome source.before (λ input. text_limit < length input)) → (e ≡ inputs.ReadFault → HasFailed source) → Stops Asm source (stop_of_input e)
input_stops source inputs.TooLong long cause = record { outcome = λ d. too_long source.before (long refl); cause = λ h. absurd cc }
input_stops source inputs.ReadFault long cause = record { outcome = λ d. absurd d; cause = λ h. cause refl }
input_stops source inputs.NoMemory long cause = memory_stops Asm source

-- ---- a text

pub asm_stops_at : (text : List ℕ) (e : AsmError) → length text ≤ text_limit → Assembles text (Err e) → StopsAt (Asm text) (stop_of_asm e)
asm_stops_at text (faults.Refused line reason) short h = record { answer = λ d. Asm.refused (fault line reason) short h refl; read = λ e. absurd cc }
asm_stops_at text faults.NoMemory short h = memory_stops_at (Asm text)

pub assembled_gives : (text bytes : List ℕ) (v : Abc) → length text ≤ text_limit → IsAssemblyOf text v → bytes ≡ file_bytes v → Asm text (bytes_answer bytes)
assembled_gives text bytes v short is e = Asm.assembled v short is (ap bytes_answer e)

-- ---- the command

pub text_gives : (source : Channel) (text bytes : List ℕ) → Consumes source.before source.after text → IsAtEnd source.after → Asm text (bytes_answer bytes) → GivesAllBytes Asm source bytes
text_gives source text bytes taken end x = record {
  outcome = held (λ input. Asm input (bytes_answer bytes)) source.before source.after text taken end x;
  used_up = held_whole source.before source.after text taken end;
}

pub text_stops : (source : Channel) (text : List ℕ) (stop : Stop) → Consumes source.before source.after text → IsAtEnd source.after → StopsAt (Asm text) stop → Stops Asm source stop
text_stops source text stop taken end x = record {
  outcome = λ d. held (λ input. Asm input (stop_answer stop)) source.before source.after text taken end (x.answer d);
  cause = λ e. absurd (x.read e);
}
