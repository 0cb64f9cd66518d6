-- What a run of `dis` that ends well leaves in `out`.
use Rattle.std.proofs.Common.{◌≡◌, ℕ, List, ap, subst, sym, ◌≤◌, length, ◌∙◌, arith}
use Rattle.abc_base.specs.declared.formula.Formula.{Formula}
use Rattle.abc_base.specs.declared.status.Status.{Status}
use Rattle.abc_base.specs.declared.status.Status.TheVariants as status
use Rattle.abc_text_lines.specs.Listing.{listing}
use Rattle.abc_text_lines.specs.Answers.{IsAssemblyFault, IsAssemblyOf}
use Rattle.abc_text_lines.specs.Rows.{Fault}
use Rattle.abc_file_types.specs.declared.tables.Abc.{Abc}
use Rattle.abc_file_types.specs.Files.{IsFile, file_bytes}
use Rattle.abc_file_types.proofs.Whole.{decided}
use Rattle.abc_cli_answers.specs.declared.command.Command.TheVariants as commands
use Rattle.abc_cli_answers.specs.Answers.{Answer, OfFile, bytes_answer}
use Rattle.abc_cli.specs.Outcome.{Asm, Canon, CommandOutcome, Dis, OutcomeOf, text_limit}
use Rattle.abc_cli_answers.specs.End.{Channel, Got, HasFailed, IsEnd, Ends}
use Rattle.abc_cli.specs.Listed.{AreBytes, IsListing, Lists}
use Rattle.abc_verify.proofs.Verifying.{of_any}

-- a run that ended well wrote an answer of its outcome
pub ended_well : (P : Answer → Type 0) (F : Type 0) (out err : Channel) (s : Status) → IsEnd P F out err s → s ≡ status.Done → (a : Answer) × P a × Got out a.out × (a.status ≡ status.Done)
ended_well P F out err s (IsEnd.defined a x y z) e = (a, x, y, e)
ended_well P F out err s (IsEnd.read_fault x y z) e = absurd cc
ended_well P F out err s (IsEnd.no_memory y z) e = absurd cc
ended_well P F out err s (IsEnd.out_failed a x y z w) e = absurd cc
ended_well P F out err s (IsEnd.both_failed a x y z w v) e = absurd cc
ended_well P F out err s (IsEnd.line_failed a x y z w) e = absurd cc
ended_well P F out err s (IsEnd.read_line_failed x y z w) e = absurd cc
ended_well P F out err s (IsEnd.memory_line_failed y z w) e = absurd cc

-- what disassembly says of each file that bytes spell
abbrev pub IsReadBack : Type 0
IsReadBack = (v : Abc) → (b : List ℕ) → AreBytes b → IsFile v b → IsAssemblyOf (listing v) v

abbrev pub IsNoFault : Type 0
IsNoFault = (v : Abc) → (b : List ℕ) → (f : Fault) → AreBytes b → IsFile v b → IsAssemblyFault (listing v) f → ⊥

abbrev pub IsNoOther : Type 0
IsNoOther = (v w : Abc) → (b : List ℕ) → AreBytes b → IsFile v b → IsAssemblyOf (listing v) w → w ≡ v

-- what `asm` of a file's one text gives
assembled_as : (text : List ℕ) (v : Abc) → ((w : Abc) → IsAssemblyOf text w → w ≡ v) → ((f : Fault) → IsAssemblyFault text f → ⊥) → length text ≤ text_limit → (a : Answer) → Asm text a → a ≡ bytes_answer (file_bytes v)
assembled_as text v other fault short a (Asm.assembled w fits is x) = x ∙ ap (λ (u : Abc). bytes_answer (file_bytes u)) (other w is)
assembled_as text v other fault short a (Asm.refused f fits is x) = absurd (fault f is)
assembled_as text v other fault short a (Asm.too_long long x) = absurd (omega arith)

-- what `canon` gives
canon_of : (v : Abc) (input : List ℕ) (a : Answer) → IsFile v input → OfFile Canon input a → a ≡ bytes_answer (file_bytes v)
canon_of v input a f (OfFile.accepted w g x) = x ∙ ap (λ (u : Abc). bytes_answer (file_bytes u)) ((decided input).one_value w v g f)
canon_of v input a f (OfFile.refused r bad x) = absurd ((decided input).never_both v r f bad)

listed : IsReadBack → IsNoOther → IsNoFault → (fs : List Formula) (out : Channel) (a : Answer) → Got out a.out → a.status ≡ status.Done → (input : List ℕ) → OutcomeOf fs commands.Dis input a → IsListing out input
listed text other fault fs out a got done input (OfFile.accepted v f x) = record {
  value = v;
  bytes = listing v;
  read = f;
  got = subst (λ (y : Answer). Got out y.out) x got;
  text = λ bytes. record {
    is_text = text v input bytes f;
    no_other = λ w. other v w input bytes f;
    assembled = assembled_as (listing v) v (λ w. other v w input bytes f) (λ d. fault v input d bytes f);
  };
  as_canon = λ bytes short a b canon asm. canon_of v input a f canon ∙ sym (assembled_as (listing v) v (λ w. other v w input bytes f) (λ d. fault v input d bytes f) short b asm);
}
listed text other fault fs out a got done input (OfFile.refused r f x) = let k = ap (λ (y : Answer). y.status) x in absurd cc

pub lists : IsReadBack → IsNoOther → IsNoFault → (fs : List Formula) (source out err : Channel) (s : Status) → Ends (CommandOutcome fs commands.Dis) source out err s → s ≡ status.Done → Lists source out
lists text other fault fs source out err s end done =
    let a = ended_well (CommandOutcome fs commands.Dis source.before) (HasFailed source) out err s end done in
    of_any (λ input. OutcomeOf fs commands.Dis input a.0) (IsListing out) source.before (λ input. listed text other fault fs out a.0 a.2 a.3 input) a.1
