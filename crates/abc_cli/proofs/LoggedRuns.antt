-- A run whose log is handed on by blocks.
use Rattle.std.proofs.Common.{◌≡◌, ◌⊎◌, ℕ, ◌≤◌, List, ◌++◌, inl, inr, take, drop, refl, sym, ap, subst, ◌∙◌, arith}
use Rattle.std.proofs.lemmas.List.{take-append-drop}
use Rattle.std.specs.Prelude.{IsSome}
use Rattle.std.specs.Io.KnownBytes.{Keeps, append_known}
use Rattle.std.specs.declared.option.Option.{Option}
use Rattle.abc_base.specs.Faults.{Rose}
use Rattle.abc_base.proofs.Writing.{front_first}
use Rattle.abc_base.specs.Sinks.{GrowsByFront}
use Rattle.abc_log_blocks.specs.Begun.{BeginsWith}
use Rattle.abc_log_blocks.proofs.Blocks.{front_below, whole_below}
use Rattle.abc_machine.specs.Ended.{HasRun}
use Rattle.abc_machine.specs.Logged.{LogsRun}
use Rattle.abc_machine.specs.declared.ends.End.{End}
use Rattle.abc_machine.specs.declared.ends.End.TheVariants as ends
use Rattle.abc_meaning.specs.Meaning.{Meaning, Ran}
use Rattle.abc_cli.specs.LoggedRuns.{EndsBlocks}

failed : (result : End) (waiting : List ℕ) → EndsBlocks ends.WriteFault result waiting → result ≡ ends.WriteFault
failed result waiting (inl same) = same.0
failed result waiting (inr fault) = fault

module _ (before old mid now : Option (List ℕ)) (waiting : List ℕ) (same : old ≡ before) (keeps : Keeps mid (append_known now waiting)) where
  told : IsSome before → IsSome old
  told some = subst IsSome (sym same) some

  kept : (wrote : List ℕ) → mid ≡ append_known old wrote → Keeps (append_known before wrote) (append_known now waiting)
  kept wrote e = subst (λ (o : Option (List ℕ)). Keeps o (append_known now waiting)) (e ∙ ap (λ (o : Option (List ℕ)). append_known o wrote) same) keeps

  front : (lines wrote : List ℕ) (k : ℕ) → BeginsWith before now → IsSome before → wrote ≡ take k lines → mid ≡ append_known old wrote → GrowsByFront before now lines
  front lines wrote k begun some cut e =
      let all : wrote ++ drop k lines ≡ lines = ap (λ (l : List ℕ). l ++ drop k lines) cut ∙ take-append-drop k lines in
      subst (GrowsByFront before now) all (front_first before now wrote (drop k lines) (front_below before now wrote waiting begun some (kept wrote e)))

-- all its lines are handed on, or a front of them where writing failed
pub in_blocks : (lines : List ℕ) (m : Meaning) (before old mid now : Option (List ℕ)) (waiting : List ℕ) (end result : End) → LogsRun lines m old mid end → old ≡ before → Keeps mid (append_known now waiting) → BeginsWith before now → EndsBlocks end result waiting
    → LogsRun lines m before now result
in_blocks lines m before old mid now waiting end result (LogsRun.logged log wrote e x is got) same keeps begun (inl both) =
    subst (λ (z : End). LogsRun log (Ran wrote e) before now z) (sym both.0)
    (LogsRun.logged log wrote e x is (λ some. whole_below before now log waiting some (kept before old mid now waiting same keeps log (got (told before old mid now waiting same keeps some))) both.1))
in_blocks lines m before old mid now waiting end result (LogsRun.logged log wrote e x is got) same keeps begun (inr fault) =
    subst (λ (z : End). LogsRun log (Ran wrote e) before now z) (sym fault)
    (LogsRun.failed log wrote e (λ some. front_below before now log waiting begun some (kept before old mid now waiting same keeps log (got (told before old mid now waiting same keeps some)))))
in_blocks lines m before old mid now waiting end result (LogsRun.failed log wrote e rest) same keeps begun ended =
    subst (λ (z : End). LogsRun log (Ran wrote e) before now z) (sym (failed result waiting ended))
    (LogsRun.failed log wrote e (λ some.
    let f : GrowsByFront old mid log = rest (told before old mid now waiting same keeps some) in
    front before old mid now waiting same keeps log (take f.count log) f.count begun some refl f.front))

-- the count of faults rose where writing failed
pub has_run : (first mid last : ℕ) (end result : End) → HasRun first mid end → mid ≤ last → (result ≡ ends.WriteFault → (end ≡ ends.WriteFault) ⊎ Rose mid last) → HasRun first last result
has_run first mid last end result run later cause = record {
  later = omega (arith, run.later, later);
  failed = λ fault. elim (cause fault) [ inl e ↦ (let rose = run.failed e in omega (arith, rose, later)) | inr rose ↦ omega (arith, rose, run.later) ];
}
