-- Two answers of `replay`.
use Rattle.std.proofs.Common.{◌≡◌, ◌⊎◌, inl, inr, ℕ, ◌+◌, ◌<◌, List, ◌++◌, Some, length, take, drop, refl, sym, ap, subst, ◌∙◌, arith}
use Rattle.std.proofs.lemmas.Bool.{cases_order}
use Rattle.abc_base.specs.declared.formula.Formula.{Formula}
use Rattle.abc_base.specs.declared.status.Status.TheVariants as status
use Rattle.abc_file_types.specs.Part.{refusal}
use Rattle.abc_file_types.specs.declared.tables.Abc.{Abc}
use Rattle.abc_file_types.proofs.Whole.{decided}
use Rattle.abc_link_names.specs.Linked.{LinkedFile}
use Rattle.abc_log.specs.Followed.{parts_from}
use Rattle.abc_log.specs.Heads.{GoesWrong, IsWrong}
use Rattle.abc_log.specs.Lines.{head_line, limits_line}
use Rattle.abc_meaning.specs.Logs.{log}
use Rattle.abc_replay.specs.Replays.{HasLogParts, IsLogRefused, SpellsVerified, error_of, place_behind}
use Rattle.abc_replay.specs.declared.error.ReplayError.{ReplayError}
use Rattle.abc_replay.specs.declared.error.ReplayError.TheVariants as errors
use Rattle.abc_replay.specs.declared.error.ReplayReason.TheVariants as reasons
use Rattle.abc_replay.proofs.Excluding.{length-head_line, never_both, one_number, right_head, same_front, same_head, same_limits, same_numbers, same_text, stands_right}
use Rattle.abc_verify.specs.FileRefusing.{IsFileRefused as IsNoVerifiedFile, IsUnverified, bad, unlinked, untyped, unverified}
use Rattle.abc_verify.specs.declared.verified_error.VerifiedError.{VerifiedError}
use Rattle.abc_verify.specs.declared.verified_error.VerifiedError.TheVariants as files
use Rattle.abc_verify.proofs.Single.{one_numbered}
use Rattle.abc_cli_answers.specs.Answers.{Answer, bytes_answer, line_answer}
use Rattle.abc_cli_answers.specs.Lines.{unverified_text}
use Rattle.abc_cli.specs.Answered.{AreAlikeAnswers, NameOneMethod}
use Rattle.abc_cli.specs.Logs.{Replay, replayed_line, unreplayed_text}
use Rattle.abc_cli.proofs.OneFile.{file_of, not_unverified, one_read, one_unverified}

-- ---- the parts of an input

one_place : (p q : ℕ) (input : List ℕ) → GoesWrong 0 p input → GoesWrong 0 q input → p ≡ q
one_place p q input w u = go (cases_order p q)
  where
    never : (r s : ℕ) (x : GoesWrong 0 r input) (y : GoesWrong 0 s input) → r < s → ⊥
    never r s x y lt = stands_right 0 y.right x.right y.rest x.rest y.stand (sym y.parts ∙ x.parts) (omega (arith, lt, x.far, y.far)) (subst (λ k. IsWrong k x.rest) x.far x.wrong)

    go : (p ≡ q) ⊎ ((p < q) ⊎ (q < p)) → p ≡ q
    go (inl e) = e
    go (inr (inl lt)) = absurd (never p q w u lt)
    go (inr (inr lt)) = absurd (never q p u w lt)

one_parts : (input bytes rest bytes2 rest2 : List ℕ) → HasLogParts input bytes rest → HasLogParts input bytes2 rest2 → (bytes ≡ bytes2) × (rest ≡ rest2)
one_parts input bytes rest bytes2 rest2 p q =
    let both = same_front (head_line p.stated) (head_line q.stated) p.following q.following (length-head_line p.stated ∙ sym (length-head_line q.stated)) (sym p.is ∙ q.is) in
    let stated = same_head p.stated q.stated p.low q.low both.0 in (
      p.file_is ∙ (λ i. take (stated i) (both.1 i)) ∙ sym q.file_is,
      p.rest_is ∙ (λ i. drop (stated i) (both.1 i)) ∙ sym q.rest_is,
    )

not_wrong : (place : ℕ) (input bytes rest : List ℕ) → GoesWrong 0 place input → HasLogParts input bytes rest → ⊥
not_wrong place input bytes rest w p = right_head p.stated place input p.following p.is w

-- ---- the file

-- bytes that are no verified file
not_verified : (formulas : List Formula) (bytes : List ℕ) (l : LinkedFile) (e : VerifiedError) → SpellsVerified formulas bytes l → IsNoVerifiedFile bytes e → ⊥
not_verified formulas bytes l e s (bad place reason is) = (decided bytes).never_both l.file (refusal place reason) s.spells is
not_verified formulas bytes l e s (unverified v starts f read why) =
    not_unverified v starts l f ((decided bytes).one_value l.file v s.spells (file_of v starts bytes read)) s.verified.linked s.numbered s.verified.typed why

-- why a file isn't verified is told of a log as of the file
told_alike : (v : Abc) (starts : List (List ℕ)) (e : VerifiedError) → IsUnverified v starts e → unreplayed_text (error_of e) ≡ unverified_text e
unfolding error_of
told_alike v starts e (unlinked rule i f) = refl
told_alike v starts e (untyped l m b i rule is linked numbered f) = refl

one_no_file : (bytes : List ℕ) (d e : VerifiedError) (a b : Answer) → IsNoVerifiedFile bytes d → IsNoVerifiedFile bytes e → a ≡ line_answer status.Refused (unreplayed_text (error_of d)) → b ≡ line_answer status.Refused (unreplayed_text (error_of e)) → AreAlikeAnswers bytes a b
one_no_file bytes d e a b (bad place reason is) (bad place2 reason2 is2) x y =
    let same = (decided bytes).one_refusal (refusal place reason) (refusal place2 reason2) is is2 in
    inl (x ∙ (λ i. line_answer status.Refused (unreplayed_text (error_of (files.Refused (same i).place (same i).reason)))) ∙ sym y)
one_no_file bytes d e a b (bad place reason is) (unverified v starts f read why) x y = absurd ((decided bytes).never_both v (refusal place reason) (file_of v starts bytes read) is)
one_no_file bytes d e a b (unverified v starts f read why) (bad place reason is) x y = absurd ((decided bytes).never_both v (refusal place reason) (file_of v starts bytes read) is)
one_no_file bytes d e a b (unverified v starts f read why) (unverified w others g read2 why2) x y =
    let same = one_read (v, starts) (w, others) bytes read read2 in
    let here : IsUnverified v starts g = subst (λ (p : Abc × List (List ℕ)). IsUnverified p.0 p.1 g) (sym same) why2 in
    one_unverified bytes v starts f g a b read why here (x ∙ ap (line_answer status.Refused) (told_alike v starts f why)) (y ∙ ap (line_answer status.Refused) (told_alike v starts g here))

-- ---- two refusals

-- two answers are equal, or name one method of the file of the log
abbrev AreAlikeIn : List ℕ → Answer → Answer → Type 0
AreAlikeIn input a b = (a ≡ b) ⊎ ((file : List ℕ) × ((rest : List ℕ) × HasLogParts input file rest) × NameOneMethod file a b)

one_linked : (formulas : List Formula) (bytes : List ℕ) (l k : LinkedFile) → SpellsVerified formulas bytes l → SpellsVerified formulas bytes k → l ≡ k
one_linked formulas bytes l k s u = one_numbered l k s.numbered u.numbered ((decided bytes).one_value l.file k.file s.spells u.spells)

one_refusal : (formulas : List Formula) (input : List ℕ) (d e : ReplayError) (a b : Answer) → IsLogRefused formulas input d → IsLogRefused formulas input e → a ≡ line_answer status.Refused (unreplayed_text d) → b ≡ line_answer status.Refused (unreplayed_text e) → AreAlikeIn input a b
one_refusal formulas input d e a b (IsLogRefused.head p w) (IsLogRefused.head q u) x y =
    inl (x ∙ ap (λ (n : ℕ). line_answer status.Refused (unreplayed_text (errors.Refused n reasons.LogHead))) (one_place p q input w u) ∙ sym y)
one_refusal formulas input d e a b (IsLogRefused.head p w) (IsLogRefused.file bytes rest f parts why) x y = absurd (not_wrong p input bytes rest w parts)
one_refusal formulas input d e a b (IsLogRefused.head p w) (IsLogRefused.limits bytes rest l parts spells none) x y = absurd (not_wrong p input bytes rest w parts)
one_refusal formulas input d e a b (IsLogRefused.head p w) (IsLogRefused.differs bytes rest found l fuel m n parts spells within there parted) x y = absurd (not_wrong p input bytes rest w parts)
one_refusal formulas input d e a b (IsLogRefused.file bytes rest f parts why) (IsLogRefused.head p w) x y = absurd (not_wrong p input bytes rest w parts)
one_refusal formulas input d e a b (IsLogRefused.file bytes rest f parts why) (IsLogRefused.file bytes2 rest2 g parts2 why2) x y =
    let same = one_parts input bytes2 rest2 bytes rest parts2 parts in
    alike (one_no_file bytes f g a b why (subst (λ (z : List ℕ). IsNoVerifiedFile z g) same.0 why2) x y)
  where
    alike : AreAlikeAnswers bytes a b → AreAlikeIn input a b
    alike (inl same) = inl same
    alike (inr named) = inr (bytes, (rest, parts), named)
one_refusal formulas input d e a b (IsLogRefused.file bytes rest f parts why) (IsLogRefused.limits bytes2 rest2 l parts2 spells none) x y =
    absurd (not_verified formulas bytes2 l f spells (subst (λ (z : List ℕ). IsNoVerifiedFile z f) (one_parts input bytes rest bytes2 rest2 parts parts2).0 why))
one_refusal formulas input d e a b (IsLogRefused.file bytes rest f parts why) (IsLogRefused.differs bytes2 rest2 found l fuel m n parts2 spells within there parted) x y =
    absurd (not_verified formulas bytes2 l f spells (subst (λ (z : List ℕ). IsNoVerifiedFile z f) (one_parts input bytes rest bytes2 rest2 parts parts2).0 why))
one_refusal formulas input d e a b (IsLogRefused.limits bytes rest l parts spells none) (IsLogRefused.head p w) x y = absurd (not_wrong p input bytes rest w parts)
one_refusal formulas input d e a b (IsLogRefused.limits bytes rest l parts spells none) (IsLogRefused.file bytes2 rest2 f parts2 why) x y =
    absurd (not_verified formulas bytes l f spells (subst (λ (z : List ℕ). IsNoVerifiedFile z f) (one_parts input bytes2 rest2 bytes rest parts2 parts).0 why))
one_refusal formulas input d e a b (IsLogRefused.limits bytes rest l parts spells none) (IsLogRefused.limits bytes2 rest2 k parts2 spells2 none2) x y =
    inl (x ∙ ap (λ (z : List ℕ). line_answer status.Refused (unreplayed_text (errors.Refused (place_behind z 0) reasons.LogLimits))) (one_parts input bytes rest bytes2 rest2 parts parts2).0 ∙ sym y)
one_refusal formulas input d e a b (IsLogRefused.limits bytes rest l parts spells none) (IsLogRefused.differs bytes2 rest2 found k fuel m n parts2 spells2 within there parted) x y =
    absurd (none fuel m found within ((one_parts input bytes rest bytes2 rest2 parts parts2).1 ∙ there))
one_refusal formulas input d e a b (IsLogRefused.differs bytes rest found l fuel m n parts spells within there parted) (IsLogRefused.head p w) x y = absurd (not_wrong p input bytes rest w parts)
one_refusal formulas input d e a b (IsLogRefused.differs bytes rest found l fuel m n parts spells within there parted) (IsLogRefused.file bytes2 rest2 f parts2 why) x y =
    absurd (not_verified formulas bytes l f spells (subst (λ (z : List ℕ). IsNoVerifiedFile z f) (one_parts input bytes2 rest2 bytes rest parts2 parts).0 why))
one_refusal formulas input d e a b (IsLogRefused.differs bytes rest found l fuel m n parts spells within there parted) (IsLogRefused.limits bytes2 rest2 k parts2 spells2 none) x y =
    absurd (none fuel m found within ((one_parts input bytes2 rest2 bytes rest parts2 parts).1 ∙ there))
one_refusal formulas input d e a b (IsLogRefused.differs bytes rest found l fuel m n parts spells within there parted) (IsLogRefused.differs bytes2 rest2 found2 k fuel2 m2 n2 parts2 spells2 within2 there2 parted2) x y =
    let behind = one_parts input bytes rest bytes2 rest2 parts parts2 in
    let one : k ≡ l = one_linked formulas bytes2 k l spells2 (subst (λ (z : List ℕ). SpellsVerified formulas z l) behind.0 spells) in
    let lines : limits_line fuel m ++ found ≡ limits_line fuel2 m2 ++ found2 = sym there ∙ behind.1 ∙ there2 in
    let texts = same_text fuel fuel2 m m2 found found2 within within2 lines in
    let limits = same_limits fuel fuel2 m m2 (same_numbers fuel fuel2 m m2 within within2 texts.0) in
    let more : found ≡ found2 = ap (drop 1) texts.1 in
    let parting : parts_from 0 found (log (record { linked = l; formulas = formulas }) m fuel) ≡ parts_from 0 found2 (log (record { linked = k; formulas = formulas }) m2 fuel2) =
    λ i. parts_from 0 (more i) (log (record { linked = sym one i; formulas = formulas }) (limits.1 i) (limits.0 i)) in
    let places : n ≡ n2 = same_some (sym parted ∙ parting ∙ parted2) in
    inl (x ∙ (λ i. line_answer status.Refused (unreplayed_text (errors.Refused (place_behind (behind.0 i) (length (limits_line (limits.0 i) (limits.1 i)) + places i)) reasons.LogDiffers))) ∙ sym y)
  where
    same_some : {i j : ℕ} → Some i ≡ Some j → i ≡ j
    same_some g = cc

pub one_replay : (formulas : List Formula) (input : List ℕ) (a b : Answer) → Replay formulas input a → Replay formulas input b → AreAlikeIn input a b
one_replay formulas input a b (Replay.replayed n is x) (Replay.replayed k is2 y) = inl (x ∙ ap (λ (j : ℕ). bytes_answer (replayed_line j)) (one_number formulas input n k is is2) ∙ sym y)
one_replay formulas input a b (Replay.replayed n is x) (Replay.refused e why y) = absurd (never_both formulas input n e is why)
one_replay formulas input a b (Replay.refused e why x) (Replay.replayed n is y) = absurd (never_both formulas input n e is why)
one_replay formulas input a b (Replay.refused d why x) (Replay.refused e why2 y) = one_refusal formulas input d e a b why why2 x y
