-- Why a file isn't verified, from what the reader, the linker and the verifier answer.
use Rattle.std.proofs.Common.{◌≡◌, ℕ, ◌<◌, ◌≤◌, List, Some, None, Ok, Err, length, refl, sym, subst, arith}
use Rattle.std.specs.declared.option.Option.{Option}
use Rattle.std.proofs.lemmas.Option.{slice_get-get_or}
use Rattle.abc_bodies.specs.Places.{ArePlaces}
use Rattle.abc_link_names.specs.Linked.{IsLinkedFile, LinkedFile}
use Rattle.abc_link_layouts.specs.Numbering.{HasLayoutNumbers}
use Rattle.abc_link_names.specs.declared.error.LinkError.{LinkError}
use Rattle.abc_link_names.specs.declared.error.LinkError.TheVariants as refusals
use Rattle.abc_link_names.specs.Firsts.{IsLinkRefusal as IsUnlinked}
use Rattle.abc_link_names.specs.PartsByNumber.{body_at, no_body}
use Rattle.abc_file.specs.Reading.{AnswersFile, OfInput}
use Rattle.abc_file_types.specs.Files.{IsFileRead}
use Rattle.abc_file_types.specs.declared.tables.Abc.{Abc}
use Rattle.abc_verify_typing.specs.Routines.{Routine, routine}
use Rattle.abc_verify_typing.specs.Typing.{Derivable, Entry, Next, Join, Refutes, Broken, Unmerged}
use Rattle.abc_verify_typing.specs.declared.rule.VerifyRule.{VerifyRule}
use Rattle.abc_verify_typing.specs.declared.state.State.{State}
use Rattle.abc_verify_typing.proofs.Sized.{follows_inside}
use Rattle.abc_varint.specs.declared.error.ReadError.{ReadError}
use Rattle.abc_varint.specs.declared.error.ReadError.TheVariants as reads
use Rattle.abc_verify.specs.VerifyRefusing.{IsVerifyRefusal}
use Rattle.abc_verify.specs.declared.verify_error.VerifyError.{VerifyError}
use Rattle.abc_verify.specs.declared.verify_error.VerifyError.TheVariants as untyped
use Rattle.abc_link_names.proofs.MethodBodies.{body_inside}
use Rattle.abc_verify.specs.FileRefusing.{IsRefusalPlaced, IsFileRefused, IsFileRefusedBy, IsUnverified, IsUnverifiedBy, error_of_link, error_of_read, error_of_verify}
use Rattle.abc_verify.specs.Verified.{IsReadVerified, IsVerifiedOf}
use Rattle.abc_verify.specs.declared.verified_error.VerifiedError.{VerifiedError}
use Rattle.abc_verify.specs.declared.verified_error.VerifiedError.TheVariants as errors

-- what holds of the input, or else of some input
pub of_any : (P Q : List ℕ → Type 0) (left : Option (List ℕ)) → ((b : List ℕ) → P b → Q b) → OfInput left P → OfInput left Q
of_any P Q None f x = (x.0, f x.0 x.1)
of_any P Q (Some b) f x = f b x

-- ---- a file that doesn't link

pub link_refuses : (v : Abc) (starts : List (List ℕ)) (e : LinkError) → IsUnlinked v e → IsUnverifiedBy v starts (error_of_link e)
link_refuses v starts (refusals.Refused rule i) h = IsUnverified.unlinked rule i h
link_refuses v starts refusals.NoMemory h = tt

-- ---- places in code

-- a state is derived at an instruction, or where code that is empty begins
derived_inside : (l : LinkedFile) (m : Routine) (i : ℕ) (s : State) → Derivable l m i s → i ≤ length m.code
derived_inside l m i s Entry = omega arith
derived_inside l m i s (Next i' s' t' n' d fine f) = let h = follows_inside l m i' s' t' n' fine f in omega (arith, h)
derived_inside l m i s (Join i' s' t' j' ds dt join) = derived_inside l m i' s' ds

refuted_inside : (l : LinkedFile) (m : Routine) (i : ℕ) (r : VerifyRule) → Refutes l m i r → i ≤ length m.code
refuted_inside l m i r (Broken s r' d e) = derived_inside l m i s d
refuted_inside l m i r (Unmerged s t d d' e early) = derived_inside l m i s d

-- places that are those of the bodies have one for each refusal
pub is_placed : (v : Abc) (starts : List (List ℕ)) (l : LinkedFile) (e : VerifyError) → l.file ≡ v → ArePlaces v.bodies starts → IsVerifyRefusal l e → IsRefusalPlaced starts e
is_placed v starts l (untyped.Refused m b i r) is p h =
    let refused = h.2 in
    let lt : b < length v.bodies = subst (λ (a : Abc). b < length a.bodies) is (body_inside l.file m b refused.of_method) in
    let long = p.each b (body_at v b) (slice_get-get_or v.bodies b no_body lt) in
    let low : i ≤ length (body_at v b).code = subst (λ (a : Abc). i ≤ length (body_at a b).code) is (refuted_inside l (routine l b) i r refused.refuted) in
    let count = p.count in
    (omega (arith, lt, count), omega (arith, low, long))
is_placed v starts l untyped.NoMemory is p h = tt

-- ---- a file that links

pub verify_refuses : (v : Abc) (starts : List (List ℕ)) (l : LinkedFile) (e : VerifyError) → l.file ≡ v → IsLinkedFile l → HasLayoutNumbers l → IsVerifyRefusal l e → IsUnverifiedBy v starts (error_of_verify starts e)
verify_refuses v starts l (untyped.Refused m b i r) is linked numbered h = IsUnverified.untyped l m b i r is linked numbered h
verify_refuses v starts l untyped.NoMemory is linked numbered h = tt

-- ---- an input

-- the file that was read is the linked one
pub read_verified_is : (left : Option (List ℕ)) (v : Abc) (starts : List (List ℕ)) (l : LinkedFile) → OfInput left (λ b. AnswersFile b (Ok (v, starts))) → IsVerifiedOf v l → OfInput left (IsReadVerified l starts)
read_verified_is left v starts l f is =
    of_any (λ b. AnswersFile b (Ok (v, starts))) (IsReadVerified l starts) left
    (λ b r. record {
      read = subst (λ (a : Abc). IsFileRead (a, starts) b) (sym is.file) r;
      verified = record { file = refl; linked = is.linked; numbered = is.numbered; typed = is.typed };
    })
    f

bad_refuses : (e : ReadError) (b : List ℕ) → AnswersFile b (Err e) → IsFileRefusedBy b (error_of_read e)
bad_refuses (reads.Refused place reason) b h = IsFileRefused.bad place reason h
bad_refuses reads.ReadFault b h = tt
bad_refuses reads.NoMemory b h = tt

pub read_refuses : (left : Option (List ℕ)) (e : ReadError) → OfInput left (λ b. AnswersFile b (Err e)) → OfInput left (λ b. IsFileRefusedBy b (error_of_read e))
read_refuses left e f = of_any (λ b. AnswersFile b (Err e)) (λ b. IsFileRefusedBy b (error_of_read e)) left (bad_refuses e) f

file_refuses : (v : Abc) (starts : List (List ℕ)) (e : VerifiedError) (b : List ℕ) → IsFileRead (v, starts) b → IsUnverifiedBy v starts e → IsFileRefusedBy b e
file_refuses v starts (errors.Refused place reason) b r h = IsFileRefused.unverified v starts (errors.Refused place reason) r h
file_refuses v starts (errors.Link rule i) b r h = IsFileRefused.unverified v starts (errors.Link rule i) r h
file_refuses v starts (errors.Verify m offset rule) b r h = IsFileRefused.unverified v starts (errors.Verify m offset rule) r h
file_refuses v starts errors.ReadFault b r h = tt
file_refuses v starts errors.NoMemory b r h = tt

pub unverified_refuses : (left : Option (List ℕ)) (v : Abc) (starts : List (List ℕ)) (e : VerifiedError) → OfInput left (λ b. AnswersFile b (Ok (v, starts))) → IsUnverifiedBy v starts e → OfInput left (λ b. IsFileRefusedBy b e)
unverified_refuses left v starts e f h = of_any (λ b. AnswersFile b (Ok (v, starts))) (λ b. IsFileRefusedBy b e) left (λ b r. file_refuses v starts e b r h) f
