-- A value that was read fails its test.
use Rattle.std.proofs.Common.{◌≡◌, ℕ, Bool, false, List, Ok, Err, None, Some, refl, sym, subst, ◌∙◌}
use Rattle.std.specs.declared.option.Option.{Option}
use Rattle.abc_file_types.specs.Part.{Part, with_test, image}
use Rattle.abc_file_types.specs.declared.reason.Reason.{Reason}
use Rattle.abc_varint.specs.declared.error.ReadError.{ReadError}
use Rattle.abc_varint.specs.declared.error.ReadError.TheVariants as errors
use Rattle.abc_varint.specs.Reads.{ReadsNumber, ReadsPart, known_input}
use Rattle.abc_varint.specs.View.{View, error_kept}
use Rattle.abc_varint.proofs.Inputs.{known_is}

module _ {A S : Type 0} (left : S → Option (List ℕ)) (faults : S → ℕ) (p : Part A) (test : A → Bool) (reason : Reason) (x : A) (w w2 : View) (s s2 : S) (place : ℕ) (no : test x ≡ false) (at : place ≡ w.place) where
  -- the window does not keep that
  pub refused : error_kept (errors.Refused place reason) ≡ None → ReadsPart left faults p w s w2 s2 (Ok x) → ReadsPart left faults (with_test test reason p) w s w2 s2 (Err (errors.Refused place reason))
  refused none v = (
    (λ k. let h = v.0.4 (known_input w2 (left s2)) (known_is w2 (left s2)) in (h.0, rw (h.1, no, at) refl)),
    (λ e h. absurd (let k = v.0.0 in cc)),
    v.2,
    (λ k h. absurd cc),
    (v.0.1 ∙ sym none, v.0.3),
  )

  -- nor that of another value, made of such a one
  pub refused_image : {B : Type 0} (f : A → B) → error_kept (errors.Refused place reason) ≡ None → ReadsPart left faults p w s w2 s2 (Ok x) → ReadsPart left faults (image f (with_test test reason p)) w s w2 s2 (Err (errors.Refused place reason))
  refused_image f none v = let r = refused none v in (
    (λ k. let h = r.0 k in (h.0, rw h.1 refl)),
    (λ e h. absurd (let k = v.0.0 in cc)),
    r.2,
    (λ k h. absurd cc),
    r.4,
  )

  keeps_it : error_kept (errors.Refused place reason) ≡ Some (errors.Refused place reason) → ReadsPart left faults p w s w2 s2 (Ok x)
      → ReadsNumber left faults (with_test test reason p) w s (record w2 { kept = Some (errors.Refused place reason) }) s2 (Err (errors.Refused place reason))
  keeps_it kept v = (
    (
      (λ k. let h = v.0.4 (known_input w2 (left s2)) (known_is w2 (left s2)) in (h.0, rw (h.1, no, at) refl)),
      (λ e h. absurd (let k = v.0.0 in cc)),
      v.2,
      (λ k h. absurd cc),
      (sym kept, v.0.3),
    ),
    (refl, kept),
    (λ h. absurd cc),
  )

  -- the window keeps it
  pub refused_and_kept : (w3 : View) (e : ReadError) → error_kept (errors.Refused place reason) ≡ Some (errors.Refused place reason) → e ≡ errors.Refused place reason → w3 ≡ record w2 { kept = Some e }
      → ReadsPart left faults p w s w2 s2 (Ok x) → ReadsNumber left faults (with_test test reason p) w s w3 s2 (Err e)
  refused_and_kept w3 e kept is keeps v =
      subst (λ (u : View). ReadsNumber left faults (with_test test reason p) w s u s2 (Err e)) (sym keeps)
      (subst (λ (d : ReadError). ReadsNumber left faults (with_test test reason p) w s (record w2 { kept = Some d }) s2 (Err d)) (sym is) (keeps_it kept v))
