-- A part that is exact is determined.
use Rattle.std.proofs.Common.{◌≡◌, ◌≤◌, ◌⊎◌, inl, inr, Ok, Err, refl, sym, ap, ◌∙◌}
use Rattle.std.specs.declared.result.Result.{Result}
use Rattle.abc_file_types.specs.Part.{Part, At, Refusal, Begins, limit}
use Rattle.abc_file_types.specs.Law.{Exact, IsDetermined}
use Rattle.abc_file_types.proofs.Exact.{ok_is, fine}

abbrev bad_result : {A : Type 0} → Refusal → Result (A × At) Refusal
bad_result r = Err r

either : {A : Type 0} (p : Part A) (ep : Exact p) (from : At) → from.place ≤ limit → (r : Result (A × At) Refusal) → p.reads from ≡ r → ((x : A) × (after : At) × Begins p from x after) ⊎ ((r : Refusal) × p.bad from r)
either p ep from k (Ok x) e = inl (x.0, x.1, ep.found from x.0 x.1 k e)
either p ep from k (Err r) e = inr (r, ep.refused from r k e)

same_value : {A : Type 0} (x y : A × At) → fine x ≡ fine y → (x.0 ≡ y.0) × (x.1 ≡ y.1)
same_value {A = A} x y e = let p = ok_is x y e in (ap (λ (z : A × At). z.0) p, ap (λ (z : A × At). z.1) p)

same_refusal : {A : Type 0} (r s : Refusal) → bad_result {A = A} r ≡ bad_result s → r ≡ s
same_refusal r s e = cc

not_both : {A : Type 0} (x : A × At) (r : Refusal) → fine x ≡ bad_result r → ⊥
not_both x r e = cc

pub determined : {A : Type 0} (p : Part A) → Exact p → IsDetermined p
determined {A = A} p ep = record {
  some = λ from k. either p ep from k (p.reads from) refl;
  one_value = λ from x y a b f g. same_value (x, a) (y, b) (sym (ep.again from x a f) ∙ ep.again from y b g);
  one_refusal = λ from r s f g. same_refusal {A = A} r s (sym (ep.refuses from r f) ∙ ep.refuses from s g);
  never_both = λ from x a r f g. not_both (x, a) r (sym (ep.again from x a f) ∙ ep.refuses from r g);
}
