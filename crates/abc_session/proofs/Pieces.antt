-- What a sink got of one piece and then of another.
use Rattle.std.proofs.Common.{◌≡◌, ℕ, List, [], ◌++◌, Some, None, refl, sym, ap, ◌∙◌, subst}
use Rattle.std.proofs.lemmas.List.{append-nil}
use Rattle.std.specs.Prelude.{IsSome}
use Rattle.std.specs.declared.option.Option.{Option}
use Rattle.std.specs.Io.KnownBytes.{append_known}
use Rattle.abc_base.specs.Sinks.{GrowsByFront}
use Rattle.abc_base.proofs.Writing.{front_second, known_twice}

some_known : (old mid : Option (List ℕ)) (xs : List ℕ) → mid ≡ append_known old xs → IsSome old → IsSome mid
some_known None mid xs e s = absurd cc
some_known (Some ys) None xs e s = absurd cc
some_known (Some ys) (Some zs) xs e s = refl

pub got_both : (old mid new : Option (List ℕ)) (xs ys : List ℕ) → (IsSome old → mid ≡ append_known old xs) → (IsSome mid → new ≡ append_known mid ys) → IsSome old → new ≡ append_known old (xs ++ ys)
got_both old mid new xs ys f g s =
    let e = f s in
    g (some_known old mid xs e s) ∙ ap (λ (o : Option (List ℕ)). append_known o ys) e ∙ known_twice old xs ys

pub front_both : (old mid new : Option (List ℕ)) (xs ys : List ℕ) → (IsSome old → mid ≡ append_known old xs) → (IsSome mid → GrowsByFront mid new ys) → IsSome old → GrowsByFront old new (xs ++ ys)
front_both old mid new xs ys f g s =
    let e = f s in
    front_second old new xs ys (subst (λ (o : Option (List ℕ)). GrowsByFront o new ys) e (g (some_known old mid xs e s)))

-- nothing was written
pub nothing : (known : Option (List ℕ)) → IsSome known → known ≡ append_known known []
nothing None = λ some. refl
nothing (Some xs) = λ some. ap (λ (l : List ℕ). Some l) (sym (append-nil xs))
