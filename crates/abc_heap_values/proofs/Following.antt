-- Steps one after the other.
use Rattle.std.proofs.Common.{◌≡◌, refl, subst}
use Rattle.std.specs.declared.result.Result.{Result}
use Rattle.std.specs.declared.result.Result.TheVariants.{Ok, Err}
use Rattle.abc_base.specs.declared.names.Fault.{Fault}
use Rattle.abc_heap_values.specs.Numbers.{then_number}

-- a fault ends both
pub stops : {A B : Type 0} (r : Result A Fault) (f : A → Result B Fault) (e : Fault) → Err e ≡ r → Err e ≡ then_number r f
stops {A = A} {B = B} r f e p = subst (λ (q : Result A Fault). ◌≡◌ {A = Result B Fault} (Err e) (then_number q f)) p refl

-- a value goes on
pub goes : {A B : Type 0} (r : Result A Fault) (f : A → Result B Fault) (x : A) (s : Result B Fault) → Ok x ≡ r → s ≡ f x → s ≡ then_number r f
goes {A = A} r f x s p q = subst (λ (z : Result A Fault). s ≡ then_number z f) p q
