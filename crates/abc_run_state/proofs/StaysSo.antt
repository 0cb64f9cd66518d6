-- Values that are what they are coerced to.
use Rattle.std.proofs.Common.{◌≡◌, ℤ, Bool, refl, sym, ap, subst}
use Rattle.std.specs.Int.{int_wrap, w32}
use Rattle.abc_heap_values.specs.declared.values.Span.{Span}
use Rattle.abc_heap_values.specs.declared.values.Value.{Value}
use Rattle.abc_heap_values.specs.declared.values.Value.TheVariants as values
use Rattle.abc_link_names.specs.declared.types.Ty.TheVariants as types
use Rattle.abc_meaning.specs.World.{Went}
use Rattle.abc_meaning.specs.Ops.{coerces}
use Rattle.abc_run_state.specs.OfType.{IsOfType}

pub int_kept : (v : Value) (n : ℤ) → v ≡ values.Num n → int_wrap w32 n ≡ n → IsOfType types.Int v
int_kept v n e h p w = subst (λ (x : Value). coerces p types.Int x w ≡ Went w x) (sym e) (ap (λ z. Went w (values.Num z)) h)

pub number_kept : (v : Value) (n : ℤ) → v ≡ values.Num n → IsOfType types.Number v
number_kept v n e p w = subst (λ (x : Value). coerces p types.Number x w ≡ Went w x) (sym e) refl

pub boolean_kept : (v : Value) (b : Bool) → v ≡ values.Bool b → IsOfType types.Boolean v
boolean_kept v b e p w = subst (λ (x : Value). coerces p types.Boolean x w ≡ Went w x) (sym e) refl

pub text_kept : (v : Value) (s : Span) → v ≡ values.Text s → IsOfType types.Text v
text_kept v s e p w = subst (λ (x : Value). coerces p types.Text x w ≡ Went w x) (sym e) refl

pub any_kept : (v : Value) → IsOfType types.Any v
any_kept v p w = refl
