-- A value that is coerced to a type is of the type's kind.
use Rattle.std.proofs.Common.{◌≡◌, ℤ, Bool, true, false, refl, ap, subst}
use Rattle.std.specs.Prelude.{IfOk, Ok, Err, if◌then◌else◌}
use Rattle.std.specs.declared.result.Result.{Result}
use Rattle.abc_base.specs.declared.names.Fault.{Fault}
use Rattle.abc_base.specs.declared.names.HostClass.TheVariants as hosts
use Rattle.abc_heap_values.specs.declared.values.Span.{Span}
use Rattle.abc_heap_values.specs.declared.values.Value.{Value}
use Rattle.abc_heap_values.specs.declared.values.Value.TheVariants as values
use Rattle.abc_heap_values.specs.Kinds.{is_nothing}
use Rattle.abc_heap_values.specs.Numbers.{int_of, number_of, uint_of}
use Rattle.abc_heap_store.specs.Heap.{Heap}
use Rattle.abc_meaning.proofs.ValueKinds.{type_holds}
use Rattle.abc_objects.specs.Values.{Exists, IsValueOf}
use Rattle.abc_ops.specs.Conversions.{spelling}
use Rattle.abc_ops.specs.Left.{Left, as_value, followed_by, gives_left, number_or_fault, text_value}
use Rattle.abc_ops.specs.declared.end.OpEnd.{OpEnd}
use Rattle.abc_ops.specs.declared.end.OpEnd.TheVariants as ends
use Rattle.abc_link_names.specs.Linked.{IsLinkedFile, LinkedFile}
use Rattle.abc_link_names.specs.Types.{kind_of_type}
use Rattle.abc_link_names.specs.declared.types.Kind.{Kind}
use Rattle.abc_link_names.specs.declared.types.Kind.TheVariants as kinds
use Rattle.abc_link_names.specs.declared.types.Ty.{Ty}
use Rattle.abc_link_names.specs.declared.types.Ty.TheVariants as types
use Rattle.abc_run_state.specs.Outer.{at_heap}
use Rattle.abc_meaning.specs.Ops.{coerce_to, coerces, outcome}
use Rattle.abc_meaning.specs.Setting.{Setting}
use Rattle.abc_meaning.specs.Types.{is_of_type}
use Rattle.abc_meaning.specs.World.{Went, World}

-- what is answered, in the heap that is left
abbrev LeftHolds : LinkedFile → Kind → Left Value → Type 0
LeftHolds l k step = IfOk step.answer (IsValueOf l step.heap k)

number_holds : (l : LinkedFile) (h : Heap) (r : Result ℤ Fault) → IfOk (number_or_fault r) (IsValueOf l h kinds.Num)
number_holds l h (Ok n) = tt
number_holds l h (Err f) = tt

text_holds : (l : LinkedFile) (h : Heap) (r : Result Span OpEnd) → LeftHolds l kinds.Text (followed_by h r text_value)
text_holds l h (Ok t) = tt
text_holds l h (Err e) = tt

null_holds : (l : LinkedFile) (h : Heap) (v : Value) (b : Bool) → LeftHolds l kinds.Text (if b then gives_left h values.Null else as_value (spelling l h v))
null_holds l h v true = tt
null_holds l h v false = text_holds l (spelling l h v).heap (spelling l h v).answer

kept_holds : (l : LinkedFile) (h : Heap) (t : Ty) (v : Value) → IsLinkedFile l → Exists l h v → IsValueOf l h (kind_of_type l t) values.Null → (a b : Bool) → is_of_type l h t v ≡ b
    → IfOk (let r : Result Value OpEnd = if a then Ok values.Null else (if b then Ok v else Err (ends.Throw hosts.TypeError)) in r) (IsValueOf l h (kind_of_type l t))
kept_holds l h t v f e null true b q = null
kept_holds l h t v f e null false true q = type_holds l h t v f e q
kept_holds l h t v f e null false false q = tt

pub coerced_holds : (l : LinkedFile) (h : Heap) (t : Ty) (v : Value) → IsLinkedFile l → Exists l h v → LeftHolds l (kind_of_type l t) (coerce_to l h t v)
coerced_holds l h types.Any v f e = tt
coerced_holds l h types.Void v f e = tt
coerced_holds l h types.Object v f e = tt
coerced_holds l h types.Int v f e = number_holds l h (int_of v)
coerced_holds l h types.UInt v f e = number_holds l h (uint_of v)
coerced_holds l h types.Number v f e = number_holds l h (number_of v)
coerced_holds l h types.Boolean v f e = tt
coerced_holds l h types.Text v f e = null_holds l h v (is_nothing v)
coerced_holds l h types.Space v f e = kept_holds l h types.Space v f e tt (is_nothing v) (is_of_type l h types.Space v) refl
coerced_holds l h (types.Of x) v f e = kept_holds l h (types.Of x) v f e tt (is_nothing v) (is_of_type l h (types.Of x) v) refl
coerced_holds l h (types.Interface k) v f e = kept_holds l h (types.Interface k) v f e tt (is_nothing v) (is_of_type l h (types.Interface k) v) refl

-- what goes on
went_holds : (l : LinkedFile) (k : Kind) (h : Heap) (a : Result Value OpEnd) (w n : World) (x : Value) → outcome (at_heap h w) a ≡ Went n x → IfOk a (IsValueOf l h k) → IsValueOf l n.heap k x
went_holds l k h (Ok y) w n x e i =
    let v : y ≡ x = cc in
    let m : at_heap h w ≡ n = cc in
    subst (λ (g : Heap). IsValueOf l g k x) (ap (λ (u : World). u.heap) m) (subst (IsValueOf l h k) v i)
went_holds l k h (Err d) w n x e i = absurd (no d e)
  where
    no : (d : OpEnd) → outcome (at_heap h w) (Err d) ≡ Went n x → ⊥
    no d e = cc

pub coercion_holds : (p : Setting) (t : Ty) (v x : Value) (w n : World) → IsLinkedFile p.linked → Exists p.linked w.heap v → coerces p t v w ≡ Went n x → IsValueOf p.linked n.heap (kind_of_type p.linked t) x
coercion_holds p t v x w n f e is =
    let step = coerce_to p.linked w.heap t v in
    went_holds p.linked (kind_of_type p.linked t) step.heap step.answer w n x is (coerced_holds p.linked w.heap t v f e)
