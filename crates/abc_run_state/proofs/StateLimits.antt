-- Operations leave the limits of the heap as they are.
use Rattle.std.proofs.Common.{◌≡◌, ℕ, ◌+◌, ◌++◌, List, length, Bool, true, false, ◌&&◌, ◌||◌, nat_eq, nat_le, refl, sym, ap, ◌∙◌, if◌then◌else◌}
use Rattle.std.specs.Prelude.{Ok, Err}
use Rattle.std.specs.declared.result.Result.{Result}
use Rattle.abc_heap_values.specs.declared.values.Span.{Span}
use Rattle.abc_heap_values.specs.declared.values.Value.{Value}
use Rattle.abc_heap_values.specs.declared.values.Value.TheVariants as values
use Rattle.abc_heap_values.specs.Kinds.{is_nothing, is_text}
use Rattle.abc_heap_values.specs.declared.numbers.Conversion.{Conversion}
use Rattle.abc_heap_values.specs.declared.numbers.Conversion.TheVariants as conversions
use Rattle.abc_heap_store.specs.Heap.{Heap}
use Rattle.abc_heap_store.specs.Texts.{text_of}
use Rattle.abc_ops.specs.Conversions.{conversion_result, spelling, converted_or_null}
use Rattle.abc_ops.specs.Left.{Left, as_value, then_with, followed_by, gives_left, text_made, text_made_if, text_value}
use Rattle.abc_ops.specs.Operations.{computation, computed_single, concatenation, joined_texts, joined_to}
use Rattle.abc_ops.specs.declared.end.OpEnd.{OpEnd}
use Rattle.abc_link_names.specs.Linked.{LinkedFile}
use Rattle.abc_link_names.specs.declared.types.Ty.{Ty}
use Rattle.abc_link_names.specs.declared.types.Ty.TheVariants as types
use Rattle.abc_meaning.specs.Ops.{coerce_to}

made_limits : (b : Bool) (h : Heap) (bytes : List ℕ) → (text_made_if b h bytes).heap.limits ≡ h.limits
made_limits true h bytes = refl
made_limits false h bytes = refl

pub text_limits : (h : Heap) (bytes : List ℕ) → (text_made h bytes).heap.limits ≡ h.limits
text_limits h bytes = made_limits (nat_le (length h.made + length bytes) h.limits.text) h bytes

followed_limits : {A B : Type 0} (h : Heap) (r : Result A OpEnd) (f : Heap → A → Left B) → ((x : A) → (f h x).heap.limits ≡ h.limits) → (followed_by h r f).heap.limits ≡ h.limits
followed_limits h (Ok x) f e = e x
followed_limits h (Err end) f e = refl

value_limits : (step : Left Span) → (as_value step).heap.limits ≡ step.heap.limits
value_limits step = followed_limits step.heap step.answer text_value (λ x. refl)

pub spelled_limits : (l : LinkedFile) (h : Heap) (v : Value) → (spelling l h v).heap.limits ≡ h.limits
spelled_limits l h values.Undefined = refl
spelled_limits l h values.Null = refl
spelled_limits l h (values.Num n) = text_limits h _
spelled_limits l h (values.Bool true) = refl
spelled_limits l h (values.Bool false) = refl
spelled_limits l h (values.Text s) = refl
spelled_limits l h (values.Space n) = refl
spelled_limits l h (values.Obj o) = refl

null_limits : (l : LinkedFile) (h : Heap) (b : Bool) (v : Value) → (let x : Left Value = if b then gives_left h values.Null else as_value (spelling l h v) in x.heap.limits) ≡ h.limits
null_limits l h true v = refl
null_limits l h false v = value_limits (spelling l h v) ∙ spelled_limits l h v

pub converted_limits : (l : LinkedFile) (h : Heap) (to : Conversion) (v : Value) → (conversion_result l h to v).heap.limits ≡ h.limits
converted_limits l h conversions.ConvertS v = value_limits (spelling l h v) ∙ spelled_limits l h v
converted_limits l h conversions.ConvertI v = refl
converted_limits l h conversions.ConvertU v = refl
converted_limits l h conversions.ConvertD v = refl
converted_limits l h conversions.ConvertB v = refl
converted_limits l h conversions.ConvertO v = refl
converted_limits l h conversions.CoerceS v = null_limits l h (is_nothing v) v

pub coerced_limits : (l : LinkedFile) (h : Heap) (t : Ty) (v : Value) → (coerce_to l h t v).heap.limits ≡ h.limits
coerced_limits l h types.Any v = refl
coerced_limits l h types.Void v = refl
coerced_limits l h types.Object v = refl
coerced_limits l h types.Int v = refl
coerced_limits l h types.UInt v = refl
coerced_limits l h types.Number v = refl
coerced_limits l h types.Boolean v = refl
coerced_limits l h types.Text v = converted_limits l h conversions.CoerceS v
coerced_limits l h types.Space v = refl
coerced_limits l h (types.Of x) v = refl
coerced_limits l h (types.Interface k) v = refl

-- ---- computing

single_limits : (a b : Bool) (h : Heap) (x y z : Left Value) → x.heap ≡ h → y.heap ≡ h → z.heap ≡ h → (let r : Left Value = if a then x else (if b then y else z) in r.heap.limits) ≡ h.limits
single_limits true b h x y z e f g = ap (λ (k : Heap). k.limits) e
single_limits false true h x y z e f g = ap (λ (k : Heap). k.limits) f
single_limits false false h x y z e f g = ap (λ (k : Heap). k.limits) g

pub single_same : (h : Heap) (op : ℕ) (v : Value) → (computed_single h op v).heap.limits ≡ h.limits
single_same h op v = single_limits (nat_eq op 0x95) (nat_eq op 0x96) h _ _ _ refl refl refl

joined_limits : (l : LinkedFile) (h : Heap) (x y : Value) → (concatenation l h x y).heap.limits ≡ h.limits
joined_limits l h x y =
    first (spelling l h x) ∙ spelled_limits l h x
  where
    texts : (k : Heap) (a b : Span) → (joined_texts l k a b).heap.limits ≡ k.limits
    texts k a b = value_limits (text_made k (text_of l.file.strings k a ++ text_of l.file.strings k b)) ∙ text_limits k _

    second : (k : Heap) (a : Span) → (joined_to l k a y).heap.limits ≡ k.limits
    second k a =
        let s = spelling l k y in
        followed_limits s.heap s.answer (λ m b. joined_texts l m a b) (λ b. texts s.heap a b) ∙ spelled_limits l k y

    first : (s : Left Span) → (then_with s (λ k a. joined_to l k a y)).heap.limits ≡ s.heap.limits
    first s = followed_limits s.heap s.answer (λ k a. joined_to l k a y) (λ a. second s.heap a)

either_limits : (b : Bool) (h : Heap) (x z : Left Value) → x.heap.limits ≡ h.limits → z.heap ≡ h → (let r : Left Value = if b then x else z in r.heap.limits) ≡ h.limits
either_limits true h x z e f = e
either_limits false h x z e f = ap (λ (k : Heap). k.limits) f

pub double_same : (l : LinkedFile) (h : Heap) (op : ℕ) (x y : Value) → (computation l h op x y).heap.limits ≡ h.limits
double_same l h op x y = either_limits (nat_eq op 0xA0 && (is_text x || is_text y)) h (concatenation l h x y) _ (joined_limits l h x y) refl
