-- Operations leave a sound world, and what they answer is there.
use Rattle.std.proofs.Common.{◌≡◌, ◌⊎◌, inl, inr, ℕ, ◌+◌, List, ◌++◌, length, ℤ, refl, sym, subst, arith, length-append}
use Rattle.std.specs.Prelude.{Bool, true, false, not, ◌&&◌, ◌||◌, nat_eq, nat_le, if◌then◌else◌}
use Rattle.std.specs.Fmt.{signed_decimal}
use Rattle.std.specs.declared.result.Result.{Result}
use Rattle.std.specs.declared.result.Result.TheVariants.{Ok, Err}
use Rattle.std.proofs.lemmas.Bool.{leb-true}
use Rattle.abc_base.specs.declared.names.Fault.{Fault}
use Rattle.abc_base.specs.declared.names.HostClass.TheVariants as hosts
use Rattle.abc_heap_values.specs.declared.values.Span.{Span}
use Rattle.abc_heap_values.specs.declared.values.Value.{Value}
use Rattle.abc_heap_values.specs.declared.values.Value.TheVariants as values
use Rattle.abc_heap_values.specs.Kinds.{is_nothing, is_text, is_undefined}
use Rattle.abc_heap_values.specs.Numbers.{calculated_of, calculated_single_of, int_of, number_of, truth_of, uint_of}
use Rattle.abc_ops.specs.Opcodes.{comparison_of, operation_of, single_of}
use Rattle.abc_heap_values.specs.declared.numbers.Conversion.{Conversion}
use Rattle.abc_heap_values.specs.declared.numbers.Conversion.TheVariants.{ConvertS, ConvertI, ConvertU, ConvertD, ConvertB, ConvertO, CoerceS}
use Rattle.abc_ops.specs.declared.opcodes.Comparison.{Comparison}
use Rattle.abc_ops.specs.declared.opcodes.Comparison.TheVariants.{Equal, StrictlyEqual, Ordered}
use Rattle.abc_heap_store.specs.Heap.{Heap}
use Rattle.abc_heap_store.specs.Texts.{IsText, text_of}
use Rattle.abc_link_names.specs.Pool.{space}
use Rattle.abc_objects.specs.Fixed.{fixed_span}
use Rattle.abc_objects.specs.Starts.{string_span}
use Rattle.abc_objects.specs.Values.{Exists}
use Rattle.abc_objects.specs.declared.fixed.FixedText.TheVariants as fixed
use Rattle.abc_link_names.specs.Linked.{IsLinkedFile, LinkedFile}
use Rattle.abc_link_names.specs.Types.{kind_of_type}
use Rattle.abc_link_names.specs.declared.types.Kind.{Kind}
use Rattle.abc_link_names.specs.declared.types.Kind.TheVariants as kinds
use Rattle.abc_link_names.specs.declared.types.Ty.{Ty}
use Rattle.abc_link_names.specs.declared.types.Ty.TheVariants as types
use Rattle.abc_verify_typing.specs.Effects.{sum_kind}
use Rattle.abc_ops.specs.Coercions.{undefined_as_null}
use Rattle.abc_ops.specs.Compares.{compared_as, or_fault}
use Rattle.abc_ops.specs.Conversions.{conversion_result, object_or_error, spelling, converted_or_null}
use Rattle.abc_ops.specs.Left.{Left, as_value, followed_by, gives_left, number_or_fault, text_made, text_made_if, text_value, heap_unchanged}
use Rattle.abc_ops.specs.Operations.{computation, computed_single, concatenation, joined_texts, joined_to, type_name}
use Rattle.abc_ops.specs.declared.end.OpEnd.{OpEnd}
use Rattle.abc_ops.specs.declared.end.OpEnd.TheVariants as ends
use Rattle.abc_ops.proofs.Staying.{fixed_there, in_range_there, string_there}
use Rattle.abc_meaning.specs.Ops.{coerce_to, value_kept, operates, outcome}
use Rattle.abc_meaning.specs.Setting.{Setting}
use Rattle.abc_meaning.specs.Types.{is_of_type}
use Rattle.abc_meaning.specs.World.{World}
use Rattle.abc_meaning.specs.Sound.{IsOfKind, WorldSound}
use Rattle.abc_meaning.proofs.ValueKinds.{type_holds}
use Rattle.abc_meaning_sound.specs.Given.{OpsGiven, conversion_kind, double_kind, single_kind}
use Rattle.abc_meaning_sound.specs.Keeping.{Fares, IsError, LeavesSound}
use Rattle.abc_meaning_sound.proofs.Faring.{leaves_self, leaves_trans}
use Rattle.abc_meaning_sound.proofs.Made.{text_leaves}
use Rattle.abc_meaning_sound.proofs.Numbers.{Ranged, calculated_of_ranged, int_ranged, number_ranged, single_of_ranged, uint_ranged}

-- what an operation ends by is no Stuck
abbrev pub EndSound : OpEnd → Type 0
EndSound (ends.Profile fault) = Unit {0}
EndSound (ends.Full limit) = Unit {0}
EndSound (ends.Throw c) = IsError c

abbrev pub AnswerSound : {X : Type 0} → (X → Type 0) → Result X OpEnd → Type 0
AnswerSound Q (Ok x) = Q x
AnswerSound Q (Err e) = EndSound e

abbrev at_heap : World → Heap → World
at_heap w h = record w { heap = h }

-- sums of these kinds are numbers
abbrev counts : Kind → Bool
counts kinds.Num = true
counts kinds.Bool = true
counts other = false

num_or_any : (k m : Kind) (P : Kind → Type 0) → P kinds.Num → P kinds.Any → P (sum_kind k m)
num_or_any kinds.Any m P n a = a
num_or_any kinds.Undef m P n a = a
num_or_any kinds.Null m P n a = a
num_or_any kinds.Num kinds.Any P n a = a
num_or_any kinds.Num kinds.Undef P n a = a
num_or_any kinds.Num kinds.Null P n a = a
num_or_any kinds.Num kinds.Num P n a = n
num_or_any kinds.Num kinds.Bool P n a = n
num_or_any kinds.Num kinds.Text P n a = a
num_or_any kinds.Num kinds.Space P n a = a
num_or_any kinds.Num (kinds.Obj l) P n a = a
num_or_any kinds.Bool kinds.Any P n a = a
num_or_any kinds.Bool kinds.Undef P n a = a
num_or_any kinds.Bool kinds.Null P n a = a
num_or_any kinds.Bool kinds.Num P n a = n
num_or_any kinds.Bool kinds.Bool P n a = n
num_or_any kinds.Bool kinds.Text P n a = a
num_or_any kinds.Bool kinds.Space P n a = a
num_or_any kinds.Bool (kinds.Obj l) P n a = a
num_or_any kinds.Text m P n a = a
num_or_any kinds.Space m P n a = a
num_or_any (kinds.Obj l) m P n a = a

any_by_left : (k m : Kind) → counts k ≡ false → sum_kind k m ≡ kinds.Any
any_by_left kinds.Any m e = refl
any_by_left kinds.Undef m e = refl
any_by_left kinds.Null m e = refl
any_by_left kinds.Num m e = absurd cc
any_by_left kinds.Bool m e = absurd cc
any_by_left kinds.Text m e = refl
any_by_left kinds.Space m e = refl
any_by_left (kinds.Obj l) m e = refl

any_by_right : (k m : Kind) → counts m ≡ false → sum_kind k m ≡ kinds.Any
any_by_right kinds.Any m e = refl
any_by_right kinds.Undef m e = refl
any_by_right kinds.Null m e = refl
any_by_right kinds.Num kinds.Any e = refl
any_by_right kinds.Num kinds.Undef e = refl
any_by_right kinds.Num kinds.Null e = refl
any_by_right kinds.Num kinds.Num e = absurd cc
any_by_right kinds.Num kinds.Bool e = absurd cc
any_by_right kinds.Num kinds.Text e = refl
any_by_right kinds.Num kinds.Space e = refl
any_by_right kinds.Num (kinds.Obj l) e = refl
any_by_right kinds.Bool kinds.Any e = refl
any_by_right kinds.Bool kinds.Undef e = refl
any_by_right kinds.Bool kinds.Null e = refl
any_by_right kinds.Bool kinds.Num e = absurd cc
any_by_right kinds.Bool kinds.Bool e = absurd cc
any_by_right kinds.Bool kinds.Text e = refl
any_by_right kinds.Bool kinds.Space e = refl
any_by_right kinds.Bool (kinds.Obj l) e = refl
any_by_right kinds.Text m e = refl
any_by_right kinds.Space m e = refl
any_by_right (kinds.Obj l) m e = refl

-- a text is of none of them
text_counts : (l : LinkedFile) (h : Heap) (k : Kind) (v : Value) → IsOfKind l h k v → is_text v ≡ true → counts k ≡ false
text_counts l h kinds.Num (values.Text s) i e = absurd i.kind
text_counts l h kinds.Bool (values.Text s) i e = absurd i.kind
text_counts l h kinds.Any (values.Text s) i e = refl
text_counts l h kinds.Undef (values.Text s) i e = refl
text_counts l h kinds.Null (values.Text s) i e = refl
text_counts l h kinds.Text (values.Text s) i e = refl
text_counts l h kinds.Space (values.Text s) i e = refl
text_counts l h (kinds.Obj x) (values.Text s) i e = refl
text_counts l h k values.Undefined i e = absurd cc
text_counts l h k values.Null i e = absurd cc
text_counts l h k (values.Num n) i e = absurd cc
text_counts l h k (values.Bool b) i e = absurd cc
text_counts l h k (values.Space n) i e = absurd cc
text_counts l h k (values.Obj o) i e = absurd cc

one_is_text : (a b : Bool) → (a || b) ≡ true → (a ≡ true) ⊎ (b ≡ true)
one_is_text true b e = inl refl
one_is_text false b e = inr e

-- the world that is left is sound, and what is answered is there
pub record LeftSound {X : Type 0} (p : Setting) (w : World) (Q : Heap → X → Type 0) (step : Left X) : Type 0 where
  pub leaves : LeavesSound p w (at_heap w step.heap)
  pub answer : AnswerSound (Q step.heap) step.answer

module _ (p : Setting) (linked : IsLinkedFile p.linked) where
  same_heap : (w : World) → WorldSound p w → LeavesSound p w (at_heap w w.heap)
  same_heap w z = let l = leaves_self p w z in record { sound = record { stands = z.stands; objects = z.objects; formulas = z.formulas; scripts = z.scripts; within = z.within }; grows = l.grows }

  outcome_fares : {X : Type 0} (w n : World) (r : Result X OpEnd) (Q : World → X → Type 0) → LeavesSound p w n → AnswerSound (Q n) r → Fares p w (outcome n r) Q
  outcome_fares w n (Ok x) Q l a = record { so = (l, a) }
  outcome_fares w n (Err (ends.Profile f)) Q l a = record { so = (l, tt) }
  outcome_fares w n (Err (ends.Full f)) Q l a = record { so = (l, tt) }
  outcome_fares w n (Err (ends.Throw c)) Q l a = record { so = (l, a) }

  operated : {X : Type 0} (w : World) (f : Heap → Left X) (Q : Heap → X → Type 0) → LeftSound p w Q (f w.heap) → Fares p w (operates f w) (λ n x. Q n.heap x)
  operated w f Q s = outcome_fares w (at_heap w (f w.heap).heap) (f w.heap).answer (λ n x. Q n.heap x) s.leaves s.answer

  unchanged_sound : {X : Type 0} (w : World) (r : Result X OpEnd) (Q : Heap → X → Type 0) → WorldSound p w → AnswerSound (Q w.heap) r → LeftSound p w Q (heap_unchanged w.heap r)
  unchanged_sound w r Q z a = record { leaves = same_heap w z; answer = a }

  gives_sound : {X : Type 0} (w : World) (x : X) (Q : Heap → X → Type 0) → WorldSound p w → Q w.heap x → LeftSound p w Q (gives_left w.heap x)
  gives_sound w x Q z a = record { leaves = same_heap w z; answer = a }

  followed_sound : {A B : Type 0} (w : World) (g : Heap) (r : Result A OpEnd) (f : Heap → A → Left B) (P : Heap → A → Type 0) (Q : Heap → B → Type 0) → LeavesSound p w (at_heap w g) → AnswerSound (P g) r → ((x : A) → P g x → LeftSound p (at_heap w g) Q (f g x)) → LeftSound p w Q (followed_by g r f)
  followed_sound w g (Ok x) f P Q l a k = let s = k x a in record { leaves = leaves_trans p w (at_heap w g) (at_heap w (f g x).heap) l s.leaves; answer = s.answer }
  followed_sound w g (Err (ends.Profile e)) f P Q l a k = record { leaves = l; answer = tt }
  followed_sound w g (Err (ends.Full e)) f P Q l a k = record { leaves = l; answer = tt }
  followed_sound w g (Err (ends.Throw c)) f P Q l a k = record { leaves = l; answer = a }

  -- ---- texts

  abbrev There : Heap → Span → Type 0
  There h t = IsText p.linked.file.strings h t

  abbrev OfKind : Kind → Heap → Value → Type 0
  OfKind k h v = IsOfKind p.linked h k v

  made_sound : (w : World) (bytes : List ℕ) → WorldSound p w → LeftSound p w There (text_made w.heap bytes)
  made_sound w bytes z = go (nat_le (length w.heap.made + length bytes) w.heap.limits.text) refl
    where
      go : (b : Bool) → nat_le (length w.heap.made + length bytes) w.heap.limits.text ≡ b → LeftSound p w There (text_made_if b w.heap bytes)
      go true e = record { leaves = text_leaves p w bytes z (leb-true _ _ e); answer = omega (arith, length-append w.heap.made bytes) }
      go false e = record { leaves = same_heap w z; answer = tt }

  spelled_sound : (w : World) (v : Value) → WorldSound p w → Exists p.linked w.heap v → LeftSound p w There (spelling p.linked w.heap v)
  spelled_sound w values.Undefined z e = gives_sound w (fixed_span fixed.Undefined) There z (fixed_there p.linked w.heap fixed.Undefined z.stands)
  spelled_sound w values.Null z e = gives_sound w (fixed_span fixed.Null) There z (fixed_there p.linked w.heap fixed.Null z.stands)
  spelled_sound w (values.Num n) z e = made_sound w (signed_decimal n) z
  spelled_sound w (values.Bool true) z e = gives_sound w (fixed_span fixed.True) There z (fixed_there p.linked w.heap fixed.True z.stands)
  spelled_sound w (values.Bool false) z e = gives_sound w (fixed_span fixed.False) There z (fixed_there p.linked w.heap fixed.False z.stands)
  spelled_sound w (values.Text s) z e = gives_sound w s There z e
  spelled_sound w (values.Space n) z e = gives_sound w (string_span p.linked.file.strings (space p.linked.file n).name) There z (string_there p.linked.file.strings w.heap (space p.linked.file n).name)
  spelled_sound w (values.Obj o) z e = unchanged_sound w _ There z tt

  -- a text as a value
  value_sound : (w : World) (step : Left Span) → LeftSound p w There step → LeftSound p w (OfKind kinds.Text) (as_value step)
  value_sound w step s = followed_sound w step.heap step.answer text_value There (OfKind kinds.Text) s.leaves s.answer (λ t h. gives_sound (at_heap w step.heap) (values.Text t) (OfKind kinds.Text) s.leaves.sound (record { exists = h; kind = tt }))

  joined_texts_sound : (w : World) (a b : Span) → WorldSound p w → LeftSound p w (OfKind kinds.Text) (joined_texts p.linked w.heap a b)
  joined_texts_sound w a b z = value_sound w _ (made_sound w (text_of p.linked.file.strings w.heap a ++ text_of p.linked.file.strings w.heap b) z)

  joined_to_sound : (w : World) (a : Span) (y : Value) → WorldSound p w → Exists p.linked w.heap y → LeftSound p w (OfKind kinds.Text) (joined_to p.linked w.heap a y)
  joined_to_sound w a y z e =
      let s = spelled_sound w y z e in
      followed_sound w (spelling p.linked w.heap y).heap (spelling p.linked w.heap y).answer (λ k b. joined_texts p.linked k a b) There (OfKind kinds.Text) s.leaves s.answer
      (λ b h. joined_texts_sound (at_heap w (spelling p.linked w.heap y).heap) a b s.leaves.sound)

  joined_sound : (w : World) (x y : Value) → WorldSound p w → Exists p.linked w.heap x → Exists p.linked w.heap y → LeftSound p w (OfKind kinds.Text) (concatenation p.linked w.heap x y)
  joined_sound w x y z e d =
      let s = spelled_sound w x z e in
      followed_sound w (spelling p.linked w.heap x).heap (spelling p.linked w.heap x).answer (λ k a. joined_to p.linked k a y) There (OfKind kinds.Text) s.leaves s.answer
      (λ a h. joined_to_sound (at_heap w (spelling p.linked w.heap x).heap) a y s.leaves.sound (Rattle.abc_meaning_sound.proofs.Growing.value_on p w.heap (spelling p.linked w.heap x).heap s.leaves.grows y d))

  -- ---- numbers

  number_sound : (h : Heap) (r : Result ℤ Fault) → Ranged r → AnswerSound (OfKind kinds.Num h) (number_or_fault r)
  number_sound h (Ok n) z = record { exists = z; kind = tt }
  number_sound h (Err f) z = tt

  any_sound : (h : Heap) (r : Result Value OpEnd) (k : Kind) → AnswerSound (OfKind k h) r → AnswerSound (OfKind kinds.Any h) r
  any_sound h (Ok v) k a = record { exists = a.exists; kind = tt }
  any_sound h (Err e) k a = a

  any_left : (w : World) (step : Left Value) (k : Kind) → LeftSound p w (OfKind k) step → LeftSound p w (OfKind kinds.Any) step
  any_left w step k s = record { leaves = s.leaves; answer = any_sound step.heap step.answer k s.answer }

  -- ---- conversions

  text_or_null_sound : (w : World) (v : Value) → WorldSound p w → Exists p.linked w.heap v → LeftSound p w (OfKind kinds.Text) (converted_or_null p.linked w.heap v)
  text_or_null_sound w v z e = go (is_nothing v)
    where
      go : (b : Bool) → LeftSound p w (OfKind kinds.Text) (if b then gives_left w.heap values.Null else as_value (spelling p.linked w.heap v))
      go true = gives_sound w values.Null (OfKind kinds.Text) z (record { exists = tt; kind = tt })
      go false = value_sound w _ (spelled_sound w v z e)

  objected_sound : (h : Heap) (v : Value) (P : Value → Type 0) → P v → AnswerSound P (object_or_error v)
  objected_sound h v P e = go (is_nothing v)
    where
      go : (b : Bool) → AnswerSound P (if b then Err (ends.Throw hosts.TypeError) else Ok v)
      go true = tt
      go false = e

  converted_sound : (w : World) (to : Conversion) (v : Value) → WorldSound p w → Exists p.linked w.heap v → LeftSound p w (OfKind (conversion_kind to)) (conversion_result p.linked w.heap to v)
  converted_sound w ConvertS v z e = value_sound w _ (spelled_sound w v z e)
  converted_sound w ConvertI v z e = unchanged_sound w _ (OfKind kinds.Num) z (number_sound w.heap (int_of v) (int_ranged v (in_range_there p.linked w.heap v e)))
  converted_sound w ConvertU v z e = unchanged_sound w _ (OfKind kinds.Num) z (number_sound w.heap (uint_of v) (uint_ranged v (in_range_there p.linked w.heap v e)))
  converted_sound w ConvertD v z e = unchanged_sound w _ (OfKind kinds.Num) z (number_sound w.heap (number_of v) (number_ranged v (in_range_there p.linked w.heap v e)))
  converted_sound w ConvertB v z e = gives_sound w (values.Bool (truth_of v)) (OfKind kinds.Bool) z (record { exists = tt; kind = tt })
  converted_sound w ConvertO v z e = unchanged_sound w _ (OfKind kinds.Any) z (objected_sound w.heap v (OfKind kinds.Any w.heap) (record { exists = e; kind = tt }))
  converted_sound w CoerceS v z e = text_or_null_sound w v z e

  -- ---- coercion

  kept_sound : (w : World) (t : Ty) (v : Value) → (OfKind (kind_of_type p.linked t) w.heap values.Null) → WorldSound p w → Exists p.linked w.heap v → LeftSound p w (OfKind (kind_of_type p.linked t)) (value_kept p.linked w.heap t v)
  kept_sound w t v null z e = unchanged_sound w _ (OfKind (kind_of_type p.linked t)) z (go (is_nothing v) (is_of_type p.linked w.heap t v) refl)
    where
      go : (a b : Bool) → is_of_type p.linked w.heap t v ≡ b → AnswerSound (OfKind (kind_of_type p.linked t) w.heap) (if a then Ok values.Null else (if b then Ok v else Err (ends.Throw hosts.TypeError)))
      go true b q = null
      go false true q = record { exists = e; kind = type_holds p.linked w.heap t v linked e q }
      go false false q = tt

  null_or_value : (h : Heap) (v : Value) → Exists p.linked h v → Exists p.linked h (undefined_as_null v)
  null_or_value h v e = go (is_undefined v)
    where
      go : (b : Bool) → Exists p.linked h (if b then values.Null else v)
      go true = tt
      go false = e

  coerced_sound : (w : World) (t : Ty) (v : Value) → WorldSound p w → Exists p.linked w.heap v → LeftSound p w (OfKind (kind_of_type p.linked t)) (coerce_to p.linked w.heap t v)
  coerced_sound w types.Any v z e = gives_sound w v (OfKind kinds.Any) z (record { exists = e; kind = tt })
  coerced_sound w types.Void v z e = gives_sound w values.Undefined (OfKind kinds.Undef) z (record { exists = tt; kind = tt })
  coerced_sound w types.Object v z e = gives_sound w (undefined_as_null v) (OfKind kinds.Any) z (record { exists = null_or_value w.heap v e; kind = tt })
  coerced_sound w types.Int v z e = converted_sound w ConvertI v z e
  coerced_sound w types.UInt v z e = converted_sound w ConvertU v z e
  coerced_sound w types.Number v z e = converted_sound w ConvertD v z e
  coerced_sound w types.Boolean v z e = converted_sound w ConvertB v z e
  coerced_sound w types.Text v z e = converted_sound w CoerceS v z e
  coerced_sound w types.Space v z e = kept_sound w types.Space v (record { exists = tt; kind = tt }) z e
  coerced_sound w (types.Of x) v z e = kept_sound w (types.Of x) v (record { exists = tt; kind = tt }) z e
  coerced_sound w (types.Interface k) v z e = kept_sound w (types.Interface k) v (record { exists = tt; kind = tt }) z e

  -- ---- by the opcode

  single_sound : (w : World) (op : ℕ) (v : Value) → WorldSound p w → Exists p.linked w.heap v → LeftSound p w (OfKind (single_kind op)) (computed_single w.heap op v)
  single_sound w op v z e = go (nat_eq op 0x95) (nat_eq op 0x96)
    where
      go : (a b : Bool) → LeftSound p w (OfKind (if a then kinds.Text else (if b then kinds.Bool else kinds.Num))) (if a then gives_left w.heap (values.Text (fixed_span (type_name w.heap v))) else (if b then gives_left w.heap (values.Bool (not (truth_of v))) else heap_unchanged w.heap (number_or_fault (calculated_single_of (single_of op) v))))
      go true b = gives_sound w _ (OfKind kinds.Text) z (record { exists = fixed_there p.linked w.heap (type_name w.heap v) z.stands; kind = tt })
      go false true = gives_sound w _ (OfKind kinds.Bool) z (record { exists = tt; kind = tt })
      go false false = unchanged_sound w _ (OfKind kinds.Num) z (number_sound w.heap _ (single_of_ranged (single_of op) v (in_range_there p.linked w.heap v e)))

  sum_is_any : (h : Heap) (k m : Kind) (x y : Value) → OfKind k h x → OfKind m h y → (is_text x || is_text y) ≡ true → sum_kind k m ≡ kinds.Any
  sum_is_any h k m x y hx hy e = elim (one_is_text (is_text x) (is_text y) e) [
    | inl t ↦ any_by_left k m (text_counts p.linked h k x hx t)
    | inr t ↦ any_by_right k m (text_counts p.linked h m y hy t)
  ]

  abbrev plainly : Heap → ℕ → Value → Value → Left Value
  plainly h op x y = heap_unchanged h (number_or_fault (calculated_of (operation_of op) x y))

  double_sound : (w : World) (op : ℕ) (x y : Value) (k m : Kind) → WorldSound p w → OfKind k w.heap x → OfKind m w.heap y → LeftSound p w (OfKind (double_kind op k m)) (computation p.linked w.heap op x y)
  double_sound w op x y k m z hx hy = go (nat_eq op 0xA0) (is_text x || is_text y) refl
    where
      plain : LeftSound p w (OfKind kinds.Num) (plainly w.heap op x y)
      plain = unchanged_sound w _ (OfKind kinds.Num) z (number_sound w.heap _ (calculated_of_ranged (operation_of op) x y (in_range_there p.linked w.heap x hx.exists) (in_range_there p.linked w.heap y hy.exists)))

      go : (a t : Bool) → (is_text x || is_text y) ≡ t → LeftSound p w (OfKind (if a then sum_kind k m else kinds.Num)) (if a && t then concatenation p.linked w.heap x y else plainly w.heap op x y)
      go true true e = subst (λ (q : Kind). LeftSound p w (OfKind q) (concatenation p.linked w.heap x y)) (sym (sum_is_any w.heap k m x y hx hy e)) (any_left w (concatenation p.linked w.heap x y) kinds.Text (joined_sound w x y z hx.exists hy.exists))
      go true false e = num_or_any k m (λ (q : Kind). LeftSound p w (OfKind q) (plainly w.heap op x y)) plain (any_left w (plainly w.heap op x y) kinds.Num plain)
      go false t e = plain

  or_fault_sound : (r : Result Bool Fault) → AnswerSound (λ (b : Bool). Unit {0}) (or_fault r)
  or_fault_sound (Ok b) = tt
  or_fault_sound (Err f) = tt

  compared_sound : (h : Heap) (c : Comparison) (x y : Value) → AnswerSound (λ (b : Bool). Unit {0}) (compared_as p.linked h c x y)
  compared_sound h Equal x y = or_fault_sound _
  compared_sound h StrictlyEqual x y = tt
  compared_sound h (Ordered order) x y = or_fault_sound _

  pub ops_given : OpsGiven p
  ops_given = record {
    spell = λ w v z e. operated w (λ h. spelling p.linked h v) There (spelled_sound w v z e);
    text = λ w bytes z. operated w (λ h. text_made h bytes) There (made_sound w bytes z);
    coerce = λ w t v z e. operated w (λ h. coerce_to p.linked h t v) (OfKind (kind_of_type p.linked t)) (coerced_sound w t v z e);
    convert = λ w to v z e. operated w (λ h. conversion_result p.linked h to v) (OfKind (conversion_kind to)) (converted_sound w to v z e);
    objects = λ w v z e. operated w (λ h. conversion_result p.linked h ConvertO v) (λ h x. x ≡ v) (unchanged_sound w _ (λ h x. x ≡ v) z (objected_sound w.heap v (λ x. x ≡ v) refl));
    single = λ w op v z e. operated w (λ h. computed_single h op v) (OfKind (single_kind op)) (single_sound w op v z e);
    double = λ w op x y k m z hx hy. operated w (λ h. computation p.linked h op x y) (OfKind (double_kind op k m)) (double_sound w op x y k m z hx hy);
    compare = λ w op x y z. outcome_fares w w _ (λ n b. Unit {0}) (leaves_self p w z) (compared_sound w.heap (comparison_of op) x y);
  }
