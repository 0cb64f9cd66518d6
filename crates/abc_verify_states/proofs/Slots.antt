-- What is no layout has no slots, the test of a layout, and the layout of Object.
use Rattle.std.proofs.Common.{◌≡◌, ℕ, ◌≤◌, ◌↔◌, IsTrue, Some, None, List, [], ◌∷◌, ◌++◌, length, refl, sym, ap, ◌∙◌, subst, arith, ◌⊎◌, inl, inr}
use Rattle.std.specs.Prelude.{Bool, true, false, Option}
use Rattle.abc_base.specs.declared.names.HostClass.TheVariants as hosts
use Rattle.abc_file_types.specs.declared.tables.Abc.{Abc}
use Rattle.abc_link_names.specs.Linked.{IsLinkedFile, LinkedFile}
use Rattle.abc_link_names.specs.Numbering.{IsNumbering}
use Rattle.abc_link_names.specs.Parts.{parent}
use Rattle.abc_link_names.specs.Places.{place_of_part}
use Rattle.abc_link_names.specs.Tree.{IsBelow}
use Rattle.abc_link_names.specs.Slots.{slot_numbered, slots_of}
use Rattle.abc_link_names.specs.declared.types.Kind.{Kind}
use Rattle.abc_link_names.specs.declared.part.Part.{Part}
use Rattle.abc_link_names.specs.declared.part.Part.TheVariants as parts
use Rattle.abc_link_names.specs.declared.types.Kind.TheVariants.{Obj}
use Rattle.abc_link_names.specs.declared.types.SlotInfo.{SlotInfo}
use Rattle.abc_verify_typing.specs.Effects.{slot_kind_at, slot_kind_in}
use Rattle.abc_verify_typing.specs.Routines.{kind_of_part}
use Rattle.abc_verify_typing.specs.Rules.{reaches}
use Rattle.abc_verify_typing.proofs.Good.{slots_past}
use Rattle.abc_verify_typing.proofs.Reaching.{below_reached, reached}

none_in : (p : LinkedFile) (o : Option ℕ) → slot_kind_in p [] o ≡ None
none_in p None = refl
none_in p (Some i) = refl

pub no_slot_past : (p : LinkedFile) (l j : ℕ) → IsLinkedFile p → length p.parts ≤ l → None ≡ slot_kind_at p l j
no_slot_past p l j t le = sym (ap (λ (xs : List SlotInfo). slot_kind_in p xs (slot_numbered p l j)) (slots_past p t l le) ∙ none_in p (slot_numbered p l j))

pub reaches_below : (p : LinkedFile) (l m : ℕ) (b : Bool) → IsLinkedFile p → (IsTrue b ↔ IsBelow p l m) → b ≡ reaches p l l m
reaches_below p l m b t h = go b (reaches p l l m) refl h
  where
    go : (b r : Bool) → reaches p l l m ≡ r → (IsTrue b ↔ IsBelow p l m) → b ≡ r
    go true true e k = refl
    go false false e k = refl
    go true false e k = sym (reached p t l l m (omega arith) (k.0 refl)) ∙ e
    go false true e k = k.1 (below_reached p l l m e)

-- ---- the layout of Object

abbrev object : Part
object = parts.Host hosts.Object

-- every part but Object's instances stands under one
topped : (v : Abc) (x : Part) → (x ≡ object) ⊎ ((q : Part) × (parent v x ≡ Some q))
topped v (parts.Host hosts.Object) = inl refl
topped v (parts.Host hosts.Class) = inr (object, refl)
topped v (parts.Host hosts.Function) = inr (object, refl)
topped v (parts.Host hosts.Namespace) = inr (object, refl)
topped v (parts.Host hosts.Str) = inr (object, refl)
topped v (parts.Host hosts.Int) = inr (object, refl)
topped v (parts.Host hosts.UInt) = inr (object, refl)
topped v (parts.Host hosts.Number) = inr (object, refl)
topped v (parts.Host hosts.Boolean) = inr (object, refl)
topped v (parts.Host hosts.Error) = inr (object, refl)
topped v (parts.Host hosts.TypeError) = inr (parts.Host hosts.Error, refl)
topped v (parts.Host hosts.ReferenceError) = inr (parts.Host hosts.Error, refl)
topped v (parts.Host hosts.ArgumentError) = inr (parts.Host hosts.Error, refl)
topped v (parts.Host hosts.Array) = inr (object, refl)
topped v (parts.HostClassObject h) = inr (parts.Host hosts.Class, refl)
topped v (parts.ClassObject k) = inr (parts.Host hosts.Class, refl)
topped v (parts.Instance k) = inr (_, refl)
topped v (parts.Global s) = inr (object, refl)
topped v (parts.Activation b) = inr (object, refl)
topped v (parts.Catch b e) = inr (object, refl)

-- so no other part has the first number
first_part : (v : Abc) (x : Part) (xs : List Part) → IsNumbering v (x ∷ xs) → x ≡ object
first_part v x xs n = elim (topped v x) [ inl e ↦ e | inr q ↦ absurd (let z = n.behind.behind 0 q.0 (omega arith) q.1 in let lt = z.1 in omega arith) ]

place_first : (v : Abc) (all : List Part) → IsNumbering v all → 0 ≡ place_of_part all object
place_first v [] n = refl
place_first v (x ∷ xs) n = sym (ap (λ (y : Part). place_of_part (y ∷ xs) object) (first_part v x xs n))

pub object_first : (p : LinkedFile) → IsLinkedFile p → Obj (record { 0 = 0 }) ≡ kind_of_part p (parts.Host hosts.Object)
object_first p t = ap (λ (n : ℕ). Obj (record { 0 = n })) (place_first p.file p.parts t.numbering)
