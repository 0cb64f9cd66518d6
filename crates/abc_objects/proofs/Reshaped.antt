-- The changes of one object that leave it standing.
use Rattle.std.proofs.Common.{◌≡◌, ℕ, zero, suc, ◌+◌, List, [], ◌∷◌, ◌++◌, Option, Some, None, set, true, refl, sym, ap, ◌∙◌, subst, inl, inr}
use Rattle.std.specs.Prelude.{slice_get}
use Rattle.std.proofs.lemmas.List.{length-set}
use Rattle.abc_heap_values.specs.declared.values.Span.{Span}
use Rattle.abc_heap_values.specs.declared.values.Value.{Value}
use Rattle.abc_heap_values.proofs.Parts.{slice_get_more}
use Rattle.abc_heap_store.specs.Heap.{Heap, Object, object_at}
use Rattle.abc_heap_store.specs.Texts.{IsText}
use Rattle.abc_heap_store.specs.What.{is_array}
use Rattle.abc_heap_store.specs.Properties.{with_put, with_delete, put_at, delete_at, place_named, with_value, present_property}
use Rattle.abc_heap_store.specs.Changes.{with_slot, with_element, with_new_element}
use Rattle.abc_heap_store.proofs.Growth.{set_read}
use Rattle.abc_link_names.specs.Linked.{LinkedFile}
use Rattle.abc_objects.specs.Values.{Exists}
use Rattle.abc_objects.specs.Stands.{StandsOver, IsProperty, EachAt}
use Rattle.abc_objects.proofs.Kept.{Reshapes}

pub each_set : {X : Type 0} (P : X → Type 0) (xs : List X) (k : ℕ) (x : X) → EachAt P xs → P x → EachAt P (set xs k x)
each_set P xs k x e p = λ i y q. elim (set_read xs k i x y q) [ inl r ↦ subst P r.1 p | inr r ↦ e i y r.1 ]

pub each_more : {X : Type 0} (P : X → Type 0) (xs : List X) (x : X) → EachAt P xs → P x → EachAt P (xs ++ x ∷ [])
each_more P xs x e p = λ i y q. elim (slice_get_more xs x y i q) [ inl r ↦ e i y r.1 | inr r ↦ subst P r.1 p ]

pub slot_reshapes : (l : LinkedFile) (h : Heap) (o k : ℕ) (v : Value) → Exists l h v → Reshapes l h o (with_slot k v)
slot_reshapes l h o k v x = record {
  keeps = λ ob. record { layout = refl; delegate = refl; what = refl };
  slots = λ ob. length-set ob.slots k v;
  stands = λ ob at s. record {
    layout = s.layout;
    slots = length-set ob.slots k v ∙ s.slots;
    delegate = s.delegate;
    what = s.what;
    array = s.array;
    no_array = s.no_array;
    elements = s.elements;
    slot_values = each_set (Exists l h) ob.slots k v s.slot_values x;
    properties = s.properties;
    element_values = s.element_values;
  };
}

pub element_reshapes : (l : LinkedFile) (h : Heap) (o k : ℕ) (v : Value) → Exists l h v → Reshapes l h o (with_element k v)
element_reshapes l h o k v x = record {
  keeps = λ ob. record { layout = refl; delegate = refl; what = refl };
  slots = λ ob. refl;
  stands = λ ob at s. record {
    layout = s.layout;
    slots = s.slots;
    delegate = s.delegate;
    what = s.what;
    array = s.array;
    no_array = s.no_array;
    elements = λ q. ap (λ es. set es k v) (s.elements q);
    slot_values = s.slot_values;
    properties = s.properties;
    element_values = each_set (Exists l h) ob.elements k v s.element_values x;
  };
}

pub object_there : (obs : List Object) (o : ℕ) (ob : Object) → slice_get obs o ≡ Some ob → object_at obs o ≡ ob
object_there (x ∷ obs) zero ob e = cc
object_there (x ∷ obs) (suc o) ob e = object_there obs o ob e
object_there [] o ob e = absurd cc

pub new_element_reshapes : (l : LinkedFile) (h : Heap) (o : ℕ) (v : Value) → is_array (object_at h.objects o).what ≡ true → Exists l h v → Reshapes l h o (with_new_element v)
new_element_reshapes l h o v w x = record {
  keeps = λ ob. record { layout = refl; delegate = refl; what = refl };
  slots = λ ob. refl;
  stands = λ ob at s. record {
    layout = s.layout;
    slots = s.slots;
    delegate = s.delegate;
    what = s.what;
    array = s.array;
    no_array = s.no_array;
    elements = λ q.
        let t : is_array ob.what ≡ true = ap (λ (z : Object). is_array z.what) (sym (object_there h.objects o ob at)) ∙ w in
        absurd cc;
    slot_values = s.slot_values;
    properties = s.properties;
    element_values = each_more (Exists l h) ob.elements v s.element_values x;
  };
}

-- a write of a property
valued_stands : (l : LinkedFile) (h : Heap) (ps : List (Option (Span × Value))) (i : ℕ) (v : Value) → EachAt (IsProperty l h) ps → Exists l h v → IsProperty l h (with_value v (present_property (slice_get ps i)))
valued_stands l h ps i v e x = go (slice_get ps i) refl
  where
    go : (p : Option (Option (Span × Value))) → slice_get ps i ≡ p → IsProperty l h (with_value v (present_property p))
    go None q = tt
    go (Some None) q = tt
    go (Some (Some (a, b))) q = ((e i (Some (a, b)) q).0, x)

put_stands : (l : LinkedFile) (h : Heap) (ps : List (Option (Span × Value))) (p : Option ℕ) (n : Span) (v : Value) → EachAt (IsProperty l h) ps → IsText l.file.strings h n → Exists l h v → EachAt (IsProperty l h) (put_at n v ps p)
put_stands l h ps None n v e t x = each_more (IsProperty l h) ps (Some (n, v)) e (t, x)
put_stands l h ps (Some i) n v e t x = each_set (IsProperty l h) ps i (with_value v (present_property (slice_get ps i))) e (valued_stands l h ps i v e x)

delete_stands : (l : LinkedFile) (h : Heap) (ps : List (Option (Span × Value))) (p : Option ℕ) → EachAt (IsProperty l h) ps → EachAt (IsProperty l h) (delete_at ps p)
delete_stands l h ps None e = e
delete_stands l h ps (Some i) e = each_set (IsProperty l h) ps i None e tt

pub put_reshapes : (l : LinkedFile) (h : Heap) (o : ℕ) (f : Span → List ℕ) (t : List ℕ) (n : Span) (v : Value) → IsText l.file.strings h n → Exists l h v → Reshapes l h o (with_put f t n v)
put_reshapes l h o f t n v name x = record {
  keeps = λ ob. record { layout = refl; delegate = refl; what = refl };
  slots = λ ob. refl;
  stands = λ ob at s. record {
    layout = s.layout;
    slots = s.slots;
    delegate = s.delegate;
    what = s.what;
    array = s.array;
    no_array = s.no_array;
    elements = s.elements;
    slot_values = s.slot_values;
    properties = put_stands l h ob.properties (place_named f t ob.properties) n v s.properties name x;
    element_values = s.element_values;
  };
}

pub delete_reshapes : (l : LinkedFile) (h : Heap) (o : ℕ) (f : Span → List ℕ) (t : List ℕ) → Reshapes l h o (with_delete f t)
delete_reshapes l h o f t = record {
  keeps = λ ob. record { layout = refl; delegate = refl; what = refl };
  slots = λ ob. refl;
  stands = λ ob at s. record {
    layout = s.layout;
    slots = s.slots;
    delegate = s.delegate;
    what = s.what;
    array = s.array;
    no_array = s.no_array;
    elements = s.elements;
    slot_values = s.slot_values;
    properties = delete_stands l h ob.properties (place_named f t ob.properties) s.properties;
    element_values = s.element_values;
  };
}
