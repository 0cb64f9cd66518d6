-- What the searches need of an arena over a file.
use Rattle.std.proofs.Common.{◌≡◌, ℕ, zero, suc, ◌<◌, ◌≤◌, ◌⊎◌, inl, inr, List, [], ◌∷◌, length, get_or, refl, sym, ap, ◌∙◌, arith}
use Rattle.std.specs.Prelude.{Some, None, slice_get}
use Rattle.std.specs.declared.option.Option.{Option}
use Rattle.std.proofs.lemmas.Bool.{cases_lt}
use Rattle.std.proofs.lemmas.List.{get_or_past}
use Rattle.abc_base.specs.declared.names.HostClass.{HostClass}
use Rattle.abc_heap_values.specs.declared.values.ObjId.{ObjId}
use Rattle.abc_heap_values.specs.declared.values.Value.{Value}
use Rattle.abc_base_graphs.specs.Ways.{IsPlaceBelow, IsFalling}
use Rattle.abc_heap_store.specs.Heap.{Heap, Object, object_at, slots_of_object}
use Rattle.abc_heap_store.specs.declared.records.ScopeId.{ScopeId}
use Rattle.abc_heap_store.specs.declared.records.ScopeNode.{ScopeNode}
use Rattle.abc_objects.specs.Stands.{IsBeneath, IsObjectOrNone, IsOlder, IsScope, StandsOver, host_class_number}
use Rattle.abc_objects.specs.Values.{Exists, IsObject}
use Rattle.abc_link_names.specs.Linked.{LinkedFile}
use Rattle.abc_objects.specs.Candidates.{layout_at}
use Rattle.abc_objects.specs.Objects.{delegate_at, number_of_object}
use Rattle.abc_objects.specs.Scopes.{no_node, node_at, parent_at, scope_number}

-- ---- objects

at_object : (obs : List Object) (o : ℕ) → o < length obs → slice_get obs o ≡ Some (object_at obs o)
at_object [] o h = absurd (omega arith)
at_object (ob ∷ obs) zero h = refl
at_object (ob ∷ obs) (suc o) h = at_object obs o (omega arith)

past_object : (obs : List Object) (o : ℕ) → length obs ≤ o → number_of_object (object_at obs o).delegate ≡ None
past_object [] o h = refl
past_object (ob ∷ obs) zero h = absurd (omega arith)
past_object (ob ∷ obs) (suc o) h = past_object obs o (omega arith)

older : (o d : ℕ) (x : Option ObjId) → IsOlder o x → number_of_object x ≡ Some d → d < o
older o d None h e = cc
older o d (Some y) h e = let q : y.0 ≡ d = cc in omega (arith, h, q)

pub delegates_fall : (l : LinkedFile) (h : Heap) → StandsOver l h → IsFalling (delegate_at h)
delegates_fall l h st = record { falls = λ o d e. go o d (cases_lt o (length h.objects)) e }
  where
    go : (o d : ℕ) → (o < length h.objects) ⊎ (length h.objects ≤ o) → delegate_at h o ≡ Some d → d < o
    go o d (inl lt) e = older o d (object_at h.objects o).delegate (st.objects o (object_at h.objects o) (at_object h.objects o lt)).delegate e
    go o d (inr le) e = let none = past_object h.objects o le in cc

pub layout_in : (l : LinkedFile) (h : Heap) (o : ℕ) → StandsOver l h → o < length h.objects → layout_at h o < length l.parts
layout_in l h o st lt = (st.objects o (object_at h.objects o) (at_object h.objects o lt)).layout

pub inside : (h : Heap) (o : Option ObjId) → IsObjectOrNone h o → IsPlaceBelow (number_of_object o) (length h.objects)
inside h None is = tt
inside h (Some o) is = is

pub outside : (h : Heap) (o : Option ObjId) → IsPlaceBelow (number_of_object o) (length h.objects) → IsObjectOrNone h o
outside h None is = tt
outside h (Some o) is = is

-- the prototype slot of a class of the host
pub slot_exists : (l : LinkedFile) (h : Heap) (c : HostClass) (v : Value) → StandsOver l h → slice_get (slots_of_object h.objects (host_class_number c)) 0 ≡ Some v → Exists l h v
slot_exists l h c v st e = go (cases_lt (host_class_number c) (length h.objects))
  where
    none : (obs : List Object) (o : ℕ) → length obs ≤ o → (object_at obs o).slots ≡ []
    none [] o h = refl
    none (ob ∷ obs) zero h = absurd (omega arith)
    none (ob ∷ obs) (suc o) h = none obs o (omega arith)

    go : (host_class_number c < length h.objects) ⊎ (length h.objects ≤ host_class_number c) → Exists l h v
    go (inl lt) = (st.objects (host_class_number c) (object_at h.objects (host_class_number c)) (at_object h.objects (host_class_number c) lt)).slot_values 0 v e
    go (inr le) = let is = sym (ap (λ (vs : List Value). slice_get vs 0) (none h.objects (host_class_number c) le)) ∙ e in cc

-- ---- scopes

at_node : (ns : List ScopeNode) (s : ℕ) (d : ScopeNode) → s < length ns → slice_get ns s ≡ Some (get_or ns s d)
at_node [] s d h = absurd (omega arith)
at_node (n ∷ ns) zero d h = refl
at_node (n ∷ ns) (suc s) d h = at_node ns s d (omega arith)

pub node_is : (ns : List ScopeNode) (s : ℕ) (n d : ScopeNode) → slice_get ns s ≡ Some n → get_or ns s d ≡ n
node_is [] s n d e = cc
node_is (m ∷ ns) zero n d e = cc
node_is (m ∷ ns) (suc s) n d e = node_is ns s n d e

beneath : (s p : ℕ) (x : Option ScopeId) → IsBeneath s x → scope_number x ≡ Some p → p < s
beneath s p None h e = cc
beneath s p (Some y) h e = let q : y.0 ≡ p = cc in omega (arith, h, q)

pub parents_fall : (l : LinkedFile) (h : Heap) → StandsOver l h → IsFalling (parent_at h)
parents_fall l h st = record { falls = λ s p e. go s p (cases_lt s (length h.scopes)) e }
  where
    go : (s p : ℕ) → (s < length h.scopes) ⊎ (length h.scopes ≤ s) → parent_at h s ≡ Some p → p < s
    go s p (inl lt) e = beneath s p (node_at h s).parent (st.scopes s (node_at h s) (at_node h.scopes s no_node lt)).parent e
    go s p (inr le) e = let none = ap (λ (n : ScopeNode). scope_number n.parent) (get_or_past h.scopes s no_node le) in cc

pub entry_in : (l : LinkedFile) (h : Heap) (s : ℕ) (n : ScopeNode) → StandsOver l h → slice_get h.scopes s ≡ Some n → IsObject h n.entry.object
entry_in l h s n st e = (st.scopes s n e).object

pub within : (h : Heap) (s : Option ScopeId) → IsScope h s → IsPlaceBelow (scope_number s) (length h.scopes)
within h None is = tt
within h (Some s) is = is

pub without : (h : Heap) (s : Option ScopeId) → IsPlaceBelow (scope_number s) (length h.scopes) → IsScope h s
without h None is = tt
without h (Some s) is = is

-- what a walk has come to
pub object_in : (h : Heap) (at : Option ObjId) (o : ObjId) → at ≡ Some o → IsPlaceBelow (number_of_object at) (length h.objects) → IsObject h o
object_in h None o e is = cc
object_in h (Some y) o e is = let q : y.0 ≡ o.0 = cc in omega (arith, is, q)

pub scope_in : (h : Heap) (at : Option ScopeId) (s : ScopeId) → at ≡ Some s → IsPlaceBelow (scope_number at) (length h.scopes) → s.0 < length h.scopes
scope_in h None s e is = cc
scope_in h (Some y) s e is = let q : y.0 ≡ s.0 = cc in omega (arith, is, q)
