-- A class object, its prototype object and the scopes that it keeps.
use Rattle.std.proofs.Common.{◌≡◌, ◌≢◌, ℕ, zero, suc, ◌+◌, ◌<◌, List, [], ◌∷◌, ◌++◌, Option, Some, None, length, map, set, get_or, false, refl, sym, ap, ◌∙◌, subst, arith, length-append, append-nil, inl, inr}
use Rattle.std.specs.Prelude.{slice_get}
use Rattle.std.proofs.lemmas.Option.{slice_get_within}
use Rattle.std.proofs.lemmas.List.{length-map, length-set}
use Rattle.abc_heap_values.specs.declared.values.ObjId.{ObjId}
use Rattle.abc_heap_values.specs.declared.values.Value.TheVariants as values
use Rattle.abc_heap_values.proofs.Parts.{slice_get_more, slice_get_left, slice_get_seam}
use Rattle.abc_heap_store.specs.declared.records.ScopeId.{ScopeId}
use Rattle.abc_heap_store.specs.declared.records.ScopeEntry.{ScopeEntry}
use Rattle.abc_heap_store.specs.declared.records.ScopeNode.{ScopeNode}
use Rattle.abc_heap_store.specs.declared.records.What.TheVariants as whats
use Rattle.abc_heap_store.specs.Heap.{Heap, Object, obj_id, object_at}
use Rattle.abc_heap_store.proofs.Growth.{set_read}
use Rattle.abc_base.specs.declared.names.HostClass.TheVariants as hosts
use Rattle.abc_heap_store.specs.declared.store.ClassParts.{ClassParts}
use Rattle.abc_heap_store.specs.Changes.{with_class, with_made, with_scopes, with_slot, with_more_slots, bare_object}
use Rattle.abc_heap_store.specs.Scopes.{nodes, top_of_scopes, scope_id}
use Rattle.abc_heap_store.proofs.Makes.{change_last, nodes_length}
use Rattle.abc_link_names.specs.Linked.{LinkedFile, IsLinkedFile, layout_of}
use Rattle.abc_link_names.specs.Numbering.{part_at}
use Rattle.abc_link_names.specs.Parts.{parent}
use Rattle.abc_link_names.specs.Slots.{own_slots, slots_of as slots_of_layout}
use Rattle.abc_link_names.specs.declared.part.Part.{Part}
use Rattle.abc_link_names.specs.declared.part.Part.TheVariants as parts
use Rattle.abc_link_names.specs.declared.types.SlotInfo.{SlotInfo}
use Rattle.abc_objects.specs.Starts.{start_value, start_values}
use Rattle.abc_objects.specs.Values.{Exists}
use Rattle.abc_objects.proofs.Made.{fixed_long, part_found, host_found, over_made_object, older, slots_are, start_there}
use Rattle.abc_objects.proofs.Reshaped.{each_set}
use Rattle.abc_objects.specs.Growing.{Grows}
use Rattle.abc_objects.specs.Stands.{StandsOver, ObjectStands, ScopeStands, IsClassObject, IsObjectOrNone, IsScope, AreEntries, array_layout, host_layout, host_class_number}
use Rattle.abc_objects.proofs.Grown.{keeps_same, object_grown, opening_grown, scope_stands_grown, scope_grown, bound_grown, exists_grown}
use Rattle.abc_objects.proofs.Kept.{object_left, slots_there, added_grows, over_scopes, scopes_grow, top_is, beneath}

-- the heap with a class object and the scope of its instances, which name each other
abbrev pub with_both : Object → ScopeNode → ℕ → Heap → Heap
with_both ob n k h = record h { objects = h.objects ++ ob ∷ []; scopes = h.scopes ++ n ∷ []; classes = set h.classes k (Some (obj_id (length h.objects))) }

pub both_grow : (h : Heap) (ob : Object) (n : ScopeNode) (k : ℕ) → Grows h (with_both ob n k h)
both_grow h ob n k = record {
  objects = λ i b. (omega (arith, b, length-append h.objects (ob ∷ [])), keeps_same (object_at h.objects i) (object_at (h.objects ++ ob ∷ []) i) (object_left h.objects (ob ∷ []) i b));
  scopes = (n ∷ [], refl);
  fixed = refl;
  made = ([], sym (append-nil h.made));
  formulas = refl;
}

set_there : {X : Type 0} (xs : List X) (k : ℕ) (x : X) → k < length xs → slice_get (set xs k x) k ≡ Some x
set_there (y ∷ xs) zero x b = refl
set_there (y ∷ xs) (suc k) x b = set_there xs k x (omega arith)
set_there [] k x b = absurd (omega arith)

set_elsewhere : {X : Type 0} (xs : List X) (k i : ℕ) (x : X) → (i ≡ k → ⊥) → slice_get (set xs k x) i ≡ slice_get xs i
set_elsewhere [] k i x n = refl
set_elsewhere (y ∷ xs) zero zero x n = absurd (n refl)
set_elsewhere (y ∷ xs) zero (suc i) x n = refl
set_elsewhere (y ∷ xs) (suc k) zero x n = refl
set_elsewhere (y ∷ xs) (suc k) (suc i) x n = set_elsewhere xs k i x (λ (q : i ≡ k). n (ap suc q))

class_of : (a b c d : ℕ) (s t : Option ScopeId) (i j : ScopeId) → whats.ClassObject a c s i ≡ whats.ClassObject b d t j → a ≡ b
class_of a b c d s t i j e = cc

taken : (xs : List (Option ObjId)) (k : ℕ) (o : ObjId) → get_or xs k None ≡ None → slice_get xs k ≡ Some (Some o) → ⊥
taken (x ∷ xs) zero o f e = let p : x ≡ Some o = cc in absurd cc
taken (x ∷ xs) (suc k) o f e = taken xs k o f e
taken [] k o f e = absurd cc

pub over_both : (l : LinkedFile) (h : Heap) (ob : Object) (n : ScopeNode) (k home : ℕ) (statics : Option ScopeId) (instances : ScopeId) → StandsOver l h → k < length h.classes → get_or h.classes k None ≡ None → ob.what ≡ whats.ClassObject k home statics instances → ObjectStands l (with_both ob n k h) (length h.objects) ob → ScopeStands (with_both ob n k h) (length h.scopes) n → StandsOver l (with_both ob n k h)
over_both l h ob n k home statics instances s b free w a d =
    let new = with_both ob n k h in
    let g = both_grow h ob n k in
    record {
      linked = s.linked;
      starts = s.starts;
      opening = opening_grown l h new g s.opening;
      hosts = λ c. omega (arith, s.hosts c, ap (λ (x : Object). length x.slots) (object_left h.objects (ob ∷ []) (host_class_number c) (slots_there h.objects (host_class_number c) (s.hosts c))));
      strings = s.strings;
      fixed = s.fixed;
      objects = λ i x e. elim (slice_get_more h.objects ob x i e) [
        | inl q ↦ object_grown l h new i x g (s.objects i x q.1)
        | inr q ↦ subst (λ m. ObjectStands l new m x) (sym q.0) (subst (ObjectStands l new (length h.objects)) q.1 a)
      ];
      scopes = λ i m e. elim (slice_get_more h.scopes n m i e) [
        | inl q ↦ scope_stands_grown h new i m g (s.scopes i m q.1)
        | inr q ↦ subst (λ j. ScopeStands new j m) (sym q.0) (subst (ScopeStands new (length h.scopes)) q.1 d)
      ];
      counted = length-set h.classes k (Some (obj_id (length h.objects))) ∙ s.counted;
      named = λ j o e. elim (set_read h.classes k j (Some (obj_id (length h.objects))) (Some (obj_id o)) e) [
        | inl q ↦
            let p : ◌≡◌ {A = Option ObjId} (Some (obj_id (length h.objects))) (Some (obj_id o)) = q.1 in
            let r : obj_id (length h.objects) ≡ obj_id o = cc in
            let z : length h.objects ≡ o = ap (λ (y : ObjId). y.0) r in
            let own : IsClassObject new k (length h.objects) = record { object = ob; at = slice_get_seam h.objects ob; home = home; statics = statics; instances = instances; is = w } in
            subst (λ m. IsClassObject new m o) (sym q.0) (subst (IsClassObject new k) z own)
        | inr q ↦
            let c = s.named j o q.1 in
            record { object = c.object; at = slice_get_left h.objects (ob ∷ []) o (slice_get_within h.objects o c.object c.at) ∙ c.at; home = c.home; statics = c.statics; instances = c.instances; is = c.is }
      ];
      classes = λ j o c. elim (slice_get_more h.objects ob c.object o c.at) [
        | inl q ↦
            let was = s.classes j o (record { object = c.object; at = q.1; home = c.home; statics = c.statics; instances = c.instances; is = c.is }) in
            set_elsewhere h.classes k j (Some (obj_id (length h.objects))) (λ (z : j ≡ k). taken h.classes k (obj_id o) free (ap (slice_get h.classes) (sym z) ∙ was)) ∙ was
        | inr q ↦
            let z : k ≡ j = class_of k j home c.home statics c.statics instances c.instances (sym w ∙ (ap (λ (y : Object). y.what) q.1 ∙ c.is)) in
            subst (λ m. slice_get new.classes m ≡ Some (Some (obj_id o))) z (set_there h.classes k (Some (obj_id (length h.objects))) b ∙ ap (λ m. Some (Some (obj_id m))) (sym q.0))
      ];
    }

-- a class object's layout: it is no array's, and its first slot is the prototype
pub class_layout : (l : LinkedFile) → IsLinkedFile l → (k : ℕ) → k < length l.file.instances → ((layout_of l (parts.ClassObject k)).0 < length l.parts) × ((layout_of l (parts.ClassObject k)).0 ≢ array_layout l) × (0 < length (slots_of_layout l (layout_of l (parts.ClassObject k)).0))
class_layout l t k b =
    let x = (layout_of l (parts.ClassObject k)).0 in
    let c = part_found l t (parts.ClassObject k) b in
    let a = host_found l t hosts.Array in
    let m = host_found l t hosts.Class in
    let below = ap length (slots_are l t (host_layout l hosts.Class) (parts.Host hosts.Class) (parts.Host hosts.Object) m.1 refl) ∙ length-append (slots_of_layout l (host_layout l hosts.Object)) (own_slots l (parts.Host hosts.Class)) in
    let all = ap length (slots_are l t x (parts.ClassObject k) (parts.Host hosts.Class) c.1 refl) ∙ length-append (slots_of_layout l (host_layout l hosts.Class)) (own_slots l (parts.ClassObject k)) in
    let one : length (own_slots l (parts.Host hosts.Class)) ≡ 1 = refl in (
      c.0,
      λ (q : x ≡ array_layout l).
          let w : ◌≡◌ {A = Part} (parts.ClassObject k) (parts.Host hosts.Array) = sym c.1 ∙ (ap (part_at l.parts) q ∙ a.1) in
          absurd cc,
      omega (arith, one, below, all),
    )

pub over_class : (l : LinkedFile) (h : Heap) (c : ClassParts) (saved : Option ScopeId) (es : List ScopeEntry) → StandsOver l h → c.class < length l.file.instances → c.home < length l.file.scripts → c.prototype_layout ≡ host_layout l hosts.Object → c.class_layout ≡ (layout_of l (parts.ClassObject c.class)).0 → IsObjectOrNone h c.base_prototype → IsObjectOrNone h c.delegate → IsScope h saved → AreEntries h es → get_or h.classes c.class None ≡ None → StandsOver l (with_class (start_values l c.prototype_layout) (start_values l c.class_layout) c saved es h)
over_class l h c saved es s bk bh ex ey db dd sc a free =
    let t = s.linked in
    let x = c.prototype_layout in
    let y = c.class_layout in
    let cs = start_values l y in
    let object = host_found l t hosts.Object in
    let array = host_found l t hosts.Array in
    let k = class_layout l t c.class bk in
    let plain : x ≢ array_layout l = λ (q : x ≡ array_layout l).
    let w : ◌≡◌ {A = Part} (parts.Host hosts.Object) (parts.Host hosts.Array) = sym object.1 ∙ (ap (part_at l.parts) (sym ex ∙ q) ∙ array.1) in
    absurd cc in
    let bx : x < length l.parts = subst (λ n. n < length l.parts) (sym ex) object.0 in
    let by : y < length l.parts = subst (λ n. n < length l.parts) (sym ey) k.0 in
    let h1 = with_made (start_values l x) x c.base_prototype whats.Plain h in
    let g1 = added_grows h (with_more_slots (start_values l x) (bare_object x c.base_prototype whats.Plain)) in
    let s1 : StandsOver l h1 = over_made_object l h x c.base_prototype whats.Plain s bx db tt refl plain (λ i j n m q. absurd cc) in
    let sc1 = scope_grown h h1 saved g1 sc in
    let a1 : AreEntries h1 es = λ i n q. (g1.objects n.object.0 (a i n q)).0 in
    let mid = with_scopes saved es h1 in
    let g2 = scopes_grow h1 saved es in
    let s2 : StandsOver l mid = over_scopes l h1 saved es s1 sc1 a1 in
    let statics = top_of_scopes (length h.scopes) saved es in
    let t2 : IsScope mid statics = top_is h1 saved es sc1 in
    let proto = obj_id (length h.objects) in
    let one : ℕ → Object = λ j. with_slot 0 (values.Obj proto) (with_more_slots cs (bare_object y c.delegate (whats.ClassObject c.class c.home statics (scope_id j)))) in
    let node : ℕ → ScopeNode = λ q. record { entry = record { object = obj_id q; with_flag = false }; parent = statics } in
    let ob = one (length mid.scopes) in
    let n = node (length mid.objects) in
    let new = with_both ob n c.class mid in
    let g3 = both_grow mid ob n c.class in
    let eo : length mid.objects ≡ length h.objects + 1 = length-append h.objects (_ ∷ []) in
    let ei : length mid.scopes ≡ length h.scopes + length es = length-append h.scopes (nodes (length h.scopes) saved es) ∙ omega (arith, nodes_length (length h.scopes) saved es) in
    let there : length h.objects < length (mid.objects ++ ob ∷ []) = omega (arith, eo, length-append mid.objects (ob ∷ [])) in
    let stands : ObjectStands l new (length mid.objects) ob = record {
      layout = by;
      slots = length-set cs 0 (values.Obj proto) ∙ length-map (slots_of_layout l y) (λ (i : SlotInfo). start_value l.file.strings i.start);
      delegate = older mid c.delegate (bound_grown h1 mid c.delegate g2 (bound_grown h h1 c.delegate g1 dd));
      what = (bk, bh, scope_grown mid new statics g3 t2, omega (arith, length-append mid.scopes (n ∷ [])));
      array = λ q. absurd cc;
      no_array = λ q. λ (w : y ≡ array_layout l). k.1 (sym ey ∙ w);
      elements = λ q. refl;
      slot_values = each_set (Exists l new) cs 0 (values.Obj proto) (λ i v q. exists_grown l mid new v g3 (start_there l mid y i v (fixed_long l mid s2) (s.starts y by) q)) there;
      properties = λ i v q. absurd cc;
      element_values = λ i v q. absurd cc;
    } in
    let scope : ScopeStands new (length mid.scopes) n = record { object = omega (arith, length-append mid.objects (ob ∷ [])); parent = beneath mid statics t2 } in
    let bc : c.class < length mid.classes = omega (arith, s.counted, bk) in
    let r : StandsOver l new = over_both l mid ob n c.class c.home statics (scope_id (length mid.scopes)) s2 bc free refl stands scope in
    let made : ℕ → ℕ → Heap = λ q j. record mid { objects = mid.objects ++ one j ∷ []; scopes = mid.scopes ++ node q ∷ []; classes = set h.classes c.class (Some (obj_id q)) } in
    let last = change_last (with_slot 0 (values.Obj proto)) mid.objects (with_more_slots cs (bare_object y c.delegate (whats.ClassObject c.class c.home statics (scope_id (length h.scopes + length es))))) (length h.objects + 1) (sym eo) in
    let placed : List Object → Heap = λ obs. record mid { objects = obs; scopes = mid.scopes ++ node (length h.objects + 1) ∷ []; classes = set h.classes c.class (Some (obj_id (length h.objects + 1))) } in
    subst (StandsOver l) (ap (λ q. made q (length mid.scopes)) eo ∙ (ap (made (length h.objects + 1)) ei ∙ sym (ap placed last))) r
