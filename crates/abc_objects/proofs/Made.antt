-- Objects with the slots of their layouts stand.
use Rattle.std.proofs.Common.{◌≡◌, ◌≢◌, ℕ, zero, suc, ◌+◌, ◌<◌, ◌≤◌, List, [], ◌∷◌, ◌++◌, Option, Some, None, length, map, true, false, refl, sym, ap, ◌∙◌, subst, arith, length-append}
use Rattle.std.specs.Prelude.{slice_get, option_map, get_or, replicate}
use Rattle.std.proofs.lemmas.Option.{slice_get-map}
use Rattle.std.proofs.lemmas.List.{length-map, get_or_default}
use Rattle.abc_heap_values.specs.declared.values.ObjId.{ObjId}
use Rattle.abc_heap_values.specs.declared.values.Value.{Value}
use Rattle.abc_heap_values.specs.declared.values.Value.TheVariants as values
use Rattle.abc_heap_store.specs.declared.records.ScopeId.{ScopeId}
use Rattle.abc_heap_store.specs.declared.records.What.{What}
use Rattle.abc_heap_store.specs.declared.records.What.TheVariants as whats
use Rattle.abc_heap_store.specs.Heap.{Heap, Object, slots_of_object}
use Rattle.abc_heap_store.specs.What.{is_array}
use Rattle.abc_heap_store.proofs.Bytes.{past_pool}
use Rattle.abc_heap_store.specs.Changes.{with_made, with_array, with_scopes, with_more_slots, with_more_elements, bare_object}
use Rattle.abc_heap_store.specs.Scopes.{top_of_scopes}
use Rattle.abc_heap_store.specs.declared.records.ScopeEntry.{ScopeEntry}
use Rattle.abc_base.specs.declared.names.HostClass.{HostClass}
use Rattle.abc_base.specs.declared.names.HostClass.TheVariants as hosts
use Rattle.abc_link_names.specs.Linked.{LinkedFile, IsLinkedFile, base_layout, layout_of}
use Rattle.abc_link_names.specs.Parts.{HasLayout, parent}
use Rattle.abc_link_names.specs.Places.{place_under}
use Rattle.abc_base_graphs.specs.Heirs.{heritage}
use Rattle.abc_base_graphs.proofs.Laid.{heritage_none, heritage_some}
use Rattle.abc_link_names.specs.Numbering.{part_at}
use Rattle.abc_link_names.specs.declared.part.Part.{Part}
use Rattle.abc_link_names.specs.declared.part.Part.TheVariants as parts
use Rattle.abc_link_names.proofs.Finding.{place_low, falling}
use Rattle.abc_link_names.specs.Slots.{slots_of, own_slots}
use Rattle.abc_link_names.specs.declared.types.SlotInfo.{SlotInfo}
use Rattle.abc_link_names.specs.declared.start.Start.{Start}
use Rattle.abc_link_names.specs.declared.start.Start.TheVariants as starts
use Rattle.abc_objects.specs.Fixed.{fixed_bytes}
use Rattle.abc_objects.specs.Starts.{start_value, start_values, StartExists, StartsExist, StartsIn, CanStartSlots}
use Rattle.abc_objects.specs.Values.{Exists}
use Rattle.abc_objects.specs.Stands.{StandsOver, ObjectStands, NamesParts, IsOlder, IsObjectOrNone, IsScope, IsMadeAlone, AreEntries, EachAt, array_layout, host_layout, object_if_any, prototype_of}
use Rattle.abc_objects.proofs.Grown.{bound_grown}
use Rattle.abc_objects.proofs.Kept.{over_added, over_scopes, scopes_grow, top_is}

pub fixed_long : (l : LinkedFile) (h : Heap) → StandsOver l h → 62 ≤ length h.fixed
fixed_long l h s =
    let n : length fixed_bytes ≡ 62 = refl in
    omega (arith, n, ap length s.fixed.1, length-append fixed_bytes s.fixed.0)

start_exists : (l : LinkedFile) (h : Heap) (x : Start) → 62 ≤ length h.fixed → StartExists l x → Exists l h (start_value l.file.strings x)
start_exists l h starts.Undefined s e = tt
start_exists l h starts.Null s e = tt
start_exists l h (starts.Num n) s e = e
start_exists l h (starts.Bool b) s e = tt
start_exists l h (starts.BoolText true) s e = omega arith
start_exists l h (starts.BoolText false) s e = omega arith
start_exists l h (starts.Text zero) s e = omega arith
start_exists l h (starts.Text (suc i)) s e = omega arith
start_exists l h (starts.Space n) s e = e

pub start_there : (l : LinkedFile) (h : Heap) (x k : ℕ) (v : Value) → 62 ≤ length h.fixed → StartsIn l (slots_of l x) → slice_get (start_values l x) k ≡ Some v → Exists l h v
start_there l h x k v s e q = go (slice_get (slots_of l x) k) refl
  where
    go : (i : Option SlotInfo) → slice_get (slots_of l x) k ≡ i → Exists l h v
    go None w =
        let p : ◌≡◌ {A = Option Value} None (Some v) = ap (option_map (λ (i : SlotInfo). start_value l.file.strings i.start)) (sym w) ∙ (sym (slice_get-map (λ (i : SlotInfo). start_value l.file.strings i.start) (slots_of l x) k) ∙ q) in
        absurd cc
    go (Some i) w =
        let p : ◌≡◌ {A = Option Value} (Some (start_value l.file.strings i.start)) (Some v) = ap (option_map (λ (i : SlotInfo). start_value l.file.strings i.start)) (sym w) ∙ (sym (slice_get-map (λ (i : SlotInfo). start_value l.file.strings i.start) (slots_of l x) k) ∙ q) in
        let r : start_value l.file.strings i.start ≡ v = cc in
        subst (Exists l h) r (start_exists l h i.start s (e.each k i w))

pub older : (h : Heap) (d : Option ObjId) → IsObjectOrNone h d → IsOlder (length h.objects) d
older h None e = tt
older h (Some d) e = e

-- an object with the slots of a layout, at their start values
pub bare_stands : (l : LinkedFile) (h : Heap) (o x : ℕ) (delegate : Option ObjId) (what : What) → 62 ≤ length h.fixed → StartsExist l → x < length l.parts → IsOlder o delegate → NamesParts l h what → is_array what ≡ false → x ≢ array_layout l → ObjectStands l h o (with_more_slots (start_values l x) (bare_object x delegate what))
bare_stands l h o x delegate what f e b d n plain ne = record {
  layout = b;
  slots = length-map (slots_of l x) (λ (i : SlotInfo). start_value l.file.strings i.start);
  delegate = d;
  what = n;
  array = λ q. absurd cc;
  no_array = λ q. ne;
  elements = λ q. refl;
  slot_values = λ k v q. start_there l h x k v f (e x b) q;
  properties = λ k p q. absurd cc;
  element_values = λ k v q. absurd cc;
}

-- what an object may be that is made by itself
pub over_made_object : (l : LinkedFile) (h : Heap) (x : ℕ) (delegate : Option ObjId) (what : What) → StandsOver l h → x < length l.parts → IsObjectOrNone h delegate → NamesParts l h what → is_array what ≡ false → x ≢ array_layout l → ((k s : ℕ) (c : Option ScopeId) (i : ScopeId) → what ≡ whats.ClassObject k s c i → ⊥) → StandsOver l (with_made (start_values l x) x delegate what h)
over_made_object l h x delegate what s b d n plain ne not_class =
    over_added l h (with_more_slots (start_values l x) (bare_object x delegate what)) s (bare_stands l h (length h.objects) x delegate what (fixed_long l h s) s.starts b (older h delegate d) n plain ne) not_class

pub can_start : (l : LinkedFile) (x : ℕ) (pool : List (List ℕ)) (slots : List SlotInfo) → pool ≡ l.file.strings → slots ≡ slots_of l x → StartsIn l (slots_of l x) → CanStartSlots pool slots
can_start l x pool slots p q e =
    let own : CanStartSlots l.file.strings (slots_of l x) = record { few = e.few; short = λ k s w i r. subst (λ (y : Start). StartExists l y) r (e.each k s w) } in
    subst (λ (t : List (List ℕ)). CanStartSlots t slots) (sym p) (subst (CanStartSlots l.file.strings) (sym q) own)

-- past the end of the pool
pub past_pool_text : (pool : List (List ℕ)) (i : ℕ) → slice_get pool i ≡ None → get_or pool i [] ≡ []
past_pool_text = past_pool

-- the layouts of parts, which differ
pub part_found : (l : LinkedFile) → IsLinkedFile l → (p : Part) → HasLayout l.file p → ((layout_of l p).0 < length l.parts) × (part_at l.parts (layout_of l p).0 ≡ p)
part_found l t p has =
    let e = t.numbering.every p has in
    let q = place_low l.parts p e.0 e.1 (get_or_default l.parts e.0 (parts.Host hosts.Object) p e.1 ∙ e.2) in
    (omega (arith, q.0, e.1), q.1)

pub host_found : (l : LinkedFile) → IsLinkedFile l → (c : HostClass) → (host_layout l c < length l.parts) × (part_at l.parts (host_layout l c) ≡ parts.Host c)
host_found l t c = part_found l t (parts.Host c) tt

pub function_layout : (l : LinkedFile) → IsLinkedFile l → (host_layout l hosts.Function < length l.parts) × (host_layout l hosts.Function ≢ array_layout l)
function_layout l t =
    let f = host_found l t hosts.Function in
    let a = host_found l t hosts.Array in (
      f.0,
      λ (q : host_layout l hosts.Function ≡ array_layout l).
          let w : ◌≡◌ {A = Part} (parts.Host hosts.Function) (parts.Host hosts.Array) = sym f.1 ∙ (ap (part_at l.parts) q ∙ a.1) in
          absurd cc,
    )

-- a function, above the scopes that it keeps
pub over_function : (l : LinkedFile) (h : Heap) (m s : ℕ) (delegate : Option ObjId) (saved : Option ScopeId) (es : List ScopeEntry) → StandsOver l h → m < length l.file.methods → s < length l.file.scripts → IsObjectOrNone h delegate → IsScope h saved → AreEntries h es → StandsOver l (with_made (start_values l (host_layout l hosts.Function)) (host_layout l hosts.Function) delegate (whats.Closure m s (top_of_scopes (length h.scopes) saved es) None) (with_scopes saved es h))
over_function l h m s delegate saved es over bm bs d sc a =
    let mid = with_scopes saved es h in
    let f = function_layout l over.linked in
    over_made_object l mid (host_layout l hosts.Function) delegate (whats.Closure m s (top_of_scopes (length h.scopes) saved es) None)
    (over_scopes l h saved es over sc a) f.0 (bound_grown h mid delegate (scopes_grow h saved es) d) (bm, bs, top_is h saved es sc, tt) refl f.1 (λ k n c i q. absurd cc)

-- an object that is made by itself is no array and no class object
pub made_alone : (what : What) → IsMadeAlone what → (is_array what ≡ false) × ((k s : ℕ) (c : Option ScopeId) (i : ScopeId) → what ≡ whats.ClassObject k s c i → ⊥)
made_alone whats.Plain e = (refl, λ k s c i q. absurd cc)
made_alone (whats.Closure m h t b) e = (refl, λ k s c i q. absurd cc)
made_alone whats.Activation e = (refl, λ k s c i q. absurd cc)
made_alone whats.Catch e = (refl, λ k s c i q. absurd cc)
made_alone (whats.ClassObject k s c i) e = absurd e
made_alone (whats.HostClass c) e = absurd e
made_alone whats.Trace e = absurd e
made_alone (whats.Formula n) e = absurd e
made_alone whats.HostObject e = absurd e
made_alone (whats.Global n) e = absurd e
made_alone whats.Array e = absurd e

-- a class's own slots stand behind those of its base
pub slots_are : (l : LinkedFile) → IsLinkedFile l → (x : ℕ) (p q : Part) → part_at l.parts x ≡ p → parent l.file p ≡ Some q → slots_of l x ≡ slots_of l (layout_of l q).0 ++ own_slots l p
slots_are l t x p q e up =
    let own = λ (y : ℕ). own_slots l (part_at l.parts y) in
    let f = falling l.file l.parts t.numbering in
    let above : base_layout l x ≡ Some (layout_of l q).0 = ap (λ r. place_under l.parts (parent l.file r)) e ∙ ap (place_under l.parts) up in
    heritage_some (base_layout l) own f x ∙ (ap (λ n. heritage (base_layout l) own n ++ own x) above ∙ ap (λ r. heritage (base_layout l) own (Some (layout_of l q).0) ++ own_slots l r) e)

-- plain objects have no slots
pub object_slots : (l : LinkedFile) → IsLinkedFile l → slots_of l (host_layout l hosts.Object) ≡ []
object_slots l t =
    let o = host_found l t hosts.Object in
    let own = λ (y : ℕ). own_slots l (part_at l.parts y) in
    let f = falling l.file l.parts t.numbering in
    let top_of : base_layout l (host_layout l hosts.Object) ≡ None = ap (λ p. place_under l.parts (parent l.file p)) o.1 in
    let none : own (host_layout l hosts.Object) ≡ [] = ap (own_slots l) o.1 in
    heritage_some (base_layout l) own f (host_layout l hosts.Object) ∙ (ap (λ n. heritage (base_layout l) own n ++ own (host_layout l hosts.Object)) top_of ∙ (ap (λ xs. heritage (base_layout l) own None ++ xs) none ∙ ap (λ xs. xs ++ []) (heritage_none (base_layout l) own)))

-- nor have instances of a class of the host without own slots that stands under Object
pub no_slots : (l : LinkedFile) → IsLinkedFile l → (c : HostClass) → own_slots l (parts.Host c) ≡ [] → parent l.file (parts.Host c) ≡ Some (parts.Host hosts.Object) → slots_of l (host_layout l c) ≡ []
no_slots l t c none up =
    slots_are l t (host_layout l c) (parts.Host c) (parts.Host hosts.Object) (host_found l t c).1 up ∙ (ap (λ xs. slots_of l (host_layout l hosts.Object) ++ xs) none ∙ ap (λ xs. xs ++ []) (object_slots l t))

pub over_array : (l : LinkedFile) (h : Heap) (es : List Value) (delegate : Option ObjId) → StandsOver l h → IsObjectOrNone h delegate → EachAt (Exists l h) es → StandsOver l (with_array es (array_layout l) delegate h)
over_array l h es delegate s d e =
    over_added l h (with_more_elements es (bare_object (array_layout l) delegate whats.Array)) s (record {
      layout = (host_found l s.linked hosts.Array).0;
      slots = sym (ap length (no_slots l s.linked hosts.Array refl refl));
      delegate = older h delegate d;
      what = tt;
      array = λ q. refl;
      no_array = λ q. absurd cc;
      elements = λ q. absurd cc;
      slot_values = λ k v q. absurd cc;
      properties = λ k p q. absurd cc;
      element_values = e;
    }) (λ k n c i q. absurd cc)

-- undefined elements exist
pub undefined_exist : (l : LinkedFile) (h : Heap) (n : ℕ) → EachAt (Exists l h) (replicate n values.Undefined)
undefined_exist l h zero k v q = absurd cc
undefined_exist l h (suc n) zero v q = let w : values.Undefined ≡ v = cc in subst (Exists l h) w tt
undefined_exist l h (suc n) (suc k) v q = undefined_exist l h n k v q

value_there : (obs : List Object) (o k : ℕ) (v : Value) → slice_get (slots_of_object obs o) k ≡ Some v → (ob : Object) × (slice_get obs o ≡ Some ob) × (slice_get ob.slots k ≡ Some v)
value_there [] o k v e = absurd cc
value_there (ob ∷ obs) zero k v e = (ob, refl, e)
value_there (ob ∷ obs) (suc o) k v e = value_there obs o k v e

-- the prototype that a slot holds is an object
pub prototype_is : (l : LinkedFile) (h : Heap) (o : ℕ) → StandsOver l h → IsObjectOrNone h (prototype_of h o)
prototype_is l h o s = go (slice_get (slots_of_object h.objects o) 0) refl
  where
    go : (v : Option Value) → slice_get (slots_of_object h.objects o) 0 ≡ v → IsObjectOrNone h (object_if_any v)
    go None q = tt
    go (Some values.Undefined) q = tt
    go (Some values.Null) q = tt
    go (Some (values.Num n)) q = tt
    go (Some (values.Bool b)) q = tt
    go (Some (values.Text t)) q = tt
    go (Some (values.Space n)) q = tt
    go (Some (values.Obj p)) q = let w = value_there h.objects o 0 (values.Obj p) q in (s.objects o w.0 w.1).slot_values 0 (values.Obj p) w.2
