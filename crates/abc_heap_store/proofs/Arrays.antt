-- Elements that are added one after the other.
use Rattle.std.proofs.Common.{◌≡◌, ℕ, true, zero, suc, ◌+◌, ◌<◌, List, [], ◌∷◌, ◌++◌, Option, length, refl, ap, ◌∙◌, arith, length-append, append_assoc, append-nil}
use Rattle.abc_heap_values.specs.declared.values.ObjId.{ObjId}
use Rattle.abc_heap_values.specs.declared.values.Value.{Value}
use Rattle.abc_heap_store.specs.declared.records.What.TheVariants.{Array}
use Rattle.abc_heap_store.specs.What.{is_array}
use Rattle.abc_heap_store.specs.Heap.{Heap, Object, object_at, all_cells, HasRoomFor}
use Rattle.abc_heap_store.specs.Changes.{change, with_object, with_more_elements, with_array, bare_object}
use Rattle.abc_heap_store.proofs.Makes.{change_last}
use Rattle.abc_heap_store.proofs.Steps.{all_more}

pub elements_on : (vs ws : List Value) (o : ℕ) (obs : List Object) → change (with_more_elements ws) o (change (with_more_elements vs) o obs) ≡ change (with_more_elements (vs ++ ws)) o obs
elements_on vs ws o [] = refl
elements_on vs ws zero (ob ∷ obs) = ap (λ es. (record ob { elements = es }) ∷ obs) (append_assoc ob.elements vs ws)
elements_on vs ws (suc o) (ob ∷ obs) = ap (λ r. ob ∷ r) (elements_on vs ws o obs)

pub no_elements : (o : ℕ) (obs : List Object) → change (with_more_elements []) o obs ≡ obs
no_elements o [] = refl
no_elements zero (ob ∷ obs) = ap (λ es. (record ob { elements = es }) ∷ obs) (append-nil ob.elements)
no_elements (suc o) (ob ∷ obs) = ap (λ r. ob ∷ r) (no_elements o obs)

pub length_change : (f : Object → Object) (o : ℕ) (obs : List Object) → length (change f o obs) ≡ length obs
length_change f o [] = refl
length_change f zero (ob ∷ obs) = refl
length_change f (suc o) (ob ∷ obs) = ap suc (length_change f o obs)

all_elements : (vs : List Value) (o : ℕ) (obs : List Object) → o < length obs → all_cells (change (with_more_elements vs) o obs) ≡ all_cells obs + length vs
all_elements vs zero (ob ∷ obs) b = omega (arith, length-append ob.elements vs)
all_elements vs (suc o) (ob ∷ obs) b = omega (arith, all_elements vs o obs (omega arith))
all_elements vs o [] b = absurd (omega arith)

-- while some of the elements are there, the next one fits
pub element_fits : (h now : Heap) (vs : List Value) (o k n : ℕ) → o < length h.objects → HasRoomFor h 0 n → k < n → length vs ≡ k → now ≡ with_object (with_more_elements vs) o h → (o < length now.objects) × HasRoomFor now 0 1
element_fits h now vs o k n b r s w e =
    let f = with_more_elements vs in
    let objects : length now.objects ≡ length h.objects = ap (λ (x : Heap). length x.objects) e ∙ length_change f o h.objects in
    let cells : all_cells now.objects ≡ all_cells h.objects + length vs = ap (λ (x : Heap). all_cells x.objects) e ∙ all_elements vs o h.objects b in
    let scopes : length now.scopes ≡ length h.scopes = ap (λ (x : Heap). length x.scopes) e in
    let most : now.limits.objects ≡ h.limits.objects = ap (λ (x : Heap). x.limits.objects) e in
    let limit : now.limits.cells ≡ h.limits.cells = ap (λ (x : Heap). x.limits.cells) e in
    (omega (arith, objects), (omega (arith, objects, most, r), omega (arith, cells, scopes, limit, r)))

-- one more
pub element_added_on : (h now new : Heap) (vs ws : List Value) (v : Value) (o : ℕ) → now ≡ with_object (with_more_elements vs) o h → new ≡ with_object (with_more_elements (v ∷ [])) o now → vs ++ v ∷ [] ≡ ws → new ≡ with_object (with_more_elements ws) o h
element_added_on h now new vs ws v o e f q =
    f ∙ (ap (with_object (with_more_elements (v ∷ [])) o) e
    ∙ (ap (λ obs. record h { objects = obs }) (elements_on vs (v ∷ []) o h.objects)
    ∙ ap (λ us. with_object (with_more_elements us) o h) q))

-- an array, empty and then filled
pub array_begun : (h new : Heap) (layout : ℕ) (delegate : Option ObjId) (o n : ℕ) → HasRoomFor h 1 n → o ≡ length h.objects → new ≡ with_array [] layout delegate h → (o < length new.objects) × HasRoomFor new 0 n
array_begun h new layout delegate o n r q e =
    let ob = with_more_elements [] (bare_object layout delegate Array) in
    let objects : length new.objects ≡ length h.objects + 1 = ap (λ (x : Heap). length x.objects) e ∙ length-append h.objects (ob ∷ []) in
    let cells : all_cells new.objects ≡ all_cells h.objects + 0 = ap (λ (x : Heap). all_cells x.objects) e ∙ all_more h.objects ob in
    let scopes : length new.scopes ≡ length h.scopes = ap (λ (x : Heap). length x.scopes) e in
    let most : new.limits.objects ≡ h.limits.objects = ap (λ (x : Heap). x.limits.objects) e in
    let limit : new.limits.cells ≡ h.limits.cells = ap (λ (x : Heap). x.limits.cells) e in
    (omega (arith, objects, q), (omega (arith, objects, most, r), omega (arith, cells, scopes, limit, r)))

pub array_filled : (h h1 h2 : Heap) (es : List Value) (layout : ℕ) (delegate : Option ObjId) (o : ℕ) → o ≡ length h.objects → h1 ≡ with_array [] layout delegate h → h2 ≡ with_object (with_more_elements es) o h1 → h2 ≡ with_array es layout delegate h
array_filled h h1 h2 es layout delegate o q e f =
    f ∙ (ap (with_object (with_more_elements es) o) e ∙ ap (λ obs. record h { objects = obs }) (change_last (with_more_elements es) h.objects (with_more_elements [] (bare_object layout delegate Array)) o q))

-- an array stays one while elements are added
what_stays : (vs : List Value) (o : ℕ) (obs : List Object) → (object_at (change (with_more_elements vs) o obs) o).what ≡ (object_at obs o).what
what_stays vs o [] = refl
what_stays vs zero (ob ∷ obs) = refl
what_stays vs (suc o) (ob ∷ obs) = what_stays vs o obs

pub array_stays : (h now : Heap) (vs : List Value) (o : ℕ) → is_array (object_at h.objects o).what ≡ true → now ≡ with_object (with_more_elements vs) o h → is_array (object_at now.objects o).what ≡ true
array_stays h now vs o a e = ap (λ (x : Heap). is_array (object_at x.objects o).what) e ∙ (ap is_array (what_stays vs o h.objects) ∙ a)

last_object : (obs : List Object) (ob : Object) → object_at (obs ++ ob ∷ []) (length obs) ≡ ob
last_object [] ob = refl
last_object (x ∷ obs) ob = last_object obs ob

pub array_is_made : (h new : Heap) (layout : ℕ) (delegate : Option ObjId) (o : ℕ) → o ≡ length h.objects → new ≡ with_array [] layout delegate h → is_array (object_at new.objects o).what ≡ true
array_is_made h new layout delegate o q e =
    let ob = with_more_elements [] (bare_object layout delegate Array) in
    ap (λ (x : Heap). is_array (object_at x.objects o).what) e
    ∙ (ap (λ n. is_array (object_at (h.objects ++ ob ∷ []) n).what) q ∙ ap (λ (x : Object). is_array x.what) (last_object h.objects ob))
