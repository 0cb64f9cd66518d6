-- What is used after a step.
use Rattle.std.proofs.Common.{◌≡◌, ℕ, ◌+◌, ◌<◌, min, MatchResult, List, [], ◌∷◌, ◌++◌, Option, Some, length, set, refl, ap, ◌∙◌, arith, length-append}
use Rattle.std.specs.Prelude.{false}
use Rattle.std.specs.declared.result.Result.{Result}
use Rattle.std.proofs.lemmas.Result.{MatchResult-weaker}
use Rattle.abc_heap_values.specs.declared.values.ObjId.{ObjId}
use Rattle.abc_heap_values.specs.declared.values.Value.{Value}
use Rattle.abc_heap_values.specs.declared.values.Value.TheVariants.{Obj}
use Rattle.abc_heap_store.specs.declared.records.Full.{Full}
use Rattle.abc_heap_store.specs.declared.records.Limit.{Limit}
use Rattle.abc_heap_store.specs.declared.records.Limit.TheVariants as limits
use Rattle.abc_heap_store.specs.declared.records.What.{What}
use Rattle.abc_heap_store.specs.declared.records.What.TheVariants.{ClassObject, Plain}
use Rattle.abc_heap_store.specs.declared.records.ScopeId.{ScopeId}
use Rattle.abc_heap_store.specs.declared.records.ScopeEntry.{ScopeEntry}
use Rattle.abc_heap_store.specs.declared.store.ClassParts.{ClassParts}
use Rattle.abc_heap_store.specs.Heap.{HasRoomFor, Heap, Object, PassesLimit, all_cells, cells_of, cells_used, slots_of_object, obj_id}
use Rattle.abc_heap_store.specs.Changes.{with_made, with_scopes, with_class, with_object, with_slot}
use Rattle.abc_heap_store.specs.Scopes.{nodes, top_of_scopes, scope_id}
use Rattle.abc_heap_store.proofs.Makes.{nodes_length}

pub used_scopes : (saved : Option ScopeId) (es : List ScopeEntry) (h : Heap) → cells_used (with_scopes saved es h) ≡ cells_used h + length es
used_scopes saved es h = omega (arith, length-append h.scopes (nodes (length h.scopes) saved es), nodes_length (length h.scopes) saved es)

pub all_more : (obs : List Object) (ob : Object) → all_cells (obs ++ ob ∷ []) ≡ all_cells obs + cells_of ob
all_more [] ob = omega arith
all_more (x ∷ obs) ob = omega (arith, all_more obs ob)

pub used_made : (vs : List Value) (layout : ℕ) (delegate : Option ObjId) (what : What) (h : Heap) → cells_used (with_made vs layout delegate what h) ≡ cells_used h + length vs
used_made vs layout delegate what h = omega (arith, all_more h.objects (record { layout = layout; delegate = delegate; slots = vs; properties = []; elements = []; what = what }))

-- the counts after a step
pub record Counted (h : Heap) (new : Heap) (p : ℕ) (q : ℕ) (r : ℕ) : Type 0 where
  pub objects : length new.objects ≡ length h.objects + p
  pub cells : cells_used new ≡ cells_used h + q
  pub scopes : length new.scopes ≡ length h.scopes + r
  pub limit_objects : new.limits.objects ≡ h.limits.objects
  pub limit_cells : new.limits.cells ≡ h.limits.cells

pub made_counted : (vs : List Value) (layout : ℕ) (delegate : Option ObjId) (what : What) (h new : Heap) → new ≡ with_made vs layout delegate what h → Counted h new 1 (length vs) 0
made_counted vs layout delegate what h new e = record {
  objects = ap (λ (x : Heap). length x.objects) e ∙ length-append h.objects (_ ∷ []);
  cells = ap cells_used e ∙ used_made vs layout delegate what h;
  scopes = ap (λ (x : Heap). length x.scopes) e ∙ omega arith;
  limit_objects = ap (λ (x : Heap). x.limits.objects) e;
  limit_cells = ap (λ (x : Heap). x.limits.cells) e;
}

pub scopes_counted : (saved : Option ScopeId) (es : List ScopeEntry) (h new : Heap) → new ≡ with_scopes saved es h → Counted h new 0 (length es) (length es)
scopes_counted saved es h new e = record {
  objects = ap (λ (x : Heap). length x.objects) e ∙ omega arith;
  cells = ap cells_used e ∙ used_scopes saved es h;
  scopes = ap (λ (x : Heap). length x.scopes) e ∙ (length-append h.scopes (nodes (length h.scopes) saved es) ∙ omega (arith, nodes_length (length h.scopes) saved es));
  limit_objects = ap (λ (x : Heap). x.limits.objects) e;
  limit_cells = ap (λ (x : Heap). x.limits.cells) e;
}

-- the slots of the last object
slots_last : (obs : List Object) (ob : Object) (o : ℕ) → o ≡ length obs → slots_of_object (obs ++ ob ∷ []) o ≡ ob.slots
slots_last [] ob o e = ap (slots_of_object (ob ∷ [])) e
slots_last (x ∷ obs) ob o e = ap (slots_of_object (x ∷ (obs ++ ob ∷ []))) e ∙ slots_last obs ob (length obs) refl

pub made_slot : (vs : List Value) (layout : ℕ) (delegate : Option ObjId) (what : What) (h new : Heap) (o : ℕ) → new ≡ with_made vs layout delegate what h → o ≡ length h.objects → 0 < length vs → 0 < length (slots_of_object new.objects o)
made_slot vs layout delegate what h new o e q b = omega (arith, ap (λ (x : Heap). length (slots_of_object x.objects o)) e, ap length (slots_last h.objects (record { layout = layout; delegate = delegate; slots = vs; properties = []; elements = []; what = what }) o q))

-- the steps of a class, one after the other
pub class_made : (h h1 h2 h3 h4 h5 h6 : Heap) (ps cs : List Value) (parts : ClassParts) (saved : Option ScopeId) (es : List ScopeEntry) (p o : ℕ) (statics : Option ScopeId) (i : ℕ) → p ≡ length h.objects → h1 ≡ with_made ps parts.prototype_layout parts.base_prototype Plain h → statics ≡ top_of_scopes (length h1.scopes) saved es → h2 ≡ with_scopes saved es h1 → i ≡ length h2.scopes → h3 ≡ with_scopes statics ((record { object = obj_id (p + 1); with_flag = false }) ∷ []) h2 → o ≡ length h3.objects → h4 ≡ with_made cs parts.class_layout parts.delegate (ClassObject parts.class parts.home statics (scope_id i)) h3 → h5 ≡ with_object (with_slot 0 (Obj (obj_id p))) o h4 → h6 ≡ record h5 { classes = set h5.classes parts.class (Some (obj_id o)) } → (o ≡ length h.objects + 1) × (h6 ≡ with_class ps cs parts saved es h)
class_made h h1 h2 h3 h4 h5 h6 ps cs parts saved es p o statics i ep e1 es1 e2 ei e3 eo e4 e5 e6 =
    let c1 = made_counted ps parts.prototype_layout parts.base_prototype Plain h h1 e1 in
    let c2 = scopes_counted saved es h1 h2 e2 in
    let c3 = scopes_counted statics ((record { object = obj_id (p + 1); with_flag = false }) ∷ []) h2 h3 e3 in
    let number : o ≡ length h.objects + 1 = omega (arith, eo, c1.objects, c2.objects, c3.objects) in
    let named : ℕ → Heap → Heap = λ r y. record y { classes = set y.classes parts.class (Some (obj_id r)) } in
    let x = with_made ps parts.prototype_layout parts.base_prototype Plain h in
    let f : ℕ → ℕ → Option ScopeId → ℕ → Heap = λ q r s j. named r (with_object (with_slot 0 (Obj (obj_id q))) r (with_made cs parts.class_layout parts.delegate (ClassObject parts.class parts.home s (scope_id j)) (with_scopes s ((record { object = obj_id (q + 1); with_flag = false }) ∷ []) (with_scopes saved es x)))) in
    let s' : statics ≡ top_of_scopes (length h.scopes) saved es = es1 ∙ ap (λ k. top_of_scopes k saved es) (c1.scopes ∙ omega arith) in
    let i' : i ≡ length h.scopes + length es = omega (arith, ei, c1.scopes, c2.scopes) in
    let chain : h6 ≡ f p o statics i =
    e6 ∙ ap (named o) (e5 ∙ ap (with_object (with_slot 0 (Obj (obj_id p))) o) (e4 ∙ ap (with_made cs parts.class_layout parts.delegate (ClassObject parts.class parts.home statics (scope_id i))) (e3 ∙ ap (with_scopes statics ((record { object = obj_id (p + 1); with_flag = false }) ∷ [])) (e2 ∙ ap (with_scopes saved es) e1)))) in (
      number,
      chain ∙ (ap (λ j. f p o statics j) i'
          ∙ (ap (λ s. f p o s (length h.scopes + length es)) s'
          ∙ (ap (λ q. f q o (top_of_scopes (length h.scopes) saved es) (length h.scopes + length es)) ep
          ∙ ap (λ r. f (length h.objects) r (top_of_scopes (length h.scopes) saved es) (length h.scopes + length es)) number))),
    )

-- a test of the room for a sum that saturates above the limit is a test of the sum
pub room_for_sum : (r : Result (Unit {0}) Full) (h : Heap) (objects n m most : ℕ) → n ≡ min m most → h.limits.cells < most → MatchResult r (λ _. HasRoomFor h objects n) (λ e. PassesLimit h objects n e.0) → MatchResult r (λ _. HasRoomFor h objects m) (λ e. PassesLimit h objects m e.0)
room_for_sum r h objects n m most is low p = MatchResult-weaker r p (λ _ q. room q) (λ e q. passes e.0 q)
  where
    room : HasRoomFor h objects n → HasRoomFor h objects m
    room q = let fits = q.1 in (q.0, omega (arith, fits, is, low))

    passes : (e : Limit) → PassesLimit h objects n e → PassesLimit h objects m e
    passes limits.Objects q = q
    passes limits.Cells q = let over = q.1 in (q.0, omega (arith, over, is))
    passes limits.Text q = q
    passes limits.Frames q = q
    passes limits.Stack q = q
