-- What holds of values, texts and objects still holds in a heap that grew.
use Rattle.std.proofs.Common.{◌≡◌, ℕ, zero, suc, ◌+◌, ◌≤◌, [], ◌++◌, Option, Some, None, length, refl, sym, ap, ◌∙◌, subst, arith, length-append, append_assoc, append-nil}
use Rattle.std.specs.Prelude.{slice_get}
use Rattle.std.proofs.lemmas.Option.{slice_get_within}
use Rattle.abc_heap_values.proofs.Parts.{slice_get_left}
use Rattle.abc_heap_values.specs.declared.values.Span.{Span}
use Rattle.abc_heap_values.specs.declared.values.ObjId.{ObjId}
use Rattle.abc_heap_values.specs.declared.values.Value.{Value}
use Rattle.abc_heap_values.specs.declared.values.Value.TheVariants as values
use Rattle.abc_heap_store.specs.declared.records.ScopeId.{ScopeId}
use Rattle.abc_heap_store.specs.declared.records.ScopeNode.{ScopeNode}
use Rattle.abc_heap_store.specs.declared.records.What.{What}
use Rattle.abc_heap_store.specs.declared.records.What.TheVariants as whats
use Rattle.abc_heap_store.specs.Heap.{Heap, Object, object_at}
use Rattle.abc_heap_store.specs.Texts.{IsText, part_of_text}
use Rattle.abc_link_names.specs.Linked.{LinkedFile}
use Rattle.abc_link_names.specs.Tree.{IsBelow}
use Rattle.abc_link_names.specs.declared.types.Kind.{Kind}
use Rattle.abc_link_names.specs.declared.types.Kind.TheVariants as kinds
use Rattle.abc_objects.specs.Values.{Exists, IsValueOf}
use Rattle.abc_objects.specs.Growing.{Grows, ObjectKeeps}
use Rattle.abc_objects.specs.Opening.{opening_objects, opening_scopes}
use Rattle.abc_objects.specs.Stands.{HasOpening, IsScope, IsObjectOrNone, NamesParts, IsProperty, ObjectStands, ScopeStands}

pub keeps_self : (ob : Object) → ObjectKeeps ob ob
keeps_self ob = record { layout = refl; delegate = refl; what = refl }

pub keeps_same : (a b : Object) → b ≡ a → ObjectKeeps a b
keeps_same a b e = record { layout = ap (λ (z : Object). z.layout) e; delegate = ap (λ (z : Object). z.delegate) e; what = ap (λ (z : Object). z.what) e }

pub keeps_on : (a b c : Object) → ObjectKeeps a b → ObjectKeeps b c → ObjectKeeps a c
keeps_on a b c p q = record { layout = q.layout ∙ p.layout; delegate = q.delegate ∙ p.delegate; what = q.what ∙ p.what }

pub grows_self : (h : Heap) → Grows h h
grows_self h = record { objects = λ o b. (b, keeps_self (object_at h.objects o)); scopes = ([], sym (append-nil h.scopes)); fixed = refl; made = ([], sym (append-nil h.made)); formulas = refl }

pub grows_on : (a b c : Heap) → Grows a b → Grows b c → Grows a c
grows_on a b c p q = record {
  objects = λ o i. let r = p.objects o i in let s = q.objects o r.0 in (s.0, keeps_on (object_at a.objects o) (object_at b.objects o) (object_at c.objects o) r.1 s.1);
  scopes = (p.scopes.0 ++ q.scopes.0, q.scopes.1 ∙ (ap (λ m. m ++ q.scopes.0) p.scopes.1 ∙ append_assoc a.scopes p.scopes.0 q.scopes.0));
  fixed = q.fixed ∙ p.fixed;
  made = (p.made.0 ++ q.made.0, q.made.1 ∙ (ap (λ m. m ++ q.made.0) p.made.1 ∙ append_assoc a.made p.made.0 q.made.0));
  formulas = q.formulas ∙ p.formulas;
}

pub scopes_grown : (a b : Heap) → Grows a b → length a.scopes ≤ length b.scopes
scopes_grown a b g = omega (arith, ap length g.scopes.1, length-append a.scopes g.scopes.0)

pub scope_kept : (a b : Heap) (s : ℕ) (n : ScopeNode) → Grows a b → slice_get a.scopes s ≡ Some n → slice_get b.scopes s ≡ Some n
scope_kept a b s n g e = ap (λ ns. slice_get ns s) g.scopes.1 ∙ (slice_get_left a.scopes g.scopes.0 s (slice_get_within a.scopes s n e) ∙ e)

-- what the opening made
pub opening_grown : (l : LinkedFile) (a b : Heap) → Grows a b → HasOpening l a → HasOpening l b
opening_grown l a b g e = record {
  objects = λ o ob q.
      let was = e.objects o ob (ap (λ fs. slice_get (opening_objects l fs) o) (sym g.formulas) ∙ q) in
      let now = g.objects o was.0 in
      (now.0, keeps_on ob (object_at a.objects o) (object_at b.objects o) was.1 now.1);
  scopes = λ s n q. scope_kept a b s n g (e.scopes s n (ap (λ fs. slice_get (opening_scopes l (length fs)) s) (sym g.formulas) ∙ q));
  few = omega (arith, e.few, ap length g.formulas);
}

-- a text
part_grown : (l : LinkedFile) (a b : Heap) (p : ℕ) → Grows a b → length (part_of_text a.fixed a.made l.file.strings p) ≤ length (part_of_text b.fixed b.made l.file.strings p)
part_grown l a b zero g = omega (arith, ap length g.fixed)
part_grown l a b (suc zero) g = omega (arith, ap length g.made.1, length-append a.made g.made.0)
part_grown l a b (suc (suc i)) g = omega arith

pub text_grown : (l : LinkedFile) (a b : Heap) (s : Span) → Grows a b → IsText l.file.strings a s → IsText l.file.strings b s
text_grown l a b s g t = omega (arith, t, part_grown l a b s.part g)

-- a value
pub exists_grown : (l : LinkedFile) (a b : Heap) (v : Value) → Grows a b → Exists l a v → Exists l b v
exists_grown l a b values.Undefined g e = tt
exists_grown l a b values.Null g e = tt
exists_grown l a b (values.Num n) g e = e
exists_grown l a b (values.Bool n) g e = tt
exists_grown l a b (values.Text s) g e = text_grown l a b s g e
exists_grown l a b (values.Space n) g e = e
exists_grown l a b (values.Obj o) g e = (g.objects o.0 e).0

-- a value of a kind
pub holds_grown : (l : LinkedFile) (a b : Heap) (k : Kind) (v : Value) → Grows a b → IsValueOf l a k v → IsValueOf l b k v
holds_grown l a b kinds.Any v g e = tt
holds_grown l a b (kinds.Obj x) (values.Obj o) g e = let r = g.objects o.0 e.0 in (r.0, subst (λ n. IsBelow l n x.0) (sym r.1.layout) e.1)
holds_grown l a b kinds.Undef values.Undefined g e = tt
holds_grown l a b kinds.Null values.Null g e = tt
holds_grown l a b kinds.Num (values.Num n) g e = tt
holds_grown l a b kinds.Bool (values.Bool n) g e = tt
holds_grown l a b kinds.Text values.Null g e = tt
holds_grown l a b kinds.Text (values.Text s) g e = tt
holds_grown l a b kinds.Space values.Null g e = tt
holds_grown l a b kinds.Space (values.Space n) g e = tt
holds_grown l a b (kinds.Obj x) values.Null g e = tt
holds_grown l a b k v g e = grind arith

pub scope_grown : (a b : Heap) (s : Option ScopeId) → Grows a b → IsScope a s → IsScope b s
scope_grown a b None g e = tt
scope_grown a b (Some s) g e = omega (arith, e, scopes_grown a b g)

pub bound_grown : (a b : Heap) (o : Option ObjId) → Grows a b → IsObjectOrNone a o → IsObjectOrNone b o
bound_grown a b None g e = tt
bound_grown a b (Some o) g e = (g.objects o.0 e).0

pub names_grown : (l : LinkedFile) (a b : Heap) (w : What) → Grows a b → NamesParts l a w → NamesParts l b w
names_grown l a b whats.Plain g e = tt
names_grown l a b (whats.Closure m s c o) g e = (e.0, e.1, scope_grown a b c g e.2, bound_grown a b o g e.3)
names_grown l a b (whats.ClassObject k s c i) g e = (e.0, e.1, scope_grown a b c g e.2, omega (arith, e.3, scopes_grown a b g))
names_grown l a b (whats.HostClass c) g e = tt
names_grown l a b whats.Trace g e = tt
names_grown l a b (whats.Formula n) g e = omega (arith, e, ap length g.formulas)
names_grown l a b whats.HostObject g e = tt
names_grown l a b (whats.Global s) g e = e
names_grown l a b whats.Activation g e = tt
names_grown l a b whats.Catch g e = tt
names_grown l a b whats.Array g e = tt

property_grown : (l : LinkedFile) (a b : Heap) (p : Option (Span × Value)) → Grows a b → IsProperty l a p → IsProperty l b p
property_grown l a b None g e = tt
property_grown l a b (Some p) g e = (text_grown l a b p.0 g e.0, exists_grown l a b p.1 g e.1)

-- an object that is the same
pub object_grown : (l : LinkedFile) (a b : Heap) (o : ℕ) (ob : Object) → Grows a b → ObjectStands l a o ob → ObjectStands l b o ob
object_grown l a b o ob g e = record {
  layout = e.layout;
  slots = e.slots;
  delegate = e.delegate;
  what = names_grown l a b ob.what g e.what;
  array = e.array;
  no_array = e.no_array;
  elements = e.elements;
  slot_values = λ k v q. exists_grown l a b v g (e.slot_values k v q);
  properties = λ k p q. property_grown l a b p g (e.properties k p q);
  element_values = λ k v q. exists_grown l a b v g (e.element_values k v q);
}

pub scope_stands_grown : (a b : Heap) (s : ℕ) (n : ScopeNode) → Grows a b → ScopeStands a s n → ScopeStands b s n
scope_stands_grown a b s n g e = record { object = (g.objects n.entry.object.0 e.object).0; parent = e.parent }
