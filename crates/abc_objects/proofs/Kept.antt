-- Each change keeps an arena over its file.
use Rattle.std.proofs.Common.{◌≡◌, ℕ, zero, suc, ◌+◌, ◌<◌, ◌≤◌, List, [], ◌∷◌, ◌++◌, Option, Some, None, length, refl, sym, ap, ◌∙◌, subst, arith, length-append, append-nil, ◌⊎◌, inl, inr}
use Rattle.std.specs.Prelude.{slice_get}
use Rattle.std.proofs.lemmas.Option.{slice_get_within}
use Rattle.abc_heap_values.proofs.Parts.{slice_get_more, slice_get_left}
use Rattle.abc_heap_store.specs.declared.records.ScopeId.{ScopeId}
use Rattle.abc_heap_store.specs.declared.records.ScopeNode.{ScopeNode}
use Rattle.abc_heap_store.specs.declared.records.ScopeEntry.{ScopeEntry}
use Rattle.abc_heap_store.specs.declared.records.What.TheVariants as whats
use Rattle.abc_heap_store.specs.Heap.{Heap, Object, object_at, slots_of_object}
use Rattle.abc_heap_store.specs.Changes.{change, with_object, with_scopes}
use Rattle.abc_heap_store.specs.Scopes.{nodes, top_of_scopes, scope_id}
use Rattle.abc_heap_store.proofs.Arrays.{length_change}
use Rattle.abc_heap_store.proofs.Makes.{nodes_length}
use Rattle.abc_link_names.specs.Linked.{LinkedFile}
use Rattle.abc_objects.specs.Growing.{Grows, ObjectKeeps}
use Rattle.abc_objects.specs.Stands.{StandsOver, ObjectStands, ScopeStands, IsScope, IsBeneath, AreEntries, host_class_number}
use Rattle.abc_objects.proofs.Grown.{keeps_self, keeps_same, object_grown, opening_grown, scope_stands_grown}

-- ---- one object changed

-- an object of the changed list is an old one, or the changed one
was_object : (f : Object → Object) (o : ℕ) (obs : List Object) (i : ℕ) (ob : Object) → slice_get (change f o obs) i ≡ Some ob → (x : Object) × (slice_get obs i ≡ Some x) × ((ob ≡ x) ⊎ ((i ≡ o) × (ob ≡ f x)))
was_object f o [] i ob e = absurd cc
was_object f zero (x ∷ obs) zero ob e = let q : f x ≡ ob = cc in (x, refl, inr (refl, sym q))
was_object f zero (x ∷ obs) (suc i) ob e = (ob, e, inl refl)
was_object f (suc o) (x ∷ obs) zero ob e = let q : x ≡ ob = cc in (x, refl, inl (sym q))
was_object f (suc o) (x ∷ obs) (suc i) ob e = let w = was_object f o obs i ob e in (w.0, w.1, elim w.2 [ inl q ↦ inl q | inr q ↦ inr (ap suc q.0, q.1) ])

-- an old object is there, and is what it was
now_object : (f : Object → Object) (o : ℕ) (obs : List Object) (i : ℕ) (x : Object) → ((ob : Object) → (f ob).what ≡ ob.what) → slice_get obs i ≡ Some x → (y : Object) × (slice_get (change f o obs) i ≡ Some y) × (y.what ≡ x.what)
now_object f o [] i x w e = absurd cc
now_object f zero (ob ∷ obs) zero x w e = let q : ob ≡ x = cc in (f ob, refl, w ob ∙ ap (λ (z : Object). z.what) q)
now_object f zero (ob ∷ obs) (suc i) x w e = (x, e, refl)
now_object f (suc o) (ob ∷ obs) zero x w e = (x, e, refl)
now_object f (suc o) (ob ∷ obs) (suc i) x w e = now_object f o obs i x w e

kept_at : (f : Object → Object) (o : ℕ) (obs : List Object) (i : ℕ) → ((ob : Object) → ObjectKeeps ob (f ob)) → ObjectKeeps (object_at obs i) (object_at (change f o obs) i)
kept_at f o [] i w = keeps_self (object_at [] i)
kept_at f zero (ob ∷ obs) zero w = w ob
kept_at f zero (ob ∷ obs) (suc i) w = keeps_self (object_at obs i)
kept_at f (suc o) (ob ∷ obs) zero w = keeps_self ob
kept_at f (suc o) (ob ∷ obs) (suc i) w = kept_at f o obs i w

slots_kept : (f : Object → Object) (o : ℕ) (obs : List Object) (i : ℕ) → ((ob : Object) → length (f ob).slots ≡ length ob.slots) → length (slots_of_object (change f o obs) i) ≡ length (slots_of_object obs i)
slots_kept f o [] i w = refl
slots_kept f zero (ob ∷ obs) zero w = w ob
slots_kept f zero (ob ∷ obs) (suc i) w = refl
slots_kept f (suc o) (ob ∷ obs) zero w = refl
slots_kept f (suc o) (ob ∷ obs) (suc i) w = slots_kept f o obs i w

pub changed_grows : (h : Heap) (f : Object → Object) (o : ℕ) → ((ob : Object) → ObjectKeeps ob (f ob)) → Grows h (with_object f o h)
changed_grows h f o w = record {
  objects = λ i b. (omega (arith, b, length_change f o h.objects), kept_at f o h.objects i w);
  scopes = ([], sym (append-nil h.scopes));
  fixed = refl;
  made = ([], sym (append-nil h.made));
  formulas = refl;
}

-- a change that leaves what an object is, and after which it stands as before
pub record Reshapes (l : LinkedFile) (h : Heap) (o : ℕ) (f : Object → Object) : Type 0 where
  pub keeps : (ob : Object) → ObjectKeeps ob (f ob)
  pub slots : (ob : Object) → length (f ob).slots ≡ length ob.slots
  pub stands : (ob : Object) → slice_get h.objects o ≡ Some ob → ObjectStands l h o ob → ObjectStands l h o (f ob)

pub over_changed : (l : LinkedFile) (h : Heap) (f : Object → Object) (o : ℕ) → StandsOver l h → Reshapes l h o f → StandsOver l (with_object f o h)
over_changed l h f o s r =
    let new = with_object f o h in
    let g = changed_grows h f o r.keeps in
    record {
      linked = s.linked;
      starts = s.starts;
      opening = opening_grown l h new g s.opening;
      hosts = λ c. omega (arith, s.hosts c, slots_kept f o h.objects (host_class_number c) r.slots);
      strings = s.strings;
      fixed = s.fixed;
      objects = λ i ob e.
          let w = was_object f o h.objects i ob e in
          let old = s.objects i w.0 w.1 in
          object_grown l h new i ob g (elim w.2 [
            | inl q ↦ subst (ObjectStands l h i) (sym q) old
            | inr q ↦
                let at : slice_get h.objects o ≡ Some w.0 = ap (slice_get h.objects) (sym q.0) ∙ w.1 in
                let fresh : ObjectStands l h o (f w.0) = r.stands w.0 at (s.objects o w.0 at) in
                subst (λ n. ObjectStands l h n ob) (sym q.0) (subst (ObjectStands l h o) (sym q.1) fresh)
          ]);
      scopes = λ i n e. scope_stands_grown h new i n g (s.scopes i n e);
      counted = s.counted;
      named = λ k i e.
          let c = s.named k i e in
          let y = now_object f o h.objects i c.object (λ x. (r.keeps x).what) c.at in
          record { object = y.0; at = y.1; home = c.home; statics = c.statics; instances = c.instances; is = y.2 ∙ c.is };
      classes = λ k i c.
          let w = was_object f o h.objects i c.object c.at in
          let same : c.object.what ≡ w.0.what = elim w.2 [
            | inl q ↦ ap (λ (z : Object). z.what) q
            | inr q ↦ ap (λ (z : Object). z.what) q.1 ∙ (r.keeps w.0).what
          ] in
          s.classes k i (record { object = w.0; at = w.1; home = c.home; statics = c.statics; instances = c.instances; is = sym same ∙ c.is });
    }

-- ---- what is made at the end

pub object_left : (obs more : List Object) (i : ℕ) → i < length obs → object_at (obs ++ more) i ≡ object_at obs i
object_left (x ∷ obs) more zero b = refl
object_left (x ∷ obs) more (suc i) b = object_left obs more i (omega arith)
object_left [] more i b = absurd (omega arith)

pub slots_there : (obs : List Object) (o : ℕ) → 0 < length (slots_of_object obs o) → o < length obs
slots_there (x ∷ obs) zero b = omega arith
slots_there (x ∷ obs) (suc o) b = let r = slots_there obs o b in omega arith
slots_there [] o b = absurd (omega arith)

pub added_grows : (h : Heap) (ob : Object) → Grows h (record h { objects = h.objects ++ ob ∷ [] })
added_grows h ob = record {
  objects = λ i b. (omega (arith, b, length-append h.objects (ob ∷ [])), keeps_same (object_at h.objects i) (object_at (h.objects ++ ob ∷ []) i) (object_left h.objects (ob ∷ []) i b));
  scopes = ([], sym (append-nil h.scopes));
  fixed = refl;
  made = ([], sym (append-nil h.made));
  formulas = refl;
}

-- an object that is no class object
pub over_added : (l : LinkedFile) (h : Heap) (ob : Object) → StandsOver l h → ObjectStands l h (length h.objects) ob → ((k s : ℕ) (c : Option ScopeId) (i : ScopeId) → ob.what ≡ whats.ClassObject k s c i → ⊥) → StandsOver l (record h { objects = h.objects ++ ob ∷ [] })
over_added l h ob s a other =
    let new : Heap = record h { objects = h.objects ++ ob ∷ [] } in
    let g = added_grows h ob in
    record {
      linked = s.linked;
      starts = s.starts;
      opening = opening_grown l h new g s.opening;
      hosts = λ c. omega (arith, s.hosts c, ap (λ (x : Object). length x.slots) (object_left h.objects (ob ∷ []) (host_class_number c) (slots_there h.objects (host_class_number c) (s.hosts c))));
      strings = s.strings;
      fixed = s.fixed;
      objects = λ i x e. object_grown l h new i x g (elim (slice_get_more h.objects ob x i e) [
        | inl q ↦ s.objects i x q.1
        | inr q ↦ subst (λ n. ObjectStands l h n x) (sym q.0) (subst (ObjectStands l h (length h.objects)) q.1 a)
      ]);
      scopes = λ i n e. scope_stands_grown h new i n g (s.scopes i n e);
      counted = s.counted;
      named = λ k i e.
          let c = s.named k i e in
          record { object = c.object; at = slice_get_left h.objects (ob ∷ []) i (slice_get_within h.objects i c.object c.at) ∙ c.at; home = c.home; statics = c.statics; instances = c.instances; is = c.is };
      classes = λ k i c. elim (slice_get_more h.objects ob c.object i c.at) [
        | inl q ↦ s.classes k i (record { object = c.object; at = q.1; home = c.home; statics = c.statics; instances = c.instances; is = c.is })
        | inr q ↦ absurd (other k c.home c.statics c.instances (ap (λ (z : Object). z.what) q.1 ∙ c.is))
      ];
    }

-- a heap with the same objects, scopes and classes
pub over_same : (l : LinkedFile) (h new : Heap) → StandsOver l h → Grows h new → new.objects ≡ h.objects → new.scopes ≡ h.scopes → new.classes ≡ h.classes → new.strings ≡ h.strings → StandsOver l new
over_same l h new s g p q r same = record {
  linked = s.linked;
  starts = s.starts;
  opening = opening_grown l h new g s.opening;
  hosts = λ c. omega (arith, s.hosts c, ap (λ obs. length (slots_of_object obs (host_class_number c))) p);
  strings = same ∙ s.strings;
  fixed = (s.fixed.0, g.fixed ∙ s.fixed.1);
  objects = λ i ob e. object_grown l h new i ob g (s.objects i ob (ap (λ obs. slice_get obs i) (sym p) ∙ e));
  scopes = λ i n e. scope_stands_grown h new i n g (s.scopes i n (ap (λ ns. slice_get ns i) (sym q) ∙ e));
  counted = ap length r ∙ s.counted;
  named = λ k i e.
      let c = s.named k i (ap (λ cs. slice_get cs k) (sym r) ∙ e) in
      record { object = c.object; at = ap (λ obs. slice_get obs i) p ∙ c.at; home = c.home; statics = c.statics; instances = c.instances; is = c.is };
  classes = λ k i c. ap (λ cs. slice_get cs k) r ∙ s.classes k i (record { object = c.object; at = ap (λ obs. slice_get obs i) (sym p) ∙ c.at; home = c.home; statics = c.statics; instances = c.instances; is = c.is });
}

-- texts made
pub made_grows : (h : Heap) (more : List ℕ) → Grows h (record h { made = h.made ++ more })
made_grows h more = record { objects = λ i b. (b, keeps_self (object_at h.objects i)); scopes = ([], sym (append-nil h.scopes)); fixed = refl; made = (more, refl); formulas = refl }

pub over_made : (l : LinkedFile) (h : Heap) (more : List ℕ) → StandsOver l h → StandsOver l (record h { made = h.made ++ more })
over_made l h more s = over_same l h (record h { made = h.made ++ more }) s (made_grows h more) refl refl refl refl

-- frames
frames_grow : (h : Heap) (frames stack : ℕ) → Grows h (record h { frames = frames; stack = stack })
frames_grow h frames stack = record { objects = λ i b. (b, keeps_self (object_at h.objects i)); scopes = ([], sym (append-nil h.scopes)); fixed = refl; made = ([], sym (append-nil h.made)); formulas = refl }

pub over_frames : (l : LinkedFile) (h : Heap) (frames stack : ℕ) → StandsOver l h → StandsOver l (record h { frames = frames; stack = stack })
over_frames l h frames stack s = over_same l h (record h { frames = frames; stack = stack }) s (frames_grow h frames stack) refl refl refl refl

-- ---- captured scopes

pub scopes_grow : (h : Heap) (saved : Option ScopeId) (es : List ScopeEntry) → Grows h (with_scopes saved es h)
scopes_grow h saved es = record {
  objects = λ i b. (b, keeps_self (object_at h.objects i));
  scopes = (nodes (length h.scopes) saved es, refl);
  fixed = refl;
  made = ([], sym (append-nil h.made));
  formulas = refl;
}

-- an element of two lists together
pub in_either : {X : Type 0} (xs ys : List X) (i : ℕ) (y : X) → slice_get (xs ++ ys) i ≡ Some y → ((i < length xs) × (slice_get xs i ≡ Some y)) ⊎ ((j : ℕ) × (i ≡ length xs + j) × (slice_get ys j ≡ Some y))
in_either [] ys i y e = inr (i, omega arith, e)
in_either (x ∷ xs) ys zero y e = inl (omega arith, e)
in_either (x ∷ xs) ys (suc i) y e = elim (in_either xs ys i y e) [ inl q ↦ inl (omega (arith, q.0), q.1) | inr q ↦ inr (q.0, omega (arith, q.1), q.2) ]

nodes_stand : (h : Heap) (at : ℕ) (below : Option ScopeId) (es : List ScopeEntry) (j : ℕ) (n : ScopeNode) → IsBeneath at below → AreEntries h es → slice_get (nodes at below es) j ≡ Some n → ScopeStands h (at + j) n
nodes_stand h at below [] j n b a e = absurd cc
nodes_stand h at below (x ∷ es) zero n b a e =
    let m : ScopeNode = record { entry = x; parent = below } in
    let q : m ≡ n = cc in
    let z : at ≡ at + 0 = omega arith in
    let own : ScopeStands h (at + 0) m = record { object = a 0 x refl; parent = subst (λ k. IsBeneath k below) z b } in
    subst (ScopeStands h (at + 0)) q own
nodes_stand h at below (x ∷ es) (suc j) n b a e =
    let z : (at + 1) + j ≡ at + suc j = omega arith in
    let low : at < at + 1 = omega arith in
    subst (λ k. ScopeStands h k n) z (nodes_stand h (at + 1) (Some (scope_id at)) es j n low (λ k y. a (suc k) y) e)

pub beneath : (h : Heap) (saved : Option ScopeId) → IsScope h saved → IsBeneath (length h.scopes) saved
beneath h None s = tt
beneath h (Some n) s = s

pub over_scopes : (l : LinkedFile) (h : Heap) (saved : Option ScopeId) (es : List ScopeEntry) → StandsOver l h → IsScope h saved → AreEntries h es → StandsOver l (with_scopes saved es h)
over_scopes l h saved es s sc a =
    let new = with_scopes saved es h in
    let g = scopes_grow h saved es in
    record {
      linked = s.linked;
      starts = s.starts;
      opening = opening_grown l h new g s.opening;
      hosts = s.hosts;
      strings = s.strings;
      fixed = s.fixed;
      objects = λ i ob e. object_grown l h new i ob g (s.objects i ob e);
      scopes = λ i n e. scope_stands_grown h new i n g (elim (in_either h.scopes (nodes (length h.scopes) saved es) i n e) [
        | inl q ↦ s.scopes i n q.1
        | inr q ↦ subst (λ k. ScopeStands h k n) (sym q.1) (nodes_stand h (length h.scopes) saved es q.0 n (beneath h saved sc) a q.2)
      ]);
      counted = s.counted;
      named = λ k i e.
          let c = s.named k i e in
          record { object = c.object; at = c.at; home = c.home; statics = c.statics; instances = c.instances; is = c.is };
      classes = λ k i c. s.classes k i (record { object = c.object; at = c.at; home = c.home; statics = c.statics; instances = c.instances; is = c.is });
    }

-- the top of captured scopes is one
top_within : (at : ℕ) (below : Option ScopeId) (es : List ScopeEntry) (n : ℕ) → at + length es ≤ n → IsBeneath at below → IsBeneath n (top_of_scopes at below es)
top_within at None [] n b w = tt
top_within at (Some s) [] n b w = omega (arith, w)
top_within at below (e ∷ es) n b w = let low : at < at + 1 = omega arith in top_within (at + 1) (Some (scope_id at)) es n (omega arith) low

scope_is : (h : Heap) (s : Option ScopeId) → IsBeneath (length h.scopes) s → IsScope h s
scope_is h None b = tt
scope_is h (Some s) b = b

pub top_is : (h : Heap) (saved : Option ScopeId) (es : List ScopeEntry) → IsScope h saved → IsScope (with_scopes saved es h) (top_of_scopes (length h.scopes) saved es)
top_is h saved es s =
    scope_is (with_scopes saved es h) (top_of_scopes (length h.scopes) saved es)
    (top_within (length h.scopes) saved es (length (h.scopes ++ nodes (length h.scopes) saved es)) (omega (arith, length-append h.scopes (nodes (length h.scopes) saved es), nodes_length (length h.scopes) saved es)) (beneath h saved s))
