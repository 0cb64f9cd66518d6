-- The places of a search in scopes.
use Rattle.std.proofs.Common.{◌≡◌, ℕ, ◌+◌, ◌-◌, ◌<◌, Bool, true, false, List, [], ◌∷◌, ◌++◌, length, map, reverse, take, get_or, cond, refl, ap, ◌∙◌}
use Rattle.std.specs.Prelude.{Some, None}
use Rattle.std.specs.declared.option.Option.{Option}
use Rattle.std.specs.List.{find, range_with_len}
use Rattle.std.proofs.lemmas.List.{reverse-append, take_more}
use Rattle.abc_base_graphs.specs.Ways.{IsFalling}
use Rattle.abc_base_graphs.proofs.Walks.{way_none, way_some}
use Rattle.abc_heap_store.specs.Heap.{Heap, object_at}
use Rattle.abc_heap_store.specs.declared.records.ScopeEntry.{ScopeEntry}
use Rattle.abc_heap_store.specs.declared.records.ScopeId.{ScopeId}
use Rattle.abc_heap_store.specs.declared.records.What.{What}
use Rattle.abc_heap_store.specs.declared.records.What.TheVariants as whats
use Rattle.abc_link_names.specs.Linked.{LinkedFile}
use Rattle.abc_objects.specs.Candidates.{answer_of_search, own_things, things_along}
use Rattle.abc_objects.specs.Scopes.{InHost, InScope, InScript, ScopePlace, candidates_at, global_things, has, node_at, parent_at, scope_places, saved_places, scope_things}
use Rattle.abc_objects.specs.Results.{is_hit}
use Rattle.abc_objects.specs.declared.found.Found.{Found}
use Rattle.abc_objects.specs.declared.found.Found.TheVariants.{Missing}
use Rattle.abc_objects.specs.declared.found.Skip.{Skip}
use Rattle.abc_objects.specs.declared.found.Skip.TheVariants.{Nothing}
use Rattle.abc_objects.specs.declared.name.Name.{Name}
use Rattle.abc_objects.proofs.Joins.{answer_none, nothing_skipped}

-- ---- what is searched

no_global_things : (l : LinkedFile) (h : Heap) (n : Name) (s : Skip) (o : ℕ) (w : What) → ((k : ℕ) → w ≡ whats.Global k → ⊥) → answer_of_search l h n s (global_things h o w) ≡ Missing
no_global_things l h n s o (whats.Global k) never = absurd (never k refl)
no_global_things l h n s o whats.Plain never = answer_none l h n s
no_global_things l h n s o (whats.Closure m i c b) never = answer_none l h n s
no_global_things l h n s o (whats.ClassObject k i c j) never = answer_none l h n s
no_global_things l h n s o (whats.HostClass c) never = answer_none l h n s
no_global_things l h n s o whats.Trace never = answer_none l h n s
no_global_things l h n s o (whats.Formula k) never = answer_none l h n s
no_global_things l h n s o whats.HostObject never = answer_none l h n s
no_global_things l h n s o whats.Activation never = answer_none l h n s
no_global_things l h n s o whats.Catch never = answer_none l h n s
no_global_things l h n s o whats.Array never = answer_none l h n s

pub other_scope : (l : LinkedFile) (h : Heap) (n : Name) (s : Skip) (e : ScopeEntry) → e.with_flag ≡ false → ((k : ℕ) → (object_at h.objects e.object.0).what ≡ whats.Global k → ⊥) → answer_of_search l h n s (scope_things h e) ≡ Missing
other_scope l h n s e f never =
    ap (λ b. answer_of_search l h n s (cond b (own_things h e.object.0) (global_things h e.object.0 (object_at h.objects e.object.0).what))) f
    ∙ no_global_things l h n s e.object.0 (object_at h.objects e.object.0).what never

pub with_scope : (l : LinkedFile) (h : Heap) (n : Name) (s : Skip) (e : ScopeEntry) → e.with_flag ≡ true → answer_of_search l h n s (scope_things h e) ≡ answer_of_search l h n s (own_things h e.object.0)
with_scope l h n s e f = ap (λ b. answer_of_search l h n s (cond b (own_things h e.object.0) (global_things h e.object.0 (object_at h.objects e.object.0).what))) f

pub global_scope : (l : LinkedFile) (h : Heap) (n : Name) (s : Skip) (e : ScopeEntry) (k : ℕ) → e.with_flag ≡ false → (object_at h.objects e.object.0).what ≡ whats.Global k → answer_of_search l h n s (scope_things h e) ≡ answer_of_search l h n s (things_along h (Some e.object.0))
global_scope l h n s e k f is =
    ap (λ b. answer_of_search l h n s (cond b (own_things h e.object.0) (global_things h e.object.0 (object_at h.objects e.object.0).what))) f
    ∙ ap (λ w. answer_of_search l h n s (global_things h e.object.0 w)) is

-- ---- local scopes

pub local_next : (p : ScopePlace → Bool) (xs : List ScopeEntry) (i : ℕ) (e : ScopeEntry) → i < length xs → get_or xs i e ≡ e
    → find p (map InScope (reverse (take (i + 1) xs))) ≡ cond (p (InScope e)) (Some (InScope e)) (find p (map InScope (reverse (take i xs))))
local_next p xs i e h is =
    ap (λ (ys : List ScopeEntry). find p (map InScope (reverse ys))) (take_more xs i e h)
    ∙ ap (λ (ys : List ScopeEntry). find p (map InScope ys)) (reverse-append (take i xs) (get_or xs i e ∷ []))
    ∙ ap (λ x. cond (p (InScope x)) (Some (InScope x)) (find p (map InScope (reverse (take i xs))))) is

-- ---- saved scopes

pub saved_next : (p : ScopePlace → Bool) (h : Heap) (s : ScopeId) → IsFalling (parent_at h)
    → find p (saved_places h (Some s)) ≡ cond (p (InScope (node_at h s.0).entry)) (Some (InScope (node_at h s.0).entry)) (find p (saved_places h (node_at h s.0).parent))
saved_next p h s f = ap (λ ss. find p (map (λ s. InScope (node_at h s).entry) ss)) (way_some (parent_at h) f s.0)

pub saved_end : (p : ScopePlace → Bool) (h : Heap) → find p (saved_places h None) ≡ None
saved_end p h = ap (λ ss. find p (map (λ s. InScope (node_at h s).entry) ss)) (way_none (parent_at h))

-- ---- one place

pub first_here : (b : Bool) (x : ScopePlace) (o : Option ScopePlace) → b ≡ true → Some x ≡ cond b (Some x) o
first_here true x o e = refl
first_here false x o e = cc

pub first_later : (b : Bool) (x : ScopePlace) (o : Option ScopePlace) → b ≡ false → o ≡ cond b (Some x) o
first_later false x o e = refl
first_later true x o e = cc

-- ---- one list after another

pub first_of : (p : ScopePlace → Bool) (xs ys : List ScopePlace) (x : ScopePlace) → Some x ≡ find p xs → Some x ≡ find p (xs ++ ys)
first_of p [] ys x e = cc
first_of p (z ∷ xs) ys x e = go (p z) e (first_of p xs ys x)
  where
    go : (b : Bool) → Some x ≡ cond b (Some z) (find p xs) → (Some x ≡ find p xs → Some x ≡ find p (xs ++ ys)) → Some x ≡ cond b (Some z) (find p (xs ++ ys))
    go true e ih = e
    go false e ih = ih e

pub none_of : (p : ScopePlace → Bool) (xs ys : List ScopePlace) → None ≡ find p xs → find p (xs ++ ys) ≡ find p ys
none_of p [] ys e = refl
none_of p (z ∷ xs) ys e = go (p z) e (none_of p xs ys)
  where
    go : (b : Bool) → None ≡ cond b (Some z) (find p xs) → (None ≡ find p xs → find p (xs ++ ys) ≡ find p ys) → cond b (Some z) (find p (xs ++ ys)) ≡ find p ys
    go true e ih = cc
    go false e ih = ih e

-- the places so far had none, and the next ones have the first
pub past_local : (p : ScopePlace → Bool) (l : LinkedFile) (h : Heap) (scopes : List ScopeEntry) (saved : Option ScopeId) → None ≡ find p (map InScope (reverse scopes))
    → find p (scope_places l h scopes saved) ≡ find p (saved_places h saved ++ (map InScript (range_with_len 0 (length l.file.scripts)) ++ InHost ∷ []))
past_local p l h scopes saved e = none_of p (map InScope (reverse scopes)) _ e

pub past_saved : (p : ScopePlace → Bool) (l : LinkedFile) (h : Heap) (scopes : List ScopeEntry) (saved : Option ScopeId) → None ≡ find p (map InScope (reverse scopes)) → None ≡ find p (saved_places h saved)
    → find p (scope_places l h scopes saved) ≡ find p (map InScript (range_with_len 0 (length l.file.scripts)) ++ InHost ∷ [])
past_saved p l h scopes saved e f = past_local p l h scopes saved e ∙ none_of p (saved_places h saved) _ f

pub past_scripts : (p : ScopePlace → Bool) (l : LinkedFile) (h : Heap) (scopes : List ScopeEntry) (saved : Option ScopeId) → None ≡ find p (map InScope (reverse scopes)) → None ≡ find p (saved_places h saved)
    → None ≡ find p (map InScript (range_with_len 0 (length l.file.scripts))) → find p (scope_places l h scopes saved) ≡ cond (p InHost) (Some InHost) None
past_scripts p l h scopes saved e f g = past_saved p l h scopes saved e f ∙ none_of p (map InScript (range_with_len 0 (length l.file.scripts))) (InHost ∷ []) g

-- a search that passes over nothing tells whether a place has the name
pub has_name : (l : LinkedFile) (h : Heap) (n : Name) (s : Skip) (p : ScopePlace) (f : Found) (b : Bool) → s ≡ Nothing → f ≡ answer_of_search l h n s (candidates_at l h n p) → b ≡ is_hit f → b ≡ has l h n p
has_name l h n s p f b is ef eb = eb ∙ ap is_hit ef ∙ ap (λ t. is_hit (answer_of_search l h n t (candidates_at l h n p))) is ∙ nothing_skipped l h n (candidates_at l h n p)
