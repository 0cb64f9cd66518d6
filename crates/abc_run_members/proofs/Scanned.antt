-- What a search in scopes finds is there.
use Rattle.std.proofs.Common.{◌≡◌, inl, inr, ℕ, zero, suc, ◌+◌, ◌<◌, Bool, true, false, List, [], ◌∷◌, ◌++◌, length, map, reverse, refl, sym, subst, arith}
use Rattle.std.specs.Prelude.{Some, None, get_or, if◌then◌else◌}
use Rattle.std.specs.declared.option.Option.{Option}
use Rattle.std.specs.List.{range_with_len}
use Rattle.std.proofs.lemmas.Option.{slice_get-get_or}
use Rattle.abc_base_graphs.specs.Ways.{way}
use Rattle.abc_base_graphs.proofs.Walks.{way_none, way_some}
use Rattle.abc_heap_store.specs.Heap.{Heap, obj_id}
use Rattle.abc_heap_store.specs.declared.records.ScopeEntry.{ScopeEntry}
use Rattle.abc_heap_store.specs.declared.records.ScopeId.{ScopeId}
use Rattle.abc_lookup.proofs.Stands.{entry_in, parents_fall}
use Rattle.abc_objects.specs.Stands.{AreEntries, IsScope, StandsOver}
use Rattle.abc_objects.specs.Values.{IsObject}
use Rattle.abc_objects.proofs.Opened.{global_made, host_made}
use Rattle.abc_link_names.specs.Linked.{LinkedFile}
use Rattle.abc_objects.specs.Laws.{FindsTheFirstPlace}
use Rattle.abc_objects.specs.Objects.{global_number}
use Rattle.abc_objects.specs.Scopes.{InHost, InScope, InScript, ScopePlace, no_node, node_at, parent_at, scope_places, saved_places, scope_named, scope_number}
use Rattle.abc_objects.specs.Searches.{found_in_scopes}
use Rattle.abc_objects.specs.declared.found.ScopeFound.TheVariants as results
use Rattle.abc_objects.specs.declared.name.Name.{Name}
use Rattle.abc_verify_typing.specs.Lists.{Each}
use Rattle.abc_verify_typing.proofs.Lists.{Each-append, Each-map, Each-reverse}
use Rattle.abc_run_members.specs.Found.{IsScopeThere}

each_mapped : {X Y : Type 0} (P : X → Type 0) (Q : Y → Type 0) (f : X → Y) (xs : List X) → ((x : X) → P x → Q (f x)) → Each P xs → Each Q (map f xs)
each_mapped P Q f [] g a = tt
each_mapped P Q f (x ∷ xs) g a = (g x a.0, each_mapped P Q f xs g a.1)

each_ranged : (a n : ℕ) → Each (λ (x : ℕ). x < a + n) (range_with_len a n)
each_ranged a zero = tt
each_ranged a (suc n) = (omega arith, Each-map (λ (x : ℕ). x < (a + 1) + n) (λ (x : ℕ). x < a + suc n) (λ x b. omega (arith, b)) (range_with_len (a + 1) n) (each_ranged (a + 1) n))

each_within : {X : Type 0} (P : X → Type 0) (xs ys : List X) (x : X) → Each P (xs ++ x ∷ ys) → P x
each_within P [] ys x a = a.0
each_within P (y ∷ xs) ys x a = each_within P xs ys x a.1

each_entry : (h : Heap) (es : List ScopeEntry) → AreEntries h es → Each (λ (e : ScopeEntry). IsObject h e.object) es
each_entry h [] a = tt
each_entry h (e ∷ es) a = (a 0 e refl, each_entry h es (λ k x is. a (suc k) x is))

-- ---- the places of a search

abbrev PlaceThere : LinkedFile → Heap → ScopePlace → Type 0
PlaceThere l h (InScope e) = IsObject h e.object
PlaceThere l h (InScript s) = s < length l.file.scripts
PlaceThere l h InHost = Unit {0}

-- the scopes from a saved one on
saved_low : (l : LinkedFile) (h : Heap) → StandsOver l h → (n s : ℕ) → s < n → s < length h.scopes → Each (λ (x : ℕ). x < length h.scopes) (way (parent_at h) (Some s))
saved_low l h st zero s b low = absurd (omega (arith, b))
saved_low l h st (suc n) s b low =
    let falls = parents_fall l h st in
    subst (Each (λ (x : ℕ). x < length h.scopes)) (sym (way_some (parent_at h) falls s)) (low, go (λ t less. saved_low l h st n t (omega (arith, less, b)) (omega (arith, less, low))) (parent_at h s) (λ t e. falls.falls s t e))
  where
    go : ((t : ℕ) → t < s → Each (λ (x : ℕ). x < length h.scopes) (way (parent_at h) (Some t))) → (q : Option ℕ) → ((t : ℕ) → q ≡ Some t → t < s) → Each (λ (x : ℕ). x < length h.scopes) (way (parent_at h) q)
    go more None g = subst (Each (λ (x : ℕ). x < length h.scopes)) (sym (way_none (parent_at h))) tt
    go more (Some t) g = more t (g t refl)

low_way : (l : LinkedFile) (h : Heap) → StandsOver l h → (saved : Option ScopeId) → IsScope h saved → Each (λ (x : ℕ). x < length h.scopes) (way (parent_at h) (scope_number saved))
low_way l h st None is = subst (Each (λ (x : ℕ). x < length h.scopes)) (sym (way_none (parent_at h))) tt
low_way l h st (Some s) is = saved_low l h st (suc s.0) s.0 (omega arith) is

saved_there : (l : LinkedFile) (h : Heap) → StandsOver l h → (saved : Option ScopeId) → IsScope h saved → Each (PlaceThere l h) (saved_places h saved)
saved_there l h st saved is =
    each_mapped (λ (x : ℕ). x < length h.scopes) (PlaceThere l h) (λ s. InScope (node_at h s).entry) (way (parent_at h) (scope_number saved))
    (λ s low. entry_in l h s (node_at h s) st (slice_get-get_or h.scopes s no_node low)) (low_way l h st saved is)

places_there : (l : LinkedFile) (h : Heap) (es : List ScopeEntry) (saved : Option ScopeId) → StandsOver l h → AreEntries h es → IsScope h saved → Each (PlaceThere l h) (scope_places l h es saved)
places_there l h es saved st a is =
    let n = length l.file.scripts in
    let P : ScopePlace → Type 0 = PlaceThere l h in
    let scripts = map InScript (range_with_len 0 n) in
    Each-append P (map InScope (reverse es)) (saved_places h saved ++ (scripts ++ InHost ∷ []))
    (each_mapped (λ (e : ScopeEntry). IsObject h e.object) P InScope (reverse es) (λ e i. i) (Each-reverse (λ (e : ScopeEntry). IsObject h e.object) es (each_entry h es a)))
    (Each-append P (saved_places h saved) (scripts ++ InHost ∷ []) (saved_there l h st saved is)
    (Each-append P scripts (InHost ∷ []) (each_mapped (λ (s : ℕ). s < 0 + n) P InScript (range_with_len 0 n) (λ s b. let low : s < n = omega (arith, b) in low) (each_ranged 0 n)) (tt, tt)))

-- ---- what is found

place_found : (l : LinkedFile) (h : Heap) (started : List Bool) → StandsOver l h → (q : ScopePlace) → PlaceThere l h q → IsScopeThere l h (scope_named h started (Some q))
place_found l h started st (InScope e) is = is
place_found l h started st (InScript s) is = go (get_or started s false)
  where
    go : (b : Bool) → IsScopeThere l h (if b then results.Object (obj_id (global_number h s)) else results.Start s)
    go true = (global_made l h s st is).0
    go false = is
place_found l h started st InHost is = (host_made l h st).0

pub scopes_found : (l : LinkedFile) (h : Heap) (es : List ScopeEntry) (saved : Option ScopeId) (started : List Bool) (n : Name) → FindsTheFirstPlace → StandsOver l h → AreEntries h es → IsScope h saved → IsScopeThere l h (found_in_scopes l h es saved started n)
scopes_found l h es saved started n first st a is = elim (first l h es saved started n) [
  | inl hit ↦
      let there = each_within (PlaceThere l h) hit.1.before hit.1.after hit.0 (subst (Each (PlaceThere l h)) hit.1.parts (places_there l h es saved st a is)) in
      subst (IsScopeThere l h) (sym hit.2) (place_found l h started st hit.0 there)
  | inr miss ↦ subst (IsScopeThere l h) (sym miss.1) tt
]
