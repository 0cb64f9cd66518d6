-- The interfaces that a search marks.
use Rattle.std.proofs.Common.{◌≡◌, ℕ, ◌+◌, ◌<◌, ◌≤◌, ◌⊎◌, inl, inr, Bool, true, false, List, [], ◌∷◌, ◌++◌, Contains, IsTrue, get_or, length, sym, subst, ◌∙◌, arith}
use Rattle.std.proofs.lemmas.Bool.{cases_lt}
use Rattle.std.proofs.lemmas.List.{get_or_past}
use Rattle.std.proofs.lemmas.List.Elements.{Contains-append_left, Contains-push, Contains-push_cases}
use Rattle.abc_base_graphs.specs.Graph.{AreReachMarks}
use Rattle.abc_link_names.specs.Interfaces.{class_graph}
use Rattle.abc_link_names.specs.Bases.{is_interface}
use Rattle.abc_file_types.specs.declared.tables.Abc.{Abc}
use Rattle.abc_link_interfaces.specs.Sets.{IsAbove, IsSetOf, ListsMarked}

pub none_marked : (v : Abc) (marks : List Bool) → ListsMarked v marks [] 0
none_marked v marks = record { sound = λ k c. let h = c.1 in absurd (omega arith); complete = λ k lt. absurd (omega arith) }

pub next_marked : (v : Abc) (marks : List Bool) (old new : List ℕ) (n : ℕ) → ListsMarked v marks old n → new ≡ old ++ n ∷ [] → get_or marks n false ≡ true → IsTrue (is_interface v n) → ListsMarked v marks new (n + 1)
next_marked v marks old new n h e mark is = subst (λ (ns : List ℕ). ListsMarked v marks ns (n + 1)) (sym e) (record {
  sound = λ k c. sound k (Contains-push_cases old n k c);
  complete = λ k lt m i. complete k lt m i (cases_lt k n);
})
  where
    sound : (k : ℕ) → Contains old k ⊎ (n ≡ k) → (get_or marks k false ≡ true) × IsTrue (is_interface v k)
    sound k (inl c) = h.sound k c
    sound k (inr q) = subst (λ m. (get_or marks m false ≡ true) × IsTrue (is_interface v m)) q (mark, is)

    complete : (k : ℕ) → k < n + 1 → get_or marks k false ≡ true → IsTrue (is_interface v k) → (k < n) ⊎ (n ≤ k) → Contains (old ++ n ∷ []) k
    complete k lt m i (inl low) = Contains-append_left old (n ∷ []) k (h.complete k low m i)
    complete k lt m i (inr high) = let q : n ≡ k = omega arith in subst (λ j. Contains (old ++ n ∷ []) j) q (Contains-push old n)

-- one class more that is not listed
skipped : (v : Abc) (marks : List Bool) (nodes : List ℕ) (n : ℕ) → ListsMarked v marks nodes n → (get_or marks n false ≡ true → IsTrue (is_interface v n) → ⊥) → ListsMarked v marks nodes (n + 1)
skipped v marks nodes n h deny = record { sound = h.sound; complete = λ k lt m i. go k lt m i (cases_lt k n) }
  where
    go : (k : ℕ) → k < n + 1 → get_or marks k false ≡ true → IsTrue (is_interface v k) → (k < n) ⊎ (n ≤ k) → Contains nodes k
    go k lt m i (inl low) = h.complete k low m i
    go k lt m i (inr high) =
        let q : k ≡ n = omega arith in
        absurd (deny (subst (λ j. get_or marks j false ≡ true) q m) (subst (λ j. IsTrue (is_interface v j)) q i))

pub next_unmarked : (v : Abc) (marks : List Bool) (nodes : List ℕ) (n : ℕ) → ListsMarked v marks nodes n → get_or marks n false ≡ false → ListsMarked v marks nodes (n + 1)
next_unmarked v marks nodes n h e = skipped v marks nodes n h (λ m i. cc)

pub next_class : (v : Abc) (marks : List Bool) (nodes : List ℕ) (n : ℕ) → ListsMarked v marks nodes n → is_interface v n ≡ false → ListsMarked v marks nodes (n + 1)
next_class v marks nodes n h e = skipped v marks nodes n h (λ m i. cc)

pub searched : (v : Abc) (g : List (List ℕ)) (k : ℕ) (marks marks2 : List Bool) (list given keys : List ℕ) → g ≡ class_graph v → AreReachMarks g k marks → marks2 ≡ marks → ListsMarked v marks2 list (length marks2)
    → given ≡ list → keys ≡ given → IsSetOf v k keys
searched v g k marks marks2 list given keys is_g r is_marks m is_given is_keys = subst (IsSetOf v k) (sym (is_keys ∙ is_given)) (record { sound = sound; complete = complete })
  where
    reach : AreReachMarks (class_graph v) k marks2
    reach = subst (λ (ms : List Bool). AreReachMarks (class_graph v) k ms) (sym is_marks) (subst (λ (h : List (List ℕ)). AreReachMarks h k marks) is_g r)

    sound : (y : ℕ) → Contains list y → IsAbove v k y
    sound y c = let p = m.sound y c in (p.1, reach.sound y (record { marked = p.0 }))

    within : (y : ℕ) → get_or marks2 y false ≡ true → (y < length marks2) ⊎ (length marks2 ≤ y) → y < length marks2
    within y e (inl lt) = lt
    within y e (inr le) = let q : get_or marks2 y false ≡ false = get_or_past marks2 y false le in cc

    complete : (y : ℕ) → IsAbove v k y → Contains list y
    complete y h = let mark = (reach.complete y h.1).marked in m.complete y (within y mark (cases_lt y (length marks2))) mark h.0
