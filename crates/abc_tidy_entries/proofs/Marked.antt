-- The marks of the nodes of a list; and what tells marked nodes apart does so for those that have classes.
use Rattle.std.proofs.Common.{◌≡◌, ℕ, zero, suc, ◌+◌, ◌<◌, ◌≤◌, ◌⊎◌, inl, inr, List, [], ◌∷◌, ◌++◌, Bool, true, false, get_or, length, take, Some, None, refl, sym, ap, subst, ◌∙◌, arith, get_or-set_other, get_or-set_same}
use Rattle.std.specs.declared.option.Option.{Option}
use Rattle.std.proofs.Math.ListN.{set, length-set}
use Rattle.std.proofs.lemmas.Bool.{cases_eq, cases_lt}
use Rattle.std.proofs.lemmas.List.{get_or_past, set_past, take_all, take_more}
use Rattle.abc_base_graphs.specs.Graph.{Has}
use Rattle.abc_tidy_refs.specs.Nodes.{counts_of, node_count}
use Rattle.abc_file_types.specs.declared.tables.Abc.{Abc}
use Rattle.abc_base_trees.specs.declared.heads.Head.{Head}
use Rattle.abc_base_trees.specs.Alike.{AreAlike}
use Rattle.abc_base_trees.specs.Classes.{HasClass, tree_class}
use Rattle.abc_base_trees.specs.Orders.{StandsIn}
use Rattle.abc_base_trees.proofs.Walked.{in_append}
use Rattle.abc_tidy_entries.specs.Entries.{graph_of, heads_of}
use Rattle.abc_tidy_entries.specs.Heads.{TellHeads}
use Rattle.abc_tidy_entries.proofs.Building.{same_count}
use Rattle.abc_tidy_entries.proofs.NodeGraph.{length_graph}

-- past the end there is no mark to set
pub unset : (marks : List Bool) (i : ℕ) → length marks ≤ i → marks ≡ set marks i true
unset marks i le = sym (set_past marks i true le)

-- the first n nodes of a list are marked
abbrev pub AreMarked : List ℕ → ℕ → List Bool → Type 0
AreMarked nodes n marks = (y : ℕ) → StandsIn y (take n nodes) → y < length marks → Has marks y

pub marked_next : (nodes : List ℕ) (n x : ℕ) (marks marks2 : List Bool) → AreMarked nodes n marks → n < length nodes → x ≡ get_or nodes n 0 → marks2 ≡ set marks x true → AreMarked nodes (n + 1) marks2
marked_next nodes n x marks marks2 before lt at is = λ y h l.
    go y (in_append y (take n nodes) (get_or nodes n 0 ∷ []) (subst (StandsIn y) (take_more nodes n 0 lt) h)) (subst (λ k. y < k) (ap length is ∙ length-set marks x true) l)
  where
    here : (y : ℕ) → y ≡ x → y < length marks → Has (set marks x true) y
    here y e l = record { marked = ap (λ z. get_or (set marks x true) z false) e ∙ get_or-set_same marks x true false (subst (λ z. z < length marks) e l) }

    still : (y : ℕ) → (y ≡ x) ⊎ (y ≡ x → ⊥) → Has marks y → y < length marks → Has (set marks x true) y
    still y (inl e) h l = here y e l
    still y (inr ne) h l = record { marked = get_or-set_other marks x y true false ne ∙ h.marked }

    alone : (y z : ℕ) → StandsIn y (z ∷ []) → y ≡ z
    alone y z (inl e) = e
    alone y z (inr h) = absurd h

    go : (y : ℕ) → StandsIn y (take n nodes) ⊎ StandsIn y (get_or nodes n 0 ∷ []) → y < length marks → Has marks2 y
    go y (inl h) l = subst (λ ms. Has ms y) (sym is) (still y (cases_eq y x) (before y h l) l)
    go y (inr h) l = subst (λ ms. Has ms y) (sym is) (here y (alone y (get_or nodes n 0) h ∙ sym at) l)

pub marked_all : (nodes : List ℕ) (n : ℕ) (marks : List Bool) → AreMarked nodes n marks → length nodes ≤ n → (y : ℕ) → StandsIn y nodes → y < length marks → Has marks y
marked_all nodes n marks h le y k l = h y (subst (StandsIn y) (sym (take_all n nodes le)) k) l

-- ---- how many there are

pub marks_many : (v : Abc) (graph : List (List ℕ)) (n m : ℕ) → graph ≡ graph_of v → n ≡ length graph → m ≡ n → m ≡ node_count (counts_of v)
marks_many v graph n m e f g =
    let h = length_graph v in
    let q : length graph ≡ length (graph_of v) = ap length e in
    omega (arith, h, q, f, g)

pub heads_many : (v : Abc) (marks : List Bool) (heads : List Head) (graph : List (List ℕ)) → graph ≡ graph_of v → TellHeads marks 0 heads (heads_of v) → length heads ≡ length graph
heads_many v marks heads graph e t = t.many ∙ same_count v ∙ sym (ap length e)

-- ---- those that have classes are told apart

class_inside : (classes : List (Option ℕ)) (x : ℕ) → HasClass classes x → x < length classes
class_inside classes x h = go (cases_lt x (length classes))
  where
    some_none : {o : Option ℕ} {n : ℕ} → o ≡ None → o ≡ Some n → ⊥
    some_none a b = cc

    go : (x < length classes) ⊎ (length classes ≤ x) → x < length classes
    go (inl lt) = lt
    go (inr le) = absurd (some_none (get_or_past classes x None le) h.is)

pub told_alike : (v : Abc) (marks : List Bool) (heads : List Head) (graph : List (List ℕ)) (order : List ℕ) (classes : List (Option ℕ)) (n : ℕ) → graph ≡ graph_of v → n ≡ length graph → length classes ≡ length graph → TellHeads marks 0 heads (heads_of v) → ((y : ℕ) → StandsIn y order → y < n → Has marks y) → ((y : ℕ) → HasClass classes y → StandsIn y order) → AreAlike classes heads (heads_of v)
told_alike v marks heads graph order classes n e many len t marked only = record {
  there = λ x y p q. t.there x y (inside x p) (inside y q) (mark x p) (mark y q);
  back = λ x y p q. t.back x y (inside x p) (inside y q) (mark x p) (mark y q);
}
  where
    inside : (x : ℕ) → HasClass classes x → x < length heads
    inside x h = let l = class_inside classes x h in let k = heads_many v marks heads graph e t in omega (arith, l, k, len)

    mark : (x : ℕ) → HasClass classes x → Has marks (0 + x)
    mark x h =
        let l = class_inside classes x h in
        let q : x ≡ 0 + x = omega arith in
        subst (Has marks) q (marked x (only x h) (omega (arith, l, len, many)))
