-- The first class that returns to itself, over bases or over interfaces.
use Rattle.std.proofs.Common.{◌≡◌, ℕ, ◌<◌, ◌≤◌, ◌⊎◌, inl, inr, min, Some, None, length, refl, sym, ap, subst, ◌∙◌, arith, List, IsTrue}
use Rattle.std.specs.declared.option.Option.{Option}
use Rattle.std.proofs.lemmas.Bool.{cases_lt, false≢true}
use Rattle.std.proofs.lemmas.List.{length-map}
use Rattle.abc_base_graphs.specs.Graph.{Returns, IsFirstReturn}
use Rattle.abc_file_types.specs.declared.tables.Abc.{Abc}
use Rattle.abc_link_names.specs.declared.items.LinkRule.TheVariants as rules
use Rattle.abc_link_names.specs.declared.items.ItemKind.{ItemKind}
use Rattle.abc_link_names.specs.declared.items.ItemKind.TheVariants as kinds
use Rattle.abc_link_names.specs.declared.items.Item.{Item}
use Rattle.abc_link_names.specs.Items.{IsItem, StandsBefore, count_of, kind_number}
use Rattle.abc_link_names.specs.Bases.{base_graph, interface_graph}
use Rattle.abc_link_names.specs.Rules.{Breaks, AllHoldBefore, IsFirstBroken, is_kind}
use Rattle.abc_link_names.specs.Firsts.{item}
use Rattle.abc_link_rules.specs.Cycles.{earlier_class}
use Rattle.abc_link_names.proofs.FirstBroken.{one_more}

-- the first class that returns over one graph or the other
abbrev pub IsFirstOfTwo : List (List ℕ) → List (List ℕ) → Option ℕ → Type 0
IsFirstOfTwo g h None = (x : ℕ) → x < length g → Returns g x ⊎ Returns h x → ⊥
IsFirstOfTwo g h (Some x) = (x < length g) × (Returns g x ⊎ Returns h x) × ((y : ℕ) → y < x → Returns g y ⊎ Returns h y → ⊥)

pub first_of_two : (g h : List (List ℕ)) (a b : Option ℕ) → length g ≡ length h → IsFirstReturn g a → IsFirstReturn h b → IsFirstOfTwo g h (earlier_class a b)
first_of_two g h None None len p q = λ x lt r. go x lt r
  where
    go : (x : ℕ) → x < length g → Returns g x ⊎ Returns h x → ⊥
    go x lt (inl r) = p x lt r
    go x lt (inr r) = q x (omega arith) r
first_of_two g h None (Some y) len p q = (omega (arith, q.0), inr q.1, λ z lt r. go z lt r)
  where
    go : (z : ℕ) → z < y → Returns g z ⊎ Returns h z → ⊥
    go z lt (inl r) = p z (omega (arith, q.0)) r
    go z lt (inr r) = q.2 z lt r
first_of_two g h (Some x) None len p q = (p.0, inl p.1, λ z lt r. go z lt r)
  where
    go : (z : ℕ) → z < x → Returns g z ⊎ Returns h z → ⊥
    go z lt (inl r) = p.2 z lt r
    go z lt (inr r) = q z (omega (arith, p.0)) r
first_of_two g h (Some x) (Some y) len p q = (omega (arith, p.0), which (cases_lt x y), λ z lt r. go z lt r)
  where
    which : (x < y) ⊎ (y ≤ x) → Returns g (min x y) ⊎ Returns h (min x y)
    which (inl lt) = let e : x ≡ min x y = omega arith in inl (subst (Returns g) e p.1)
    which (inr le) = let e : y ≡ min x y = omega arith in inr (subst (Returns h) e q.1)

    go : (z : ℕ) → z < min x y → Returns g z ⊎ Returns h z → ⊥
    go z lt (inl r) = p.2 z (omega arith) r
    go z lt (inr r) = q.2 z (omega arith) r

class_only : (k : ItemKind) → IsTrue (is_kind kinds.Class k) → k ≡ kinds.Class
class_only kinds.File t = absurd (false≢true t)
class_only kinds.Method t = absurd (false≢true t)
class_only kinds.Class t = refl
class_only kinds.Script t = absurd (false≢true t)
class_only kinds.Body t = absurd (false≢true t)

-- the graphs have a node for each class
base_len : (v : Abc) (g : List (List ℕ)) → g ≡ base_graph v → length g ≡ length v.instances
base_len v g e = ap length e ∙ length-map v.instances _

interface_len : (v : Abc) (h : List (List ℕ)) → h ≡ interface_graph v → length h ≡ length v.instances
interface_len v h e = ap length e ∙ length-map v.instances _

both_of : (v : Abc) (g h : List (List ℕ)) (x : ℕ) → g ≡ base_graph v → h ≡ interface_graph v → Returns (base_graph v) x ⊎ Returns (interface_graph v) x → Returns g x ⊎ Returns h x
both_of v g h x e f (inl r) = inl (subst (λ (l : List (List ℕ)). Returns l x) (sym e) r)
both_of v g h x e f (inr r) = inr (subst (λ (l : List (List ℕ)). Returns l x) (sym f) r)

of_both : (v : Abc) (g h : List (List ℕ)) (x : ℕ) → g ≡ base_graph v → h ≡ interface_graph v → Returns g x ⊎ Returns h x → Returns (base_graph v) x ⊎ Returns (interface_graph v) x
of_both v g h x e f (inl r) = inl (subst (λ (l : List (List ℕ)). Returns l x) e r)
of_both v g h x e f (inr r) = inr (subst (λ (l : List (List ℕ)). Returns l x) f r)

found : (v : Abc) (g h : List (List ℕ)) (a b r : Option ℕ) → g ≡ base_graph v → h ≡ interface_graph v → IsFirstReturn g a → IsFirstReturn h b → r ≡ earlier_class a b → IsFirstOfTwo g h r
found v g h a b r e f p q is = subst (IsFirstOfTwo g h) (sym is) (first_of_two g h a b (base_len v g e ∙ sym (interface_len v h f)) p q)

within : (v : Abc) (j : Item) → IsItem v j → j.kind ≡ kinds.Class → j.index < length v.instances
within v j i e = subst (λ k. j.index < count_of v k) e i.within

pub holds : (v : Abc) (g h : List (List ℕ)) (a b r : Option ℕ) → g ≡ base_graph v → h ≡ interface_graph v → IsFirstReturn g a → IsFirstReturn h b → r ≡ earlier_class a b → r ≡ None → AllHoldBefore v 4 → AllHoldBefore v 5
holds v g h a b r e f p q is none before =
    let n = subst (IsFirstOfTwo g h) none (found v g h a b r e f p q is) in
    one_more v rules.BaseCycle before
    (λ j i br.
    let lt = within v j i (class_only j.kind br.0) in
    n j.index (omega (arith, base_len v g e)) (both_of v g h j.index e f br.1))

pub refuses : (v : Abc) (g h : List (List ℕ)) (a b r : Option ℕ) (k : ℕ) → g ≡ base_graph v → h ≡ interface_graph v → IsFirstReturn g a → IsFirstReturn h b → r ≡ earlier_class a b → r ≡ Some k → AllHoldBefore v 4 → IsFirstBroken v rules.BaseCycle (item kinds.Class k)
refuses v g h a b r k e f p q is some before =
    let n = subst (IsFirstOfTwo g h) some (found v g h a b r e f p q is) in
    record {
      item = record { within = omega (arith, n.0, base_len v g e) };
      breaks = (refl, of_both v g h k e f n.1);
      first = λ j i s br. go n.2 j br s;
      before = before;
    }
  where
    go : ((y : ℕ) → y < k → Returns g y ⊎ Returns h y → ⊥) → (j : Item) → Breaks v rules.BaseCycle j → StandsBefore j (item kinds.Class k) → ⊥
    go none j br (inl lt) = let c = ap kind_number (class_only j.kind br.0) in omega (arith, c, lt)
    go none j br (inr s) = none j.index s.1 (both_of v g h j.index e f br.1)
