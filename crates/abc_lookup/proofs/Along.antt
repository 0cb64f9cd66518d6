-- The layouts of a way, one after the other.
use Rattle.std.proofs.Common.{◌≡◌, ℕ, ◌<◌, arith, Bool, true, false, ◌||◌, List, [], ◌∷◌, ◌++◌, map, refl, sym, ap, ◌∙◌, cond, eq-eqb, ne_eqb}
use Rattle.std.specs.Prelude.{Some, None, option_map}
use Rattle.std.specs.declared.option.Option.{Option}
use Rattle.std.specs.List.{list_any}
use Rattle.abc_base_graphs.specs.Ways.{before, farthest, way, IsPlaceBelow, IsFalling}
use Rattle.abc_base_graphs.proofs.Walks.{way_none, way_some}
use Rattle.abc_heap_store.specs.Heap.{Heap}
use Rattle.abc_link_names.specs.Linked.{IsLinkedFile, LinkedFile, base_layout}
use Rattle.abc_link_names.specs.declared.part.LayoutId.{LayoutId}
use Rattle.abc_link_names.proofs.Finding.{falling}
use Rattle.abc_objects.specs.Candidates.{OfTrait, answer_of_search, text_of_span, traits, traits_after}
use Rattle.abc_objects.specs.Results.{or_next}
use Rattle.abc_objects.specs.Spaces.{holds_protected}
use Rattle.abc_objects.specs.Traits.{own}
use Rattle.abc_objects.specs.declared.found.Found.{Found}
use Rattle.abc_objects.specs.declared.found.Found.TheVariants.{Missing}
use Rattle.abc_objects.specs.declared.found.Skip.{Skip}
use Rattle.abc_objects.specs.declared.name.Name.{Name}
use Rattle.abc_objects.proofs.Joins.{answer_none, answer_append, or_assoc}
use Rattle.abc_lookup.specs.Steps.{along, layout_result, layout_number}
use Rattle.abc_lookup.proofs.TextFirst.{text_first_of}

any_more : (p : ℕ → Bool) (xs : List ℕ) (x : ℕ) → list_any p (xs ++ x ∷ []) ≡ (list_any p xs || p x)
any_more p [] x = go (p x)
  where
    go : (b : Bool) → (b || false) ≡ b
    go true = refl
    go false = refl
any_more p (y ∷ ys) x = ap (λ b. p y || b) (any_more p ys x) ∙ go (p y)
  where
    go : (b : Bool) → (b || (list_any p ys || p x)) ≡ ((b || list_any p ys) || p x)
    go true = refl
    go false = refl

along_all : (l : LinkedFile) (h : Heap) (n : Name) (s : Skip) (held : Bool) (passed xs : List ℕ) → list_any (holds_protected l n.spaces) passed ≡ held
    → answer_of_search l h n s (traits_after l passed xs) ≡ along l (text_of_span l h n.text) n s held xs
unfolding along
along_all l h n s held passed [] e = answer_none l h n s
along_all l h n s held passed (x ∷ xs) e =
    let t = text_of_span l h n.text in
    let q : list_any (holds_protected l n.spaces) (passed ++ x ∷ []) ≡ (held || holds_protected l n.spaces x) =
    any_more (holds_protected l n.spaces) passed x ∙ ap (λ b. b || holds_protected l n.spaces x) e in
    answer_append l h n s (map (OfTrait x (passed ++ x ∷ [])) (own l x)) (traits_after l (passed ++ x ∷ []) xs)
    ∙ ap (λ f. or_next f (answer_of_search l h n s (traits_after l (passed ++ x ∷ []) xs))) (text_first_of l h n s x (passed ++ x ∷ []) (held || holds_protected l n.spaces x) q)
    ∙ ap (or_next (layout_result l t n s x (held || holds_protected l n.spaces x))) (along_all l h n s (held || holds_protected l n.spaces x) (passed ++ x ∷ []) xs q)

-- a step of the loop, and its end
along_step : (l : LinkedFile) (t : List ℕ) (n : Name) (s : Skip) (held : Bool) (x : ℕ) → IsLinkedFile l
    → along l t n s held (way (base_layout l) (Some x)) ≡ or_next (layout_result l t n s x (held || holds_protected l n.spaces x)) (along l t n s (held || holds_protected l n.spaces x) (way (base_layout l) (base_layout l x)))
unfolding along
along_step l t n s held x f = ap (along l t n s held) (way_some (base_layout l) (falling l.file l.parts f.numbering) x)

-- what the first layout of a way gives, and then what those above it give
pub along_first : (l : LinkedFile) (t : List ℕ) (n : Name) (s : Skip) (below held : Bool) (x : ℕ) (first : Found) → IsLinkedFile l → held ≡ (below || holds_protected l n.spaces x) → first ≡ layout_result l t n s x held
    → or_next first (along l t n s held (way (base_layout l) (base_layout l x))) ≡ along l t n s below (way (base_layout l) (Some x))
along_first l t n s below held x first f hs gs =
    ap (λ g. or_next g (along l t n s held (way (base_layout l) (base_layout l x)))) gs
    ∙ ap (λ b. or_next (layout_result l t n s x b) (along l t n s b (way (base_layout l) (base_layout l x)))) hs
    ∙ sym (along_step l t n s below x f)

pub along_end : (l : LinkedFile) (t : List ℕ) (n : Name) (s : Skip) (held : Bool) → along l t n s held (way (base_layout l) None) ≡ Missing
unfolding along
along_end l t n s held = ap (along l t n s held) (way_none (base_layout l))

-- the places before one
pub before_here : (p : ℕ → Bool) (next : ℕ → Option ℕ) → IsFalling next → (from x : ℕ) → x ≡ from → list_any p (before from (way next (Some x))) ≡ false
before_here p next f from x e =
    ap (λ xs. list_any p (before from xs)) (way_some next f x)
    ∙ ap (λ b. list_any p (cond b [] (x ∷ before from (way next (next x))))) (eq-eqb x from e)

pub before_more : (p : ℕ → Bool) (next : ℕ → Option ℕ) → IsFalling next → (from x : ℕ) → (x ≡ from → ⊥) → list_any p (before from (way next (Some x))) ≡ (p x || list_any p (before from (way next (next x))))
before_more p next f from x e =
    ap (λ xs. list_any p (before from xs)) (way_some next f x)
    ∙ ap (λ b. list_any p (cond b [] (x ∷ before from (way next (next x))))) (ne_eqb x from e)

pub before_end : (p : ℕ → Bool) (next : ℕ → Option ℕ) (from : ℕ) → list_any p (before from (way next None)) ≡ false
before_end p next from = ap (λ xs. list_any p (before from xs)) (way_none next)

pub bases_fall : (l : LinkedFile) → IsLinkedFile l → IsFalling (base_layout l)
bases_fall l f = falling l.file l.parts f.numbering

-- the number of what is called a layout
pub number_back : (o : Option ℕ) → layout_number (option_map (λ n. record { 0 = n }) o) ≡ o
number_back None = refl
number_back (Some n) = refl

-- a step of the walk from a layout: what was found, and then what the rest gives, is what all gives
pub along_next : (l : LinkedFile) (t : List ℕ) (n : Name) (s : Skip) (held held' : Bool) (x : ℕ) (at : Option ℕ) (so_far found next whole : Found) → IsLinkedFile l → at ≡ Some x
    → or_next so_far (along l t n s held (way (base_layout l) at)) ≡ whole → held' ≡ (held || holds_protected l n.spaces x) → found ≡ layout_result l t n s x held' → next ≡ or_next so_far found
    → or_next next (along l t n s held' (way (base_layout l) (base_layout l x))) ≡ whole
along_next l t n s held held' x at so_far found next whole f is e hs gs ns =
    let r = along l t n s held' (way (base_layout l) (base_layout l x)) in
    ap (λ g. or_next g r) ns ∙ or_assoc so_far found r
    ∙ ap (λ g. or_next so_far (or_next g r)) gs
    ∙ ap (λ b. or_next so_far (or_next (layout_result l t n s x b) (along l t n s b (way (base_layout l) (base_layout l x))))) hs
    ∙ ap (or_next so_far) (sym (along_step l t n s held x f))
    ∙ ap (λ o. or_next so_far (along l t n s held (way (base_layout l) o))) (sym is)
    ∙ e

-- the walk over the bases finds the first of all candidates
pub declared_all : (l : LinkedFile) (h : Heap) (n : Name) (s : Skip) (object from : ℕ) (held : Bool) (t : List ℕ) → t ≡ text_of_span l h n.text → held ≡ list_any (holds_protected l n.spaces) (before from (way (base_layout l) (Some object)))
    → along l t n s held (way (base_layout l) (Some from)) ≡ answer_of_search l h n s (traits l object from)
declared_all l h n s object from held t is e =
    ap (λ u. along l u n s held (way (base_layout l) (Some from))) is
    ∙ sym (along_all l h n s held (before from (way (base_layout l) (Some object))) (way (base_layout l) (Some from)) (sym e))

-- a layout that a walk has come to, and what it stands under
pub walk_in : (at : Option LayoutId) (x : LayoutId) (n : ℕ) → at ≡ Some x → IsPlaceBelow (layout_number at) n → x.0 < n
walk_in None x n e h = cc
walk_in (Some y) x n e h = let q : y.0 ≡ x.0 = cc in omega (arith, h, q)

pub base_some : (l : LinkedFile) (x : ℕ) (o : Option LayoutId) (b : LayoutId) → o ≡ option_map (λ n. record { 0 = n }) (base_layout l x) → o ≡ Some b → base_layout l x ≡ Some b.0
base_some l x o b is some = sym (number_back (base_layout l x)) ∙ sym (ap layout_number is) ∙ ap layout_number some

pub base_none : (l : LinkedFile) (x : ℕ) (o : Option LayoutId) → o ≡ option_map (λ n. record { 0 = n }) (base_layout l x) → o ≡ None → base_layout l x ≡ None
base_none l x o is none = sym (number_back (base_layout l x)) ∙ sym (ap layout_number is) ∙ ap layout_number none

pub base_in : (l : LinkedFile) → IsLinkedFile l → (x b n : ℕ) → base_layout l x ≡ Some b → x < n → b < n
base_in l f x b n e h = let lt = (bases_fall l f).falls x b e in omega arith

-- a walk comes to an end
pub less_left : (next : ℕ → Option ℕ) → IsFalling next → (x : ℕ) (at to : Option ℕ) → at ≡ Some x → to ≡ next x → farthest to < farthest at
less_left next f x None to e is = cc
less_left next f x (Some z) None e is = omega arith
less_left next f x (Some z) (Some y) e is = let q : z ≡ x = cc in let lt = f.falls x y (sym is) in omega arith
