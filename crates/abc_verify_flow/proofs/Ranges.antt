-- The ranges of handlers, one after the other.
use Rattle.std.proofs.Common.{◌≡◌, ℕ, ◌+◌, ◌<◌, ◌≤◌, List, [], ◌∷◌, ◌++◌, length, get_or, take, suc, arith, sym, ap, ◌∙◌}
use Rattle.std.specs.Prelude.{Bool, cond, not, map, filter}
use Rattle.std.proofs.lemmas.Bool.{le-ltb, lt-ltb}
use Rattle.std.proofs.lemmas.List.{map-append, append-nil}
use Rattle.std.proofs.lemmas.List.Elements.{filter_more}
use Rattle.abc_base_trees.specs.declared.hang.Range.{Range}
use Rattle.abc_verify_typing.specs.declared.catch.Catch.{Catch}
use Rattle.abc_verify_flow.specs.Telling.{leads_beyond, range_of}
use Rattle.abc_verify_flow.proofs.Places.{take_next}

pub next_range : (hs : List Catch) (k : ℕ) (d : Catch) → k < length hs → map range_of (take k hs) ++ range_of (get_or hs k d) ∷ [] ≡ map range_of (take (k + 1) hs)
next_range hs k d h = let z : suc k ≡ k + 1 = omega arith in sym (map-append range_of (take k hs) (get_or hs k d ∷ [])) ∙ ap (map range_of) (sym (take_next hs k d h) ∙ ap (λ (n : ℕ). take n hs) z)

pub next_beyond : (hs : List Catch) (k end : ℕ) (d : Catch) → k < length hs → map range_of (filter (leads_beyond end) (take k hs)) ++ map range_of (filter (leads_beyond end) (get_or hs k d ∷ [])) ≡ map range_of (filter (leads_beyond end) (take (k + 1) hs))
next_beyond hs k end d h = sym (map-append range_of (filter (leads_beyond end) (take k hs)) (filter (leads_beyond end) (get_or hs k d ∷ []))) ∙ ap (map range_of) (sym (filter_more (leads_beyond end) hs k d h))

pub is_beyond : (h : Catch) (end : ℕ) (old : List Range) → end ≤ h.target → old ++ range_of h ∷ [] ≡ old ++ map range_of (filter (leads_beyond end) (h ∷ []))
is_beyond h end old le = ap (λ (b : Bool). old ++ map range_of (cond (not b) (h ∷ []) [])) (sym (le-ltb h.target end le))

pub not_beyond : (h : Catch) (end : ℕ) (old : List Range) → h.target < end → old ≡ old ++ map range_of (filter (leads_beyond end) (h ∷ []))
not_beyond h end old lt = sym (append-nil old) ∙ ap (λ (b : Bool). old ++ map range_of (cond (not b) (h ∷ []) [])) (sym (lt-ltb h.target end lt))
