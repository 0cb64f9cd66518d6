-- Loops over places, handlers and rules: what is left after so many.
use Rattle.std.proofs.Common.{◌≡◌, ℕ, suc, ◌+◌, ◌<◌, ◌≤◌, cond, Bool, true, false, ◌&&◌, ◌||◌, List, ◌∷◌, Some, length, drop, get_or, map, refl, sym, ap, ◌∙◌, arith}
use Rattle.std.specs.Prelude.{filter, not, ltb}
use Rattle.std.proofs.Math.Seq.{drop-cons}
use Rattle.std.proofs.lemmas.Bool.{le-ltb, lt-ltb}
use Rattle.abc_verify_typing.specs.Effects.{covers}
use Rattle.abc_verify_typing.specs.Rules.{all_below, first_broken, handler_target, is_without_catches}
use Rattle.abc_verify_typing.specs.declared.catch.Catch.{Catch}
use Rattle.abc_verify_typing.specs.declared.rule.VerifyRule.{VerifyRule}

drop_next : {X : Type 0} (xs : List X) (k : ℕ) (d : X) → k < length xs → drop k xs ≡ get_or xs k d ∷ drop (k + 1) xs
drop_next {X} xs k d h = let next : suc k ≡ k + 1 = omega arith in drop-cons xs k d h ∙ ap (λ (n : ℕ). get_or xs k d ∷ drop n xs) next

-- ---- places

pub below_next : (xs : List ℕ) (k e : ℕ) → k < length xs → get_or xs k 0 < e → all_below (drop k xs) e ≡ all_below (drop (k + 1) xs) e
below_next xs k e h lt =
    ap (λ (ys : List ℕ). all_below ys e) (drop_next xs k 0 h)
    ∙ ap (λ (b : Bool). b && all_below (drop (k + 1) xs) e) (lt-ltb (get_or xs k 0) e lt)

pub below_stops : (xs : List ℕ) (k e : ℕ) → k < length xs → e ≤ get_or xs k 0 → false ≡ all_below (drop k xs) e
below_stops xs k e h le =
    sym (ap (λ (ys : List ℕ). all_below ys e) (drop_next xs k 0 h)
    ∙ ap (λ (b : Bool). b && all_below (drop (k + 1) xs) e) (le-ltb (get_or xs k 0) e le))

-- ---- handlers

pub uncovered : (i : ℕ) (hs : List Catch) (k : ℕ) (d : Catch) → k < length hs → false ≡ covers i (get_or hs k d) → filter (covers i) (drop k hs) ≡ filter (covers i) (drop (k + 1) hs)
uncovered i hs k d h e =
    ap (λ (ys : List Catch). filter (covers i) ys) (drop_next hs k d h)
    ∙ sym (ap (λ (b : Bool). cond b (get_or hs k d ∷ filter (covers i) (drop (k + 1) hs)) (filter (covers i) (drop (k + 1) hs))) e)

pub covered : (i : ℕ) (hs : List Catch) (k : ℕ) (d : Catch) → k < length hs → true ≡ covers i (get_or hs k d) → false ≡ is_without_catches (filter (covers i) (drop k hs))
covered i hs k d h e =
    sym (ap (λ (ys : List Catch). is_without_catches (filter (covers i) ys)) (drop_next hs k d h)
    ∙ sym (ap (λ (b : Bool). is_without_catches (cond b (get_or hs k d ∷ filter (covers i) (drop (k + 1) hs)) (filter (covers i) (drop (k + 1) hs)))) e))

-- a handler that doesn't cover the place, or whose target is inside, says nothing
pub inside_next : (i e : ℕ) (hs : List Catch) (k : ℕ) (d : Catch) → k < length hs → true ≡ (not (covers i (get_or hs k d)) || ltb (get_or hs k d).target e)
    → all_below (map handler_target (filter (covers i) (drop k hs))) e ≡ all_below (map handler_target (filter (covers i) (drop (k + 1) hs))) e
inside_next i e hs k d h q =
    ap (λ (ys : List Catch). all_below (map handler_target (filter (covers i) ys)) e) (drop_next hs k d h)
    ∙ go (covers i (get_or hs k d)) (get_or hs k d) (filter (covers i) (drop (k + 1) hs)) q
  where
    go : (b : Bool) (x : Catch) (fs : List Catch) → true ≡ (not b || ltb x.target e) → all_below (map handler_target (cond b (x ∷ fs) fs)) e ≡ all_below (map handler_target fs) e
    go true x fs q = sym (ap (λ (b : Bool). b && all_below (map handler_target fs) e) q)
    go false x fs q = refl

pub inside_stops : (i e : ℕ) (hs : List Catch) (k : ℕ) (d : Catch) → k < length hs → false ≡ (not (covers i (get_or hs k d)) || ltb (get_or hs k d).target e)
    → false ≡ all_below (map handler_target (filter (covers i) (drop k hs))) e
inside_stops i e hs k d h q =
    sym (ap (λ (ys : List Catch). all_below (map handler_target (filter (covers i) ys)) e) (drop_next hs k d h)
    ∙ go (covers i (get_or hs k d)) (get_or hs k d) (filter (covers i) (drop (k + 1) hs)) q)
  where
    go : (b : Bool) (x : Catch) (fs : List Catch) → false ≡ (not b || ltb x.target e) → all_below (map handler_target (cond b (x ∷ fs) fs)) e ≡ false
    go true x fs q = sym (ap (λ (b : Bool). b && all_below (map handler_target fs) e) q)
    go false x fs q = absurd cc

-- ---- rules

pub rule_next : (kept : VerifyRule → Bool) (rs : List VerifyRule) (k : ℕ) (d : VerifyRule) → k < length rs → true ≡ kept (get_or rs k d) → first_broken kept (drop k rs) ≡ first_broken kept (drop (k + 1) rs)
rule_next kept rs k d h e =
    ap (λ (ys : List VerifyRule). first_broken kept ys) (drop_next rs k d h)
    ∙ sym (ap (λ (b : Bool). cond b (first_broken kept (drop (k + 1) rs)) (Some (get_or rs k d))) e)

pub rule_stops : (kept : VerifyRule → Bool) (rs : List VerifyRule) (k : ℕ) (d : VerifyRule) → k < length rs → false ≡ kept (get_or rs k d) → Some (get_or rs k d) ≡ first_broken kept (drop k rs)
rule_stops kept rs k d h e =
    sym (ap (λ (ys : List VerifyRule). first_broken kept ys) (drop_next rs k d h)
    ∙ sym (ap (λ (b : Bool). cond b (first_broken kept (drop (k + 1) rs)) (Some (get_or rs k d))) e))
