-- Three lists, and that the joins of two states are their least state above both, with less to rise.
use Rattle.std.proofs.Common.{◌≡◌, ℕ, zero, suc, ◌+◌, ◌≤◌, ◌<◌, List, [], ◌∷◌, ◌++◌, length, take, drop, get_or, refl, sym, ap, ◌∙◌, subst, arith, ◌⊎◌, inl, inr}
use Rattle.std.specs.Prelude.{Bool}
use Rattle.abc_link_names.specs.Kinds.{IsAtMost, IsJoin}
use Rattle.abc_link_names.specs.Linked.{IsLinkedFile, LinkedFile}
use Rattle.abc_link_names.specs.declared.types.Kind.{Kind}
use Rattle.abc_link_names.specs.declared.types.Kind.TheVariants.{Any, Undef, Null, Num, Bool as Truth, Text, Space, Obj}
use Rattle.abc_link_names.proofs.Order.{kind_self}
use Rattle.abc_link_names.proofs.Tree.{below_antisym}
use Rattle.abc_verify_typing.specs.Lists.{Each2}
use Rattle.abc_verify_typing.specs.Typing.{HasOneShape, IsJoinState, ScopeLe, StateLe}
use Rattle.abc_verify_typing.specs.declared.state.Scope.{Scope}
use Rattle.abc_verify_typing.specs.declared.state.State.{State}
use Rattle.abc_verify_typing.proofs.Good.{good}
use Rattle.abc_verify_typing.specs.Rank.{layouts, rank_of_state}
use Rattle.abc_verify_typing.proofs.Merging.{state_join}
use Rattle.abc_verify_flow.specs.Walking.{MergesTo}
use Rattle.abc_verify_flow.specs.declared.step.Merged.TheVariants.{Joined}
use Rattle.abc_verify_states.specs.Triples.{Each3, IsJoinScope, JoinsState}

-- ---- from the front

pub threes_start : {X : Type 0} (R : X → X → X → Type 0) (xs ys zs : List X) → zs ≡ [] → Each3 R (take 0 xs) (take 0 ys) zs
threes_start {X} R xs ys zs e = subst (λ (us : List X). Each3 R (take 0 xs) (take 0 ys) us) (sym e) tt

front : {X : Type 0} (R : X → X → X → Type 0) (xs ys zs : List X) (k : ℕ) (d z : X) → k < length xs → length xs ≡ length ys → Each3 R (take k xs) (take k ys) zs → R (get_or xs k d) (get_or ys k d) z → Each3 R (take (suc k) xs) (take (suc k) ys) (zs ++ z ∷ [])
front R [] ys zs k d z lt e h r = absurd (omega arith)
front R (x ∷ xs) [] zs k d z lt e h r = absurd (omega arith)
front R (x ∷ xs) (y ∷ ys) [] zero d z lt e h r = (r, tt)
front R (x ∷ xs) (y ∷ ys) (u ∷ zs) zero d z lt e h r = absurd h
front R (x ∷ xs) (y ∷ ys) [] (suc k) d z lt e h r = absurd h
front R (x ∷ xs) (y ∷ ys) (u ∷ zs) (suc k) d z lt e h r = (h.0, front R xs ys zs k d z (omega arith) (omega arith) h.1 r)

pub threes_next : {X : Type 0} (R : X → X → X → Type 0) (xs ys zs new : List X) (k : ℕ) (d z : X) → k < length xs → length xs ≡ length ys → Each3 R (take k xs) (take k ys) zs → R (get_or xs k d) (get_or ys k d) z → new ≡ zs ++ z ∷ [] → Each3 R (take (k + 1) xs) (take (k + 1) ys) new
threes_next {X} R xs ys zs new k d z lt e h r is =
    let q : suc k ≡ k + 1 = omega arith in
    subst (λ (us : List X). Each3 R (take (k + 1) xs) (take (k + 1) ys) us) (sym is) (subst (λ (n : ℕ). Each3 R (take n xs) (take n ys) (zs ++ z ∷ [])) q (front R xs ys zs k d z lt e h r))

take_whole : {X : Type 0} (xs : List X) (k : ℕ) → length xs ≤ k → take k xs ≡ xs
take_whole [] zero h = refl
take_whole [] (suc k) h = refl
take_whole (x ∷ xs) zero h = absurd (omega arith)
take_whole {X} (x ∷ xs) (suc k) h = ap (λ (ys : List X). x ∷ ys) (take_whole xs k (omega arith))

pub threes_all : {X : Type 0} (R : X → X → X → Type 0) (xs ys zs : List X) (k : ℕ) → length xs ≤ k → length xs ≡ length ys → Each3 R (take k xs) (take k ys) zs → Each3 R xs ys zs
threes_all {X} R xs ys zs k le e h = subst (λ (us : List X). Each3 R us ys zs) (take_whole xs k le) (subst (λ (us : List X). Each3 R (take k xs) us zs) (take_whole ys k (omega arith)) h)

-- ---- from the back

none_left : {X : Type 0} (xs : List X) (k : ℕ) → length xs ≤ k → drop k xs ≡ []
none_left [] zero h = refl
none_left [] (suc k) h = refl
none_left (x ∷ xs) zero h = absurd (omega arith)
none_left (x ∷ xs) (suc k) h = none_left xs k (omega arith)

pub threes_end : {X : Type 0} (R : X → X → X → Type 0) (xs ys zs : List X) (k : ℕ) → length xs ≤ k → length xs ≡ length ys → zs ≡ [] → Each3 R (drop k xs) (drop k ys) zs
threes_end {X} R xs ys zs k le e is = subst (λ (us : List X). Each3 R us (drop k ys) zs) (sym (none_left xs k le)) (subst (λ (us : List X). Each3 R [] us zs) (sym (none_left ys k (omega arith))) (subst (λ (us : List X). Each3 R [] [] us) (sym is) tt))

back : {X : Type 0} (R : X → X → X → Type 0) (xs ys zs : List X) (k : ℕ) (d z : X) → k < length xs → length xs ≡ length ys → Each3 R (drop (suc k) xs) (drop (suc k) ys) zs → R (get_or xs k d) (get_or ys k d) z → Each3 R (drop k xs) (drop k ys) (z ∷ zs)
back R [] ys zs k d z lt e h r = absurd (omega arith)
back R (x ∷ xs) [] zs k d z lt e h r = absurd (omega arith)
back R (x ∷ xs) (y ∷ ys) zs zero d z lt e h r = (r, h)
back R (x ∷ xs) (y ∷ ys) zs (suc k) d z lt e h r = back R xs ys zs k d z (omega arith) (omega arith) h r

pub threes_down : {X : Type 0} (R : X → X → X → Type 0) (xs ys zs new : List X) (n k : ℕ) (d z : X) → n ≡ suc k → k < length xs → length xs ≡ length ys → Each3 R (drop n xs) (drop n ys) zs → R (get_or xs k d) (get_or ys k d) z → new ≡ z ∷ zs → Each3 R (drop k xs) (drop k ys) new
threes_down {X} R xs ys zs new n k d z q lt e h r is =
    subst (λ (us : List X). Each3 R (drop k xs) (drop k ys) us) (sym is) (back R xs ys zs k d z lt e (subst (λ (i : ℕ). Each3 R (drop i xs) (drop i ys) zs) q h) r)

pub threes_whole : {X : Type 0} (R : X → X → X → Type 0) (xs ys zs : List X) (k : ℕ) → k ≤ 0 → Each3 R (drop k xs) (drop k ys) zs → Each3 R xs ys zs
threes_whole R xs ys zs zero h e = e
threes_whole R xs ys zs (suc k) h e = absurd (omega arith)

-- what is the join of two values is that of what they are
pub joined_along : {X : Type 0} (R : X → X → X → Type 0) (x y u v j : X) → x ≡ u → y ≡ v → R x y j → R u v j
joined_along {X} R x y u v j p q h = subst (λ (w : X). R u w j) q (subst (λ (w : X). R w y j) p h)

-- ---- what the joins are

module _ {X : Type 0} (R : X → X → X → Type 0) (S : X → X → Type 0) where
  lefts : ((x y z : X) → R x y z → S x z) → (xs ys zs : List X) → Each3 R xs ys zs → Each2 S xs zs
  lefts f [] [] [] h = tt
  lefts f (x ∷ xs) (y ∷ ys) (z ∷ zs) h = (f x y z h.0, lefts f xs ys zs h.1)
  lefts f [] [] (z ∷ zs) h = absurd h
  lefts f [] (y ∷ ys) zs h = absurd h
  lefts f (x ∷ xs) [] zs h = absurd h
  lefts f (x ∷ xs) (y ∷ ys) [] h = absurd h

  rights : ((x y z : X) → R x y z → S y z) → (xs ys zs : List X) → Each3 R xs ys zs → Each2 S ys zs
  rights f [] [] [] h = tt
  rights f (x ∷ xs) (y ∷ ys) (z ∷ zs) h = (f x y z h.0, rights f xs ys zs h.1)
  rights f [] [] (z ∷ zs) h = absurd h
  rights f [] (y ∷ ys) zs h = absurd h
  rights f (x ∷ xs) [] zs h = absurd h
  rights f (x ∷ xs) (y ∷ ys) [] h = absurd h

  leasts : ((x y z k : X) → R x y z → S x k → S y k → S z k) → (xs ys zs ks : List X) → Each3 R xs ys zs → Each2 S xs ks → Each2 S ys ks → Each2 S zs ks
  leasts f [] [] [] ks h a b = a
  leasts f (x ∷ xs) (y ∷ ys) (z ∷ zs) (k ∷ ks) h a b = (f x y z k h.0 a.0 b.0, leasts f xs ys zs ks h.1 a.1 b.1)
  leasts f (x ∷ xs) (y ∷ ys) (z ∷ zs) [] h a b = absurd a
  leasts f [] [] (z ∷ zs) ks h a b = absurd h
  leasts f [] (y ∷ ys) zs ks h a b = absurd h
  leasts f (x ∷ xs) [] zs ks h a b = absurd h
  leasts f (x ∷ xs) (y ∷ ys) [] ks h a b = absurd h

-- the join of two kinds that are equal
pub join_self : (p : LinkedFile) (x y : Kind) → x ≡ y → IsJoin p x y x
join_self p x y e = record { left = kind_self p x; right = subst (λ (z : Kind). IsAtMost p z x) e (kind_self p x); least = λ k m n. m }

is_join : (p : LinkedFile) (a b j : State) → JoinsState p a b j → IsJoinState p a b j
is_join p a b j h = record {
  left = record { stack = lefts (IsJoin p) (IsAtMost p) (λ x y z r. r.left) _ _ _ h.stack; scopes = lefts (IsJoinScope p) (ScopeLe p) (λ x y z r. record { kind = r.kind.left; flag = sym r.flag }) _ _ _ h.scopes; locals = lefts (IsJoin p) (IsAtMost p) (λ x y z r. r.left) _ _ _ h.locals };
  right = record { stack = rights (IsJoin p) (IsAtMost p) (λ x y z r. r.right) _ _ _ h.stack; scopes = rights (IsJoinScope p) (ScopeLe p) (λ x y z r. record { kind = r.kind.right; flag = sym r.same ∙ sym r.flag }) _ _ _ h.scopes; locals = rights (IsJoin p) (IsAtMost p) (λ x y z r. r.right) _ _ _ h.locals };
  least = λ u m n. record { stack = leasts (IsJoin p) (IsAtMost p) (λ x y z k r s t. r.least k s t) _ _ _ _ h.stack m.stack n.stack; scopes = leasts (IsJoinScope p) (ScopeLe p) (λ x y z k r s t. record { kind = r.kind.least k.kind s.kind t.kind; flag = r.flag ∙ s.flag }) _ _ _ _ h.scopes m.scopes n.scopes; locals = leasts (IsJoin p) (IsAtMost p) (λ x y z k r s t. r.least k s t) _ _ _ _ h.locals m.locals n.locals };
}

-- ---- the order has no two that are at most each other

kind_antisym : (p : LinkedFile) → IsLinkedFile p → (a b : Kind) → IsAtMost p a b → IsAtMost p b a → a ≡ b
kind_antisym p t Any Any h k = refl
kind_antisym p t Any b h k = absurd h
kind_antisym p t Undef Undef h k = refl
kind_antisym p t Undef b h k = absurd k
kind_antisym p t Null Null h k = refl
kind_antisym p t Null b h k = absurd k
kind_antisym p t Num Num h k = refl
kind_antisym p t Num b h k = absurd k
kind_antisym p t Truth Truth h k = refl
kind_antisym p t Truth b h k = absurd k
kind_antisym p t Text Text h k = refl
kind_antisym p t Text Null h k = absurd h
kind_antisym p t Text b h k = absurd k
kind_antisym p t Space Space h k = refl
kind_antisym p t Space Null h k = absurd h
kind_antisym p t Space b h k = absurd k
kind_antisym p t (Obj x) (Obj y) h k = ap (λ (n : ℕ). Obj (record { 0 = n })) (below_antisym p t x.0 y.0 h k)
kind_antisym p t (Obj x) Null h k = absurd h
kind_antisym p t (Obj x) b h k = absurd k

lists_antisym : {X : Type 0} (S : X → X → Type 0) → ((x y : X) → S x y → S y x → x ≡ y) → (xs ys : List X) → Each2 S xs ys → Each2 S ys xs → xs ≡ ys
lists_antisym S f [] [] h k = refl
lists_antisym {X} S f (x ∷ xs) (y ∷ ys) h k = ap (λ (z : X). z ∷ xs) (f x y h.0 k.0) ∙ ap (λ (zs : List X). y ∷ zs) (lists_antisym S f xs ys h.1 k.1)
lists_antisym S f [] (y ∷ ys) h k = absurd h
lists_antisym S f (x ∷ xs) [] h k = absurd h

scope_antisym : (p : LinkedFile) → IsLinkedFile p → (a b : Scope) → ScopeLe p a b → ScopeLe p b a → a ≡ b
scope_antisym p t a b h k = ap (λ (z : Kind). record { kind = z; is_with = a.is_with }) (kind_antisym p t a.kind b.kind h.kind k.kind) ∙ ap (λ (z : Bool). record { kind = b.kind; is_with = z }) h.flag

state_antisym : (p : LinkedFile) → IsLinkedFile p → (a b : State) → StateLe p a b → StateLe p b a → a ≡ b
state_antisym p t a b h k =
    let s = lists_antisym (IsAtMost p) (kind_antisym p t) a.stack b.stack h.stack k.stack in
    let c = lists_antisym (ScopeLe p) (scope_antisym p t) a.scopes b.scopes h.scopes k.scopes in
    let l = lists_antisym (IsAtMost p) (kind_antisym p t) a.locals b.locals h.locals k.locals in
    ap (λ (z : List Kind). record { stack = z; scopes = a.scopes; locals = a.locals }) s
    ∙ ap (λ (z : List Scope). record { stack = b.stack; scopes = z; locals = a.locals }) c
    ∙ ap (λ (z : List Kind). record { stack = b.stack; scopes = b.scopes; locals = z }) l

-- the joins have less to rise, unless the second is at most the first
pub joins : (p : LinkedFile) → IsLinkedFile p → (old n j : State) → HasOneShape old n → (StateLe p n old → ⊥) → JoinsState p old n j → MergesTo p old n j Joined
joins p t old n j shape ne h =
    elim (state_join p (good p t) (layouts p) (omega arith) (omega arith) old n shape) [
      | inl le ↦ absurd (ne le)
      | inr r ↦ (
          let mine = is_join p old n j h in
          let e : r.0 ≡ j = state_antisym p t r.0 j (r.1.least j mine.left mine.right) (mine.least r.0 r.1.left r.1.right) in
          (mine, subst (λ (s : State). rank_of_state (layouts p) s < rank_of_state (layouts p) old) e r.2))
    ]
