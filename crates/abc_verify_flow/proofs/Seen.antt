-- What was seen of locals, joined with what a step wrote.
use Rattle.std.proofs.Common.{◌≡◌, ◌≢◌, ℕ, zero, suc, List, [], ◌∷◌, Some, None, set, refl, sym, ap, ◌∙◌, subst}
use Rattle.std.specs.Prelude.{slice_get}
use Rattle.abc_link_names.specs.Kinds.{IsAtMost, IsJoin}
use Rattle.abc_link_names.specs.Linked.{LinkedFile}
use Rattle.abc_link_names.specs.declared.types.Kind.{Kind}
use Rattle.abc_link_names.specs.declared.types.Kind.TheVariants.{Any}
use Rattle.abc_link_names.proofs.Order.{kind_self}
use Rattle.abc_verify_typing.specs.Lists.{Each2}
use Rattle.abc_verify_typing.specs.Typing.{IsJoinState}
use Rattle.abc_verify_typing.specs.declared.catch.Catch.{Catch}
use Rattle.abc_verify_flow.specs.Walking.{NotesWritten, NotedAt, Wrote, caught_with}
use Rattle.abc_verify_flow.specs.declared.step.Written.{Written}
use Rattle.abc_verify_flow.specs.declared.step.Written.TheVariants as writes

-- each of the third list is the join of those of the first two
abbrev pub Joins : LinkedFile → List Kind → List Kind → List Kind → Type 0
Joins p [] [] [] = Unit {0}
Joins p (j ∷ js) (y ∷ ys) (z ∷ zs) = IsJoin p j y z × Joins p js ys zs
Joins p js ys zs = ⊥

joins_self : (p : LinkedFile) (xs js : List Kind) → Each2 (IsAtMost p) xs js → Joins p js xs js
joins_self p [] [] h = tt
joins_self p (x ∷ xs) (j ∷ js) h = (record { left = kind_self p j; right = h.0; least = λ k a b. a }, joins_self p xs js h.1)
joins_self p [] (j ∷ js) h = absurd h
joins_self p (x ∷ xs) [] h = absurd h

joins_set : (p : LinkedFile) (js ys zs : List Kind) (i : ℕ) (k m : Kind) → Joins p js ys zs → ((a : Kind) → slice_get js i ≡ Some a → IsJoin p a k m) → Joins p js (set ys i k) (set zs i m)
joins_set p [] [] [] i k m h f = h
joins_set p (j ∷ js) (y ∷ ys) (z ∷ zs) zero k m h f = (f j refl, h.1)
joins_set p (j ∷ js) (y ∷ ys) (z ∷ zs) (suc i) k m h f = (h.0, joins_set p js ys zs i k m h.1 f)
joins_set p [] [] (z ∷ zs) i k m h f = absurd h
joins_set p [] (y ∷ ys) zs i k m h f = absurd h
joins_set p (j ∷ js) [] zs i k m h f = absurd h
joins_set p (j ∷ js) (y ∷ ys) [] i k m h f = absurd h

pub joins_left : (p : LinkedFile) (js ys zs : List Kind) → Joins p js ys zs → Each2 (IsAtMost p) js zs
joins_left p [] [] [] h = tt
joins_left p (j ∷ js) (y ∷ ys) (z ∷ zs) h = (h.0.left, joins_left p js ys zs h.1)
joins_left p [] [] (z ∷ zs) h = absurd h
joins_left p [] (y ∷ ys) zs h = absurd h
joins_left p (j ∷ js) [] zs h = absurd h
joins_left p (j ∷ js) (y ∷ ys) [] h = absurd h

pub joins_right : (p : LinkedFile) (js ys zs : List Kind) → Joins p js ys zs → Each2 (IsAtMost p) ys zs
joins_right p [] [] [] h = tt
joins_right p (j ∷ js) (y ∷ ys) (z ∷ zs) h = (h.0.right, joins_right p js ys zs h.1)
joins_right p [] [] (z ∷ zs) h = absurd h
joins_right p [] (y ∷ ys) zs h = absurd h
joins_right p (j ∷ js) [] zs h = absurd h
joins_right p (j ∷ js) (y ∷ ys) [] h = absurd h

joins_least : (p : LinkedFile) (js ys zs ks : List Kind) → Joins p js ys zs → Each2 (IsAtMost p) js ks → Each2 (IsAtMost p) ys ks → Each2 (IsAtMost p) zs ks
joins_least p [] [] [] ks h a b = a
joins_least p (j ∷ js) (y ∷ ys) (z ∷ zs) (k ∷ ks) h a b = (h.0.least k a.0 b.0, joins_least p js ys zs ks h.1 a.1 b.1)
joins_least p (j ∷ js) (y ∷ ys) (z ∷ zs) [] h a b = absurd a
joins_least p [] [] (z ∷ zs) ks h a b = absurd h
joins_least p [] (y ∷ ys) zs ks h a b = absurd h
joins_least p (j ∷ js) [] zs ks h a b = absurd h
joins_least p (j ∷ js) (y ∷ ys) [] ks h a b = absurd h

-- the states that a handler gets are joined with the locals
pub caught_join : (p : LinkedFile) (js ys zs : List Kind) (h : Catch) → Joins p js ys zs → IsJoinState p (caught_with js h).1 (caught_with ys h).1 (caught_with zs h).1
caught_join p js ys zs h all = record {
  left = record { stack = (kind_self p h.kind, tt); scopes = tt; locals = joins_left p js ys zs all };
  right = record { stack = (kind_self p h.kind, tt); scopes = tt; locals = joins_right p js ys zs all };
  least = λ u a b. record { stack = a.stack; scopes = a.scopes; locals = joins_least p js ys zs u.locals all a.locals b.locals };
}

get_back : (p : LinkedFile) (xs js : List Kind) (i : ℕ) (a : Kind) → Each2 (IsAtMost p) xs js → slice_get js i ≡ Some a → (x : Kind) × (slice_get xs i ≡ Some x)
get_back p [] [] i a h e = absurd cc
get_back p (x ∷ xs) (j ∷ js) zero a h e = (x, refl)
get_back p (x ∷ xs) (j ∷ js) (suc i) a h e = get_back p xs js i a h.1 e
get_back p [] (j ∷ js) i a h e = absurd h
get_back p (x ∷ xs) [] i a h e = absurd h

get_set : (xs : List Kind) (i : ℕ) (x k : Kind) → slice_get xs i ≡ Some x → slice_get (set xs i k) i ≡ Some k
get_set [] i x k e = absurd cc
get_set (y ∷ xs) zero x k e = refl
get_set (y ∷ xs) (suc i) x k e = get_set xs i x k e

get_other : (xs : List Kind) (i j : ℕ) (k : Kind) → i ≢ j → slice_get (set xs j k) i ≡ slice_get xs i
get_other [] i j k ne = refl
get_other (x ∷ xs) zero zero k ne = absurd (ne refl)
get_other (x ∷ xs) zero (suc j) k ne = refl
get_other (x ∷ xs) (suc i) zero k ne = refl
get_other (x ∷ xs) (suc i) (suc j) k ne = get_other xs i j k (λ e. ne (ap suc e))

pub noted_joins : (p : LinkedFile) (w : Written) (xs ys js zs : List Kind) → Wrote w xs ys → Each2 (IsAtMost p) xs js → NotesWritten p w js ys zs → Joins p js ys zs
noted_joins p writes.Nothing xs ys js zs wrote most noted = subst (λ (us : List Kind). Joins p js us zs) (sym wrote) (subst (λ (us : List Kind). Joins p js xs us) (sym noted) (joins_self p xs js most))
noted_joins p (writes.One j) xs ys js zs wrote most noted =
    subst (λ (us : List Kind). Joins p js us zs) (sym wrote.is) (subst (λ (us : List Kind). Joins p js (set xs j wrote.kind) us) (sym noted.is) (joins_set p js xs js j wrote.kind noted.kind (joins_self p xs js most) one))
  where
    one : (a : Kind) → slice_get js j ≡ Some a → IsJoin p a wrote.kind noted.kind
    one a e = let x = get_back p xs js j a most e in noted.joins a wrote.kind e (ap (λ (us : List Kind). slice_get us j) wrote.is ∙ get_set xs j x.0 wrote.kind x.1)
noted_joins p (writes.Two i j) xs ys js zs wrote most noted =
    subst (λ (us : List Kind). Joins p js us zs) (sym wrote.is) (subst (λ (us : List Kind). Joins p js (set (set xs i wrote.first) j wrote.second) us) (sym noted.second.is) (joins_set p js (set xs i wrote.first) noted.between j wrote.second noted.second.kind between two))
  where
    one : (a : Kind) → slice_get js i ≡ Some a → IsJoin p a wrote.first noted.first.kind
    one a e = let x = get_back p xs js i a most e in noted.first.joins a wrote.first e (ap (λ (us : List Kind). slice_get us i) wrote.is ∙ get_other (set xs i wrote.first) i j wrote.second wrote.apart ∙ get_set xs i x.0 wrote.first x.1)

    between : Joins p js (set xs i wrote.first) noted.between
    between = subst (λ (us : List Kind). Joins p js (set xs i wrote.first) us) (sym noted.first.is) (joins_set p js xs js i wrote.first noted.first.kind (joins_self p xs js most) one)

    two : (a : Kind) → slice_get js j ≡ Some a → IsJoin p a wrote.second noted.second.kind
    two a e =
        let x = get_back p xs js j a most e in
        let y : slice_get (set xs i wrote.first) j ≡ Some x.0 = get_other xs j i wrote.first (λ q. wrote.apart (sym q)) ∙ x.1 in
        let at : slice_get noted.between j ≡ Some a = ap (λ (us : List Kind). slice_get us j) noted.first.is ∙ get_other js j i noted.first.kind (λ q. wrote.apart (sym q)) ∙ e in
        noted.second.joins a wrote.second at (ap (λ (us : List Kind). slice_get us j) wrote.is ∙ get_set (set xs i wrote.first) j x.0 wrote.second y)

-- of one local
pub noted_here : (p : LinkedFile) (old locals new : List Kind) (j : ℕ) (a b kind : Kind) → slice_get old j ≡ Some a → slice_get locals j ≡ Some b → IsJoin p a b kind → new ≡ set old j kind → NotedAt p old locals j new
noted_here p old locals new j a b kind e f h is = record { kind = kind; is = is; joins = joins }
  where
    joins : (x y : Kind) → slice_get old j ≡ Some x → slice_get locals j ≡ Some y → IsJoin p x y kind
    joins x y g k = let q : a ≡ x = cc (e, g) in let r : b ≡ y = cc (f, k) in subst (λ (z : Kind). IsJoin p z y kind) q (subst (λ (z : Kind). IsJoin p a z kind) r h)

set_past : (xs : List Kind) (j : ℕ) (k : Kind) → slice_get xs j ≡ None → xs ≡ set xs j k
set_past [] j k e = refl
set_past (x ∷ xs) zero k e = absurd cc
set_past (x ∷ xs) (suc j) k e = ap (λ (ys : List Kind). x ∷ ys) (set_past xs j k e)

set_same : (xs : List Kind) (j : ℕ) (k : Kind) → slice_get xs j ≡ Some k → xs ≡ set xs j k
set_same [] j k e = refl
set_same (x ∷ xs) zero k e = let q : x ≡ k = cc in ap (λ (y : Kind). y ∷ xs) q
set_same (x ∷ xs) (suc j) k e = ap (λ (ys : List Kind). x ∷ ys) (set_same xs j k e)

pub noted_past : (p : LinkedFile) (old locals : List Kind) (j : ℕ) → slice_get old j ≡ None → NotedAt p old locals j old
noted_past p old locals j e = record { kind = Any; is = set_past old j Any e; joins = λ a b f g. absurd cc }

pub noted_none : (p : LinkedFile) (old locals : List Kind) (j : ℕ) (a : Kind) → slice_get old j ≡ Some a → slice_get locals j ≡ None → NotedAt p old locals j old
noted_none p old locals j a e f = record { kind = a; is = set_same old j a e; joins = λ x y g h. absurd cc }
