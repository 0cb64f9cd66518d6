-- Two states of one shape have a least state above both; the first, or one that has less to rise.
use Rattle.std.proofs.Common.{◌≡◌, ℕ, zero, suc, ◌+◌, ◌*◌, ◌≤◌, ◌<◌, List, [], ◌∷◌, length, refl, sym, ap, ◌∙◌, subst, arith, ◌⊎◌, inl, inr}
use Rattle.abc_verify_typing.specs.Lists.{Each2}
use Rattle.abc_link_names.specs.declared.types.Kind.{Kind}
use Rattle.abc_link_names.specs.declared.types.Kind.TheVariants.{Any, Undef, Null, Num, Bool as Truth, Text, Space, Obj}
use Rattle.abc_link_names.specs.Linked.{LinkedFile}
use Rattle.abc_verify_typing.proofs.Good.{IsGood}
use Rattle.abc_link_names.specs.Kinds.{IsAtMost}
use Rattle.abc_verify_typing.specs.Height.{height}
use Rattle.abc_verify_typing.proofs.Joins.{kind_join}
use Rattle.abc_verify_typing.specs.Routines.{Routine}
use Rattle.abc_verify_typing.specs.declared.state.Scope.{Scope}
use Rattle.abc_verify_typing.specs.declared.state.State.{State}
use Rattle.abc_verify_typing.specs.Typing.{ScopeLe, StateLe, HasOneFlag, HasOneShape, IsJoinState}
use Rattle.abc_verify_typing.specs.Standing.{IsWithinSizes}
use Rattle.abc_verify_typing.specs.Rank.{tally, scope_height, rank_of_state, top_rank, ListJoined, ItemJoined}

list_join : {X : Type 0} (R : X → X → Type 0) (ok : X → X → Type 0) (f : X → ℕ) → ((x y : X) → ok x y → (j : X) × ItemJoined R f x y j) → (xs ys : List X) → Each2 ok xs ys → (js : List X) × ListJoined R f xs ys js
list_join R ok f one [] [] h = ([], record { left = tt; right = tt; least = λ ks p q. p; rises = inl refl })
list_join R ok f one (x ∷ xs) [] h = absurd h
list_join R ok f one [] (y ∷ ys) h = absurd h
list_join {X = X} R ok f one (x ∷ xs) (y ∷ ys) h = both (one x y h.0) (list_join R ok f one xs ys h.1)
  where
    least : (j : X) (js : List X) → ItemJoined R f x y j → ListJoined R f xs ys js → (ks : List X) → Each2 R (x ∷ xs) ks → Each2 R (y ∷ ys) ks → Each2 R (j ∷ js) ks
    least j js a b [] p q = absurd p
    least j js a b (k ∷ ks) p q = (a.least k p.0 q.0, b.least ks p.1 q.1)

    rises : (j : X) (js : List X) → ItemJoined R f x y j → ListJoined R f xs ys js → (j ∷ js ≡ x ∷ xs) ⊎ (tally f (j ∷ js) < tally f (x ∷ xs))
    rises j js a b = elim a.rises [
      | inl e ↦ elim b.rises [ inl d ↦ inl (ap (λ (z : X). z ∷ js) e ∙ ap (λ (zs : List X). x ∷ zs) d) | inr lt ↦ inr (let w = ap f e in omega (arith, w, lt)) ]
      | inr lt ↦ elim b.rises [ inl d ↦ inr (let w = ap (tally f) d in omega (arith, w, lt)) | inr lu ↦ inr (omega (arith, lt, lu)) ]
    ]

    both : ((j : X) × ItemJoined R f x y j) → ((js : List X) × ListJoined R f xs ys js) → (js : List X) × ListJoined R f (x ∷ xs) (y ∷ ys) js
    both a b = (a.0 ∷ b.0, record { left = (a.1.left, b.1.left); right = (a.1.right, b.1.right); least = least a.0 b.0 a.1 b.1; rises = rises a.0 b.0 a.1 b.1 })

abbrev Always : Kind → Kind → Type 0
Always x y = Unit {0}

always : (xs ys : List Kind) → length xs ≡ length ys → Each2 Always xs ys
always [] [] e = tt
always (x ∷ xs) (y ∷ ys) e = (tt, always xs ys (omega arith))
always [] (y ∷ ys) e = absurd (omega arith)
always (x ∷ xs) [] e = absurd (omega arith)

module _ (p : LinkedFile) (t : IsGood p) (n : ℕ) (pos : 0 < n) (long : length p.parts ≤ n) where
  one_kind : (x y : Kind) → Always x y → (j : Kind) × ItemJoined (IsAtMost p) (height n) x y j
  one_kind x y h = let r = kind_join p t n pos long x y in (r.0, record { left = r.1.join.left; right = r.1.join.right; least = r.1.join.least; rises = r.1.rises })

  one_scope : (x y : Scope) → HasOneFlag x y → (j : Scope) × ItemJoined (ScopeLe p) (scope_height n) x y j
  one_scope x y e =
      let r = kind_join p t n pos long x.kind y.kind in
      let j : Scope = record { kind = r.0; is_with = x.is_with } in
      (j, record { left = record { kind = r.1.join.left; flag = refl }; right = record { kind = r.1.join.right; flag = sym e }; least = λ k a b. record { kind = r.1.join.least k.kind a.kind b.kind; flag = a.flag }; rises = elim r.1.rises [ inl q ↦ inl (ap (λ (k : Kind). record { kind = k; is_with = x.is_with }) q) | inr lt ↦ inr lt ] })

  -- the second is at most the first, or their join has less to rise
  pub state_join : (s u : State) → HasOneShape s u → StateLe p u s ⊎ ((j : State) × IsJoinState p s u j × (rank_of_state n j < rank_of_state n s))
  state_join s u h = go (list_join _ _ _ one_kind s.stack u.stack (always _ _ h.stack)) (list_join _ _ _ one_scope s.scopes u.scopes h.scopes) (list_join _ _ _ one_kind s.locals u.locals (always _ _ h.locals))
    where
      made : (a : (js : List Kind) × ListJoined (IsAtMost p) (height n) s.stack u.stack js) (b : (js : List Scope) × ListJoined (ScopeLe p) (scope_height n) s.scopes u.scopes js) (c : (js : List Kind) × ListJoined (IsAtMost p) (height n) s.locals u.locals js) → IsJoinState p s u (record { stack = a.0; scopes = b.0; locals = c.0 })
      made a b c = record { left = record { stack = a.1.left; scopes = b.1.left; locals = c.1.left }; right = record { stack = a.1.right; scopes = b.1.right; locals = c.1.right }; least = λ k x y. record { stack = a.1.least k.stack x.stack y.stack; scopes = b.1.least k.scopes x.scopes y.scopes; locals = c.1.least k.locals x.locals y.locals } }

      go : (a : (js : List Kind) × ListJoined (IsAtMost p) (height n) s.stack u.stack js) (b : (js : List Scope) × ListJoined (ScopeLe p) (scope_height n) s.scopes u.scopes js) (c : (js : List Kind) × ListJoined (IsAtMost p) (height n) s.locals u.locals js) → StateLe p u s ⊎ ((j : State) × IsJoinState p s u j × (rank_of_state n j < rank_of_state n s))
      go a b c = elim a.1.rises [
        | inr lt ↦ inr (
          record { stack = a.0; scopes = b.0; locals = c.0 },
          made a b c,
          elim b.1.rises [
            | inr lu ↦ elim c.1.rises [ inr lv ↦ omega (arith, lt, lu, lv) | inl g ↦ let w = ap (tally (height n)) g in omega (arith, lt, lu, w) ]
            | inl f ↦ let v = ap (tally (scope_height n)) f in elim c.1.rises [ inr lv ↦ omega (arith, lt, v, lv) | inl g ↦ let w = ap (tally (height n)) g in omega (arith, lt, v, w) ]
          ],
        )
        | inl e ↦ let x = ap (tally (height n)) e in elim b.1.rises [
          | inr lu ↦ inr (record { stack = a.0; scopes = b.0; locals = c.0 }, made a b c, elim c.1.rises [ inr lv ↦ omega (arith, x, lu, lv) | inl g ↦ let w = ap (tally (height n)) g in omega (arith, x, lu, w) ])
          | inl f ↦ let v = ap (tally (scope_height n)) f in elim c.1.rises [
            | inr lv ↦ inr (record { stack = a.0; scopes = b.0; locals = c.0 }, made a b c, omega (arith, x, v, lv))
            | inl g ↦ inl (record { stack = subst (λ z. Each2 (IsAtMost p) u.stack z) e a.1.right; scopes = subst (λ z. Each2 (ScopeLe p) u.scopes z) f b.1.right; locals = subst (λ z. Each2 (IsAtMost p) u.locals z) g c.1.right })
          ]
        ]
      ]

  height_most : (k : Kind) → height n k ≤ n + 2
  height_most Any = omega arith
  height_most Undef = omega arith
  height_most Num = omega arith
  height_most Truth = omega arith
  height_most Text = omega arith
  height_most Space = omega arith
  height_most (Obj l) = omega arith
  height_most Null = omega arith

  tally_most : {X : Type 0} (f : X → ℕ) → ((x : X) → f x ≤ n + 2) → (xs : List X) (size : ℕ) → length xs ≤ size → tally f xs ≤ (n + 2) * size
  tally_most f h [] size le = omega arith
  tally_most f h (x ∷ xs) zero le = absurd (omega arith)
  tally_most f h (x ∷ xs) (suc size) le = let a = h x in let b = tally_most f h xs size (omega arith) in grind (arith, a, b)

  pub rank_most : (m : Routine) (s : State) → IsWithinSizes m s → rank_of_state n s ≤ top_rank n m
  rank_most m s z =
      let a = tally_most (height n) height_most s.stack m.max_stack z.stack in
      let b = tally_most (scope_height n) (λ x. height_most x.kind) s.scopes m.scope_size z.scopes in
      let c = tally_most (height n) height_most s.locals m.local_count (let e = z.locals in omega arith) in
      omega (arith, a, b, c)
