-- What can be derived keeps to the sizes, and leads to places inside.
use Rattle.std.proofs.Common.{◌≡◌, ℕ, ◌+◌, ◌-◌, ◌≤◌, ◌<◌, List, [], ◌∷◌, ◌++◌, length, drop, refl, sym, ap, ◌∙◌, subst, arith, ◌⊎◌, inl, inr, length-append, length-drop, length-set}
use Rattle.std.specs.Prelude.{Bool, true, false, map, ◌||◌, ltb, replicate}
use Rattle.std.proofs.lemmas.Bool.{leb-true, ltb-true}
use Rattle.std.proofs.lemmas.List.{length-map, length-take, length-replicate}
use Rattle.abc_verify_typing.proofs.Lists.{Each2-length}
use Rattle.abc_link_names.specs.declared.types.Kind.TheVariants.{Undef}
use Rattle.abc_link_names.specs.Linked.{LinkedFile}
use Rattle.abc_verify_typing.specs.Routines.{Routine}
use Rattle.abc_verify_typing.specs.declared.catch.Catch.{Catch}
use Rattle.abc_verify_typing.specs.declared.state.Scope.{Scope}
use Rattle.abc_verify_typing.specs.declared.state.State.{State}
use Rattle.abc_verify_typing.specs.declared.rule.VerifyRule.TheVariants.{StackOver, ScopeOver, OffEnd}
use Rattle.abc_verify_typing.specs.declared.row.Locals.{Locals}
use Rattle.abc_verify_typing.specs.declared.row.Locals.TheVariants.{Untouched, Reads, Sets, Walks}
use Rattle.abc_verify_typing.specs.declared.row.Scoping.{Scoping}
use Rattle.abc_verify_typing.specs.declared.row.Scoping.TheVariants.{Stays, Pushes, Pops}
use Rattle.abc_verify_typing.specs.Effects.{Here, depth, kind_of_source, state_behind, scopes_after, locals_after, states_after, leads, covering, caught_state, needs, stack_below, goes_on_after, scope_kind, kind_at}
use Rattle.abc_verify_typing.specs.Rules.{is_without_catches, may_push, all_below, handler_target}
use Rattle.abc_verify_typing.specs.Typing.{In, Follows, IsFine, Derivable, Entry, Next, Join, entry}
use Rattle.abc_verify_typing.specs.Standing.{here_with, Stands, IsWithinSizes}
use Rattle.abc_verify_typing.proofs.Member.{in_append, in_map, in_cond, and_left, and_right}
use Rattle.abc_verify_typing.proofs.Fine.{stands}

scopes_sized : (h : Here) (s : State) (scoping : Scoping) (size : ℕ) → length s.scopes ≤ size → may_push scoping (length s.scopes) size ≡ true → length (scopes_after h s scoping) ≤ size
scopes_sized h s Stays size le e = le
scopes_sized h s (Pushes w) size le e = let x : Scope = record { kind = scope_kind h.file (kind_at (stack_below h s) 0); is_with = w } in let q = ltb-true (length s.scopes) size e in let r = length-append s.scopes (x ∷ []) in omega (arith, q, r)
scopes_sized h s Pops size le e = let q = length-take (length s.scopes - 1) s.scopes in omega arith

locals_sized : (h : Here) (s : State) (locals : Locals) → length (locals_after h s locals) ≡ length s.locals
locals_sized h s Untouched = refl
locals_sized h s Reads = refl
locals_sized h s (Sets source) = length-set _ _ _
locals_sized h s Walks = length-set _ _ _ ∙ length-set _ _ _

some_handler : (handler : Catch) (hs : List Catch) (b : Bool) → In handler hs → (b || is_without_catches hs) ≡ true → b ≡ true
some_handler handler hs true h e = refl
some_handler handler [] false h e = absurd h
some_handler handler (x ∷ hs) false h e = absurd cc

pub next_sized : (p : LinkedFile) (m : Routine) (i : ℕ) (s : State) → (h : Stands p m i s) → IsWithinSizes m s → IsWithinSizes m (state_behind (here_with p m i h.instr h.row) s)
next_sized p m i s h z =
    let at = here_with p m i h.instr h.row in
    let over : (length s.stack - depth at) + length h.row.gives ≤ m.max_stack = leb-true _ _ (and_left _ _ (h.kept StackOver)) in
    let given = length-map h.row.gives (kind_of_source at s) in
    let both = length-append (map (kind_of_source at s) h.row.gives) (drop (depth at) s.stack) in
    let left = length-drop (depth at) s.stack in
    record { stack = omega (arith, over, given, both, left); scopes = scopes_sized at s h.row.scoping m.scope_size z.scopes (h.kept ScopeOver); locals = locals_sized at s h.row.locals ∙ z.locals }

pub caught_sized : (p : LinkedFile) (m : Routine) (i : ℕ) (s : State) → (h : Stands p m i s) → IsWithinSizes m s → (handler : Catch) → In handler (covering m i) → IsWithinSizes m (caught_state s handler).1
caught_sized p m i s h z handler k = record { stack = ltb-true _ _ (some_handler handler (covering m i) (ltb 0 m.max_stack) k (and_right _ _ (h.kept StackOver))); scopes = omega arith; locals = z.locals }

-- what follows is what the instruction leaves, or what a handler gets
pub record Ran (p : LinkedFile) (m : Routine) (i : ℕ) (s : State) (h : Stands p m i s) (t : ℕ) (n : State) : Type 0 where
  pub lead : In t (leads (here_with p m i h.instr h.row) h.row.leads)
  pub goes : goes_on_after (needs (here_with p m i h.instr h.row)) (stack_below (here_with p m i h.instr h.row) s) ≡ true
  pub is : n ≡ state_behind (here_with p m i h.instr h.row) s

pub record Threw (m : Routine) (i : ℕ) (s : State) (t : ℕ) (n : State) : Type 0 where
  pub handler : Catch
  pub covers : In handler (covering m i)
  pub target : t ≡ handler.target
  pub is : n ≡ (caught_state s handler).1

pub split : (p : LinkedFile) (m : Routine) (i : ℕ) (s : State) (t : ℕ) (n : State) (h : Stands p m i s) → Follows p m i s t n → Ran p m i s h t n ⊎ Threw m i s t n
split p m i s t n h f =
    let at = here_with p m i h.instr h.row in
    elim (in_append (t, n) (states_after at s) (map (caught_state s) (covering m i)) (subst (λ xs. In (t, n) xs) h.follows_is f)) [
      | inl k ↦ (let c = in_cond (t, n) _ _ k in let r = in_map _ (t, n) _ c.1 in inl (record { lead = subst (λ x. In x (leads at h.row.leads)) (sym (ap (λ (z : ℕ × State). z.0) r.2)) r.1; goes = c.0; is = ap (λ (z : ℕ × State). z.1) r.2 }))
      | inr k ↦ (let r = in_map (caught_state s) (t, n) _ k in inr (record { handler = r.0; covers = r.1; target = ap (λ (z : ℕ × State). z.0) r.2; is = ap (λ (z : ℕ × State). z.1) r.2 }))
    ]

entry_sized : (m : Routine) → IsWithinSizes m (entry m)
entry_sized m =
    let all = m.filled ++ replicate m.local_count Undef in
    let a = length-take m.local_count all in
    let b = length-append m.filled (replicate m.local_count Undef) in
    let c = length-replicate m.local_count Undef in
    record { stack = omega arith; scopes = omega arith; locals = omega (arith, a, b, c) }

pub derivable_sized : (p : LinkedFile) (m : Routine) (i : ℕ) (s : State) → Derivable p m i s → IsWithinSizes m s
derivable_sized p m i s Entry = entry_sized m
derivable_sized p m i s (Next i' s' t' n' d fine f) =
    let h = stands p m i' s' fine in
    let z = derivable_sized p m i' s' d in
    elim (split p m i' s' t' n' h f) [ inl r ↦ subst (λ x. IsWithinSizes m x) (sym r.is) (next_sized p m i' s' h z) | inr r ↦ subst (λ x. IsWithinSizes m x) (sym r.is) (caught_sized p m i' s' h z r.handler r.covers) ]
derivable_sized p m i s (Join i' s' t' j' ds dt join) =
    let z = derivable_sized p m i' s' ds in
    let a = Each2-length _ _ _ join.left.stack in
    let b = Each2-length _ _ _ join.left.scopes in
    let c = Each2-length _ _ _ join.left.locals in
    record { stack = (let q = z.stack in omega (arith, a, q)); scopes = (let q = z.scopes in omega (arith, b, q)); locals = sym c ∙ z.locals }

below_in : (xs : List ℕ) (n t : ℕ) → all_below xs n ≡ true → In t xs → t < n
below_in [] n t e h = absurd h
below_in (x ∷ xs) n t e (inl q) = let l = ltb-true x n (and_left _ _ e) in omega arith
below_in (x ∷ xs) n t e (inr h) = below_in xs n t (and_right _ _ e) h

in_targets : (h : Catch) (hs : List Catch) → In h hs → In h.target (map handler_target hs)
in_targets h [] k = absurd k
in_targets h (x ∷ hs) (inl q) = inl (ap handler_target q)
in_targets h (x ∷ hs) (inr k) = inr (in_targets h hs k)

pub follows_inside : (p : LinkedFile) (m : Routine) (i : ℕ) (s : State) (t : ℕ) (n : State) → IsFine p m i s → Follows p m i s t n → t < length m.code
follows_inside p m i s t n fine f =
    let h = stands p m i s fine in
    let e = h.kept OffEnd in
    elim (split p m i s t n h f) [ inl r ↦ below_in _ _ t (and_left _ _ e) r.lead | inr r ↦ (subst (λ k. k < length m.code) (sym r.target) (below_in (map handler_target (covering m i)) (length m.code) r.handler.target (and_right _ _ e) (in_targets r.handler (covering m i) r.covers))) ]
