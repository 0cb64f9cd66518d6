-- The examples of verifying: typings by a state for each place, refutations by following the code from its entry.
use Rattle.std.proofs.Common.{◌≡◌, ℕ, zero, suc, ◌+◌, List, [], ◌∷◌, inl, inr, Some, None, refl, sym, subst, arith}
use Rattle.std.specs.declared.option.Option.{Option}
use Rattle.abc_base_graphs.specs.Ways.{way}
use Rattle.abc_file_types.specs.declared.code.Instr.TheVariants.{Branch, Plain}
use Rattle.abc_link_names.specs.Linked.{LinkedFile}
use Rattle.abc_link_names.specs.declared.types.Kind.TheVariants.{Bool as Truth, Null}
use Rattle.abc_verify_typing.specs.declared.rule.VerifyRule.{VerifyRule}
use Rattle.abc_verify_typing.specs.declared.rule.VerifyRule.TheVariants as rules
use Rattle.abc_verify_typing.specs.declared.state.State.{State}
use Rattle.abc_verify_typing.specs.Examples.{RefutesInit, VerifyRuleExamples, TypedExamples, small}
use Rattle.abc_verify_typing.specs.Routines.{Routine, routine}
use Rattle.abc_verify_typing.specs.Rows.{row_at, table_of_rows}
use Rattle.abc_verify_typing.specs.Rules.{broken, follows}
use Rattle.abc_verify_typing.specs.Typing.{Broken, Derivable, Entry, HasOneShape, HasTyping, In, Next, Refutes, Unmerged, entry}
use Rattle.abc_verify_typing.proofs.Order.{state_self}

-- ---- a state for each place, or none: what follows one is just what stands at the place that it leads to

abbrev state_at : List (Option State) → ℕ → Option State
state_at [] i = None
state_at (s ∷ ss) zero = s
state_at (s ∷ ss) (suc i) = state_at ss i

abbrev LeadTo : List (Option State) → List (ℕ × State) → Type 0
LeadTo all [] = Unit {0}
LeadTo all (x ∷ xs) = (state_at all x.0 ≡ Some x.1) × LeadTo all xs

abbrev Stands : LinkedFile → Routine → List (Option State) → ℕ → Option State → Type 0
Stands p m all i None = Unit {0}
Stands p m all i (Some s) = (broken p m i s ≡ None) × LeadTo all (follows p m i s)

abbrev AllStand : LinkedFile → Routine → List (Option State) → ℕ → List (Option State) → Type 0
AllStand p m all i [] = Unit {0}
AllStand p m all i (s ∷ ss) = Stands p m all i s × AllStand p m all (i + 1) ss

stands_at : (p : LinkedFile) (m : Routine) (all : List (Option State)) (a : ℕ) (ss : List (Option State)) (k i : ℕ) (s : State) → AllStand p m all a ss → a + k ≡ i → state_at ss k ≡ Some s → Stands p m all i (Some s)
stands_at p m all a [] k i s h n e = absurd cc
stands_at p m all a (x ∷ ss) zero i s h n e = let here : a ≡ i = omega (arith, n) in subst (λ (j : ℕ). Stands p m all j (Some s)) here (subst (Stands p m all a) e h.0)
stands_at p m all a (x ∷ ss) (suc k) i s h n e = stands_at p m all (a + 1) ss k i s h.1 (omega (arith, n)) e

led : (all : List (Option State)) (xs : List (ℕ × State)) (t : ℕ) (n : State) → LeadTo all xs → In (t, n) xs → state_at all t ≡ Some n
led all (x ∷ xs) t n h (inl e) = subst (λ (y : ℕ × State). state_at all y.0 ≡ Some y.1) (sym e) h.0
led all (x ∷ xs) t n h (inr later) = led all xs t n h.1 later
led all [] t n h none = absurd none

pub typed_by : (p : LinkedFile) (m : Routine) (all : List (Option State)) → state_at all 0 ≡ Some (entry m) → AllStand p m all 0 all → HasTyping p m
typed_by p m all start h = (
  state_at all,
  record {
    start = (entry m, start, state_self p (entry m));
    fine = λ i s e. (stands_at p m all 0 all i i s h (omega arith) e).0;
    follows = λ i s t n e f. (n, led all (follows p m i s) t n (stands_at p m all 0 all i i s h (omega arith) e).1 f, state_self p n);
  },
)

-- the state of the entry, with these values on the stack
abbrev begun : LinkedFile → State
begun l = entry (routine l 0)

abbrev with_true : LinkedFile → State
with_true l = record (begun l) { stack = Truth ∷ [] }

abbrev with_this : LinkedFile → State
with_this l = record (begun l) { stack = (begun l).locals }

pub typed_examples : TypedExamples
unfolding row_at table_of_rows
typed_examples = record {
  returns = let l = small (Plain 0x47 ∷ []) in typed_by l (routine l 0) (Some (begun l) ∷ []) refl ((refl, tt), tt);
  loops = let l = small (Plain 0x09 ∷ Plain 0xd0 ∷ Plain 0x29 ∷ Branch 0x10 0 ∷ []) in typed_by l (routine l 0) (Some (begun l) ∷ Some (begun l) ∷ Some (with_this l) ∷ Some (begun l) ∷ []) refl ((refl, (refl, tt)), ((refl, (refl, tt)), ((refl, (refl, tt)), ((refl, (refl, tt)), tt))));
  meets = let l = small (Plain 0x26 ∷ Branch 0x11 3 ∷ Plain 0x02 ∷ Plain 0x47 ∷ []) in typed_by l (routine l 0) (Some (begun l) ∷ Some (with_true l) ∷ Some (begun l) ∷ Some (begun l) ∷ []) refl ((refl, (refl, tt)), ((refl, (refl, (refl, tt))), ((refl, (refl, tt)), ((refl, tt), tt))));
  dead_code = let l = small (Plain 0x47 ∷ Plain 0x29 ∷ []) in typed_by l (routine l 0) (Some (begun l) ∷ []) refl ((refl, tt), tt);
}

-- ---- a way through code: of what follows each place, the one of this number; the last step stands first

abbrev pub pick : {X : Type 0} → ℕ → List X → Option X
pick n [] = None
pick zero (x ∷ xs) = Some x
pick (suc n) (x ∷ xs) = pick n xs

abbrev if_fine : Option VerifyRule → Option (ℕ × State) → Option (ℕ × State)
if_fine None next = next
if_fine (Some r) next = None

abbrev step_from : LinkedFile → Routine → ℕ → Option (ℕ × State) → Option (ℕ × State)
step_from p m n None = None
step_from p m n (Some x) = if_fine (broken p m x.0 x.1) (pick n (follows p m x.0 x.1))

abbrev walk : LinkedFile → Routine → List ℕ → Option (ℕ × State)
walk p m [] = Some (0, entry m)
walk p m (n ∷ ns) = step_from p m n (walk p m ns)

abbrev told_by : ℕ → Option VerifyRule → Option (ℕ × VerifyRule)
told_by i None = None
told_by i (Some r) = Some (i, r)

abbrev told_at : LinkedFile → Routine → Option (ℕ × State) → Option (ℕ × VerifyRule)
told_at p m None = None
told_at p m (Some x) = told_by x.0 (broken p m x.0 x.1)

-- ---- what is so of it

abbrev Reached : LinkedFile → Routine → Option (ℕ × State) → Type 0
Reached p m None = Unit {0}
Reached p m (Some x) = Derivable p m x.0 x.1

abbrev Told : LinkedFile → Routine → Option (ℕ × VerifyRule) → Type 0
Told p m None = Unit {0}
Told p m (Some x) = Refutes p m x.0 x.1

abbrev Picked : List (ℕ × State) → Option (ℕ × State) → Type 0
Picked xs None = Unit {0}
Picked xs (Some x) = In x xs

behind : (y : ℕ × State) (ys : List (ℕ × State)) (o : Option (ℕ × State)) → Picked ys o → Picked (y ∷ ys) o
behind y ys None h = tt
behind y ys (Some x) h = inr h

picked : (n : ℕ) (xs : List (ℕ × State)) → Picked xs (pick n xs)
picked n [] = tt
picked zero (x ∷ xs) = inl refl
picked (suc n) (x ∷ xs) = behind x xs (pick n xs) (picked n xs)

steps_on : (p : LinkedFile) (m : Routine) (i : ℕ) (s : State) → Derivable p m i s → (b : Option VerifyRule) → broken p m i s ≡ b → (o : Option (ℕ × State)) → Picked (follows p m i s) o → Reached p m (if_fine b o)
steps_on p m i s d None e None h = tt
steps_on p m i s d None e (Some x) h = Next i s x.0 x.1 d e h
steps_on p m i s d (Some r) e o h = tt

step_reaches : (p : LinkedFile) (m : Routine) (n : ℕ) (o : Option (ℕ × State)) → Reached p m o → Reached p m (step_from p m n o)
step_reaches p m n None d = tt
step_reaches p m n (Some x) d = steps_on p m x.0 x.1 d (broken p m x.0 x.1) refl (pick n (follows p m x.0 x.1)) (picked n (follows p m x.0 x.1))

walk_reaches : (p : LinkedFile) (m : Routine) (ns : List ℕ) → Reached p m (walk p m ns)
walk_reaches p m [] = Entry
walk_reaches p m (n ∷ ns) = step_reaches p m n (walk p m ns) (walk_reaches p m ns)

derived : (p : LinkedFile) (m : Routine) (ns : List ℕ) (i : ℕ) (s : State) → walk p m ns ≡ Some (i, s) → Derivable p m i s
derived p m ns i s e = subst (Reached p m) e (walk_reaches p m ns)

tells : (p : LinkedFile) (m : Routine) (i : ℕ) (s : State) → Derivable p m i s → (b : Option VerifyRule) → broken p m i s ≡ b → Told p m (told_by i b)
tells p m i s d None e = tt
tells p m i s d (Some r) e = Broken s r d e

told : (p : LinkedFile) (m : Routine) (o : Option (ℕ × State)) → Reached p m o → Told p m (told_at p m o)
told p m None d = tt
told p m (Some x) d = tells p m x.0 x.1 d (broken p m x.0 x.1) refl

-- the way comes to the place, where the rule is the first that is broken
refuted : (l : LinkedFile) (ns : List ℕ) (i : ℕ) (r : VerifyRule) → told_at l (routine l 0) (walk l (routine l 0) ns) ≡ Some (i, r) → RefutesInit l i r
refuted l ns i r e = subst (Told l (routine l 0)) e (told l (routine l 0) (walk l (routine l 0) ns) (walk_reaches l (routine l 0) ns))

-- ---- two ways to the return: over pushnull, and by the branch

abbrev two_ways : LinkedFile
two_ways = small (Plain 0x26 ∷ Branch 0x11 3 ∷ Plain 0x20 ∷ Plain 0x47 ∷ [])

abbrev with_null : State
with_null = record (entry (routine two_ways 0)) { stack = Null ∷ [] }

other_shape : HasOneShape with_null (entry (routine two_ways 0)) → ⊥
other_shape h = let e : ◌≡◌ {A = ℕ} 1 0 = h.stack in omega (arith, e)

unmerged : RefutesInit two_ways 3 rules.Merge
unfolding row_at table_of_rows way
unmerged = Unmerged with_null (entry (routine two_ways 0)) (derived _ _ (0 ∷ 0 ∷ 0 ∷ []) 3 with_null refl) (derived _ _ (1 ∷ 0 ∷ []) 3 (entry (routine two_ways 0)) refl) other_shape refl

pub rule_examples : VerifyRuleExamples
unfolding row_at table_of_rows way
rule_examples = record {
  not_run = refuted _ [] _ _ refl;
  pool_index = refuted _ [] _ _ refl;
  name_form = refuted _ [] _ _ refl;
  stack_under = refuted _ [] _ _ refl;
  stack_over = refuted _ (0 ∷ 0 ∷ []) _ _ refl;
  scope_under = refuted _ [] _ _ refl;
  scope_over = refuted _ (0 ∷ 0 ∷ 0 ∷ []) _ _ refl;
  local_index = refuted _ [] _ _ refl;
  off_end = refuted _ [] _ _ refl;
  switch_off_end = refuted _ (0 ∷ []) _ _ refl;
  merge = unmerged;
  not_space = refuted _ (0 ∷ 0 ∷ []) _ _ refl;
  not_object = refuted _ (0 ∷ []) _ _ refl;
  slot_index = refuted _ (0 ∷ []) _ _ refl;
  scope_index = refuted _ [] _ _ refl;
  not_here = refuted _ [] _ _ refl;
  not_index = refuted _ (0 ∷ []) _ _ refl;
  parameters = refuted _ [] _ _ refl;
  flags = refuted _ [] _ _ refl;
}
