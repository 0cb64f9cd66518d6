-- What a step leads to.
use Rattle.std.proofs.Common.{◌≡◌, ◌≢◌, ℕ, suc, ◌+◌, List, [], ◌∷◌, ◌++◌, Some, None, cond, drop, get_or, map, refl, sym, ap, ◌∙◌, subst, arith, eq-eqb}
use Rattle.std.specs.Prelude.{Bool, true, false, not, ◌&&◌, ltb, eqb, slice_get}
use Rattle.abc_verify_flow.specs.Walking.{IsTriedAt, Steps, Wrote, landing, targets_at, targets_of_instr}
use Rattle.abc_verify_flow.specs.declared.step.Step.{Step}
use Rattle.abc_verify_flow.specs.declared.step.Trial.{Trial}
use Rattle.abc_verify_flow.specs.declared.step.Trial.TheVariants.{Breaks, Steps as Does}
use Rattle.abc_link_names.specs.Linked.{LinkedFile}
use Rattle.abc_link_names.specs.declared.types.Kind.{Kind}
use Rattle.abc_link_names.specs.declared.types.Kind.TheVariants as kinds
use Rattle.abc_verify_typing.specs.Instructions.{local, opcode, second_local, targets}
use Rattle.abc_verify_typing.specs.Rows.{Shape, row_at}
use Rattle.abc_verify_typing.specs.declared.row.RowKind.TheVariants as rows
use Rattle.abc_verify_typing.specs.declared.row.Leads.{Leads}
use Rattle.abc_verify_typing.specs.declared.row.Leads.TheVariants.{Next, Branches, Jumps, Switches, Ends}
use Rattle.abc_verify_typing.specs.declared.row.Locals.{Locals}
use Rattle.abc_verify_typing.specs.declared.row.Locals.TheVariants.{Untouched, Reads, Sets, Walks}
use Rattle.abc_file_types.specs.declared.code.Instr.{Instr}
use Rattle.abc_verify_typing.specs.Effects.{Here, states_after, args, depth, kind_of_row, goes_on_after, kind_at, kind_of_source, leads, locals_after, needs, state_behind, scope_kind, scopes_after, stack_below}
use Rattle.abc_verify_typing.specs.Routines.{Routine}
use Rattle.abc_verify_typing.specs.Rules.{after_instr, after_row, at_instr, at_row, broken, early_rules, first_broken, has_locals, keeps, late_rules}
use Rattle.abc_verify_typing.specs.Typing.{IsFine}
use Rattle.abc_verify_typing.specs.declared.rule.VerifyRule.TheVariants as rules
use Rattle.abc_verify_typing.specs.declared.state.State.{State}
use Rattle.abc_verify_typing.proofs.Fine.{stands}
use Rattle.abc_verify_typing.specs.declared.row.Scoping.{Scoping}
use Rattle.abc_verify_typing.specs.declared.row.Scoping.TheVariants.{Stays, Pushes, Pops}
use Rattle.abc_verify.specs.Visits.{IsTried, given_kinds, leads_away, leads_on, scopes_after_row, step_by, written_by}
use Rattle.abc_verify.specs.declared.changes.Given.{Given}
use Rattle.abc_verify.proofs.Asking.{taken_at}

-- ---- the locals

split : (a b : Bool) → (a && b) ≡ true → b ≡ true
split true b e = e
split false b e = absurd cc

apart_by : (x y count : ℕ) → (ltb x count && (ltb y count && not (eqb x y))) ≡ true → x ≢ y
apart_by x y count e = λ q.
    let z : not (eqb x y) ≡ true = split (ltb y count) (not (eqb x y)) (split (ltb x count) (ltb y count && not (eqb x y)) e) in
    let w : eqb x y ≡ true = eq-eqb x y q in
    let v : not true ≡ true = ap not (sym w) ∙ z in
    cc

wrote : (h : Here) (s : State) (l : Locals) (count : ℕ) → has_locals l h.instr count ≡ true → Wrote (written_by h.instr l) s.locals (locals_after h s l)
wrote h s Untouched count e = refl
wrote h s Reads count e = refl
wrote h s (Sets source) count e = record { kind = kind_of_source h s source; is = refl }
wrote h s Walks count e = record { apart = apart_by (local h.instr) (second_local h.instr) count e; first = kind_of_row h.file rows.Object; second = kinds.Num; is = refl }

-- the locals that a step keeps by its rules
kept_locals : (h : Here) (s : State) → IsFine h.file h.method h.place s → slice_get h.method.code h.place ≡ Some h.instr → row_at (opcode h.instr) ≡ Some h.row → has_locals h.row.locals h.instr h.method.local_count ≡ true
kept_locals h s fine e f =
    let z = stands h.file h.method h.place s fine in
    let same : z.instr ≡ h.instr = let at = z.at in cc in
    let there : row_at (opcode h.instr) ≡ Some z.row = ap (λ (x : Instr). row_at (opcode x)) (sym same) ∙ z.is in
    let row : z.row ≡ h.row = cc in
    let kept : has_locals z.row.locals z.instr h.method.local_count ≡ true = z.kept rules.LocalIndex in
    subst (λ (x : Instr). has_locals h.row.locals x h.method.local_count ≡ true) same (subst (λ (r : Shape). has_locals r.locals z.instr h.method.local_count ≡ true) row kept)

-- ---- where it leads

-- the places that follow, by the row
leading : (h : Here) (l : Leads) (ts : List ℕ) → ts ≡ targets h.instr → leads h l ≡ cond (leads_on l) (suc h.place ∷ []) [] ++ cond (leads_away l) ts []
leading h Next ts e = let z : h.place + 1 ≡ suc h.place = omega arith in ap (λ (n : ℕ). n ∷ []) z
leading h Branches ts e = let z : h.place + 1 ≡ suc h.place = omega arith in ap (λ (n : ℕ). n ∷ targets h.instr) z ∙ ap (λ (us : List ℕ). suc h.place ∷ us) (sym e)
leading h Jumps ts e = sym e
leading h Switches ts e = sym e
leading h Ends ts e = refl

led : (h : Here) (s : State) (goes : Bool) (l : Leads) (ts : List ℕ) → ts ≡ targets h.instr
    → cond goes (map (λ t. (t, state_behind h s)) (leads h l)) [] ≡ map (landing (state_behind h s)) (cond (goes && leads_on l) (suc h.place ∷ []) [] ++ cond (goes && leads_away l) ts [])
led h s true l ts e = ap (map (landing (state_behind h s))) (leading h l ts e)
led h s false l ts e = refl

after_is : (h : Here) (s : State) → slice_get h.method.code h.place ≡ Some h.instr → row_at (opcode h.instr) ≡ Some h.row → after_instr h.file h.method h.place s (slice_get h.method.code h.place) ≡ states_after h s
after_is h s e f = ap (after_instr h.file h.method h.place s) e ∙ ap (after_row h.file h.method h.place h.instr s) f

stepped : (h : Here) (s n : State) (w : Step) → IsFine h.file h.method h.place s → slice_get h.method.code h.place ≡ Some h.instr → row_at (opcode h.instr) ≡ Some h.row
    → n ≡ state_behind h s → w ≡ step_by (goes_on_after (needs h) (stack_below h s)) h.row.leads (written_by h.instr h.row.locals) → Steps h.file h.method h.place s n w
stepped h s n w fine e f is leads_is =
    let goes = goes_on_after (needs h) (stack_below h s) in
    let by = step_by goes h.row.leads (written_by h.instr h.row.locals) in
    let named : targets_at h.method h.place ≡ targets h.instr = ap targets_of_instr e in
    let whole : Steps h.file h.method h.place s (state_behind h s) by = record {
      after = after_is h s e f ∙ led h s goes h.row.leads (targets_at h.method h.place) named;
      locals = wrote h s h.row.locals h.method.local_count (kept_locals h s fine e f);
    } in
    subst (λ (x : Step). Steps h.file h.method h.place s n x) (sym leads_is) (subst (λ (x : State). Steps h.file h.method h.place s x by) (sym is) whole)

-- ---- the state

scopes_are : (h : Here) (s : State) (o : Scoping) → scopes_after_row o (scope_kind h.file (kind_at (stack_below h s) 0)) s.scopes ≡ scopes_after h s o
scopes_are h s Stays = refl
scopes_are h s (Pushes is_with) = refl
scopes_are h s Pops = refl

-- the value below the arguments
below_args : (h : Here) (s : State) (a : ℕ) → a ≡ args h → get_or s.stack a kinds.Any ≡ kind_at (stack_below h s) 0
below_args h s a e = let z : a ≡ args h + 0 = omega (arith, e) in ap (λ (n : ℕ). get_or s.stack n kinds.Any) z ∙ taken_at s.stack (args h) 0

pub next_is : (h : Here) (s t n : State) (g : Given) (d a : ℕ) → given_kinds g ≡ map (kind_of_source h s) h.row.gives → d ≡ depth h → a ≡ args h → t ≡ record { stack = s.stack; scopes = s.scopes; locals = locals_after h s h.row.locals }
    → n.stack ≡ given_kinds g ++ drop d t.stack → n.scopes ≡ scopes_after_row h.row.scoping (scope_kind h.file (get_or t.stack a kinds.Any)) t.scopes → n.locals ≡ t.locals → n ≡ state_behind h s
next_is h s t n g d a gives deep at is x y z =
    let stack : n.stack ≡ map (kind_of_source h s) h.row.gives ++ drop (depth h) s.stack =
    x ∙ ap (λ (u : State). given_kinds g ++ drop d u.stack) is ∙ ap (λ (ks : List Kind). ks ++ drop d s.stack) gives ∙ ap (λ (m : ℕ). map (kind_of_source h s) h.row.gives ++ drop m s.stack) deep in
    let scopes : n.scopes ≡ scopes_after h s h.row.scoping =
    y
    ∙ ap (λ (u : State). scopes_after_row h.row.scoping (scope_kind h.file (get_or u.stack a kinds.Any)) u.scopes) is
    ∙ ap (λ (k : Kind). scopes_after_row h.row.scoping (scope_kind h.file k) s.scopes) (below_args h s a at)
    ∙ scopes_are h s h.row.scoping in
    let locals : n.locals ≡ locals_after h s h.row.locals = z ∙ ap (λ (u : State). u.locals) is in
    λ i. record { stack = stack i; scopes = scopes i; locals = locals i }

-- ---- the rules at a place

module _ (p : LinkedFile) (m : Routine) (i : ℕ) (s : State) where
  -- the code ends before it
  pub no_place : slice_get m.code i ≡ None → broken p m i s ≡ Some rules.OffEnd
  no_place e = ap (at_instr p m i (early_rules ++ late_rules) s) e

  -- its opcode is not run
  pub not_run : (instr : Instr) → slice_get m.code i ≡ Some instr → row_at (opcode instr) ≡ None → broken p m i s ≡ Some rules.NotRun
  not_run instr e f = ap (at_instr p m i (early_rules ++ late_rules) s) e ∙ ap (at_row p m i instr (early_rules ++ late_rules) s) f

-- there is an instruction, with its row
broken_is : (h : Here) (s : State) → slice_get h.method.code h.place ≡ Some h.instr → row_at (opcode h.instr) ≡ Some h.row → broken h.file h.method h.place s ≡ first_broken (keeps h s) (early_rules ++ late_rules)
broken_is h s e f = ap (at_instr h.file h.method h.place (early_rules ++ late_rules) s) e ∙ ap (at_row h.file h.method h.place h.instr (early_rules ++ late_rules) s) f

pub tried : (h : Here) (s n : State) (t : Trial) → slice_get h.method.code h.place ≡ Some h.instr → row_at (opcode h.instr) ≡ Some h.row → IsTried h s n t → IsTriedAt h.file h.method h.place s n t
tried h s n (Breaks r) e f k = broken_is h s e f ∙ k
tried h s n (Does w) e f k = let fine = broken_is h s e f ∙ k.0 in (fine, stepped h s n w fine e f k.1 k.2)
