-- A machine that is opened is in the first state of the meaning, for all formulas of the same names, and its run begins there; then
-- it can be called, where it is done.
use Rattle.std.proofs.Common.{◌≡◌, ◌≢◌, ℕ, ◌+◌, ◌-◌, ◌<◌, ◌^◌, List, [], length, replicate, Bool, false, refl, sym, ap, ◌∙◌, subst, arith}
use Rattle.std.proofs.lemmas.List.{append-nil}
use Rattle.std.specs.Prelude.{None, Some}
use Rattle.std.specs.Io.KnownBytes.{append_known}
use Rattle.std.specs.declared.option.Option.{Option}
use Rattle.abc_base.specs.Hosts.{AreFormulas}
use Rattle.abc_base.specs.declared.formula.Formula.{Formula}
use Rattle.abc_meaning_sound.proofs.Left.{runs_left}
use Rattle.abc_meaning.specs.Calls.{replies_for, silent}
use Rattle.abc_run_calls.specs.Arguments.{HasArgumentRoom}
use Rattle.abc_heap_store.specs.Heap.{Heap}
use Rattle.abc_heap_store.specs.declared.records.Limit.{Limit}
use Rattle.abc_heap_store.specs.declared.records.Limits.{Limits}
use Rattle.abc_meaning.specs.Logs.{log, log_if, logs_for, steps, steps_for, steps_if}
use Rattle.abc_machine.specs.Ended.{RunsAs}
use Rattle.abc_machine.specs.Logged.{LogsRun}
use Rattle.abc_machine.specs.Machines.{CanBeginRun, CanGoOn, IsOpened, MachineKeeps, Opened, kept_world, world_run}
use Rattle.abc_machine.proofs.TextsKept.{texts_self}
use Rattle.abc_machine.specs.Runs.{IsRunAt, LeavesWorld, outer, machine_after}
use Rattle.abc_machine.specs.declared.ends.End.{End}
use Rattle.abc_machine.specs.declared.ends.End.TheVariants as ends
use Rattle.abc_machine.proofs.Keeping.{Drops, can_go_on, kept_is}
use Rattle.abc_meaning.specs.ThrowLaws.{IsVerifiedSetting}
use Rattle.abc_meaning.specs.Meaning.{Meaning, first_state, first_world, meaning, meaning_if, ran, runs_for, too_small}
use Rattle.abc_meaning.specs.Sound.{WorldSound}
use Rattle.abc_meaning.specs.Throwing.{Machine}
use Rattle.abc_objects.specs.Opening.{formula_names, opening}
use Rattle.abc_run_finish.specs.Begun.{IsBegun}
use Rattle.abc_meaning.specs.Openings.{setting}
use Rattle.abc_link_names.specs.Linked.{IsLinkedFile, LinkedFile}
use Rattle.abc_machine.proofs.Beginning.{limits_kept, machine_first, reached_first}
use Rattle.abc_run_state.specs.Outer.{Outer}
use Rattle.abc_run_state.specs.declared.state.State.{State}
use Rattle.abc_run_finish.specs.Steps.{IsReached, machine}
use Rattle.abc_verify.proofs.Methods.{all_typed}
use Rattle.abc_verify.specs.Typed.{AllTyped, IsVerified as IsChecked}
use Rattle.abc_meaning.specs.World.{World}
use Rattle.abc_meaning.specs.Setting.{Setting}

begun_for : (l : LinkedFile) (fs gs : List Formula) (limits : Limits) (s : State) → formula_names fs ≡ formula_names gs → IsBegun (setting l fs) limits s → IsBegun (setting l gs) limits s
begun_for l fs gs limits s e b = record {
  fits = ap (λ (names : List (List ℕ)). too_small (opening l names limits)) (sym e) ∙ b.fits;
  heap = b.heap ∙ ap (λ (names : List (List ℕ)). opening l names limits) e;
  started = b.started;
  frames = b.frames;
  given = b.given;
  room = b.room;
}

pub names_kept : (p : Setting) (limits : Limits) (s : State) → IsBegun p limits s → s.arena.formulas ≡ formula_names p.formulas
names_kept p limits s b = ap (λ (h : Heap). h.formulas) b.heap

pub can_begin : (l : LinkedFile) (fs : List Formula) (limits : Limits) (s : State) → IsBegun (setting l fs) limits s → CanBeginRun l s
can_begin l fs limits s b gs e = subst (λ (x : Limits). IsBegun (setting l gs) x s) (sym (limits_kept (setting l fs) limits s b)) (begun_for l fs gs limits s (sym (names_kept (setting l fs) limits s b) ∙ sym e) b)

-- ---- the state that a run begins with is reached

pub append_none : (known : Option (List ℕ)) → known ≡ append_known known []
append_none None = refl
append_none (Some bs) = ap Some (sym (append-nil bs))

pub verified_setting : (l : LinkedFile) (fs : List Formula) → IsLinkedFile l → AllTyped l → AreFormulas fs → IsVerifiedSetting (setting l fs)
verified_setting l fs linked typed host = record { fits = linked.fits; linked = linked; typed = typed; host = host }

-- no step was taken
pub at_start : (l : LinkedFile) (fs : List Formula) (s : State) (fuel : ℕ) (x : Option (List ℕ)) → IsReached l (record { formulas = fs; wrote = [] }) s → IsRunAt l (record { formulas = fs; first = machine s (record { formulas = fs; wrote = [] }); fuel = fuel }) fuel s x x
at_start l fs s fuel x r =
    let p = setting l fs in
    let first = machine s (record { formulas = fs; wrote = [] }) in
    let none : fuel - fuel ≡ 0 = omega arith in
    let out : outer l (record { formulas = fs; first = first; fuel = fuel }) fuel ≡ record { formulas = fs; wrote = [] } = ap (λ (n : ℕ). record { formulas = fs; wrote = (machine_after p n first).world.wrote }) none in
    let there : machine_after p (fuel - fuel) first ≡ first = ap (λ (n : ℕ). machine_after p n first) none in
    record {
      few = omega arith;
      is = ap (machine s) out ∙ sym there;
      goes = ap (replies_for p fuel) (sym there);
      counts = (let same = ap (steps_for p fuel) there in omega (arith, none, same));
      texts = texts_self s.arena;
      sink = λ some. append_none x ∙ ap (λ (o : Outer). append_known x o.wrote) (sym out);
      can = subst (λ (o : Outer). IsReached l o s) (sym out) r;
    }

at_first : (l : LinkedFile) (fs : List Formula) (limits : Limits) (s : State) (fuel : ℕ) (x : Option (List ℕ)) → IsVerifiedSetting (setting l fs) → limits.cells < 2 ^ 32 → IsBegun (setting l fs) limits s → IsRunAt l (record { formulas = fs; first = first_state (setting l fs) limits; fuel = fuel }) fuel s x x
at_first l fs limits s fuel x v counted b =
    subst (λ (q : Machine). IsRunAt l (record { formulas = fs; first = q; fuel = fuel }) fuel s x x) (machine_first (setting l fs) limits s b) (at_start l fs s fuel x (reached_first l fs limits s v counted b))

-- ---- what a first run comes to

pub ran_is : (p : Setting) (limits : Limits) (fuel : ℕ) → too_small (first_world p limits).heap ≡ None → meaning p limits fuel ≡ ran (runs_for p fuel (first_state p limits))
unfolding meaning
ran_is p limits fuel e = ap (λ (o : Option Limit). meaning_if o (runs_for p fuel (first_state p limits))) e

log_is : (p : Setting) (limits : Limits) (fuel : ℕ) → too_small (first_world p limits).heap ≡ None → log p limits fuel ≡ logs_for p fuel (first_state p limits)
unfolding log
log_is p limits fuel e = ap (λ (o : Option Limit). log_if o (logs_for p fuel (first_state p limits))) e

steps_is : (p : Setting) (limits : Limits) (fuel : ℕ) → too_small (first_world p limits).heap ≡ None → steps p limits fuel ≡ steps_for p fuel (first_state p limits)
unfolding steps
steps_is p limits fuel e = ap (λ (o : Option Limit). steps_if o (steps_for p fuel (first_state p limits))) e

-- a machine that keeps these shows this
abbrev pub viewed : LinkedFile → State → Option End → Bool → (steps : ℕ) → Opened
viewed l s e closed n = record { linked = l; names = s.arena.formulas; limits = s.arena.limits; ended = e; closed = closed; world = kept_world s; steps = n }

module _ (l k : LinkedFile) (fs : List Formula) (s : State) (fuel : ℕ) (e : Option End) (closed : Bool) (seen : List Bool) (n : ℕ) (m : Opened) (same : l ≡ k) (shown : viewed k s e closed n ≡ m) (fresh : e ≡ None) (keeps : MachineKeeps k s seen e closed) (named : m.ended ≡ None → formula_names fs ≡ m.names) where
  names : formula_names fs ≡ s.arena.formulas
  names = named (ap (λ (o : Opened). o.ended) (sym shown) ∙ fresh) ∙ ap (λ (o : Opened). o.names) (sym shown)

  is_first : IsBegun (setting l fs) s.arena.limits s
  is_first = subst (λ (i : LinkedFile). IsBegun (setting i fs) s.arena.limits s) (sym same) ((keeps.begins fresh).0 fs names)

  -- what the run comes to
  abbrev left_world : World
  left_world = (runs_for (setting l fs) fuel (first_state (setting l fs) s.arena.limits)).world

  pub run_as : (x z : Option (List ℕ)) (end : End) → RunsAs (ran (runs_for (setting l fs) fuel (first_state (setting l fs) s.arena.limits))) x z end → RunsAs (meaning (setting m.linked fs) m.limits fuel) x z end
  run_as x z end r =
      let here : RunsAs (meaning (setting l fs) s.arena.limits fuel) x z end = subst (λ (q : Meaning). RunsAs q x z end) (sym (ran_is (setting l fs) s.arena.limits fuel is_first.fits)) r in
      subst (λ (o : Opened). RunsAs (meaning (setting o.linked fs) o.limits fuel) x z end) shown (subst (λ (i : LinkedFile). RunsAs (meaning (setting i fs) s.arena.limits fuel) x z end) same here)

  pub log_as : (x z : Option (List ℕ)) (end : End) → LogsRun (logs_for (setting l fs) fuel (first_state (setting l fs) s.arena.limits)) (ran (runs_for (setting l fs) fuel (first_state (setting l fs) s.arena.limits))) x z end → LogsRun (log (setting m.linked fs) m.limits fuel) (meaning (setting m.linked fs) m.limits fuel) x z end
  log_as x z end r =
      let p = setting l fs in
      let meant : LogsRun (logs_for p fuel (first_state p s.arena.limits)) (meaning p s.arena.limits fuel) x z end = subst (λ (q : Meaning). LogsRun (logs_for p fuel (first_state p s.arena.limits)) q x z end) (sym (ran_is p s.arena.limits fuel is_first.fits)) r in
      let here : LogsRun (log p s.arena.limits fuel) (meaning p s.arena.limits fuel) x z end = subst (λ (lines : List ℕ). LogsRun lines (meaning p s.arena.limits fuel) x z end) (sym (log_is p s.arena.limits fuel is_first.fits)) meant in
      subst (λ (o : Opened). LogsRun (log (setting o.linked fs) o.limits fuel) (meaning (setting o.linked fs) o.limits fuel) x z end) shown (subst (λ (i : LinkedFile). LogsRun (log (setting i fs) s.arena.limits fuel) (meaning (setting i fs) s.arena.limits fuel) x z end) same here)

  -- how many steps it took
  pub run_steps : (left : ℕ) → steps_for (setting l fs) fuel (first_state (setting l fs) s.arena.limits) + left ≡ fuel → fuel - left ≡ steps (setting m.linked fs) m.limits fuel
  run_steps left e =
      let p = setting l fs in
      let here : fuel - left ≡ steps_for p fuel (first_state p s.arena.limits) = omega (arith, e) in
      let there : fuel - left ≡ steps p s.arena.limits fuel = here ∙ sym (steps_is p s.arena.limits fuel is_first.fits) in
      subst (λ (o : Opened). fuel - left ≡ steps (setting o.linked fs) o.limits fuel) shown (subst (λ (i : LinkedFile). fuel - left ≡ steps (setting i fs) s.arena.limits fuel) same there)

  module _ (linked : IsLinkedFile l) (typed : IsChecked k) (host : AreFormulas fs) where
    verified : IsVerifiedSetting (setting l fs)
    verified = verified_setting l fs linked (all_typed l linked (subst IsChecked (sym same) typed)) host

    first_reached : IsReached l (record { formulas = fs; wrote = [] }) s
    first_reached = reached_first l fs s.arena.limits s verified (keeps.begins fresh).1 is_first

    pub begins_at : (x : Option (List ℕ)) → IsRunAt l (record { formulas = fs; first = first_state (setting l fs) s.arena.limits; fuel = fuel }) fuel s x x
    begins_at x = at_first l fs s.arena.limits s fuel x verified (keeps.begins fresh).1 is_first

    -- what it leaves is sound
    left_sound : WorldSound (setting l fs) left_world
    left_sound =
        subst (λ (q : Machine). WorldSound (setting l fs) (runs_for (setting l fs) fuel q).world) (machine_first (setting l fs) s.arena.limits s is_first) (runs_left (setting l fs) first_reached.typings fuel (machine s (record { formulas = fs; wrote = [] })) verified first_reached.typed first_reached.sound)

    -- ---- the state after the run, and that without its frames

    module _ (t u : State) (now : List Bool) (end : End) (leaves : end ≢ ends.WriteFault → LeavesWorld (setting l fs) left_world t) (drops : Drops t u) (limit : t.given.limit ≡ s.given.limit) where
      pub run_keeps : MachineKeeps k u now (Some end) closed
      run_keeps = record {
        begins = λ q. absurd cc;
        noted = λ q. absurd cc;
        goes_on = λ q still.
            let done : end ≡ ends.Done = cc in
            let there = leaves (λ f. absurd (let two : ends.Done ≡ ends.WriteFault = sym done ∙ f in cc)) in
            subst (λ (i : LinkedFile). CanGoOn i u) same (can_go_on l fs left_world t u left_sound there drops (subst (HasArgumentRoom l) (sym limit) first_reached.known));
      }

      pub run_world : end ≢ ends.WriteFault → kept_world u ≡ silent (world_run m fs fuel)
      run_world f =
          let here : kept_world u ≡ silent left_world = kept_is (setting l fs) left_world t u (leaves f) drops in
          let there : kept_world u ≡ silent (world_run (viewed k s e closed n) fs fuel) = here ∙ ap (λ (i : LinkedFile). silent (world_run (viewed i s e closed n) fs fuel)) same in
          there ∙ ap (λ (o : Opened). silent (world_run o fs fuel)) shown

      pub run_names : end ≢ ends.WriteFault → u.arena.formulas ≡ m.names
      run_names f = ap (λ (w : World). w.heap.formulas) (kept_is (setting l fs) left_world t u (leaves f) drops) ∙ left_sound.formulas ∙ names ∙ ap (λ (o : Opened). o.names) shown

-- ---- a machine that is opened

pub open_keeps : (l : LinkedFile) (fs : List Formula) (limits : Limits) (s : State) (seen : List Bool) → IsBegun (setting l fs) limits s → limits.cells < 2 ^ 32 → seen ≡ replicate (length l.file.scripts) false → MachineKeeps l s seen None false
open_keeps l fs limits s seen b counted none = record {
  begins = λ e. (can_begin l fs limits s b, subst (λ (x : Limits). x.cells < 2 ^ 32) (sym (limits_kept (setting l fs) limits s b)) counted);
  noted = λ e. none ∙ sym b.started;
  goes_on = λ e still. absurd cc;
}

pub opened_as : (l : LinkedFile) (fs : List Formula) (limits : Limits) (s : State) → IsBegun (setting l fs) limits s → IsOpened l fs limits (viewed l s None false 0)
opened_as l fs limits s b =
    let first = first_world (setting l fs) limits in
    let shown : Heap → List Bool → Opened = λ h started. record { linked = l; names = h.formulas; limits = h.limits; ended = None; closed = false; world = record { heap = h; started = started; wrote = [] }; steps = 0 } in
    record {
      is = ap (λ (h : Heap). shown h s.started) b.heap ∙ ap (λ (started : List Bool). shown first.heap started) b.started;
      fits = b.fits;
    }
