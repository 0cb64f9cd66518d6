-- The state that a run of a verified file begins with is one that a run reaches.
use Rattle.std.proofs.Common.{◌≡◌, List, [], Bool, map, sym, ap, ◌∙◌, subst}
use Rattle.abc_run_finish.specs.Ending.{IsSized}
use Rattle.abc_meaning_sound.proofs.Typed.{has_typings}
use Rattle.abc_run_finish.specs.Steps.{machine}
use Rattle.abc_heap_store.specs.Heap.{Heap}
use Rattle.abc_heap_store.specs.declared.records.Limits.{Limits}
use Rattle.abc_meaning.specs.Meaning.{first_state, first_world}
use Rattle.abc_meaning.specs.Sound.{IsSound}
use Rattle.abc_run_finish.specs.Begun.{IsBegun}
use Rattle.abc_meaning.specs.Openings.{setting}
use Rattle.abc_machine.proofs.There.{there}
use Rattle.abc_machine.specs.ReachedLaws.{RunsBeginReached}
use Rattle.abc_frames.specs.Frame.{Frames}
use Rattle.abc_run_state.specs.Turns.{size_for}
use Rattle.abc_meaning.specs.Setting.{Setting}
use Rattle.abc_run_state.specs.declared.state.State.{State}
use Rattle.abc_meaning_sound.proofs.Never.{the_first_is_sound}

pub limits_kept : (p : Setting) (limits : Limits) (s : State) → IsBegun p limits s → s.arena.limits ≡ limits
limits_kept p limits s b = ap (λ (h : Heap). h.limits) b.heap

sized_first : (p : Setting) (limits : Limits) (s : State) → IsBegun p limits s → IsSized p s.arena.limits s.frames
sized_first p limits s b = record {
  sizes = ap (λ (q : Frames). q.sizes) b.frames ∙ ap (λ (q : Frames). map (size_for p) q.living) (sym b.frames);
  frames = ap (λ (q : Frames). q.frame_limit) b.frames ∙ ap (λ (x : Limits). x.frames) (sym (limits_kept p limits s b));
  values = ap (λ (q : Frames). q.value_limit) b.frames ∙ ap (λ (x : Limits). x.stack) (sym (limits_kept p limits s b));
}

pub machine_first : (p : Setting) (limits : Limits) (s : State) → IsBegun p limits s → machine s (record { formulas = p.formulas; wrote = [] }) ≡ first_state p limits
machine_first p limits s b =
    ap (λ (h : Heap). record { world = record { heap = h; started = s.started; wrote = [] }; frames = s.frames.living }) b.heap
    ∙ ap (λ (started : List Bool). record { world = record { heap = (first_world p limits).heap; started = started; wrote = [] }; frames = s.frames.living }) b.started
    ∙ ap (λ (q : Frames). record { world = first_world p limits; frames = q.living }) b.frames

pub reached_first : RunsBeginReached
reached_first l fs limits s v counted b =
    let p = setting l fs in
    let t = has_typings p v in
    record {
      verified = v;
      typings = t.0;
      typed = t.1;
      sound = subst (IsSound p t.0) (sym (machine_first p limits s b)) (the_first_is_sound p t.0 limits v t.1 counted b.fits);
      sized = sized_first p limits s b;
      known = record { room = b.room.each; options = λ n m e. there l v.linked n m e };
    }
