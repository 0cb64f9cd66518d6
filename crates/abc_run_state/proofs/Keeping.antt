-- What a frame names is still there in a heap that grew, and where its operands are others.
use Rattle.std.proofs.Common.{◌≡◌, ◌∙◌, ℕ, ◌<◌, List, length, set, ap, arith, refl, subst, sym}
use Rattle.abc_heap_values.specs.declared.values.Value.{Value}
use Rattle.abc_heap_store.specs.Heap.{Heap}
use Rattle.abc_frames.specs.Ready.{HasFrameRoom}
use Rattle.abc_objects.specs.Growing.{Grows}
use Rattle.abc_objects.specs.Stands.{EachAt}
use Rattle.abc_objects.specs.Values.{Exists}
use Rattle.abc_objects.proofs.Grown.{exists_grown, grows_on, grows_self, scope_grown}
use Rattle.abc_objects.proofs.Reshaped.{each_set}
use Rattle.abc_link_names.specs.Linked.{LinkedFile}
use Rattle.abc_frames.proofs.Living.{living_is}
use Rattle.abc_frames.specs.Frame.{Frame, Frames, newest, with_newest, with_operand}
use Rattle.abc_run_state.specs.Standing.{IsSet, IsStateThere, Stays}
use Rattle.abc_run_state.specs.declared.state.State.{State}
use Rattle.abc_run_state.specs.Pairs.{with_operands}

pub same_operands : (q : Frames) → 0 < length q.living → q ≡ with_operands (newest q).stack q
same_operands q live = ap (λ (fs : List Frame). record q { living = fs }) (living_is q.living live)

pub each_grown : (l : LinkedFile) (a b : Heap) (vs : List Value) → Grows a b → EachAt (Exists l a) vs → EachAt (Exists l b) vs
each_grown l a b vs g h = λ k v e. exists_grown l a b v g (h k v e)

pub there_grown : (l : LinkedFile) (a b : Heap) (f : Frame) → Grows a b → IsStateThere l a f → IsStateThere l b f
there_grown l a b f g t = record {
  stack = each_grown l a b f.stack g t.stack;
  locals = each_grown l a b f.locals g t.locals;
  scopes = λ k e is. (g.objects e.object.0 (t.scopes k e is)).0;
  saved = scope_grown a b f.saved g t.saved;
  home = t.home;
}

pub there_with : (l : LinkedFile) (h : Heap) (f : Frame) (vs : List Value) → EachAt (Exists l h) vs → IsStateThere l h f → IsStateThere l h (record f { stack = vs })
there_with l h f vs e t = record { stack = e; locals = t.locals; scopes = t.scopes; saved = t.saved; home = t.home }

-- operands that were written one after the other
pub operands_on : (q old mid new : Frames) (n : ℕ) (v : Value) → old ≡ with_operands (newest old).stack q → mid ≡ old → new ≡ with_newest (with_operand n v) mid → new ≡ with_operands (newest new).stack q
operands_on q old mid new n v e same is =
    let to : new ≡ with_operands (set (newest old).stack n v) q = is ∙ ap (with_newest (with_operand n v)) (same ∙ e) in
    to ∙ ap (λ vs. with_operands vs q) (sym (ap (λ (r : Frames). (newest r).stack) to))

pub operands_same : (q old mid : Frames) → old ≡ with_operands (newest old).stack q → mid ≡ old → mid ≡ with_operands (newest mid).stack q
operands_same q old mid e same = same ∙ e ∙ ap (λ (r : Frames). with_operands (newest r).stack q) (sym same)

pub ready_with : (q r : Frames) (n k : ℕ) (vs : List Value) → HasFrameRoom n k q → length vs ≡ length (newest q).stack → r ≡ with_operands vs q → HasFrameRoom n k r
ready_with q r n k vs a l e = subst (HasFrameRoom n k) (sym e) (record { live = omega arith; operands = omega (arith, a.operands, l); room = omega (arith, a.room, l); place = a.place })

-- a state of which a part changed nothing but the heap
pub set_stays : (l : LinkedFile) (old new : State) → Stays l old new → IsSet l old → IsSet l new
set_stays l old new s t = record {
  over = s.over;
  frame = subst (λ (q : Frames). IsStateThere l new.arena (newest q)) (sym s.frames) (there_grown l old.arena new.arena (newest old.frames) s.grows t.frame);
}

-- and then an operand of its frame
pub set_operand_set : (l : LinkedFile) (old mid : State) (q : Frames) (n : ℕ) (v : Value) → Stays l old mid → q ≡ with_newest (with_operand n v) mid.frames → Exists l mid.arena v → IsSet l old → IsSet l (record mid { frames = q })
set_operand_set l old mid q n v s e x t =
    let there = (set_stays l old mid s t).frame in
    record {
      over = s.over;
      frame = subst (λ (r : Frames). IsStateThere l mid.arena (newest r)) (sym e) (there_with l mid.arena (newest mid.frames) (set (newest mid.frames).stack n v) (each_set (Exists l mid.arena) (newest mid.frames).stack n v there.stack x) there);
    }

pub stays_self : (l : LinkedFile) (s : State) → IsSet l s → Stays l s s
stays_self l s t = record { over = t.over; grows = grows_self s.arena; limits = refl; frames = refl; started = refl; given = refl }

pub stays_on : (l : LinkedFile) (a b c : State) → Stays l a b → Stays l b c → Stays l a c
stays_on l a b c s t = record { over = t.over; grows = grows_on a.arena b.arena c.arena s.grows t.grows; limits = t.limits ∙ s.limits; frames = t.frames ∙ s.frames; started = t.started ∙ s.started; given = t.given ∙ s.given }
