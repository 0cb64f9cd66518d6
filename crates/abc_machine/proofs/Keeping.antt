-- What is left of a run or a call, once its frames are dropped.
use Rattle.std.proofs.Common.{◌≡◌, List, [], length, Bool, refl, sym, ap, ◌∙◌, subst}
use Rattle.std.proofs.lemmas.List.{length-map}
use Rattle.abc_base.specs.declared.formula.Formula.{Formula}
use Rattle.abc_meaning_sound.proofs.Hosts.{names_matter}
use Rattle.abc_meaning_sound.proofs.Left.{silent_sound}
use Rattle.abc_meaning.specs.Calls.{silent}
use Rattle.abc_run_calls.specs.Arguments.{HasArgumentRoom}
use Rattle.abc_heap_store.specs.Heap.{Heap}
use Rattle.abc_machine.specs.Machines.{CanGoOn, kept_world}
use Rattle.abc_machine.specs.Runs.{LeavesWorld}
use Rattle.abc_meaning.specs.Sound.{WorldSound}
use Rattle.abc_meaning.specs.Openings.{setting}
use Rattle.abc_link_names.specs.Linked.{LinkedFile}
use Rattle.abc_frames.specs.Frame.{no_frames}
use Rattle.abc_run_state.specs.Turns.{size_for}
use Rattle.abc_meaning.specs.World.{World}
use Rattle.abc_meaning.specs.Setting.{Setting}
use Rattle.abc_run_state.specs.declared.state.State.{State}

abbrev bare : State → State
bare s = record s { frames = no_frames s.frames.frame_limit s.frames.value_limit }

-- frames are dropped
abbrev pub Drops : (old new : State) → Type 0
Drops old new = length old.frames.sizes ≡ length old.frames.living → new ≡ bare old

dropped : (p : Setting) (w : World) (t u : State) → LeavesWorld p w t → Drops t u → u ≡ bare t
dropped p w t u leaves drops = drops (ap length leaves.sized.sizes ∙ length-map t.frames.living (size_for p))

-- the world that a call begins in
pub kept_is : (p : Setting) (w : World) (t u : State) → LeavesWorld p w t → Drops t u → kept_world u ≡ silent w
kept_is p w t u leaves drops =
    ap kept_world (dropped p w t u leaves drops) ∙ ap (λ (h : Heap). record { heap = h; started = t.started; wrote = [] }) leaves.heap ∙ ap (λ (started : List Bool). record { heap = w.heap; started = started; wrote = [] }) leaves.started

can_bare : (l : LinkedFile) (fs : List Formula) (w : World) (t : State) → WorldSound (setting l fs) w → LeavesWorld (setting l fs) w t → kept_world t ≡ silent w → HasArgumentRoom l t.given.limit → CanGoOn l (bare t)
can_bare l fs w t sound leaves kept known =
    let here : WorldSound (setting l fs) (kept_world t) = subst (WorldSound (setting l fs)) (sym kept) (silent_sound (setting l fs) w sound) in
    record {
      sound = λ gs e. names_matter l fs gs (kept_world t) (sym here.formulas ∙ sym e) here;
      sized = λ gs. record { sizes = refl; frames = leaves.sized.frames; values = leaves.sized.values };
      none = refl;
      known = known;
    }

pub can_go_on : (l : LinkedFile) (fs : List Formula) (w : World) (t u : State) → WorldSound (setting l fs) w → LeavesWorld (setting l fs) w t → Drops t u → HasArgumentRoom l t.given.limit → CanGoOn l u
can_go_on l fs w t u sound leaves drops known =
    let same : u ≡ bare t = dropped (setting l fs) w t u leaves drops in
    let kept : kept_world t ≡ silent w = ap kept_world (sym same) ∙ kept_is (setting l fs) w t u leaves drops in
    subst (CanGoOn l) (sym same) (can_bare l fs w t sound leaves kept known)
