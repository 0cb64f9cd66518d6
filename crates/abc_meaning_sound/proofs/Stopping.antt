-- A step that ends with a fault tells it at the newest frame, or at that below, where it returns.
use Rattle.std.proofs.Common.{◌≡◌, ℕ, ◌+◌, List, [], ◌∷◌, length}
use Rattle.std.specs.Prelude.{Bool, true, false, nat_le, Some, None, if◌then◌else◌}
use Rattle.std.specs.declared.option.Option.{Option}
use Rattle.abc_base.specs.declared.names.Fault.{Fault}
use Rattle.abc_heap_values.specs.declared.values.ObjId.{ObjId}
use Rattle.abc_heap_values.specs.declared.values.Value.{Value}
use Rattle.abc_heap_values.specs.declared.values.Value.TheVariants.{Obj}
use Rattle.abc_heap_store.specs.declared.records.Limit.{Limit}
use Rattle.abc_heap_store.specs.declared.records.Limit.TheVariants.{Frames, Stack}
use Rattle.abc_heap_store.specs.declared.records.What.TheVariants.{Plain}
use Rattle.abc_frames.specs.Frame.{Frame}
use Rattle.abc_file_types.specs.declared.code.Handler.{Handler}
use Rattle.abc_meaning.specs.Objects.{new_of_host}
use Rattle.abc_meaning.specs.Setting.{Setting, routine_of}
use Rattle.abc_meaning.specs.World.{Errs, Faults, Fills, Outcome, Run, Sticks, Stop, Stopped, Throws, Went, World, pure, stop, ◌>>◌}
use Rattle.abc_meaning.specs.At.{Above, Stays, Top}
use Rattle.abc_meaning.specs.Step.{put_on, puts, settles, size_of_frame, size_of_frames}
use Rattle.abc_meaning.specs.Throwing.{Ends, Profile, Stepped, Stuck, catcher, caught_at, fault_at, goes_on, has_stack, lands, stops, throws_made, unwinds}

-- it ends with a fault, told there
abbrev pub TellsAt : Stepped → ℕ → ℕ → Fault → Type 0
TellsAt s m i fault = (w : World) × (s ≡ Ends w (Profile m i fault))

module _ (p : Setting) (m i : ℕ) (fault : Fault) where
  -- ---- throws tell no fault

  lands_tells : (w : World) (v : Value) (f : Frame) (fs : List Frame) (o : Option Handler) (s : Stepped) → (TellsAt s m i fault → ⊥) → TellsAt (lands p w v f fs o s) m i fault → ⊥
  lands_tells w v f fs None s silent t = silent t
  lands_tells w v f fs (Some h) s silent t = go (has_stack (routine_of p f.method)) t
    where
      go : (b : Bool) → TellsAt (if b then goes_on w (caught_at v h.target f ∷ fs) else Ends w Stuck) m i fault → ⊥
      go true u = let e = u.1 in cc
      go false u = let e = u.1 in cc

  unwinds_tells : (w : World) (v : Value) (fs : List Frame) → TellsAt (unwinds p w v fs) m i fault → ⊥
  unwinds_tells w v [] t = let e = t.1 in cc
  unwinds_tells w v (f ∷ fs) t = lands_tells w v f fs (catcher p w v f) (unwinds p w v fs) (unwinds_tells w v fs) t

  throws_tells : (fs : List Frame) (o : Outcome ObjId) → TellsAt (throws_made p fs o) m i fault → ⊥
  throws_tells fs (Went w o) t = unwinds_tells w (Obj o) fs t
  throws_tells fs (Stopped w (Throws v)) t = let e = t.1 in cc
  throws_tells fs (Stopped w (Errs c)) t = let e = t.1 in cc
  throws_tells fs (Stopped w (Faults x)) t = let e = t.1 in cc
  throws_tells fs (Stopped w (Fills limit)) t = let e = t.1 in cc
  throws_tells fs (Stopped w Sticks) t = let e = t.1 in cc

  -- ---- a stop tells its fault at the newest frame

  pub stops_tells : (w : World) (fs : List Frame) (why : Stop) → TellsAt (stops p w fs why) m i fault → (x : Fault) × (fault_at p fs x ≡ Profile m i fault)
  stops_tells w fs (Throws v) t = absurd (unwinds_tells w v fs t)
  stops_tells w fs (Errs c) t = absurd (throws_tells fs (new_of_host p c Plain w) t)
  stops_tells w fs (Faults x) t = let e = t.1 in (x, cc)
  stops_tells w fs (Fills limit) t = let e = t.1 in absurd cc
  stops_tells w fs Sticks t = let e = t.1 in absurd cc

  -- ---- frames that are put on top tell none

  abbrev within : Bool → Limit → Run (Unit {0})
  within b which = if b then pure tt else stop (Fills which)

  pub puts_tells : (w : World) (g : Frame) (fs : List Frame) → TellsAt (puts p w g fs) m i fault → ⊥
  puts_tells w g fs t = go (nat_le (length fs + 1) w.heap.limits.frames) (nat_le (size_of_frames p fs + size_of_frame p g) w.heap.limits.stack) t
    where
      go : (a b : Bool) → TellsAt (put_on p g fs ((within a Frames >> within b Stack) w)) m i fault → ⊥
      go true true u = let e = u.1 in cc
      go true false u = let e = u.1 in cc
      go false b u = let e = u.1 in cc

  pub settles_tells : (w : World) (fs : List Frame) (top : Top) → TellsAt (settles p w fs top) m i fault → ⊥
  settles_tells w fs (Stays f) t = let e = t.1 in cc
  settles_tells w fs (Above g f) t = puts_tells w g (f ∷ fs) t
