-- The body of a method that runs, and the layouts that it has.
use Rattle.std.proofs.Common.{◌≡◌, ℕ, zero, suc, ◌+◌, ◌<◌, List, [], ◌∷◌, length, true, refl, sym, ap, ◌∙◌, subst, arith}
use Rattle.std.specs.Prelude.{IsSome, None, Some, is_some, slice_get}
use Rattle.std.specs.declared.option.Option.{Option}
use Rattle.abc_link_names.proofs.MethodBodies.{body_inside}
use Rattle.abc_link_names.specs.PartsByNumber.{body_at}
use Rattle.abc_run_values.specs.Here.{act_in}
use Rattle.abc_run_values.specs.Ready.{CanRun}
use Rattle.abc_link_names.specs.Linked.{LinkedFile, layout_of}
use Rattle.abc_link_names.specs.Owners.{body_of}
use Rattle.abc_link_names.specs.Parts.{HasLayout}
use Rattle.abc_link_names.specs.declared.part.Part.TheVariants as parts
use Rattle.abc_frames.specs.Frame.{newest}
use Rattle.abc_run_state.specs.Outer.{Outer, setting_in, world}
use Rattle.abc_run_state.specs.Stops.{IsOpen}
use Rattle.abc_run_state.specs.declared.state.State.{State}
use Rattle.abc_meaning.specs.At.{Act}
use Rattle.abc_meaning.specs.World.{Outcome}
use Rattle.abc_meaning.specs.Setting.{Setting, routine_in, routine_of}
use Rattle.abc_file_types.specs.declared.code.Handler.{Handler}
use Rattle.abc_file_types.specs.declared.code.Instr.{Instr}
use Rattle.abc_verify_typing.specs.Routines.{Routine, catches_from, routine}
use Rattle.abc_verify_typing.specs.declared.catch.Catch.{Catch}

-- ---- what runs has a body

pub body_there : (l : LinkedFile) (out : Outer) (s : State) (i : Instr) → CanRun l out s i → IsSome (body_of l.file (newest s.frames).method)
body_there l out s i can = go (body_of l.file (newest s.frames).method) refl
  where
    go : (o : Option ℕ) → body_of l.file (newest s.frames).method ≡ o → IsSome (body_of l.file (newest s.frames).method)
    go None e =
        let none = ap (λ (b : Option ℕ). act_in (setting_in l out) (newest s.frames) i (routine_in (setting_in l out) b) (world s out)) e in
        let stuck : IsOpen (act_in (setting_in l out) (newest s.frames) i (routine_in (setting_in l out) None) (world s out)) = subst (λ (o : Outcome Act). IsOpen o) none can.free in
        absurd stuck
    go (Some b) e = ap is_some e

pub routine_is : (p : Setting) (n b : ℕ) (r : Routine) → routine_of p n ≡ Some r → body_of p.linked.file n ≡ Some b → r ≡ routine p.linked b
routine_is p n b r e q = let two : Some r ≡ Some (routine p.linked b) = sym e ∙ ap (routine_in p) q in cc

-- ---- layouts

pub has_activation_layout : (p : Setting) (n b : ℕ) (r : Routine) → routine_of p n ≡ Some r → body_of p.linked.file n ≡ Some b → r.needs_activation ≡ true → HasLayout p.linked.file (parts.Activation b)
has_activation_layout p n b r e q t = (body_inside p.linked.file n b q, sym (ap (λ (x : Routine). x.needs_activation) (routine_is p n b r e q)) ∙ t)

catches_long : (l : LinkedFile) (b e : ℕ) (hs : List Handler) → length (catches_from l b e hs) ≡ length hs
catches_long l b e [] = refl
catches_long l b e (h ∷ hs) = ap suc (catches_long l b (suc e) hs)

-- a handler with its layout
pub record CatchIs (l : LinkedFile) (b e : ℕ) (o : Option Catch) : Type 0 where
  pub catch : Catch
  pub is : o ≡ Some catch
  pub layout : catch.layout ≡ layout_of l (parts.Catch b e)

catch_found : (l : LinkedFile) (b e : ℕ) (hs : List Handler) (n : ℕ) → n < length hs → CatchIs l b (e + n) (slice_get (catches_from l b e hs) n)
catch_found l b e [] n lt = absurd (omega (arith, lt))
catch_found l b e (h ∷ hs) zero lt =
    let here : e ≡ e + zero = omega arith in
    record { catch = _; is = refl; layout = ap (λ (x : ℕ). layout_of l (parts.Catch b x)) here }
catch_found l b e (h ∷ hs) (suc n) lt =
    let r = catch_found l b (suc e) hs n (omega (arith, lt)) in
    let next : suc e + n ≡ e + suc n = omega arith in
    record { catch = r.catch; is = r.is; layout = r.layout ∙ ap (λ (x : ℕ). layout_of l (parts.Catch b x)) next }

pub catch_is : (p : Setting) (n b e : ℕ) (r : Routine) → routine_of p n ≡ Some r → body_of p.linked.file n ≡ Some b → e < length r.handlers → CatchIs p.linked b e (slice_get r.handlers e) × HasLayout p.linked.file (parts.Catch b e)
catch_is p n b e r body q lt =
    let hs = (body_at p.linked.file b).handlers in
    let same : r.handlers ≡ catches_from p.linked b 0 hs = ap (λ (x : Routine). x.handlers) (routine_is p n b r body q) in
    let long : length r.handlers ≡ length hs = ap length same ∙ catches_long p.linked b 0 hs in
    let low : e < length hs = omega (arith, lt, long) in
    let c = catch_found p.linked b 0 hs e low in
    let here : 0 + e ≡ e = omega arith in
    (record { catch = c.catch; is = ap (λ (cs : List Catch). slice_get cs e) same ∙ c.is; layout = c.layout ∙ ap (λ (x : ℕ). layout_of p.linked (parts.Catch b x)) here }, (body_inside p.linked.file n b q, low))
