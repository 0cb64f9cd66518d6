-- In a sound state of a verified file the newest frame has an instruction that can be done.
use Rattle.std.proofs.Common.{◌≡◌, ◌≢◌, ℕ, zero, suc, ◌+◌, ◌<◌, ◌≤◌, ◌^◌, List, [], ◌∷◌, length, refl, sym, ap, ◌∙◌, subst, arith}
use Rattle.std.specs.Prelude.{slice_get, Some}
use Rattle.abc_heap_values.specs.declared.values.Value.{Value}
use Rattle.abc_heap_store.specs.Heap.{Heap}
use Rattle.abc_heap_store.specs.declared.records.ScopeEntry.{ScopeEntry}
use Rattle.abc_objects.specs.Values.{Exists, IsObject}
use Rattle.abc_link_names.specs.Linked.{LinkedFile}
use Rattle.abc_link_names.specs.declared.types.Kind.{Kind}
use Rattle.abc_verify_typing.specs.Instructions.{opcode}
use Rattle.abc_frames.specs.Frame.{Frame}
use Rattle.abc_link_names.specs.PartsByNumber.{body_at}
use Rattle.abc_file_types.specs.Bodies.{IsReadyBody}
use Rattle.abc_file_types.specs.CodeBytes.{code_len, instr_len}
use Rattle.abc_file_types.specs.Ready.{AllCanSpell, CanSpell}
use Rattle.abc_file_types.specs.declared.code.Body.{Body}
use Rattle.abc_file_types.specs.declared.code.Instr.{Instr}
use Rattle.abc_file_types.specs.declared.code.Instr.TheVariants as instrs
use Rattle.abc_verify_typing.specs.Lists.{Each, Each2}
use Rattle.abc_verify_typing.specs.Routines.{Routine}
use Rattle.abc_verify_typing.specs.declared.state.Scope.{Scope}
use Rattle.abc_meaning.specs.Setting.{Setting, routine_of}
use Rattle.abc_meaning.specs.World.{Sticks, Stopped, World}
use Rattle.abc_meaning.specs.ThrowLaws.{IsVerifiedSetting}
use Rattle.abc_meaning.specs.Sound.{AreTypings, FrameSound, IsOfKind, IsSound, ScopeHolds, SteppedSound, Typings}
use Rattle.abc_meaning.specs.Step.{after_act, runs, step}
use Rattle.abc_meaning.specs.Throwing.{Ends, Machine, Stepped, Stuck}
use Rattle.abc_verify_typing.proofs.Fine.{stands}
use Rattle.abc_meaning_sound.proofs.Filed.{routine_found}
use Rattle.abc_meaning_sound.proofs.Lists.{each_at, inside}
use Rattle.abc_meaning_sound.proofs.Never.{stays_sound}
use Rattle.abc_meaning_sound.specs.Premise.{SoundFramesRun}
use Rattle.abc_meaning.specs.Running.{HasInstruction, IsFrameThere}
use Rattle.abc_meaning_sound.proofs.Formed.{row_low}

-- ---- what a frame names is there

module _ (l : LinkedFile) (h : Heap) where
  values_there : (ks : List Kind) (vs : List Value) → Each2 (IsOfKind l h) ks vs → Each (Exists l h) vs
  values_there [] [] e = tt
  values_there [] (v ∷ vs) e = absurd e
  values_there (k ∷ ks) [] e = absurd e
  values_there (k ∷ ks) (v ∷ vs) e = (e.0.exists, values_there ks vs e.1)

  scopes_there : (ss : List Scope) (es : List ScopeEntry) → Each2 (ScopeHolds l h) ss es → Each (λ (e : ScopeEntry). IsObject h e.object) es
  scopes_there [] [] e = tt
  scopes_there [] (x ∷ es) e = absurd e
  scopes_there (s ∷ ss) [] e = absurd e
  scopes_there (s ∷ ss) (x ∷ es) e = (e.0.object.exists, scopes_there ss es e.1)

frame_there : (p : Setting) (typings : Typings) (w : World) (f : Frame) → FrameSound p typings w.heap f → IsFrameThere p w f
frame_there p typings w f s =
    let h = w.heap in
    let is = s.typed.is in
    record {
      stack = each_at (Exists p.linked h) f.stack (values_there p.linked h s.typed.state.stack f.stack is.stack);
      locals = each_at (Exists p.linked h) f.locals (values_there p.linked h s.typed.state.locals f.locals is.locals);
      scopes = each_at (λ (e : ScopeEntry). IsObject h e.object) f.scopes (scopes_there p.linked h s.typed.state.scopes f.scopes is.scopes);
      saved = s.stands.saved;
      home = s.stands.home;
    }

-- ---- its step isn't stuck

not_stuck : (p : Setting) (typings : Typings) (w : World) (s : Stepped) → SteppedSound p typings s → s ≡ Ends w Stuck → ⊥
not_stuck p typings w s h e = (subst (SteppedSound p typings) e h).0 refl

act_is_free : (p : Setting) (typings : Typings) (w : World) (f : Frame) (fs : List Frame) → IsVerifiedSetting p → AreTypings p typings → IsSound p typings (record { world = w; frames = f ∷ fs }) → (n : World) → runs p f (routine_of p f.method) w ≢ Stopped n Sticks
act_is_free p typings w f fs v typed s n e =
    let q : Machine = record { world = w; frames = f ∷ fs } in
    not_stuck p typings n (step p q) (stays_sound p typings q v typed s) (ap (after_act p f fs) e)

-- ---- its place, and the room of its frame

one_long : (i : Instr) → 1 ≤ instr_len i
one_long (instrs.Plain op) = omega arith
one_long (instrs.One op x) = omega arith
one_long (instrs.Two op x y) = omega arith
one_long (instrs.Branch op t) = omega arith
one_long (instrs.Switch t ts) = omega arith
one_long (instrs.Byte z) = omega arith
one_long (instrs.Short z) = omega arith
one_long (instrs.ScopeObject x) = omega arith
one_long (instrs.Debug kind name reg extra) = omega arith

as_long : (is : List Instr) → length is ≤ code_len is
as_long [] = omega arith
as_long (i ∷ is) = omega (arith, one_long i, as_long is)

code_short : (b : Body) → IsReadyBody b → length b.code < 2 ^ 23
code_short b ready = omega (arith, as_long b.code, ready.code.short)

pub place_counted : (p : Setting) (n i : ℕ) (r : Routine) (instr : Instr) → IsVerifiedSetting p → routine_of p n ≡ Some r → slice_get r.code i ≡ Some instr → i + 1 < 2 ^ 32
place_counted p n i r instr v e at =
    let b = routine_found p v.linked n r e in
    let short = code_short (body_at p.linked.file b.body) b.is.ready in
    let same : length r.code ≡ length (body_at p.linked.file b.body).code = ap (λ (x : Routine). length x.code) b.routine_is in
    let low = inside r.code i instr at in
    omega (arith, short, same, low)

can_at : (n : ℕ) (is : List Instr) (i : ℕ) (instr : Instr) → AllCanSpell n is → slice_get is i ≡ Some instr → CanSpell n instr
can_at n [] i instr a e = absurd cc
can_at n (x ∷ xs) zero instr a e = let same : x ≡ instr = cc in subst (CanSpell n) same a.0
can_at n (x ∷ xs) (suc i) instr a e = can_at n xs i instr a.1 e

-- ---- all together

has_instruction : (p : Setting) (typings : Typings) (h : Heap) (f : Frame) → IsVerifiedSetting p → AreTypings p typings → FrameSound p typings h f → HasInstruction p f
has_instruction p typings h f v typed s =
    let r = s.stands.routine in
    let fine = (typed f.method r s.stands.body).fine f.place s.typed.state s.typed.typed in
    let here = stands p.linked r f.place s.typed.state fine in
    let b = routine_found p v.linked f.method r s.stands.body in
    let code = (body_at p.linked.file b.body).code in
    let same : r.code ≡ code = ap (λ (x : Routine). x.code) b.routine_is in
    let there : slice_get code f.place ≡ Some here.instr = ap (λ (c : List Instr). slice_get c f.place) (sym same) ∙ here.at in
    record {
      routine = r;
      body = s.stands.body;
      instr = here.instr;
      at = here.at;
      can = subst (λ (c : List Instr). CanSpell (length c) here.instr) (sym same) (can_at (length code) code f.place here.instr b.is.ready.code.can there);
      byte = row_low (opcode here.instr) here.row here.is;
      next = place_counted p f.method f.place r here.instr v s.stands.body here.at;
    }

pub frames_run : SoundFramesRun
frames_run p typings w f fs v typed s = record { there = frame_there p typings w f s.frames.0; instruction = has_instruction p typings w.heap f v typed s.frames.0; free = act_is_free p typings w f fs v typed s }
