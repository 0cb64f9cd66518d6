-- Frames that wait in a sound state.
use Rattle.std.proofs.Common.{◌≡◌, ℕ, zero, suc, ◌<◌, ◌≤◌, List, [], ◌∷◌, length, take, drop, ap, arith}
use Rattle.std.specs.Prelude.{Some}
use Rattle.std.proofs.lemmas.Bool.{leb-true}
use Rattle.abc_heap_values.specs.declared.values.Value.{Value}
use Rattle.abc_meaning_sound.proofs.Filed.{routine_found}
use Rattle.abc_heap_store.specs.Heap.{Heap}
use Rattle.abc_heap_store.specs.declared.records.ScopeEntry.{ScopeEntry}
use Rattle.abc_meaning.specs.ThrowLaws.{IsVerifiedSetting}
use Rattle.abc_meaning.specs.Sound.{AreTypings, FrameSound, IsOfKind, ScopeHolds, Typings, WaitSound, WaitingSound}
use Rattle.abc_objects.specs.Values.{Exists, IsObject}
use Rattle.abc_meaning_sound.proofs.Sounded.{place_counted}
use Rattle.abc_link_names.specs.Linked.{LinkedFile}
use Rattle.abc_link_names.specs.declared.types.Kind.{Kind}
use Rattle.abc_meaning_sound.proofs.Lists.{each_at}
use Rattle.abc_frames.specs.Frame.{Frame}
use Rattle.abc_frames.specs.declared.records.Wait.{Wait}
use Rattle.abc_frames.specs.declared.records.Wait.TheVariants as waits
use Rattle.abc_verify_typing.specs.Lists.{Each, Each2}
use Rattle.abc_verify_typing.specs.Routines.{Routine}
use Rattle.abc_verify_typing.specs.declared.rule.VerifyRule.TheVariants.{Parameters}
use Rattle.abc_verify_typing.specs.declared.state.Scope.{Scope}
use Rattle.abc_verify_typing.proofs.Fine.{stands}
use Rattle.abc_meaning.specs.Setting.{Setting, routine_of}
use Rattle.abc_meaning.specs.Fair.{IsWaiting}
use Rattle.abc_meaning_sound.specs.ProgressLaws.{WaitingFramesAreThere}

-- ---- what is of kinds is there

module _ (l : LinkedFile) (h : Heap) where
  values_there : (ks : List Kind) (vs : List Value) → Each2 (IsOfKind l h) ks vs → Each (Exists l h) vs
  values_there [] [] e = tt
  values_there [] (v ∷ vs) e = absurd e
  values_there (k ∷ ks) [] e = absurd e
  values_there (k ∷ ks) (v ∷ vs) e = (e.0.exists, values_there ks vs e.1)

  scopes_there : (ss : List Scope) (es : List ScopeEntry) → Each2 (ScopeHolds l h) ss es → Each (λ (e : ScopeEntry). IsObject h e.object) es
  scopes_there [] [] e = tt
  scopes_there [] (x ∷ es) e = absurd e
  scopes_there (s ∷ ss) [] e = absurd e
  scopes_there (s ∷ ss) (x ∷ es) e = (e.0.object.exists, scopes_there ss es e.1)

joined : (P : Value → Type 0) (n : ℕ) (vs : List Value) → Each P (take n vs) → Each P (drop n vs) → Each P vs
joined P zero vs a b = b
joined P (suc n) [] a b = tt
joined P (suc n) (v ∷ vs) a b = (a.0, joined P n vs a.1 b)

-- ---- by the way in which it waits

pub record AreThere (l : LinkedFile) (h : Heap) (f : Frame) : Type 0 where
  pub stack : Each (Exists l h) f.stack
  pub scopes : Each (λ (e : ScopeEntry). IsObject h e.object) f.scopes

there_by : (p : Setting) (typings : Typings) (h : Heap) (f : Frame) (wait : Wait) → WaitSound p typings h f wait → AreThere p.linked h f
there_by p typings h f waits.Push s = record { stack = values_there p.linked h s.rest f.stack s.is.stack; scopes = scopes_there p.linked h s.state.scopes f.scopes s.is.scopes }
there_by p typings h f waits.Drop s = record { stack = values_there p.linked h s.state.stack f.stack s.is.stack; scopes = scopes_there p.linked h s.state.scopes f.scopes s.is.scopes }
there_by p typings h f (waits.Keep v) s = record { stack = (values_there p.linked h s.state.stack (v ∷ f.stack) s.is.stack).1; scopes = scopes_there p.linked h s.state.scopes f.scopes s.is.scopes }
there_by p typings h f waits.Again s = record { stack = values_there p.linked h s.state.stack f.stack s.is.stack; scopes = scopes_there p.linked h s.state.scopes f.scopes s.is.scopes }
there_by p typings h f (waits.New n) s = record { stack = joined (Exists p.linked h) n f.stack s.exist (values_there p.linked h s.typed.rest (drop n f.stack) s.typed.is.stack); scopes = scopes_there p.linked h s.typed.state.scopes f.scopes s.typed.is.scopes }
there_by p typings h f waits.Not s = absurd s

-- ---- a method's locals hold its receiver

has_this : (p : Setting) (typings : Typings) (n : ℕ) (r : Routine) → IsVerifiedSetting p → AreTypings p typings → routine_of p n ≡ Some r → 0 < r.local_count
has_this p typings n r v typed e =
    let t = typed n r e in
    let u = t.start.0 in
    let st = stands p.linked r 0 u (t.fine 0 u t.start.1) in
    let fits : length r.filled ≤ r.local_count = leb-true _ _ (st.kept Parameters) in
    let b = routine_found p v.linked n r e in
    let some_are = ap (λ (x : Routine). length x.filled) b.routine_is in
    omega (arith, fits, some_are)

-- ---- all together

waiting_is : (p : Setting) (typings : Typings) (h : Heap) (f : Frame) → IsVerifiedSetting p → AreTypings p typings → WaitingSound p typings h f → IsWaiting p h f
waiting_is p typings h f v typed s =
    let r = s.stands.routine in
    let t = there_by p typings h f f.wait s.waits in
    let c = s.catches in
    let st = stands p.linked r f.place c.state ((typed f.method r s.stands.body).fine f.place c.state c.typed) in
    let this = has_this p typings f.method r v typed s.stands.body in
    let long = s.stands.locals in
    record {
      stack = each_at (Exists p.linked h) f.stack t.stack;
      locals = each_at (Exists p.linked h) f.locals (values_there p.linked h c.state.locals f.locals c.locals);
      scopes = each_at (λ (e : ScopeEntry). IsObject h e.object) f.scopes t.scopes;
      saved = s.stands.saved;
      home = s.stands.home;
      routine = r;
      body = s.stands.body;
      room = s.stands.stack;
      place = place_counted p f.method f.place r st.instr v s.stands.body st.at;
      this = omega (arith, this, long);
    }

all_waiting : (p : Setting) (typings : Typings) (h : Heap) (fs : List Frame) → IsVerifiedSetting p → AreTypings p typings → Each (WaitingSound p typings h) fs → Each (IsWaiting p h) fs
all_waiting p typings h [] v typed e = tt
all_waiting p typings h (f ∷ fs) v typed e = (waiting_is p typings h f v typed e.0, all_waiting p typings h fs v typed e.1)

pub waiting_frames : WaitingFramesAreThere
waiting_frames p typings w f fs v typed s = each_at (IsWaiting p w.heap) fs (all_waiting p typings w.heap fs v typed s.frames.1)

pub receiver_there : (p : Setting) (typings : Typings) (h : Heap) (f : Frame) → IsVerifiedSetting p → AreTypings p typings → FrameSound p typings h f → 0 < length f.locals
receiver_there p typings h f v typed s =
    let this = has_this p typings f.method s.stands.routine v typed s.stands.body in
    let long = s.stands.locals in
    omega (arith, this, long)
