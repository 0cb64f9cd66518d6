-- Throws keep a state sound, and are never stuck.
use Rattle.std.proofs.Common.{◌≡◌, ◌⊎◌, inl, inr, ℕ, suc, Bool, true, false, ◌&&◌, ◌||◌, cond, List, [], ◌∷◌, refl, sym, ap, ◌∙◌, subst, arith}
use Rattle.std.specs.Prelude.{Some, None, filter, nat_le, nat_lt}
use Rattle.std.specs.declared.option.Option.{Option}
use Rattle.std.specs.List.{find}
use Rattle.std.proofs.lemmas.Bool.{false≢true, ltb-true}
use Rattle.abc_heap_values.specs.declared.values.Value.{Value}
use Rattle.abc_heap_store.specs.Heap.{Heap}
use Rattle.abc_heap_store.specs.declared.records.Limits.{Limits}
use Rattle.abc_objects.specs.Values.{Exists}
use Rattle.abc_link_names.specs.Linked.{IsLinkedFile, LinkedFile, layout_of}
use Rattle.abc_link_names.specs.Owners.{body_of}
use Rattle.abc_link_names.specs.Types.{type_of}
use Rattle.abc_link_names.specs.declared.part.Part.TheVariants as parts
use Rattle.abc_link_names.specs.declared.types.Ty.{Ty}
use Rattle.abc_link_names.specs.PartsByNumber.{body_at}
use Rattle.abc_file_types.specs.declared.code.Handler.{Handler}
use Rattle.abc_verify_typing.specs.Effects.{caught_state, covering, covers}
use Rattle.abc_verify_typing.specs.Lists.{Each, Each2}
use Rattle.abc_verify_typing.specs.Routines.{Routine, catches_from, kind_if, or_any, routine, type_at}
use Rattle.abc_verify_typing.specs.Rules.{is_without_catches}
use Rattle.abc_verify_typing.specs.Typing.{In, ScopeLe}
use Rattle.abc_verify_typing.specs.declared.catch.Catch.{Catch}
use Rattle.abc_verify_typing.specs.declared.rule.VerifyRule.TheVariants.{StackOver}
use Rattle.abc_verify_typing.specs.declared.state.Scope.{Scope}
use Rattle.abc_verify_typing.proofs.Fine.{stands}
use Rattle.abc_verify_typing.proofs.Member.{and_left, and_right, in_right, map_in}
use Rattle.abc_frames.specs.Frame.{Frame}
use Rattle.abc_meaning.specs.Setting.{Setting, routine_in, routine_of}
use Rattle.abc_meaning.specs.World.{World}
use Rattle.abc_meaning.specs.ThrowLaws.{ThrowsStaySound}
use Rattle.abc_meaning.specs.Sound.{AreTypings, FrameSound, FramesFit, FramesSound, IsCatching, IsOfKind, ScopeHolds, SteppedSound, FrameStands, Typings, WaitingSound, WorldSound}
use Rattle.abc_meaning.specs.Throwing.{Ends, Stuck, catcher, catches, caught_at, goes_on, handlers_in, has_stack, is_caught_as, lands, unwinds}
use Rattle.abc_meaning.proofs.ValueKinds.{kinds_up, type_holds}

-- ---- the handler that is found is one that the verifier saw

in_filter : {X : Type 0} (test : X → Bool) (x : X) (xs : List X) → In x xs → test x ≡ true → In x (filter test xs)
in_filter test x [] h t = absurd h
in_filter test x (y ∷ ys) h t = go (λ k. in_filter test x ys k t) (test y) refl h
  where
    go : (In x ys → In x (filter test ys)) → (b : Bool) → test y ≡ b → (x ≡ y) ⊎ In x ys → In x (cond b (y ∷ filter test ys) (filter test ys))
    go rec true is (inl w) = inl w
    go rec true is (inr k) = inr (rec k)
    go rec false is (inl w) = absurd (false≢true (sym is ∙ ap test (sym w) ∙ t))
    go rec false is (inr k) = rec k

record IsCatchOf (l : LinkedFile) (h : Handler) (c : Catch) : Type 0 where
  from : c.from ≡ h.from
  to : c.to ≡ h.to
  target : c.target ≡ h.target
  kind : c.kind ≡ or_any (type_at l h.exc_type)

abbrev HasCatch : LinkedFile → (Handler → Bool) → Handler → List Catch → Type 0
HasCatch l test h cs = (c : Catch) × In c cs × IsCatchOf l h c × (test h ≡ true)

catch_of : (l : LinkedFile) (b e : ℕ) (hs : List Handler) (test : Handler → Bool) (h : Handler) → find test hs ≡ Some h → HasCatch l test h (catches_from l b e hs)
catch_of l b e [] test h f = absurd cc
catch_of l b e (x ∷ xs) test h f = go (λ g. catch_of l b (suc e) xs test h g) (test x) refl f
  where
    own : Catch
    own = record { from = x.from; to = x.to; target = x.target; kind = or_any (type_at l x.exc_type); layout = layout_of l (parts.Catch b e) }

    go : (find test xs ≡ Some h → HasCatch l test h (catches_from l b (suc e) xs)) → (t : Bool) → test x ≡ t → cond t (Some x) (find test xs) ≡ Some h → HasCatch l test h (own ∷ catches_from l b (suc e) xs)
    go rec true is g = let same : x ≡ h = cc in subst (λ y. HasCatch l test y (own ∷ catches_from l b (suc e) xs)) same (own, inl refl, record { from = refl; to = refl; target = refl; kind = refl }, is)
    go rec false is g = let r = rec g in (r.0, inr r.1, r.2, r.3)

-- a routine and its handlers are those of one body
catch_in : (p : Setting) (o : Option ℕ) (r : Routine) (test : Handler → Bool) (h : Handler) → routine_in p o ≡ Some r → find test (handlers_in p o) ≡ Some h → HasCatch p.linked test h r.handlers
catch_in p None r test h e f = absurd cc
catch_in p (Some b) r test h e f = let same : routine p.linked b ≡ r = cc in subst (λ (q : Routine). HasCatch p.linked test h q.handlers) same (catch_of p.linked b 0 (body_at p.linked.file b).handlers test h f)

-- ---- where it lands

some_handler : (c : Catch) (hs : List Catch) (b : Bool) → In c hs → (b || is_without_catches hs) ≡ true → b ≡ true
some_handler c hs true h e = refl
some_handler c [] false h e = absurd h
some_handler c (x ∷ hs) false h e = absurd cc

no_scopes : (l : LinkedFile) (h : Heap) (R : Scope → Scope → Type 0) (ss : List Scope) → Each2 R [] ss → Each2 (ScopeHolds l h) ss []
no_scopes l h R [] a = tt
no_scopes l h R (s ∷ ss) a = absurd a

caught_kind : (p : Setting) (w : World) (v : Value) → IsLinkedFile p.linked → Exists p.linked w.heap v → (o : Option Ty) → is_caught_as p w v o ≡ true → IsOfKind p.linked w.heap (or_any (kind_if p.linked o)) v
caught_kind p w v f x None e = absurd (false≢true e)
caught_kind p w v f x (Some t) e = record { exists = x; kind = type_holds p.linked w.heap t v f x e }

pub record CanCatch (p : Setting) (typings : Typings) (h : Heap) (f : Frame) : Type 0 where
  pub stands : FrameStands p h f
  pub catching : IsCatching p typings h f

abbrev Landing : Setting → Typings → World → Value → Frame → Handler → Type 0
Landing p typings w v f h = FrameSound p typings w.heap (caught_at v h.target f) × (has_stack (routine_of p f.method) ≡ true)

landed : (p : Setting) (typings : Typings) (w : World) (v : Value) (f : Frame) (h : Handler) → IsLinkedFile p.linked → AreTypings p typings → Exists p.linked w.heap v → CanCatch p typings w.heap f → catcher p w v f ≡ Some h → Landing p typings w v f h
landed p typings w v f h file typed x k found =
    let r = k.stands.routine in
    let s = k.catching.state in
    let test = catches p w v f.place in
    let has = catch_in p (body_of p.linked.file f.method) r test h k.stands.body found in
    let c = has.0 in
    let is = has.2 in
    let range = and_left (nat_le h.from f.place && nat_lt f.place h.to) (is_caught_as p w v (type_of p.linked h.exc_type)) has.3 in
    let sort = and_right (nat_le h.from f.place && nat_lt f.place h.to) (is_caught_as p w v (type_of p.linked h.exc_type)) has.3 in
    let covered : covers f.place c ≡ true = ap (λ a. nat_le a f.place && nat_lt f.place c.to) is.from ∙ ap (λ b. nat_le h.from f.place && nat_lt f.place b) is.to ∙ range in
    let inside = in_filter (covers f.place) c r.handlers has.1 covered in
    let typing = typed f.method r k.stands.body in
    let follow = typing.follows f.place s c.target (caught_state s c).1 k.catching.typed (in_right (caught_state s c) _ _ (map_in (caught_state s) c (covering r f.place) inside)) in
    let at = stands p.linked r f.place s (typing.fine f.place s k.catching.typed) in
    let some : nat_lt 0 r.max_stack ≡ true = some_handler c (covering r f.place) (nat_lt 0 r.max_stack) inside (and_right _ _ (at.kept StackOver)) in
    let room = ltb-true 0 r.max_stack some in
    let kind : IsOfKind p.linked w.heap c.kind v = subst (λ m. IsOfKind p.linked w.heap m v) (sym is.kind) (caught_kind p w v file x (type_of p.linked h.exc_type) sort) in (
      record {
        stands = record { routine = r; body = k.stands.body; home = k.stands.home; saved = k.stands.saved; locals = k.stands.locals; stack = omega (arith, room); scopes = omega arith };
        idle = refl;
        typed = record {
          state = follow.0;
          typed = ap (typings f.method) (sym is.target) ∙ follow.1;
          is = record {
            stack = kinds_up p.linked w.heap (c.kind ∷ []) follow.0.stack (v ∷ []) follow.2.stack (kind, tt);
            scopes = no_scopes p.linked w.heap (ScopeLe p.linked) follow.0.scopes follow.2.scopes;
            locals = kinds_up p.linked w.heap s.locals follow.0.locals f.locals follow.2.locals k.catching.locals;
          };
        };
      },
      ap has_stack k.stands.body ∙ some,
    )

-- ---- frames that are left one after the other

pub can_catch : (p : Setting) (typings : Typings) (h : Heap) (f : Frame) → WaitingSound p typings h f → CanCatch p typings h f
can_catch p typings h f s = record { stands = s.stands; catching = s.catches }

pub newest : (p : Setting) (typings : Typings) (h : Heap) (f : Frame) → FrameSound p typings h f → CanCatch p typings h f
newest p typings h f s = record { stands = s.stands; catching = record { state = s.typed.state; typed = s.typed.typed; locals = s.typed.is.locals } }

pub fewer : (p : Setting) (limits : Limits) (f g : Frame) (fs : List Frame) → FramesFit p limits (f ∷ g ∷ fs) → FramesFit p limits (g ∷ fs)
fewer p limits f g fs fit = let a = fit.frames in let b = fit.stack in record { frames = omega arith; stack = omega arith }

pub unwinding : (p : Setting) (typings : Typings) (w : World) (v : Value) → IsLinkedFile p.linked → AreTypings p typings → WorldSound p w → Exists p.linked w.heap v → (f : Frame) (fs : List Frame) → CanCatch p typings w.heap f → Each (WaitingSound p typings w.heap) fs → FramesFit p w.heap.limits (f ∷ fs) → SteppedSound p typings (unwinds p w v (f ∷ fs))
unwinding p typings w v file typed world x f [] k ws fit = go (catcher p w v f) refl
  where
    go : (o : Option Handler) → catcher p w v f ≡ o → SteppedSound p typings (lands p w v f [] o (unwinds p w v []))
    go None is = ((λ e. absurd cc), world)
    go (Some h) is =
        let landing = landed p typings w v f h file typed x k is in
        subst (λ b. SteppedSound p typings (cond b (goes_on w (caught_at v h.target f ∷ [])) (Ends w Stuck))) (sym landing.1) (record { world = world; frames = (landing.0, ws); room = record { frames = fit.frames; stack = fit.stack } })
unwinding p typings w v file typed world x f (g ∷ gs) k ws fit = go (unwinding p typings w v file typed world x g gs (can_catch p typings w.heap g ws.0) ws.1 (fewer p w.heap.limits f g gs fit)) (catcher p w v f) refl
  where
    go : SteppedSound p typings (unwinds p w v (g ∷ gs)) → (o : Option Handler) → catcher p w v f ≡ o → SteppedSound p typings (lands p w v f (g ∷ gs) o (unwinds p w v (g ∷ gs)))
    go rest None is = rest
    go rest (Some h) is =
        let landing = landed p typings w v f h file typed x k is in
        subst (λ b. SteppedSound p typings (cond b (goes_on w (caught_at v h.target f ∷ g ∷ gs)) (Ends w Stuck))) (sym landing.1) (record { world = world; frames = (landing.0, ws); room = record { frames = fit.frames; stack = fit.stack } })

all_frames : (p : Setting) (typings : Typings) (w : World) (v : Value) → IsLinkedFile p.linked → AreTypings p typings → WorldSound p w → Exists p.linked w.heap v → (fs : List Frame) → FramesSound p typings w.heap fs → FramesFit p w.heap.limits fs → SteppedSound p typings (unwinds p w v fs)
all_frames p typings w v file typed world x [] s fit = ((λ e. absurd cc), world)
all_frames p typings w v file typed world x (f ∷ fs) s fit = unwinding p typings w v file typed world x f fs (newest p typings w.heap f s.0) s.1 fit

pub throws_stay_sound : ThrowsStaySound
throws_stay_sound p typings q v verified typed sound x = all_frames p typings q.world v verified.linked typed sound.world x q.frames sound.frames sound.room
