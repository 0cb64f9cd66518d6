-- A method that is entered has a sound frame.
use Rattle.std.proofs.Common.{◌≡◌, ℕ, zero, suc, ◌+◌, ◌-◌, ◌≤◌, ◌<◌, List, [], ◌∷◌, ◌++◌, length, take, drop, set, refl, sym, ap, ◌∙◌, subst, arith, length-append, length-set, le-leb}
use Rattle.std.specs.Prelude.{Bool, true, false, ◌||◌, map, replicate, nat_le, Some, None, if◌then◌else◌}
use Rattle.std.specs.declared.option.Option.{Option}
use Rattle.std.proofs.lemmas.Bool.{leb-true}
use Rattle.std.proofs.lemmas.List.{length-replicate, length-take}
use Rattle.abc_base.specs.declared.names.Fault.TheVariants as faults
use Rattle.abc_base.specs.declared.names.HostClass.TheVariants as hosts
use Rattle.abc_heap_values.specs.declared.values.Value.{Value}
use Rattle.abc_heap_values.specs.declared.values.Value.TheVariants.{Undefined, Obj}
use Rattle.abc_heap_store.specs.Heap.{Heap}
use Rattle.abc_objects.specs.Stands.{IsScope}
use Rattle.abc_objects.specs.Values.{Exists}
use Rattle.abc_objects.proofs.Grown.{scope_grown}
use Rattle.abc_objects.proofs.Opened.{global_made}
use Rattle.abc_link_names.specs.Linked.{LinkedFile, layout_of}
use Rattle.abc_link_names.specs.Owners.{owner_of}
use Rattle.abc_link_names.specs.Tree.{IsBelow}
use Rattle.abc_link_names.specs.Types.{kind_of_type, type_of}
use Rattle.abc_link_names.specs.declared.part.Part.TheVariants as parts
use Rattle.abc_link_names.specs.declared.types.Kind.{Kind}
use Rattle.abc_link_names.specs.declared.types.Kind.TheVariants as kinds
use Rattle.abc_link_names.proofs.Tree.{below_self}
use Rattle.abc_link_names.specs.PartsByNumber.{script_at}
use Rattle.abc_file_types.specs.Methods.{has_flag}
use Rattle.abc_file_types.specs.declared.methods.Method.{Method}
use Rattle.abc_file_types.specs.declared.methods.OptionValue.{OptionValue}
use Rattle.abc_verify_typing.specs.Lists.{Each, Each2}
use Rattle.abc_verify_typing.specs.Routines.{Routine, arrays, kind_if, kind_of_part, or_any, this_kind, type_at}
use Rattle.abc_verify_typing.specs.Typing.{entry}
use Rattle.abc_verify_typing.specs.declared.rule.VerifyRule.TheVariants.{Parameters}
use Rattle.abc_verify_typing.proofs.Fine.{stands}
use Rattle.abc_verify_typing.proofs.Lists.{Each2-append, Each2-length, Each2-take}
use Rattle.abc_verify_typing.proofs.Member.{and_left}
use Rattle.abc_meaning.specs.Entering.{arguments_for, array_of, coerced_arguments, coerces_to, enters, enters_owned, extra, frame_for, gives_option, global, or_double, starts_script}
use Rattle.abc_frames.specs.Frame.{Frame}
use Rattle.abc_meaning.specs.Objects.{Place, place}
use Rattle.abc_meaning.specs.Setting.{Setting, may_take_arguments, method_of, options_of, routine_of, value_of_option}
use Rattle.abc_meaning.specs.World.{Errs, Faults, World, and_then, pure, throws}
use Rattle.abc_meaning.specs.Sound.{AreTypings, FrameSound, IsOfKind, Typings, WorldSound}
use Rattle.abc_meaning_sound.specs.Given.{FileGiven, HasBody, IsMethod, IsType, OptionExists, OpsGiven, OwnedSound}
use Rattle.abc_meaning_sound.specs.Keeping.{Fares, LeavesSound}
use Rattle.abc_meaning_sound.proofs.Faring.{done_fares, fares_from, if_fares, must_then, some_then, stop_fares, then_fares}
use Rattle.abc_meaning_sound.proofs.Growing.{evolves_self, kind_on, kinds_on, state_up, values_on}
use Rattle.abc_meaning_sound.proofs.Lists.{each_drop}
use Rattle.abc_meaning_sound.proofs.Made.{new_array_fares}

-- ---- options: those of the arguments that are missing are there

abbrev IsOption : Option OptionValue → Type 0
IsOption None = ⊥
IsOption (Some o) = Unit {0}

abbrev AreProvided : List ℕ → List (Option OptionValue) → ℕ → Type 0
AreProvided [] os n = Unit {0}
AreProvided (t ∷ ts) [] n = ⊥
AreProvided (t ∷ ts) (o ∷ os) zero = IsOption o × AreProvided ts os zero
AreProvided (t ∷ ts) (o ∷ os) (suc n) = AreProvided ts os n

all_given : (ts : List ℕ) (xs : List OptionValue) (n : ℕ) → length ts ≤ length xs → AreProvided ts (map Some xs) n
all_given [] xs n h = tt
all_given (t ∷ ts) [] n h = absurd (omega (arith, h))
all_given (t ∷ ts) (x ∷ xs) zero h = (tt, all_given ts xs zero (omega (arith, h)))
all_given (t ∷ ts) (x ∷ xs) (suc n) h = all_given ts xs n (omega (arith, h))

behind_given : (k : ℕ) (ts : List ℕ) (xs : List OptionValue) (n : ℕ) → k ≤ n → length ts ≤ k + length xs → AreProvided ts (replicate k None ++ map Some xs) n
behind_given zero ts xs n a b = all_given ts xs n (omega (arith, b))
behind_given (suc k) [] xs n a b = tt
behind_given (suc k) (t ∷ ts) xs zero a b = absurd (omega (arith, a))
behind_given (suc k) (t ∷ ts) xs (suc n) a b = behind_given k ts xs n (omega (arith, a)) (omega (arith, b))

provided : (m : Method) (n : ℕ) → may_take_arguments m n ≡ true → AreProvided m.params (options_of m) n
provided m n e =
    let a = leb-true (length m.params - length m.options) n (and_left (nat_le (length m.params - length m.options) n) _ e) in
    behind_given (length m.params - length m.options) m.params m.options n a (omega arith)

-- ---- locals

undefined_hold : (l : LinkedFile) (h : Heap) (k : ℕ) → Each2 (IsOfKind l h) (replicate k kinds.Undef) (replicate k Undefined)
undefined_hold l h zero = tt
undefined_hold l h (suc k) = (record { exists = tt; kind = tt }, undefined_hold l h k)

filled_up : (k : ℕ) (vs : List Value) → length (take k (vs ++ replicate k Undefined)) ≡ k
filled_up k vs =
    let a = length-take k (vs ++ replicate k Undefined) in
    let b = length-append vs (replicate k Undefined) in
    let c = length-replicate k Undefined in
    omega (arith, a, b, c)

module _ (p : Setting) (file : FileGiven p) (ops : OpsGiven p) where
  abbrev pub param_kind : ℕ → Kind
  param_kind t = or_any (type_at p.linked t)

  pub kind_is : (t : ℕ) (i : IsType p.linked t) → or_any (type_at p.linked t) ≡ kind_of_type p.linked i.ty
  kind_is t i = ap (λ o. or_any (kind_if p.linked o)) i.is

  pub coerces_to_fares : (w : World) (t : ℕ) (v : Value) → IsType p.linked t → WorldSound p w → Exists p.linked w.heap v → Fares p w (coerces_to p t v w) (λ n x. IsOfKind p.linked n.heap (param_kind t) x)
  coerces_to_fares w t v i s e =
      some_then p w (type_of p.linked t) i.ty _ _ i.is (subst (λ k. Fares p w (Rattle.abc_meaning.specs.Ops.coerces p i.ty v w) (λ n x. IsOfKind p.linked n.heap k x)) (sym (kind_is t i)) (ops.coerce w i.ty v s e))

  option_fares : (w : World) (o : Option OptionValue) → WorldSound p w → OptionExists p o → IsOption o → Fares p w (gives_option p o w) (λ n v. Exists p.linked n.heap v)
  option_fares w None s h i = absurd i
  option_fares w (Some o) s h i = go (value_of_option p o) refl
    where
      go : (v : Option Value) → value_of_option p o ≡ v → Fares p w (or_double v w) (λ n v. Exists p.linked n.heap v)
      go None is = stop_fares p w (Faults faults.Double) _ s tt
      go (Some v) is = done_fares p w v _ s (h w.heap v s.stands is)

  coerced_fares : (w : World) (ts : List ℕ) (os : List (Option OptionValue)) (vs : List Value) → WorldSound p w → Each (IsType p.linked) ts → Each (OptionExists p) os → AreProvided ts os (length vs) → Each (Exists p.linked w.heap) vs → Fares p w (coerced_arguments p ts os vs w) (λ n cs. Each2 (IsOfKind p.linked n.heap) (map param_kind ts) cs)
  coerced_fares w [] os vs s ht ho hp es = done_fares p w [] _ s tt
  coerced_fares w (t ∷ ts) [] vs s ht ho hp es = absurd hp
  coerced_fares w (t ∷ ts) (o ∷ os) [] s ht ho hp es =
      then_fares p w (gives_option p o w) _ (λ n v. Exists p.linked n.heap v) _ (option_fares w o s ho.0 hp.0) (λ n v l h.
      then_fares p n (coerces_to p t v n) _ (λ m c. IsOfKind p.linked m.heap (param_kind t) c) _ (coerces_to_fares n t v ht.0 l.sound h) (λ m c l' hc.
      then_fares p m (coerced_arguments p ts os [] m) _ (λ i cs. Each2 (IsOfKind p.linked i.heap) (map param_kind ts) cs) _ (coerced_fares m ts os [] l'.sound ht.1 ho.1 hp.1 tt) (λ i cs l'' hs.
      done_fares p i (c ∷ cs) _ l''.sound (kind_on p m.heap i.heap l''.grows (param_kind t) c hc, hs))))
  coerced_fares w (t ∷ ts) (o ∷ os) (v ∷ vs) s ht ho hp es =
      then_fares p w (coerces_to p t v w) _ (λ m c. IsOfKind p.linked m.heap (param_kind t) c) _ (coerces_to_fares w t v ht.0 s es.0) (λ m c l hc.
      then_fares p m (coerced_arguments p ts os vs m) _ (λ i cs. Each2 (IsOfKind p.linked i.heap) (map param_kind ts) cs) _ (coerced_fares m ts os vs l.sound ht.1 ho.1 hp (values_on p w.heap m.heap l.grows vs es.1)) (λ i cs l' hs.
      done_fares p i (c ∷ cs) _ l'.sound (kind_on p m.heap i.heap l'.grows (param_kind t) c hc, hs)))

  pub arguments_fares : (w : World) (n : ℕ) (r : Routine) (i : IsMethod p n r) (vs : List Value) → WorldSound p w → Each (Exists p.linked w.heap) vs → Fares p w (arguments_for p i.method vs w) (λ n cs. Each2 (IsOfKind p.linked n.heap) (map param_kind i.method.params) cs)
  arguments_fares w n r i vs s es =
      if_fares p w (may_take_arguments i.method (length vs)) (coerced_arguments p i.method.params (options_of i.method) vs) (throws hosts.ArgumentError) _
      (λ e. coerced_fares w i.method.params (options_of i.method) vs s i.params i.options (provided i.method (length vs) e) es)
      (λ e. stop_fares p w (Errs hosts.ArgumentError) _ s tt)

  array_kind : Kind
  array_kind = kind_of_part p.linked (parts.Host hosts.Array)

  array_of_fares : (w : World) (vs : List Value) → WorldSound p w → Each (Exists p.linked w.heap) vs → Fares p w (array_of p vs w) (λ n os. Each2 (IsOfKind p.linked n.heap) (kind_of_part p.linked (parts.Host hosts.Array) ∷ []) os)
  array_of_fares w vs s es = then_fares p w _ _ _ _ (new_array_fares p file w vs s es) (λ n o l h. done_fares p n (Obj o ∷ []) _ l.sound (h, tt))

  extra_by : (w : World) (k : ℕ) (vs : List Value) (four one : Bool) → WorldSound p w → Each (Exists p.linked w.heap) vs → Fares p w ((if four then array_of p (drop k vs) else (if one then array_of p vs else pure [])) w) (λ n os. Each2 (IsOfKind p.linked n.heap) (if one || four then kind_of_part p.linked (parts.Host hosts.Array) ∷ [] else []) os)
  extra_by w k vs true true s es = array_of_fares w (drop k vs) s (each_drop (Exists p.linked w.heap) k vs es)
  extra_by w k vs true false s es = array_of_fares w (drop k vs) s (each_drop (Exists p.linked w.heap) k vs es)
  extra_by w k vs false true s es = array_of_fares w vs s es
  extra_by w k vs false false s es = done_fares p w [] _ s tt

  extra_fares : (w : World) (m : Method) (vs : List Value) → WorldSound p w → Each (Exists p.linked w.heap) vs → Fares p w (extra p m vs w) (λ n os. Each2 (IsOfKind p.linked n.heap) (arrays p.linked m.flags) os)
  extra_fares w m vs s es = extra_by w (length m.params) vs (has_flag m.flags 0x04) (has_flag m.flags 0x01) s es

  module _ (typings : Typings) (typed : AreTypings p typings) where
    abbrev pub Entered : World → Frame → Type 0
    Entered n f = FrameSound p typings n.heap f

    -- what a call fills has room among the locals
    room_for_filled : (n : ℕ) (r : Routine) → routine_of p n ≡ Some r → length r.filled ≤ r.local_count
    room_for_filled n r body =
        let t = typed n r body in
        let at = stands p.linked r 0 t.start.0 (t.fine 0 t.start.0 t.start.1) in
        leb-true (length r.filled) r.local_count (at.kept Parameters)

    -- of arguments that are coerced
    pub framed_fares : (w : World) (n : ℕ) (r : Routine) (i : IsMethod p n r) (this : Value) (at : Place) (given vs : List Value) → WorldSound p w → routine_of p n ≡ Some r → IsOfKind p.linked w.heap (this_kind p.linked (owner_of p.linked.file n)) this → at.home < length p.linked.file.scripts → IsScope w.heap at.saved → Each (Exists p.linked w.heap) given → Each2 (IsOfKind p.linked w.heap) (map param_kind i.method.params) vs → Fares p w (frame_for p n i.method this at given vs w) Entered
    framed_fares w n r i this at given vs s body ht hh hs es hv =
        some_then p w (routine_of p n) r _ _ body
        (then_fares p w (extra p i.method given w) _ _ Entered (extra_fares w i.method given s es) (λ m os l ho.
        let all : Each2 (IsOfKind p.linked m.heap) (map param_kind i.method.params ++ arrays p.linked i.method.flags) (vs ++ os) = Each2-append (IsOfKind p.linked m.heap) _ _ _ _ (kinds_on p w.heap m.heap l.grows _ _ hv) ho in
        let these : Each2 (IsOfKind p.linked m.heap) r.filled (this ∷ vs ++ os) = subst (λ ks. Each2 (IsOfKind p.linked m.heap) ks (this ∷ vs ++ os)) (sym i.filled) (kind_on p w.heap m.heap l.grows _ this ht, all) in
        let count : length r.filled ≡ length (this ∷ vs ++ os) = Each2-length (IsOfKind p.linked m.heap) r.filled (this ∷ vs ++ os) these in
        let room = room_for_filled n r body in
        must_then p m (nat_le (length (this ∷ vs ++ os)) r.local_count) _ _ (le-leb _ _ (omega (arith, count, room)))
        (let begin = (typed n r body).start in
        done_fares p m _ _ l.sound (record {
          stands = record { routine = r; body = body; home = hh; saved = scope_grown w.heap m.heap at.saved l.grows.grows hs; locals = filled_up r.local_count (this ∷ vs ++ os); stack = omega arith; scopes = omega arith };
          idle = refl;
          typed = record { state = begin.0; typed = begin.1; is = state_up p.linked m.heap (entry r) begin.0 _ begin.2 (record { stack = tt; scopes = tt; locals = Each2-take (IsOfKind p.linked m.heap) r.local_count _ _ (Each2-append (IsOfKind p.linked m.heap) r.filled (this ∷ vs ++ os) _ _ these (undefined_hold p.linked m.heap r.local_count)) }) };
        }))))

    pub enters_fares : (w : World) (n : ℕ) (this : Value) (at : Place) (given : List Value) → WorldSound p w → HasBody p n → IsOfKind p.linked w.heap (this_kind p.linked (owner_of p.linked.file n)) this → at.home < length p.linked.file.scripts → IsScope w.heap at.saved → Each (Exists p.linked w.heap) given → Fares p w (enters p n this at given w) Entered
    enters_fares w n this at given s b ht hh hs es =
        let r = b.routine in
        let i = file.methods n r b.body in
        some_then p w (method_of p n) i.method _ _ i.at
        (then_fares p w (arguments_for p i.method given w) _ _ Entered (arguments_fares w n r i given s es) (λ m vs l hv.
        framed_fares m n r i this at given vs l.sound b.body (kind_on p w.heap m.heap l.grows _ this ht) hh (scope_grown w.heap m.heap at.saved l.grows.grows hs) (values_on p w.heap m.heap l.grows given es) hv))

    -- where its owner keeps it
    pub owned_fares : (w : World) (n : ℕ) (o : Rattle.abc_heap_values.specs.declared.values.ObjId.ObjId) (given : List Value) → WorldSound p w → OwnedSound p w n o → Each (Exists p.linked w.heap) given → Fares p w (enters_owned p n (Obj o) given w) Entered
    owned_fares w n o given s h es =
        subst (λ q. Fares p w (and_then q (λ at. enters p n (Obj o) at given)) Entered) (sym h.kept) (enters_fares w n (Obj o) h.place given s h.body h.this h.home h.saved es)

    -- ---- a script is started

    started_leaves : (w : World) (s : ℕ) → WorldSound p w → LeavesSound p w (record w { started = set w.started s true })
    started_leaves w s z = record { sound = record { stands = z.stands; objects = z.objects; formulas = z.formulas; scripts = length-set w.started s true ∙ z.scripts; within = z.within }; grows = evolves_self w.heap }

    pub global_kind : (w : World) (s : ℕ) → WorldSound p w → s < length p.linked.file.scripts → IsOfKind p.linked w.heap (kind_of_part p.linked (parts.Global s)) (global s w)
    global_kind w s z le =
        let g = global_made p.linked w.heap s z.stands le in
        record { exists = g.0; kind = (g.0, subst (λ x. IsBelow p.linked x (layout_of p.linked (parts.Global s)).0) (sym g.1.layout) (below_self p.linked (layout_of p.linked (parts.Global s)).0)) }

    pub starts_fares : (w : World) (s : ℕ) → WorldSound p w → s < length p.linked.file.scripts → Fares p w (starts_script p s w) Entered
    starts_fares w s z le =
        let n : World = record w { started = set w.started s true } in
        let l = started_leaves w s z in
        let i = file.inits s le in
        let this : IsOfKind p.linked n.heap (this_kind p.linked (owner_of p.linked.file (script_at p.linked.file s).init)) (global s n) = subst (λ o. IsOfKind p.linked n.heap (this_kind p.linked o) (global s n)) (sym i.owner_is) (global_kind n s l.sound le) in
        fares_from p w n _ _ l (enters_fares n (script_at p.linked.file s).init (global s n) (place s None) [] l.sound i.body this le tt tt)
