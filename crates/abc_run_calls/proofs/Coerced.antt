-- Arguments are coerced one after another.
use Rattle.std.proofs.Common.{◌≡◌, ℕ, suc, ◌+◌, ◌<◌, ◌≤◌, List, [], ◌∷◌, ◌++◌, length, drop, get_or, refl, sym, ap, ◌∙◌, subst, append_assoc, arith}
use Rattle.std.proofs.Math.Seq.{drop-cons}
use Rattle.std.proofs.lemmas.List.{append-nil, drop-append-le, drop-drop, drop_all, length_push}
use Rattle.abc_heap_values.specs.Filling.{Filling}
use Rattle.abc_run_state.proofs.Keeping.{set_stays}
use Rattle.abc_objects.proofs.Grown.{grows_on, grows_self}
use Rattle.abc_link_names.specs.Linked.{LinkedFile}
use Rattle.abc_frames.specs.Frame.{Frames, arguments as operands, newest}
use Rattle.abc_run_state.specs.Outer.{Outer, setting_in, world}
use Rattle.abc_run_state.specs.Standing.{IsSet, IsStateThere, Stays}
use Rattle.abc_run_state.specs.declared.state.State.{State}
use Rattle.abc_file_types.specs.declared.methods.Method.{Method}
use Rattle.std.specs.declared.option.Option.{Option}
use Rattle.abc_heap_values.specs.declared.values.Value.{Value}
use Rattle.abc_file_types.specs.declared.methods.OptionValue.{OptionValue}
use Rattle.abc_run_calls.specs.Arguments.{Makes, coerces_first, first_receiver}
use Rattle.abc_run_state.specs.Stops.{IsOpen}
use Rattle.abc_run_state.proofs.Turning.{and_then_is, and_then_same, open_first}
use Rattle.abc_meaning.specs.Entering.{coerced_arguments, coerces_to, gives_option}
use Rattle.abc_meaning.specs.Setting.{Setting, options_of}
use Rattle.abc_meaning.specs.World.{Outcome, Run, Stop, Stopped, Went, World, and_then, pure, ◌>>=◌}

-- what follows the first
abbrev rest_of : Setting → List ℕ → List (Option OptionValue) → List Value → Value → Run (List Value)
rest_of p ts os vs c = coerced_arguments p ts os vs >>= λ cs. pure (c ∷ cs)

-- the first, and then the others
coerced_first : (p : Setting) (t : ℕ) (ts : List ℕ) (o : Option OptionValue) (os : List (Option OptionValue)) (vs : List Value) (w : World) → coerced_arguments p (t ∷ ts) (o ∷ os) vs w ≡ and_then (coerces_first p t (o ∷ os) vs w) (rest_of p ts os (drop 1 vs))
coerced_first p t ts o os [] w = sym (and_then_is (gives_option p o w) (coerces_to p t) (rest_of p ts os []))
coerced_first p t ts o os (v ∷ vs) w = refl

-- so many were coerced, and the others are to be
pub record IsMadeBy (p : Setting) (start : Outcome (List Value)) (ts : List ℕ) (os : List (Option OptionValue)) (vs : List Value) (w : World) (made : List Value) : Type 0 where
  pub so : start ≡ and_then (coerced_arguments p ts os vs w) (λ cs. pure (made ++ cs))
  pub free : IsOpen (coerced_arguments p ts os vs w)

pub begins : (p : Setting) (ts : List ℕ) (os : List (Option OptionValue)) (vs : List Value) (w : World) → IsOpen (coerced_arguments p ts os vs w) → IsMadeBy p (coerced_arguments p ts os vs w) ts os vs w []
begins p ts os vs w h = record { so = go (coerced_arguments p ts os vs w); free = h }
  where
    go : (o : Outcome (List Value)) → o ≡ and_then o (λ cs. pure ([] ++ cs))
    go (Went n cs) = refl
    go (Stopped n why) = refl

-- the first isn't stuck
pub first_open : (p : Setting) (start : Outcome (List Value)) (t : ℕ) (ts : List ℕ) (os : List (Option OptionValue)) (vs : List Value) (w : World) (made : List Value) → IsMadeBy p start (t ∷ ts) os vs w made → IsOpen (coerces_first p t os vs w)
first_open p start t ts [] vs w made m = absurd m.free
first_open p start t ts (o ∷ os) vs w made m = open_first (coerces_first p t (o ∷ os) vs w) (rest_of p ts os (drop 1 vs)) (subst (λ (x : Outcome (List Value)). IsOpen x) (coerced_first p t ts o os vs w) m.free)

pub goes_on : (p : Setting) (start : Outcome (List Value)) (t : ℕ) (ts : List ℕ) (os : List (Option OptionValue)) (vs : List Value) (w n : World) (c : Value) (made : List Value) → IsMadeBy p start (t ∷ ts) os vs w made → coerces_first p t os vs w ≡ Went n c → IsMadeBy p start ts (drop 1 os) (drop 1 vs) n (made ++ c ∷ [])
goes_on p start t ts [] vs w n c made m e = absurd m.free
goes_on p start t ts (o ∷ os) vs w n c made m e =
    let k = rest_of p ts os (drop 1 vs) in
    let first : coerced_arguments p (t ∷ ts) (o ∷ os) vs w ≡ k c n = coerced_first p t ts o os vs w ∙ ap (λ (x : Outcome Value). and_then x k) e in
    let rest = coerced_arguments p ts os (drop 1 vs) n in
    record {
      so = m.so ∙ ap (λ (x : Outcome (List Value)). and_then x (λ cs. pure (made ++ cs))) first
          ∙ and_then_is rest (λ cs. pure (c ∷ cs)) (λ cs. pure (made ++ cs))
          ∙ and_then_same rest (λ cs. pure (made ++ (c ∷ cs))) (λ cs. pure ((made ++ c ∷ []) ++ cs)) (λ x cs. ap (λ (ds : List Value). Went x ds) (sym (append_assoc made (c ∷ []) cs)));
      free = open_first rest (λ cs. pure (c ∷ cs)) (subst (λ (x : Outcome (List Value)). IsOpen x) first m.free);
    }

pub stops_there : (p : Setting) (start : Outcome (List Value)) (t : ℕ) (ts : List ℕ) (os : List (Option OptionValue)) (vs : List Value) (w n : World) (why : Stop) (made : List Value) → IsMadeBy p start (t ∷ ts) os vs w made → coerces_first p t os vs w ≡ Stopped n why → start ≡ Stopped n why
stops_there p start t ts [] vs w n why made m e = absurd m.free
stops_there p start t ts (o ∷ os) vs w n why made m e =
    let k = rest_of p ts os (drop 1 vs) in
    m.so ∙ ap (λ (x : Outcome (List Value)). and_then x (λ cs. pure (made ++ cs))) (coerced_first p t ts o os vs w ∙ ap (λ (x : Outcome Value). and_then x k) e)

pub all_made : (p : Setting) (start : Outcome (List Value)) (os : List (Option OptionValue)) (vs : List Value) (w : World) (made : List Value) → IsMadeBy p start [] os vs w made → start ≡ Went w made
all_made p start os vs w made m = m.so ∙ ap (λ (cs : List Value). Went w cs) (append-nil made)

same_made : (p : Setting) (start : Outcome (List Value)) (ts ts' : List ℕ) (os os' : List (Option OptionValue)) (vs vs' : List Value) (w : World) (made made' : List Value) → ts ≡ ts' → os ≡ os' → vs ≡ vs' → made ≡ made' → IsMadeBy p start ts os vs w made → IsMadeBy p start ts' os' vs' w made'
same_made p start ts ts' os os' vs vs' w made made' a b c d m =
    subst (λ (xs : List Value). IsMadeBy p start ts' os' vs' w xs) d
    (subst (λ (xs : List Value). IsMadeBy p start ts' os' xs w made) c
    (subst (λ (xs : List (Option OptionValue)). IsMadeBy p start ts' xs vs w made) b
    (subst (λ (xs : List ℕ). IsMadeBy p start xs os vs w made) a m)))

-- ---- the first locals of a method: the receiver is there, and then the arguments, so many by now

pub record AreMade (l : LinkedFile) (out : Outer) (m : Method) (count k : ℕ) (old now : State) : Type 0 where
  pub made : IsMadeBy (setting_in l out) (coerced_arguments (setting_in l out) m.params (options_of m) (operands count (newest old.frames)) (world old out)) (drop k m.params) (drop k (options_of m)) (drop k (operands count (newest now.frames))) (world now out) (drop 1 now.given.items)
  pub makes : Makes l old now
  pub frame : IsStateThere l now.arena (newest now.frames)
  pub many : length now.given.items ≡ k + 1
  pub first : first_receiver now.given.items ≡ first_receiver old.given.items

pub makes_self : (l : LinkedFile) (s : State) → IsSet l s → Makes l s s
makes_self l s t = record { over = t.over; grows = grows_self s.arena; frames = refl; started = refl; limit = refl }

pub makes_on : (l : LinkedFile) (old now new : State) → Makes l old now → Stays l now new → Makes l old new
makes_on l old now new m s = record {
  over = s.over;
  grows = grows_on old.arena now.arena new.arena m.grows s.grows;
  frames = s.frames ∙ m.frames;
  started = s.started ∙ m.started;
  limit = ap (λ (g : Filling Value). g.limit) s.given ∙ m.limit;
}

pub is_set : (l : LinkedFile) (out : Outer) (m : Method) (count k : ℕ) (old now : State) → AreMade l out m count k old now → IsSet l now
is_set l out m count k old now a = record { over = a.makes.over; frame = a.frame }

pub none_made : (l : LinkedFile) (out : Outer) (m : Method) (count : ℕ) (s : State) → IsSet l s → length s.given.items ≡ 1 → IsOpen (coerced_arguments (setting_in l out) m.params (options_of m) (operands count (newest s.frames)) (world s out)) → AreMade l out m count 0 s s
none_made l out m count s t alone h =
    let p = setting_in l out in
    let vs = operands count (newest s.frames) in
    let none : drop 1 s.given.items ≡ [] = drop_all 1 s.given.items (omega (arith, alone)) in
    record {
      made = same_made p _ m.params m.params (options_of m) (options_of m) vs vs (world s out) [] (drop 1 s.given.items) refl refl refl (sym none) (begins p m.params (options_of m) vs (world s out) h);
      makes = makes_self l s t;
      frame = t.frame;
      many = omega (arith, alone);
      first = refl;
    }

-- the next parameter is of this type
abbrev IsNext : Method → (k t : ℕ) → Type 0
IsNext m k t = drop k m.params ≡ t ∷ drop (suc k) m.params

-- what its argument comes to
abbrev pub next_of : LinkedFile → Outer → Method → (count k t : ℕ) → State → Outcome Value
next_of l out m count k t now = coerces_first (setting_in l out) t (drop k (options_of m)) (drop k (operands count (newest now.frames))) (world now out)

abbrev all_of : LinkedFile → Outer → Method → (count : ℕ) → State → Outcome (List Value)
all_of l out m count old = coerced_arguments (setting_in l out) m.params (options_of m) (operands count (newest old.frames)) (world old out)

at_next : (l : LinkedFile) (out : Outer) (m : Method) (count k t : ℕ) (old now : State) → IsNext m k t → AreMade l out m count k old now
    → IsMadeBy (setting_in l out) (all_of l out m count old) (t ∷ drop (suc k) m.params) (drop k (options_of m)) (drop k (operands count (newest now.frames))) (world now out) (drop 1 now.given.items)
at_next l out m count k t old now next a = subst (λ (ts : List ℕ). IsMadeBy (setting_in l out) (all_of l out m count old) ts (drop k (options_of m)) (drop k (operands count (newest now.frames))) (world now out) (drop 1 now.given.items)) next a.made

pub next_open : (l : LinkedFile) (out : Outer) (m : Method) (count k t : ℕ) (old now : State) → IsNext m k t → AreMade l out m count k old now → IsOpen (next_of l out m count k t now)
next_open l out m count k t old now next a =
    first_open (setting_in l out) (all_of l out m count old) t (drop (suc k) m.params) (drop k (options_of m)) (drop k (operands count (newest now.frames))) (world now out) (drop 1 now.given.items) (at_next l out m count k t old now next a)

pub next_stops : (l : LinkedFile) (out : Outer) (m : Method) (count k t : ℕ) (old now : State) (n : World) (why : Stop) → IsNext m k t → AreMade l out m count k old now → next_of l out m count k t now ≡ Stopped n why → all_of l out m count old ≡ Stopped n why
next_stops l out m count k t old now n why next a e =
    stops_there (setting_in l out) (all_of l out m count old) t (drop (suc k) m.params) (drop k (options_of m)) (drop k (operands count (newest now.frames))) (world now out) n why (drop 1 now.given.items) (at_next l out m count k t old now next a) e

first_kept : (xs ys : List Value) → 0 < length xs → first_receiver (xs ++ ys) ≡ first_receiver xs
first_kept [] ys h = absurd (omega arith)
first_kept (x ∷ xs) ys h = refl

pub next_made : (l : LinkedFile) (out : Outer) (m : Method) (count k t : ℕ) (old now mid : State) (given : Filling Value) (v : Value) → IsNext m k t → AreMade l out m count k old now → next_of l out m count k t now ≡ Went (world mid out) v → Stays l now mid
    → given ≡ record { items = mid.given.items ++ v ∷ []; limit = mid.given.limit } → AreMade l out m count (k + 1) old (record mid { given = given })
next_made l out m count k t old now mid given v next a e s is =
    let p = setting_in l out in
    let os = options_of m in
    let was = operands count (newest now.frames) in
    let vs = operands count (newest mid.frames) in
    let made = drop 1 now.given.items in
    let one : suc k ≡ k + 1 = omega arith in
    let some : 0 < length now.given.items = let many = a.many in omega (arith, many) in
    let items : given.items ≡ now.given.items ++ v ∷ [] = ap (λ (g : Filling Value). g.items) is ∙ ap (λ (g : Filling Value). g.items ++ v ∷ []) s.given in
    let more : drop 1 given.items ≡ made ++ v ∷ [] = ap (λ (xs : List Value). drop 1 xs) items ∙ drop-append-le 1 now.given.items (v ∷ []) (omega (arith, some)) in
    let moved : drop (k + 1) was ≡ drop (k + 1) vs = ap (λ (q : Frames). drop (k + 1) (operands count (newest q))) (sym s.frames) in
    let g = goes_on p (all_of l out m count old) t (drop (suc k) m.params) (drop k os) (drop k was) (world now out) (world mid out) v made (at_next l out m count k t old now next a) e in
    let to = makes_on l old now mid a.makes s in
    let set = set_stays l now mid s (is_set l out m count k old now a) in
    record {
      made = same_made p (all_of l out m count old) (drop (suc k) m.params) (drop (k + 1) m.params) (drop 1 (drop k os)) (drop (k + 1) os) (drop 1 (drop k was)) (drop (k + 1) vs) (world mid out) (made ++ v ∷ []) (drop 1 given.items)
          (ap (λ n. drop n m.params) one) (drop-drop 1 k os) (drop-drop 1 k was ∙ moved) (sym more) g;
      makes = record { over = to.over; grows = to.grows; frames = to.frames; started = to.started; limit = ap (λ (g : Filling Value). g.limit) is ∙ to.limit };
      frame = set.frame;
      many = ap length items ∙ length_push now.given.items v ∙ ap (λ n. n + 1) a.many;
      first = ap first_receiver items ∙ first_kept now.given.items (v ∷ []) some ∙ a.first;
    }

pub none_left : (l : LinkedFile) (out : Outer) (m : Method) (count k : ℕ) (old now : State) → length m.params ≤ k → AreMade l out m count k old now → all_of l out m count old ≡ Went (world now out) (drop 1 now.given.items)
none_left l out m count k old now h a =
    let none : drop k m.params ≡ [] = drop_all k m.params h in
    let os = drop k (options_of m) in
    let vs = drop k (operands count (newest now.frames)) in
    all_made (setting_in l out) (all_of l out m count old) os vs (world now out) (drop 1 now.given.items) (subst (λ (ts : List ℕ). IsMadeBy (setting_in l out) (all_of l out m count old) ts os vs (world now out) (drop 1 now.given.items)) none a.made)

-- the type of parameter k, by the list of them
pub type_next : (m : Method) (types : List ℕ) (k : ℕ) → types ≡ m.params → k < length types → IsNext m k (get_or types k 0)
type_next m types k e lt =
    ap (λ (ts : List ℕ). drop k ts) (sym e) ∙ drop-cons types k 0 lt ∙ ap (λ (ts : List ℕ). get_or types k 0 ∷ drop (suc k) ts) e
