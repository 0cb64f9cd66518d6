-- The first locals of a method that are operands as they stand.
use Rattle.std.proofs.Common.{◌≡◌, ℕ, ℤ, suc, ◌+◌, ◌-◌, ◌<◌, ◌≤◌, List, [], ◌∷◌, ◌++◌, Bool, true, false, ◌||◌, ◌&&◌, nat_le, length, drop, get_or, if◌then◌else◌, refl, sym, ap, ◌∙◌, subst, arith, add-zero}
use Rattle.std.specs.Prelude.{None, Some, Ok, Err, IsSome, slice_get}
use Rattle.std.specs.declared.option.Option.{Option}
use Rattle.std.specs.Int.{int_wrap, w32}
use Rattle.std.proofs.Math.Seq.{drop-cons}
use Rattle.std.proofs.lemmas.Bool.{false≢true}
use Rattle.std.proofs.lemmas.Bool.Decides.{nat_tests}
use Rattle.std.proofs.lemmas.Grind.{common_steps}
use Rattle.std.proofs.lemmas.List.{append-nil, drop_all}
use Rattle.abc_base.specs.declared.names.HostClass.TheVariants.{ArgumentError}
use Rattle.abc_heap_values.specs.declared.values.ObjId.{ObjId}
use Rattle.abc_heap_values.specs.declared.values.Span.{Span}
use Rattle.abc_heap_values.specs.declared.values.Value.{Value}
use Rattle.abc_heap_values.specs.declared.values.Value.TheVariants as values
use Rattle.abc_heap_store.specs.declared.records.Full.{Full}
use Rattle.abc_link_names.specs.Linked.{LinkedFile}
use Rattle.abc_link_names.specs.Owners.{body_of}
use Rattle.abc_link_names.specs.declared.types.Ty.TheVariants as types
use Rattle.abc_frames.specs.Frame.{Frame, Frames, arguments as operands, frame_of_entry, after_drop, after_entry, newest, room_for, waiting}
use Rattle.abc_frames.specs.declared.records.Entry.{Entry}
use Rattle.abc_frames.specs.declared.records.Wait.{Wait}
use Rattle.abc_file_types.specs.Methods.{has_flag}
use Rattle.abc_file_types.specs.declared.methods.Method.{Method}
use Rattle.abc_file_types.specs.declared.methods.OptionValue.{OptionValue}
use Rattle.abc_verify_typing.specs.Routines.{takes_array}
use Rattle.abc_meaning.specs.At.{Above, Act, Goes}
use Rattle.abc_meaning.specs.Entering.{arguments_for, array_of, coerced_arguments, coerces_to, enters, extra, frame_for}
use Rattle.abc_meaning.specs.Objects.{Place}
use Rattle.abc_run_state.specs.Operands.{operand_at}
use Rattle.abc_meaning.specs.Ops.{coerces}
use Rattle.abc_run_state.specs.Outer.{Outer, setting_in}
use Rattle.abc_meaning.specs.Setting.{Setting, may_take_arguments, method_of, options_of, routine_in, routine_of}
use Rattle.abc_run_state.specs.Stops.{IsOpen}
use Rattle.abc_run_state.specs.Turns.{GoesOn, Halts, bare_newest, turn_of}
use Rattle.abc_meaning.specs.World.{Fills, Outcome, Run, Went, World, and_then, pure, some, throws, ◌>>=◌}
use Rattle.abc_run_calls.specs.Arguments.{makes_arguments}
use Rattle.abc_run_calls.specs.Entering.{above_taken, enters_above, entry_for, puts_on}
use Rattle.abc_run_calls.specs.InPlace.{AreOfTypes, StandsInPlace}
use Rattle.abc_run_state.specs.OfType.{IsOfNamed}
use Rattle.abc_run_calls.proofs.Entered.{entered_is}
use Rattle.abc_run_calls.proofs.Opened.{some_is, some_open}
use Rattle.abc_run_calls.proofs.Operands.{count_given, dropped_given, given_at, none_given}
use Rattle.abc_run_calls.proofs.Putting.{body_there, puts_fits, puts_is, topped_on}
use Rattle.abc_run_state.proofs.Turning.{open_first}

pub same_object : (x o : ObjId) → x.0 ≡ o.0 → values.Obj x ≡ values.Obj o
same_object x o e = ap (λ (n : ℕ). values.Obj (record { 0 = n })) e

-- ---- one argument after another: those from the k-th on are as they stand

abbrev pub StaysFrom : LinkedFile → Method → (count : ℕ) → Frame → (k : ℕ) → Type 0
StaysFrom l m count f k = (out : Outer) (w : World) → coerced_arguments (setting_in l out) (drop k m.params) (drop k (options_of m)) (drop k (operands count f)) w ≡ Went w (drop k (operands count f))

-- that is enough for all
abbrev pub Suffices : LinkedFile → Method → (count : ℕ) → Frame → (k : ℕ) → Type 0
Suffices l m count f k = StaysFrom l m count f k → AreOfTypes l m count f

options_many : (m : Method) → length m.params ≤ length (options_of m)
options_many m = grind (arith, common_steps)

one_more : (p : Setting) (t : ℕ) (ts : List ℕ) (o : Option OptionValue) (os : List (Option OptionValue)) (v : Value) (vs : List Value) (w : World) → coerces_to p t v w ≡ Went w v → coerced_arguments p ts os vs w ≡ Went w vs → coerced_arguments p (t ∷ ts) (o ∷ os) (v ∷ vs) w ≡ Went w (v ∷ vs)
one_more p t ts o os v vs w a b =
    ap (λ (x : Outcome Value). and_then x (λ c. coerced_arguments p ts os vs >>= λ cs. pure (c ∷ cs))) a
    ∙ ap (λ (x : Outcome (List Value)). and_then x (λ cs. pure (v ∷ cs))) b

pub stays_more : (l : LinkedFile) (m : Method) (count k t : ℕ) (f : Frame) → k < count → count ≤ length f.stack → length m.params ≡ count → drop k m.params ≡ t ∷ drop (suc k) m.params → IsOfNamed l t (operand_at (count - 1 - k) f) → StaysFrom l m count f (k + 1) → StaysFrom l m count f k
stays_more l m count k t f lt fits many next is rest = λ out w.
    let p = setting_in l out in
    let v = operand_at (count - 1 - k) f in
    let ts = drop (suc k) m.params in
    let os = options_of m in
    let vs = operands count f in
    let left = options_many m in
    let one : k + 1 ≡ suc k = omega arith in
    let os_are : drop k os ≡ get_or os k None ∷ drop (suc k) os = drop-cons os k None (omega (arith, left, many)) in
    let vs_are : drop k vs ≡ v ∷ drop (suc k) vs = given_at f count k lt fits in
    let more = subst (λ j. StaysFrom l m count f j) one rest out w in
    ap (λ (xs : List ℕ). coerced_arguments p xs (drop k os) (drop k vs) w) next
    ∙ ap (λ (xs : List (Option OptionValue)). coerced_arguments p (t ∷ ts) xs (drop k vs) w) os_are
    ∙ ap (λ (xs : List Value). coerced_arguments p (t ∷ ts) (get_or os k None ∷ drop (suc k) os) xs w) vs_are
    ∙ one_more p t ts (get_or os k None) (drop (suc k) os) v (drop (suc k) vs) w (is out w) more
    ∙ ap (λ (xs : List Value). Went w xs) (sym vs_are)

pub stays_end : (l : LinkedFile) (m : Method) (count k : ℕ) (f : Frame) → length m.params ≤ k → length m.params ≡ count → count ≤ length f.stack → StaysFrom l m count f k
stays_end l m count k f past many fits = λ out w.
    let none : drop k (operands count f) ≡ [] = none_given f count k (omega (arith, many, past)) fits in
    ap (λ (ts : List ℕ). coerced_arguments (setting_in l out) ts (drop k (options_of m)) (drop k (operands count f)) w) (drop_all k m.params past)
    ∙ ap (λ (xs : List Value). Went w xs) (sym none)

-- ---- the method that is entered

enough : (params options n : ℕ) (more : Bool) → params ≡ n → (nat_le (params - options) n && (nat_le n params || more)) ≡ true
enough params options n more e = grind (arith, nat_tests)

takes_all : (m : Method) (n : ℕ) → length m.params ≡ n → may_take_arguments m n ≡ true
takes_all m n e = enough (length m.params) (length m.options) n (takes_array m.flags) e

no_array : (p : Setting) (m : Method) (vs : List Value) (w : World) → takes_array m.flags ≡ false → extra p m vs w ≡ Went w []
no_array p m vs w e = go (has_flag m.flags 0x01) (has_flag m.flags 0x04) e
  where
    go : (a b : Bool) → (a || b) ≡ false → (if b then array_of p (drop (length m.params) vs) else (if a then array_of p vs else pure [])) w ≡ Went w []
    go true b h = absurd (false≢true (sym h))
    go false true h = absurd (false≢true (sym h))
    go false false h = refl

-- the receiver is the first of the operands that leave
whole : (l : LinkedFile) (m : Method) (this : Value) (count taken : ℕ) (f : Frame) → StandsInPlace l m this count taken f → taken ≤ length f.stack → operands taken f ≡ this ∷ operands count f
whole l m this count taken f s fits =
    let all = s.all in
    let more : count + 1 ≤ length f.stack = omega (arith, all, fits) in
    let here : count + 1 - 1 - 0 ≡ count = omega arith in
    let above_taken : count + 1 - 1 ≡ count = omega arith in
    ap (λ n. operands n f) all
    ∙ given_at f (count + 1) 0 (omega arith) more
    ∙ ap (λ (v : Value). v ∷ drop 1 (operands (count + 1) f)) (ap (λ n. operand_at n f) here ∙ s.receiver)
    ∙ ap (λ (vs : List Value). this ∷ vs) (dropped_given f (count + 1) 1 more ∙ ap (λ n. operands n f) above_taken)

made : (l : LinkedFile) (out : Outer) (n : ℕ) (m : Method) (this : Value) (count taken : ℕ) (f : Frame) (w : World) → method_of (setting_in l out) n ≡ Some m → StandsInPlace l m this count taken f → taken ≤ length f.stack
    → makes_arguments (setting_in l out) n (operands count f) w ≡ Went w (operands count f)
made l out n m this count taken f w e s fits =
    let p = setting_in l out in
    let vs = operands count f in
    let all = s.all in
    let many : length vs ≡ count = count_given f count (omega (arith, all, fits)) in
    let takes : may_take_arguments m (length vs) ≡ true = takes_all m (length vs) (s.many ∙ sym many) in
    some_is (method_of p n) m (λ (x : Method). arguments_for p x vs) w e
    ∙ ap (λ (b : Bool). (if b then coerced_arguments p m.params (options_of m) vs else throws ArgumentError) w) takes
    ∙ s.given out w

pub in_place_is : (l : LinkedFile) (out : Outer) (n : ℕ) (m : Method) (this : Value) (at : Place) (count taken : ℕ) (wait : Wait) (q : Frames) (w : World) → method_of (setting_in l out) n ≡ Some m → StandsInPlace l m this count taken (newest q) → taken ≤ length (newest q).stack
    → enters_above (setting_in l out) n this at count taken wait (newest q) w ≡ puts_on (setting_in l out) n at this (operands count (newest q)) count taken wait (newest q) w
in_place_is l out n m this at count taken wait q w e s fits =
    entered_is (setting_in l out) n this at (this ∷ operands count (newest q)) count taken wait q q w w refl refl (made l out n m this count taken (newest q) w e s fits)

-- a method that is entered is there
pub method_there : (p : Setting) (n : ℕ) (this : Value) (at : Place) (count taken : ℕ) (wait : Wait) (f : Frame) (w : World) → IsOpen (enters_above p n this at count taken wait f w) → IsSome (method_of p n)
method_there p n this at count taken wait f w h =
    let args = operands count f in
    some_open (method_of p n) (λ (m : Method). arguments_for p m args >>= frame_for p n m this at args) w (open_first (enters p n this at args w) (above_taken taken wait f) h)

module _ (l : LinkedFile) (out : Outer) (n : ℕ) (m : Method) (this : Value) (at : Place) (count taken : ℕ) (wait : Wait) (q : Frames) (w : World) (e : method_of (setting_in l out) n ≡ Some m) (s : StandsInPlace l m this count taken (newest q)) (fits : taken ≤ length (newest q).stack) (h : IsOpen (enters_above (setting_in l out) n this at count taken wait (newest q) w)) where
  pub puts_open : IsOpen (puts_on (setting_in l out) n at this (operands count (newest q)) count taken wait (newest q) w)
  puts_open = subst (λ (o : Outcome Act). IsOpen o) (in_place_is l out n m this at count taken wait q w e s fits) h

  pub body_in_place : IsSome (body_of l.file n)
  body_in_place = body_there (setting_in l out) n at this (operands count (newest q)) count taken wait (newest q) m w e puts_open

  items : operands taken (newest q) ≡ this ∷ operands count (newest q) ++ []
  items = whole l m this count taken (newest q) s fits ∙ ap (λ (vs : List Value). this ∷ vs) (sym (append-nil (operands count (newest q))))

  entered_as : enters_above (setting_in l out) n this at count taken wait (newest q) w ≡ Went w (Goes (Above (frame_of_entry (entry_for (setting_in l out) n at) (this ∷ operands count (newest q) ++ [])) (waiting wait (after_drop taken (newest q)))))
  entered_as =
      in_place_is l out n m this at count taken wait q w e s fits
      ∙ puts_is (setting_in l out) n at this (operands count (newest q)) [] count taken wait (newest q) m w w e (no_array (setting_in l out) m (operands count (newest q)) w s.alone) puts_open

  pub fits_in_place : taken ≤ (entry_for (setting_in l out) n at).size.locals
  fits_in_place =
      let within = puts_fits (setting_in l out) n at this (operands count (newest q)) [] count taken wait (newest q) m w w e (no_array (setting_in l out) m (operands count (newest q)) w s.alone) puts_open in
      let many = count_given (newest q) taken fits in
      let same = ap length items in
      omega (arith, within, many, same)

  pub in_place_on : (entry : Entry) (r : Frames) (u : Unit {0}) → entry ≡ entry_for (setting_in l out) n at → Ok u ≡ room_for q entry.size → r ≡ after_entry entry (operands taken (newest q)) (taken + 0) wait q
      → turn_of (setting_in l out) q (enters_above (setting_in l out) n this at count taken wait (newest q) w) ≡ GoesOn w r
  in_place_on entry r u ee room entering =
      topped_on (setting_in l out) n at (this ∷ operands count (newest q) ++ []) (operands taken (newest q)) taken wait w q q r entry (enters_above (setting_in l out) n this at count taken wait (newest q) w) u entered_as refl ee items room
      (entering ∙ ap (λ k. after_entry entry (operands taken (newest q)) k wait q) (add-zero taken))
