-- An instance of a class of the file: its maker's arguments, then the object, and then the maker is put on.
use Rattle.std.proofs.Common.{◌≡◌, ℕ, ◌<◌, List, [], ◌∷◌, length, drop, set, get_or, refl, sym, ap, ◌∙◌, arith}
use Rattle.std.specs.Prelude.{None, Some}
use Rattle.std.specs.declared.option.Option.{Option}
use Rattle.std.proofs.lemmas.List.{get_or_default}
use Rattle.abc_heap_values.specs.declared.values.ObjId.{ObjId}
use Rattle.abc_heap_values.specs.declared.values.Value.{Value}
use Rattle.abc_heap_values.specs.declared.values.Value.TheVariants.{Obj}
use Rattle.abc_heap_store.specs.declared.records.ScopeId.{ScopeId}
use Rattle.abc_heap_store.specs.declared.records.What.TheVariants as whats
use Rattle.abc_link_names.specs.Instances.{instance_at, no_instance}
use Rattle.abc_link_names.specs.Linked.{layout_of}
use Rattle.abc_link_names.specs.declared.part.LayoutId.{LayoutId}
use Rattle.abc_link_names.specs.declared.part.Part.TheVariants as parts
use Rattle.abc_frames.specs.Frame.{Frame, Frames, arguments as operands, newest}
use Rattle.abc_frames.specs.declared.records.Wait.{Wait}
use Rattle.abc_run_state.specs.Settling.{settles_how, taken_by, wait_with}
use Rattle.abc_run_state.specs.declared.state.How.{How}
use Rattle.abc_file_types.specs.declared.classes.Instance.{Instance}
use Rattle.abc_file_types.specs.declared.methods.Method.{Method}
use Rattle.abc_file_types.specs.declared.tables.Abc.{Abc}
use Rattle.abc_meaning.specs.Calling.{Came, Makes}
use Rattle.abc_meaning.specs.Entering.{arguments_for, frame_for}
use Rattle.abc_meaning.specs.Making.{prototype_in}
use Rattle.abc_meaning.specs.Objects.{new_object, place}
use Rattle.abc_meaning.specs.Setting.{Setting, method_of}
use Rattle.abc_meaning.specs.World.{Outcome, Run, Stop, Stopped, Went, World, and_then, pure, see, some, ◌>>=◌}
use Rattle.abc_meaning.specs.At.{Act}
use Rattle.abc_run_calls.specs.Arguments.{makes_arguments, first_receiver}
use Rattle.abc_run_calls.specs.Entering.{above_taken, puts_on}
use Rattle.abc_run_calls.specs.Calls.{makes_instance}
use Rattle.abc_run_calls.proofs.Settled.{maker_settles}

-- ---- the parts, one in the other

abbrev maker_of : Setting → ℕ → ℕ
maker_of p k = (instance_at p.linked.file k).iinit

-- the maker is put on the object
abbrev putting : Setting → (k home : ℕ) → ScopeId → (args vs : List Value) → Method → ObjId → Run Came
putting p k home instances args vs m made = frame_for p (maker_of p k) m (Obj made) (place home (Some instances)) args vs >>= λ g. pure (Makes g (Obj made))

abbrev pub object_for : Setting → ObjId → (k : ℕ) → Run ObjId
object_for p o k w = new_object p (layout_of p.linked (parts.Instance k)).0 (prototype_in o w) whats.Plain w

abbrev making : Setting → ObjId → (k home : ℕ) → ScopeId → (args : List Value) → Method → List Value → Run Came
making p o k home instances args m vs = see (prototype_in o) >>= λ d. new_object p (layout_of p.linked (parts.Instance k)).0 d whats.Plain >>= putting p k home instances args vs m

abbrev arguing : Setting → ObjId → (k home : ℕ) → ScopeId → (args : List Value) → Method → Run Came
arguing p o k home instances args m = arguments_for p m args >>= making p o k home instances args m

module _ (p : Setting) (o : ObjId) (k home : ℕ) (instances : ScopeId) (count : ℕ) (how : How) (f : Frame) where
  -- by the method that the maker is
  abbrev act_of : Option Method → World → Outcome Act
  act_of x w = and_then (and_then (some x w) (arguing p o k home instances (operands count f))) (settles_how how f)

  abbrev args_of : Option Method → World → Outcome (List Value)
  args_of x w = and_then (some x w) (λ m. arguments_for p m (operands count f))

  pub instance_full : (vs : List Value) (w there after : World) (why : Stop) → makes_arguments p (maker_of p k) (operands count f) w ≡ Went there vs → object_for p o k there ≡ Stopped after why → makes_instance p o k home instances count how f w ≡ Stopped after why
  instance_full vs w there after why a b = go (method_of p (maker_of p k)) a
    where
      go : (x : Option Method) → args_of x w ≡ Went there vs → act_of x w ≡ Stopped after why
      go None e = cc
      go (Some m) e =
          ap (λ r. and_then (and_then r (making p o k home instances (operands count f) m)) (settles_how how f)) e
          ∙ ap (λ r. and_then (and_then r (putting p k home instances (operands count f) vs m)) (settles_how how f)) b

  pub instance_is : (vs : List Value) (made : ObjId) (w there after : World) → makes_arguments p (maker_of p k) (operands count f) w ≡ Went there vs → object_for p o k there ≡ Went after made
      → makes_instance p o k home instances count how f w ≡ puts_on p (maker_of p k) (place home (Some instances)) (Obj made) vs count (taken_by how) (wait_with how (Obj made)) f after
  instance_is vs made w there after a b = go (method_of p (maker_of p k)) a
    where
      go : (x : Option Method) → args_of x w ≡ Went there vs
          → act_of x w ≡ and_then (some x after) (λ m. frame_for p (maker_of p k) m (Obj made) (place home (Some instances)) (operands count f) vs >>= above_taken (taken_by how) (wait_with how (Obj made)) f)
      go None e = cc
      go (Some m) e =
          ap (λ r. and_then (and_then r (making p o k home instances (operands count f) m)) (settles_how how f)) e
          ∙ ap (λ r. and_then (and_then r (putting p k home instances (operands count f) vs m)) (settles_how how f)) b
          ∙ maker_settles how f (Obj made) (frame_for p (maker_of p k) m (Obj made) (place home (Some instances)) (operands count f) vs after)

-- ---- the object stands in the place of the receiver

pub received : (xs : List Value) (v : Value) → 0 < length xs → first_receiver (set xs 0 v) ≡ v
received [] v h = absurd (omega arith)
received (x ∷ xs) v h = refl

pub others_kept : (xs : List Value) (v : Value) → drop 1 (set xs 0 v) ≡ drop 1 xs
others_kept [] v = refl
others_kept (x ∷ xs) v = refl

-- ---- with what the calls gave

pub maker_is : (v : Abc) (k : ℕ) (x : Instance) → k < length v.instances → get_or v.instances k x ≡ x → x.iinit ≡ (instance_at v k).iinit
maker_is v k x lt e = ap (λ (y : Instance). y.iinit) (sym (get_or_default v.instances k no_instance x lt ∙ e))

-- the object, by the layout and the delegate that are found
pub object_by : (p : Setting) (o : ObjId) (k : ℕ) (layout : LayoutId) (d : Option ObjId) (w : World) → layout ≡ layout_of p.linked (parts.Instance k) → d ≡ prototype_in o w → object_for p o k w ≡ new_object p layout.0 d whats.Plain w
object_by p o k layout d w el ed =
    ap (λ (x : LayoutId). new_object p x.0 (prototype_in o w) whats.Plain w) (sym el) ∙ ap (λ (x : Option ObjId). new_object p layout.0 x whats.Plain w) (sym ed)

-- `q` are the frames before and `mid` those over which the maker is put; `given` are its first locals, of which `items` were made
pub instance_puts : (p : Setting) (o : ObjId) (k home : ℕ) (instances : ScopeId) (count : ℕ) (how : How) (q mid : Frames) (n taken : ℕ) (wait : Wait) (items given : List Value) (made : ObjId) (w there after : World) → mid ≡ q → n ≡ (instance_at p.linked.file k).iinit → taken ≡ taken_by how → wait ≡ wait_with how (Obj made) → 0 < length items
    → given ≡ set items 0 (Obj made) → makes_arguments p n (operands count (newest q)) w ≡ Went there (drop 1 items) → object_for p o k there ≡ Went after made
    → makes_instance p o k home instances count how (newest q) w ≡ puts_on p n (place home (Some instances)) (first_receiver given) (drop 1 given) count taken wait (newest mid) after
instance_puts p o k home instances count how q mid n taken wait items given made w there after same en et ew some is a b =
    let at = place home (Some instances) in
    let f = newest q in
    let v = Obj made in
    let vs = drop 1 items in
    let first : first_receiver given ≡ v = ap first_receiver is ∙ received items v some in
    let others : drop 1 given ≡ vs = ap (λ (xs : List Value). drop 1 xs) is ∙ others_kept items v in
    instance_is p o k home instances count how f vs made w there after (ap (λ m. makes_arguments p m (operands count f) w) (sym en) ∙ a) b
    ∙ ap (λ m. puts_on p m at v vs count (taken_by how) (wait_with how v) f after) (sym en)
    ∙ ap (λ m. puts_on p n at v vs count m (wait_with how v) f after) (sym et)
    ∙ ap (λ (x : Wait). puts_on p n at v vs count taken x f after) (sym ew)
    ∙ ap (λ (x : Value). puts_on p n at x vs count taken wait f after) (sym first)
    ∙ ap (λ (xs : List Value). puts_on p n at (first_receiver given) xs count taken wait f after) (sym others)
    ∙ ap (λ (r : Frames). puts_on p n at (first_receiver given) (drop 1 given) count taken wait (newest r) after) (sym same)
