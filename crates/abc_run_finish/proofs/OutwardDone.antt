-- From the arguments that are made in their places to the line, and to what a formula gives.
use Rattle.std.proofs.Common.{◌≡◌, ℕ, zero, suc, ◌+◌, ◌-◌, ◌<◌, ◌≤◌, List, [], ◌∷◌, ◌++◌, length, take, drop, reverse, map, get_or, Bool, true, false, refl, sym, ap, ◌∙◌, subst, arith}
use Rattle.std.specs.Prelude.{All, IsSome, ℤ, None, Some, if◌then◌else◌, nat_eq}
use Rattle.std.specs.declared.option.Option.{Option}
use Rattle.std.proofs.lemmas.Bool.{eq-eqb, eqb-true}
use Rattle.std.proofs.lemmas.List.{length-reverse, length-take-le}
use Rattle.std.proofs.lemmas.Option.{slice_get-get_or}
use Rattle.abc_base.specs.Hosts.{formula_at, number_or_none, value_of}
use Rattle.abc_base.specs.declared.formula.Formula.{Formula}
use Rattle.abc_base.specs.declared.names.Fault.TheVariants as faults
use Rattle.abc_base.specs.declared.names.HostClass.TheVariants as hosts
use Rattle.abc_heap_values.specs.declared.values.Value.{Value}
use Rattle.abc_heap_values.specs.declared.values.Value.TheVariants as values
use Rattle.abc_heap_store.specs.Heap.{Heap}
use Rattle.abc_objects.specs.Stands.{EachAt}
use Rattle.abc_objects.specs.Values.{Exists}
use Rattle.abc_link_names.specs.Linked.{LinkedFile}
use Rattle.abc_run_state.specs.Pairs.{with_operands}
use Rattle.abc_frames.specs.Ready.{HasFrameRoom}
use Rattle.abc_run_finish.specs.Outward.{FailsWriting, WritesLine, adding}
use Rattle.abc_run_finish.specs.Turned.{turned_at}
use Rattle.abc_run_finish.proofs.Turning.{IsKept, each_turned, next_of, turned_kept}
use Rattle.abc_base.specs.Sinks.{GrowsByFront}
use Rattle.std.specs.Io.KnownBytes.{append_known}
use Rattle.abc_run_state.specs.Outer.{Outer, setting_in, world}
use Rattle.abc_run_state.specs.declared.state.State.{State}
use Rattle.abc_frames.specs.Frame.{Frame, Frames, arguments, newest}
use Rattle.abc_run_state.specs.Settling.{after_settling, settles_how, taken_by}
use Rattle.abc_run_state.specs.Turns.{GoesOn, Halts, Turned, turn_of_formula, bare_newest, on_top, turn_of_trace, turn_of}
use Rattle.abc_run_state.specs.declared.state.How.{How}
use Rattle.abc_run_state.specs.declared.state.How.TheVariants.{Push, Drop}
use Rattle.abc_objects.specs.Lines as lines
use Rattle.abc_meaning.specs.Calling.{Came, Got, trace_bytes, calls_formula, got, number_in_range, trace_line, number_of_argument}
use Rattle.abc_meaning.specs.Ops.{as_number, as_text}
use Rattle.abc_meaning.specs.Setting.{Setting}
use Rattle.abc_meaning.specs.World.{Errs, Faults, Outcome, Run, Stop, Stopped, Went, World, and_then, pure, each_of, see, some, throws, writes, ◌>>=◌, ◌>>◌}

-- ---- a value settles in the place of what is taken, whatever the arguments became

nothing_left : (i : ℕ) → drop {A = Value} i [] ≡ []
nothing_left zero = refl
nothing_left (suc i) = refl

dropped_twice : (k m : ℕ) (zs : List Value) → drop m (drop k zs) ≡ drop (k + m) zs
dropped_twice zero m zs = let e : m ≡ 0 + m = omega arith in ap (λ (i : ℕ). drop i zs) e
dropped_twice (suc k) m [] = nothing_left m ∙ sym (nothing_left (suc k + m))
dropped_twice (suc k) m (z ∷ zs) = let e : suc (k + m) ≡ suc k + m = omega arith in dropped_twice k m zs ∙ ap (λ (i : ℕ). drop i (z ∷ zs)) e

deeper : (k n : ℕ) (xs ys : List Value) → k ≤ n → drop k xs ≡ drop k ys → drop n xs ≡ drop n ys
deeper k n xs ys b e =
    let same : n ≡ k + (n - k) = omega (arith, b) in
    ap (λ (m : ℕ). drop m xs) same ∙ sym (dropped_twice k (n - k) xs) ∙ ap (drop (n - k)) e ∙ dropped_twice k (n - k) ys ∙ ap (λ (m : ℕ). drop m ys) (sym same)

settled_is : (p : Setting) (how : How) (v : Value) (w : World) (q : Frames) (ws : List Value) (count : ℕ) → count ≤ taken_by how → IsKept count (newest q).stack ws
    → turn_of p q (settles_how how (newest q) (Got v) w) ≡ GoesOn w (on_top (after_settling how v (newest (with_operands ws q))) (with_operands ws q))
settled_is p (Push n) v w q ws count b k = ap (λ (xs : List Value). GoesOn w (on_top (record (newest q) { stack = v ∷ xs; place = (newest q).place + 1 }) q)) (sym (deeper count n ws (newest q).stack b k.deep))
settled_is p (Drop n) v w q ws count b k = ap (λ (xs : List Value). GoesOn w (on_top (record (newest q) { stack = xs; place = (newest q).place + 1 }) q)) (sym (deeper count n ws (newest q).stack b k.deep))

-- ---- the line

bytes_same : (l : LinkedFile) (h : Heap) (p : Setting) (w : World) (v : Value) → p.linked ≡ l → w.heap ≡ h → lines.bytes_of_value l.file.strings h v ≡ trace_bytes p w v
bytes_same l h p w values.Undefined e f = refl
bytes_same l h p w values.Null e f = refl
bytes_same l h p w (values.Num n) e f = refl
bytes_same l h p w (values.Bool b) e f = refl
bytes_same l h p w (values.Text t) e f = cc
bytes_same l h p w (values.Space n) e f = refl
bytes_same l h p w (values.Obj o) e f = refl

pub line_same : (p : Setting) (w : World) (ts : List Value) → lines.texts_line p.linked.file.strings w.heap ts ≡ trace_line p ts w
line_same p w [] = refl
line_same p w (t ∷ []) = ap (λ (bs : List ℕ). bs ++ 10 ∷ []) (bytes_same p.linked w.heap p w t refl refl)
line_same p w (t ∷ u ∷ ts) = ap (λ (bs : List ℕ). bs ++ 32 ∷ lines.texts_line p.linked.file.strings w.heap (u ∷ ts)) (bytes_same p.linked w.heap p w t refl refl) ∙ ap (λ (bs : List ℕ). trace_bytes p w t ++ 32 ∷ bs) (line_same p w (u ∷ ts))

abbrev wrote : Setting → (List Value) → World → World
wrote p texts w = record w { wrote = w.wrote ++ trace_line p texts w }

abbrev lined : Setting → (count : ℕ) → How → Frames → Outcome (List Value) → Turned
lined p count how q o = turn_of p q (and_then (and_then o (λ texts w. Went (wrote p texts w) (Got values.Undefined))) (settles_how how (newest q)))

-- the line of texts is written, and undefined comes
abbrev line_of : Setting → List Value → Run Came
line_of p texts = see (trace_line p texts) >>= λ bytes. writes bytes >> got values.Undefined

traced_by : (p : Setting) (count : ℕ) (how : How) (q : Frames) (o : Outcome (List Value)) → turn_of p q (and_then (and_then o (line_of p)) (settles_how how (newest q))) ≡ lined p count how q o
traced_by p count how q (Went n ts) = refl
traced_by p count how q (Stopped n why) = refl

traced_is : (p : Setting) (count : ℕ) (how : How) (w : World) (q : Frames) → turn_of_trace p count how w q ≡ lined p count how q (each_of (as_text p) (arguments count (newest q)) w)
traced_is p count how w q = traced_by p count how q (each_of (as_text p) (arguments count (newest q)) w)

arguments_made : (f : Value → Run Value) (count : ℕ) (w new : World) (q : Frames) (ws : List Value) → count ≤ length (newest q).stack → turned_at f count (newest q).stack w ≡ Went new ws → each_of f (arguments count (newest q)) w ≡ Went new (reverse (take count ws))
arguments_made f count w new q ws b e = each_turned f count (newest q).stack w b ∙ ap (λ (o : Outcome (List Value)). and_then o (λ xs. pure (reverse (take count xs)))) e

arguments_stop : (f : Value → Run Value) (count : ℕ) (w new : World) (q : Frames) (why : Stop) → count ≤ length (newest q).stack → turned_at f count (newest q).stack w ≡ Stopped new why → each_of f (arguments count (newest q)) w ≡ Stopped new why
arguments_stop f count w new q why b e = each_turned f count (newest q).stack w b ∙ ap (λ (o : Outcome (List Value)). and_then o (λ xs. pure (reverse (take count xs)))) e

pub traced_goes : (p : Setting) (count : ℕ) (how : How) (w new : World) (q : Frames) (ws : List Value) → count ≤ length (newest q).stack → count ≤ taken_by how → turned_at (as_text p) count (newest q).stack w ≡ Went new ws
    → turn_of_trace p count how w q ≡ GoesOn (record new { wrote = new.wrote ++ trace_line p (reverse (take count ws)) new }) (on_top (after_settling how values.Undefined (newest (with_operands ws q))) (with_operands ws q))
traced_goes p count how w new q ws b c e =
    traced_is p count how w q ∙ ap (lined p count how q) (arguments_made (as_text p) count w new q ws b e)
    ∙ settled_is p how values.Undefined (wrote p (reverse (take count ws)) new) q ws count c (turned_kept (as_text p) count (newest q).stack ws w new e)

pub traced_stops : (p : Setting) (count : ℕ) (how : How) (w new : World) (q : Frames) (why : Stop) → count ≤ length (newest q).stack → turned_at (as_text p) count (newest q).stack w ≡ Stopped new why → turn_of_trace p count how w q ≡ Halts new (bare_newest q) why
traced_stops p count how w new q why b e = traced_is p count how w q ∙ ap (lined p count how q) (arguments_stop (as_text p) count w new q why b e)

-- ---- the texts are there

no_args : (P : Value → Type 0) → All P []
no_args P k d b = absurd (omega (arith, b))

more_args : (P : Value → Type 0) (v : Value) (vs : List Value) → P v → All P vs → All P (v ∷ vs)
more_args P v vs p a zero d b = p
more_args P v vs p a (suc k) d b = a k d (omega (arith, b))

all_args : (P : Value → Type 0) (vs : List Value) (n : ℕ) → n ≤ length vs → EachAt P vs → All P (reverse (take n vs))
all_args P vs zero b e = no_args P
all_args P vs (suc n) b e =
    let lt : n < length vs = omega (arith, b) in
    subst (λ (xs : List Value). All P xs) (sym (next_of n vs lt)) (more_args P (get_or vs n values.Undefined) (reverse (take n vs)) (e n (get_or vs n values.Undefined) (slice_get-get_or vs n values.Undefined lt)) (all_args P vs n (omega (arith, lt)) e))

text_there : (l : LinkedFile) (h : Heap) (v : Value) → Exists l h v → lines.AreTextsThere l.file.strings h v
text_there l h values.Undefined e = tt
text_there l h values.Null e = tt
text_there l h (values.Num n) e = tt
text_there l h (values.Bool b) e = tt
text_there l h (values.Text t) e = e
text_there l h (values.Space n) e = tt
text_there l h (values.Obj o) e = tt

texts_there : (l : LinkedFile) (h : Heap) (vs : List Value) → All (Exists l h) vs → lines.AreThere l.file.strings h vs
texts_there l h [] a = tt
texts_there l h (v ∷ vs) a = (text_there l h v (a 0 v (omega arith)), texts_there l h vs (λ k d b. a (suc k) d (omega (arith, b))))

pub arguments_there : (l : LinkedFile) (h : Heap) (f : Frame) (n : ℕ) → n ≤ length f.stack → EachAt (Exists l h) f.stack → All (Exists l h) (arguments n f)
arguments_there l h f n b e = all_args (Exists l h) f.stack n b e

pub line_there : (l : LinkedFile) (h : Heap) (f : Frame) (n : ℕ) → n ≤ length f.stack → EachAt (Exists l h) f.stack → lines.AreThere l.file.strings h (arguments n f)
line_there l h f n b e = texts_there l h (arguments n f) (arguments_there l h f n b e)

-- ---- what a formula gives

abbrev numbered : Setting → Formula → How → Frames → Outcome (List Value) → Turned
numbered p f how q o = turn_of p q (and_then (and_then o (λ vs. number_in_range (number_or_none (value_of f (map number_of_argument vs))))) (settles_how how (newest q)))

abbrev counted : Setting → Formula → How → Frames → List Value → World → Bool → Turned
counted p f how q args w b = turn_of p q (and_then (let m : Run Came = if b then (each_of (as_number p) args >>= λ vs. number_in_range (number_or_none (value_of f (map number_of_argument vs)))) else throws hosts.ArgumentError in m w) (settles_how how (newest q)))

asked_is : (p : Setting) (n count : ℕ) (how : How) (w : World) (q : Frames) → n < length p.formulas → turn_of_formula p n count how w q ≡ counted p (formula_at p.formulas n) how q (arguments count (newest q)) w (nat_eq (length (arguments count (newest q))) (length (formula_at p.formulas n).factors))
asked_is p n count how w q b =
    ap (λ (o : Option Formula). turn_of p q (and_then ((some o >>= λ f. calls_formula p f (arguments count (newest q))) w) (settles_how how (newest q)))) (slice_get-get_or p.formulas n _ b)

pub args_long : (count : ℕ) (f : Frame) → count ≤ length f.stack → length (arguments count f) ≡ count
args_long count f b = length-reverse (take count f.stack) ∙ length-take-le count f.stack b

not_same : (a b : ℕ) → (a ≡ b → ⊥) → nat_eq a b ≡ false
not_same a b ne = go (nat_eq a b) refl
  where
    go : (x : Bool) → nat_eq a b ≡ x → x ≡ false
    go true e = absurd (ne (eqb-true a b e))
    go false e = refl

pub asked_counts : (p : Setting) (n count : ℕ) (how : How) (w : World) (q : Frames) → n < length p.formulas → count ≤ length (newest q).stack → (count ≡ length (formula_at p.formulas n).factors → ⊥) → turn_of_formula p n count how w q ≡ Halts w (bare_newest q) (Errs hosts.ArgumentError)
asked_counts p n count how w q b c ne =
    let f = formula_at p.formulas n in
    let args = arguments count (newest q) in
    asked_is p n count how w q b ∙ ap (counted p f how q args w) (not_same (length args) (length f.factors) (λ e. ne (sym (args_long count (newest q) c) ∙ e)))

asked_made : (p : Setting) (n count : ℕ) (how : How) (w : World) (q : Frames) → n < length p.formulas → count ≤ length (newest q).stack → count ≡ length (formula_at p.formulas n).factors → turn_of_formula p n count how w q ≡ numbered p (formula_at p.formulas n) how q (each_of (as_number p) (arguments count (newest q)) w)
asked_made p n count how w q b c e =
    let f = formula_at p.formulas n in
    let args = arguments count (newest q) in
    asked_is p n count how w q b ∙ ap (counted p f how q args w) (eq-eqb (length args) (length f.factors) (args_long count (newest q) c ∙ e))

pub asked_stops : (p : Setting) (n count : ℕ) (how : How) (w new : World) (q : Frames) (why : Stop) → n < length p.formulas → count ≤ length (newest q).stack → count ≡ length (formula_at p.formulas n).factors → turned_at (as_number p) count (newest q).stack w ≡ Stopped new why → turn_of_formula p n count how w q ≡ Halts new (bare_newest q) why
asked_stops p n count how w new q why b c f e = asked_made p n count how w q b c f ∙ ap (numbered p (formula_at p.formulas n) how q) (arguments_stop (as_number p) count w new q why c e)

pub asked_gives : (p : Setting) (n count : ℕ) (how : How) (w new : World) (q : Frames) (ws : List Value) (z : ℤ) → n < length p.formulas → count ≤ length (newest q).stack → count ≡ length (formula_at p.formulas n).factors → count ≤ taken_by how → turned_at (as_number p) count (newest q).stack w ≡ Went new ws
    → number_or_none (value_of (formula_at p.formulas n) (map number_of_argument (reverse (take count ws)))) ≡ Some z
    → turn_of_formula p n count how w q ≡ GoesOn new (on_top (after_settling how (values.Num z) (newest (with_operands ws q))) (with_operands ws q))
asked_gives p n count how w new q ws z b c f t e g =
    asked_made p n count how w q b c f ∙ ap (numbered p (formula_at p.formulas n) how q) (arguments_made (as_number p) count w new q ws c e)
    ∙ ap (λ (o : Option ℤ). turn_of p q (and_then (number_in_range o new) (settles_how how (newest q)))) g
    ∙ settled_is p how (values.Num z) new q ws count t (turned_kept (as_number p) count (newest q).stack ws w new e)

pub asked_passes : (p : Setting) (n count : ℕ) (how : How) (w new : World) (q : Frames) (ws : List Value) → n < length p.formulas → count ≤ length (newest q).stack → count ≡ length (formula_at p.formulas n).factors → turned_at (as_number p) count (newest q).stack w ≡ Went new ws
    → number_or_none (value_of (formula_at p.formulas n) (map number_of_argument (reverse (take count ws)))) ≡ None
    → turn_of_formula p n count how w q ≡ Halts new (bare_newest q) (Faults faults.Range)
asked_passes p n count how w new q ws b c f e g =
    asked_made p n count how w q b c f ∙ ap (numbered p (formula_at p.formulas n) how q) (arguments_made (as_number p) count w new q ws c e)
    ∙ ap (λ (o : Option ℤ). turn_of p q (and_then (number_in_range o new) (settles_how how (newest q)))) g

-- ---- four numbers, of which so many count

abbrev nth : List Value → ℕ → ℤ
nth vs n = number_of_argument (get_or vs n values.Undefined)

pub four_numbers : (vs : List Value) (a b c d : ℤ) → length vs ≤ 4 → a ≡ nth vs 0 → b ≡ nth vs 1 → c ≡ nth vs 2 → d ≡ nth vs 3 → take (length vs) (a ∷ b ∷ c ∷ d ∷ []) ≡ map number_of_argument vs
four_numbers [] a b c d l e f g h = refl
four_numbers (u ∷ []) a b c d l e f g h = ap (λ (x : ℤ). x ∷ []) e
four_numbers (u ∷ v ∷ []) a b c d l e f g h = ap (λ (x : ℤ). x ∷ b ∷ []) e ∙ ap (λ (x : ℤ). number_of_argument u ∷ x ∷ []) f
four_numbers (u ∷ v ∷ x ∷ []) a b c d l e f g h = ap (λ (z : ℤ). z ∷ b ∷ c ∷ []) e ∙ ap (λ (z : ℤ). number_of_argument u ∷ z ∷ c ∷ []) f ∙ ap (λ (z : ℤ). number_of_argument u ∷ number_of_argument v ∷ z ∷ []) g
four_numbers (u ∷ v ∷ x ∷ y ∷ []) a b c d l e f g h = ap (λ (z : ℤ). z ∷ b ∷ c ∷ d ∷ []) e ∙ ap (λ (z : ℤ). number_of_argument u ∷ z ∷ c ∷ d ∷ []) f ∙ ap (λ (z : ℤ). number_of_argument u ∷ number_of_argument v ∷ z ∷ d ∷ []) g ∙ ap (λ (z : ℤ). number_of_argument u ∷ number_of_argument v ∷ number_of_argument x ∷ z ∷ []) h
four_numbers (u ∷ v ∷ x ∷ y ∷ z ∷ vs) a b c d l e f g h = absurd (omega (arith, l))

-- ---- frames whose arguments were made

pub made_long : (f : Value → Run Value) (count : ℕ) (w new : World) (vs ws : List Value) → turned_at f count vs w ≡ Went new ws → length ws ≡ length vs
made_long f count w new vs ws e = (turned_kept f count vs ws w new e).long

pub ready_with : (n g : ℕ) (q r : Frames) (ws : List Value) → r ≡ with_operands ws q → length ws ≡ length (newest q).stack → HasFrameRoom n g q → HasFrameRoom n g r
ready_with n g q r ws e l h =
    let operands = h.operands in
    let room = h.room in
    subst (HasFrameRoom n g) (sym e) (record { live = omega arith; operands = omega (arith, operands, l); room = omega (arith, room, l); place = h.place })

-- ---- the line is written, or its front

module _ (l : LinkedFile) (out : Outer) (count : ℕ) (how : How) (s new : State) where
  abbrev p : Setting
  p = setting_in l out

  abbrev texts : List Value
  texts = arguments count (newest new.frames)

  abbrev bytes : List ℕ
  bytes = trace_line p texts (world new out)

  abbrev Made : Type 0
  Made = turned_at (as_text p) count (newest s.frames).stack (world s out) ≡ Went (world new out) (newest new.frames).stack

  line_is : (ts : List Value) → ts ≡ texts → lines.texts_line l.file.strings new.arena ts ≡ bytes
  line_is ts e = ap (lines.texts_line l.file.strings new.arena) e ∙ line_same p (world new out) texts

  pub trace_writes : (frames : Frames) (before now : Option (List ℕ)) (ts : List Value) → count ≤ length (newest s.frames).stack → count ≤ taken_by how → Made → new.frames ≡ with_operands (newest new.frames).stack s.frames → frames ≡ on_top (after_settling how values.Undefined (newest new.frames)) new.frames → ts ≡ texts → (IsSome before → now ≡ append_known before (lines.texts_line l.file.strings new.arena ts)) → WritesLine l out count how s (record new { frames = frames }) before now
  trace_writes frames before now ts b c e f settle t k = record {
    bytes = bytes;
    goes =
        traced_goes p count how (world s out) (world new out) s.frames (newest new.frames).stack b c e
        ∙ ap (λ (r : Frames). GoesOn (world new (adding bytes out)) (on_top (after_settling how values.Undefined (newest r)) r)) (sym f)
        ∙ ap (λ (r : Frames). GoesOn (world new (adding bytes out)) r) (sym settle);
    sink = λ some. k some ∙ ap (append_known before) (line_is ts t);
  }

  pub trace_fails : (before now : Option (List ℕ)) (ts : List Value) → count ≤ length (newest s.frames).stack → count ≤ taken_by how → Made → ts ≡ texts → (IsSome before → GrowsByFront before now (lines.texts_line l.file.strings new.arena ts)) → FailsWriting l out count how s new before now
  trace_fails before now ts b c e t k = record {
    bytes = bytes;
    world_then = world new (adding bytes out);
    frames_then = on_top (after_settling how values.Undefined (newest (with_operands (newest new.frames).stack s.frames))) (with_operands (newest new.frames).stack s.frames);
    goes = traced_goes p count how (world s out) (world new out) s.frames (newest new.frames).stack b c e;
    wrote = refl;
    heap = refl;
    sink = λ some. subst (λ (bs : List ℕ). GrowsByFront before now bs) (line_is ts t) (k some);
  }
