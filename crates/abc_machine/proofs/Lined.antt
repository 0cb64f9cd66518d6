-- From what a step answers and what its line tells to the lines of the step.
use Rattle.std.proofs.Common.{◌≡◌, ◌≢◌, ℕ, ◌≤◌, List, [], ◌++◌, drop, length, take, refl, sym, ap, subst, ◌∙◌, arith, append-nil}
use Rattle.std.proofs.Math.Seq.{drop-append_seam}
use Rattle.std.specs.Prelude.{IsErr, IsSome, is_some, None, Some, Ok, Err}
use Rattle.std.specs.Io.KnownBytes.{append_known}
use Rattle.std.specs.declared.option.Option.{Option}
use Rattle.std.specs.declared.result.Result.{Result}
use Rattle.abc_base.specs.Faults.{HasCause, Rose}
use Rattle.abc_base.specs.Sinks.{GrowsByFront, WritesAll}
use Rattle.abc_base.specs.declared.source.Failed.{Failed}
use Rattle.abc_base.proofs.Writing.{front_second, known_told, known_twice}
use Rattle.abc_heap_values.specs.declared.values.Value.{Value}
use Rattle.abc_log.specs.Followed.{bytes_in, start_and_since}
use Rattle.abc_log.proofs.Following.{told-append, told_bytes, told_start}
use Rattle.abc_run_finish.specs.Ending.{end_of_run}
use Rattle.abc_run_finish.specs.Steps.{EndsIn, FailsIn, GoesOnIn, StepsIn}
use Rattle.abc_run_finish.specs.declared.halts.Halt.{Halt}
use Rattle.abc_run_finish.specs.declared.halts.Halt.TheVariants as halts
use Rattle.abc_machine.specs.Logging.{LogsIn, if_written}
use Rattle.abc_meaning.specs.Logs.{world_left, wrote_since}
use Rattle.abc_log.specs.Lines.{out_line}
use Rattle.abc_meaning.specs.Throwing.{Done, End, Stepped}
use Rattle.abc_log.specs.Outs.{open_line}
use Rattle.abc_log.proofs.Ended.{cut_front}
use Rattle.abc_run_state.specs.Outer.{Outer}
use Rattle.abc_meaning.specs.World.{World}
use Rattle.abc_run_state.specs.declared.state.State.{State}

-- ---- a step whose bytes no sink tells

pub untold : (r : Stepped) (out : Outer) (done : Result Unit Halt) (new : State) (x y : Option (List ℕ)) → StepsIn r out done new x y → StepsIn r out done new None None
untold r out (Ok u) new x y g = record { bytes = g.bytes; goes = g.goes; sink = λ some. absurd cc }
untold r out (Err (halts.Returns v)) new x y e = record { ends = e.ends; sink = refl }
untold r out (Err (halts.Ends end)) new x y e = record { ends = e.ends; sink = refl }
untold r out (Err halts.Fails) new x y f = record { bytes = f.bytes; next = f.next; goes = f.goes; wrote = f.wrote; heap = f.heap; sink = λ some. absurd cc }

-- ---- the bytes of a step

wrote_some : (w n : World) (bytes : List ℕ) → n.wrote ≡ w.wrote ++ bytes → wrote_since w n ≡ bytes
wrote_some w n bytes e = ap (drop (length w.wrote)) e ∙ drop-append_seam w.wrote bytes

pub wrote_none : (w n : World) → n.wrote ≡ w.wrote → wrote_since w n ≡ []
wrote_none w n e = wrote_some w n [] (e ∙ sym (append-nil w.wrote))

-- what was written while the line was open, as it is told
same_told : (s t a b : List ℕ) → Some (start_and_since t b) ≡ append_known (Some (start_and_since s [])) a → (t ≡ s) × (b ≡ a)
same_told s t a b e =
    let whole : Some (start_and_since t b) ≡ Some (start_and_since s a) = e ∙ ap Some (told-append s [] a) in
    let told_is : start_and_since t b ≡ start_and_since s a = cc in
    (told_start t s b a told_is, told_bytes t s b a told_is)

-- ---- a step whose bytes are shown in a line, from what it tells to what this tells

module _ (r : Stepped) (out : Outer) (w : World) (wrote : w.wrote ≡ out.wrote) (new : State) (s t a b : List ℕ) (none : a ≡ []) where
  abbrev before : Option (List ℕ)
  before = Some (start_and_since s a)

  abbrev after : Option (List ℕ)
  after = Some (start_and_since t b)

  -- its bytes are those of the line, or these are a front of them
  abbrev Bytes : Result Unit Halt → Type 0
  Bytes (Ok u) = (t ≡ s) × (b ≡ wrote_since w (world_left r))
  Bytes (Err (halts.Returns v)) = (t ≡ s) × (b ≡ wrote_since w (world_left r))
  Bytes (Err (halts.Ends e)) = (t ≡ s) × (b ≡ wrote_since w (world_left r))
  Bytes (Err halts.Fails) = (t ≡ s) × ((k : ℕ) × (b ≡ take k (wrote_since w (world_left r))))

  at_none : after ≡ before → (t ≡ s) × (b ≡ [])
  at_none e = same_told s t [] b (e ∙ ap (λ (l : List ℕ). Some (start_and_since s l)) none ∙ ap Some (sym (append-nil (start_and_since s []))))

  ended_bytes : (end : End) → EndsIn r out new end before after → (t ≡ s) × (b ≡ wrote_since w (world_left r))
  ended_bytes end e =
      let i = at_none e.sink in
      let left : (world_left r).wrote ≡ w.wrote = ap (λ (x : Stepped). (world_left x).wrote) e.ends ∙ sym wrote in
      (i.0, i.1 ∙ sym (wrote_none w (world_left r) left))

  sink_at : (bytes : List ℕ) → (IsSome before → after ≡ append_known before bytes) → (t ≡ s) × (b ≡ bytes)
  sink_at bytes e = same_told s t bytes b (e refl ∙ ap (λ (l : List ℕ). append_known (Some (start_and_since s l)) bytes) none)

  went_bytes : GoesOnIn r out new before after → (t ≡ s) × (b ≡ wrote_since w (world_left r))
  went_bytes g =
      let i = sink_at g.bytes g.sink in
      let left : (world_left r).wrote ≡ w.wrote ++ g.bytes = ap (λ (x : Stepped). (world_left x).wrote) g.goes ∙ ap (λ (l : List ℕ). l ++ g.bytes) (sym wrote) in
      (i.0, i.1 ∙ sym (wrote_some w (world_left r) g.bytes left))

  failed_bytes : FailsIn r out new before after → (t ≡ s) × ((k : ℕ) × (b ≡ take k (wrote_since w (world_left r))))
  failed_bytes f =
      let front : GrowsByFront before after f.bytes = f.sink refl in
      let i = sink_at (take front.count f.bytes) (λ some. front.front) in
      let left : (world_left r).wrote ≡ w.wrote ++ f.bytes = ap (λ (x : Stepped). (world_left x).wrote) f.goes ∙ f.wrote ∙ ap (λ (l : List ℕ). l ++ f.bytes) (sym wrote) in
      (i.0, (front.count, i.1 ∙ ap (take front.count) (sym (wrote_some w (world_left r) f.bytes left))))

  step_bytes : (done : Result Unit Halt) → StepsIn r out done new before after → Bytes done
  step_bytes (Ok u) g = went_bytes g
  step_bytes (Err (halts.Returns v)) e = ended_bytes Done e
  step_bytes (Err (halts.Ends x)) e = ended_bytes (end_of_run x) e
  step_bytes (Err halts.Fails) f = failed_bytes f

  start_in : (done : Result Unit Halt) → Bytes done → t ≡ s
  start_in (Ok u) i = i.0
  start_in (Err (halts.Returns v)) i = i.0
  start_in (Err (halts.Ends x)) i = i.0
  start_in (Err halts.Fails) i = i.0

  -- the line is of the same log
  pub same_start : (done : Result Unit Halt) → StepsIn r out done new before after → t ≡ s
  same_start done step = start_in done (step_bytes done step)

  -- ---- and the line

  module _ (log now : Option (List ℕ)) (at : bytes_in s ≡ log) where
    abbrev shown : List ℕ
    shown = out_line (wrote_since w (world_left r))

    line_is : (written : Result Unit Failed) → t ≡ s → b ≡ wrote_since w (world_left r) → WritesAll (bytes_in t) now written (out_line b) → WritesAll log now written shown
    line_is written same is line = subst (λ (o : Option (List ℕ)). WritesAll o now written shown) (ap bytes_in same ∙ at) (subst (λ (l : List ℕ). WritesAll (bytes_in t) now written (out_line l)) is line)

    logged_whole : (done : Result Unit Halt) → done ≢ Err halts.Fails → Bytes done → (IsSome (bytes_in t) → now ≡ append_known (bytes_in t) (out_line b)) → IsSome log → now ≡ append_known log shown
    logged_whole (Ok u) well i line = line_is (Ok tt) i.0 i.1 line
    logged_whole (Err (halts.Returns v)) well i line = line_is (Ok tt) i.0 i.1 line
    logged_whole (Err (halts.Ends x)) well i line = line_is (Ok tt) i.0 i.1 line
    logged_whole (Err halts.Fails) well i line = absurd (well refl)

    logged_front : (f : Failed) (done : Result Unit Halt) → Bytes done → (IsSome (bytes_in t) → GrowsByFront (bytes_in t) now (out_line b)) → (done ≡ Err halts.Fails → IsSome (bytes_in t) → GrowsByFront (bytes_in t) now (open_line b)) → IsSome log → GrowsByFront log now shown
    logged_front f (Ok u) i line front = line_is (Err f) i.0 i.1 line
    logged_front f (Err (halts.Returns v)) i line front = line_is (Err f) i.0 i.1 line
    logged_front f (Err (halts.Ends x)) i line front = line_is (Err f) i.0 i.1 line
    logged_front f (Err halts.Fails) i line front = λ some.
        let here : bytes_in t ≡ log = ap bytes_in i.0 ∙ at in
        let cut_off : GrowsByFront log now (open_line b) = subst (λ (o : Option (List ℕ)). GrowsByFront o now (open_line b)) here (front refl (subst IsSome (sym here) some)) in
        cut_front log now i.1.0 (wrote_since w (world_left r)) (subst (λ (l : List ℕ). GrowsByFront log now (open_line l)) i.1.1 cut_off)

    -- a step that failed wrote no whole line
    abbrev Opens : Result Unit Failed → Result Unit Halt → Type 0
    Opens written done = done ≡ Err halts.Fails → IsErr written × (IsSome (bytes_in t) → GrowsByFront (bytes_in t) now (open_line b))

    pub logs_if : (written : Result Unit Failed) (done : Result Unit Halt) → StepsIn r out done new before after → WritesAll (bytes_in t) now written (out_line b) → Opens written done → LogsIn r shown out (if_written written done) new log now
    logs_if (Ok u) done step line opens = record {
      step = λ f. untold r out done new before after step;
      whole = λ f. logged_whole done f (step_bytes done step) line;
      front = λ e. absurd (let none = (opens e).0 in cc);
    }
    logs_if (Err f) done step line opens = record {
      step = λ g. absurd (g refl);
      whole = λ g. absurd (g refl);
      front = λ e. logged_front f done (step_bytes done step) line (λ q. (opens q).1);
    }

-- where the step failed or its line did, the log failed
pub rose_if : (k n : ℕ) (written : Result Unit Failed) (done : Result Unit Halt) → HasCause k n written → (done ≡ Err halts.Fails → IsErr written) → if_written written done ≡ Err halts.Fails → Rose k n
rose_if k n (Ok u) done cause opens e = absurd (let none = opens e in cc)
rose_if k n (Err f) done cause opens e = cause.failed

-- ---- a line, and what a step has after it

pub told_on : (x y : Option (List ℕ)) (line : List ℕ) → y ≡ append_known x line → IsSome x → IsSome y
told_on x y line e some = ap is_some e ∙ known_told x line ∙ some

pub whole_on : (x y z : Option (List ℕ)) (line out : List ℕ) → (IsSome x → y ≡ append_known x line) → (IsSome y → z ≡ append_known y out) → IsSome x → z ≡ append_known x (line ++ out)
whole_on x y z line out first second some =
    let e = first some in
    second (told_on x y line e some) ∙ ap (λ (o : Option (List ℕ)). append_known o out) e ∙ known_twice x line out

pub front_on : (x y z : Option (List ℕ)) (line out : List ℕ) → (IsSome x → y ≡ append_known x line) → (IsSome y → GrowsByFront y z out) → IsSome x → GrowsByFront x z (line ++ out)
front_on x y z line out first second some =
    let e = first some in
    front_second x z line out (subst (λ (o : Option (List ℕ)). GrowsByFront o z out) e (second (told_on x y line e some)))

-- ---- a step and its line together

pub no_rose : (a b : ℕ) → Rose a b → b ≡ 0 → ⊥
no_rose a b rose e = omega arith

pub rose_on : (a b c : ℕ) → a ≤ b → Rose b c → Rose a c
rose_on a b c low rose = omega arith

pub fails_on : (written : Result Unit Failed) (done : Result Unit Halt) → done ≡ Err halts.Fails → if_written written done ≡ Err halts.Fails
fails_on (Ok u) done e = e
fails_on (Err f) done e = refl

pub returns_in : (written : Result Unit Failed) (done : Result Unit Halt) (v : Value) → if_written written done ≡ Err (halts.Returns v) → done ≡ Err (halts.Returns v)
returns_in (Ok u) done v e = e
returns_in (Err f) done v e = absurd cc
