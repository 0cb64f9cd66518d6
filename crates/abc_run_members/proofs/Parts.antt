-- A part of a step, and then what is done with what it gives.
use Rattle.std.proofs.Common.{◌≡◌, ℕ, ◌+◌, Bool, ◌≤◌, sym, ap, ◌∙◌, subst, arith}
use Rattle.std.specs.Prelude.{Some, None}
use Rattle.std.specs.declared.option.Option.{Option}
use Rattle.abc_heap_values.specs.Filling.{Filling}
use Rattle.abc_heap_values.specs.declared.values.Value.{Value}
use Rattle.abc_meaning.specs.At.{Act}
use Rattle.abc_run_calls.specs.Calls.{settled_by}
use Rattle.abc_run_calls.specs.Arguments.{HasArgumentRoom}
use Rattle.abc_frames.specs.Ready.{HasFrameRoom}
use Rattle.abc_run_names.proofs.Receiving.{holder_first}
use Rattle.abc_run_names.specs.Named.{named_here, name_parts_count}
use Rattle.abc_objects.specs.Values.{Exists}
use Rattle.abc_objects.proofs.Grown.{exists_grown}
use Rattle.abc_link_names.specs.Linked.{LinkedFile}
use Rattle.abc_frames.specs.Frame.{Frame, Frames, arguments, newest}
use Rattle.abc_run_state.specs.Operands.{operand_at}
use Rattle.abc_run_state.specs.Standing.{Stays}
use Rattle.abc_run_state.specs.Stops.{IsOpen}
use Rattle.abc_run_state.specs.Turns.{Halts, Turned, bare_newest, turn_of}
use Rattle.abc_run_state.specs.declared.state.How.{How}
use Rattle.abc_run_state.specs.declared.state.How.TheVariants.{Drop, Push}
use Rattle.abc_run_state.specs.declared.state.State.{State}
use Rattle.abc_meaning.specs.Calling.{Came}
use Rattle.abc_meaning.specs.Members.{calls_name, reads, with_holder, writes_to}
use Rattle.abc_meaning.specs.Setting.{NameForm, NoPart, NoSpace, NoText, Setting, Whole}
use Rattle.abc_meaning.specs.World.{Outcome, Run, Stop, Stopped, Went, World, and_then, pure, ◌>>=◌}
use Rattle.abc_run_members.specs.Members.{calls_named, constructs_named, constructs_of, gets_named, parts_at, receiver_under, sets_named}

-- ---- one part after another: what comes of the first goes on in the state that it leaves, whose frames are as they were

pub part_open : {X : Type 0} (m : Run X) (k : X → Run Came) (c : Came → Run Act) (w : World) → IsOpen ((m >>= k >>= c) w) → IsOpen (m w)
part_open {X = X} m k c w h = go (m w) h
  where
    go : (o : Outcome X) → IsOpen (and_then (and_then o k) c) → IsOpen o
    go (Went n x) g = tt
    go (Stopped n why) g = g

pub next_open : {X : Type 0} (q mid : Frames) (m : Run X) (k : Frame → X → Run Came) (c : Frame → Came → Run Act) (w n : World) (x : X) → m w ≡ Went n x → mid ≡ q
    → IsOpen ((m >>= k (newest q) >>= c (newest q)) w) → IsOpen ((k (newest mid) x >>= c (newest mid)) n)
next_open {X = X} q mid m k c w n x e same h =
    subst (λ (r : Frames). IsOpen ((k (newest r) x >>= c (newest r)) n)) (sym same) (subst (λ (o : Outcome X). IsOpen (and_then (and_then o (k (newest q))) (c (newest q)))) e h)

pub next_turns : {X : Type 0} (p : Setting) (q mid : Frames) (m : Run X) (k : Frame → X → Run Came) (c : Frame → Came → Run Act) (w n : World) (x : X) (t : Turned) → m w ≡ Went n x → mid ≡ q
    → turn_of p mid ((k (newest mid) x >>= c (newest mid)) n) ≡ t → turn_of p q ((m >>= k (newest q) >>= c (newest q)) w) ≡ t
next_turns {X = X} p q mid m k c w n x t e same h =
    ap (λ (o : Outcome X). turn_of p q (and_then (and_then o (k (newest q))) (c (newest q)))) e
    ∙ ap (λ (r : Frames). turn_of p r ((k (newest r) x >>= c (newest r)) n)) (sym same)
    ∙ h

pub part_halts : {X : Type 0} (p : Setting) (q new : Frames) (m : Run X) (k : X → Run Came) (c : Came → Run Act) (w n : World) (why : Stop) → m w ≡ Stopped n why → new ≡ q
    → turn_of p q ((m >>= k >>= c) w) ≡ Halts n (bare_newest new) why
part_halts {X = X} p q new m k c w n why e same =
    ap (λ (o : Outcome X). turn_of p q (and_then (and_then o k) c)) e ∙ ap (λ (r : Frames). Halts n (bare_newest r) why) (sym same)

-- ---- what stays

pub ready_stays : (a b : ℕ) (q mid : Frames) → mid ≡ q → HasFrameRoom a b q → HasFrameRoom a b mid
ready_stays a b q mid same h = subst (HasFrameRoom a b) (sym same) h

pub known_stays : (l : LinkedFile) (old mid : State) → Stays l old mid → HasArgumentRoom l old.given.limit → HasArgumentRoom l mid.given.limit
known_stays l old mid s h = subst (λ (g : Filling Value). HasArgumentRoom l g.limit) (sym s.given) h

pub limit_stays : (l : LinkedFile) (old mid : State) → Stays l old mid → mid.given.limit ≡ old.given.limit
limit_stays l old mid s = ap (λ (g : Filling Value). g.limit) s.given

pub value_stays : (l : LinkedFile) (old mid : State) (v : Value) → Stays l old mid → Exists l old.arena v → Exists l mid.arena v
value_stays l old mid v s h = exists_grown l old.arena mid.arena v s.grows h

-- ---- a name has two parts at most

pub few_parts : (form : Option NameForm) → name_parts_count form ≤ 2
few_parts None = omega arith
few_parts (Some (Whole name)) = omega arith
few_parts (Some (NoSpace text)) = omega arith
few_parts (Some (NoText of)) = omega arith
few_parts (Some NoPart) = omega arith

-- ---- null and undefined have nothing

abbrev pub asks_holder : Value → Run (Unit {0})
asks_holder v = with_holder v (pure tt)

pub holder_halts : {X : Type 0} (v : Value) (m : Run X) (w n : World) (why : Stop) → asks_holder v w ≡ Stopped n why → with_holder v m w ≡ Stopped n why
holder_halts v m w n why e = holder_first v m w ∙ ap (λ (o : Outcome (Unit {0})). and_then o (λ u. m)) e

pub holder_goes : {X : Type 0} (v : Value) (m : Run X) (w n : World) → asks_holder v w ≡ Went n tt → with_holder v m w ≡ m n
holder_goes v m w n e = holder_first v m w ∙ ap (λ (o : Outcome (Unit {0})). and_then o (λ u. m)) e

-- ---- by the name of an instruction, with the number of its parts and the holder at hand

pub gets_as : (p : Setting) (n parts : ℕ) (v : Value) (f : Frame) (w : World) → parts ≡ parts_at p n → v ≡ operand_at parts f
    → gets_named p n f w ≡ settled_by (Push (parts + 1)) f (named_here p n 0 f >>= reads p v) w
gets_as p n parts v f w a b =
    ap (λ (k : ℕ). settled_by (Push (k + 1)) f (named_here p n 0 f >>= reads p (operand_at k f)) w) (sym a)
    ∙ ap (λ (h : Value). settled_by (Push (parts + 1)) f (named_here p n 0 f >>= reads p h) w) (sym b)

pub sets_as : (p : Setting) (n parts : ℕ) (v x : Value) (initial : Bool) (f : Frame) (w : World) → parts ≡ parts_at p n → v ≡ operand_at (1 + parts) f → x ≡ operand_at 0 f
    → sets_named p n initial f w ≡ settled_by (Drop (parts + 2)) f (named_here p n 1 f >>= λ name. writes_to p v name x initial) w
sets_as p n parts v x initial f w a b c =
    ap (λ (k : ℕ). settled_by (Drop (k + 2)) f (named_here p n 1 f >>= λ name. writes_to p (operand_at (1 + k) f) name (operand_at 0 f) initial) w) (sym a)
    ∙ ap (λ (h : Value). settled_by (Drop (parts + 2)) f (named_here p n 1 f >>= λ name. writes_to p h name (operand_at 0 f) initial) w) (sym b)
    ∙ ap (λ (y : Value). settled_by (Drop (parts + 2)) f (named_here p n 1 f >>= λ name. writes_to p v name y initial) w) (sym c)

pub calls_as : (p : Setting) (n parts count : ℕ) (v receiver : Value) (lexical : Bool) (how : How) (f : Frame) (w : World) → parts ≡ parts_at p n → v ≡ operand_at (count + parts) f → receiver ≡ receiver_under lexical v
    → calls_named p n count lexical how f w ≡ settled_by how f (named_here p n count f >>= λ name. calls_name p v receiver name (arguments count f)) w
calls_as p n parts count v receiver lexical how f w a b c =
    ap (λ (k : ℕ). settled_by how f (named_here p n count f >>= λ name. calls_name p (operand_at (count + k) f) (receiver_under lexical (operand_at (count + k) f)) name (arguments count f)) w) (sym a)
    ∙ ap (λ (h : Value). settled_by how f (named_here p n count f >>= λ name. calls_name p h (receiver_under lexical h) name (arguments count f)) w) (sym b)
    ∙ ap (λ (y : Value). settled_by how f (named_here p n count f >>= λ name. calls_name p v y name (arguments count f)) w) (sym c)

pub constructs_as : (p : Setting) (n parts count : ℕ) (v : Value) (f : Frame) (w : World) → parts ≡ parts_at p n → v ≡ operand_at (count + parts) f
    → constructs_named p n count f w ≡ (named_here p n count f >>= reads p v >>= constructs_of p (parts + 1) count f) w
constructs_as p n parts count v f w a b =
    ap (λ (k : ℕ). (named_here p n count f >>= reads p (operand_at (count + k) f) >>= constructs_of p (k + 1) count f) w) (sym a)
    ∙ ap (λ (h : Value). (named_here p n count f >>= reads p h >>= constructs_of p (parts + 1) count f) w) (sym b)
