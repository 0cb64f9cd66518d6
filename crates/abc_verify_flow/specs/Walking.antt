-- What the code of the work list promises.
use Rattle.std.specs.Prelude.{◌≡◌, ◌≢◌, ℕ, suc, ◌+◌, ◌-◌, ◌<◌, ◌≤◌, List, [], ◌∷◌, ◌++◌, Bool, true, false, cond, Option, Some, None, length, map, set, slice_get, ◌⊎◌}
use Rattle.abc_link_names.specs.Kinds.{IsAtMost, IsJoin}
use Rattle.abc_link_names.specs.Linked.{LinkedFile}
use Rattle.abc_link_names.specs.declared.types.Kind.{Kind}
use Rattle.abc_verify_typing.specs.Instructions.{targets}
use Rattle.abc_file_types.specs.declared.code.Instr.{Instr}
use Rattle.abc_verify_typing.specs.Effects.{covering, caught_state}
use Rattle.abc_verify_typing.specs.Lists.{Each2}
use Rattle.abc_verify_typing.specs.Routines.{Routine}
use Rattle.abc_verify_typing.specs.Rules.{after_instr, broken}
use Rattle.abc_verify_typing.specs.Typing.{StateLe, HasOneShape, IsFine, In, Follows, IsJoinState, IsTyping, Derivable, Refutes}
use Rattle.abc_verify_typing.specs.declared.catch.Catch.{Catch}
use Rattle.abc_verify_typing.specs.declared.state.State.{State}
use Rattle.abc_verify_typing.specs.Work.{at, Landed, RunsOn, Advances, AreDerived, IsUnderWay, total_rank, state_on_walk}
use Rattle.abc_verify_typing.specs.Rank.{layouts, rank_of_state, top_rank}
use Rattle.abc_verify_flow.specs.declared.step.Step.{Step}
use Rattle.abc_verify_flow.specs.declared.step.Trial.{Trial}
use Rattle.abc_verify_flow.specs.declared.step.Trial.TheVariants as trials
use Rattle.abc_verify_flow.specs.declared.step.Written.{Written}
use Rattle.abc_verify_flow.specs.declared.step.Written.TheVariants as writes
use Rattle.abc_verify_flow.specs.declared.step.Merged.{Merged}
use Rattle.abc_verify_flow.specs.declared.step.Merged.TheVariants.{Same, Joined, Unequal}
use Rattle.abc_verify_flow.specs.declared.step.Refusal.{Refusal}
use Rattle.abc_verify_flow.specs.declared.step.Refusal.TheVariants.{Refused, NoMemory}
use Rattle.abc_verify_flow.specs.declared.step.Onward.{Onward}
use Rattle.abc_verify_flow.specs.declared.step.Onward.TheVariants.{Stops, GoesOn}

abbrev pub targets_of_instr : Option Instr → List ℕ
targets_of_instr None = []
targets_of_instr (Some instr) = targets instr

abbrev pub targets_at : Routine → ℕ → List ℕ
targets_at m i = targets_of_instr (slice_get m.code i)

-- where a step leads
abbrev pub leads_of : Routine → ℕ → Step → List ℕ
leads_of m i w = cond w.next (suc i ∷ []) [] ++ cond w.jumps (targets_at m i) []

abbrev pub landing : State → ℕ → ℕ × State
landing s t = (t, s)

-- ---- which locals a step writes

pub record WroteOne (j : ℕ) (old new : List Kind) : Type 0 where
  pub kind : Kind
  pub is : new ≡ set old j kind

pub record WroteTwo (i j : ℕ) (old new : List Kind) : Type 0 where
  pub apart : i ≢ j
  pub first : Kind
  pub second : Kind
  pub is : new ≡ set (set old i first) j second

abbrev pub Wrote : Written → List Kind → List Kind → Type 0
Wrote writes.Nothing old new = new ≡ old
Wrote (writes.One j) old new = WroteOne j old new
Wrote (writes.Two i j) old new = WroteTwo i j old new

pub record Steps (p : LinkedFile) (m : Routine) (i : ℕ) (old new : State) (w : Step) : Type 0 where
  pub after : after_instr p m i old (slice_get m.code i) ≡ map (landing new) (leads_of m i w)
  pub locals : Wrote w.written old.locals new.locals

-- a state breaks a rule at a place, or breaks none and the instruction is done to it
abbrev pub IsTriedAt : LinkedFile → Routine → ℕ → State → State → Trial → Type 0
IsTriedAt p m i old new (trials.Breaks r) = broken p m i old ≡ Some r
IsTriedAt p m i old new (trials.Steps w) = IsFine p m i old × Steps p m i old new w

-- Of merging the state n into `old`: n is at most `old`; or j is their join, and can rise less far; or they have not one shape.
abbrev pub MergesTo : LinkedFile → State → State → State → Merged → Type 0
MergesTo p old n j Same = StateLe p n old
MergesTo p old n j Joined = IsJoinState p old n j × (rank_of_state (layouts p) j < rank_of_state (layouts p) old)
MergesTo p old n j Unequal = HasOneShape old n → ⊥

-- If the answer is a refusal, its rule refutes the method at its index.
abbrev pub RefusedBy : LinkedFile → Routine → Refusal → Type 0
RefusedBy p m (Refused i r) = Refutes p m i r
RefusedBy p m NoMemory = Unit {0}

-- ---- the places that begin a walk

abbrev pub holds_so : Option Bool → Bool
holds_so None = false
holds_so (Some b) = b

abbrev pub is_head : List Bool → ℕ → Bool
is_head heads i = holds_so (slice_get heads i)

-- a walk begins at the first place, at what something leads to, and where a handler's range begins or ends
pub data BeginsWalk (m : Routine) (t : ℕ) : Type 0 where
  AtStart : t ≡ 0 → BeginsWalk m t
  AtTarget : (i : ℕ) → In t (targets_at m i) → BeginsWalk m t
  AtHandler : (h : Catch) → In h m.handlers → (t ≡ h.target) ⊎ ((t ≡ h.from) ⊎ (t ≡ h.to)) → BeginsWalk m t

-- the heads are the places of the code where a walk begins, and no other
pub record AreWalkHeads (m : Routine) (heads : List Bool) : Type 0 where
  pub first : is_head heads 0 ≡ true
  pub jumps : (i t : ℕ) → In t (targets_at m i) → t < length m.code → is_head heads t ≡ true
  pub handlers : (h : Catch) → In h m.handlers → h.target < length m.code → is_head heads h.target ≡ true
  pub begins : (h : Catch) → In h m.handlers → h.from < length m.code → is_head heads h.from ≡ true
  pub ends : (h : Catch) → In h m.handlers → h.to < length m.code → is_head heads h.to ≡ true
  pub only : (t : ℕ) → is_head heads t ≡ true → BeginsWalk m t

abbrev pub MovesState : LinkedFile → Routine → List Bool → List (Option State) → List ℕ → List (Option State) → List ℕ → Type 0
MovesState p m heads a v c w = Advances p (rank_of_state (layouts p)) (top_rank (layouts p) m) (is_head heads) a v c w

-- what may be merged: the table is whole, and what it has is derived
pub record IsTableOpen (p : LinkedFile) (m : Routine) (states : List (Option State)) : Type 0 where
  pub long : length states ≡ length m.code
  pub derived : AreDerived p m states

-- nothing leads back: what an instruction or a handler leads to stands behind it
pub record IsForward (m : Routine) : Type 0 where
  pub jumps : (i t : ℕ) → In t (targets_at m i) → i < t
  pub handlers : (i : ℕ) (h : Catch) → In h (covering m i) → i < h.target

-- what waits anew has a state, and stands behind a place if nothing leads back
abbrev pub AddsBehind : Routine → ℕ → List ℕ → List (Option State) → List ℕ → Type 0
AddsBehind m place v c w = (i : ℕ) → In i w → In i v ⊎ ((s : State) × (at c i ≡ Some s) × (IsForward m → place < i))

-- a state has landed at each of some places, nothing else waits anew, and all that was known goes on
pub record AllReach (p : LinkedFile) (m : Routine) (heads : List Bool) (xs : List (ℕ × State)) (a : List (Option State)) (v : List ℕ) (c : List (Option State)) (w : List ℕ) : Type 0 where
  pub advances : MovesState p m heads a v c w
  pub landed : (t : ℕ) (n : State) → In (t, n) xs → Landed p c t n
  pub adds : (i : ℕ) → In i w → In i v ⊎ ((n : State) × In (i, n) xs)
  pub whole : IsTableOpen p m c

-- what may come next
pub record IsStateReady (p : LinkedFile) (m : Routine) (heads : List Bool) (t : ℕ) (n : State) : Type 0 where
  pub derived : Derivable p m t n
  pub inside : t < length m.code
  pub head : is_head heads t ≡ true

abbrev pub AreEntriesReady : LinkedFile → Routine → List Bool → List (ℕ × State) → Type 0
AreEntriesReady p m heads xs = (t : ℕ) (n : State) → In (t, n) xs → IsStateReady p m heads t n

-- the next place may be reached
pub record MayGoOn (p : LinkedFile) (m : Routine) (i : ℕ) (n : State) : Type 0 where
  pub derived : Derivable p m (suc i) n
  pub inside : suc i < length m.code

-- ---- what handlers get: told at the end of a walk, of the join of the locals at all its places

abbrev pub caught_with : List Kind → Catch → ℕ × State
caught_with locals h = (h.target, record { stack = h.kind ∷ []; scopes = []; locals = locals })

-- at one place the join of what stood there and of the local
pub record NotedAt (p : LinkedFile) (old locals : List Kind) (j : ℕ) (new : List Kind) : Type 0 where
  pub kind : Kind
  pub is : new ≡ set old j kind
  pub joins : (a b : Kind) → slice_get old j ≡ Some a → slice_get locals j ≡ Some b → IsJoin p a b kind

pub record NotedTwo (p : LinkedFile) (old locals : List Kind) (i j : ℕ) (new : List Kind) : Type 0 where
  pub between : List Kind
  pub first : NotedAt p old locals i between
  pub second : NotedAt p between locals j new

abbrev pub NotesWritten : LinkedFile → Written → List Kind → List Kind → List Kind → Type 0
NotesWritten p writes.Nothing old locals new = new ≡ old
NotesWritten p (writes.One j) old locals new = NotedAt p old locals j new
NotesWritten p (writes.Two i j) old locals new = NotedTwo p old locals i j new

-- what is seen as a walk begins: the locals, if a handler covers it
abbrev pub IsSeenFirst : List Catch → List Kind → List Kind → Type 0
IsSeenFirst cover seen locals = (h : Catch) → In h cover → seen ≡ locals

-- each is at most what was seen, if a handler covers the walk
abbrev pub AreSeen : LinkedFile → List Catch → List Kind → List Kind → Type 0
AreSeen p cover locals seen = (h : Catch) → In h cover → Each2 (IsAtMost p) locals seen

-- what was seen so far: nothing but the locals as the walk begins, or what handlers may get, and a step after that
pub data IsPending (p : LinkedFile) (m : Routine) (heads : List Bool) (cover : List Catch) (seen locals : List Kind) (w : Written) : Type 0 where
  First : IsSeenFirst cover seen locals → w ≡ writes.Nothing → IsPending p m heads cover seen locals w
  Later : (old : List Kind) → AreEntriesReady p m heads (map (caught_with seen) cover) → AreSeen p cover old seen → Wrote w old locals → IsPending p m heads cover seen locals w

-- what handlers may get, and the locals are at most that
pub record IsSeen (p : LinkedFile) (m : Routine) (heads : List Bool) (cover : List Catch) (seen locals : List Kind) : Type 0 where
  pub ready : AreEntriesReady p m heads (map (caught_with seen) cover)
  pub most : AreSeen p cover locals seen

abbrev pub AreTold : LinkedFile → List (Option State) → List Catch → List Kind → Type 0
AreTold p states cover seen = (h : Catch) → In h cover → Landed p states h.target (caught_with seen h).1

-- ---- walks

-- the next place is a head, where the state has landed; or the walk goes on
abbrev pub ArrivesAt : LinkedFile → Routine → List Bool → Step → ℕ → State → List (Option State) → List ℕ → List (Option State) → List ℕ → Onward → Type 0
ArrivesAt p m heads step i n a v c w Stops = AllReach p m heads (map (landing n) (cond step.next (suc i ∷ []) [])) a v c w
ArrivesAt p m heads step i n a v c w (GoesOn written) = (step.next ≡ true) × (is_head heads (suc i) ≡ false) × (written ≡ step.written) × (c ≡ a) × (w ≡ v)

-- a walk ends, but for handlers
pub record IsStopped (p : LinkedFile) (m : Routine) (i : ℕ) (s : State) (c : List (Option State)) : Type 0 where
  pub fine : IsFine p m i s
  pub follows : (t : ℕ) (u : State) → Follows p m i s t u → Landed p c t u ⊎ In (t, u) (map (caught_state s) (covering m i))

-- a walk goes on to the next place
pub record IsOnward (p : LinkedFile) (m : Routine) (heads : List Bool) (i : ℕ) (s n : State) (w : Written) (c : List (Option State)) : Type 0 where
  pub fine : IsFine p m i s
  pub inner : is_head heads (suc i) ≡ false
  pub inside : suc i < length m.code
  pub follows : (t : ℕ) (u : State) → Follows p m i s t u → Landed p c t u ⊎ (((t ≡ suc i) × (u ≡ n)) ⊎ In (t, u) (map (caught_state s) (covering m i)))
  pub derived : Derivable p m (suc i) n
  pub wrote : Wrote w s.locals n.locals

abbrev pub PassesTo : LinkedFile → Routine → List Bool → ℕ → State → State → List (Option State) → Onward → Type 0
PassesTo p m heads i s n c Stops = IsStopped p m i s c
PassesTo p m heads i s n c (GoesOn w) = IsOnward p m heads i s n w c

pub record Passed (p : LinkedFile) (m : Routine) (heads : List Bool) (cover : List Catch) (i : ℕ) (s n : State) (old seen : List Kind) (a : List (Option State)) (v : List ℕ) (c : List (Option State)) (w : List ℕ) (o : Onward) : Type 0 where
  pub advances : MovesState p m heads a v c w
  pub adds : AddsBehind m i v c w
  pub whole : IsTableOpen p m c
  pub seen_is : IsSeen p m heads cover seen s.locals
  pub rises : AreSeen p cover old seen
  pub passes : PassesTo p m heads i s n c o

-- a walk, from a head on
pub record IsWalking (p : LinkedFile) (m : Routine) (heads : List Bool) (cover : List Catch) (start : ℕ) (s : State) (i : ℕ) (n : State) (seen : List Kind) (w : Written) (a : List (Option State)) (v : List ℕ) (c : List (Option State)) (x : List ℕ) : Type 0 where
  pub advances : MovesState p m heads a v c x
  pub adds : AddsBehind m start v c x
  pub whole : IsTableOpen p m c
  pub behind : start ≤ i
  pub inside : i < length m.code
  pub derived : Derivable p m i n
  pub covers : cover ≡ covering m i
  pub pending : IsPending p m heads cover seen n.locals w
  pub back : (d : List (Option State)) (y : List ℕ) → MovesState p m heads c x d y → AreTold p d cover seen → RunsOn p m (is_head heads) d i n → RunsOn p m (is_head heads) d start s

-- all but what handlers get
pub record HasPaced (p : LinkedFile) (m : Routine) (heads : List Bool) (cover : List Catch) (start : ℕ) (s : State) (seen : List Kind) (a : List (Option State)) (v : List ℕ) (c : List (Option State)) (w : List ℕ) : Type 0 where
  pub advances : MovesState p m heads a v c w
  pub adds : AddsBehind m start v c w
  pub whole : IsTableOpen p m c
  pub ready : AreEntriesReady p m heads (map (caught_with seen) cover)
  pub runs : (d : List (Option State)) (y : List ℕ) → MovesState p m heads c w d y → AreTold p d cover seen → RunsOn p m (is_head heads) d start s

pub record HasWalked (p : LinkedFile) (m : Routine) (heads : List Bool) (start : ℕ) (s : State) (a : List (Option State)) (v : List ℕ) (c : List (Option State)) (w : List ℕ) : Type 0 where
  pub advances : MovesState p m heads a v c w
  pub adds : AddsBehind m start v c w
  pub whole : IsTableOpen p m c
  pub runs : RunsOn p m (is_head heads) c start s

-- one head was taken from the work
pub record HasTurned (p : LinkedFile) (m : Routine) (heads : List Bool) (place : ℕ) (a : List (Option State)) (v : List ℕ) (c : List (Option State)) (w : List ℕ) : Type 0 where
  pub under_way : IsUnderWay p m (is_head heads) c w
  pub advances : MovesState p m heads a v c w
  pub adds : AddsBehind m place v c w
  pub falls : total_rank (rank_of_state (layouts p)) (top_rank (layouts p) m) c + length w ≤ total_rank (rank_of_state (layouts p)) (top_rank (layouts p) m) a + length v

-- ---- how many walks there are

-- how many walks begin at a place at most: where it has a state one, and one more for each step that the state rose from the lowest
abbrev pub walks_from : (State → ℕ) → ℕ → Option State → ℕ
walks_from rank top None = 0
walks_from rank top (Some s) = suc (top - rank s)

abbrev pub most_walks : (State → ℕ) → ℕ → List (Option State) → ℕ
most_walks rank top [] = 0
most_walks rank top (o ∷ os) = walks_from rank top o + most_walks rank top os

-- how many places have a state
abbrev pub count_known : List (Option State) → ℕ
count_known [] = 0
count_known (None ∷ os) = count_known os
count_known (Some s ∷ os) = suc (count_known os)

-- the states at the heads make a typing; from each head at most once more was walked than its state rose, and once where nothing leads back
pub record IsSettled (p : LinkedFile) (m : Routine) (heads : List Bool) (walks : ℕ) (states : List (Option State)) : Type 0 where
  pub typing : IsTyping p m (state_on_walk p m (is_head heads) states)
  pub few : walks ≤ most_walks (rank_of_state (layouts p)) (top_rank (layouts p) m) states
  pub once : IsForward m → walks ≤ count_known states
