-- How the states of places are kept: for each place 0, or one more than the number of its state.
use Rattle.std.specs.Prelude.{◌≡◌, ℕ, zero, suc, ◌+◌, ◌*◌, ◌≤◌, ◌<◌, List, [], ◌∷◌, ◌++◌, Bool, true, false, Option, None, Some, drop, length, map, set, slice_get, take}
use Rattle.abc_link_names.specs.Linked.{LinkedFile}
use Rattle.abc_link_names.specs.declared.types.Kind.{Kind}
use Rattle.abc_verify_typing.specs.Routines.{Routine}
use Rattle.abc_verify_typing.specs.Typing.{Derivable, HasOneShape, IsJoinState, StateLe}
use Rattle.abc_verify_typing.specs.declared.state.Scope.{Scope}
use Rattle.abc_verify_typing.specs.declared.state.State.{State}
use Rattle.abc_verify_typing.specs.Rank.{layouts, rank_of_state}
use Rattle.abc_verify_typing.specs.Work.{at}
use Rattle.abc_verify_flow.specs.declared.kept.Head.{Head}
use Rattle.abc_verify_flow.specs.declared.span.Span.{Span}
use Rattle.abc_verify_flow.specs.declared.step.Met.{Met}
use Rattle.abc_verify_flow.specs.declared.step.Met.TheVariants.{First, Same, Joined, Unequal}

abbrev pub known_of_number : {X : Type 0} → List X → ℕ → Option X
known_of_number known zero = None
known_of_number known (suc n) = slice_get known n

-- what is known at each place
abbrev pub known_at : {X : Type 0} → List ℕ → List X → List (Option X)
known_at numbers known = map (known_of_number known) numbers

-- each number is of one place alone
pub record ArePlaceNumbers (numbers : List ℕ) (count : ℕ) : Type 0 where
  pub inside : (i n : ℕ) → slice_get numbers i ≡ Some (suc n) → n < count
  pub apart : (i j n : ℕ) → slice_get numbers i ≡ Some (suc n) → slice_get numbers j ≡ Some (suc n) → i ≡ j

-- what a call finds by a number, and whether there is anything
abbrev pub IsKnownNumber : {X : Type 0} → List X → ℕ → X → Bool → Type 0
IsKnownNumber known n x false = known_of_number known n ≡ None
IsKnownNumber known n x true = known_of_number known n ≡ Some x

-- what a call finds at a place, and whether anything is known there
abbrev pub IsLoaded : List (Option State) → ℕ → State → Bool → Type 0
IsLoaded a t s false = at a t ≡ None
IsLoaded a t s true = slice_get a t ≡ Some (Some s)

-- a state is at most what is known
abbrev pub IsBelowKnown : LinkedFile → Option State → State → Type 0
IsBelowKnown p known s = (old : State) × (known ≡ Some old) × StateLe p s old

-- a state is at most that of a number, which counts from 0
abbrev pub IsStateBelow : LinkedFile → List State → ℕ → State → Type 0
IsStateBelow p known n s = IsBelowKnown p (slice_get known n) s

-- what is known at a place, and the least state above that and another
pub record IsRaised (p : LinkedFile) (a : List (Option State)) (t : ℕ) (n : State) (c : List (Option State)) : Type 0 where
  pub old : State
  pub joined : State
  pub known : slice_get a t ≡ Some (Some old)
  pub is : c ≡ set a t (Some joined)
  pub joins : IsJoinState p old n joined
  pub falls : rank_of_state (layouts p) joined < rank_of_state (layouts p) old

-- a state flows to a place, and nothing is changed
pub record IsMet (a : List (Option State)) (t : ℕ) (Holds : State → Type 0) (c : List (Option State)) : Type 0 where
  pub old : State
  pub known : slice_get a t ≡ Some (Some old)
  pub is : c ≡ a
  pub holds : Holds old

-- a state flows to a place
abbrev pub Meets : LinkedFile → List (Option State) → ℕ → State → List (Option State) → Met → Type 0
Meets p a t n c First = (at a t ≡ None) × (c ≡ set a t (Some n))
Meets p a t n c Same = IsMet a t (λ old. StateLe p n old) c
Meets p a t n c Joined = IsRaised p a t n c
Meets p a t n c Unequal = IsMet a t (λ old. HasOneShape old n → ⊥) c

-- what is known at a place is derived, and has another shape
pub record Clashes (p : LinkedFile) (m : Routine) (a : List (Option State)) (t : ℕ) (n : State) : Type 0 where
  pub old : State
  pub known : slice_get a t ≡ Some (Some old)
  pub derived : Derivable p m t old
  pub unequal : HasOneShape old n → ⊥

-- ---- states whose values lie one behind the other

abbrev pub part : {X : Type 0} → Span → List X → List X
part s xs = take s.count (drop s.first xs)

-- values in place of those that lie somewhere
abbrev pub over : {X : Type 0} → Span → List X → List X → List X
over s xs ys = take s.first xs ++ (ys ++ drop s.count (drop s.first xs))

-- blocks, one after the other
abbrev pub concat_blocks : {X : Type 0} → List (List X) → List X
concat_blocks [] = []
concat_blocks (b ∷ bs) = b ++ concat_blocks bs

abbrev pub state_of : List Kind → List Scope → List (List Kind) → Head → State
state_of operands scopes blocks h = record { stack = part h.operands operands; scopes = part h.scopes scopes; locals = concat_blocks (part h.locals blocks) }

abbrev pub states_of : List Kind → List Scope → List (List Kind) → List Head → List State
states_of operands scopes blocks heads = map (state_of operands scopes blocks) heads

-- the values of each state lie before an end, behind those of the states before it
pub record LieApart (span : Head → Span) (heads : List Head) (end : ℕ) : Type 0 where
  pub inside : (i : ℕ) (h : Head) → slice_get heads i ≡ Some h → (span h).first + (span h).count ≤ end
  pub apart : (i j : ℕ) (h k : Head) → i < j → slice_get heads i ≡ Some h → slice_get heads j ≡ Some k → (span h).first + (span h).count ≤ (span k).first

pub record AreStatesLaid (heads : List Head) (o c l : ℕ) : Type 0 where
  pub operands : LieApart (λ h. h.operands) heads o
  pub scopes : LieApart (λ h. h.scopes) heads c
  pub locals : LieApart (λ h. h.locals) heads l

pub record IsSpan (start number : ℕ) (s : Span) : Type 0 where
  pub first : s.first ≡ start
  pub count : s.count ≡ number

-- a state is to lie behind all others, and has no more locals than as many blocks have
pub record IsHeadBehind (o c l : ℕ) (s : State) (h : Head) : Type 0 where
  pub operands : IsSpan o (length s.stack) h.operands
  pub scopes : IsSpan c (length s.scopes) h.scopes
  pub first : h.locals.first ≡ l
  pub all : length s.locals ≤ h.locals.count * 64

-- a state has as many operands and scopes as lie somewhere, and no more locals than as many blocks have
pub record HasLengths (h : Head) (s : State) : Type 0 where
  pub operands : length s.stack ≡ h.operands.count
  pub scopes : length s.scopes ≡ h.scopes.count
  pub locals : length s.locals ≤ h.locals.count * 64

-- values were added at the end
abbrev pub IsLonger : {X : Type 0} → List X → List X → Type 0
IsLonger {X} old new = (more : List X) × (new ≡ old ++ more)
