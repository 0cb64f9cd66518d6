-- What handlers are told, by the nodes of the tree that they hang in.
use Rattle.std.specs.Prelude.{◌≡◌, ℕ, ◌*◌, List, Option, Some, None, Bool, length, map, filter, slice_get, ltb, not, ◌⊎◌}
use Rattle.abc_link_names.specs.Kinds.{IsAtMost}
use Rattle.abc_link_names.specs.Linked.{LinkedFile}
use Rattle.abc_link_names.specs.declared.types.Kind.{Kind}
use Rattle.abc_base_trees.specs.Hung.{AreHung, HangsAt, leaves}
use Rattle.abc_base_trees.specs.declared.hang.Range.{Range}
use Rattle.abc_base_trees.specs.declared.stabs.Stabs.{Stabs}
use Rattle.abc_verify_typing.specs.Effects.{covering}
use Rattle.abc_verify_typing.specs.Lists.{Each2}
use Rattle.abc_verify_typing.specs.Routines.{Routine}
use Rattle.abc_verify_typing.specs.Typing.{In, IsJoinState}
use Rattle.abc_verify_typing.specs.declared.catch.Catch.{Catch}
use Rattle.abc_verify_typing.specs.declared.state.State.{State}
use Rattle.abc_verify_typing.specs.Work.{at, Landed}
use Rattle.abc_verify_flow.specs.Walking.{AreTold, IsTableOpen, IsStateReady, MovesState, caught_with}
use Rattle.abc_verify_flow.specs.declared.handled.Handled.{Handled}

abbrev pub range_of : Catch → Range
range_of h = record { from = h.from; to = h.to }

-- those that don't lead to a place before the code's end
abbrev pub leads_beyond : ℕ → Catch → Bool
leads_beyond end h = not (ltb h.target end)

pub record IsHandled (handlers : List Catch) (end : ℕ) (h : Handled) : Type 0 where
  pub all : AreHung (map range_of handlers) h.all
  pub beyond : AreHung (map range_of (filter (leads_beyond end) handlers)) h.beyond

-- a handler hangs at a node
pub record HandlerAt (t : Stabs) (handlers : List Catch) (node : ℕ) (h : Catch) : Type 0 where
  pub number : ℕ
  pub hangs : HangsAt t node number
  pub is : slice_get handlers number ≡ Some h

-- a handler gets a state where there are these locals, and that is derived
abbrev pub IsReadyFor : LinkedFile → Routine → List Bool → List Kind → Catch → Type 0
IsReadyFor p m heads locals h = IsStateReady p m heads h.target (caught_with locals h).1

abbrev pub IsTold : LinkedFile → List (Option State) → List Kind → Catch → Type 0
IsTold p states locals h = Landed p states h.target (caught_with locals h).1

-- the handlers at each node were told what is kept of it
pub record AreHandlersTold (p : LinkedFile) (m : Routine) (heads : List Bool) (t : Stabs) (last states : List (Option State)) : Type 0 where
  pub long : length last ≡ 2 * leaves t
  pub ready : (node : ℕ) (s : State) (h : Catch) → at last node ≡ Some s → HandlerAt t m.handlers node h → IsReadyFor p m heads s.locals h
  pub told : (node : ℕ) (s : State) (h : Catch) → at last node ≡ Some s → HandlerAt t m.handlers node h → IsTold p states s.locals h

-- what was told before was enough, or this is told now: the join with what was told before, if anything was
abbrev pub Raises : LinkedFile → Option State → State → Option State → Type 0
Raises p old seen None = (s : State) × (old ≡ Some s) × Each2 (IsAtMost p) seen.locals s.locals
Raises p old seen (Some now) = (now.locals ≡ seen.locals) ⊎ ((s : State) × (old ≡ Some s) × IsJoinState p s seen now)

-- the handler of a number, if there is one, got these locals
pub record HasCaughtOne (p : LinkedFile) (m : Routine) (heads : List Bool) (number : ℕ) (locals : List Kind) (a : List (Option State)) (v : List ℕ) (c : List (Option State)) (w : List ℕ) : Type 0 where
  pub advances : MovesState p m heads a v c w
  pub adds : (i : ℕ) → In i w → In i v ⊎ ((h : Catch) × (slice_get m.handlers number ≡ Some h) × (i ≡ h.target))
  pub whole : IsTableOpen p m c
  pub told : (h : Catch) → slice_get m.handlers number ≡ Some h → IsTold p c locals h

-- all handlers at a node got these locals
pub record HasCaught (p : LinkedFile) (m : Routine) (heads : List Bool) (t : Stabs) (node : ℕ) (locals : List Kind) (a : List (Option State)) (v : List ℕ) (c : List (Option State)) (w : List ℕ) : Type 0 where
  pub advances : MovesState p m heads a v c w
  pub adds : (i : ℕ) → In i w → In i v ⊎ ((h : Catch) × HandlerAt t m.handlers node h × (i ≡ h.target))
  pub whole : IsTableOpen p m c
  pub told : (h : Catch) → HandlerAt t m.handlers node h → IsTold p c locals h

pub record HasToldAt (p : LinkedFile) (m : Routine) (heads : List Bool) (t : Stabs) (node : ℕ) (locals : List Kind) (a : List (Option State)) (v : List ℕ) (last c : List (Option State)) (w : List ℕ) : Type 0 where
  pub caught : HasCaught p m heads t node locals a v c w
  pub kept : AreHandlersTold p m heads t last c

pub record HasTold (p : LinkedFile) (m : Routine) (heads : List Bool) (t : Stabs) (place : ℕ) (locals : List Kind) (a : List (Option State)) (v : List ℕ) (last c : List (Option State)) (w : List ℕ) : Type 0 where
  pub advances : MovesState p m heads a v c w
  pub adds : (i : ℕ) → In i w → In i v ⊎ ((h : Catch) × In h (covering m place) × (i ≡ h.target))
  pub whole : IsTableOpen p m c
  pub told : AreTold p c (covering m place) locals
  pub kept : AreHandlersTold p m heads t last c
