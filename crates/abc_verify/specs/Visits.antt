-- An instruction at its place, as the code holds it.
use Rattle.std.specs.Prelude.{◌≡◌, ◌-◌, Some, None, List, [], ◌∷◌, ◌++◌, Bool, true, false, ◌&&◌, length, take}
use Rattle.abc_link_names.specs.declared.types.Kind.{Kind}
use Rattle.abc_verify_typing.specs.Instructions.{local, second_local}
use Rattle.abc_verify_typing.specs.Table.{shape_of}
use Rattle.abc_verify_typing.specs.declared.row.Leads.{Leads}
use Rattle.abc_verify_typing.specs.declared.row.Leads.TheVariants.{Next, Branches, Jumps, Switches}
use Rattle.abc_verify_typing.specs.declared.row.Locals.{Locals}
use Rattle.abc_verify_typing.specs.declared.row.Locals.TheVariants.{Untouched, Reads, Sets, Walks}
use Rattle.abc_verify_typing.specs.declared.row.Need.{Need}
use Rattle.abc_verify_typing.specs.declared.row.Need.TheVariants.{Slotted}
use Rattle.abc_file_types.specs.declared.code.Instr.{Instr}
use Rattle.abc_verify_typing.specs.declared.row.Scoping.{Scoping}
use Rattle.abc_verify_typing.specs.declared.row.Scoping.TheVariants.{Stays, Pushes, Pops}
use Rattle.abc_verify_flow.specs.declared.step.Step.{Step}
use Rattle.abc_verify_flow.specs.declared.step.Written.{Written}
use Rattle.abc_verify_flow.specs.declared.step.Written.TheVariants as writes
use Rattle.abc_verify_flow.specs.declared.step.Trial.{Trial}
use Rattle.abc_verify_flow.specs.declared.step.Trial.TheVariants as trials
use Rattle.abc_verify_typing.specs.Effects.{Here, goes_on_after, needs, state_behind, stack_below}
use Rattle.abc_verify_typing.specs.Rules.{early_rules, first_broken, keeps, late_rules}
use Rattle.abc_verify_typing.specs.declared.state.Scope.{Scope}
use Rattle.abc_verify_typing.specs.declared.state.State.{State}
use Rattle.abc_verify_states.specs.Frames.{routine_of_frame}
use Rattle.abc_verify.specs.declared.changes.Given.{Given}
use Rattle.abc_verify.specs.declared.changes.Given.TheVariants as given
use Rattle.abc_verify.specs.declared.visit.Visit.{Visit}

abbrev pub here_in : Visit → Here
here_in v = record { file = v.linked.now; method = routine_of_frame v.frame.now; place = v.place; instr = v.instr.now; row = shape_of v.row }

-- the value at a need that asks for a slot, or else one that stands below
abbrev pub kind_at_need : Need → Kind → Kind → Kind
kind_at_need Slotted here below = here
kind_at_need need here below = below

-- the kinds that are pushed, the top first
abbrev pub given_kinds : Given → List Kind
given_kinds given.Nothing = []
given_kinds (given.One a) = a ∷ []
given_kinds (given.Two a b) = a ∷ b ∷ []

-- the scopes after a push or a pop
abbrev pub scopes_after_row : Scoping → Kind → List Scope → List Scope
scopes_after_row Stays kind scopes = scopes
scopes_after_row (Pushes is_with) kind scopes = scopes ++ record { kind = kind; is_with = is_with } ∷ []
scopes_after_row Pops kind scopes = take (length scopes - 1) scopes

-- which locals are written
abbrev pub written_by : Instr → Locals → Written
written_by i Untouched = writes.Nothing
written_by i Reads = writes.Nothing
written_by i (Sets source) = writes.One (local i)
written_by i Walks = writes.Two (local i) (second_local i)

-- whether the next place follows, and whether the places that are named do
abbrev pub leads_on : Leads → Bool
leads_on Next = true
leads_on Branches = true
leads_on leads = false

abbrev pub leads_away : Leads → Bool
leads_away Branches = true
leads_away Jumps = true
leads_away Switches = true
leads_away leads = false

abbrev pub step_by : Bool → Leads → Written → Step
step_by goes leads written = record { next = goes && leads_on leads; jumps = goes && leads_away leads; written = written }

-- a state breaks a rule at an instruction, or breaks none and the instruction is done to it
abbrev pub IsTried : Here → State → State → Trial → Type 0
IsTried h old new (trials.Breaks r) = first_broken (keeps h old) (early_rules ++ late_rules) ≡ Some r
IsTried h old new (trials.Steps w) = (first_broken (keeps h old) (early_rules ++ late_rules) ≡ None) × (new ≡ state_behind h old) × (w ≡ step_by (goes_on_after (needs h) (stack_below h old)) h.row.leads (written_by h.instr h.row.locals))
