-- A place whose rules a state keeps, opened once for all proofs.
use Rattle.std.specs.Prelude.{◌≡◌, ℕ, ◌≤◌, ◌++◌, true, Some, length, map, slice_get}
use Rattle.abc_verify_typing.specs.Instructions.{opcode}
use Rattle.abc_verify_typing.specs.Rows.{Shape, row_at}
use Rattle.abc_file_types.specs.declared.code.Instr.{Instr}
use Rattle.abc_link_names.specs.Linked.{LinkedFile}
use Rattle.abc_verify_typing.specs.Routines.{Routine}
use Rattle.abc_verify_typing.specs.declared.state.State.{State}
use Rattle.abc_verify_typing.specs.declared.rule.VerifyRule.{VerifyRule}
use Rattle.abc_verify_typing.specs.Effects.{Here, states_after, covering, caught_state}
use Rattle.abc_verify_typing.specs.Rules.{keeps, follows}

abbrev pub here_with : LinkedFile → Routine → ℕ → Instr → Shape → Here
here_with p m i instr row = record { file = p; method = m; place = i; instr = instr; row = row }

pub record Stands (p : LinkedFile) (m : Routine) (i : ℕ) (s : State) : Type 0 where
  pub instr : Instr
  pub row : Shape
  pub at : slice_get m.code i ≡ Some instr
  pub is : row_at (opcode instr) ≡ Some row
  pub kept : (r : VerifyRule) → keeps (here_with p m i instr row) s r ≡ true
  pub follows_is : follows p m i s ≡ states_after (here_with p m i instr row) s ++ map (caught_state s) (covering m i)

-- the sizes that a method gives
pub record IsWithinSizes (m : Routine) (s : State) : Type 0 where
  pub stack : length s.stack ≤ m.max_stack
  pub scopes : length s.scopes ≤ m.scope_size
  pub locals : length s.locals ≡ m.local_count
