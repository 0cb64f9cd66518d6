use Rattle.std.proofs.Common.{ℕ, ◌∙◌, false, length, replicate, ap}
use Rattle.std.proofs.lemmas.Result.{err_from_is_err_and}
use Rattle.abc_file_types.specs.declared.tables.Abc.{Abc}
use Rattle.abc_machine.proofs.machine.open_first.Goals as goal

pub returns-in_err-seen : goal.returns-in_err-seen
returns-in_err-seen g c = let p = err_from_is_err_and c.from_residual.result c.from_residual.ensures.1 in rw (p.1, p.2) tt

pub returns-in_err-state : goal.returns-in_err-state
returns-in_err-state g c = let p = err_from_is_err_and c.from_residual-in_err-state.result c.from_residual-in_err-state.ensures.1 in rw (p.1, p.2) c.in_err-state.ensures

pub returns : goal.returns
returns g c = record { begun = c.in_ok-state.ensures; none = c.in_ok-seen.ensures ∙ ap (λ (n : ℕ). replicate n false) (c.len.ensures ∙ ap (λ (v : Abc). length v.scripts) c.abc.ensures) }
