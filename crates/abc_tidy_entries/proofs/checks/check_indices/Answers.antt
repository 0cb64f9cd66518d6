use Rattle.std.proofs.Common.{All, refl}
use Rattle.abc_tidy_refs.specs.Refs.{file_refs}
use Rattle.abc_tidy_entries.specs.Rules.{IsEntryThere}
use Rattle.abc_tidy_entries.proofs.Operands.{operands_hold, param_names_hold}
use Rattle.abc_tidy_entries.proofs.checks.check_indices.Goals as goal

pub returns-then-are_there : goal.returns-then-are_there
returns-then-are_there c =
    let all : All (IsEntryThere c.args.abc.now) (file_refs c.args.abc.now) = c.requires c.if-are_there.true in
    (operands_hold c.args.abc.now (file_refs c.args.abc.now) refl all, param_names_hold c.args.abc.now (file_refs c.args.abc.now) refl all)

pub returns : goal.returns
returns c = (c.in_ok-check_bodies.ensures, c.in_ok-check_methods.ensures)
