use Rattle.std.proofs.Common.{subst, sym}
use Rattle.abc_file_types.specs.declared.tables.Abc.{Abc}
use Rattle.abc_file_types.specs.Files.{Fits}
use Rattle.abc_cli_answers.proofs.Fitting.{generated_fits}
use Rattle.abc_cli_answers.proofs.making.make_abc.Goals as goal

pub returns-clause-fits : goal.returns-clause-fits
returns-clause-fits c = subst (λ (v : Abc). Fits v) (sym c.in_ok-abc.ensures) (generated_fits c.args.seed c.args.methods c.requires)
