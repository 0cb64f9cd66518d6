use Rattle.std.proofs.Common.{◌≡◌, rules, arith}
use Rattle.std.specs.Prelude.{codes}
use Rattle.std.proofs.lemmas.Slice.Eq.{text_from_reads}
use Rattle.abc_cli_answers.proofs.Filling.{gen_methods}
use Rattle.abc_cli_answers.proofs.given.GivenGenGiven.give.Goals as goal

pub returns-in-methods-clause-given : goal.returns-in-methods-clause-given
returns-in-methods-clause-given c =
    let name : c.args.name.now ≡ codes "methods" = text_from_reads c.args.name.now (codes "methods") (omega arith) (search rules) in
    gen_methods c.args.self.now c.args.name.now c.args.number _ _ name c.fill-in-methods.ensures.taken c.fill-in-methods.ensures.after
