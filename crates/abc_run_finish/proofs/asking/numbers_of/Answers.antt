use mir.Syntax.{w64}
use mir.Val.{SFits}
use Rattle.std.proofs.Common.{◌∙◌, rules}
use Rattle.std.proofs.lemmas.Int.{to_z-of_z}
use Rattle.abc_run_finish.proofs.OutwardDone.{four_numbers}
use Rattle.abc_run_finish.proofs.asking.numbers_of.Goals as goal

pub returns-clause-numbers : goal.returns-clause-numbers
returns-clause-numbers c =
    let a : SFits w64 c.number_at.result = search rules in
    let b : SFits w64 c.number_at-2.result = search rules in
    let d : SFits w64 c.number_at-3.result = search rules in
    let e : SFits w64 c.number_at-4.result = search rules in
    four_numbers c.args.values.now _ _ _ _ c.requires.few
    (to_z-of_z w64 c.number_at.result a ∙ c.number_at.ensures.is)
    (to_z-of_z w64 c.number_at-2.result b ∙ c.number_at-2.ensures.is)
    (to_z-of_z w64 c.number_at-3.result d ∙ c.number_at-3.ensures.is)
    (to_z-of_z w64 c.number_at-4.result e ∙ c.number_at-4.ensures.is)
