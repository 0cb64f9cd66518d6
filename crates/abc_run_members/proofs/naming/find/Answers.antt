use Rattle.abc_run_members.proofs.Searched.{found_there}
use Rattle.std.proofs.Common.{subst, sym}
use Rattle.abc_objects.specs.declared.found.Found.{Found}
use Rattle.abc_objects.specs.declared.found.Want.TheVariants.{Read}
use Rattle.abc_run_members.specs.Members.{IsFoundThere}
use Rattle.abc_run_members.proofs.naming.find.Goals as goal

pub returns-clause-there : goal.returns-clause-there
returns-clause-there c =
    let l = c.args.linked.now in
    let h = c.args.s.now.arena in
    subst (λ (f : Found). IsFoundThere l h f) (sym c.find_on.ensures) (found_there l h c.args.v c.args.name.now Read c.answer_is_the_first.ensures c.found_is_there.ensures c.requires.over)
