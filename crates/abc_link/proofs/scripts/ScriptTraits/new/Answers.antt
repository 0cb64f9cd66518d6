use Rattle.abc_link_layouts.proofs.Grouping.{groups_texts}
use Rattle.abc_link.specs.ScriptTraits.{traits_of_scripts}
use Rattle.abc_link.proofs.scripts.ScriptTraits.new.Goals as goal

pub returns : goal.returns
returns c = record {
  owners = c.in_ok-push_scripts.ensures.owners;
  grouped = groups_texts c.args.abc.now c.args.texts.now c.args.numbers.now _ _ (traits_of_scripts c.args.abc.now.scripts) c.in_ok-groups.groups c.requires.texts c.requires.numbers c.in_ok-push_scripts.ensures.keys c.as_slice.ensures.value c.in_ok-groups.ensures;
}
