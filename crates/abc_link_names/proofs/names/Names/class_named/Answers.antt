use Rattle.std.proofs.Common.{◌∙◌, ap}
use Rattle.std.specs.List.{find}
use Rattle.abc_link_names.specs.Instances.{instance_at}
use Rattle.abc_link_names.specs.Meaning.{is_class_named}
use Rattle.abc_link_names.specs.Numbers.{classes_of}
use Rattle.abc_link_names.proofs.InGroups.{first_class}
use Rattle.abc_link_names.proofs.names.Names.class_named.Goals as goal

pub returns : goal.returns
returns c =
    let self = c.args.self.now in
    let v = self.abc.now in
    c.first_among.ensures
    ∙ ap (find (λ i. is_class_named v c.args.name (instance_at v i))) (c.classes_of.ensures ∙ ap (classes_of v self.tables.now.numbers) c.number.ensures)
    ∙ first_class v self.tables.now c.args.name self.sound
