use Rattle.std.proofs.Common.{◌∙◌, None, get_or, ap}
use Rattle.std.specs.Prelude.{is_some}
use Rattle.std.specs.List.{find}
use Rattle.abc_link_names.specs.Numbers.{classes_of}
use Rattle.abc_link_known.specs.Spots.{spot_of_class}
use Rattle.abc_link_known.proofs.Marked.{first_in_set}
use Rattle.abc_link_known.proofs.finder.Finder.class_in_set.Goals as goal

pub returns : goal.returns
returns c =
    let names = c.args.self.now.names in
    let v = names.abc.now in
    let t = names.tables.now in
    c.first_marked.ensures
    ∙ ap (find (λ k. is_some (get_or c.args.slate.now (spot_of_class v t.numbers k) None))) (c.classes_of.ensures ∙ ap (classes_of v t.numbers) c.number.ensures)
    ∙ first_in_set v t c.args.slate.now c.args.name c.args.set names.sound c.requires.marked c.requires.places c.requires.spaces
