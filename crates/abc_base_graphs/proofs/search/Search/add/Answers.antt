use Rattle.std.proofs.Common.{◌≡◌, false, get_or, ◌∙◌}
use Rattle.std.proofs.lemmas.List.{get_or_default}
use Rattle.abc_base_graphs.proofs.Searched.{adds_new}
use Rattle.abc_base_graphs.proofs.search.Search.add.Goals as goal

pub returns-in_ok-push : goal.returns-in_ok-push
returns-in_ok-push c =
    let read : get_or c.args.self.now.found.items c.args.node c.index.result.now ≡ false = cc in
    let was : get_or c.args.self.now.found.items c.args.node false ≡ false = get_or_default c.args.self.now.found.items c.args.node false c.index.result.now c.requires ∙ read in
    rw c.in_ok-push.ensures.items (adds_new c.args.self.now.found.items c.args.self.now.todo.items c.args.node c.requires was)
