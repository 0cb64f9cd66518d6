use Rattle.std.proofs.Common.{List, ℕ, Some, set, ap, ◌∙◌}
use Rattle.std.specs.declared.option.Option.{Option}
use Rattle.abc_base_graphs.proofs.Slated.{still, written}
use Rattle.abc_base_graphs.proofs.slate.Slate.write.Goals as goal

pub invariant_of-self : goal.invariant_of-self
invariant_of-self c = still c.self.inside.marks c.put.new.marks c.self.inside.turn c.args.place c.args.number c.self.invariant c.put.ensures

pub returns : goal.returns
returns c =
    written c.self.inside.marks c.put.new.marks c.self.inside.turn c.args.place c.args.number c.put.ensures
    ∙ ap (λ (s : List (Option ℕ)). set s c.args.place (Some c.args.number)) c.self.view_is
