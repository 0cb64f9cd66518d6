use Rattle.std.proofs.Common.{List, ℕ, None, length, replicate, ap, ◌∙◌}
use Rattle.std.specs.declared.option.Option.{Option}
use Rattle.abc_base_graphs.proofs.Slated.{later, wiped}
use Rattle.abc_base_graphs.proofs.slate.Slate.wipe.Goals as goal

pub invariant_of-self : goal.invariant_of-self
invariant_of-self c = later c.self.inside.marks c.self.inside.turn c.self.invariant

pub returns : goal.returns
returns c = wiped c.self.inside.marks c.self.inside.turn c.self.invariant ∙ ap (λ (s : List (Option ℕ)). replicate (length s) None) c.self.view_is
