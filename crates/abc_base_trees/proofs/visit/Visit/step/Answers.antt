use Rattle.std.proofs.Common.{get_or, true, ap, ◌∙◌}
use Rattle.abc_base_trees.proofs.Visited.{skip_met, skip_opened, meet_next, less_then, moved}
use Rattle.abc_base_trees.proofs.visit.Visit.step.Goals as goal

pub returns-then-has_mark-clause-visit : goal.returns-then-has_mark-clause-visit
returns-then-has_mark-clause-visit c = λ final v.
    skip_met c.args._heads.now c.args.graph.now c.args.classes.now.keys.keys c.args.classes.now.classes final c.args.self.now.met.items c.args.self.now.opened.items c.args.self.now.seen c.args.self.now.todo c.args.node c.in-Some.class
    c.requires.valid c.in-Some.ensures (c.if-has_mark.ensures ∙ ap (λ ms. get_or ms c.in-Some.class true) c.deref.ensures.value) v

pub returns-then-has_mark-2-clause-visit : goal.returns-then-has_mark-2-clause-visit
returns-then-has_mark-2-clause-visit c = λ final v.
    skip_opened c.args._heads.now c.args.graph.now c.args.classes.now.keys.keys c.args.classes.now.classes final c.args.self.now.met.items c.args.self.now.opened.items c.args.self.now.seen c.args.self.now.todo c.args.node c.in-Some.class
    c.requires.valid c.in-Some.ensures (c.if-has_mark-2.ensures ∙ ap (λ ms. get_or ms c.args.node true) c.deref-in-Some.ensures.value) v

pub returns-in_ok-meet-in-Some-clause-visit : goal.returns-in_ok-meet-in-Some-clause-visit
returns-in_ok-meet-in-Some-clause-visit c = λ final v.
    moved _ _ _ _ _ _ _ _ _ _ _ _ _ c.in_ok-meet-in-Some.ensures.met c.in_ok-meet-in-Some.ensures.opened c.in_ok-meet-in-Some.ensures.seen c.in_ok-meet-in-Some.ensures.todo
    (meet_next c.args._heads.now c.args.graph.now c.args.classes.now.keys.keys c.args.classes.now.classes final c.args.self.now.met.items c.args.self.now.opened.items c.args.self.now.seen c.args.self.now.todo c.args.node c.in-Some.class
    c.requires.valid c.requires.distinct c.in-Some.ensures (c.if-has_mark.ensures ∙ ap (λ ms. get_or ms c.in-Some.class true) c.deref.ensures.value)
    (c.if-has_mark-2.ensures ∙ ap (λ ms. get_or ms c.args.node true) c.deref-in-Some.ensures.value) v)

pub returns-in_ok-meet-in-Some-clause-less : goal.returns-in_ok-meet-in-Some-clause-less
returns-in_ok-meet-in-Some-clause-less c =
    less_then c.args.graph.now c.args.self.now.opened.items c.meet.new.self.opened.items c.args.node c.args.self.now.todo c.meet.new.self.todo c.requires.nodes
    (c.if-has_mark-2.ensures ∙ ap (λ ms. get_or ms c.args.node true) c.deref-in-Some.ensures.value) c.in_ok-meet-in-Some.ensures.opened c.in_ok-meet-in-Some.ensures.todo
