use Rattle.std.proofs.Common.{◌∷◌, [], ◌∙◌, ap, drop, flat_map, sym}
use Rattle.abc_verify_typing.specs.Table.{needs}
use Rattle.abc_verify_typing.specs.declared.row.Takes.{Takes}
use Rattle.abc_verify_states.specs.Needs.{parts_of}
use Rattle.abc_verify_typing.specs.Effects.{parts_of_need}
use Rattle.abc_verify_typing.specs.Rules.{all_suit}
use Rattle.abc_verify.proofs.Asking.{first_fails, more_suit}
use Rattle.abc_verify.specs.Visits.{here_in}
use Rattle.abc_verify.proofs.visit.Visit.takes_suit.Goals as goal

pub returns-then-need_suits : goal.returns-then-need_suits
returns-then-need_suits c =
    let h = here_in c.args.self.now in
    let w = c.in-Three in
    more_suit h c.args.rule (parts_of_need (parts_of c.args.parts)) w.a (w.b ∷ w.c ∷ []) c.args.stack.now c.args.at c.need_count.result c.need_suits-in-Three.result c.two_suit-then-need_suits.result c.need_count.ensures.count c.need_suits-in-Three.ensures c.if-need_suits.true c.two_suit-then-need_suits.ensures
    ∙ sym (ap (λ (t : Takes). all_suit h c.args.rule (flat_map (parts_of_need (parts_of c.args.parts)) (needs t)) (drop c.args.at c.args.stack.now)) w.is)

pub returns-else-need_suits : goal.returns-else-need_suits
returns-else-need_suits c =
    let h = here_in c.args.self.now in
    let w = c.in-Three in
    first_fails h c.args.rule (parts_of_need (parts_of c.args.parts)) w.a (w.b ∷ w.c ∷ []) c.args.stack.now c.args.at c.need_count.result c.need_suits-in-Three.result c.need_count.ensures.count c.need_suits-in-Three.ensures c.if-need_suits.false
    ∙ sym (ap (λ (t : Takes). all_suit h c.args.rule (flat_map (parts_of_need (parts_of c.args.parts)) (needs t)) (drop c.args.at c.args.stack.now)) w.is)
