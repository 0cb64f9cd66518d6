use Rattle.std.proofs.Common.{◌∷◌, [], ◌+◌, ◌∙◌, drop}
use Rattle.abc_verify_states.specs.Needs.{parts_of}
use Rattle.abc_verify_typing.specs.Effects.{parts_of_need}
use Rattle.abc_verify.proofs.Asking.{first_fails, more_suit, one_suits}
use Rattle.abc_verify.specs.Visits.{here_in}
use Rattle.abc_verify.proofs.visit.Visit.two_suit.Goals as goal

pub returns-then-need_suits : goal.returns-then-need_suits
returns-then-need_suits c =
    let h = here_in c.args.self.now in
    let next = c.need_suits-then-need_suits.ensures ∙ one_suits h c.args.rule (parts_of_need (parts_of c.args.parts)) c.args.b (drop (c.args.at + c.need_count.result) c.args.stack.now) in
    more_suit h c.args.rule (parts_of_need (parts_of c.args.parts)) c.args.a (c.args.b ∷ []) c.args.stack.now c.args.at c.need_count.result c.need_suits.result c.need_suits-then-need_suits.result c.need_count.ensures.count c.need_suits.ensures c.if-need_suits.true next

pub returns-else-need_suits : goal.returns-else-need_suits
returns-else-need_suits c = first_fails (here_in c.args.self.now) c.args.rule (parts_of_need (parts_of c.args.parts)) c.args.a (c.args.b ∷ []) c.args.stack.now c.args.at c.need_count.result c.need_suits.result c.need_count.ensures.count c.need_suits.ensures c.if-need_suits.false
