use Rattle.std.proofs.Common.{◌∙◌, sym, ap}
use Rattle.abc_objects.specs.Candidates.{answer_of_search, holder_of, things_along}
use Rattle.abc_lookup.proofs.Things.{not_public_all, public_all}
use Rattle.abc_lookup.proofs.query.Query.find_public_on.Goals as goal

pub returns-then-not-self : goal.returns-then-not-self
returns-then-not-self c = let q = c.args.self.now in sym (not_public_all q.l.now q.a.now q.name q.skip (things_along q.a.now (holder_of q.a.now c.args.holder)) (q.held ∙ c.if-not-self.true))

pub returns : goal.returns
returns c =
    let q = c.args.self.now in
    c.find_along.ensures ∙ ap (λ o. answer_of_search q.l.now q.a.now q.name q.skip (things_along q.a.now o)) c.holder_of.ensures.is ∙ sym (public_all q.l.now q.a.now q.name q.skip (things_along q.a.now (holder_of q.a.now c.args.holder)) (q.held ∙ c.if-not-self.false))
