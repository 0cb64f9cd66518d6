use Rattle.std.proofs.Common.{◌∙◌, ℕ, ap, arith}
use Rattle.abc_objects.specs.Candidates.{answer_of_search, traits}
use Rattle.abc_lookup.proofs.Stands.{layout_in}
use Rattle.abc_lookup.proofs.query.Query.find_trait_of.Goals as goal

pub find_declared-requires-clause-object : goal.find_declared-requires-clause-object
find_declared-requires-clause-object c = let q = c.args.self.now in let h = layout_in q.l.now q.a.now c.args.o.0 c.requires.over c.requires.inside in let e = c.layout-layout.ensures in omega (arith, h, e)

pub find_declared-requires-clause-from : goal.find_declared-requires-clause-from
find_declared-requires-clause-from c = let q = c.args.self.now in let h = layout_in q.l.now q.a.now c.args.o.0 c.requires.over c.requires.inside in let e = c.layout-layout.ensures in omega (arith, h, e)

pub returns : goal.returns
returns c = let q = c.args.self.now in c.find_declared.ensures ∙ ap (λ (x : ℕ). answer_of_search q.l.now q.a.now q.name q.skip (traits q.l.now x x)) c.layout-layout.ensures
