use Rattle.std.proofs.Common.{◌∙◌, ap, List, ℕ, Some}
use Rattle.abc_lookup.proofs.ScriptsFirst.{no_owners}
use Rattle.abc_lookup.proofs.query.Query.find_script.Goals as goal

pub find_owner-requires-clause-places : goal.find_owner-requires-clause-places
find_owner-requires-clause-places c = let q = c.args.self.now in ap (λ (ps : List ℕ). Some ps) c.as_slice.ensures ∙ c.in-Some.ensures q.text.now q.told

pub returns-in-None : goal.returns-in-None
returns-in-None c = let q = c.args.self.now in record { inside = tt; first = no_owners q.l.now q.a.now q.name q.text.now c.requires.over q.texted (c.in-None.ensures q.text.now q.told) }
