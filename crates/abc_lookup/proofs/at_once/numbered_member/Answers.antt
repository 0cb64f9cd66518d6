use Rattle.std.proofs.Common.{◌∙◌, ap, List, ℕ, Some}
use Rattle.abc_objects.specs.Candidates.{text_of_span}
use Rattle.abc_lookup.proofs.at_once.numbered_member.Goals as goal

pub only_member-requires-clause-places : goal.only_member-requires-clause-places
only_member-requires-clause-places c =
    let t = text_of_span c.args.l.now c.args.a.now c.args.name.now.text in
    ap (λ (ps : List ℕ). Some ps) c.as_slice.ensures ∙ c.in-Some.ensures t c.requires.number
