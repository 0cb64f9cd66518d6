use Rattle.std.proofs.Common.{◌∙◌, ap}
use Rattle.std.specs.Prelude.{is_some}
use Rattle.abc_link.specs.SetKeys.{set_key, set_keys_eq}
use Rattle.abc_link.proofs.SetSearch.{set_has}
use Rattle.abc_link.proofs.sets.SetSpaces.holds.Goals as goal
use Rattle.indexmap.specs.IndexMap.{get}

pub returns : goal.returns
returns c =
    let v = c.args.names.now.abc.now in
    let numbers = c.args.names.now.tables.now.numbers in
    c.has_key.ensures
    ∙ ap (λ k. is_some (get set_keys_eq c.args.self.now.places k)) c.set_key.ensures
    ∙ ap (λ o. is_some o) (c.requires.places (set_key v numbers c.args.set c.args.space))
    ∙ set_has v numbers c.keys_tell_names.ensures c.args.set c.args.space
