use Rattle.std.proofs.Common.{◌≡◌, drop}
use Rattle.std.specs.List.{find}
use Rattle.abc_meaning.specs.Exports.{is_export}
use Rattle.abc_session.proofs.exports.export_among.Given as goal

abbrev pub invariant-loop-one : goal.invariant-loop-one
invariant-loop-one l = find (is_export l.linked.file l.text) (drop l.one-index l.traits) ≡ find (is_export l.linked.file l.text) l.traits
