use Rattle.std.proofs.Common.{◌≡◌, false, not, take}
use Rattle.std.specs.List.{list_any}
use Rattle.abc_link_names.specs.Meaning.{resolve}
use Rattle.abc_link_names.specs.Bases.{is_interface_named}
use Rattle.abc_link_rules.proofs.bases.UnknownInterface.any_unknown.Given as goal

abbrev pub invariant-loop-name : goal.invariant-loop-name
invariant-loop-name l = list_any (λ n. not (is_interface_named l.self.meanings.abc.now (resolve l.self.meanings.abc.now n))) (take l.name-index l.names) ≡ false
