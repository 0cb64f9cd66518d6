use Rattle.std.proofs.Common.{◌≡◌, ◌||◌, ◌&&◌, false, take}
use Rattle.std.specs.List.{list_any}
use Rattle.abc_link_names.specs.ItemTypes.{is_no_slot, is_not_run}
use Rattle.abc_link_rules.proofs.simple.TraitNotRun.any_not_run.Given as goal

abbrev pub invariant-loop-info : goal.invariant-loop-info
invariant-loop-info l = list_any (λ t. is_not_run l.self.meanings.abc.now t.body || (l.in_body && is_no_slot t.body)) (take l.info-index l.table) ≡ false
