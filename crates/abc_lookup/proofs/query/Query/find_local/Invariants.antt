use Rattle.std.proofs.Common.{◌≡◌, map, reverse, take}
use Rattle.std.specs.List.{find}
use Rattle.abc_objects.specs.Scopes.{InScope, has}
use Rattle.abc_lookup.proofs.query.Query.find_local.Given as goal

abbrev pub invariant-loop-i : goal.invariant-loop-i
invariant-loop-i l = find (has l.self.l.now l.self.a.now l.self.name) (map InScope (reverse (take l.i l.scopes))) ≡ find (has l.self.l.now l.self.a.now l.self.name) (map InScope (reverse l.scopes))
