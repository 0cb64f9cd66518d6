use Rattle.std.proofs.Common.{◌≡◌, drop, length, map}
use Rattle.std.specs.List.{find, range_with_len}
use Rattle.abc_objects.specs.Scopes.{InScript, has}
use Rattle.abc_lookup.specs.Scripts.{HasNot}
use Rattle.abc_lookup.proofs.ScriptsFirst.{owner_at}
use Rattle.abc_lookup.proofs.query.Query.find_owner.Given as goal

abbrev pub invariant-loop-place : goal.invariant-loop-place
invariant-loop-place l = record {
  rest : find (has l.self.l.now l.self.a.now l.self.name) (map InScript (map (owner_at l.self.l.now) (drop l.place-index l.places)))
      ≡ find (has l.self.l.now l.self.a.now l.self.name) (map InScript (range_with_len 0 (length l.self.l.now.file.scripts)));
  tried : HasNot (has l.self.l.now l.self.a.now l.self.name) l.tried;
}
