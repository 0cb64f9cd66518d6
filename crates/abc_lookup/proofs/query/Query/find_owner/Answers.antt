use Rattle.std.proofs.Common.{◌∙◌, List, ℕ, map, ap, sym, arith}
use Rattle.std.proofs.lemmas.List.{drop_all}
use Rattle.std.specs.List.{find}
use Rattle.abc_objects.specs.Scopes.{InScript, has}
use Rattle.abc_lookup.proofs.ScriptsFirst.{owner_at, owner_below, owner_has, owner_has_not, owner_is, owners_there, some_owners}
use Rattle.abc_lookup.proofs.query.Query.find_owner.Goals as goal

pub loop-place-init : goal.loop-place-init
loop-place-init c = let q = c.args.self.now in record { rest = some_owners q.l.now q.a.now q.name q.text.now c.args.places.now c.requires.over q.texted c.requires.places; tried = tt }

pub script_of-script-requires : goal.script_of-script-requires
script_of-script-requires c = let q = c.args.self.now in owners_there q.l.now q.text.now c.args.places.now c.requires.places c.loop-place.place-index c.loop-place-test.true

pub try_script-requires-clause-script : goal.try_script-requires-clause-script
try_script-requires-clause-script c = let q = c.args.self.now in let h = owner_below 0 q.l.now.file.scripts _ c.script_of-script.result c.script_of-script.ensures in omega (arith, h)

pub try_script-requires-clause-tried : goal.try_script-requires-clause-tried
try_script-requires-clause-tried c = c.loop-place.invariant.tried

pub loop-place-preserved : goal.loop-place-preserved
loop-place-preserved c =
    let q = c.args.self.now in
    let p = has q.l.now q.a.now q.name in
    let miss = sym c.try_script.ensures ∙ c.if-try_script.false in
    record {
      rest = owner_has_not p (owner_at q.l.now) c.args.places.now c.loop-place.place-index c.script_of-script.result _ c.loop-place-test.true (owner_is q.l.now _ c.script_of-script.result c.script_of-script.ensures) c.loop-place.invariant.rest miss;
      tried = miss;
    }

pub returns-then-try_script : goal.returns-then-try_script
returns-then-try_script c =
    let q = c.args.self.now in
    let p = has q.l.now q.a.now q.name in
    let h = owner_below 0 q.l.now.file.scripts _ c.script_of-script.result c.script_of-script.ensures in
    record {
      inside = omega (arith, h);
      first = owner_has p (owner_at q.l.now) c.args.places.now c.loop-place.place-index c.script_of-script.result _ c.loop-place-test.true (owner_is q.l.now _ c.script_of-script.result c.script_of-script.ensures) c.loop-place.invariant.rest
          (sym c.try_script.ensures ∙ c.if-try_script.true);
    }

pub returns : goal.returns
returns c =
    let q = c.args.self.now in
    record {
      inside = tt;
      first = ap (λ (ps : List ℕ). find (has q.l.now q.a.now q.name) (map InScript (map (owner_at q.l.now) ps))) (sym (drop_all c.loop-place.place-index c.args.places.now c.loop-place-test.false)) ∙ c.loop-place.invariant.rest;
    }
