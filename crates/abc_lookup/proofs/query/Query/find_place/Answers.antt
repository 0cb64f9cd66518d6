use Rattle.std.proofs.Common.{◌∙◌, sym, ap, length, map, reverse}
use Rattle.std.specs.List.{range_with_len}
use Rattle.abc_objects.specs.Scopes.{InHost, InScope, InScript, has, saved_places}
use Rattle.abc_lookup.specs.Steps.{place_if_any, scope_place_of}
use Rattle.abc_lookup.proofs.Places.{first_here, first_later, first_of, past_local, past_saved, past_scripts}
use Rattle.abc_lookup.proofs.query.Query.find_place.Goals as goal

pub returns-in-Some-clause-first : goal.returns-in-Some-clause-first
returns-in-Some-clause-first c =
    let q = c.args.self.now in
    first_of (has q.l.now q.a.now q.name) (map InScope (reverse c.args.scopes.now)) _ (scope_place_of c.in-Some.place) (sym (ap place_if_any c.in-Some.is) ∙ c.find_local.ensures.first)

pub returns-in-Some-find_saved-clause-first : goal.returns-in-Some-find_saved-clause-first
returns-in-Some-find_saved-clause-first c =
    let q = c.args.self.now in
    let p = has q.l.now q.a.now q.name in
    first_of p (saved_places q.a.now c.args.saved) _ (scope_place_of c.in-Some-find_saved.place) (sym (ap place_if_any c.in-Some-find_saved.is) ∙ c.find_saved.ensures.first)
    ∙ sym (past_local p q.l.now q.a.now c.args.scopes.now c.args.saved (sym (ap place_if_any c.in_default.is) ∙ c.find_local.ensures.first))

pub returns-in-Some-find_script-clause-first : goal.returns-in-Some-find_script-clause-first
returns-in-Some-find_script-clause-first c =
    let q = c.args.self.now in
    let p = has q.l.now q.a.now q.name in
    first_of p (map InScript (range_with_len 0 (length q.l.now.file.scripts))) _ (scope_place_of c.in-Some-find_script.place) (sym (ap place_if_any c.in-Some-find_script.is) ∙ c.find_script.ensures.first)
    ∙ sym (past_saved p q.l.now q.a.now c.args.scopes.now c.args.saved (sym (ap place_if_any c.in_default.is) ∙ c.find_local.ensures.first) (sym (ap place_if_any c.in_default-find_saved.is) ∙ c.find_saved.ensures.first))

pub returns-then-host_has-clause-first : goal.returns-then-host_has-clause-first
returns-then-host_has-clause-first c =
    let q = c.args.self.now in
    let p = has q.l.now q.a.now q.name in
    first_here (p InHost) InHost _ (sym c.if-host_has.ensures)
    ∙ sym (past_scripts p q.l.now q.a.now c.args.scopes.now c.args.saved (sym (ap place_if_any c.in_default.is) ∙ c.find_local.ensures.first) (sym (ap place_if_any c.in_default-find_saved.is) ∙ c.find_saved.ensures.first) (sym (ap place_if_any c.in_default-find_script.is) ∙ c.find_script.ensures.first))

pub returns-else-host_has-clause-first : goal.returns-else-host_has-clause-first
returns-else-host_has-clause-first c =
    let q = c.args.self.now in
    let p = has q.l.now q.a.now q.name in
    first_later (p InHost) InHost _ (sym c.if-host_has.ensures)
    ∙ sym (past_scripts p q.l.now q.a.now c.args.scopes.now c.args.saved (sym (ap place_if_any c.in_default.is) ∙ c.find_local.ensures.first) (sym (ap place_if_any c.in_default-find_saved.is) ∙ c.find_saved.ensures.first) (sym (ap place_if_any c.in_default-find_script.is) ∙ c.find_script.ensures.first))
