use Rattle.std.proofs.Common.{◌∙◌, List, ap, subst, sym}
use Rattle.std.specs.declared.option.Option.{Option}
use Rattle.abc_heap_store.specs.declared.records.ScopeEntry.{ScopeEntry}
use Rattle.abc_heap_store.specs.declared.records.ScopeId.{ScopeId}
use Rattle.abc_objects.specs.Stands.{AreEntries, IsScope}
use Rattle.abc_objects.specs.Searches.{found_in_scopes}
use Rattle.abc_frames.specs.Frame.{newest}
use Rattle.abc_run_members.specs.Found.{IsScopeThere}
use Rattle.abc_run_members.proofs.Scanned.{scopes_found}
use Rattle.abc_run_members.proofs.scopes_above.find_here.Goals as goal

pub find_in_scopes-requires-clause-scopes : goal.find_in_scopes-requires-clause-scopes
find_in_scopes-requires-clause-scopes c = subst (AreEntries c.args.s.now.arena) (sym c.scopes.ensures) c.requires.set.frame.scopes

pub find_in_scopes-requires-clause-saved : goal.find_in_scopes-requires-clause-saved
find_in_scopes-requires-clause-saved c = subst (IsScope c.args.s.now.arena) (sym c.saved.ensures) c.requires.set.frame.saved

pub returns-clause-is : goal.returns-clause-is
returns-clause-is c = λ out.
    let l = c.args.linked.now in
    let h = c.args.s.now.arena in
    c.find_in_scopes.ensures
    ∙ ap (λ (es : List ScopeEntry). found_in_scopes l h es c.saved.result c.args.s.now.started c.args.name.now) c.scopes.ensures
    ∙ ap (λ (o : Option ScopeId). found_in_scopes l h (newest c.args.s.now.frames).scopes o c.args.s.now.started c.args.name.now) c.saved.ensures

pub returns-clause-there : goal.returns-clause-there
returns-clause-there c =
    let l = c.args.linked.now in
    let h = c.args.s.now.arena in
    subst (IsScopeThere l h) (sym c.find_in_scopes.ensures)
    (scopes_found l h c.scopes.result.now c.saved.result c.args.s.now.started c.args.name.now c.place_is_the_first.ensures c.requires.set.over (subst (AreEntries h) (sym c.scopes.ensures) c.requires.set.frame.scopes) (subst (IsScope h) (sym c.saved.ensures) c.requires.set.frame.saved))
