use Rattle.std.proofs.Common.{◌≡◌, ◌∙◌, ℕ, ◌<◌, ap, length, subst, sym}
use Rattle.abc_heap_store.specs.Heap.{object_at}
use Rattle.abc_objects.specs.Searches.{declared_found}
use Rattle.abc_objects.specs.declared.found.Found.{Found}
use Rattle.abc_meaning.specs.Supers.{strict}
use Rattle.abc_run_state.proofs.Things.{layout_there}
use Rattle.abc_run_members.specs.Found.{IsDeclared, found_above}
use Rattle.abc_run_members.proofs.FoundAbove.{above_layout, above_there}
use Rattle.abc_run_members.proofs.bases_above.find_super.Goals as goal

pub find_declared-requires-clause-object : goal.find_declared-requires-clause-object
find_declared-requires-clause-object c =
    let l = c.args.linked.now in
    subst (λ (n : ℕ). n < length l.parts) (sym c.layout-layout.ensures) (layout_there l c.args.s.now.arena c.args.o.0 c.requires.over c.requires.object)

pub find_declared-requires-clause-from : goal.find_declared-requires-clause-from
find_declared-requires-clause-from c =
    let l = c.args.linked.now in
    subst (λ (n : ℕ). n < length l.parts) (sym c.above-above.ensures) (above_layout l c.linked_law.ensures c.args.from.0 c.requires.from)

pub returns-clause-is : goal.returns-clause-is
returns-clause-is c =
    let l = c.args.linked.now in
    let h = c.args.s.now.arena in
    let n = c.args.name.now in
    c.strictly.ensures
    ∙ ap strict (c.find_declared.ensures ∙ ap (λ (x : ℕ). declared_found l h x c.above-above.result.0 n c.args.want) c.layout-layout.ensures ∙ ap (λ (x : ℕ). declared_found l h (object_at h.objects c.args.o.0).layout x n c.args.want) c.above-above.ensures)

pub returns-clause-declared : goal.returns-clause-declared
returns-clause-declared c =
    let l = c.args.linked.now in
    let h = c.args.s.now.arena in
    let n = c.args.name.now in
    let is : c.strictly.result ≡ found_above l h c.args.from.0 c.args.o n c.args.want =
    c.strictly.ensures
    ∙ ap strict (c.find_declared.ensures ∙ ap (λ (x : ℕ). declared_found l h x c.above-above.result.0 n c.args.want) c.layout-layout.ensures ∙ ap (λ (x : ℕ). declared_found l h (object_at h.objects c.args.o.0).layout x n c.args.want) c.above-above.ensures) in
    subst (λ (f : Found). IsDeclared l f) (sym is) (above_there l h c.args.from.0 c.args.o n c.args.want c.answer_is_the_first.ensures)
