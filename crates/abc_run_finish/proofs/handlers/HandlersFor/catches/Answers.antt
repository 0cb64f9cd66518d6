use Rattle.std.proofs.Common.{◌∙◌, ap, sym}
use Rattle.abc_run_finish.specs.Handling.{Held, handler_catches as catches_so}
use Rattle.abc_run_finish.proofs.Unwound.{catches_as}
use Rattle.abc_run_state.proofs.Tested.{type_tested}
use Rattle.abc_run_finish.proofs.handlers.HandlersFor.catches.Goals as goal

pub returns-in-Some : goal.returns-in-Some
returns-in-Some c =
    let h = c.self.inside in
    let tested = type_tested h.linked.now h.arena.now c.in-Some.ty h.value c.is_of.result c.self.invariant.0.linked c.is_of.ensures in
    let caught = catches_as h.linked.now h.arena.now h.value c.args.place c.args.handler c.in-Some.ty c.is_of.result c.if-handler-place.false c.if-place-handler.false (sym c.type_of.ensures ∙ c.in-Some.is) tested in
    caught ∙ ap (λ (x : Held). catches_so x.linked x.heap x.value c.args.place c.args.handler) c.self.view_is
