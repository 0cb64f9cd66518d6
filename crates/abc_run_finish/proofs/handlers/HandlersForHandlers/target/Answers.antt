use Rattle.std.proofs.Common.{◌≡◌, ◌∙◌, ℕ, List, Some, ap, sym}
use Rattle.std.specs.List.{find}
use Rattle.std.specs.declared.option.Option.{Option}
use Rattle.abc_run_finish.specs.Handling.{Held, handler_catches as catches_so, handlers_of_body, target_of_handler}
use Rattle.abc_link_names.specs.Linked.{LinkedFile}
use Rattle.abc_link_names.specs.Owners.{body_of}
use Rattle.abc_file_types.specs.declared.code.Handler.{Handler}
use Rattle.abc_run_finish.proofs.handlers.HandlersForHandlers.target.Goals as goal

pub returns-in-Some : goal.returns-in-Some
returns-in-Some c =
    let x = c.args.self.now in
    let h = c.self.inside in
    let same : h.linked.now ≡ x.linked = ap (λ (y : Held). y.linked) c.self.view_is in
    let body : body_of h.linked.now.file c.args.method ≡ Some c.in-Some.body = sym c.body_of.ensures ∙ c.in-Some.is in
    let all : c.handlers_of.result.now ≡ handlers_of_body x.linked (body_of x.linked.file c.args.method) = c.handlers_of.ensures ∙ ap (λ (o : Option ℕ). handlers_of_body h.linked.now o) (sym body) ∙ ap (λ (l : LinkedFile). handlers_of_body l (body_of l.file c.args.method)) same in
    c.first.ensures ∙ ap (λ (hs : List Handler). target_of_handler (find (catches_so x.linked x.heap x.value c.args.place) hs)) all
