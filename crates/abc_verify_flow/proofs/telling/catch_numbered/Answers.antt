use Rattle.std.proofs.Common.{List, ap, refl, sym, ◌∙◌}
use Rattle.std.specs.Prelude.{slice_get}
use Rattle.abc_verify_typing.specs.declared.catch.Catch.{Catch}
use Rattle.abc_verify_flow.proofs.Told.{caught_none, caught_one}
use Rattle.abc_verify_flow.proofs.telling.catch_numbered.Goals as goal

pub catch_one-requires-clause-ready : goal.catch_one-requires-clause-ready
catch_one-requires-clause-ready g c = c.requires.ready c.in-Some.handler (sym (c.in-Some.ensures ∙ ap (λ (hs : List Catch). slice_get hs c.args.number) c.handlers.ensures))

pub returns-in-None : goal.returns-in-None
returns-in-None g c = (caught_none _ _ _ c.args.number _ _ _ (sym (c.in-None.ensures ∙ ap (λ (hs : List Catch). slice_get hs c.args.number) c.handlers.ensures)) c.requires.opened, refl)

pub returns-in_ok-catch_one-in-Some : goal.returns-in_ok-catch_one-in-Some
returns-in_ok-catch_one-in-Some g c = (
  caught_one _ _ _ c.args.number c.in-Some.handler _ _ _ _ _ (sym (c.in-Some.ensures ∙ ap (λ (hs : List Catch). slice_get hs c.args.number) c.handlers.ensures)) c.in_ok-catch_one-in-Some.ensures.0,
  c.in_ok-catch_one-in-Some.ensures.1,
)
