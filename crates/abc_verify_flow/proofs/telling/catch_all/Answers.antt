use Rattle.std.proofs.Common.{sym}
use Rattle.abc_verify_flow.proofs.Told.{catching_first, catching_last, catching_more, catching_ready}
use Rattle.abc_verify_flow.proofs.telling.catch_all.Goals as goal

pub loop-hang-init : goal.loop-hang-init
loop-hang-init g c = catching_first _ _ _ c.args.stabs.now c.args.node c.args.caught.now.locals c.first-link.result _ _ c.requires.opened c.first-link.ensures

pub catch_numbered-requires-clause-ready : goal.catch_numbered-requires-clause-ready
catch_numbered-requires-clause-ready g c = λ h is. catching_ready _ _ _ c.args.stabs.now c.args.node c.args.caught.now.locals c.loop-hang.caught.locals c.loop-hang.link c.in-Some.hang h _ _ _ _ (sym c.in-Some.ensures.is) c.loop-hang.invariant c.requires.ready is

pub loop-hang-preserved : goal.loop-hang-preserved
loop-hang-preserved g c = catching_more _ _ _ c.args.stabs.now c.args.node c.args.caught.now.locals c.loop-hang.caught.locals c.catch_numbered.new.caught.locals c.loop-hang.link c.in-Some.hang _ _ _ _ _ _ (sym c.in-Some.ensures.is) c.loop-hang.invariant c.in_ok-catch_numbered.ensures.0 c.in_ok-catch_numbered.ensures.1

pub returns : goal.returns
returns g c = (catching_last _ _ _ c.args.stabs.now c.args.node c.args.caught.now.locals c.loop-hang.caught.locals c.loop-hang.link _ _ _ _ (sym c.in_default.ensures.is) c.loop-hang.invariant, c.loop-hang.invariant.same)
