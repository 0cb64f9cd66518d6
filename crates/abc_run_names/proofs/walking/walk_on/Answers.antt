use Rattle.std.proofs.Common.{◌∙◌, ◌∷◌, [], ap, arith}
use Rattle.abc_heap_values.specs.declared.values.Value.TheVariants.{Bool as Truth}
use Rattle.abc_frames.specs.Moves.{next_with}
use Rattle.abc_frames.specs.Frame.{with_local, with_newest}
use Rattle.abc_run_state.specs.Outer.{setting_in, world}
use Rattle.abc_run_names.proofs.Walks.{locals_long, ready_local, walked_on}
use Rattle.abc_run_names.proofs.walking.walk_on.Goals as goal

pub next_from-next-requires-clause-object : goal.next_from-next-requires-clause-object
next_from-next-requires-clause-object c = c.local-object.ensures.there c.args.linked.now c.args.s.now.arena c.requires.set.frame.locals

pub set_local-requires-2 : goal.set_local-requires-2
set_local-requires-2 c =
    let same = locals_long c.args.s.now.frames c.set_local.new.self c.args.holder c.holder_of.result c.set_local.ensures in
    omega (arith, same, c.requires.position)

pub push-requires : goal.push-requires
push-requires c =
    ready_local c.set_local.new.self c.set_local-2.new.self 0 1 c.args.position c.number_of.result (ready_local c.args.s.now.frames c.set_local.new.self 0 1 c.args.holder c.holder_of.result c.requires.ready c.set_local.ensures) c.set_local-2.ensures

pub returns-clause-runs : goal.returns-clause-runs
returns-clause-runs c = λ out.
    let q = c.args.s.now.frames in
    let left = c.set_local-2.ensures ∙ ap (with_newest (with_local c.args.position c.number_of.result)) c.set_local.ensures in
    walked_on (setting_in c.args.linked.now out) q c.push.new.frames c.args.holder c.args.position c.local-object.result c.local-after.result c.holder_of.result c.number_of.result c.is_some.result c.next_from-next.result (world c.args.s.now out)
    c.local-object.ensures.is c.local-after.ensures.is c.next_from-next.ensures c.holder_of.ensures c.number_of.ensures c.is_some.ensures
    (c.push.ensures ∙ ap (with_newest (next_with (Truth c.is_some.result ∷ []))) left)
