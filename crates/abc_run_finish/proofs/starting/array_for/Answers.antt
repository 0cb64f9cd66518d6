use Rattle.std.proofs.Common.{◌≡◌, ◌∙◌, List, length, drop, ap, subst, sym}
use Rattle.abc_heap_values.specs.declared.values.Value.{Value}
use Rattle.abc_objects.specs.Stands.{EachAt}
use Rattle.abc_objects.specs.Values.{Exists}
use Rattle.abc_run_state.specs.Outer.{setting_in, world}
use Rattle.abc_run_finish.proofs.Started.{array_rest, each_behind}
use Rattle.abc_run_finish.proofs.starting.array_for.Goals as goal

pub returns-then-has_flag-clause-part : goal.returns-then-has_flag-clause-part
returns-then-has_flag-clause-part c = λ out.
    let given = c.args.args.now in
    array_rest (setting_in c.args.linked.now out) c.args.method.now given c.behind.result.now (world c.args.s.now out) (sym c.has_flag.ensures ∙ c.if-has_flag.true) (c.behind.ensures ∙ ap (λ n. drop n given) c.len.ensures)
    ∙ c.array_with.ensures.part out

pub array_with-requires-clause-there : goal.array_with-requires-clause-there
array_with-requires-clause-there c =
    let there = Exists c.args.linked.now c.args.s.now.arena in
    subst (λ (vs : List Value). EachAt there vs) (sym c.behind.ensures) (each_behind there c.len.result c.args.args.now c.requires.there)
