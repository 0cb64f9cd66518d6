use Rattle.std.proofs.Common.{rules, ◌∙◌, ap, subst}
use Rattle.abc_heap_values.specs.declared.values.Value.{Value}
use Rattle.abc_objects.specs.Values.{Exists}
use Rattle.abc_objects.specs.declared.found.Found.TheVariants.{Method}
use Rattle.abc_run_state.specs.Outer.{setting_in, world}
use Rattle.abc_run_state.specs.Stops.{IsOpen}
use Rattle.abc_run_members.specs.Members.{value_read}
use Rattle.abc_run_members.proofs.Cases.{method_object}
use Rattle.abc_run_members.proofs.values.bind.Goals as goal

pub bound_function-requires : goal.bound_function-requires
bound_function-requires g c = (
  search rules,
  (
    (subst (Exists c.args.linked.now c.args.s.now.arena) c.in-Obj.is c.requires.1.0),
    (
      search rules,
      (let p = setting_in c.args.linked.now g.out in
          let w = world c.args.s.now g.out in
          subst (λ (v : Value). IsOpen (value_read p (Method c.args.owner c.args.method) v w)) c.in-Obj.is c.requires.1.1.1),
    ),
  ),
)

pub returns-clause-part : goal.returns-clause-part
returns-clause-part g c =
    let p = setting_in c.args.linked.now g.out in
    let w = world c.args.s.now g.out in
    ap (λ (v : Value). value_read p (Method c.args.owner c.args.method) v w) c.in-Obj.is ∙ c.bound_function.ensures.part

pub unreachable-requires : goal.unreachable-requires
unreachable-requires g c = method_object (setting_in c.args.linked.now g.out) c.args.owner c.args.method c.args.v (world c.args.s.now g.out) (λ o e. c.in_default.not-Obj o e) c.requires.1.1.1
