use Rattle.std.proofs.Common.{◌∙◌, ap, subst, sym}
use Rattle.abc_run_state.specs.Outer.{world}
use Rattle.abc_run_state.specs.Stops.{IsOpen}
use Rattle.abc_meaning.specs.Objects.{Place, instances_of}
use Rattle.abc_meaning.specs.World.{Outcome, some}
use Rattle.abc_run_calls.proofs.Placed.{class_inside, kept_is, no_instances}
use Rattle.abc_run_calls.proofs.places.instances_place.Goals as goal

pub unreachable-requires-in_default-what : goal.unreachable-requires-in_default-what
unreachable-requires-in_default-what g c =
    let w = world c.args.s.now g.out in
    let k = c.args.class in
    let o = c.in-Some.o in
    let e = sym c.in-Some.is ∙ c.class_object.ensures in
    let is = kept_is instances_of k w o c.what.result e (class_inside instances_of k w o e c.requires.1) c.what.ensures in
    no_instances c.what.result w (λ class home statics instances q. c.in_default-what.not-ClassObject class home statics instances q) (subst (λ (r : Outcome Place). IsOpen r) is c.requires.1)

pub returns : goal.returns
returns g c =
    let w = world c.args.s.now g.out in
    let k = c.args.class in
    let o = c.in-Some.o in
    let e = sym c.in-Some.is ∙ c.class_object.ensures in
    kept_is instances_of k w o c.what.result e (class_inside instances_of k w o e c.requires.1) c.what.ensures ∙ ap (λ x. some (instances_of x) w) c.in-ClassObject.is
