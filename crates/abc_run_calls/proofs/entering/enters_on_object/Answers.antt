use Rattle.std.proofs.Common.{◌≡◌, ◌∙◌, ap, subst, sym}
use Rattle.abc_heap_values.specs.declared.values.Value.TheVariants.{Obj}
use Rattle.abc_link_names.specs.declared.types.Owner.{Owner}
use Rattle.abc_frames.specs.Frame.{newest}
use Rattle.abc_run_state.proofs.AtOnce.{done_as}
use Rattle.abc_meaning.specs.At.{Act}
use Rattle.abc_meaning.specs.Objects.{place_of_owner}
use Rattle.abc_run_state.specs.Outer.{setting_in, world}
use Rattle.abc_run_state.specs.Stops.{IsOpen}
use Rattle.abc_meaning.specs.World.{Outcome}
use Rattle.abc_run_calls.specs.Entering.{enters_above, enters_owned_above, place_in_meaning}
use Rattle.abc_run_calls.proofs.Entered.{owned_is, owned_open}
use Rattle.abc_run_calls.proofs.entering.enters_on_object.Goals as goal

pub place_of_owner-at-requires : goal.place_of_owner-at-requires
place_of_owner-at-requires g c =
    let p = setting_in c.args.linked.now g.out in
    let q = c.args.s.now.frames in
    let w = world c.args.s.now g.out in
    (c.requires.0.over, subst (λ (k : Owner). IsOpen (place_of_owner k w)) (sym c.owner.ensures) (owned_open p c.args.method (Obj c.args.o) c.args.count c.args.taken c.args.wait (newest q) w c.requires.1.1.1))

pub enters_at_once-requires : goal.enters_at_once-requires
enters_at_once-requires g c =
    let p = setting_in c.args.linked.now g.out in
    let q = c.args.s.now.frames in
    let w = world c.args.s.now g.out in
    (c.requires.1.0, (c.requires.1.1.0, subst (λ (r : Outcome Act). IsOpen r) (owned_is p c.args.method (Obj c.args.o) (place_in_meaning c.place_of_owner-at.result) c.args.count c.args.taken c.args.wait (newest q) w (ap (λ (k : Owner). place_of_owner k w) (sym c.owner.ensures) ∙ c.place_of_owner-at.ensures)) c.requires.1.1.1))

pub returns : goal.returns
returns g c =
    let l = c.args.linked.now in
    let p = setting_in l g.out in
    let f = newest c.args.s.now.frames in
    let w = world c.args.s.now g.out in
    let at = place_in_meaning c.place_of_owner-at.result in
    let e = owned_is p c.args.method (Obj c.args.o) at c.args.count c.args.taken c.args.wait f w (ap (λ (k : Owner). place_of_owner k w) (sym c.owner.ensures) ∙ c.place_of_owner-at.ensures) in
    done_as c.enters_at_once.result l g.out (enters_owned_above p c.args.method (Obj c.args.o) c.args.count c.args.taken c.args.wait f) (enters_above p c.args.method (Obj c.args.o) at c.args.count c.args.taken c.args.wait f) c.args.s.now c.enters_at_once.new.s e c.enters_at_once.ensures
