use Rattle.std.proofs.Common.{◌≢◌, ◌<◌, ◌∙◌, length, subst, sym}
use Rattle.std.proofs.lemmas.Result.{err_from_is_err_and}
use Rattle.abc_run_state.proofs.Keeping.{set_stays, stays_on}
use Rattle.abc_run_state.proofs.Made.{no_array, other_class, part_is}
use Rattle.abc_objects.specs.Stands.{array_layout}
use Rattle.abc_link_names.specs.declared.part.LayoutId.{LayoutId}
use Rattle.abc_link_names.specs.declared.part.Part.TheVariants as parts
use Rattle.abc_frames.specs.Frame.{arguments, newest}
use Rattle.abc_run_state.specs.Outer.{setting_in, world}
use Rattle.abc_run_state.specs.Stops.{why}
use Rattle.abc_run_calls.specs.Calls.{message_texts}
use Rattle.abc_run_calls.proofs.Told.{object_by, plain_made, plain_unmade, plain_untold}
use Rattle.abc_run_calls.proofs.making.plain_of.Goals as goal

pub make_object-requires-clause-layout : goal.make_object-requires-clause-layout
make_object-requires-clause-layout g c =
    let l = c.args.linked.now in
    subst (λ (x : LayoutId). x.0 < length l.parts) (sym c.layout_of-layout.ensures) (part_is l c.requires.0.over.linked (parts.Host c.args.class) tt)

pub make_object-requires-clause-no_array : goal.make_object-requires-clause-no_array
make_object-requires-clause-no_array g c =
    let l = c.args.linked.now in
    subst (λ (x : LayoutId). x.0 ≢ array_layout l) (sym c.layout_of-layout.ensures) (no_array l c.requires.0.over.linked (parts.Host c.args.class) tt (other_class c.args.class c.requires.1.1.1))

pub returns-in_err-made-clause-part : goal.returns-in_err-made-clause-part
returns-in_err-made-clause-part g c =
    let p = setting_in c.args.linked.now g.out in
    let told = world c.message_of.new.s g.out in
    let e = err_from_is_err_and c.from_residual-in_err-made.result c.from_residual-in_err-made.ensures.1 in
    rw (e.1, e.2) (plain_unmade p c.args.class_object c.args.class (arguments c.args.count (newest c.args.s.now.frames)) (message_texts c.in_ok-message.message) (world c.args.s.now g.out) told (world c.make_object.new.s g.out) (why c.in_err-made.field-0.0) c.in_ok-message.ensures.part
    (object_by p c.args.class_object c.args.class c.layout_of-layout.result c.prototype_of-delegate.result told c.layout_of-layout.ensures c.prototype_of-delegate.ensures.is ∙ c.in_err-made.ensures.part g.out))

pub returns-in_err-made-clause-stays : goal.returns-in_err-made-clause-stays
returns-in_err-made-clause-stays g c = stays_on c.args.linked.now c.args.s.now c.message_of.new.s c.make_object.new.s c.in_ok-message.ensures.stays c.in_err-made.ensures.stays

pub set_message-requires-clause-set : goal.set_message-requires-clause-set
set_message-requires-clause-set g c = set_stays c.args.linked.now c.args.s.now c.make_object.new.s (stays_on c.args.linked.now c.args.s.now c.message_of.new.s c.make_object.new.s c.in_ok-message.ensures.stays c.in_ok-made.ensures.stays) c.requires.0

pub returns-in_err-set_message-clause-part : goal.returns-in_err-set_message-clause-part
returns-in_err-set_message-clause-part g c =
    let p = setting_in c.args.linked.now g.out in
    let told = world c.message_of.new.s g.out in
    let e = err_from_is_err_and c.from_residual-in_err-set_message.result c.from_residual-in_err-set_message.ensures.1 in
    rw (e.1, e.2) (plain_untold p c.args.class_object c.in_ok-made.made c.args.class (arguments c.args.count (newest c.args.s.now.frames)) (message_texts c.in_ok-message.message) (world c.args.s.now g.out) told (world c.make_object.new.s g.out) (world c.set_message.new.s g.out) (why c.in_err-set_message.field-0.0) c.in_ok-message.ensures.part
    (object_by p c.args.class_object c.args.class c.layout_of-layout.result c.prototype_of-delegate.result told c.layout_of-layout.ensures c.prototype_of-delegate.ensures.is ∙ c.in_ok-made.ensures.part g.out) (c.in_err-set_message.ensures.part g.out))

pub returns-in_err-set_message-clause-stays : goal.returns-in_err-set_message-clause-stays
returns-in_err-set_message-clause-stays g c =
    let l = c.args.linked.now in
    stays_on l c.args.s.now c.make_object.new.s c.set_message.new.s (stays_on l c.args.s.now c.message_of.new.s c.make_object.new.s c.in_ok-message.ensures.stays c.in_ok-made.ensures.stays) c.in_err-set_message.ensures.stays

pub returns-clause-part : goal.returns-clause-part
returns-clause-part g c =
    let p = setting_in c.args.linked.now g.out in
    let told = world c.message_of.new.s g.out in
    plain_made p c.args.class_object c.in_ok-made.made c.args.class (arguments c.args.count (newest c.args.s.now.frames)) (message_texts c.in_ok-message.message) (world c.args.s.now g.out) told (world c.make_object.new.s g.out) (world c.set_message.new.s g.out) tt c.in_ok-message.ensures.part
    (object_by p c.args.class_object c.args.class c.layout_of-layout.result c.prototype_of-delegate.result told c.layout_of-layout.ensures c.prototype_of-delegate.ensures.is ∙ c.in_ok-made.ensures.part g.out) (c.in_ok-set_message.ensures.part g.out)

pub returns-clause-stays : goal.returns-clause-stays
returns-clause-stays g c =
    let l = c.args.linked.now in
    stays_on l c.args.s.now c.make_object.new.s c.set_message.new.s (stays_on l c.args.s.now c.message_of.new.s c.make_object.new.s c.in_ok-message.ensures.stays c.in_ok-made.ensures.stays) c.in_ok-set_message.ensures.stays
