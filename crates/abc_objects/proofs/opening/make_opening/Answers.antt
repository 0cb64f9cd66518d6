use Rattle.std.proofs.Common.{◌≡◌, ◌∙◌, ℕ, ◌+◌, ◌++◌, ap, arith, length, map}
use Rattle.abc_base.specs.Names.{host_classes}
use Rattle.abc_heap_store.specs.Heap.{Heap}
use Rattle.abc_objects.specs.Opening.{host_class_object, function_objects, global_slots, prototype_object}
use Rattle.abc_objects.proofs.Opened.{names_length}
use Rattle.abc_objects.proofs.Steps.{built_room, opening_four, opening_made, opening_one, opening_room, opening_three, opening_two}
use Rattle.abc_objects.proofs.opening.make_opening.Goals as goal

pub make_prototypes-requires-clause-room : goal.make_prototypes-requires-clause-room
make_prototypes-requires-clause-room c =
    let r = opening_room c.args.l.now c.args.store.now c.args.formulas c.requires.objects c.requires.scopes c.requires.room in
    (omega (arith, r.0, ap length c.as_slice-classes.ensures), omega (arith, r.1))

pub make_class_objects-requires-clause-room : goal.make_class_objects-requires-clause-room
make_class_objects-requires-clause-room c =
    let l = c.args.l.now in
    let old = c.args.store.now in
    let r = opening_room l old c.args.formulas c.requires.objects c.requires.scopes c.requires.room in
    let b = opening_one l old _ c.as_slice-classes.result.now c.linked_law.ensures c.as_slice-classes.ensures c.make_prototypes.ensures in
    built_room old _ (map (prototype_object l) host_classes) 14 0 (30 + c.args.formulas + length l.file.scripts) (29 + c.args.formulas + length l.file.scripts + global_slots l) (length c.as_slice-classes.result.now) (length c.as_slice-classes.result.now) b r
    (omega (arith, ap length c.as_slice-classes.ensures)) (omega (arith, ap length c.as_slice-classes.ensures))

pub make_functions-requires-clause-room : goal.make_functions-requires-clause-room
make_functions-requires-clause-room c =
    let l = c.args.l.now in
    let old = c.args.store.now in
    let r = opening_room l old c.args.formulas c.requires.objects c.requires.scopes c.requires.room in
    let b = opening_one l old _ c.as_slice-classes.result.now c.linked_law.ensures c.as_slice-classes.ensures c.make_prototypes.ensures in
    let d = opening_two l old _ _ c.as_slice-classes.result.now c.linked_law.ensures c.as_slice-classes.ensures b c.make_class_objects.ensures in
    built_room old _ (map (prototype_object l) host_classes ++ map (host_class_object l) host_classes) 28 14 (30 + c.args.formulas + length l.file.scripts) (29 + c.args.formulas + length l.file.scripts + global_slots l) (c.args.formulas + 1) 0 d r (omega arith) (omega arith)

pub make_host_object-requires-clause-room : goal.make_host_object-requires-clause-room
make_host_object-requires-clause-room c =
    let l = c.args.l.now in
    let old = c.args.store.now in
    let r = opening_room l old c.args.formulas c.requires.objects c.requires.scopes c.requires.room in
    let n = ap length c.requires.names ∙ names_length old.formulas in
    let b = opening_one l old _ c.as_slice-classes.result.now c.linked_law.ensures c.as_slice-classes.ensures c.make_prototypes.ensures in
    let d = opening_two l old _ _ c.as_slice-classes.result.now c.linked_law.ensures c.as_slice-classes.ensures b c.make_class_objects.ensures in
    let e = opening_three l old _ _ c.args.formulas c.linked_law.ensures d c.make_functions.ensures in
    built_room old _ (map (prototype_object l) host_classes ++ map (host_class_object l) host_classes ++ function_objects l c.args.formulas) (28 + (c.args.formulas + 1)) (14 + 0) (30 + c.args.formulas + length l.file.scripts) (29 + c.args.formulas + length l.file.scripts + global_slots l) 1 (length c.args.names.now) e r (omega arith) (omega (arith, n, c.requires.formulas))

pub make_host_object-requires-clause-few : goal.make_host_object-requires-clause-few
make_host_object-requires-clause-few c = omega (arith, ap length c.requires.names, names_length c.args.store.now.formulas, c.requires.formulas, c.requires.few)

pub make_host_object-requires-clause-bytes : goal.make_host_object-requires-clause-bytes
make_host_object-requires-clause-bytes c =
    let fixed : Heap → ℕ = λ h. length h.fixed in
    omega (arith, c.requires.bytes, ap fixed c.make_prototypes.ensures, ap fixed c.make_class_objects.ensures, ap fixed c.make_functions.ensures)

pub make_globals-requires-clause-room : goal.make_globals-requires-clause-room
make_globals-requires-clause-room c =
    let l = c.args.l.now in
    let old = c.args.store.now in
    let r = opening_room l old c.args.formulas c.requires.objects c.requires.scopes c.requires.room in
    let n : length c.args.names.now ≡ 15 + c.args.formulas = omega (arith, ap length c.requires.names, names_length old.formulas, c.requires.formulas) in
    let b = opening_one l old _ c.as_slice-classes.result.now c.linked_law.ensures c.as_slice-classes.ensures c.make_prototypes.ensures in
    let d = opening_two l old _ _ c.as_slice-classes.result.now c.linked_law.ensures c.as_slice-classes.ensures b c.make_class_objects.ensures in
    let e = opening_three l old _ _ c.args.formulas c.linked_law.ensures d c.make_functions.ensures in
    let f = opening_four l old _ _ c.args.names.now c.args.formulas c.linked_law.ensures n e c.make_host_object.ensures in
    built_room old _ _ (30 + c.args.formulas) (29 + c.args.formulas) (30 + c.args.formulas + length l.file.scripts) (29 + c.args.formulas + length l.file.scripts + global_slots l) c.args.scripts (c.args.scripts + global_slots l) f r (omega (arith, c.requires.scripts)) (omega (arith, c.requires.scripts))

pub returns : goal.returns
returns c =
    let l = c.args.l.now in
    let old = c.args.store.now in
    let n : length c.args.names.now ≡ 15 + c.args.formulas = omega (arith, ap length c.requires.names, names_length old.formulas, c.requires.formulas) in
    let b = opening_one l old _ c.as_slice-classes.result.now c.linked_law.ensures c.as_slice-classes.ensures c.make_prototypes.ensures in
    let d = opening_two l old _ _ c.as_slice-classes.result.now c.linked_law.ensures c.as_slice-classes.ensures b c.make_class_objects.ensures in
    let e = opening_three l old _ _ c.args.formulas c.linked_law.ensures d c.make_functions.ensures in
    let f = opening_four l old _ _ c.args.names.now c.args.formulas c.linked_law.ensures n e c.make_host_object.ensures in
    opening_made l old _ _ old.formulas c.args.names.now c.args.formulas c.args.scripts c.requires.objects c.requires.scopes f c.make_globals.ensures c.requires.formulas c.requires.names c.requires.scripts
