use Rattle.std.proofs.Common.{◌+◌, ◌∙◌, ℤ, [], ◌∷◌, ap, arith, length, refl, subst, sym}
use Rattle.std.proofs.lemmas.Int.{ints, to_z-of_z}
use Rattle.std.specs.Fmt.{decimal, signed_decimal}
use Rattle.std.specs.Int.{w64}
use Rattle.std.specs.Prelude.{FitsSigned, Some, pos}
use Rattle.std.specs.declared.option.Option.{Option}
use mir.Val.{of_z, to_z}
use Rattle.abc_heap_values.specs.declared.values.Value.TheVariants.{Num, Obj, Undefined}
use Rattle.abc_heap_store.specs.Heap.{Heap, elements_of}
use Rattle.abc_heap_store.specs.Texts.{IsTextMade}
use Rattle.abc_meaning.specs.Names.{name_by_form}
use Rattle.abc_frames.specs.Ready.{HasFrameRoom}
use Rattle.abc_run_names.specs.Named.{name_parts_count}
use Rattle.abc_run_members.proofs.Parts.{next_turns}
use Rattle.abc_run_members.proofs.Settled.{value_runs}
use Rattle.abc_run_members.proofs.Written.{element_kept}
use Rattle.abc_run_members.proofs.AtOnce.{text_put}
use Rattle.abc_run_members.proofs.Told.{element_written, name_made, told_stays}
use Rattle.abc_objects.specs.declared.name.Name.{Name}
use Rattle.abc_frames.specs.Frame.{Frame, newest}
use Rattle.abc_run_state.specs.Outer.{at_heap, setting_in, world}
use Rattle.abc_run_state.specs.Settling.{settles_how}
use Rattle.abc_run_state.specs.Turns.{turn_of}
use Rattle.abc_meaning.specs.Members.{write_element, writes_to}
use Rattle.abc_meaning.specs.Setting.{NameForm, NoText}
use Rattle.abc_run_state.specs.declared.state.How.TheVariants.{Drop}
use Rattle.abc_run_members.proofs.elements.sets_element.Goals as goal

pub operand-x-requires : goal.operand-x-requires
operand-x-requires g c = omega (arith, c.requires.1.0.operands)

pub set_element-requires : goal.set_element-requires
set_element-requires g c =
    let h = c.args.s.now.arena in
    let new = c.text_of_number.new.self in
    (told_stays c.args.linked.now h new c.args.spaces c.args.o _ c.args.k c.in-Ok.field-0 _ c.in-Ok.ensures.made c.requires.1.1.1.1.1).there

pub text_of_number-requires : goal.text_of_number-requires
text_of_number-requires g c = let few = c.requires.1.1.1.1.1.few in omega (arith, ints)

pub settle-requires : goal.settle-requires
settle-requires g c = subst (λ (r : Option NameForm). HasFrameRoom (name_parts_count r + 2) 0 c.args.s.now.frames) c.requires.1.1.0 c.requires.1.0

pub returns-in-Ok : goal.returns-in-Ok
returns-in-Ok g c =
    let l = c.args.linked.now in
    let p = setting_in l g.out in
    let q = c.args.s.now.frames in
    let f = newest q in
    let w = world c.args.s.now g.out in
    let h = c.args.s.now.arena in
    let new = c.text_of_number.new.self in
    let u = at_heap new w in
    let o = c.args.o in
    let x = c.operand-x.result in
    let told_now = c.requires.1.1.1.1.1 in
    let few = told_now.few in
    let fits : FitsSigned w64 (pos c.args.k) = omega (arith, ints) in
    let made : IsTextMade h new c.in-Ok.field-0 (decimal c.args.k) = subst (λ (m : ℤ). IsTextMade h new c.in-Ok.field-0 (signed_decimal m)) (to_z-of_z w64 (pos c.args.k) fits) (subst (λ (m : ℤ). IsTextMade h new c.in-Ok.field-0 (signed_decimal (to_z w64 (of_z w64 m)))) c.from.ensures c.in-Ok.ensures.made) in
    let told = told_stays l h new c.args.spaces o _ c.args.k c.in-Ok.field-0 (decimal c.args.k) made c.requires.1.1.1.1.1 in
    let name : Name = record { spaces = c.args.spaces; text = c.in-Ok.field-0 } in
    let count = length (elements_of new.objects o.0) in
    let taken = element_written p w new c.args.spaces o _ c.args.k c.in-Ok.field-0 x c.args.initial made c.requires.1.1.1.1.1 c.requires.1.1.1.1.0 in
    let kept = element_kept o count c.args.k x u c.set_element.new.self told.there c.set_element.ensures.heap in (
      ap (turn_of p q) (text_put p c.args.name c.args.spaces (Num (pos c.args.k)) x o c.args.initial f w c.requires.1.1.0 (sym told_now.number) c.operand-x.ensures.is c.requires.1.1.1.0)
          ∙ next_turns p q q (name_by_form p (Some (NoText c.args.spaces)) (Num (pos c.args.k) ∷ [])) (λ (f : Frame). (λ (m : Name). writes_to p (Obj o) m x c.args.initial)) (λ (f : Frame). settles_how (Drop 3) f) w u name _ (name_made p c.args.spaces c.args.k w new c.in-Ok.field-0 made) refl
          (value_runs p (Drop 3) q q c.settle.new.frames (writes_to p (Obj o) name x c.args.initial) (write_element o count c.args.k x) (λ u. Undefined) u (at_heap c.set_element.new.self u) tt taken kept refl c.settle.ensures),
      refl,
    )

pub returns-in-Err : goal.returns-in-Err
returns-in-Err g c = ap (λ (h : Heap). record c.args.s.now { arena = h }) c.in-Err.ensures.made.2
