use Rattle.std.proofs.Common.{◌∙◌, ap, arith, rules, subst, sym}
use Rattle.std.proofs.lemmas.Int.{ints, to_z-of_z}
use Rattle.std.specs.Int.{w64}
use Rattle.std.specs.Prelude.{FitsSigned}
use Rattle.abc_heap_values.specs.declared.values.Span.{Span}
use Rattle.abc_heap_values.specs.declared.values.Value.TheVariants.{Num}
use Rattle.abc_heap_store.specs.Texts.{IsText}
use Rattle.abc_objects.specs.Values.{Exists}
use Rattle.abc_run_members.specs.Members.{puts_top}
use Rattle.abc_frames.specs.Frame.{newest}
use Rattle.abc_run_state.specs.Outer.{setting_in}
use Rattle.abc_run_state.specs.Turns.{IsDoneIf}
use Rattle.abc_run_members.proofs.fast_paths.puts_at_once.Goals as goal

pub operand-top-requires : goal.operand-top-requires
operand-top-requires g c = omega (arith, c.requires.1.0.operands)

pub puts-requires : goal.puts-requires
puts-requires g c =
    let l = c.args.linked.now in
    let h = c.args.s.now.arena in
    let e = subst (Exists l h) c.in-Num.is (c.operand-top.ensures.there l h c.requires.0.frame.stack) in
    let f : FitsSigned w64 c.in-Num.n = first_of (search rules, omega (arith, ints), grind (arith, ints)) in
    let same = ap Num (to_z-of_z w64 c.in-Num.n f) in
    (c.requires.0, (c.requires.1.0, (c.requires.1.1.0, (c.requires.1.1.1, (subst (Exists l h) (sym same) e, same ∙ sym c.in-Num.is ∙ c.operand-top.ensures.is)))))

pub puts_value-requires : goal.puts_value-requires
puts_value-requires g c = (c.requires.0, (c.requires.1.0, (c.requires.1.1.0, subst (λ (x : Span). IsText c.args.linked.now.file.strings c.args.s.now.arena x) (sym c.again.ensures) c.requires.1.1.1)))

pub returns-in_default : goal.returns-in_default
returns-in_default g c = subst (λ (x : Span). IsDoneIf c.puts_value.result c.args.linked.now g.out (puts_top (setting_in c.args.linked.now g.out) c.args.o x (newest c.args.s.now.frames)) c.args.s.now c.puts_value.new.s) c.again.ensures c.puts_value.ensures
