use mir.Syntax.{w64}
use mir.Val.{SFits}
use Rattle.std.proofs.Common.{rules, ◌≡◌, ◌∙◌, ◌<◌, List, length, map, sym, ap, subst, arith}
use Rattle.std.specs.Prelude.{All, ℤ}
use Rattle.std.proofs.lemmas.Int.{to_z-of_z}
use Rattle.std.proofs.lemmas.Result.{err_from_is_err_and}
use Rattle.abc_base.specs.Hosts.{plain_arguments as numbers_in, formula_at, number_or_none, value_of}
use Rattle.abc_base.specs.declared.names.Fault.TheVariants.{Range}
use Rattle.abc_base.specs.declared.formula.Formula.{Formula}
use Rattle.abc_heap_values.specs.declared.values.Value.{Value}
use Rattle.abc_heap_values.specs.declared.values.Value.TheVariants.{Num}
use Rattle.abc_objects.specs.Values.{Exists}
use Rattle.abc_run_finish.proofs.OutwardDone.{args_long, arguments_there, asked_gives, asked_passes, asked_stops, made_long, ready_with}
use Rattle.abc_frames.specs.Frame.{Frames, arguments, newest}
use Rattle.abc_run_state.specs.Outer.{setting_in, world}
use Rattle.abc_run_state.specs.Settling.{given_by_how, after_settling, taken_by}
use Rattle.abc_run_state.specs.Stops.{why}
use Rattle.abc_run_state.specs.Turns.{GoesOn, Halts, bare_newest, on_top}
use Rattle.abc_meaning.specs.Calling.{number_of_argument}
use Rattle.abc_meaning.specs.Ops.{as_number}
use Rattle.abc_meaning.specs.World.{Faults}
use Rattle.abc_run_finish.proofs.asking.ask.Goals as goal

pub arguments-values-requires : goal.arguments-values-requires
arguments-values-requires g c =
    let p = setting_in c.args.linked.now g.out in
    let new = c.convert_arguments.new.s in
    let there = c.requires.1.1.0.operands in
    let few = c.requires.1.1.1.0 in
    let long = made_long (as_number p) c.args.count (world c.args.s.now g.out) (world new g.out) (newest c.args.s.now.frames).stack (newest new.frames).stack c.in_ok-convert_arguments.ensures.part in
    omega (arith, there, few, long)

pub numbers_of-args-requires-clause-there : goal.numbers_of-args-requires-clause-there
numbers_of-args-requires-clause-there g c =
    let l = c.args.linked.now in
    let p = setting_in l g.out in
    let new = c.convert_arguments.new.s in
    let there = c.requires.1.1.0.operands in
    let few = c.requires.1.1.1.0 in
    let long = made_long (as_number p) c.args.count (world c.args.s.now g.out) (world new g.out) (newest c.args.s.now.frames).stack (newest new.frames).stack c.in_ok-convert_arguments.ensures.part in
    subst (λ (vs : List Value). All (Exists l new.arena) vs) (sym c.arguments-values.ensures) (arguments_there l new.arena (newest new.frames) c.args.count (omega (arith, there, few, long)) c.in_ok-convert_arguments.ensures.set.frame.stack)

pub settle-requires : goal.settle-requires
settle-requires g c =
    let p = setting_in c.args.linked.now g.out in
    let new = c.convert_arguments.new.s in
    let long = made_long (as_number p) c.args.count (world c.args.s.now g.out) (world new g.out) (newest c.args.s.now.frames).stack (newest new.frames).stack c.in_ok-convert_arguments.ensures.part in
    ready_with (taken_by c.args.how) (given_by_how c.args.how) c.args.s.now.frames new.frames (newest new.frames).stack c.in_ok-convert_arguments.ensures.frames long c.requires.1.1.0

pub call-requires-clause-given : goal.call-requires-clause-given
call-requires-clause-given g c =
    let p = setting_in c.args.linked.now g.out in
    let new = c.convert_arguments.new.s in
    let there = c.requires.1.1.0.operands in
    let few = c.requires.1.1.1.0 in
    let long = made_long (as_number p) c.args.count (world c.args.s.now g.out) (world new g.out) (newest c.args.s.now.frames).stack (newest new.frames).stack c.in_ok-convert_arguments.ensures.part in
    c.numbers_of-args.ensures.count ∙ ap (λ (vs : List Value). length vs) c.arguments-values.ensures ∙ args_long c.args.count (newest new.frames) (omega (arith, there, few, long)) ∙ c.if-count-params.false ∙ c.params.ensures

pub returns-in_err-convert_arguments-clause-asks : goal.returns-in_err-convert_arguments-clause-asks
returns-in_err-convert_arguments-clause-asks g c =
    let l = c.args.linked.now in
    let p = setting_in l g.out in
    let w = world c.args.s.now g.out in
    let new = c.convert_arguments.new.s in
    let q = c.args.s.now.frames in
    let n = c.args.formula in
    let host = c.requires.1.1.1.1.0 in
    let there = c.requires.1.1.0.operands in
    let few = c.requires.1.1.1.0 in
    let known : n < length g.out.formulas = subst (λ (fs : List Formula). n < length fs) (sym host) c.requires.1.1.1.1.1 in
    let counts : c.args.count ≡ length (formula_at g.out.formulas n).factors = c.if-count-params.false ∙ c.params.ensures ∙ ap (λ (fs : List Formula). length (formula_at fs n).factors) (sym host) in
    let e = err_from_is_err_and c.from_residual.result c.from_residual.ensures.1 in
    let y = c.in_err-convert_arguments.field-0.0 in
    rw (e.1, e.2) (asked_stops p n c.args.count c.args.how w (world new g.out) q (why y) known (omega (arith, there, few)) counts c.in_err-convert_arguments.ensures.part ∙ ap (λ (r : Frames). Halts (world new g.out) r (why y)) (sym (ap bare_newest c.in_err-convert_arguments.ensures.frames)))

pub returns-in-Some-clause-asks : goal.returns-in-Some-clause-asks
returns-in-Some-clause-asks g c =
    let l = c.args.linked.now in
    let p = setting_in l g.out in
    let w = world c.args.s.now g.out in
    let new = c.convert_arguments.new.s in
    let q = c.args.s.now.frames in
    let n = c.args.formula in
    let host = c.requires.1.1.1.1.0 in
    let there = c.requires.1.1.0.operands in
    let few = c.requires.1.1.1.0 in
    let known : n < length g.out.formulas = subst (λ (fs : List Formula). n < length fs) (sym host) c.requires.1.1.1.1.1 in
    let counts : c.args.count ≡ length (formula_at g.out.formulas n).factors = c.if-count-params.false ∙ c.params.ensures ∙ ap (λ (fs : List Formula). length (formula_at fs n).factors) (sym host) in
    let made = c.in_ok-convert_arguments.ensures in
    let args : numbers_in c.numbers_of-args.result ≡ map number_of_argument (arguments c.args.count (newest new.frames)) = c.numbers_of-args.ensures.numbers ∙ ap (map number_of_argument) c.arguments-values.ensures in
    let gave : number_or_none (value_of (formula_at g.out.formulas n) (map number_of_argument (arguments c.args.count (newest new.frames)))) ≡ c.call.result =
    ap (λ (fs : List Formula). number_or_none (value_of (formula_at fs n) (map number_of_argument (arguments c.args.count (newest new.frames))))) host
    ∙ ap (λ (ns : List ℤ). number_or_none (value_of (formula_at (g.H.Host.formulas c.args.host.now) n) ns)) (sym args)
    ∙ sym c.call.ensures in
    let z = c.in-Some.n in
    let fits : SFits w64 z = search rules in
    asked_gives p n c.args.count c.args.how w (world new g.out) q (newest new.frames).stack z known (omega (arith, there, few)) counts few made.part (gave ∙ c.in-Some.is)
    ∙ ap (λ (r : Frames). GoesOn (world new g.out) (on_top (after_settling c.args.how (Num z) (newest r)) r)) (sym made.frames)
    ∙ ap (λ (x : ℤ). GoesOn (world new g.out) (on_top (after_settling c.args.how (Num x) (newest new.frames)) new.frames)) (sym (to_z-of_z w64 z fits))
    ∙ ap (λ (r : Frames). GoesOn (world new g.out) r) (sym c.settle.ensures)

pub returns-in-None-clause-asks : goal.returns-in-None-clause-asks
returns-in-None-clause-asks g c =
    let l = c.args.linked.now in
    let p = setting_in l g.out in
    let w = world c.args.s.now g.out in
    let new = c.convert_arguments.new.s in
    let q = c.args.s.now.frames in
    let n = c.args.formula in
    let host = c.requires.1.1.1.1.0 in
    let there = c.requires.1.1.0.operands in
    let few = c.requires.1.1.1.0 in
    let known : n < length g.out.formulas = subst (λ (fs : List Formula). n < length fs) (sym host) c.requires.1.1.1.1.1 in
    let counts : c.args.count ≡ length (formula_at g.out.formulas n).factors = c.if-count-params.false ∙ c.params.ensures ∙ ap (λ (fs : List Formula). length (formula_at fs n).factors) (sym host) in
    let made = c.in_ok-convert_arguments.ensures in
    let args : numbers_in c.numbers_of-args.result ≡ map number_of_argument (arguments c.args.count (newest new.frames)) = c.numbers_of-args.ensures.numbers ∙ ap (map number_of_argument) c.arguments-values.ensures in
    let gave : number_or_none (value_of (formula_at g.out.formulas n) (map number_of_argument (arguments c.args.count (newest new.frames)))) ≡ c.call.result =
    ap (λ (fs : List Formula). number_or_none (value_of (formula_at fs n) (map number_of_argument (arguments c.args.count (newest new.frames))))) host
    ∙ ap (λ (ns : List ℤ). number_or_none (value_of (formula_at (g.H.Host.formulas c.args.host.now) n) ns)) (sym args)
    ∙ sym c.call.ensures in
    asked_passes p n c.args.count c.args.how w (world new g.out) q (newest new.frames).stack known (omega (arith, there, few)) counts made.part (gave ∙ c.in-None.is)
    ∙ ap (λ (r : Frames). Halts (world new g.out) r (Faults Range)) (sym (ap bare_newest made.frames))
