use Rattle.std.proofs.Common.{◌≡◌, ◌-◌, ◌∙◌, [], Some, None, drop, suc, ap, sym, arith}
use Rattle.std.specs.Prelude.{slice_get}
use Rattle.std.specs.declared.option.Option.{Option}
use Rattle.abc_heap_values.proofs.Parts.{slice_get_some}
use Rattle.abc_frames.specs.Frame.{arguments as operands, newest}
use Rattle.abc_run_state.specs.Outer.{setting_in}
use Rattle.abc_file_types.specs.declared.methods.OptionValue.{OptionValue}
use Rattle.abc_meaning.specs.Setting.{options_of}
use Rattle.abc_meaning.specs.World.{Went}
use Rattle.abc_run_calls.specs.Arguments.{first_or_option}
use Rattle.abc_run_calls.proofs.Offered.{argument_first, enough_given, option_exists, option_first, option_within, unoffered}
use Rattle.abc_run_calls.proofs.Operands.{given_at, none_given}
use Rattle.abc_run_calls.proofs.arguments.argument.Goals as goal

pub returns-then-k-count-clause-part : goal.returns-then-k-count-clause-part
returns-then-k-count-clause-part c = λ out w.
    let p = setting_in c.args.linked.now out in
    let os = drop c.args.k (options_of c.args.method.now) in
    let f = newest c.args.s.now.frames in
    ap (λ vs. first_or_option p os vs w) (given_at f c.args.count c.args.k c.if-k-count.true c.requires.there)
    ∙ argument_first p os _ (drop (suc c.args.k) (operands c.args.count f)) w
    ∙ ap (Went w) (sym c.operand.ensures.is)

pub returns-then-k-count-clause-there : goal.returns-then-k-count-clause-there
returns-then-k-count-clause-there c = c.operand.ensures.there c.args.linked.now c.args.s.now.arena c.requires.set.frame.stack

pub unreachable-requires : goal.unreachable-requires
unreachable-requires c =
    let m = c.args.method.now in
    let first : c.saturating_sub-first.result ≡ unoffered m = omega (arith, c.saturating_sub-first.ensures, c.len.ensures, c.len-2.ensures) in
    let there = slice_get_some m.options (c.args.k - unoffered m) (option_within m c.args.count c.args.k c.requires.takes c.if-k-count.false c.requires.parameter) in
    let e : ◌≡◌ {A = Option OptionValue} None (Some there.0) = sym c.in-None.is ∙ c.fetch.ensures ∙ ap (λ n. slice_get m.options (c.args.k - n)) first ∙ there.1 in
    cc

pub returns-clause-part : goal.returns-clause-part
returns-clause-part c = λ out w.
    let p = setting_in c.args.linked.now out in
    let m = c.args.method.now in
    let f = newest c.args.s.now.frames in
    let first : c.saturating_sub-first.result ≡ unoffered m = omega (arith, c.saturating_sub-first.ensures, c.len.ensures, c.len-2.ensures) in
    let enough = enough_given m c.args.count c.requires.takes in
    let past = c.if-k-count.false in
    let is : slice_get m.options (c.args.k - unoffered m) ≡ Some c.in-Some.option = sym (c.fetch.ensures ∙ ap (λ n. slice_get m.options (c.args.k - n)) first) ∙ c.in-Some.is in
    ap (λ vs. first_or_option p (drop c.args.k (options_of m)) vs w) (none_given f c.args.count c.args.k past c.requires.there)
    ∙ ap (λ os. first_or_option p os [] w) (option_first m c.args.k c.in-Some.option (omega (arith, enough, past)) is)
    ∙ c.option_given.ensures out w

pub returns-clause-there : goal.returns-clause-there
returns-clause-there c =
    let m = c.args.method.now in
    let first : c.saturating_sub-first.result ≡ unoffered m = omega (arith, c.saturating_sub-first.ensures, c.len.ensures, c.len-2.ensures) in
    let is : slice_get m.options (c.args.k - unoffered m) ≡ Some c.in-Some.option = sym (c.fetch.ensures ∙ ap (λ n. slice_get m.options (c.args.k - n)) first) ∙ c.in-Some.is in
    option_exists c.args.linked.now c.args.s.now.arena c.in-Some.option c.option_given.result (c.requires.options.each (c.args.k - unoffered m) c.in-Some.option is) c.requires.set.over c.option_given.ensures
