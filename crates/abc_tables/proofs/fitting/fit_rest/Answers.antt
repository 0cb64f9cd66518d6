use Rattle.std.proofs.Common.{arith, subst}
use Rattle.std.specs.Prelude.{AllPairs}
use Rattle.abc_tables.specs.Distinct.{Rise}
use Rattle.abc_tables.proofs.BodiesFit.{bodies_in}
use Rattle.abc_tables.proofs.FileFits.{total_len, whole_fits}
use Rattle.abc_tables.proofs.fitting.fit_rest.Goals as goal

pub returns-in_default : goal.returns-in_default
returns-in_default c =
    let whole = whole_fits c.args.abc.now c.requires.pools c.requires.definitions in (
      λ no_result. absurd cc,
      λ f. absurd (c.in_default.ensures (bodies_in c.args.abc.now c.args.sizes.now c.as_slice.result.now c.requires.sizes c.as_slice.ensures (whole.0 f).1)),
    )

pub returns-then-saturating_add-gt-LONGEST : goal.returns-then-saturating_add-gt-LONGEST
returns-then-saturating_add-gt-LONGEST c =
    let whole = whole_fits c.args.abc.now c.requires.pools c.requires.definitions in
    let total = total_len c.args.abc.now c.as_slice.result.now c.len_before_bodies.result c.in-Some.walked.len c.saturating_add.result c.as_slice.ensures c.len_before_bodies.ensures c.in-Some.ensures.1 c.saturating_add.ensures in (
      λ no_result. absurd cc,
      λ f. absurd (omega (arith, (whole.0 f).0, total, c.if-saturating_add-gt-LONGEST.true)),
    )

pub fit_bodies-requires-clause-rise : goal.fit_bodies-requires-clause-rise
fit_bodies-requires-clause-rise c = λ rise. subst (AllPairs Rise) c.as_slice.ensures (c.in-Some.ensures.2 rise)

pub returns : goal.returns
returns c =
    let whole = whole_fits c.args.abc.now c.requires.pools c.requires.definitions in
    let total = total_len c.args.abc.now c.as_slice.result.now c.len_before_bodies.result c.in-Some.walked.len c.saturating_add.result c.as_slice.ensures c.len_before_bodies.ensures c.in-Some.ensures.1 c.saturating_add.ensures in (
      λ yes_result. whole.1 (omega (arith, total, c.if-saturating_add-gt-LONGEST.false), c.fit_bodies.ensures.0 yes_result),
      λ f. c.fit_bodies.ensures.1 (whole.0 f).1,
    )
