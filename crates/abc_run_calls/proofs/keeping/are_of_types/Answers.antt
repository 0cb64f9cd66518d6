use Rattle.std.proofs.Common.{◌<◌, ◌≤◌, List, ℕ, length, get_or, subst, arith}
use Rattle.abc_frames.specs.Frame.{newest}
use Rattle.abc_run_calls.proofs.Coerced.{type_next}
use Rattle.abc_run_calls.proofs.Stayed.{stays_end, stays_more}
use Rattle.abc_run_calls.proofs.keeping.are_of_types.Goals as goal

pub loop-k-init : goal.loop-k-init
loop-k-init c = λ h. h

pub is_argument_of-requires-clause-within : goal.is_argument_of-requires-clause-within
is_argument_of-requires-clause-within c =
    let within = subst (λ (ts : List ℕ). c.loop-k.k < length ts) c.as_slice-types.ensures c.loop-k-test.true in
    let many = c.requires.many in
    omega (arith, within, many)

pub loop-k-preserved : goal.loop-k-preserved
loop-k-preserved c = λ h.
    let m = c.args.method.now in
    let k = c.loop-k.k in
    let types = c.as_slice-types.result.now in
    let within = subst (λ (ts : List ℕ). k < length ts) c.as_slice-types.ensures c.loop-k-test.true in
    let many = c.requires.many in
    c.loop-k.invariant
    (stays_more c.args.linked.now m c.args.count k (get_or types k 0) (newest c.args.frames.now) (omega (arith, within, many)) c.requires.there many
    (type_next m types k c.as_slice-types.ensures c.loop-k-test.true) (c.is_argument_of.ensures c.if-not-is_argument_of.false) h)

pub returns : goal.returns
returns c = λ e.
    let past = subst (λ (ts : List ℕ). length ts ≤ c.loop-k.k) c.as_slice-types.ensures c.loop-k-test.false in
    c.loop-k.invariant (stays_end c.args.linked.now c.args.method.now c.args.count c.loop-k.k (newest c.args.frames.now) past c.requires.many c.requires.there)
