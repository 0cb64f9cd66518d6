use Rattle.std.proofs.Common.{ℕ, ◌<◌, ◌≤◌, List, length, get_or, ap, subst, arith}
use Rattle.std.proofs.lemmas.Result.{err_from_is_err_and}
use Rattle.abc_heap_values.specs.Filling.{Filling}
use Rattle.abc_heap_values.specs.declared.values.Value.{Value}
use Rattle.abc_run_calls.proofs.Coerced.{makes_on, type_next}
use Rattle.abc_run_state.specs.Outer.{world}
use Rattle.abc_run_state.specs.Stops.{why}
use Rattle.abc_run_finish.proofs.Coercing.{next_made, next_open, next_stops, none_left, none_made}
use Rattle.abc_run_finish.proofs.call_arguments.coerce_arguments.Goals as goal

pub loop-k-init : goal.loop-k-init
loop-k-init g c = none_made c.args.linked.now g.out c.args.method.now c.args.args.now c.args.s.now c.requires.0 c.requires.1.0 c.requires.1.1.1.1.1.0 c.requires.1.1.1.1.1.1

pub coerce_argument-requires : goal.coerce_argument-requires
coerce_argument-requires g c =
    let m = c.args.method.now in
    let k = c.loop-k.k in
    let inv = c.loop-k.invariant in
    let types = c.as_slice-types.result.now in
    let lt = c.loop-k-test.true in
    let parameter = subst (λ (ts : List ℕ). k < length ts) c.as_slice-types.ensures lt in
    let free = next_open c.args.linked.now g.out m c.args.args.now k (get_or types k 0) c.args.s.now c.loop-k.s (type_next m types k c.as_slice-types.ensures lt) inv in
    (inv.makes.over, (inv.there, (c.requires.1.1.0, (parameter, (c.requires.1.1.1.0, free)))))

pub push-requires : goal.push-requires
push-requires g c =
    let given = c.in_ok-v.ensures.stays.given in
    let many = c.loop-k.invariant.many in
    let limit = c.loop-k.invariant.makes.limit in
    let same = ap (λ (f : Filling Value). length f.items) given in
    let kept = ap (λ (f : Filling Value). f.limit) given in
    let within = subst (λ (ts : List ℕ). c.loop-k.k < length ts) c.as_slice-types.ensures c.loop-k-test.true in
    let room = c.requires.1.1.1.1.0 in
    omega (arith, same, kept, many, limit, room, within)

pub loop-k-preserved : goal.loop-k-preserved
loop-k-preserved g c =
    let m = c.args.method.now in
    let k = c.loop-k.k in
    let types = c.as_slice-types.result.now in
    next_made c.args.linked.now g.out m c.args.args.now k (get_or types k 0) c.args.s.now c.loop-k.s
    (type_next m types k c.as_slice-types.ensures c.loop-k-test.true) c.loop-k.invariant c.coerce_argument.new.s c.push.new.self c.in_ok-v.v c.in_ok-v.ensures.part c.in_ok-v.ensures.stays c.push.ensures

pub returns-in_err-v-clause-part : goal.returns-in_err-v-clause-part
returns-in_err-v-clause-part g c =
    let m = c.args.method.now in
    let k = c.loop-k.k in
    let types = c.as_slice-types.result.now in
    let e = err_from_is_err_and c.from_residual.result c.from_residual.ensures.1 in
    rw (e.1, e.2) (next_stops c.args.linked.now g.out m c.args.args.now k (get_or types k 0) c.args.s.now c.loop-k.s
    (type_next m types k c.as_slice-types.ensures c.loop-k-test.true) c.loop-k.invariant (world c.coerce_argument.new.s g.out) (why c.in_err-v.field-0.0) c.in_err-v.ensures.part)

pub returns-in_err-v-clause-makes : goal.returns-in_err-v-clause-makes
returns-in_err-v-clause-makes g c = makes_on c.args.linked.now c.args.s.now c.loop-k.s c.coerce_argument.new.s c.loop-k.invariant.makes c.in_err-v.ensures.stays

pub returns-clause-part : goal.returns-clause-part
returns-clause-part g c =
    let past = subst (λ (ts : List ℕ). length ts ≤ c.loop-k.k) c.as_slice-types.ensures c.loop-k-test.false in
    none_left c.args.linked.now g.out c.args.method.now c.args.args.now c.loop-k.k c.args.s.now c.loop-k.s past c.loop-k.invariant
