use Rattle.std.proofs.Common.{arith}
use Rattle.abc_heap_store.proofs.Lasts.{above_first, first_in, next_above, above_next}
use Rattle.abc_heap_store.proofs.buckets.Buckets.above.Goals as goal

pub last_place-above-requires-clause-some : goal.last_place-above-requires-clause-some
last_place-above-requires-clause-some c = let r = c.requires.place in omega (arith, r.3)

pub place_before-before-requires-clause-place : goal.place_before-before-requires-clause-place
place_before-before-requires-clause-place c = let r = c.requires.place in (first_in r.0 c.args.self.now.lasts.items c.args.self.now.befores.items c.args.bucket c.args.place c.last_place-above.result r.1 c.requires.bucket r.2 r.3 c.last_place-above.ensures).0

pub place_before-before-requires-clause-some : goal.place_before-before-requires-clause-some
place_before-before-requires-clause-some c = let r = c.requires.place in (first_in r.0 c.args.self.now.lasts.items c.args.self.now.befores.items c.args.bucket c.args.place c.last_place-above.result r.1 c.requires.bucket r.2 r.3 c.last_place-above.ensures).1

pub loop-before-init : goal.loop-before-init
loop-before-init c = λ ks a e. above_first ks c.args.self.now.lasts.items c.args.self.now.befores.items c.args.bucket c.args.place c.last_place-above.result c.place_before-before.result a c.requires.bucket e c.requires.place.3 c.last_place-above.ensures c.place_before-before.ensures

pub loop-before-preserved : goal.loop-before-preserved
loop-before-preserved c = λ ks a e. above_next ks c.args.self.now.lasts.items c.args.self.now.befores.items c.args.bucket c.args.place c.loop-before.above c.loop-before.before _ a e (c.loop-before.invariant ks a e) c.loop-before-test.true c.place_before-before-in-loop-before.ensures

pub loop-before-smaller : goal.loop-before-smaller
loop-before-smaller c =
    let r = c.requires.place in
    (next_above r.0 c.args.self.now.lasts.items c.args.self.now.befores.items c.args.bucket c.args.place c.loop-before.above c.loop-before.before r.1 r.2 (c.loop-before.invariant r.0 r.1 r.2) c.loop-before-test.true).2

pub place_before-before-requires-in-loop-before-clause-place : goal.place_before-before-requires-in-loop-before-clause-place
place_before-before-requires-in-loop-before-clause-place c =
    let r = c.requires.place in
    (next_above r.0 c.args.self.now.lasts.items c.args.self.now.befores.items c.args.bucket c.args.place c.loop-before.above c.loop-before.before r.1 r.2 (c.loop-before.invariant r.0 r.1 r.2) c.loop-before-test.true).3

pub place_before-before-requires-in-loop-before-clause-some : goal.place_before-before-requires-in-loop-before-clause-some
place_before-before-requires-in-loop-before-clause-some c =
    let r = c.requires.place in
    (next_above r.0 c.args.self.now.lasts.items c.args.self.now.befores.items c.args.bucket c.args.place c.loop-before.above c.loop-before.before r.1 r.2 (c.loop-before.invariant r.0 r.1 r.2) c.loop-before-test.true).4

pub returns : goal.returns
returns c = λ ks a e. let s = c.loop-before.invariant ks a e in (s.own, omega (arith, s.next, c.loop-before-test.false))
