use Rattle.std.proofs.Common.{ℕ, None, set, sym, subst, arith}
use Rattle.abc_heap_values.specs.Filling.{Filling}
use Rattle.abc_heap_store.specs.Buckets.{AreBuckets}
use Rattle.abc_heap_store.proofs.Lasts.{top_above, last_gone, other_gone}
use Rattle.abc_heap_store.proofs.buckets.Buckets.remove.Goals as goal

pub before-before-requires : goal.before-before-requires
before-before-requires c = let r = c.requires.place in (top_above r.0 c.args.self.now.lasts.items c.args.self.now.befores.items c.args.bucket c.args.place r.1 c.requires.bucket r.2).3

pub last_place-top-requires-clause-some : goal.last_place-top-requires-clause-some
last_place-top-requires-clause-some c =
    let r = c.requires.place in
    let t = top_above r.0 c.args.self.now.lasts.items c.args.self.now.befores.items c.args.bucket c.args.place r.1 c.requires.bucket r.2 in
    omega (arith, t)

pub above-above-requires-clause-place : goal.above-above-requires-clause-place
above-above-requires-clause-place c =
    let r = c.requires.place in
    let t = top_above r.0 c.args.self.now.lasts.items c.args.self.now.befores.items c.args.bucket c.args.place r.1 c.requires.bucket r.2 in
    (r.0, r.1, r.2, omega (arith, t, c.last_place-top.ensures, c.if-top-place.false))

pub returns-then-top-place-clause-removed : goal.returns-then-top-place-clause-removed
returns-then-top-place-clause-removed c = λ ks a e. subst (λ v. AreBuckets (set ks c.args.place None) (set c.args.self.now.lasts.items c.args.bucket v) c.args.self.now.befores.items) (sym c.before-before.ensures) (last_gone ks c.args.self.now.lasts.items c.args.self.now.befores.items c.args.bucket c.args.place a c.requires.bucket e (omega (arith, c.last_place-top.ensures, c.if-top-place.true)))

pub returns-clause-removed : goal.returns-clause-removed
returns-clause-removed c = λ ks a e.
    let s = c.above-above.ensures ks a e in
    subst (λ (f : Filling ℕ). AreBuckets (set ks c.args.place None) c.args.self.now.lasts.items f.items) (sym c.set.ensures)
    (subst (λ v. AreBuckets (set ks c.args.place None) c.args.self.now.lasts.items (set c.args.self.now.befores.items c.above-above.result v)) (sym c.before-before.ensures) (other_gone ks c.args.self.now.lasts.items c.args.self.now.befores.items c.args.bucket c.args.place c.above-above.result a c.requires.bucket e s.0 s.1))
