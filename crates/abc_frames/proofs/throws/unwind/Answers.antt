use Rattle.std.proofs.Common.{◌≡◌, ◌<◌, ◌∙◌, Some, None, length, sym, arith}
use Rattle.abc_frames.proofs.Living.{length-under}
use Rattle.abc_frames.specs.Frame.{newest_of}
use Rattle.abc_frames.specs.Throws.{target_for}
use Rattle.abc_frames.proofs.Unwinding.{catches_below, keeps, no_sizes_left, none_left, sizes_below, sizes_caught, unwound_caught, unwound_left}
use Rattle.abc_frames.proofs.throws.unwind.Goals as goal

pub catch_at-requires : goal.catch_at-requires
catch_at-requires g c =
    let t = g.H.Handlers.targets c.args.handlers.now in
    let q = c.loop-v.frames in
    let live : 0 < length q.living = omega arith in
    let e : target_for t (newest_of q.living) ≡ Some c.in-Some.target = rw (← c.method.ensures, ← c.place.ensures) (sym c.target.ensures ∙ c.in-Some.is) in
    keeps t q.living q.sizes c.in-Some.target c.loop-v.invariant.catches live e

pub returns-in-Some-clause-living : goal.returns-in-Some-clause-living
returns-in-Some-clause-living g c =
    let t = g.H.Handlers.targets c.args.handlers.now in
    let q = c.loop-v.frames in
    let live : 0 < length q.living = omega arith in
    let e : target_for t (newest_of q.living) ≡ Some c.in-Some.target = rw (← c.method.ensures, ← c.place.ensures) (sym c.target.ensures ∙ c.in-Some.is) in
    rw c.catch_at.ensures (unwound_caught t c.args.v q.living c.in-Some.target live e ∙ c.loop-v.invariant.living)

pub returns-in-Some-clause-sizes : goal.returns-in-Some-clause-sizes
returns-in-Some-clause-sizes g c =
    let t = g.H.Handlers.targets c.args.handlers.now in
    let q = c.loop-v.frames in
    let live : 0 < length q.living = omega arith in
    let e : target_for t (newest_of q.living) ≡ Some c.in-Some.target = rw (← c.method.ensures, ← c.place.ensures) (sym c.target.ensures ∙ c.in-Some.is) in
    rw c.catch_at.ensures (sizes_caught t q.living q.sizes c.in-Some.target c.loop-v.invariant.catches live e ∙ c.loop-v.invariant.sizes)

pub loop-v-preserved : goal.loop-v-preserved
loop-v-preserved g c =
    let t = g.H.Handlers.targets c.args.handlers.now in
    let q = c.loop-v.frames in
    let live : 0 < length q.living = omega arith in
    let e : target_for t (newest_of q.living) ≡ None = rw (← c.method.ensures, ← c.place.ensures) (sym c.target.ensures ∙ c.in-None.is) in
    rw c.leave.ensures (record {
      catches = catches_below t q.living q.sizes c.loop-v.invariant.catches live e;
      living = unwound_left t c.args.v q.living live e ∙ c.loop-v.invariant.living;
      sizes = sizes_below t q.living q.sizes c.loop-v.invariant.catches live e ∙ c.loop-v.invariant.sizes;
      frame_limit = c.loop-v.invariant.frame_limit;
      value_limit = c.loop-v.invariant.value_limit;
    })

pub loop-v-smaller : goal.loop-v-smaller
loop-v-smaller g c =
    let q = c.loop-v.frames in
    let live : 0 < length q.living = omega arith in
    rw c.leave.ensures (length-under q.living live)

pub returns-clause-living : goal.returns-clause-living
returns-clause-living g c =
    let t = g.H.Handlers.targets c.args.handlers.now in
    let q = c.loop-v.frames in
    none_left t c.args.v q.living (omega arith) ∙ c.loop-v.invariant.living

pub returns-clause-sizes : goal.returns-clause-sizes
returns-clause-sizes g c =
    let t = g.H.Handlers.targets c.args.handlers.now in
    let q = c.loop-v.frames in
    no_sizes_left t q.living q.sizes (omega arith) ∙ c.loop-v.invariant.sizes
