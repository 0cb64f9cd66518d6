use Rattle.std.proofs.Common.{◌≡◌, length}
use Rattle.abc_frames.specs.Throws.{CanCatch, sizes_left, unwound}
use Rattle.abc_frames.proofs.throws.unwind.Given as goal

abbrev pub invariant-loop-v : goal.invariant-loop-v
invariant-loop-v g l = record {
  catches : CanCatch (g.H.Handlers.targets l.handlers) l.frames.living l.frames.sizes;
  living : unwound (g.H.Handlers.targets l.handlers) l.v l.frames.living ≡ unwound (g.H.Handlers.targets l.handlers) l.v l.initial.frames.living;
  sizes : sizes_left (g.H.Handlers.targets l.handlers) l.frames.living l.frames.sizes ≡ sizes_left (g.H.Handlers.targets l.handlers) l.initial.frames.living l.initial.frames.sizes;
  frame_limit : l.frames.frame_limit ≡ l.initial.frames.frame_limit;
  value_limit : l.frames.value_limit ≡ l.initial.frames.value_limit;
}

abbrev pub decreases-loop-v : goal.decreases-loop-v
decreases-loop-v g l = length l.frames.living
