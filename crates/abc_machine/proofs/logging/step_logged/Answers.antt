use Rattle.std.proofs.Common.{◌≡◌, ◌≢◌, ℕ, ◌<◌, List, [], ◌∷◌, length, refl, arith}
use Rattle.abc_frames.specs.Frame.{Frame}
use Rattle.abc_machine.proofs.logging.step_logged.Goals as goal

none_left : (fs : List Frame) (n : ℕ) → n ≡ length fs → n ≡ 0 → fs ≡ []
none_left [] n e z = refl
none_left (f ∷ fs) n e z = absurd (omega (arith, e, z))

some_left : (fs : List Frame) (n : ℕ) → n ≡ length fs → n ≢ 0 → 0 < length fs
some_left fs n e z = omega (arith, e, z)

pub start_logged-requires : goal.start_logged-requires
start_logged-requires g c = λ κs among. (among, (c.requires.1.1.0, (none_left c.args.s.now.frames.living c.depth.result c.depth.ensures c.if-depth-eq0.true, c.requires.1.1.1.1)))

pub returns-then-depth-eq0-clause-value : goal.returns-then-depth-eq0-clause-value
returns-then-depth-eq0-clause-value g c = λ v e. absurd (c.start_logged.ensures.none v e)

pub run_logged-requires : goal.run_logged-requires
run_logged-requires g c = λ κs among. (among.0, (among.1, (c.requires.1.1.0, (some_left c.args.s.now.frames.living c.depth.result c.depth.ensures c.if-depth-eq0.false, (c.requires.1.1.1.0, c.requires.1.1.1.1)))))
