use Rattle.std.proofs.Common.{◌≡◌, ◌∙◌, ap, subst, sym}
use Rattle.abc_run_finish.proofs.Unwound.{can_catch_sized, caught_is, sized_on, uncaught_is}
use Rattle.abc_run_finish.specs.Handling.{Held, target_for_value}
use Rattle.abc_meaning.specs.Throwing.{Ends, Uncaught}
use Rattle.abc_meaning.specs.declared.thrown.Thrown.{Thrown}
use Rattle.abc_run_state.specs.Outer.{setting_in, world}
use Rattle.abc_frames.specs.Throws.{CanCatch, sizes_left, unwound}
use Rattle.abc_run_finish.proofs.stopping.throw.Goals as goal

pub unwind-requires : goal.unwind-requires
unwind-requires g c =
    let s = c.args.s.now in
    subst (λ (h : Held). CanCatch (target_for_value h.linked h.heap h.value) s.frames.living s.frames.sizes) (sym c.new-handlers.ensures) (can_catch_sized (setting_in c.args.linked.now g.out) s.arena.limits (world s g.out) c.args.v s.frames c.requires.1.1.0 c.requires.1.1.1)

pub returns-then-unwind-clause-step : goal.returns-then-unwind-clause-step
returns-then-unwind-clause-step g c =
    let s = c.args.s.now in
    let left : c.unwind.new.frames.living ≡ unwound (target_for_value c.args.linked.now s.arena c.args.v) c.args.v s.frames.living = c.unwind.ensures.living ∙ ap (λ (h : Held). unwound (target_for_value h.linked h.heap h.value) c.args.v s.frames.living) c.new-handlers.ensures in
    caught_is (setting_in c.args.linked.now g.out) (world s g.out) c.args.v s.frames.living c.unwind.new.frames.living c.unwind.result c.requires.1.1.1 left c.unwind.ensures.caught c.if-unwind.true

pub returns-else-unwind-clause-step : goal.returns-else-unwind-clause-step
returns-else-unwind-clause-step g c =
    let s = c.args.s.now in
    let left : c.unwind.new.frames.living ≡ unwound (target_for_value c.args.linked.now s.arena c.args.v) c.args.v s.frames.living = c.unwind.ensures.living ∙ ap (λ (h : Held). unwound (target_for_value h.linked h.heap h.value) c.args.v s.frames.living) c.new-handlers.ensures in
    uncaught_is (setting_in c.args.linked.now g.out) (world s g.out) c.args.v s.frames.living c.unwind.new.frames.living c.unwind.result c.requires.1.1.1 left c.unwind.ensures.caught c.if-unwind.false
    ∙ ap (λ (t : Thrown). Ends (world s g.out) (Uncaught t)) (sym c.thrown_as.ensures)

pub returns-then-unwind-clause-sized : goal.returns-then-unwind-clause-sized
returns-then-unwind-clause-sized g c =
    let s = c.args.s.now in
    let left : c.unwind.new.frames.living ≡ unwound (target_for_value c.args.linked.now s.arena c.args.v) c.args.v s.frames.living = c.unwind.ensures.living ∙ ap (λ (h : Held). unwound (target_for_value h.linked h.heap h.value) c.args.v s.frames.living) c.new-handlers.ensures in
    let sizes : c.unwind.new.frames.sizes ≡ sizes_left (target_for_value c.args.linked.now s.arena c.args.v) s.frames.living s.frames.sizes = c.unwind.ensures.sizes ∙ ap (λ (h : Held). sizes_left (target_for_value h.linked h.heap h.value) s.frames.living s.frames.sizes) c.new-handlers.ensures in
    sized_on (setting_in c.args.linked.now g.out) s.arena.limits (world s g.out) c.args.v s.frames c.unwind.new.frames c.requires.1.1.0 left sizes c.unwind.ensures.limits

pub returns-else-unwind-clause-sized : goal.returns-else-unwind-clause-sized
returns-else-unwind-clause-sized g c =
    let s = c.args.s.now in
    let left : c.unwind.new.frames.living ≡ unwound (target_for_value c.args.linked.now s.arena c.args.v) c.args.v s.frames.living = c.unwind.ensures.living ∙ ap (λ (h : Held). unwound (target_for_value h.linked h.heap h.value) c.args.v s.frames.living) c.new-handlers.ensures in
    let sizes : c.unwind.new.frames.sizes ≡ sizes_left (target_for_value c.args.linked.now s.arena c.args.v) s.frames.living s.frames.sizes = c.unwind.ensures.sizes ∙ ap (λ (h : Held). sizes_left (target_for_value h.linked h.heap h.value) s.frames.living s.frames.sizes) c.new-handlers.ensures in
    sized_on (setting_in c.args.linked.now g.out) s.arena.limits (world s g.out) c.args.v s.frames c.unwind.new.frames c.requires.1.1.0 left sizes c.unwind.ensures.limits
