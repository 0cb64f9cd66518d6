use Rattle.std.proofs.Common.{◌≡◌, ◌∙◌, ◌+◌, suc, ap, refl, sym, arith, take}
use Rattle.std.specs.Prelude.{◌∷◌, []}
use Rattle.abc_heap_store.specs.Changes.{change, with_more_slots}
use Rattle.abc_heap_store.specs.View.{objects}
use Rattle.abc_heap_store.proofs.Bytes.{take_next}
use Rattle.abc_heap_store.proofs.Indexed.{keeps_on}
use Rattle.abc_heap_store.proofs.Makes.{slots_on, no_slots}
use Rattle.abc_heap_store.proofs.heads.fill_slots.Goals as goal

pub loop-k-init : goal.loop-k-init
loop-k-init g c = (c.requires.heads, c.requires.next, omega arith, refl, sym (no_slots c.args.o (objects c.args.cells.now.items 0 c.args.heads.now.items)), omega arith, λ fixed made strings b x. x)

pub loop-k-preserved : goal.loop-k-preserved
loop-k-preserved g c =
    let made = c.add_slot-chain.ensures in
    let was = c.loop-k.invariant in
    let before = objects c.args.cells.now.items 0 c.args.heads.now.items in
    let next : suc c.loop-k.k ≡ c.loop-k.k + 1 = omega arith in
    let vs = g.S.Starts.values c.args.starts.now in (
      made.heads,
      made.next,
      omega (arith, made.sizes.0, was.2),
      made.sizes.1 ∙ was.3,
      made.objects
          ∙ (ap (change (with_more_slots (c.start.result ∷ [])) c.args.o) was.4
          ∙ (slots_on (take c.loop-k.k vs) (c.start.result ∷ []) c.args.o before
          ∙ (ap (λ ws. change (with_more_slots ws) c.args.o before) (take_next vs c.loop-k.k c.start.result c.start.ensures)
          ∙ ap (λ n. change (with_more_slots (take n vs)) c.args.o before) next))),
      omega arith,
      keeps_on c.args.cells.now c.loop-k.cells _ was.6 made.index,
    )
