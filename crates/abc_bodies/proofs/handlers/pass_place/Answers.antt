use Rattle.std.proofs.Common.{◌≡◌, false, refl, sym, ap}
use Rattle.std.specs.Prelude.{is_some}
use Rattle.abc_instr.specs.Marks.{mark_at}
use Rattle.abc_varint.specs.Reads.{known_input}
use Rattle.abc_varint.proofs.Inputs.{known_is}
use Rattle.abc_bodies.specs.Moved.{moved_place}
use Rattle.abc_bodies.proofs.handlers.pass_place.Goals as goal

pub returns-in-None : goal.returns-in-None
unfolding moved_place
returns-in-None g c =
    let v = c.in_ok-x.ensures.value.0 in
    let w = c.read_u30.new.w in
    let s = g.S.Source.left c.read_u30.new.source in
    let no : is_some (mark_at c.args.marks.now c.in_ok-x.x) ≡ false = ap is_some (sym c.in-None.ensures.is) in (
      (λ k. let h = v.0.4 (known_input w s) (known_is w s) in (h.0, rw (h.1, no, c.place-place.ensures.is) refl)),
      (λ e h. absurd (let k = v.0.0 in cc)),
      v.2,
      (λ k h. absurd cc),
      (v.0.1, v.0.3),
    )
