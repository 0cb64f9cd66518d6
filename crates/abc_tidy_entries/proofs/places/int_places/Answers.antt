use Rattle.std.proofs.Common.{pos, int_eq}
use Rattle.std.specs.Cmp.{signed_Decides}
use Rattle.abc_tidy_entries.proofs.Placing.{in_place, placed_tell}
use Rattle.abc_tidy_entries.proofs.places.int_places.Goals as goal

pub returns : goal.returns
returns c =
    let ints = c.args.abc.now.ints in
    placed_tell int_eq signed_Decides c.args.marks.now 1 ints c.as_slice.result.now ints c.in_ok-places.places (pos 0) c.as_slice.ensures c.in_ok-places.ensures (λ i l. in_place ints i (pos 0) l)
