use Rattle.std.proofs.Common.{◌+◌, nat_eq, subst}
use Rattle.std.specs.Cmp.{unsigned_Decides}
use Rattle.abc_tidy_entries.specs.Entries.{uint_places}
use Rattle.abc_tidy_entries.specs.Heads.{TellApart}
use Rattle.abc_tidy_entries.proofs.Placing.{in_place, placed_tell}
use Rattle.abc_tidy_entries.proofs.places.uint_places.Goals as goal

pub returns : goal.returns
returns c =
    let uints = c.args.abc.now.uints in
    subst (λ n. TellApart c.args.marks.now (1 + n) c.in_ok-places.places (uint_places c.args.abc.now)) c.len-begin.ensures
    (placed_tell nat_eq unsigned_Decides c.args.marks.now (1 + c.len-begin.result) uints c.as_slice.result.now uints c.in_ok-places.places 0 c.as_slice.ensures c.in_ok-places.ensures (λ i l. in_place uints i 0 l))
