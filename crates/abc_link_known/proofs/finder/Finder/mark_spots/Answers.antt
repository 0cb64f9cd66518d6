use Rattle.std.proofs.Common.{◌≡◌, ◌∙◌, None, length, get_or, ap, arith}
use Rattle.std.proofs.lemmas.List.{length-replicate}
use Rattle.abc_link_known.specs.Slates.{mark_spot}
use Rattle.abc_link_known.specs.Spots.{spot_of_space}
use Rattle.abc_link_known.proofs.Marked.{all_marked, as_long, next_marked, none_marked}
use Rattle.abc_link_known.proofs.finder.Finder.mark_spots.Goals as goal

pub loop-space-init : goal.loop-space-init
loop-space-init c = record {
  marked = none_marked c.args.self.now.names.abc.now c.args.self.now.names.tables.now.numbers c.wipe.new.self (length c.args.slate.now) c.in_ok-wipe.ensures;
  len = ap length c.in_ok-wipe.ensures ∙ length-replicate (length c.args.slate.now) None;
}

pub loop-space-preserved : goal.loop-space-preserved
loop-space-preserved c =
    let v = c.args.self.now.names.abc.now in
    let numbers = c.args.self.now.names.tables.now.numbers in
    let spot = spot_of_space v numbers (get_or c.args.spaces.now c.loop-space.space-index 0) in
    let is : c.mark.new.slate ≡ mark_spot c.loop-space.slate spot = c.mark.ensures ∙ ap (mark_spot c.loop-space.slate) c.spot_of_space.ensures in
    record {
      marked = next_marked v numbers c.loop-space.slate c.mark.new.slate c.args.spaces.now c.loop-space.space-index c.loop-space.invariant.marked is (omega arith);
      len = as_long c.loop-space.slate c.mark.new.slate spot is ∙ c.loop-space.invariant.len;
    }

pub returns : goal.returns
returns c = record {
  marked = all_marked c.args.self.now.names.abc.now c.args.self.now.names.tables.now.numbers c.loop-space.slate c.args.spaces.now c.loop-space.space-index c.loop-space.invariant.marked (omega arith);
  len = c.loop-space.invariant.len;
}
