use Rattle.std.proofs.Common.{◌≡◌, ◌∙◌, ◌-◌, ℕ, Some, None, length, get_or, set, ap, arith, length-set}
use Rattle.std.proofs.lemmas.List.{length-replicate}
use Rattle.abc_link_known.specs.Spots.{spot_of_class}
use Rattle.abc_link_known.proofs.Firsts.{all_firsts, next_firsts, no_firsts}
use Rattle.abc_link_known.proofs.finder.Finder.write_firsts.Goals as goal

pub loop-i-init : goal.loop-i-init
loop-i-init c = record {
  firsts = no_firsts c.args.self.now.names.abc.now c.args.self.now.names.tables.now.numbers c.wipe.new.self (length c.args.slate.now) c.args.classes.now _ c.in_ok-wipe.ensures (omega arith);
  len = ap length c.in_ok-wipe.ensures ∙ length-replicate (length c.args.slate.now) None;
}

pub loop-i-preserved : goal.loop-i-preserved
loop-i-preserved c =
    let v = c.args.self.now.names.abc.now in
    let numbers = c.args.self.now.names.tables.now.numbers in
    let i = c.loop-i.i - 1 in
    let spot = spot_of_class v numbers (get_or c.args.classes.now i 0) in
    let is : c.write.new.self ≡ set c.loop-i.slate spot (Some i) = c.write.ensures ∙ ap (λ (q : ℕ). set c.loop-i.slate q (Some i)) c.spot_of_class.ensures in
    record {
      firsts = next_firsts v numbers c.loop-i.slate c.write.new.self c.args.classes.now c.loop-i.i i c.loop-i.invariant.firsts (omega arith) (omega arith) is;
      len = ap length is ∙ length-set c.loop-i.slate spot (Some i) ∙ c.loop-i.invariant.len;
    }

pub returns : goal.returns
returns c = record {
  firsts = all_firsts c.args.self.now.names.abc.now c.args.self.now.names.tables.now.numbers c.loop-i.slate c.args.classes.now c.loop-i.i c.loop-i.invariant.firsts (omega arith);
  len = c.loop-i.invariant.len;
}
