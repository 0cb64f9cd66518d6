use Rattle.std.proofs.Common.{◌≡◌, false, refl}
use Rattle.std.specs.Prelude.{nat_lt}
use Rattle.std.proofs.lemmas.Bool.{le-ltb}
use Rattle.abc_file_types.specs.declared.reason.Reason.TheVariants as reasons
use Rattle.abc_file_types.specs.Numbers.{index_below, u30}
use Rattle.abc_varint.proofs.Refusing.{refused}
use Rattle.abc_varint.proofs.number.next_index_below.Goals as goal

pub returns-then-x-n-clause-value : goal.returns-then-x-n-clause-value
unfolding index_below
returns-then-x-n-clause-value g c =
    let no : nat_lt c.in_ok-x.x c.args.n ≡ false = le-ltb c.in_ok-x.x c.args.n c.if-x-n.true in
    refused g.S.Source.left g.S.Source.faults u30 (λ x. nat_lt x c.args.n) reasons.Index c.in_ok-x.x c.args.w.now c.next_u30.new.w c.args.source.now c.next_u30.new.source c.place-place.result no c.place-place.ensures.is refl c.in_ok-x.ensures.value.0
