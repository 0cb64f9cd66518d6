use Rattle.std.proofs.Common.{◌≡◌, false, refl}
use Rattle.std.specs.Prelude.{◌&&◌, nat_le}
use Rattle.std.proofs.lemmas.Bool.{le-leb, lt-leb}
use Rattle.abc_file_types.specs.declared.reason.Reason.TheVariants as reasons
use Rattle.abc_file_types.specs.Numbers.{entry_index, u30}
use Rattle.abc_varint.proofs.Refusing.{refused}
use Rattle.abc_varint.proofs.number.next_entry_index.Goals.{then-x-lt1-via-then-x-lt1, then-x-lt1-via-else-x-lt1+then-x-n}
use Rattle.abc_varint.proofs.number.next_entry_index.Goals as goal

pub returns-then-x-lt1-clause-value : goal.returns-then-x-lt1-clause-value
unfolding entry_index
returns-then-x-lt1-clause-value g c =
    let x = c.in_ok-x.x in
    let n = c.args.n in
    let no : (nat_le 1 x && nat_le x n) ≡ false = elim c.then-x-lt1.branch [
      | then-x-lt1-via-then-x-lt1 w ↦ rw (lt-leb 1 x w.if-x-lt1.true) refl
      | then-x-lt1-via-else-x-lt1+then-x-n w ↦ rw (le-leb 1 x w.if-x-lt1.false, lt-leb x n w.if-x-n.true) refl
    ] in
    refused g.S.Source.left g.S.Source.faults u30 (λ x. nat_le 1 x && nat_le x c.args.n) reasons.Index c.in_ok-x.x c.args.w.now c.next_u30.new.w c.args.source.now c.next_u30.new.source c.place-place.result no c.place-place.ensures.is refl c.in_ok-x.ensures.value.0
