use Rattle.std.proofs.Common.{◌≡◌, ◌^◌, false, refl}
use Rattle.std.specs.Prelude.{nat_lt}
use Rattle.std.proofs.lemmas.Bool.{le-ltb}
use Rattle.abc_file_types.specs.declared.reason.Reason.TheVariants as reasons
use Rattle.abc_file_types.specs.Instructions.{code_length}
use Rattle.abc_file_types.specs.Numbers.{u30}
use Rattle.abc_varint.proofs.Refusing.{refused}
use Rattle.abc_instr.proofs.read.read_length.Goals as goal

pub returns-then-length-ge-LENGTH_END-clause-value : goal.returns-then-length-ge-LENGTH_END-clause-value
unfolding code_length
returns-then-length-ge-LENGTH_END-clause-value g c =
    let no : nat_lt c.in_ok-length.length (2 ^ 23) ≡ false = le-ltb c.in_ok-length.length (2 ^ 23) c.if-length-ge-LENGTH_END.true in
    refused g.S.Source.left g.S.Source.faults u30 (λ n. nat_lt n (2 ^ 23)) reasons.CodeLength c.in_ok-length.length c.args.w.now c.read_u30.new.w c.args.source.now c.read_u30.new.source c.place-place.result no c.place-place.ensures.is refl c.in_ok-length.ensures.value.0
