use Rattle.std.proofs.Common.{◌≡◌, Bool, true, false, None, Some, refl, sym, ◌∙◌}
use Rattle.std.specs.Prelude.{not, unwrap_or, slice_get}
use Rattle.std.specs.declared.option.Option.{Option}
use Rattle.abc_file_types.specs.declared.reason.Reason.TheVariants as reasons
use Rattle.abc_file_types.specs.Numbers.{index_below}
use Rattle.abc_varint.proofs.Refusing.{refused}
use Rattle.abc_bodies.specs.Reading.{free_method, is_flag_down}
use Rattle.abc_bodies.proofs.body.read_method.Goals as goal

down : (o : Option Bool) → not (unwrap_or o true) ≡ true → o ≡ Some false
down None e = absurd cc
down (Some true) e = absurd cc
down (Some false) e = refl

pub returns-then-not-is_down-clause-value : goal.returns-then-not-is_down-clause-value
unfolding free_method
returns-then-not-is_down-clause-value g c =
    let flags = c.args.flags.now in
    let no : is_flag_down flags c.in_ok-method.method ≡ false = sym c.is_down.ensures ∙ c.if-not-is_down.true in
    refused g.S.Source.left g.S.Source.faults (index_below c.args.sizes.now.methods) (is_flag_down flags) reasons.SecondBody c.in_ok-method.method c.args.w.now c.read_index_below.new.w c.args.source.now c.read_index_below.new.source c.place-place.result no c.place-place.ensures.is refl c.in_ok-method.ensures.value

pub returns-clause-free : goal.returns-clause-free
returns-clause-free g c = down (slice_get c.args.flags.now c.in_ok-method.method) (sym c.is_down.ensures ∙ c.if-not-is_down.false)
