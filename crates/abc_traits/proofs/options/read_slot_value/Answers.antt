use Rattle.std.proofs.Common.{◌≡◌, false, refl, sym, ◌∙◌, arith}
use Rattle.abc_file_types.specs.Methods.{has_value}
use Rattle.abc_file_types.specs.Traits.{slot_value}
use Rattle.abc_varint.specs.Reads.{known_input}
use Rattle.abc_varint.proofs.Inputs.{known_is}
use Rattle.abc_traits.proofs.options.read_slot_value.Goals as goal

pub returns-then-not-has_value : goal.returns-then-not-has_value
unfolding slot_value
returns-then-not-has_value g c =
    let v = c.in_ok-value.ensures.value.0 in
    let k = c.in_ok-kind.ensures in
    let w = c.read_value_kind_if.new.w in
    let s = g.S.Source.left c.read_value_kind_if.new.source in
    let no : has_value c.args.sizes.now c.in_ok-value.value c.in_ok-kind.kind ≡ false = sym c.has_value.ensures ∙ c.if-not-has_value.true in (
      (λ fresh. let b = k.0.4 (known_input w s) (known_is w s) in let a = v.0.4 (known_input w s) b.0 in (a.0, rw (a.1, b.1, no, c.place-place.ensures.is) refl)),
      (λ e h. absurd (let a = v.0.0 in cc)),
      omega (arith, v.2, k.2),
      (λ a h. absurd cc),
      (k.0.1, k.0.3 ∙ v.0.3),
    )
