use Rattle.std.proofs.Common.{ℤ, length, refl, subst}
use Rattle.std.proofs.lemmas.Int.{to_z-of_z}
use Rattle.std.specs.Fmt.{signed_decimal}
use Rattle.std.specs.Int.{w64}
use Rattle.abc_heap_store.specs.Heap.{IsFull}
use Rattle.abc_heap_store.specs.Texts.{IsTextMade}
use Rattle.abc_heap_store.specs.declared.records.Limit.TheVariants.{Text}
use Rattle.abc_ops.proofs.Making.{full_is, made_is}
use Rattle.abc_ops.proofs.made.make_number.Goals as goal

pub returns-in-Ok : goal.returns-in-Ok
returns-in-Ok c =
    let h = c.args.a.now in
    let new = c.text_of_number.new.self in
    made_is h new c.in-Ok.s (signed_decimal c.args.n)
    (subst (λ (m : ℤ). IsTextMade h new c.in-Ok.s (signed_decimal m)) (to_z-of_z w64 c.args.n c.ranges.n) c.in-Ok.ensures.made)

pub returns-in-Err : goal.returns-in-Err
returns-in-Err c =
    let h = c.args.a.now in
    let new = c.text_of_number.new.self in
    full_is h new (signed_decimal c.args.n) (length (signed_decimal c.args.n)) c.in-Err.full refl
    (subst (λ (m : ℤ). IsFull h new (length h.made) (length (signed_decimal m)) h.limits.text Text c.in-Err.full) (to_z-of_z w64 c.args.n c.ranges.n) c.in-Err.ensures.made)
