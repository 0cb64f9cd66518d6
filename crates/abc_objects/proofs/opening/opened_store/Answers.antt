use Rattle.std.proofs.Common.{◌≡◌, ◌∙◌, ◌++◌, ap, refl, arith, length, length-append}
use Rattle.abc_heap_store.specs.Heap.{Heap}
use Rattle.abc_objects.specs.Opening.{property_names}
use Rattle.std.specs.List.{concat}
use Rattle.abc_objects.specs.Fixed.{fixed_bytes}
use Rattle.abc_objects.proofs.Steps.{opened_by}
use Rattle.abc_objects.proofs.opening.opened_store.Goals as goal

pub make_opening-requires-clause-bytes : goal.make_opening-requires-clause-bytes
make_opening-requires-clause-bytes c =
    let bytes : length fixed_bytes ≡ 62 = refl in
    let fixed = ap (λ (h : Heap). length h.fixed) c.in_ok-store.ensures ∙ ap length (c.in_ok-fixed.ensures ∙ ap (λ ns. fixed_bytes ++ concat ns) (c.as_slice.ensures ∙ c.in_ok-names.ensures)) in
    let names = ap (λ ns. length (concat ns)) (c.as_slice-2.ensures ∙ c.in_ok-names.ensures) in
    omega (arith, bytes, fixed, names, length-append fixed_bytes (concat (property_names c.args.formulas)))

pub returns : goal.returns
returns c = opened_by c.args.l.now _ _ c.args.formulas _ c.args.count _ _ c.args.limits c.in_ok-store.ensures (c.in_ok-fixed.ensures ∙ ap (λ ns. fixed_bytes ++ concat ns) (c.as_slice.ensures ∙ c.in_ok-names.ensures)) (cc) (cc) c.requires.count c.make_opening.ensures
