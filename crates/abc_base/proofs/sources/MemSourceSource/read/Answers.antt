use Rattle.std.proofs.Common.{◌≡◌, ℕ, ◌+◌, ◌++◌, List, arith, length, take, drop, length-drop, sym, ap, ◌∙◌}
use Rattle.std.proofs.lemmas.List.{take-append-drop, drop-drop, drop_all}
use Rattle.abc_base.proofs.sources.MemSourceSource.read.Goals as goal

pub returns-clause-bytes : goal.returns-clause-bytes
returns-clause-bytes c =
    let at = c.self.inside.at in
    let bytes = c.self.inside.bytes.items in
    let count = c.deliver-count.result in
    let into = c.deliver-count.new.into in
    let view : drop at bytes ≡ c.args.self.now.left = ap (λ (v : _). v.left) c.self.view_is in
    let front : take count into ≡ take count (drop at bytes) = c.deliver-count.ensures.front ∙ ap (λ (l : List ℕ). take count (drop at l)) c.as_slice-2.ensures.value in
    let whole : take count (drop at bytes) ++ drop (at + count) bytes ≡ drop at bytes = ap (λ (l : List ℕ). take count (drop at bytes) ++ l) (sym (drop-drop count at bytes)) ∙ take-append-drop count (drop at bytes) in
    (sym view ∙ sym whole ∙ ap (λ (l : List ℕ). l ++ drop (at + count) bytes) (sym front), λ none some. drop_all (at + count) bytes (omega (arith, c.deliver-count.ensures.count, length-drop at c.as_slice-2.result.now, ap length c.as_slice-2.ensures.value, c.self.invariant)))
