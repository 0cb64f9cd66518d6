-- Two strings more, and all.
use Rattle.std.proofs.Common.{◌+◌, ◌*◌, ◌++◌, List, ℕ, take, get_or, sym, ap, ◌∙◌, append_assoc, arith}
use Rattle.std.specs.List.{flat_map}
use Rattle.abc_text_lines.specs.Answers.{pairs}
use Rattle.abc_disasm.specs.Texts.{entry_text}
use Rattle.abc_disasm.proofs.Pairs.{pairs_all, pairs_more}
use Rattle.abc_disasm.proofs.methods.put_entries.Goals as goal

pub loop-i-preserved : goal.loop-i-preserved
loop-i-preserved c =
    let f = entry_text c.args.abc.now in
    let xs = c.args.items.now in
    let i = c.loop-i.i in
    let more = pairs_more f xs i (omega arith) in
    c.in_ok-put_entry.ensures
    ∙ ap (λ (l : List ℕ). l ++ f (get_or xs (2 * i) 0, get_or xs (2 * i + 1) 0)) c.loop-i.invariant
    ∙ append_assoc c.args.out.now.items (flat_map f (take i (pairs xs))) (f (get_or xs (2 * i) 0, get_or xs (2 * i + 1) 0))
    ∙ ap (λ (l : List ℕ). c.args.out.now.items ++ l) (sym more)

pub returns : goal.returns
returns c =
    let f = entry_text c.args.abc.now in
    let xs = c.args.items.now in
    c.loop-i.invariant ∙ ap (λ (l : List (ℕ × ℕ)). c.args.out.now.items ++ flat_map f l) (pairs_all xs c.loop-i.i (omega arith))
