use Rattle.std.proofs.Common.{◌-◌, ℕ, List, [], length, get_or, take, drop, sym, ap, ◌∙◌, arith}
use Rattle.abc_heap_store.proofs.Pieces.{piece_at, piece_past, start_in}
use Rattle.abc_heap_store.proofs.strings.Strings.find.Goals as goal

pub returns-then-i-len : goal.returns-then-i-len
returns-then-i-len c = sym (piece_past 0 c.self.inside.ends.items c.self.inside.bytes c.args.i (omega arith)) ∙ ap (λ (ps : List (List ℕ)). get_or ps c.args.i []) c.self.view_is

pub between-requires-clause-rises : goal.between-requires-clause-rises
between-requires-clause-rises c =
    let r = start_in c.self.inside.ends.items (length c.self.inside.bytes) c.args.i c.start_of-start.result c.self.invariant (omega arith) c.start_of-start.ensures.first c.start_of-start.ensures.other in
    omega (arith, r, c.end_at-end.ensures)

pub between-requires-clause-within : goal.between-requires-clause-within
between-requires-clause-within c =
    let r = start_in c.self.inside.ends.items (length c.self.inside.bytes) c.args.i c.start_of-start.result c.self.invariant (omega arith) c.start_of-start.ensures.first c.start_of-start.ensures.other in
    omega (arith, r, c.end_at-end.ensures, ap length c.as_slice.ensures)

pub returns : goal.returns
returns c =
    let start = c.start_of-start.result in
    c.between.ensures
    ∙ (ap (λ e. take (e - start) (drop start c.as_slice.result.now)) c.end_at-end.ensures
    ∙ (ap (λ bs. take (get_or c.self.inside.ends.items c.args.i 0 - start) (drop start bs)) c.as_slice.ensures
    ∙ (sym (piece_at 0 c.self.inside.ends.items c.self.inside.bytes c.args.i start (omega arith) c.start_of-start.ensures.first c.start_of-start.ensures.other) ∙ ap (λ (ps : List (List ℕ)). get_or ps c.args.i []) c.self.view_is)))
