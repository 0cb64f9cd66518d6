use Rattle.std.proofs.Common.{◌≡◌, ◌∙◌, ◌<◌, ◌++◌, List, ℕ, length, ap, sym, false, rules, arith}
use Rattle.std.proofs.lemmas.Grind.{common_steps}
use Rattle.std.proofs.lemmas.List.{take_more}
use Rattle.abc_log.specs.Followed.{noted_name}
use Rattle.abc_log.proofs.Showing.{line_next}
use Rattle.abc_log.proofs.out_line.OutLineSink.write.Goals as goal

pub invariant_of-self-2 : goal.invariant_of-self-2
invariant_of-self-2 g c =
    let old = c.args.self.now in
    let well : old.shown.failed ≡ false = search rules in
    let some : 0 < length c.args.piece.now = omega (arith, c.if-piece-eq0.false) in
    let longer = c.then-self.ensures.1 ∙ ap (λ (l : List ℕ). old.history.bytes ++ l) (take_more c.args.piece.now 0 0 some) in
    record {
      named = c.show.ensures.same ∙ old.named ∙ ap noted_name (sym c.then-self.ensures.0);
      quiet = λ e. old.quiet well;
      follows = line_next g.L.Log.written g.L.Log.faults old.history.start old.history.bytes _ _ _ _ _ _ c.then-self.ensures.0 longer (grind (arith, common_steps)) well old.follows c.show.ensures.shows;
    }
