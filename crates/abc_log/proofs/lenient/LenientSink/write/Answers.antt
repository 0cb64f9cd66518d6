use Rattle.std.proofs.Common.{◌∙◌, ◌++◌, List, ℕ, ap, sym, take, ◌≡◌, rules, arith}
use Rattle.std.proofs.lemmas.Grind.{common_steps}
use Rattle.abc_log.proofs.Following.{follows_on}
use Rattle.abc_log.specs.Followed.{noted_name}
use Rattle.abc_log.specs.declared.compare.Verdict.TheVariants.{Same}
use Rattle.abc_log.proofs.lenient.LenientSink.write.Goals as goal

pub invariant_of-self-2 : goal.invariant_of-self-2
invariant_of-self-2 g c =
    let old = c.args.self.now in
    let same : old.compare.verdict ≡ Same = search rules in
    let e = c.compare_front-count.ensures in
    record {
      named = e.same ∙ old.named ∙ ap noted_name (sym c.then-self.ensures.0);
      quiet = λ _. e.faults ∙ old.quiet same;
      follows = follows_on old.history.start old.history.bytes _ _ (take c.compare_front-count.result c.args.piece.now) _ _ _ _ _ _ _ _ c.then-self.ensures.0 (c.then-self.ensures.1 ∙ grind (arith, common_steps)) same old.follows e.follows;
    }
