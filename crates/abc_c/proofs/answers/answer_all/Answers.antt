use Rattle.std.proofs.Common.{◌≡◌, ◌<◌, length, refl, rules, arith}
use Rattle.std.proofs.lemmas.List.{length-set}
use Rattle.abc_c.proofs.Answering.{answered_more}
use Rattle.abc_c.specs.Answered as made
use Rattle.abc_c.proofs.answers.answer_all.Goals as goal

pub loop-i-init : goal.loop-i-init
loop-i-init c = record { answered = made.nothing c.args.kept.now.session c.args.out.now.taken; room = refl }

pub loop-i-preserved : goal.loop-i-preserved
loop-i-preserved c =
    let room = c.loop-i.invariant.room in
    record {
      answered = answered_more c.args.names.now c.args.kept.now.session c.loop-i.kept.session c.answer.new.self.session c.args.calls.now c.loop-i.answers c.loop-i.i _ c.answer.result c.args.out.now.taken c.loop-i.out.taken c.answer.new.out.taken
          (omega arith) (omega (arith, room)) (first_of (search rules, grind (arith, rules))) c.loop-i.invariant.answered c.answer.ensures;
      room = first_of (search rules, search (rules, length-set));
    }
