use Rattle.std.proofs.Common.{◌∷◌, [], ◌∙◌, is_some, ap}
use Rattle.abc_base.proofs.Writing.{known_told}
use Rattle.abc_objects.proofs.Lined.{both_written}
use Rattle.abc_objects.proofs.lines.write_behind.Goals as goal

pub returns-clause-bytes : goal.returns-clause-bytes
returns-clause-bytes g c = λ some.
    let old = g.K.Sink.written c.args.out.now in
    let first = c.in_ok-write_all.ensures.bytes some in
    let told = ap is_some first ∙ known_told old (32 ∷ []) ∙ some in
    both_written old (g.K.Sink.written c.write_all.new.out) (g.K.Sink.written c.write_all-2.new.out) (32 ∷ []) c.args.text.now c.write_all-2.result first (c.write_all-2.ensures.bytes told)
