use Rattle.std.proofs.Common.{◌≡◌, rules, arith}
use Rattle.std.specs.Prelude.{codes}
use Rattle.std.proofs.lemmas.Slice.Eq.{text_from_reads}
use Rattle.abc_cli_answers.proofs.Filling.{run_objects, run_frames}
use Rattle.abc_cli_answers.proofs.given.GivenRunGiven.give.Goals as goal

pub returns-in-objects-clause-given : goal.returns-in-objects-clause-given
returns-in-objects-clause-given c =
    let name : c.args.name.now ≡ codes "objects" = text_from_reads c.args.name.now (codes "objects") (omega arith) (search rules) in
    run_objects c.args.self.now c.args.name.now c.args.number _ _ name c.fill-in-objects.ensures.taken c.fill-in-objects.ensures.after

pub returns-in-frames-clause-given : goal.returns-in-frames-clause-given
returns-in-frames-clause-given c =
    let name : c.args.name.now ≡ codes "frames" = text_from_reads c.args.name.now (codes "frames") (omega arith) (search rules) in
    run_frames c.args.self.now c.args.name.now c.args.number _ _ name c.fill-in-frames.ensures.taken c.fill-in-frames.ensures.after
