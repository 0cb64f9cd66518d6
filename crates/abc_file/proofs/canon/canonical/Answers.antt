use Rattle.abc_file.proofs.Ending.{none_taken, taken_little}
use Rattle.abc_file.proofs.canon.canonical.Goals as goal

pub returns-clause-taken : goal.returns-clause-taken
returns-clause-taken g c =
    let e = c.in_ok-w.ensures in
    taken_little c.in_ok-w.w c.pass_to_end-done.new.w (g.S.Source.left c.args.source.now) (g.S.Source.left c.pass_to_end-done.new.source) (record { place = e.place; taken = e.taken; kept = e.kept; end = e.end }) c.stays_small.ensures.taken c.pass_to_end-done.ensures.input

pub returns-in_err-w-clause-taken : goal.returns-in_err-w-clause-taken
returns-in_err-w-clause-taken g c = none_taken (g.S.Source.left c.args.source.now)

pub returns-in_err-done-clause-taken : goal.returns-in_err-done-clause-taken
returns-in_err-done-clause-taken g c =
    let e = c.in_ok-w.ensures in
    taken_little c.in_ok-w.w c.pass_to_end-done.new.w (g.S.Source.left c.args.source.now) (g.S.Source.left c.pass_to_end-done.new.source) (record { place = e.place; taken = e.taken; kept = e.kept; end = e.end }) c.stays_small.ensures.taken c.pass_to_end-done.ensures.input
