use Rattle.std.proofs.Common.{rules}
use Rattle.std.specs.Prelude.{IsTrue}
use Rattle.abc_file.proofs.Ending.{used_up}
use Rattle.abc_file.proofs.rest.read_nothing_more.Goals as goal

pub returns-then-done-clause-end : goal.returns-then-done-clause-end
returns-then-done-clause-end g c =
    let yes : IsTrue c.in_ok-done.done = search rules in
    used_up c.args.w.now c.is_at_end.new.self (g.S.Source.left c.args.source.now) (g.S.Source.left c.is_at_end.new.source) c.in_ok-done.ensures.same (c.in_ok-done.ensures.none yes)
