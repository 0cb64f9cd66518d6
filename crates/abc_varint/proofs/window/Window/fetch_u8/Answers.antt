use Rattle.abc_varint.proofs.Held.{is_next}
use Rattle.abc_varint.proofs.window.Window.fetch_u8.Goals as goal

pub returns-clause-value : goal.returns-clause-value
returns-clause-value g c =
    let p = c.in_ok-prepare.ensures in
    is_next c.args.self.now c.prepare.new.self c.next.new.self _ _ p.ok.2 p.ok.3 p.same c.next.result p.ok.0 p.ok.1 (λ lt. p.end (rw (← p.ok.2, ← p.ok.3) lt)) c.next.ensures.next
