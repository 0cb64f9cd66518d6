-- The line is broken.
use Rattle.std.proofs.lemmas.Result.{err_from_is_err_and}
use Rattle.abc_text_reader.proofs.Lone.{broken_reads}
use Rattle.abc_text_reader.proofs.Pairs.{headed}
use Rattle.abc_text_reader.proofs.tables.read_item.Goals as goal

pub returns-in_err-taken-clause-reads : goal.returns-in_err-taken-clause-reads
returns-in_err-taken-clause-reads g c =
    let p = err_from_is_err_and c.from_residual.result c.from_residual.ensures.1 in
    rw (p.1, p.2) (broken_reads _ c.args.reader.now c.take.new.self _ (headed g.H.Headed.value g.H.Headed.lower g.H.Headed.whole) c.in_err-taken.ensures.broken)
