use Rattle.std.proofs.lemmas.Result.{err_from_is_err_and}
use Rattle.abc_text_lines.specs.Answers.{flat_pairs}
use Rattle.abc_text_reader.proofs.Pairs.{mapped_err, mapped_ok}
use Rattle.abc_asm.specs.Below.{entries_read}
use Rattle.abc_asm.proofs.methods.MetadataLinesHeaded.below.Goals as goal

pub returns-in_err-entries-clause-reads : goal.returns-in_err-entries-clause-reads
returns-in_err-entries-clause-reads c =
    let p = err_from_is_err_and c.from_residual.result c.from_residual.ensures.1 in
    rw (p.1, p.2) (mapped_err flat_pairs entries_read c.args.reader.now c.read_flat.new.reader _ c.in_err-entries.ensures.reads)

pub returns-clause-reads : goal.returns-clause-reads
returns-clause-reads c = mapped_ok flat_pairs entries_read c.args.reader.now c.read_flat.new.reader c.in_ok-entries.entries c.in_ok-items.items c.in_ok-items.ensures c.in_ok-entries.ensures.reads
