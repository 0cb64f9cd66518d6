-- One part after the other, each of which may have a fault.
use Rattle.std.proofs.Common.{refl}
use Rattle.std.proofs.lemmas.Result.{err_from_is_err_and}
use Rattle.abc_text_reader.specs.Parts.{pair_of}
use Rattle.abc_text_reader.proofs.Pairs.{mapped_err, mapped_ok, pair_first, pair_ok, pair_second}
use Rattle.abc_asm.specs.Whole.{abc_of, definitions_read, pools_read}
use Rattle.abc_asm.proofs.assembling.read_file.Goals as goal

pub returns-in_err-pools-clause-reads : goal.returns-in_err-pools-clause-reads
returns-in_err-pools-clause-reads c =
    let p = err_from_is_err_and c.from_residual.result c.from_residual.ensures.1 in
    rw (p.1, p.2) (mapped_err abc_of (pair_of pools_read definitions_read) c.args.reader.now c.read_pools.new.reader _
    (pair_first pools_read definitions_read c.args.reader.now c.args.reader.now c.read_pools.new.reader _ c.in_err-pools.ensures.reads))

pub returns-in_err-definitions-clause-reads : goal.returns-in_err-definitions-clause-reads
returns-in_err-definitions-clause-reads c =
    let p = err_from_is_err_and c.from_residual-in_err-definitions.result c.from_residual-in_err-definitions.ensures.1 in
    rw (p.1, p.2) (mapped_err abc_of (pair_of pools_read definitions_read) c.args.reader.now c.read_definitions.new.reader _
    (pair_second pools_read definitions_read c.args.reader.now c.read_pools.new.reader c.read_definitions.new.reader c.in_ok-pools.pools _ c.in_ok-pools.ensures.reads c.in_ok-pools.ensures.goes
    c.in_err-definitions.ensures.reads))

pub returns-clause-reads : goal.returns-clause-reads
returns-clause-reads c =
    mapped_ok abc_of (pair_of pools_read definitions_read) c.args.reader.now c.read_definitions.new.reader (c.in_ok-pools.pools, c.in_ok-definitions.definitions) _ refl
    (pair_ok pools_read definitions_read c.args.reader.now c.read_pools.new.reader c.read_definitions.new.reader c.in_ok-pools.pools c.in_ok-definitions.definitions c.in_ok-pools.ensures.reads c.in_ok-pools.ensures.goes
    c.in_ok-definitions.ensures.reads)
