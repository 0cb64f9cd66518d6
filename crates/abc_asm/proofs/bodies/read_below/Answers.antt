-- Three parts, each of which may have a fault.
use Rattle.std.proofs.Common.{refl}
use Rattle.std.proofs.lemmas.Result.{err_from_is_err_and}
use Rattle.abc_asm.specs.Below.{body_made, handlers_read, traits_below}
use Rattle.abc_text_reader.specs.Coded.{code_read}
use Rattle.abc_asm.proofs.Beneath.{all_read, first_fails, second_fails, third_fails}
use Rattle.abc_asm.proofs.bodies.read_below.Goals as goal

pub returns-in_err-code-clause-reads : goal.returns-in_err-code-clause-reads
returns-in_err-code-clause-reads c =
    let p = err_from_is_err_and c.from_residual.result c.from_residual.ensures.1 in
    rw (p.1, p.2) (first_fails body_made code_read handlers_read traits_below c.args.reader.now c.read_code.new.reader _ c.in_err-code.ensures.reads)

pub returns-in_err-handlers-clause-reads : goal.returns-in_err-handlers-clause-reads
returns-in_err-handlers-clause-reads c =
    let p = err_from_is_err_and c.from_residual-in_err-handlers.result c.from_residual-in_err-handlers.ensures.1 in
    rw (p.1, p.2) (second_fails body_made code_read handlers_read traits_below c.args.reader.now c.read_code.new.reader c.in_ok-code.code c.in_ok-code.ensures.reads c.in_ok-code.ensures.goes c.read_flat.new.reader _ c.in_err-handlers.ensures.reads)

pub returns-in_err-traits-clause-reads : goal.returns-in_err-traits-clause-reads
returns-in_err-traits-clause-reads c =
    let p = err_from_is_err_and c.from_residual-in_err-traits.result c.from_residual-in_err-traits.ensures.1 in
    rw (p.1, p.2) (third_fails body_made code_read handlers_read traits_below c.args.reader.now c.read_code.new.reader c.in_ok-code.code c.in_ok-code.ensures.reads c.in_ok-code.ensures.goes c.read_flat.new.reader c.in_ok-handlers.handlers c.in_ok-handlers.ensures.reads c.in_ok-handlers.ensures.goes c.read_all.new.reader _ c.in_err-traits.ensures.reads)

pub returns-clause-reads : goal.returns-clause-reads
returns-clause-reads c = all_read body_made code_read handlers_read traits_below c.args.reader.now c.read_code.new.reader c.in_ok-code.code c.in_ok-code.ensures.reads c.in_ok-code.ensures.goes c.read_flat.new.reader c.in_ok-handlers.handlers c.in_ok-handlers.ensures.reads c.in_ok-handlers.ensures.goes c.read_all.new.reader c.in_ok-traits.traits _ c.in_ok-traits.ensures.reads refl
