-- Three parts, each of which may have a fault.
use Rattle.std.proofs.Common.{refl}
use Rattle.std.proofs.lemmas.Result.{err_from_is_err_and}
use Rattle.abc_asm.specs.Below.{method_made, options_read, param_names_read, params_read}
use Rattle.abc_asm.proofs.Beneath.{all_read, first_fails, second_fails, third_fails}
use Rattle.abc_asm.proofs.methods.MethodsHeaded.below.Goals as goal

pub returns-in_err-params-clause-reads : goal.returns-in_err-params-clause-reads
returns-in_err-params-clause-reads c =
    let p = err_from_is_err_and c.from_residual.result c.from_residual.ensures.1 in
    rw (p.1, p.2) (first_fails method_made params_read options_read param_names_read c.args.reader.now c.read_flat.new.reader _ c.in_err-params.ensures.reads)

pub returns-in_err-options-clause-reads : goal.returns-in_err-options-clause-reads
returns-in_err-options-clause-reads c =
    let p = err_from_is_err_and c.from_residual-in_err-options.result c.from_residual-in_err-options.ensures.1 in
    rw (p.1, p.2) (second_fails method_made params_read options_read param_names_read c.args.reader.now c.read_flat.new.reader c.in_ok-params.params c.in_ok-params.ensures.reads c.in_ok-params.ensures.goes c.read_flat-2.new.reader _ c.in_err-options.ensures.reads)

pub returns-in_err-names-clause-reads : goal.returns-in_err-names-clause-reads
returns-in_err-names-clause-reads c =
    let p = err_from_is_err_and c.from_residual-in_err-names.result c.from_residual-in_err-names.ensures.1 in
    rw (p.1, p.2) (third_fails method_made params_read options_read param_names_read c.args.reader.now c.read_flat.new.reader c.in_ok-params.params c.in_ok-params.ensures.reads c.in_ok-params.ensures.goes c.read_flat-2.new.reader c.in_ok-options.options c.in_ok-options.ensures.reads c.in_ok-options.ensures.goes c.read_flat-3.new.reader _ c.in_err-names.ensures.reads)

pub returns-clause-reads : goal.returns-clause-reads
returns-clause-reads c = all_read method_made params_read options_read param_names_read c.args.reader.now c.read_flat.new.reader c.in_ok-params.params c.in_ok-params.ensures.reads c.in_ok-params.ensures.goes c.read_flat-2.new.reader c.in_ok-options.options c.in_ok-options.ensures.reads c.in_ok-options.ensures.goes c.read_flat-3.new.reader c.in_ok-names.names _ c.in_ok-names.ensures.reads refl
