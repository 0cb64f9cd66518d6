-- Three parts, each of which may have a fault.
use Rattle.std.proofs.Common.{refl}
use Rattle.std.proofs.lemmas.Result.{err_from_is_err_and}
use Rattle.abc_asm.specs.Below.{initializer_below, instance_made, interfaces_read, protected_read}
use Rattle.abc_asm.proofs.Beneath.{all_read, first_fails, second_fails, third_fails}
use Rattle.abc_asm.proofs.classes.InstancesHeaded.below.Goals as goal

pub returns-in_err-spaces-clause-reads : goal.returns-in_err-spaces-clause-reads
returns-in_err-spaces-clause-reads c =
    let p = err_from_is_err_and c.from_residual.result c.from_residual.ensures.1 in
    rw (p.1, p.2) (first_fails instance_made protected_read interfaces_read initializer_below c.args.reader.now c.read_flat.new.reader _ c.in_err-spaces.ensures.reads)

pub returns-in_err-interfaces-clause-reads : goal.returns-in_err-interfaces-clause-reads
returns-in_err-interfaces-clause-reads c =
    let p = err_from_is_err_and c.from_residual-in_err-interfaces.result c.from_residual-in_err-interfaces.ensures.1 in
    rw (p.1, p.2) (second_fails instance_made protected_read interfaces_read initializer_below c.args.reader.now c.read_flat.new.reader c.in_ok-spaces.spaces c.in_ok-spaces.ensures.reads c.in_ok-spaces.ensures.goes c.read_flat-2.new.reader _ c.in_err-interfaces.ensures.reads)

pub returns-in_err-initializer-clause-reads : goal.returns-in_err-initializer-clause-reads
returns-in_err-initializer-clause-reads c =
    let p = err_from_is_err_and c.from_residual-in_err-initializer.result c.from_residual-in_err-initializer.ensures.1 in
    rw (p.1, p.2) (third_fails instance_made protected_read interfaces_read initializer_below c.args.reader.now c.read_flat.new.reader c.in_ok-spaces.spaces c.in_ok-spaces.ensures.reads c.in_ok-spaces.ensures.goes c.read_flat-2.new.reader c.in_ok-interfaces.interfaces c.in_ok-interfaces.ensures.reads c.in_ok-interfaces.ensures.goes c.read_initializer.new.reader _ c.in_err-initializer.ensures.reads)

pub returns-clause-reads : goal.returns-clause-reads
returns-clause-reads c = all_read instance_made protected_read interfaces_read initializer_below c.args.reader.now c.read_flat.new.reader c.in_ok-spaces.spaces c.in_ok-spaces.ensures.reads c.in_ok-spaces.ensures.goes c.read_flat-2.new.reader c.in_ok-interfaces.interfaces c.in_ok-interfaces.ensures.reads c.in_ok-interfaces.ensures.goes c.read_initializer.new.reader c.in_ok-initializer.initializer _ c.in_ok-initializer.ensures.reads refl
