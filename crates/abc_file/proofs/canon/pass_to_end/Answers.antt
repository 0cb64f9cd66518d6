use Rattle.std.proofs.lemmas.Result.{err_from_is_err_and}
use Rattle.abc_file_types.specs.Files.{file_bytes}
use Rattle.abc_varint.specs.Reads.{known_input}
use Rattle.abc_file.proofs.Ending.{used_up_first}
use Rattle.abc_file.proofs.Passing.{all_passed, all_refused_too, more_follows}
use Rattle.abc_file.proofs.canon.pass_to_end.Goals as goal

pub returns-clause-bytes : goal.returns-clause-bytes
returns-clause-bytes g c =
    all_passed file_bytes c.args.w.now c.pass_file.new.w c.read_nothing_more.new.w (g.S.Source.left c.args.source.now) (g.S.Source.left c.pass_file.new.source) (g.S.Source.left c.read_nothing_more.new.source) c.args.out.now.items c.pass_file.new.out.items c.requires.window
    c.in_ok-pass_file.ensures.0 c.requires.bytes c.in_ok-read_nothing_more.ensures.ended

pub returns-in_err-pass_file-clause-fault : goal.returns-in_err-pass_file-clause-fault
returns-in_err-pass_file-clause-fault g c =
    let p = err_from_is_err_and c.from_residual.result c.from_residual.ensures.1 in
    rw (p.1, p.2) (all_refused_too c.args.w.now c.pass_file.new.w (g.S.Source.left c.args.source.now) (g.S.Source.left c.pass_file.new.source) c.in_err-pass_file.field-0.0 c.requires.window c.in_err-pass_file.ensures.0)

pub returns-in_err-read_nothing_more-clause-fault : goal.returns-in_err-read_nothing_more-clause-fault
returns-in_err-read_nothing_more-clause-fault g c =
    let p = err_from_is_err_and c.from_residual-in_err-read_nothing_more.result c.from_residual-in_err-read_nothing_more.ensures.1 in
    rw (p.1, p.2) (more_follows file_bytes c.args.w.now c.pass_file.new.w c.read_nothing_more.new.w (g.S.Source.left c.args.source.now) (g.S.Source.left c.pass_file.new.source) (g.S.Source.left c.read_nothing_more.new.source) c.args.out.now.items c.pass_file.new.out.items c.requires.window
    c.in_ok-pass_file.ensures.0 c.in_err-read_nothing_more.field-0.0 c.in_err-read_nothing_more.ensures.trailing)

pub returns-clause-end : goal.returns-clause-end
returns-clause-end g c =
    used_up_first c.args.w.now c.pass_file.new.w (g.S.Source.left c.args.source.now) (g.S.Source.left c.pass_file.new.source) (g.S.Source.left c.read_nothing_more.new.source) (λ input is. (c.in_ok-pass_file.ensures.0.4 input is).0)
    c.in_ok-read_nothing_more.ensures.end

pub returns-clause-input : goal.returns-clause-input
returns-clause-input g c = (c.in_ok-pass_file.ensures.0.4 (known_input c.read_nothing_more.new.w (g.S.Source.left c.read_nothing_more.new.source)) c.in_ok-read_nothing_more.ensures.input).0

pub returns-in_err-pass_file-clause-input : goal.returns-in_err-pass_file-clause-input
returns-in_err-pass_file-clause-input g c = (c.in_err-pass_file.ensures.0 c.requires.window.kept).0

pub returns-in_err-read_nothing_more-clause-input : goal.returns-in_err-read_nothing_more-clause-input
returns-in_err-read_nothing_more-clause-input g c = (c.in_ok-pass_file.ensures.0.4 (known_input c.read_nothing_more.new.w (g.S.Source.left c.read_nothing_more.new.source)) c.in_err-read_nothing_more.ensures.input).0
