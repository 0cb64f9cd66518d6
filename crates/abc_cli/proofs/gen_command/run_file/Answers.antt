use Rattle.abc_cli_answers.specs.End.{stream}
use Rattle.abc_cli_answers.proofs.Ending.{not_done}
use Rattle.abc_session.proofs.Pieces.{nothing}
use Rattle.abc_cli.proofs.Generating.{file_runs, file_unverified, fits_again, own_places, own_verified}
use Rattle.abc_cli.proofs.gen_command.run_file.Goals as goal

pub verified_file-requires-clause-fits : goal.verified_file-requires-clause-fits
verified_file-requires-clause-fits g c = fits_again c.args.file c.args.places.now c.requires.read

pub run_verified-requires-clause-verified : goal.run_verified-requires-clause-verified
run_verified-requires-clause-verified g c = own_verified c.args.file c.in-Ok.verified c.in-Ok.ensures.ok

pub run_verified-requires-clause-places : goal.run_verified-requires-clause-places
run_verified-requires-clause-places g c = own_places c.args.file c.in-Ok.verified c.args.places.now c.in-Ok.ensures.ok c.requires.places

pub returns-in-Ok-clause-end : goal.returns-in-Ok-clause-end
returns-in-Ok-clause-end g c =
    file_runs (g.H.Host.formulas c.args.host.now) c.args.file c.args.places.now c.requires.read c.in-Ok.verified (stream g.K.Sink.written g.K.Sink.faults c.args.out.now c.run_verified.new.out)
    (stream g.E.Sink.written g.E.Sink.faults c.args.err.now c.run_verified.new.err) c.run_verified.result c.in-Ok.ensures.ok c.run_verified.ensures.end

pub returns-in-Err-clause-end : goal.returns-in-Err-clause-end
returns-in-Err-clause-end g c =
    file_unverified (g.H.Host.formulas c.args.host.now) c.args.file c.args.places.now c.requires.read c.in-Err.e c.from.result (stream g.K.Sink.written g.K.Sink.faults c.args.out.now c.args.out.now)
    (stream g.E.Sink.written g.E.Sink.faults c.args.err.now c.give_stop.new.err) c.give_stop.result c.in-Err.ensures.refused c.from.ensures (nothing (g.K.Sink.written c.args.out.now)) c.give_stop.ensures

pub returns-in-Err-clause-quiet : goal.returns-in-Err-clause-quiet
returns-in-Err-clause-quiet g c = λ d. absurd (not_done (stream g.E.Sink.written g.E.Sink.faults c.args.err.now c.give_stop.new.err) c.from.result c.give_stop.result c.give_stop.ensures d)
