use Rattle.std.proofs.Common.{◌≡◌, ap, ◌∙◌, sym}
use Rattle.std.specs.Prelude.{Some, slice_get}
use Rattle.abc_run_dispatch.proofs.Led.{run_as, runs_here}
use Rattle.abc_run_dispatch.specs.Ready.{CanStep}
use Rattle.abc_link_names.specs.Linked.{LinkedFile}
use Rattle.abc_frames.specs.Frame.{newest}
use Rattle.abc_meaning.specs.At.{Act}
use Rattle.abc_run_state.specs.Outer.{Outer, setting_in, world}
use Rattle.abc_run_state.specs.Turns.{turn_of}
use Rattle.abc_meaning.specs.World.{Outcome}
use Rattle.abc_run_state.specs.declared.state.State.{State}
use Rattle.abc_file_types.specs.declared.code.Instr.{Instr}
use Rattle.abc_run_dispatch.proofs.holding.run_held.Goals as goal

same_instr : (l : LinkedFile) (out : Outer) (s : State) (i : Instr) (can : CanStep l out s) → slice_get can.routine.code (newest s.frames).place ≡ Some i → can.instr ≡ i
same_instr l out s i can e = let two : Some can.instr ≡ Some i = sym can.at ∙ e in cc

pub hold_newest-requires : goal.hold_newest-requires
hold_newest-requires g c = record { live = c.requires.0.run.live; held = c.requires.1.1.0 }

pub instr_here-instr-requires : goal.instr_here-instr-requires
instr_here-instr-requires g c = (c.requires.0, (c.hold_newest.ensures.held, c.hold_newest.ensures.method))

pub run_instr-requires : goal.run_instr-requires
run_instr-requires g c =
    let can = c.requires.0 in
    let is = same_instr c.args.linked.now g.out c.args.s.now c.instr_here-instr.result.now can (c.instr_here-instr.ensures can.routine can.body) in
    record {
      run = run_as c.args.linked.now g.out c.args.s.now can.instr c.instr_here-instr.result.now is can.run;
      equipped = c.requires.1.0;
      none = c.requires.1.1.1;
    }

pub returns-clause-dispatches : goal.returns-clause-dispatches
returns-clause-dispatches g c =
    let can = c.requires.0 in
    let p = setting_in c.args.linked.now g.out in
    let q = c.args.s.now.frames in
    let does = c.run_instr.ensures in
    record {
      leaves = ap (λ (o : Outcome Act). turn_of p q o) (runs_here p (world c.args.s.now g.out) (newest q) can.routine c.instr_here-instr.result.now can.body (c.instr_here-instr.ensures can.routine can.body)) ∙ does.leaves;
      finishes = does.finishes;
      goes = does.goes;
      limit = does.limit;
    }
