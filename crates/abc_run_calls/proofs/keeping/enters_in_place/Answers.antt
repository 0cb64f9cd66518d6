use Rattle.std.proofs.Common.{◌≤◌, ap, refl, sym, subst}
use Rattle.abc_frames.specs.Frame.{Frames}
use Rattle.abc_frames.specs.declared.records.Entry.{Entry}
use Rattle.abc_run_state.specs.Outer.{world}
use Rattle.abc_run_calls.specs.Entering.{place_in_meaning}
use Rattle.abc_run_calls.proofs.Stayed.{body_in_place, fits_in_place, in_place_on}
use Rattle.abc_run_calls.proofs.keeping.enters_in_place.Goals as goal

pub entry_of-entry-requires : goal.entry_of-entry-requires
entry_of-entry-requires g c =
    let s = c.args.s.now in
    body_in_place c.args.linked.now g.out c.args.method c.args.signature.now c.args.this (place_in_meaning c.args.at) c.args.count c.args.taken c.args.wait s.frames (world s g.out) c.requires.1.1.0 c.requires.1.1.1.0 c.requires.1.0 c.requires.1.1.1.1

pub try_enter-requires-clause-locals : goal.try_enter-requires-clause-locals
try_enter-requires-clause-locals g c =
    let s = c.args.s.now in
    subst (λ (x : Entry). c.args.taken ≤ x.size.locals) (sym (c.entry_of-entry.ensures g.out))
    (fits_in_place c.args.linked.now g.out c.args.method c.args.signature.now c.args.this (place_in_meaning c.args.at) c.args.count c.args.taken c.args.wait s.frames (world s g.out) c.requires.1.1.0 c.requires.1.1.1.0 c.requires.1.0 c.requires.1.1.1.1)

pub returns-in-Ok : goal.returns-in-Ok
returns-in-Ok g c =
    let s = c.args.s.now in (
      in_place_on c.args.linked.now g.out c.args.method c.args.signature.now c.args.this (place_in_meaning c.args.at) c.args.count c.args.taken c.args.wait s.frames (world s g.out) c.requires.1.1.0 c.requires.1.1.1.0 c.requires.1.0 c.requires.1.1.1.1
          c.entry_of-entry.result c.try_enter.new.frames tt (c.entry_of-entry.ensures g.out) c.in-Ok.ensures.room c.in-Ok.ensures.ok,
      refl,
    )

pub returns-in-Err : goal.returns-in-Err
returns-in-Err g c = ap (λ (q : Frames). record c.args.s.now { frames = q }) c.in-Err.ensures.err
