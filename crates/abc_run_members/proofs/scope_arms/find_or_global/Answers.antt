use Rattle.std.proofs.Common.{◌∙◌, ℕ, ap, length, subst, sym, arith}
use Rattle.std.proofs.lemmas.Result.{err_from_is_err_and}
use Rattle.abc_frames.specs.Ready.{HasFrameRoom}
use Rattle.abc_frames.specs.Frame.{newest}
use Rattle.abc_run_state.proofs.Keeping.{set_stays}
use Rattle.abc_run_members.proofs.Staying.{known_stays, limit_stays}
use Rattle.abc_run_names.specs.Named.{name_form_at}
use Rattle.abc_run_names.proofs.Forms.{has_parts}
use Rattle.abc_run_state.specs.Outer.{setting_in, world}
use Rattle.abc_run_state.specs.Stops.{why}
use Rattle.abc_run_state.specs.Turns.{went}
use Rattle.abc_meaning.specs.Setting.{Setting}
use Rattle.abc_run_members.specs.Scoped.{pushes_or_global}
use Rattle.abc_run_members.proofs.Turning.{Going, found_open, found_turns, named_halts, named_open}
use Rattle.abc_run_members.proofs.scope_arms.find_or_global.Goals as goal

abbrev going : Setting → Going
going p = (λ found name. pushes_or_global p found)

pub name_of-requires : goal.name_of-requires
name_of-requires g c =
    let p = setting_in c.args.linked.now g.out in
    (c.requires.0.set, (omega arith, (has_parts (name_form_at p c.args.name) 0 (newest c.args.s.now.frames) (omega (arith, c.requires.1.0.operands)), named_open p c.args.name (going p) (newest c.args.s.now.frames) (world c.args.s.now g.out) c.requires.0.free)))

pub find_here-found-requires-clause-set : goal.find_here-found-requires-clause-set
find_here-found-requires-clause-set g c = set_stays c.args.linked.now c.args.s.now c.name_of.new.s c.in_ok-wanted.ensures.stays c.requires.0.set

pub find_here-found-requires-clause-live : goal.find_here-found-requires-clause-live
find_here-found-requires-clause-live g c = subst (λ q. Rattle.std.proofs.Common.◌<◌ 0 (length q.living)) (sym c.in_ok-wanted.ensures.stays.frames) c.requires.1.0.live

pub push_or_global-requires : goal.push_or_global-requires
push_or_global-requires g c = (
  record {
    set = (set_stays c.args.linked.now c.args.s.now c.name_of.new.s c.in_ok-wanted.ensures.stays c.requires.0.set);
    known = (known_stays c.args.linked.now c.args.s.now c.name_of.new.s c.in_ok-wanted.ensures.stays c.requires.0.known);
    free =
        let p = setting_in c.args.linked.now g.out in
        found_open p c.args.s.now.frames c.name_of.new.s.frames c.args.name c.parts_of-parts.result (going p) (world c.args.s.now g.out) (world c.name_of.new.s g.out) c.in_ok-wanted.wanted c.find_here-found.result (c.parts_of-parts.ensures g.out) c.in_ok-wanted.ensures.part c.in_ok-wanted.ensures.stays.frames (c.find_here-found.ensures.is g.out) c.requires.0.free;
  },
  ((subst (HasFrameRoom c.parts_of-parts.result 1) (sym c.in_ok-wanted.ensures.stays.frames) (subst (λ (n : ℕ). HasFrameRoom n 1 c.args.s.now.frames) (sym (c.parts_of-parts.ensures g.out)) c.requires.1.0)), ((ap (λ xs. length xs) c.in_ok-wanted.ensures.stays.started ∙ c.requires.1.1), c.find_here-found.ensures.there)),
)

pub returns : goal.returns
returns g c = record {
  runs =
      let p = setting_in c.args.linked.now g.out in
      found_turns p c.args.s.now.frames c.name_of.new.s.frames c.args.name c.parts_of-parts.result (going p) (world c.args.s.now g.out) (world c.name_of.new.s g.out) c.in_ok-wanted.wanted c.find_here-found.result (c.parts_of-parts.ensures g.out) c.in_ok-wanted.ensures.part c.in_ok-wanted.ensures.stays.frames (c.find_here-found.ensures.is g.out)
      (went c.push_or_global.result (world c.push_or_global.new.s g.out) c.push_or_global.new.s.frames) c.push_or_global.ensures.runs;
  limit = c.push_or_global.ensures.limit ∙ limit_stays c.args.linked.now c.args.s.now c.name_of.new.s c.in_ok-wanted.ensures.stays;
}

pub returns-in_err-wanted : goal.returns-in_err-wanted
returns-in_err-wanted g c = record {
  runs =
      let p = setting_in c.args.linked.now g.out in
      let e = err_from_is_err_and c.from_residual.result c.from_residual.ensures.1 in
      rw (e.1, e.2) (named_halts p c.args.s.now.frames c.name_of.new.s.frames c.args.name (going p) (world c.args.s.now g.out) (world c.name_of.new.s g.out) (why c.in_err-wanted.field-0.0) c.in_err-wanted.ensures.part c.in_err-wanted.ensures.stays.frames);
  limit = limit_stays c.args.linked.now c.args.s.now c.name_of.new.s c.in_err-wanted.ensures.stays;
}
