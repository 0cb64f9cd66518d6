use Rattle.std.proofs.Common.{rules, ◌∙◌, ◌+◌, ap, subst, sym}
use Rattle.std.specs.declared.option.Option.{Option}
use Rattle.std.proofs.lemmas.Result.{err_from_is_err_and}
use Rattle.abc_heap_values.specs.declared.values.ObjId.{ObjId}
use Rattle.abc_heap_values.specs.declared.values.Value.{Value}
use Rattle.abc_link_names.specs.Bases.{base_named}
use Rattle.abc_link_names.specs.declared.named.Named.{Named}
use Rattle.abc_objects.specs.Values.{Exists}
use Rattle.abc_frames.specs.Frame.{newest}
use Rattle.abc_meaning.specs.Supers.{on_receiver}
use Rattle.abc_run_members.proofs.Settled.{came_halts, came_open, came_same}
use Rattle.abc_run_state.specs.Operands.{operand_at}
use Rattle.abc_run_state.specs.Outer.{setting_in, world}
use Rattle.abc_run_state.specs.Settling.{settles_how}
use Rattle.abc_run_state.specs.Stops.{IsOpen, why}
use Rattle.abc_run_state.specs.Turns.{went}
use Rattle.abc_run_state.specs.declared.state.How.TheVariants.{Drop}
use Rattle.abc_run_state.proofs.Turning.{open_first}
use Rattle.abc_run_members.specs.Based.{named_of}
use Rattle.abc_run_members.specs.Supers.{base_run}
use Rattle.abc_run_members.proofs.SupersAbove.{receives_object, receives_open, receives_stopped}
use Rattle.abc_run_members.proofs.makers.construct_super.Goals as goal

pub receiver-requires : goal.receiver-requires
receiver-requires g c =
    let p = setting_in c.args.linked.now g.out in
    let f = newest c.args.s.now.frames in
    let w = world c.args.s.now g.out in
    let base = base_named p.linked.file c.args.class in
    let run = λ (o : ObjId). base_run p o c.args.count f base in
    let free = subst (λ (v : Value). IsOpen (Rattle.abc_run_calls.specs.Calls.settled_by (Drop (c.args.count + 1)) f (on_receiver v run) w)) (sym c.operand-v.ensures.is) c.requires.0.free in
    receives_open c.operand-v.result run w (open_first (on_receiver c.operand-v.result run w) (settles_how (Drop (c.args.count + 1)) f) free)

pub construct_base-requires : goal.construct_base-requires
construct_base-requires g c = (
  record {
    set = c.requires.0.set;
    known = c.requires.0.known;
    free =
        let p = setting_in c.args.linked.now g.out in
        let f = newest c.args.s.now.frames in
        let w = world c.args.s.now g.out in
        let base = base_named p.linked.file c.args.class in
        let run = λ (o : ObjId). base_run p o c.args.count f base in
        let is = receives_object (operand_at c.args.count f) c.in_ok-o.o run w (sym c.operand-v.ensures.is ∙ c.in_ok-o.ensures.object) ∙ ap (λ (b : Option Named). base_run p c.in_ok-o.o c.args.count f b w) c.base_of-base.ensures.is in
        came_open (settles_how (Drop (c.args.count + 1)) f) (on_receiver (operand_at c.args.count f) run) (base_run p c.in_ok-o.o c.args.count f (named_of c.base_of-base.result)) w is c.requires.0.free;
  },
  (
    c.requires.1.0,
    (
      c.requires.1.1.0,
      (
        (let l = c.args.linked.now in
            subst (Exists l c.args.s.now.arena) c.in_ok-o.ensures.object (c.operand-v.ensures.there l c.args.s.now.arena c.requires.0.set.frame.stack)),
        c.base_of-base.ensures.there,
      ),
    ),
  ),
)

pub returns : goal.returns
returns g c = record {
  runs =
      let p = setting_in c.args.linked.now g.out in
      let q = c.args.s.now.frames in
      let f = newest q in
      let w = world c.args.s.now g.out in
      let base = base_named p.linked.file c.args.class in
      let run = λ (o : ObjId). base_run p o c.args.count f base in
      let is = receives_object (operand_at c.args.count f) c.in_ok-o.o run w (sym c.operand-v.ensures.is ∙ c.in_ok-o.ensures.object) ∙ ap (λ (b : Option Named). base_run p c.in_ok-o.o c.args.count f b w) c.base_of-base.ensures.is in
      came_same p q (settles_how (Drop (c.args.count + 1)) f) (on_receiver (operand_at c.args.count f) run) (base_run p c.in_ok-o.o c.args.count f (named_of c.base_of-base.result)) w (went c.construct_base.result (world c.construct_base.new.s g.out) c.construct_base.new.s.frames) is c.construct_base.ensures.runs;
  limit = search rules;
}

pub returns-in_err-o : goal.returns-in_err-o
returns-in_err-o g c = record {
  runs =
      let p = setting_in c.args.linked.now g.out in
      let q = c.args.s.now.frames in
      let f = newest q in
      let w = world c.args.s.now g.out in
      let base = base_named p.linked.file c.args.class in
      let run = λ (o : ObjId). base_run p o c.args.count f base in
      let s = why c.in_err-o.field-0.0 in
      let e = err_from_is_err_and c.from_residual.result c.from_residual.ensures.1 in
      rw (e.1, e.2) (came_halts p q (settles_how (Drop (c.args.count + 1)) f) (on_receiver (operand_at c.args.count f) run) w w s
      (ap (λ (v : Value). on_receiver v run w) (sym c.operand-v.ensures.is) ∙ receives_stopped c.operand-v.result run w s (c.in_err-o.ensures.is w)));
  limit = search rules;
}
