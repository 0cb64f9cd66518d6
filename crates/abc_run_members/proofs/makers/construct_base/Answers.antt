use Rattle.std.proofs.Common.{rules, ◌∙◌, ◌+◌, ◌<◌, ℕ, ap, arith, length, refl, subst, sym}
use Rattle.abc_heap_values.specs.declared.values.Value.TheVariants.{Obj}
use Rattle.abc_link_names.specs.Instances.{instance_at}
use Rattle.abc_frames.specs.Frame.{newest}
use Rattle.abc_frames.specs.declared.records.Wait.TheVariants as waits
use Rattle.abc_file_types.specs.declared.tables.Abc.{Abc}
use Rattle.abc_run_calls.specs.Calls.{settled_by}
use Rattle.abc_run_calls.specs.Entering.{enters_owned_above}
use Rattle.abc_run_members.proofs.Settled.{enters_as}
use Rattle.abc_run_state.specs.Outer.{setting_in, world}
use Rattle.abc_run_state.specs.Stops.{IsOpen}
use Rattle.abc_run_state.specs.Turns.{turn_of}
use Rattle.abc_run_state.specs.declared.state.How.TheVariants.{Drop}
use Rattle.abc_run_members.specs.declared.bases.Base.{Base}
use Rattle.abc_run_members.specs.Based.{IsBase, named_of}
use Rattle.abc_run_members.specs.Supers.{base_run}
use Rattle.abc_run_members.proofs.Made.{maker_is}
use Rattle.abc_run_members.proofs.makers.construct_base.Goals as goal

pub overflow_add-taken : goal.overflow_add-taken
overflow_add-taken g c = omega (arith, c.requires.1.1.0)

pub get-requires : goal.get-requires
get-requires g c =
    let b = subst (λ (x : Base). IsBase c.args.linked.now x) c.in-Class.is c.requires.1.1.1.1 in
    subst (λ (v : Abc). c.in-Class.class < length v.instances) (sym c.abc.ensures) b

pub enter_owned-requires : goal.enter_owned-requires
enter_owned-requires g c = (
  record {
    set = c.requires.0.set;
    known = c.requires.0.known;
    free = (let l = c.args.linked.now in
        let p = setting_in l g.out in
        let f = newest c.args.s.now.frames in
        let w = world c.args.s.now g.out in
        let n = c.args.count in
        let b = subst (λ (x : Base). IsBase l x) c.in-Class.is c.requires.1.1.1.1 in
        let maker = maker_is c.abc.result.now l.file c.in-Class.class c.get.result.now c.abc.ensures b c.get.ensures in
        let open_found = subst (λ (x : Base). IsOpen (settled_by (Drop (n + 1)) f (base_run p c.args.o n f (named_of x)) w)) c.in-Class.is c.requires.0.free in
        subst (λ (m : ℕ). IsOpen (enters_owned_above p m (Obj c.args.o) n (n + 1) waits.Drop f w)) (sym maker)
        (subst IsOpen (enters_as p (instance_at l.file c.in-Class.class).iinit (Obj c.args.o) n (Drop (n + 1)) f w (n + 1) waits.Drop refl refl open_found) open_found));
  },
  (c.requires.1.0.live, (omega (arith, c.requires.1.0.operands), c.requires.1.0.operands)),
)

pub returns-in-Class : goal.returns-in-Class
returns-in-Class g c = record {
  runs =
      let l = c.args.linked.now in
      let p = setting_in l g.out in
      let q = c.args.s.now.frames in
      let f = newest q in
      let w = world c.args.s.now g.out in
      let n = c.args.count in
      let b = subst (λ (x : Base). IsBase l x) c.in-Class.is c.requires.1.1.1.1 in
      let maker = maker_is c.abc.result.now l.file c.in-Class.class c.get.result.now c.abc.ensures b c.get.ensures in
      let open_found = subst (λ (x : Base). IsOpen (settled_by (Drop (n + 1)) f (base_run p c.args.o n f (named_of x)) w)) c.in-Class.is c.requires.0.free in
      ap (λ (x : Base). turn_of p q (settled_by (Drop (n + 1)) f (base_run p c.args.o n f (named_of x)) w)) c.in-Class.is
      ∙ ap (turn_of p q) (enters_as p (instance_at l.file c.in-Class.class).iinit (Obj c.args.o) n (Drop (n + 1)) f w (n + 1) waits.Drop refl refl open_found)
      ∙ ap (λ (m : ℕ). turn_of p q (enters_owned_above p m (Obj c.args.o) n (n + 1) waits.Drop f w)) (sym maker)
      ∙ c.enter_owned.ensures.runs;
  limit = search rules;
}

pub returns-in-Host : goal.returns-in-Host
returns-in-Host g c = record {
  runs =
      let p = setting_in c.args.linked.now g.out in
      let q = c.args.s.now.frames in
      let f = newest q in
      ap (λ (x : Base). turn_of p q (settled_by (Drop (c.args.count + 1)) f (base_run p c.args.o c.args.count f (named_of x)) (world c.args.s.now g.out))) c.in-Host.is
      ∙ c.tell_base.ensures.runs;
  limit = search rules;
}

pub unreachable-requires : goal.unreachable-requires
unreachable-requires g c =
    let p = setting_in c.args.linked.now g.out in
    let f = newest c.args.s.now.frames in
    subst (λ (x : Base). IsOpen (settled_by (Drop (c.args.count + 1)) f (base_run p c.args.o c.args.count f (named_of x)) (world c.args.s.now g.out))) c.in-Nothing.is c.requires.0.free
