use Rattle.abc_run_values.proofs.Doing.{can_at, open_as, runs_at}
use Rattle.abc_run_names.specs.Named.{name_form_at, name_parts_count}
use Rattle.abc_run_state.specs.Outer.{setting_in}
use Rattle.abc_file_types.specs.declared.code.Instr.TheVariants.{One}
use Rattle.abc_run_dispatch.proofs.ScopeOps.{op_5D, op_5E, op_60}
use Rattle.abc_run_dispatch.proofs.finding.run_find.Goals as goal

pub find_strictly-requires : goal.find_strictly-requires
find_strictly-requires g c =
    let can = can_at c.args.linked.now g.out c.args.s.now (λ o. One o c.args.n) c.args.op 93 c.in-93.is c.requires.0 in
    let d = op_5D c.args.linked.now g.out c.args.s.now c.args.n can in (record { set = can.set; known = c.requires.1.0; free = open_as c.args.linked.now g.out c.args.s.now (One 93 c.args.n) (name_parts_count (name_form_at (setting_in c.args.linked.now g.out) c.args.n)) 1 _ d can.free }, (d.ready, c.requires.1.1.0))

pub returns-in-93 : goal.returns-in-93
returns-in-93 g c = record {
  runs =
      let can = can_at c.args.linked.now g.out c.args.s.now (λ o. One o c.args.n) c.args.op 93 c.in-93.is c.requires.0 in
      runs_at c.args.linked.now g.out c.args.s.now (λ o. One o c.args.n) c.args.op 93 (name_parts_count (name_form_at (setting_in c.args.linked.now g.out) c.args.n)) 1 _ _ c.in-93.is (op_5D c.args.linked.now g.out c.args.s.now c.args.n can) c.find_strictly.ensures.runs;
  limit = c.find_strictly.ensures.limit;
}

pub find_or_global-requires : goal.find_or_global-requires
find_or_global-requires g c =
    let can = can_at c.args.linked.now g.out c.args.s.now (λ o. One o c.args.n) c.args.op 94 c.in-94.is c.requires.0 in
    let d = op_5E c.args.linked.now g.out c.args.s.now c.args.n can in (record { set = can.set; known = c.requires.1.0; free = open_as c.args.linked.now g.out c.args.s.now (One 94 c.args.n) (name_parts_count (name_form_at (setting_in c.args.linked.now g.out) c.args.n)) 1 _ d can.free }, (d.ready, c.requires.1.1.0))

pub returns-in-94 : goal.returns-in-94
returns-in-94 g c = record {
  runs =
      let can = can_at c.args.linked.now g.out c.args.s.now (λ o. One o c.args.n) c.args.op 94 c.in-94.is c.requires.0 in
      runs_at c.args.linked.now g.out c.args.s.now (λ o. One o c.args.n) c.args.op 94 (name_parts_count (name_form_at (setting_in c.args.linked.now g.out) c.args.n)) 1 _ _ c.in-94.is (op_5E c.args.linked.now g.out c.args.s.now c.args.n can) c.find_or_global.ensures.runs;
  limit = c.find_or_global.ensures.limit;
}

pub get_lexical-requires : goal.get_lexical-requires
get_lexical-requires g c =
    let can = can_at c.args.linked.now g.out c.args.s.now (λ o. One o c.args.n) c.args.op 96 c.in-96.is c.requires.0 in
    let d = op_60 c.args.linked.now g.out c.args.s.now c.args.n can in (record { set = can.set; known = c.requires.1.0; free = open_as c.args.linked.now g.out c.args.s.now (One 96 c.args.n) (name_parts_count (name_form_at (setting_in c.args.linked.now g.out) c.args.n)) 1 _ d can.free }, (d.ready, c.requires.1.1.0))

pub returns-in-96 : goal.returns-in-96
returns-in-96 g c = record {
  runs =
      let can = can_at c.args.linked.now g.out c.args.s.now (λ o. One o c.args.n) c.args.op 96 c.in-96.is c.requires.0 in
      runs_at c.args.linked.now g.out c.args.s.now (λ o. One o c.args.n) c.args.op 96 (name_parts_count (name_form_at (setting_in c.args.linked.now g.out) c.args.n)) 1 _ _ c.in-96.is (op_60 c.args.linked.now g.out c.args.s.now c.args.n can) c.get_lexical.ensures.runs;
  limit = c.get_lexical.ensures.limit;
}
