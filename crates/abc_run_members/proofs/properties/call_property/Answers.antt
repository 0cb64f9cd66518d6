use Rattle.std.proofs.Common.{rules, ℕ, ◌+◌, ◌∙◌, ap}
use Rattle.abc_run_members.proofs.Calls.{called_so, takes_so, whole_taken}
use Rattle.abc_run_members.specs.AtOnce.{how_for}
use Rattle.abc_run_state.specs.Outer.{setting_in}
use Rattle.abc_run_members.proofs.properties.call_property.Goals as goal

pub call_whole-requires : goal.call_whole-requires
call_whole-requires g c =
    let l = c.args.linked.now in
    let e = whole_taken (setting_in l g.out) c.args.name c.args.count c.in-Some.wanted c.args.drops c.how_of-how.result c.in-Some.ensures.form c.how_of-how.ensures in
    let t = takes_so l g.out c.args.s.now c.args.name c.args.count c.args.lexical c.args.drops c.how_of-how.result e c.requires.1.0 c.requires.0.free in (record { set = c.requires.0.set; known = c.requires.0.known; free = t.free }, (t.ready, (c.requires.1.1.0, (t.taken, (c.in-Some.ensures.form, (c.in-Some.ensures.text c.args.s.now.arena, c.requires.1.1.1))))))

pub returns-in-Some : goal.returns-in-Some
returns-in-Some g c = record {
  leaves =
      let l = c.args.linked.now in
      let e = whole_taken (setting_in l g.out) c.args.name c.args.count c.in-Some.wanted c.args.drops c.how_of-how.result c.in-Some.ensures.form c.how_of-how.ensures in
      called_so l g.out c.args.s.now c.call_whole.new.s c.args.name c.args.count c.args.lexical c.how_of-how.result _ c.call_whole.new.left e c.call_whole.ensures.leaves;
  finishes = search rules;
  goes = search rules;
  limit = search rules;
}

pub call_searching-requires : goal.call_searching-requires
call_searching-requires g c =
    let l = c.args.linked.now in
    let e = c.how_of-how-in-None.ensures ∙ ap (λ (k : ℕ). how_for c.args.drops (c.args.count + k + 1)) (c.parts_of.ensures g.out) in
    let t = takes_so l g.out c.args.s.now c.args.name c.args.count c.args.lexical c.args.drops c.how_of-how-in-None.result e c.requires.1.0 c.requires.0.free in (record { set = c.requires.0.set; known = c.requires.0.known; free = t.free }, (t.ready, (c.requires.1.1.0, (t.taken, c.requires.1.1.1))))

pub returns-in-None : goal.returns-in-None
returns-in-None g c = record {
  leaves =
      let l = c.args.linked.now in
      let e = c.how_of-how-in-None.ensures ∙ ap (λ (k : ℕ). how_for c.args.drops (c.args.count + k + 1)) (c.parts_of.ensures g.out) in
      called_so l g.out c.args.s.now c.call_searching.new.s c.args.name c.args.count c.args.lexical c.how_of-how-in-None.result _ c.call_searching.new.left e c.call_searching.ensures.leaves;
  finishes = search rules;
  goes = search rules;
  limit = search rules;
}
