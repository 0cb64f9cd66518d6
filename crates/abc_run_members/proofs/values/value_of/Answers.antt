use Rattle.std.proofs.Common.{rules, ◌∙◌, ap, subst}
use Rattle.abc_objects.specs.declared.found.Found.{Found}
use Rattle.abc_run_state.specs.Outer.{setting_in, world}
use Rattle.abc_run_state.specs.Stops.{IsOpen}
use Rattle.abc_run_members.specs.Members.{IsFoundThere, value_read}
use Rattle.abc_run_members.proofs.Cases.{value_plain}
use Rattle.abc_run_members.proofs.values.value_of.Goals as goal

pub bind-requires : goal.bind-requires
bind-requires g c = (
  search rules,
  (
    search rules,
    (
      (subst (IsFoundThere c.args.linked.now c.args.s.now.arena) c.in-Method.is c.requires.1.1.0),
      (let p = setting_in c.args.linked.now g.out in
          let w = world c.args.s.now g.out in
          subst (λ (f : Found). IsOpen (value_read p f c.args.v w)) c.in-Method.is c.requires.1.1.1),
    ),
  ),
)

pub returns-in-Method-clause-part : goal.returns-in-Method-clause-part
returns-in-Method-clause-part g c =
    let p = setting_in c.args.linked.now g.out in
    let w = world c.args.s.now g.out in
    ap (λ (f : Found). value_read p f c.args.v w) c.in-Method.is ∙ c.bind.ensures.part

pub value_found-requires : goal.value_found-requires
value_found-requires g c = (
  search rules,
  (
    search rules,
    (
      search rules,
      (let p = setting_in c.args.linked.now g.out in
          let w = world c.args.s.now g.out in
          subst IsOpen (value_plain p c.args.found c.args.v w (λ owner m e. c.in_default.not-Method owner m e)) c.requires.1.1.1),
    ),
  ),
)

pub returns-in_default-clause-part : goal.returns-in_default-clause-part
returns-in_default-clause-part g c =
    let p = setting_in c.args.linked.now g.out in
    let w = world c.args.s.now g.out in
    value_plain p c.args.found c.args.v w (λ owner m e. c.in_default.not-Method owner m e) ∙ c.value_found.ensures.part
