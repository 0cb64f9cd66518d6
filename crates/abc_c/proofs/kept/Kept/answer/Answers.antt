use Rattle.std.proofs.Common.{◌≡◌, ◌∙◌, List, ℕ, ap, sym}
use Rattle.std.specs.Prelude.{None, Some}
use Rattle.abc_base.specs.Hosts.{builtin_formulas}
use Rattle.abc_meaning.specs.Exports.{export}
use Rattle.abc_meaning.specs.Openings.{setting}
use Rattle.abc_c.proofs.Telling.{not_both, unknown_as, unmade_as}
use Rattle.abc_c.specs.Answered as made
use Rattle.abc_c.specs.Crossing.{name_of_call}
use Rattle.abc_c.proofs.kept.Kept.answer.Goals as goal

pub returns-then-not-can_be_made : goal.returns-then-not-can_be_made
returns-then-not-can_be_made c =
    unmade_as c.args.names.now c.args.self.now.session c.args.call.now c.args.out.now.taken c.without.result c.without.ensures (λ h. not_both c.can_be_made.result (c.can_be_made.ensures.1 h) c.if-not-can_be_made.true)

pub returns-in-None : goal.returns-in-None
returns-in-None c =
    let s = c.args.self.now.session in
    let p = setting s.linked builtin_formulas in
    let none : export p (name_of_call c.args.names.now c.args.call.now) ≡ None = ap (export p) (sym c.name.ensures) ∙ sym (c.export.ensures.export builtin_formulas) ∙ c.in-None.is in
    unknown_as c.args.names.now s c.args.call.now c.args.out.now.taken c.without-in-None.result c.without-in-None.ensures (c.can_be_made.ensures.0 c.if-not-can_be_made.false) none

pub returns-in-Some : goal.returns-in-Some
returns-in-Some c =
    let s = c.args.self.now.session in
    let p = setting s.linked builtin_formulas in
    let some : export p (name_of_call c.args.names.now c.args.call.now) ≡ Some c.in-Some.method = ap (export p) (sym c.name.ensures) ∙ sym (c.export.ensures.export builtin_formulas) ∙ c.in-Some.is in
    made.made c.in-Some.method c.call.result (c.can_be_made.ensures.0 c.if-not-can_be_made.false) some c.call.ensures
