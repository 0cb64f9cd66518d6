use Rattle.std.proofs.Common.{◌≡◌, ◌+◌, ℕ, length, set, subst, sym}
use Rattle.std.specs.Prelude.{Bool, cond}
use Rattle.abc_verify_flow.specs.Kept.{ArePlaceNumbers}
use Rattle.abc_verify_flow.proofs.Parts.{got_inside}
use Rattle.abc_verify_flow.proofs.Numbers.{again_known, has_inside}
use Rattle.abc_verify_flow.proofs.states.put_again.Goals as goal

pub put-requires : goal.put-requires
put-requires c = has_inside c.args.numbers.now (length c.args.known.now) c.args.place c.args.index c.requires.numbers c.requires.has

pub returns-in_err-put-clause-numbers : goal.returns-in_err-put-clause-numbers
returns-in_err-put-clause-numbers c = subst (λ (n : ℕ). ArePlaceNumbers c.args.numbers.now n) (sym c.put.ensures.as_many) c.requires.numbers

pub returns-then-branch-clause-known : goal.returns-then-branch-clause-known
returns-then-branch-clause-known c =
    again_known c.args.numbers.now c.args.known.now c.put.new.self c.args.place c.args.index c.args.state.now c.requires.numbers c.requires.has
    (subst (λ (b : Bool). c.put.new.self ≡ cond b (set c.args.known.now c.args.index c.args.state.now) c.args.known.now) c.if-branch.true c.in_ok-put.ensures.put)

pub put_new-requires-clause-inside : goal.put_new-requires-clause-inside
put_new-requires-clause-inside c = got_inside c.args.numbers.now c.args.place (c.args.index + 1) c.requires.has
