use Rattle.std.proofs.Common.{◌-◌, ◌≤◌, List, Option, Some, length, set, refl, ap, ◌∙◌, arith}
use Rattle.abc_verify_typing.specs.declared.state.State.{State}
use Rattle.abc_verify_flow.proofs.Numbers.{known_here, place_kept}
use Rattle.abc_verify_flow.proofs.states.States.meet.Goals as goal

pub is_above-requires-clause-inside : goal.is_above-requires-clause-inside
is_above-requires-clause-inside g c =
    let one : 1 ≤ c.at-number.result = let f = c.if-number-eq0.false in omega arith in
    place_kept c.self.inside.numbers (length c.self.inside.known) c.args.place c.at-number.result (c.at-number.result - 1) c.self.invariant c.at-number.ensures one refl

pub returns-then-is_above : goal.returns-then-is_above
returns-then-is_above g c =
    let one : 1 ≤ c.at-number.result = let f = c.if-number-eq0.false in omega arith in
    let below = c.is_above.ensures c.if-is_above.true in
    record {
      old = below.0;
      known = known_here c.self.inside.numbers c.self.inside.known c.args.self.now c.args.place c.at-number.result (c.at-number.result - 1) below.0 c.self.view_is c.at-number.ensures one refl below.1;
      is = refl;
      holds = below.2;
    }

pub load-requires : goal.load-requires
load-requires g c =
    let one : 1 ≤ c.at-number.result = let f = c.if-number-eq0.false in omega arith in
    place_kept c.self.inside.numbers (length c.self.inside.known) c.args.place c.at-number.result (c.at-number.result - 1) c.self.invariant c.at-number.ensures one refl

pub returns-in-Same : goal.returns-in-Same
returns-in-Same g c =
    let one : 1 ≤ c.at-number.result = let f = c.if-number-eq0.false in omega arith in
    record {
      old = c.load.new.state;
      known = known_here c.self.inside.numbers c.self.inside.known c.args.self.now c.args.place c.at-number.result (c.at-number.result - 1) c.load.new.state c.self.view_is c.at-number.ensures one refl c.in_ok-load.ensures;
      is = c.self.view_is;
      holds = rw c.in-Same.is at c.in_ok-merge.ensures;
    }

pub returns-in_ok-put_again-in-Joined : goal.returns-in_ok-put_again-in-Joined
returns-in_ok-put_again-in-Joined g c =
    let one : 1 ≤ c.at-number.result = let f = c.if-number-eq0.false in omega arith in
    let joins = rw c.in-Joined.is at c.in_ok-merge.ensures in
    record {
      old = c.load.new.state;
      joined = c.merge.new.joined;
      known = known_here c.self.inside.numbers c.self.inside.known c.args.self.now c.args.place c.at-number.result (c.at-number.result - 1) c.load.new.state c.self.view_is c.at-number.ensures one refl c.in_ok-load.ensures;
      is = c.in_ok-put_again-in-Joined.ensures.known ∙ ap (λ (xs : List (Option State)). set xs c.args.place (Some c.merge.new.joined)) c.self.view_is;
      joins = joins.0;
      falls = joins.1;
    }

pub returns-in-Unequal : goal.returns-in-Unequal
returns-in-Unequal g c =
    let one : 1 ≤ c.at-number.result = let f = c.if-number-eq0.false in omega arith in
    record {
      old = c.load.new.state;
      known = known_here c.self.inside.numbers c.self.inside.known c.args.self.now c.args.place c.at-number.result (c.at-number.result - 1) c.load.new.state c.self.view_is c.at-number.ensures one refl c.in_ok-load.ensures;
      is = c.self.view_is;
      holds = rw c.in-Unequal.is at c.in_ok-merge.ensures;
    }
