-- What is worked out once of an instruction at its place.
use Rattle.std.specs.Prelude.{◌≡◌, ℕ, ◌<◌, ◌≤◌, ◌^◌, List, [], ◌∷◌, true, flat_map, length}
use Rattle.std.specs.Bool.{OnTrue}
use Rattle.abc_verify_typing.specs.declared.row.Need.{Need}
use Rattle.abc_verify_typing.specs.declared.row.Need.TheVariants.{Value}
use Rattle.abc_verify_states.specs.Needs.{parts_of}
use Rattle.abc_verify_typing.specs.Effects.{Here, args, depth, needs, parts_of_need}
use Rattle.abc_verify_typing.specs.Rules.{keeps}
use Rattle.abc_verify_typing.specs.Typing.{In}
use Rattle.abc_verify_typing.specs.declared.rule.VerifyRule.{VerifyRule}
use Rattle.abc_verify_typing.specs.declared.state.State.{State}
use Rattle.abc_verify.specs.declared.visit.Asked.{Asked}

-- nothing is asked of the values but that they are there
abbrev pub AreValues : List Need → Type 0
AreValues [] = Unit {0}
AreValues (n ∷ ns) = (n ≡ Value) × AreValues ns

-- so many values, of which nothing is asked
pub record HasValues (ns : List Need) (count : ℕ) : Type 0 where
  pub values : AreValues ns
  pub as_many : count ≡ length ns
  pub few : count ≤ 3

-- the parts of a name make no difference
abbrev pub AreClosed : List Need → Type 0
AreClosed ns = (ps qs : List Need) → flat_map (parts_of_need ps) ns ≡ flat_map (parts_of_need qs) ns

pub record IsAsked (h : Here) (a : Asked) : Type 0 where
  pub parts : flat_map (parts_of_need (parts_of a.parts)) h.row.takes ≡ needs h
  pub args : a.args ≡ args h
  pub few : a.args < 2 ^ 40
  pub depth : a.depth ≡ depth h
  pub plain : OnTrue a.is_plain (AreValues (needs h))

-- a state keeps each of some rules
pub record AreRulesKept (h : Here) (s : State) (rules : List VerifyRule) : Type 0 where
  pub kept : (r : VerifyRule) → In r rules → keeps h s r ≡ true
