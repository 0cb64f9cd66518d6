-- A verified file is never stuck.
use Rattle.std.proofs.Common.{◌≡◌, ℕ, ◌<◌, length, refl, subst}
use Rattle.std.specs.Prelude.{Some, None}
use Rattle.std.specs.declared.option.Option.{Option}
use Rattle.abc_heap_store.specs.declared.records.Limit.{Limit}
use Rattle.abc_link_names.specs.Owners.{body_of}
use Rattle.abc_verify_typing.specs.Routines.{Routine, routine}
use Rattle.abc_verify_typing.specs.Typing.{IsTyping}
use Rattle.abc_verify_typing.specs.declared.state.State.{State}
use Rattle.abc_meaning.specs.Setting.{Setting, routine_in}
use Rattle.abc_meaning.specs.ThrowLaws.{BeginsSound, IsNeverStuck, IsVerifiedSetting, StaysSound}
use Rattle.abc_meaning.specs.Meaning.{Ran, first_state, first_world, meaning, meaning_if, runs_for, too_small}
use Rattle.abc_meaning.specs.Sound.{AreTypings, Typings}
use Rattle.abc_meaning.specs.Throwing.{Stuck}
use Rattle.abc_meaning_sound.specs.ObjectLaws.{Given}
use Rattle.abc_meaning_sound.proofs.Law.{runs_never_stick, steps_stay_sound}
use Rattle.abc_meaning_sound.proofs.Filed.{body_is}
use Rattle.abc_meaning_sound.proofs.Makers.{makers_given}
use Rattle.abc_meaning_sound.proofs.Operated.{ops_given}
use Rattle.abc_meaning_sound.proofs.Scoped.{scopes_given}
use Rattle.abc_meaning_sound.proofs.Searched.{search_given}
use Rattle.abc_meaning_sound.proofs.Starting.{begins_sound}
use Rattle.abc_meaning_sound.proofs.Verified.{file_given}

pub given : (p : Setting) → IsVerifiedSetting p → Given p
given p v =
    let file = file_given p v.linked in
    let scopes = scopes_given p v.linked in
    record { file = file; scopes = scopes; makers = makers_given p file scopes; ops = ops_given p v.linked; search = search_given p file scopes }

pub stays_sound : StaysSound
stays_sound p typings q v typed sound = steps_stay_sound p typings q (given p v) typed sound

pub the_first_is_sound : BeginsSound
the_first_is_sound p typings limits v typed counted small = begins_sound p typings limits v counted small

-- the typing of each method that has a body
module _ (p : Setting) (v : IsVerifiedSetting p) where
  abbrev states_of : (o : Option ℕ) → ((b : ℕ) → o ≡ Some b → b < length p.linked.file.bodies) → ℕ → Option State
  states_of None low = λ place. None
  states_of (Some b) low = (v.typed b (low b refl)).0

  pub body_low : (n b : ℕ) → body_of p.linked.file n ≡ Some b → b < length p.linked.file.bodies
  body_low n b e = (body_is p.linked v.linked n b e).low

  abbrev pub typings : Typings
  typings n = states_of (body_of p.linked.file n) (body_low n)

  pub are_typings : AreTypings p typings
  are_typings n r e = go (body_of p.linked.file n) (body_low n) e
    where
      go : (o : Option ℕ) (low : (b : ℕ) → o ≡ Some b → b < length p.linked.file.bodies) → routine_in p o ≡ Some r → IsTyping p.linked r (states_of o low)
      go None low q = absurd cc
      go (Some b) low q = let same : routine p.linked b ≡ r = cc in subst (λ (x : Routine). IsTyping p.linked x (v.typed b (low b refl)).0) same (v.typed b (low b refl)).1

pub is_never_stuck : IsNeverStuck
unfolding meaning
is_never_stuck p limits fuel wrote v counted e = go (too_small (first_world p limits).heap) refl e
  where
    go : (o : Option Limit) → too_small (first_world p limits).heap ≡ o → meaning_if o (runs_for p fuel (first_state p limits)) ≡ Ran wrote Stuck → ⊥
    go (Some limit) q f = cc
    go None q f =
        let end : (runs_for p fuel (first_state p limits)).end ≡ Stuck = cc in
        runs_never_stick p (typings p v) (first_state p limits) fuel (given p v) (are_typings p v) (begins_sound p (typings p v) limits v counted q) end
