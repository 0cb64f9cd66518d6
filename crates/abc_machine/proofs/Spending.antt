-- One step more, where there is fuel for it.
use Rattle.std.proofs.Common.{◌≡◌, ◌≢◌, ℕ, zero, suc, ◌-◌, ◌<◌, List, refl, sym, ap, subst, arith}
use Rattle.std.specs.Prelude.{Ok, Err}
use Rattle.std.specs.declared.option.Option.{Option}
use Rattle.std.specs.declared.result.Result.{Result}
use Rattle.abc_meaning.specs.Calls.{replies_for, value_at_end}
use Rattle.abc_heap_values.specs.declared.values.Value.{Value}
use Rattle.abc_run_finish.specs.Ending.{IsSized}
use Rattle.abc_run_finish.specs.declared.ended.Ended.TheVariants as ended
use Rattle.abc_machine.specs.Replied.{plain_value}
use Rattle.abc_machine.specs.Runs.{Begun, IsRunAt, outer}
use Rattle.abc_machine.specs.Texts.{TextsGrow}
use Rattle.abc_machine.proofs.TextsKept.{ended_texts, failed_texts, texts_on, texts_self}
use Rattle.abc_machine.specs.Spent.{EndsWith, SpendsAs, as_reply, reply_for}
use Rattle.abc_machine.specs.declared.replies.Reply.{Reply}
use Rattle.abc_machine.specs.declared.replies.Reply.TheVariants as replies
use Rattle.abc_machine.proofs.Reaching.{Comes, ends_at, fails_at, goes_at, spent_at}
use Rattle.abc_meaning.specs.Throwing as meant
use Rattle.abc_meaning.specs.Openings.{setting as setting_of}
use Rattle.abc_link_names.specs.Linked.{LinkedFile}
use Rattle.abc_machine.proofs.Staying.{reached_on}
use Rattle.abc_run_state.specs.Outer.{Outer, setting_in, world}
use Rattle.abc_run_state.specs.declared.state.State.{State}
use Rattle.abc_run_finish.specs.Steps.{GoesOnAs, IsReached, StepsAs}
use Rattle.abc_run_finish.specs.declared.halts.Halt.{Halt}
use Rattle.abc_run_finish.specs.declared.halts.Halt.TheVariants as halts

some_left : (n : ℕ) → (n ≡ 0 → ⊥) → n ≡ suc (n - 1)
some_left zero h = absurd (h refl)
some_left (suc n) h = omega arith

-- what a step answers is what its frame would return
abbrev IsReturned : LinkedFile → Outer → State → Result Unit Halt → Type 0
IsReturned l out old r = (v : Value) → r ≡ Err (halts.Returns v) → value_at_end (setting_in l out) (world old out) old.frames.living ≡ v

-- where writing didn't fail, the frames may keep what their routines say
abbrev IsSizedBut : LinkedFile → Outer → State → Result Unit Halt → Type 0
IsSizedBut l out new r = r ≢ Err halts.Fails → IsSized (setting_in l out) new.arena.limits new.frames

-- a step that ends
spends : (l : LinkedFile) (out : Outer) (old new : State) (fuel left : ℕ) (h : Halt) (before now : Option (List ℕ)) → fuel ≡ suc left → StepsAs l out old (Err h) new before now → IsReturned l out old (Err h) → IsSizedBut l out new (Err h) → SpendsAs l out old fuel (Err (reply_for h)) new left before now
spends l out old new fuel left halts.Fails before now f a value sized = (f, a)
spends l out old new fuel left (halts.Returns v) before now f a value sized =
    (f, record { end = meant.Done; is = record { value = value_at_end (setting_in l out) (world old out) old.frames.living; gives = refl; told = ap plain_value (value v refl) }; ends = a; sized = sized (λ q. absurd cc) })
spends l out old new fuel left (halts.Ends (ended.Uncaught thrown)) before now f a value sized = (f, record { end = meant.Uncaught thrown; is = refl; ends = a; sized = sized (λ q. absurd cc) })
spends l out old new fuel left (halts.Ends (ended.Profile method index fault)) before now f a value sized = (f, record { end = meant.Profile method index fault; is = refl; ends = a; sized = sized (λ q. absurd cc) })
spends l out old new fuel left (halts.Ends (ended.Full limit)) before now f a value sized = (f, record { end = meant.Full limit; is = refl; ends = a; sized = sized (λ q. absurd cc) })

pub ended_as : (l : LinkedFile) (out : Outer) (old new : State) (fuel : ℕ) (r : Result Unit Halt) (h : Halt) (e : Reply) (before now : Option (List ℕ)) → r ≡ Err h → e ≡ reply_for h → (fuel ≡ 0 → ⊥) → StepsAs l out old r new before now → IsReturned l out old r → IsSizedBut l out new r → SpendsAs l out old fuel (Err e) new (fuel - 1) before now
ended_as l out old new fuel r h e before now is q f a value sized =
    let done = spends l out old new fuel (fuel - 1) h before now (some_left fuel f) (subst (λ (x : Result Unit Halt). StepsAs l out old x new before now) is a) (subst (IsReturned l out old) is value) (subst (IsSizedBut l out new) is sized) in
    subst (λ (x : Reply). SpendsAs l out old fuel (Err x) new (fuel - 1) before now) (sym q) done

-- a step that goes on
pub went_as : (l : LinkedFile) (out : Outer) (old new : State) (fuel : ℕ) (r : Result Unit Halt) (u : Unit) (before now : Option (List ℕ)) → IsReached l out old → r ≡ Ok u → (fuel ≡ 0 → ⊥) → StepsAs l out old r new before now → IsSizedBut l out new r → new.given.limit ≡ old.given.limit → SpendsAs l out old fuel (Ok u) new (fuel - 1) before now
went_as l out old new fuel r u before now reach e f a there limit =
    let sized = (subst (IsSizedBut l out new) e there) (λ q. absurd cc) in
    let g : GoesOnAs l out old new before now = subst (λ (x : Result Unit Halt). StepsAs l out old x new before now) e a in
    (some_left fuel f, record { goes = g; reached = reached_on l out old new before now reach g sized limit })

some_fuel : (fuel : ℕ) → 0 < fuel → fuel ≡ 0 → ⊥
some_fuel fuel lt e = omega (arith, lt, e)

-- a step, for which there is fuel
pub stepped_as : (l : LinkedFile) (out : Outer) (old new : State) (fuel : ℕ) (r : Result Unit Halt) (before now : Option (List ℕ)) → IsReached l out old → 0 < fuel → StepsAs l out old r new before now → IsReturned l out old r → IsSizedBut l out new r → new.given.limit ≡ old.given.limit
    → SpendsAs l out old fuel (as_reply r) new (fuel - 1) before now
stepped_as l out old new fuel (Ok u) before now reach some a value sized limit = went_as l out old new fuel (Ok u) u before now reach refl (some_fuel fuel some) a sized limit
stepped_as l out old new fuel (Err h) before now reach some a value sized limit = ended_as l out old new fuel (Err h) h (reply_for h) before now refl refl (some_fuel fuel some) a value sized

-- the steps go on from there
pub went_on : (l : LinkedFile) (b : Begun) (s new : State) (x y z : Option (List ℕ)) (fuel left : ℕ) (r : Result Unit Reply) (u : Unit) → IsRunAt l b fuel s x y → r ≡ Ok u → SpendsAs l (outer l b fuel) s fuel r new left y z → IsRunAt l b left new x z
went_on l b s new x y z fuel left r u a e spent =
    let d = subst (λ (q : Result Unit Reply). SpendsAs l (outer l b fuel) s fuel q new left y z) e spent in
    goes_at l b fuel left s new x y z d.0 a d.1

-- what comes of them
spent_as : (l : LinkedFile) (b : Begun) (s new : State) (x y z : Option (List ℕ)) (fuel left : ℕ) (e : Reply) → IsRunAt l b fuel s x y → SpendsAs l (outer l b fuel) s fuel (Err e) new left y z → Comes (setting_of l b.formulas) (replies_for (setting_of l b.formulas) b.fuel b.first) x z e new
spent_as l b s new x y z fuel left (replies.Value v) a r = ends_at l b s new x y z fuel left (replies.Value v) r.0 a r.1
spent_as l b s new x y z fuel left (replies.Uncaught thrown) a r = ends_at l b s new x y z fuel left (replies.Uncaught thrown) r.0 a r.1
spent_as l b s new x y z fuel left (replies.Profile method index fault) a r = ends_at l b s new x y z fuel left (replies.Profile method index fault) r.0 a r.1
spent_as l b s new x y z fuel left replies.FuelSpent a r = spent_at l b s new x y z fuel r.0 a r.1
spent_as l b s new x y z fuel left (replies.Full limit) a r = ends_at l b s new x y z fuel left (replies.Full limit) r.0 a r.1
spent_as l b s new x y z fuel left replies.WriteFault a r = fails_at l b s new x y z fuel left r.0 a r.1

pub ended_on : (l : LinkedFile) (b : Begun) (s new : State) (x y z : Option (List ℕ)) (whole fuel left : ℕ) (r : Result Unit Reply) (e : Reply) → b.fuel ≡ whole → IsRunAt l b fuel s x y → r ≡ Err e → SpendsAs l (outer l b fuel) s fuel r new left y z → Comes (setting_of l b.formulas) (replies_for (setting_of l b.formulas) whole b.first) x z e new
ended_on l b s new x y z whole fuel left r e same a is spent =
    let d = subst (λ (q : Result Unit Reply). SpendsAs l (outer l b fuel) s fuel q new left y z) is spent in
    subst (λ (n : ℕ). Comes (setting_of l b.formulas) (replies_for (setting_of l b.formulas) n b.first) x z e new) same (spent_as l b s new x y z fuel left e a d)

-- ---- the texts that there were

module _ (l : LinkedFile) (b : Begun) (s new : State) (x y z : Option (List ℕ)) (fuel left : ℕ) where
  texts_then : IsRunAt l b fuel s x y → TextsGrow s.arena new.arena → TextsGrow b.first.world.heap new.arena
  texts_then a g = texts_on b.first.world.heap s.arena new.arena a.texts g

  texts_ended : (e : Reply) → IsRunAt l b fuel s x y → EndsWith l (outer l b fuel) s new e y z → TextsGrow b.first.world.heap new.arena
  texts_ended e a d = texts_then a (ended_texts l (outer l b fuel) s a.can new d.end y z d.ends)

  texts_as : (e : Reply) → IsRunAt l b fuel s x y → SpendsAs l (outer l b fuel) s fuel (Err e) new left y z → TextsGrow b.first.world.heap new.arena
  texts_as (replies.Value v) a r = texts_ended (replies.Value v) a r.1
  texts_as (replies.Uncaught thrown) a r = texts_ended (replies.Uncaught thrown) a r.1
  texts_as (replies.Profile method index fault) a r = texts_ended (replies.Profile method index fault) a r.1
  texts_as replies.FuelSpent a r = texts_then a (subst (λ (t : State). TextsGrow s.arena t.arena) (sym r.1.state) (texts_self s.arena))
  texts_as (replies.Full limit) a r = texts_ended (replies.Full limit) a r.1
  texts_as replies.WriteFault a r = texts_then a (failed_texts l (outer l b fuel) s a.can new y z r.1)

  pub ended_with_texts : (r : Result Unit Reply) (e : Reply) → IsRunAt l b fuel s x y → r ≡ Err e → SpendsAs l (outer l b fuel) s fuel r new left y z → TextsGrow b.first.world.heap new.arena
  ended_with_texts r e a is spent = texts_as e a (subst (λ (q : Result Unit Reply). SpendsAs l (outer l b fuel) s fuel q new left y z) is spent)
