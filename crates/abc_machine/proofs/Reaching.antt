-- From step to step.
use Rattle.std.proofs.Common.{◌≡◌, ◌≢◌, ℕ, zero, suc, ◌+◌, ◌-◌, ◌≤◌, List, [], ◌∷◌, ◌++◌, length, take, min, refl, sym, ap, ◌∙◌, subst, arith, append_assoc}
use Rattle.std.specs.Prelude.{IsSome, None, Some}
use Rattle.std.specs.Io.KnownBytes.{append_known}
use Rattle.std.specs.declared.option.Option.{Option}
use Rattle.abc_base.specs.Sinks.{GrowsByFront}
use Rattle.abc_meaning_sound.proofs.Appended.{calls_append}
use Rattle.abc_meaning.specs.Calls.{EndsAs as RepliesEnd, Replied, replies, replies_for, value_at_end, then_replies}
use Rattle.abc_heap_values.specs.declared.values.Value.{Value}
use Rattle.abc_meaning.specs.Logs.{steps_for, then_counts}
use Rattle.abc_machine.specs.Replied.{IsReplyOf, RepliesAs, failed, replied}
use Rattle.abc_machine.proofs.TextsKept.{texts_on, went_texts}
use Rattle.abc_machine.specs.Runs.{Begun, IsRunAt, LeavesWorld, on, outer, machine_after}
use Rattle.abc_machine.specs.Spent.{EndsWith, GoesTo, SpendsNothing, reply_by}
use Rattle.abc_machine.specs.declared.replies.Reply.{Reply}
use Rattle.abc_machine.specs.declared.replies.Reply.TheVariants.{FuelSpent as Spent, WriteFault}
use Rattle.abc_meaning.specs.Step.{step}
use Rattle.abc_meaning.specs.Throwing.{Done, End, Ends, FuelSpent, Full, Machine, Profile, Stepped, Steps, Stuck, Uncaught}
use Rattle.abc_run_finish.specs.Outward.{adding}
use Rattle.abc_link_names.specs.Linked.{LinkedFile}
use Rattle.abc_run_state.specs.Outer.{Outer, world}
use Rattle.abc_run_state.specs.declared.state.State.{State}
use Rattle.abc_run_finish.specs.Steps.{FailsAs, IsReached, machine, step_here}
use Rattle.abc_meaning.specs.Setting.{Setting}
use Rattle.abc_meaning.specs.World.{World}

-- ---- what was written

append_more : (known : Option (List ℕ)) (xs ys : List ℕ) → append_known (append_known known xs) ys ≡ append_known known (xs ++ ys)
append_more None xs ys = refl
append_more (Some bs) xs ys = ap Some (append_assoc bs xs ys)

pub append_some : (known : Option (List ℕ)) (xs : List ℕ) → IsSome known → IsSome (append_known known xs)
append_some None xs e = absurd cc
append_some (Some bs) xs e = refl

-- a front of what is written behind some bytes
short_front : (more : List ℕ) (n : ℕ) (bs : List ℕ) → take n bs ≡ take (min n (length bs)) (bs ++ more)
short_front more zero bs = let e : 0 ≡ min 0 (length bs) = omega arith in ap (λ (k : ℕ). take k (bs ++ more)) e
short_front more (suc n) [] = let e : 0 ≡ min (suc n) 0 = omega arith in ap (λ (k : ℕ). take k more) e
short_front more (suc n) (b ∷ bs) = let e : suc (min n (length bs)) ≡ min (suc n) (suc (length bs)) = omega arith in ap (λ (ds : List ℕ). b ∷ ds) (short_front more n bs) ∙ ap (λ (k : ℕ). take k (b ∷ (bs ++ more))) e

taken_front : (more xs bs : List ℕ) (n : ℕ) → xs ++ take n bs ≡ take (length xs + min n (length bs)) ((xs ++ bs) ++ more)
taken_front more [] bs n = let e : min n (length bs) ≡ 0 + min n (length bs) = omega arith in short_front more n bs ∙ ap (λ (k : ℕ). take k (bs ++ more)) e
taken_front more (x ∷ xs) bs n = let e : suc (length xs + min n (length bs)) ≡ suc (length xs) + min n (length bs) = omega arith in ap (λ (ds : List ℕ). x ∷ ds) (taken_front more xs bs n) ∙ ap (λ (k : ℕ). take k (x ∷ ((xs ++ bs) ++ more))) e

front_behind : (known now : Option (List ℕ)) (xs bytes more : List ℕ) → GrowsByFront (append_known known xs) now bytes → GrowsByFront known now ((xs ++ bytes) ++ more)
front_behind known now xs bytes more g = record {
  count = length xs + min g.count (length bytes);
  front = g.front ∙ append_more known xs (take g.count bytes) ∙ ap (append_known known) (taken_front more xs bytes g.count);
}

-- ---- one step more

-- what comes of a step that ends
pub then_is : (v : Value) (w : World) (e : End) (go : Machine → Replied) → then_replies v (Ends w e) go ≡ replies w (reply_by v e)
then_is v w Done go = refl
then_is v w (Uncaught thrown) go = refl
then_is v w (Profile method index fault) go = refl
then_is v w FuelSpent go = refl
then_is v w (Full limit) go = refl
then_is v w Stuck go = refl

-- what comes of all steps from a state on: what is answered and written, and the state that is left
pub record Comes (p : Setting) (r : Replied) (x z : Option (List ℕ)) (reply : Reply) (new : State) : Type 0 where
  pub answer : RepliesAs r x z reply
  pub leaves : reply ≢ WriteFault → LeavesWorld p r.world new

module _ (l : LinkedFile) (b : Begun) where
  abbrev p : Setting
  p = record { linked = l; formulas = b.formulas }

  abbrev at : ℕ → Machine
  at left = machine_after p (b.fuel - left) b.first

  -- what comes of all steps
  abbrev pub in_all : Replied
  in_all = replies_for p b.fuel b.first

  fewer : (left : ℕ) → suc left ≤ b.fuel → b.fuel - left ≡ suc (b.fuel - suc left)
  fewer left h = omega (arith, h)

  -- the step from there
  pub stepped : (left : ℕ) (s : State) (x y : Option (List ℕ)) → IsRunAt l b (suc left) s x y → step p (at (suc left)) ≡ step_here l (outer l b (suc left)) s
  stepped left s x y a = ap (step p) (sym a.is)

  pub next_is : (left : ℕ) (s : State) (x y : Option (List ℕ)) (r : Stepped) → IsRunAt l b (suc left) s x y → step_here l (outer l b (suc left)) s ≡ r → at left ≡ on r
  next_is left s x y r a e = ap (λ (n : ℕ). machine_after p n b.first) (fewer left a.few) ∙ ap on (stepped left s x y a ∙ e)

  -- what its frame would return
  abbrev value_at : ℕ → Value
  value_at left = value_at_end p (at left).world (at left).frames

  -- what comes of all steps, by the one from there
  meant_by : (left : ℕ) (s : State) (x y : Option (List ℕ)) (r : Stepped) → IsRunAt l b (suc left) s x y → step_here l (outer l b (suc left)) s ≡ r → in_all ≡ then_replies (value_at (suc left)) r (replies_for p left)
  meant_by left s x y r a e = a.goes ∙ ap (λ (q : Stepped). then_replies (value_at (suc left)) q (replies_for p left)) (stepped left s x y a ∙ e)

  -- how many steps all take, by the one from there
  abbrev pub count_all : ℕ
  count_all = steps_for p b.fuel b.first

  pub counted_by : (left : ℕ) (s : State) (x y : Option (List ℕ)) (r : Stepped) → IsRunAt l b (suc left) s x y → step_here l (outer l b (suc left)) s ≡ r → count_all ≡ (b.fuel - suc left) + then_counts r (steps_for p left)
  counted_by left s x y r a e = a.counts ∙ ap (λ (q : Stepped). (b.fuel - suc left) + then_counts q (steps_for p left)) (stepped left s x y a ∙ e)

  counted_on : (left : ℕ) (s : State) (x y : Option (List ℕ)) (q : Machine) → IsRunAt l b (suc left) s x y → step_here l (outer l b (suc left)) s ≡ Steps q → count_all ≡ (b.fuel - left) + steps_for p left (at left)
  counted_on left s x y q a e =
      let few = a.few in
      let all : count_all ≡ (b.fuel - suc left) + suc (steps_for p left q) = counted_by left s x y (Steps q) a e in
      let same : steps_for p left (at left) ≡ steps_for p left q = ap (steps_for p left) (next_is left s x y (Steps q) a e) in
      omega (arith, few, all, same, fewer left few)

  pub goes_at : (fuel left : ℕ) (s new : State) (x y z : Option (List ℕ)) → fuel ≡ suc left → IsRunAt l b fuel s x y → GoesTo l (outer l b fuel) s new y z → IsRunAt l b left new x z
  goes_at fuel left s new x y z f a g = go (subst (λ (n : ℕ). IsRunAt l b n s x y) f a) (subst (λ (n : ℕ). GoesTo l (outer l b n) s new y z) f g)
    where
      go : IsRunAt l b (suc left) s x y → GoesTo l (outer l b (suc left)) s new y z → IsRunAt l b left new x z
      go a g =
          let out = outer l b (suc left) in
          let q : Machine = machine new (adding g.goes.bytes out) in
          let next : at left ≡ q = next_is left s x y (Steps q) a g.goes.goes in
          let same : outer l b left ≡ adding g.goes.bytes out = ap (λ (m : Machine). record { formulas = b.formulas; wrote = m.world.wrote }) next in
          record {
            few = (let few = a.few in omega (arith, few));
            is = ap (machine new) same ∙ sym next;
            goes = meant_by left s x y (Steps q) a g.goes.goes ∙ ap (replies_for p left) (sym next);
            counts = counted_on left s x y q a g.goes.goes;
            texts = texts_on b.first.world.heap s.arena new.arena a.texts (went_texts l (outer l b (suc left)) s a.can new y z g.goes);
            sink = λ some. g.goes.sink (subst IsSome (sym (a.sink some)) (append_some x out.wrote some)) ∙ ap (λ (o : Option (List ℕ)). append_known o g.goes.bytes) (a.sink some) ∙ append_more x out.wrote g.goes.bytes ∙ ap (λ (o : Outer). append_known x o.wrote) (sym same);
            can = subst (λ (o : Outer). IsReached l o new) (sym same) g.reached;
          }

  -- ---- no step more is taken

  came : (r : Replied) (reply : Reply) (x z : Option (List ℕ)) (new : State) → in_all ≡ r → IsReplyOf r.reply reply → (IsSome x → z ≡ append_known x r.world.wrote) → LeavesWorld p r.world new → Comes p in_all x z reply new
  came r reply x z new g is sink leaves = subst (λ (q : Replied). Comes p q x z reply new) (sym g) (record { answer = replied r reply is sink; leaves = λ f. leaves })

  pub spent_at : (s new : State) (x y z : Option (List ℕ)) (fuel : ℕ) → fuel ≡ 0 → IsRunAt l b fuel s x y → SpendsNothing s new y z → Comes p in_all x z Spent new
  spent_at s new x y z fuel f a rests = go (subst (λ (n : ℕ). IsRunAt l b n s x y) f a)
    where
      go : IsRunAt l b 0 s x y → Comes p in_all x z Spent new
      go a =
          let here : LeavesWorld p (at 0).world s = record { heap = ap (λ (m : Machine). m.world.heap) a.is; started = ap (λ (m : Machine). m.world.started) a.is; sized = a.can.sized } in
          came (replies (at 0).world (RepliesEnd FuelSpent)) Spent x z new a.goes refl (λ some. rests.sink ∙ a.sink some) (subst (LeavesWorld p (at 0).world) (sym rests.state) here)

  pub ends_at : (s new : State) (x y z : Option (List ℕ)) (fuel left : ℕ) (reply : Reply) → fuel ≡ suc left → IsRunAt l b fuel s x y → EndsWith l (outer l b fuel) s new reply y z → Comes p in_all x z reply new
  ends_at s new x y z fuel left reply f a e = go (subst (λ (n : ℕ). IsRunAt l b n s x y) f a) (subst (λ (n : ℕ). EndsWith l (outer l b n) s new reply y z) f e)
    where
      go : IsRunAt l b (suc left) s x y → EndsWith l (outer l b (suc left)) s new reply y z → Comes p in_all x z reply new
      go a e =
          let out = outer l b (suc left) in
          let value : value_at_end p (world s out) s.frames.living ≡ value_at (suc left) = ap (λ (m : Machine). value_at_end p m.world m.frames) a.is in
          let is : IsReplyOf (reply_by (value_at (suc left)) e.end) reply = subst (λ (v : Value). IsReplyOf (reply_by v e.end) reply) value e.is in
          let g : in_all ≡ replies (world new out) (reply_by (value_at (suc left)) e.end) = meant_by left s x y (Ends (world new out) e.end) a e.ends.ends ∙ then_is (value_at (suc left)) (world new out) e.end (replies_for p left) in
          came (replies (world new out) (reply_by (value_at (suc left)) e.end)) reply x z new g is (λ some. e.ends.sink ∙ a.sink some) (record { heap = refl; started = refl; sized = e.sized })

  pub fails_at : (s new : State) (x y z : Option (List ℕ)) (fuel left : ℕ) → fuel ≡ suc left → IsRunAt l b fuel s x y → FailsAs l (outer l b fuel) s new y z → Comes p in_all x z WriteFault new
  fails_at s new x y z fuel left f a e = go (subst (λ (n : ℕ). IsRunAt l b n s x y) f a) (subst (λ (n : ℕ). FailsAs l (outer l b n) s new y z) f e)
    where
      go : IsRunAt l b (suc left) s x y → FailsAs l (outer l b (suc left)) s new y z → Comes p in_all x z WriteFault new
      go a e =
          let out = outer l b (suc left) in
          let r = replies_for p left e.next in
          let front = calls_append p left e.next in
          let g : in_all ≡ r = meant_by left s x y (Steps e.next) a e.goes in
          let wrote : r.world.wrote ≡ (out.wrote ++ e.bytes) ++ front.more = front.is ∙ ap (λ (bs : List ℕ). bs ++ front.more) e.wrote in
          let grows : IsSome x → GrowsByFront x z ((out.wrote ++ e.bytes) ++ front.more) = λ some. front_behind x z out.wrote e.bytes front.more (subst (λ (o : Option (List ℕ)). GrowsByFront o z e.bytes) (a.sink some) (e.sink (subst IsSome (sym (a.sink some)) (append_some x out.wrote some)))) in
          subst (λ (q : Replied). Comes p q x z WriteFault new) (sym g) (record { answer = failed r (λ some. subst (GrowsByFront x z) (sym wrote) (grows some)); leaves = λ f. absurd (f refl) })
