-- How many steps were taken, where no more is.
use Rattle.std.proofs.Common.{◌≡◌, ◌≢◌, ℕ, suc, ◌+◌, ◌-◌, ◌≤◌, List, refl, subst, arith}
use Rattle.std.specs.Prelude.{Err}
use Rattle.std.specs.declared.option.Option.{Option}
use Rattle.std.specs.declared.result.Result.{Result}
use Rattle.abc_meaning.specs.Logs.{steps_for}
use Rattle.abc_machine.specs.Runs.{Begun, IsRunAt, outer}
use Rattle.abc_machine.specs.Spent.{EndsWith, SpendsAs}
use Rattle.abc_machine.specs.declared.replies.Reply.{Reply}
use Rattle.abc_machine.specs.declared.replies.Reply.TheVariants as replies
use Rattle.abc_machine.proofs.Reaching.{count_all, counted_by}
use Rattle.abc_meaning.specs.Throwing.{Ends}
use Rattle.abc_meaning.specs.Openings.{setting}
use Rattle.abc_link_names.specs.Linked.{LinkedFile}
use Rattle.abc_run_state.specs.Outer.{world}
use Rattle.abc_run_state.specs.declared.state.State.{State}

module _ (l : LinkedFile) (b : Begun) (s new : State) (x y z w : Option (List ℕ)) (fuel left : ℕ) where
  ends_count : (e : Reply) → fuel ≡ suc left → IsRunAt l b fuel s x y → EndsWith l (outer l b fuel) s new e w z → count_all l b + left ≡ b.fuel
  ends_count e f a d = go (subst (λ (n : ℕ). IsRunAt l b n s x y) f a) (subst (λ (n : ℕ). EndsWith l (outer l b n) s new e w z) f d)
    where
      go : IsRunAt l b (suc left) s x y → EndsWith l (outer l b (suc left)) s new e w z → count_all l b + left ≡ b.fuel
      go a d =
          let few = a.few in
          let all : count_all l b ≡ (b.fuel - suc left) + 1 = counted_by l b left s x y (Ends (world new (outer l b (suc left))) d.end) a d.ends.ends in
          omega (arith, few, all)

  spent_count : fuel ≡ 0 → left ≤ fuel → IsRunAt l b fuel s x y → count_all l b + left ≡ b.fuel
  spent_count f low a = go (subst (λ (n : ℕ). IsRunAt l b n s x y) f a)
    where
      go : IsRunAt l b 0 s x y → count_all l b + left ≡ b.fuel
      go a = let all : count_all l b ≡ (b.fuel - 0) + 0 = a.counts in omega (arith, all, f, low)

  pub count_at : (e : Reply) → e ≢ replies.WriteFault → IsRunAt l b fuel s x y → left ≤ fuel → SpendsAs l (outer l b fuel) s fuel (Err e) new left w z → count_all l b + left ≡ b.fuel
  count_at (replies.Value v) well a low d = ends_count (replies.Value v) d.0 a d.1
  count_at (replies.Uncaught thrown) well a low d = ends_count (replies.Uncaught thrown) d.0 a d.1
  count_at (replies.Profile method index fault) well a low d = ends_count (replies.Profile method index fault) d.0 a d.1
  count_at replies.FuelSpent well a low d = spent_count d.0 low a
  count_at (replies.Full limit) well a low d = ends_count (replies.Full limit) d.0 a d.1
  count_at replies.WriteFault well a low d = absurd (well refl)

pub counted_to : (l : LinkedFile) (b : Begun) (s new : State) (x y z w : Option (List ℕ)) (whole fuel left : ℕ) (r : Result Unit Reply) (e : Reply) → b.fuel ≡ whole → IsRunAt l b fuel s x y → r ≡ Err e → left ≤ fuel → SpendsAs l (outer l b fuel) s fuel r new left w z → e ≢ replies.WriteFault → steps_for (setting l b.formulas) whole b.first + left ≡ whole
counted_to l b s new x y z w whole fuel left r e same a is low spent well =
    let d = subst (λ (q : Result Unit Reply). SpendsAs l (outer l b fuel) s fuel q new left w z) is spent in
    subst (λ (n : ℕ). steps_for (setting l b.formulas) n b.first + left ≡ n) same (count_at l b s new x y z w fuel left e well a low d)
