use Rattle.std.proofs.Common.{◌≡◌, ◌+◌, ◌<◌, ◌≤◌, List, [], ℕ, suc, refl, subst, sym, ap, ◌∙◌, set, Some, None, length, arith}
use Rattle.std.specs.Prelude.{replicate, Option}
use Rattle.std.proofs.lemmas.List.{length-replicate}
use Rattle.abc_verify_typing.specs.Typing.{entry}
use Rattle.abc_verify_typing.specs.declared.state.State.{State}
use Rattle.abc_verify_typing.specs.Work.{IsUnderWay, total_rank}
use Rattle.abc_verify_typing.specs.Rank.{layouts, rank_of_state, top_rank}
use Rattle.abc_verify_typing.proofs.Turn.{begins}
use Rattle.abc_verify_typing.proofs.Heads.{heads_typing}
use Rattle.abc_verify_flow.specs.Telling.{IsHandled}
use Rattle.abc_verify_flow.proofs.Told.{kept_first}
use Rattle.abc_verify_flow.proofs.Counts.{few_walks, first_rises, known_first, known_on, next_most, once_first, once_last, once_on}
use Rattle.abc_verify_flow.specs.Waits.{IsPlaceAdded}
use Rattle.abc_verify_flow.proofs.Walks.{waits_first}
use Rattle.abc_verify_flow.specs.Walking.{is_head}
use Rattle.abc_verify_typing.specs.declared.catch.Catch.{Catch}
use Rattle.abc_verify_flow.proofs.walk.check_code.Goals as goal

pub raise-requires : goal.raise-requires
raise-requires g c =
    let m = g.F.Flow.routine c.args.flow.now in
    let blank : List (Option State) = replicate (length m.code) None in
    let n : c.renew-2.new.self ≡ blank = c.renew-2.ensures ∙ ap (λ (k : ℕ). replicate k None) c.len-2.ensures in
    let long : length blank ≡ length m.code = length-replicate (length m.code) None in
    subst (λ (xs : List (Option State)). 0 < length xs) (sym n) (omega (arith, c.requires.some, long))

pub loop-place-init : goal.loop-place-init
loop-place-init g c =
    let p = g.F.Flow.file c.args.flow.now in
    let m = g.F.Flow.routine c.args.flow.now in
    let heads = g.F.Flow.heads c.args.flow.now in
    let h = is_head heads in
    let n : c.renew-2.new.self ≡ replicate (length m.code) None = c.renew-2.ensures ∙ ap (λ (k : ℕ). replicate k None) c.len-2.ensures in
    let e : c.raise.new.states ≡ set (replicate (length m.code) None) 0 (Some (entry m)) = c.in_ok-raise.ensures.0 ∙ ap (λ (xs : List (Option State)). set xs 0 (Some c.in_ok-entry.entry)) n ∙ ap (λ (s : State). set (replicate (length m.code) None) 0 (Some s)) c.in_ok-entry.ensures in
    let none : c.clear.new.self ≡ [] = c.clear.ensures in
    let one = c.in_ok-raise.ensures.1.most in
    let empty : length c.clear.new.self ≡ 0 = ap length none in
    let rise : total_rank (rank_of_state (layouts p)) (top_rank (layouts p) m) c.raise.new.states + 1 ≤ total_rank (rank_of_state (layouts p)) (top_rank (layouts p) m) (replicate (length m.code) None) = subst (λ (x : List (Option State)). total_rank (rank_of_state (layouts p)) (top_rank (layouts p) m) x + 1 ≤ total_rank (rank_of_state (layouts p)) (top_rank (layouts p) m) (replicate (length m.code) None)) (sym e) (first_rises p m heads c.requires.linked c.requires.some c.requires.heads.first) in (
      subst (λ (x : List (Option State)). IsUnderWay p m h x c.raise.new.work) (sym e) (waits_first p m h (set (replicate (length m.code) None) 0 (Some (entry m))) 0 _ c.raise.new.work (begins p m h c.requires.some c.requires.heads.first) c.in_ok-raise.ensures.1),
      kept_first p m heads c.in_ok-handled.handled.all c.renew.new.self c.raise.new.states c.nodes.result c.nodes.ensures.is c.renew.ensures,
      omega (arith, one, empty, rise),
      known_first p m c.raise.new.states c.raise.new.work c.requires.some e (subst (λ (w : List ℕ). IsPlaceAdded 0 w c.raise.new.work) none c.in_ok-raise.ensures.1),
      λ on. once_first 0 c.raise.new.states c.raise.new.work refl,
    )

pub visit-requires-clause-handled : goal.visit-requires-clause-handled
visit-requires-clause-handled g c = subst (λ (hs : List Catch). IsHandled hs (length (g.F.Flow.routine c.args.flow.now).code) c.in_ok-handled.handled) c.handlers.ensures (subst (λ (n : ℕ). IsHandled c.handlers.result.now n c.in_ok-handled.handled) c.len.ensures c.in_ok-handled.ensures)

pub visit-requires-clause-under_way : goal.visit-requires-clause-under_way
visit-requires-clause-under_way g c = subst (λ (w : List ℕ). IsUnderWay (g.F.Flow.file c.args.flow.now) (g.F.Flow.routine c.args.flow.now) (is_head (g.F.Flow.heads c.args.flow.now)) c.loop-place.states w) c.in-Some.ensures.is c.loop-place.invariant.0

pub loop-place-preserved : goal.loop-place-preserved
loop-place-preserved g c =
    let taken : length c.loop-place.work ≡ suc (length c.pop.new.self) = ap length c.in-Some.ensures.is in
    let falls = c.in_ok-visit.ensures.0.falls in
    let walked = c.loop-place.invariant.2 in
    let more = next_most c.loop-place.walks c.saturating_add-walks.result c.saturating_add-walks.ensures in
    (c.in_ok-visit.ensures.0.under_way, c.in_ok-visit.ensures.1, omega (arith, taken, falls, walked, more), known_on _ _ _ _ _ _ _ _ _ c.in-Some.ensures c.in_ok-visit.ensures.0 c.loop-place.invariant.3, λ on. once_on _ _ _ _ _ _ _ _ _ c.loop-place.walks c.saturating_add-walks.result more c.in-Some.ensures c.in_ok-visit.ensures.0 c.loop-place.invariant.3 on (c.loop-place.invariant.4 on))

pub loop-place-smaller : goal.loop-place-smaller
loop-place-smaller g c =
    let taken : length c.loop-place.work ≡ suc (length c.pop.new.self) = ap length c.in-Some.ensures.is in
    let falls = c.in_ok-visit.ensures.0.falls in
    omega (arith, taken, falls)

pub returns : goal.returns
returns g c =
    let p = g.F.Flow.file c.args.flow.now in
    let m = g.F.Flow.routine c.args.flow.now in
    let h = is_head (g.F.Flow.heads c.args.flow.now) in
    let walks = c.loop-place.invariant.2 in
    record {
      typing = heads_typing p m h c.loop-place.states (subst (λ (w : List ℕ). IsUnderWay p m h c.loop-place.states w) c.in_default.ensures c.loop-place.invariant.0);
      few = few_walks (rank_of_state (layouts p)) (top_rank (layouts p) m) c.loop-place.states c.loop-place.walks (length m.code) c.loop-place.invariant.0.long (omega (arith, walks));
      once = λ on. once_last _ c.loop-place.states _ (c.loop-place.invariant.4 on);
    }
