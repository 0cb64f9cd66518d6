use Rattle.std.proofs.Common.{◌≡◌, ◌∙◌, sym, ap, length, nat_eq, eq-eqb, ne_eqb}
use Rattle.std.specs.List.{list_any}
use Rattle.abc_base_graphs.proofs.Walks.{step_in}
use Rattle.abc_base_graphs.specs.Ways.{way}
use Rattle.abc_objects.specs.Objects.{delegate_at, number_of_object}
use Rattle.abc_lookup.proofs.Along.{less_left}
use Rattle.abc_lookup.proofs.Stands.{delegates_fall, inside, object_in}
use Rattle.abc_run_names.proofs.Amongst.{any_end, any_here, any_next}
use Rattle.abc_run_names.proofs.late.is_among.Goals as goal

pub loop-at-init : goal.loop-at-init
loop-at-init c = record { inside = inside c.args.s.now.arena c.delegate_of-at.result c.delegate_of-at.ensures.there; same = ap (λ a. list_any (nat_eq c.args.wanted.0) (way (delegate_at c.args.s.now.arena) a)) c.delegate_of-at.ensures.is }

pub delegate-at-requires : goal.delegate-at-requires
delegate-at-requires c = object_in c.args.s.now.arena c.loop-at.at c.in-Some.o c.in-Some.is c.loop-at.invariant.inside

pub loop-at-preserved : goal.loop-at-preserved
loop-at-preserved c =
    let h = c.args.s.now.arena in
    let f = delegates_fall c.args.linked.now h c.requires.over in
    let up : number_of_object c.delegate-at.result ≡ delegate_at h c.in-Some.o.0 = ap number_of_object c.delegate-at.ensures in
    record {
      inside = step_in (delegate_at h) f c.in-Some.o.0 (length h.objects) (number_of_object c.loop-at.at) (ap number_of_object c.in-Some.is) c.loop-at.invariant.inside (number_of_object c.delegate-at.result) up;
      same = any_next h c.args.wanted.0 c.in-Some.o.0 (number_of_object c.loop-at.at) (number_of_object c.delegate-at.result) f (ap number_of_object c.in-Some.is) (ne_eqb c.args.wanted.0 c.in-Some.o.0 (λ q. c.if-o-wanted.false (sym q))) up ∙ c.loop-at.invariant.same;
    }

pub loop-at-smaller : goal.loop-at-smaller
loop-at-smaller c =
    let h = c.args.s.now.arena in
    less_left (delegate_at h) (delegates_fall c.args.linked.now h c.requires.over) c.in-Some.o.0 (number_of_object c.loop-at.at) (number_of_object c.delegate-at.result) (ap number_of_object c.in-Some.is) (ap number_of_object c.delegate-at.ensures)

pub returns : goal.returns
returns c =
    let h = c.args.s.now.arena in
    sym (any_end h c.args.wanted.0 (number_of_object c.loop-at.at) (ap number_of_object c.in_default.is)) ∙ c.loop-at.invariant.same

pub returns-then-o-wanted : goal.returns-then-o-wanted
returns-then-o-wanted c =
    let h = c.args.s.now.arena in
    any_here h c.args.wanted.0 c.in-Some.o.0 (number_of_object c.loop-at.at) (delegates_fall c.args.linked.now h c.requires.over) (ap number_of_object c.in-Some.is) (eq-eqb c.args.wanted.0 c.in-Some.o.0 (sym c.if-o-wanted.true)) ∙ c.loop-at.invariant.same
