use Rattle.std.proofs.Common.{◌≡◌, ◌∙◌, refl, sym, ap, length}
use Rattle.abc_base_graphs.proofs.Walks.{step_in}
use Rattle.abc_objects.specs.Candidates.{answer_of_search, things_along}
use Rattle.abc_objects.specs.Objects.{delegate_at, number_of_object}
use Rattle.abc_objects.specs.Results.{or_next}
use Rattle.abc_objects.proofs.Joins.{hit_first, or_missing}
use Rattle.abc_lookup.proofs.Along.{less_left}
use Rattle.abc_lookup.proofs.Stands.{delegates_fall, inside, object_in}
use Rattle.abc_lookup.proofs.Things.{things_end, things_next}
use Rattle.abc_lookup.proofs.query.Query.find_along.Goals as goal

pub loop-at-init : goal.loop-at-init
loop-at-init c = record { inside = inside c.args.self.now.a.now c.args.holder c.requires.inside; same = refl }

pub find_own-requires-clause-inside : goal.find_own-requires-clause-inside
find_own-requires-clause-inside c = object_in c.args.self.now.a.now c.loop-at.at c.in-Some.o c.in-Some.is c.loop-at.invariant.inside

pub delegate-at-requires : goal.delegate-at-requires
delegate-at-requires c = object_in c.args.self.now.a.now c.loop-at.at c.in-Some.o c.in-Some.is c.loop-at.invariant.inside

pub loop-at-preserved : goal.loop-at-preserved
loop-at-preserved c =
    let q = c.args.self.now in
    let up : number_of_object c.delegate-at.result ≡ delegate_at q.a.now c.in-Some.o.0 = ap number_of_object c.delegate-at.ensures in
    record {
      inside = step_in (delegate_at q.a.now) (delegates_fall q.l.now q.a.now c.requires.over) c.in-Some.o.0 (length q.a.now.objects) (number_of_object c.loop-at.at) (ap number_of_object c.in-Some.is) c.loop-at.invariant.inside (number_of_object c.delegate-at.result) up;
      same =
          ap (λ o. or_next c.or-so_far.result (answer_of_search q.l.now q.a.now q.name q.skip (things_along q.a.now o))) up
          ∙ things_next q.l.now q.a.now q.name q.skip c.in-Some.o.0 (number_of_object c.loop-at.at) c.loop-at.so_far c.find_own.result c.or-so_far.result _ (delegates_fall q.l.now q.a.now c.requires.over) (ap number_of_object c.in-Some.is) c.loop-at.invariant.same c.find_own.ensures c.or-so_far.ensures;
    }

pub loop-at-smaller : goal.loop-at-smaller
loop-at-smaller c =
    let q = c.args.self.now in
    less_left (delegate_at q.a.now) (delegates_fall q.l.now q.a.now c.requires.over) c.in-Some.o.0 (number_of_object c.loop-at.at) (number_of_object c.delegate-at.result) (ap number_of_object c.in-Some.is) (ap number_of_object c.delegate-at.ensures)

pub returns-then-is_hit : goal.returns-then-is_hit
returns-then-is_hit c =
    let q = c.args.self.now in
    sym (hit_first _ _ (sym c.if-is_hit.ensures))
    ∙ things_next q.l.now q.a.now q.name q.skip c.in-Some.o.0 (number_of_object c.loop-at.at) c.loop-at.so_far c.find_own.result c.or-so_far.result _ (delegates_fall q.l.now q.a.now c.requires.over) (ap number_of_object c.in-Some.is) c.loop-at.invariant.same c.find_own.ensures c.or-so_far.ensures

pub returns-in_default : goal.returns-in_default
returns-in_default c =
    let q = c.args.self.now in
    sym (or_missing c.loop-at.so_far)
    ∙ ap (or_next c.loop-at.so_far) (sym (things_end q.l.now q.a.now q.name q.skip))
    ∙ ap (λ o. or_next c.loop-at.so_far (answer_of_search q.l.now q.a.now q.name q.skip (things_along q.a.now (number_of_object o)))) (sym c.in_default.is)
    ∙ c.loop-at.invariant.same
