use Rattle.std.proofs.Common.{◌∙◌, ap, arith, length, sym, subst, ℕ}
use Rattle.std.specs.List.{concat}
use Rattle.abc_objects.specs.Opening.{IsOpeningWithin, opening, opening_counts, property_names}
use Rattle.abc_objects.proofs.Steps.{property_names_short}
use Rattle.abc_objects.proofs.opening.open_store.Goals as goal

pub test_room-requires-clause-few : goal.test_room-requires-clause-few
test_room-requires-clause-few g c = omega (arith, (g.met.H.Host.formed c.args.host.now).few, c.count-count.ensures)

pub opened_store-requires-clause-count : goal.opened_store-requires-clause-count
opened_store-requires-clause-count g c = omega (arith, c.count-count.ensures, ap length c.in_ok-formulas.ensures, (property_names_short (g.H.Host.formulas c.args.host.now) (g.met.H.Host.formed c.args.host.now)).1)

pub opened_store-requires-clause-few : goal.opened_store-requires-clause-few
opened_store-requires-clause-few g c = omega (arith, (g.met.H.Host.formed c.args.host.now).few, c.count-count.ensures)

pub opened_store-requires-clause-short : goal.opened_store-requires-clause-short
opened_store-requires-clause-short g c = omega (arith, ap (λ fs. length (concat (property_names fs))) c.in_ok-formulas.ensures, (property_names_short (g.H.Host.formulas c.args.host.now) (g.met.H.Host.formed c.args.host.now)).0)

pub returns : goal.returns
returns g c =
    let l = c.args.l.now in
    let n = property_names_short (g.H.Host.formulas c.args.host.now) (g.met.H.Host.formed c.args.host.now) in (
      subst (λ (k : ℕ). IsOpeningWithin (opening_counts l k) c.args.limits.now) (c.count-count.ensures ∙ sym n.1) c.in_ok-test_room.ensures,
      c.in_ok-store.ensures ∙ ap (λ fs. opening l fs c.args.limits.now) c.in_ok-formulas.ensures,
    )
