use Rattle.std.proofs.Common.{rules, ◌∙◌, ℕ, ap}
use Rattle.std.proofs.lemmas.Fmt.{decimal_digit}
use Rattle.abc_heap_values.specs.Filling.{Filling}
use Rattle.abc_heap_store.proofs.Indexed.{index_text}
use Rattle.abc_heap_store.proofs.store.Store.text_of_digit.Goals as goal

pub invariant_of-self : goal.invariant_of-self
invariant_of-self c =
    let l = c.self.invariant.limits in
    record {
      heads = c.self.invariant.heads;
      limits = record {
        objects = l.objects;
        cells = l.cells;
        scopes = l.scopes;
        text = ap (λ (f : Filling ℕ). f.limit) c.push.ensures ∙ l.text;
        within = l.within;
        small = l.small;
      };
      index = index_text c.self.inside.fixed c.self.inside.made.items _ _ c.self.inside.strings c.self.inside.cells c.self.inside.buckets c.self.invariant.index (ap (λ (f : Filling ℕ). f.items) c.push.ensures);
    }

pub returns-then-start-self : goal.returns-then-start-self
returns-then-start-self c = rw (decimal_digit c.args.digit c.requires) (search rules)

pub returns : goal.returns
returns c = rw (decimal_digit c.args.digit c.requires) (search rules)
