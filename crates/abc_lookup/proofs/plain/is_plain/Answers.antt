use Rattle.std.proofs.Common.{◌∙◌, ℕ, arith, subst, sym}
use Rattle.abc_lookup.specs.NoTraits.{HasNoTraits}
use Rattle.abc_lookup.proofs.Stands.{layout_in}
use Rattle.abc_lookup.proofs.plain.is_plain.Goals as goal

pub has_no_traits-requires : goal.has_no_traits-requires
has_no_traits-requires c = let h = layout_in c.args.l.now c.args.a.now c.args.o.0 c.requires.over c.requires.holder in let e = c.layout.ensures in omega (arith, h, e)

pub returns : goal.returns
returns c = λ e. record {
  bare = subst (λ (x : ℕ). HasNoTraits c.args.l.now x) c.layout.ensures (c.has_no_traits.ensures c.if-not-has_no_traits.false);
  public = sym c.holds_public.ensures ∙ e;
}
