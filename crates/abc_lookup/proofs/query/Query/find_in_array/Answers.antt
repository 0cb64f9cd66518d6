use Rattle.std.proofs.Common.{◌∙◌, sym, ap}
use Rattle.std.specs.Str.{bytes_eq}
use Rattle.abc_objects.specs.ElementNames.{is_length}
use Rattle.abc_lookup.proofs.Things.{length_hit, length_miss}
use Rattle.abc_lookup.proofs.query.Query.find_in_array.Goals as goal

pub returns-then-eq : goal.returns-then-eq
returns-then-eq c =
    let q = c.args.self.now in
    sym (length_hit q.l.now q.a.now q.name q.skip c.args.o.0 _ (ap is_length (sym q.texted) ∙ ap (bytes_eq q.text.now) (sym c.as_slice.ensures) ∙ sym c.eq.ensures ∙ c.if-eq.true))

pub returns : goal.returns
returns c =
    let q = c.args.self.now in
    c.find_numbered.ensures
    ∙ sym (length_miss q.l.now q.a.now q.name q.skip c.args.o.0 _ (ap is_length (sym q.texted) ∙ ap (bytes_eq q.text.now) (sym c.as_slice.ensures) ∙ sym c.eq.ensures ∙ c.if-eq.false))
