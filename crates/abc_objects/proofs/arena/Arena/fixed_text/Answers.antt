use Rattle.std.proofs.Common.{◌≡◌, sym, subst}
use Rattle.abc_heap_values.specs.declared.values.Span.{Span}
use Rattle.abc_heap_store.specs.Texts.{text_of}
use Rattle.abc_objects.specs.Fixed.{fixed_name}
use Rattle.abc_objects.proofs.FixedTexts.{fixed_read}
use Rattle.abc_objects.proofs.arena.Arena.fixed_text.Goals as goal

pub returns-clause-text : goal.returns-clause-text
returns-clause-text c = λ l s. subst (λ (p : Span). text_of l.file.strings c.args.self.now p ≡ fixed_name c.args.text) (sym c.span.ensures) (fixed_read l c.args.self.now c.args.text s)
