use Rattle.std.proofs.Common.{ℕ, List, [], sym, ap, ◌∙◌}
use Rattle.abc_file_types.specs.declared.traits.TraitInfo.{TraitInfo}
use Rattle.abc_text_lines.specs.declared.word.Word.TheVariants as words
use Rattle.abc_asm.specs.Below.{initializer_item}
use Rattle.abc_asm.proofs.Beneath.{comes_next, none_reads, one_reads}
use Rattle.abc_asm.proofs.classes.read_initializer.Goals as goal

abbrev without : List TraitInfo → ℕ × List TraitInfo
without traits = (0, traits)

pub read_item-requires-clause-next : goal.read_item-requires-clause-next
read_item-requires-clause-next c = comes_next words.Initializer _ (sym c.comes.ensures ∙ c.if-comes.true)

pub returns-then-comes-clause-reads : goal.returns-then-comes-clause-reads
returns-then-comes-clause-reads c = one_reads words.Initializer initializer_item (0, []) c.args.reader.now c.read_item.new.reader c.read_item.result (sym c.comes.ensures ∙ c.if-comes.true) c.read_item.ensures.reads

pub returns-else-comes-clause-reads : goal.returns-else-comes-clause-reads
returns-else-comes-clause-reads c = none_reads words.Initializer initializer_item (0, []) c.args.reader.now (without c.new.result) (ap without c.new.ensures) (sym c.comes.ensures ∙ c.if-comes.false)
