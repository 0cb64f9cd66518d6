use Rattle.std.proofs.Common.{refl}
use Rattle.abc_text_reader.proofs.Fresh.{fresh_reader, fresh_rows}
use Rattle.abc_text_reader.proofs.reader.Reader.new.Goals as goal

pub returns-clause-is : goal.returns-clause-is
returns-clause-is c =
    fresh_reader c.args.text.now c.next_line-next.result c.next_line-next.ensures _ refl refl c.new-3.ensures.empty c.new-4.ensures.empty refl c.new-5.ensures c.requires refl refl c.sizes_of-instances.ensures.sizes c.sizes_of-instances.ensures.instances c.new.ensures.items refl

pub returns-clause-rows : goal.returns-clause-rows
returns-clause-rows c = fresh_rows c.args.text.now c.next_line-next.result c.next_line-next.ensures _ refl refl c.new-3.ensures.empty c.new-4.ensures.empty refl c.new-5.ensures
