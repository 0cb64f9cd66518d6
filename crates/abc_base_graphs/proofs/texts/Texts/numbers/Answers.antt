use Rattle.abc_base_graphs.proofs.Numbering.{numbers_law, numbers_whole}
use Rattle.abc_base_graphs.proofs.texts.Texts.numbers.Goals as goal

pub returns : goal.returns
returns c =
    let each = numbers_whole c.args.self.now c.args.strings.now c.as_slice-string-items.result.now c.loop-string.numbers c.loop-string.string-index c.loop-string.invariant c.as_slice-string-items.ensures c.loop-string-test.false in
    record { same = numbers_law c.args.self.now c.args.strings.now c.loop-string.numbers c.requires each; each = each }
