use Rattle.std.proofs.Common.{refl}
use Rattle.abc_varint.proofs.Front.{all_high, spells_1, spells_2, spells_3, spells_4, spells_5}
use Rattle.abc_varint.proofs.window.front_number.Goals as goal

pub returns-then-a-lt128-clause-spelled : goal.returns-then-a-lt128-clause-spelled
returns-then-a-lt128-clause-spelled c = spells_1 c.args.bytes.now _ c.requires refl c.if-a-lt128.true

pub returns-then-b-lt128-clause-spelled : goal.returns-then-b-lt128-clause-spelled
returns-then-b-lt128-clause-spelled c = spells_2 c.args.bytes.now _ _ _ c.requires refl refl c.if-a-lt128.false c.if-b-lt128.true refl

pub returns-then-c-lt128-clause-spelled : goal.returns-then-c-lt128-clause-spelled
returns-then-c-lt128-clause-spelled c = spells_3 c.args.bytes.now _ _ _ _ c.requires refl refl refl c.if-a-lt128.false c.if-b-lt128.false c.if-c-lt128.true refl

pub returns-then-d-lt128-clause-spelled : goal.returns-then-d-lt128-clause-spelled
returns-then-d-lt128-clause-spelled c = spells_4 c.args.bytes.now _ _ _ _ _ c.requires refl refl refl refl c.if-a-lt128.false c.if-b-lt128.false c.if-c-lt128.false c.if-d-lt128.true refl

pub returns-then-e-lt128-clause-spelled : goal.returns-then-e-lt128-clause-spelled
returns-then-e-lt128-clause-spelled c = spells_5 c.args.bytes.now _ _ _ _ _ _ c.requires refl refl refl refl refl c.if-a-lt128.false c.if-b-lt128.false c.if-c-lt128.false c.if-d-lt128.false c.if-e-lt128.true refl

pub returns-clause-none : goal.returns-clause-none
returns-clause-none c = λ h. all_high c.args.bytes.now _ _ _ _ _ c.requires refl refl refl refl refl c.if-a-lt128.false c.if-b-lt128.false c.if-c-lt128.false c.if-d-lt128.false c.if-e-lt128.false
