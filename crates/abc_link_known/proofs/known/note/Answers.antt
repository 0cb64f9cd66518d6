use Rattle.std.proofs.Common.{List, sym, subst, arith}
use Rattle.std.specs.declared.option.Option.{Option}
use Rattle.abc_link_names.specs.Meanings.{AreKnown}
use Rattle.abc_link_names.specs.declared.meanings.Known.{Known}
use Rattle.abc_link_known.proofs.Telling.{noted}
use Rattle.abc_link_known.proofs.known.note.Goals as goal

pub returns : goal.returns
returns c = subst (λ (t : List (Option Known)). AreKnown c.args.abc.now t) (sym c.set.ensures) (noted c.args.abc.now c.args.known.now c.args.name c.args.named c.requires.known (omega arith) c.requires.named)
