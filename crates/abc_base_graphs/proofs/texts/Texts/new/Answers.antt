use Rattle.std.proofs.Common.{◌∙◌, ap, arith, cond, Some, []}
use Rattle.std.specs.Str.{bytes_eq}
use Rattle.abc_base_graphs.proofs.Lookup.{text_more, text_last}
use Rattle.abc_base_graphs.proofs.texts.Texts.new.Goals as goal

pub loop-i-preserved : goal.loop-i-preserved
loop-i-preserved c = λ text. c.in_ok-note.ensures.notes text ∙ text_more c.args.strings.now c.loop-i.i c.text_at.result.now text _ (omega arith) (omega arith) c.text_at.ensures (c.loop-i.invariant text)

pub returns : goal.returns
returns c = record {
  has = λ text.
      c.in_ok-note-2.ensures.notes text
      ∙ ap (λ o. cond (bytes_eq text []) (Some 0) o) (text_last c.args.strings.now c.loop-i.i text _ (omega arith) (c.loop-i.invariant text));
}
