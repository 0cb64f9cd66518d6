-- One line more.
use Rattle.std.proofs.Common.{◌+◌, ◌<◌, get_or, length, refl, sym, ◌∙◌, arith}
use Rattle.std.proofs.lemmas.List.{length-set}
use Rattle.abc_text_tokens.proofs.Counted.{few_more, none_yet, none_yet_le, zero_at}
use Rattle.abc_text_tokens.proofs.Passing.{counted_on, none_left, passed_on, tables_in}
use Rattle.abc_text_tokens.proofs.sizes.counts_of.Goals as goal

pub loop-rest-init : goal.loop-rest-init
loop-rest-init c = record {
  len = refl;
  few = λ k lt. none_yet_le _ _ (zero_at 26 k);
  counted = λ k is. none_yet _ _ (zero_at 26 k);
}

pub returns : goal.returns
returns c k is =
    let none = none_left k c.loop-rest.rest.now (sym c.is_empty.ensures ∙ c.loop-rest-test.false) in
    omega (arith, none, c.loop-rest.invariant.counted k is)

pub loop-rest-preserved-in-Some : goal.loop-rest-preserved-in-Some
loop-rest-preserved-in-Some c =
    let counts = c.loop-rest.counts in
    let p = c.in-Some.place in
    let more = c.split_line.result.1.now in
    let bound : p < length counts = omega (arith, c.loop-rest.invariant.len, c.in-Some.ensures.0) in
    record {
      len = length-set counts p (get_or counts p 0 + 1) ∙ c.loop-rest.invariant.len;
      few = λ k lt. few_more counts p k (length more) (length more) (length c.args.text.now) bound (omega arith) (omega (arith, c.split_line.ensures.short, c.loop-rest.invariant.few k lt));
      counted = λ k is. counted_on counts p k (tables_in k c.args.text.now) c.loop-rest.rest.now c.split_line.result.0.now more c.split_line.ensures.lines c.in-Some.ensures bound (c.loop-rest.invariant.counted k is);
    }

pub loop-rest-preserved : goal.loop-rest-preserved
loop-rest-preserved c = record {
  len = c.loop-rest.invariant.len;
  few = λ k lt. omega (arith, c.split_line.ensures.short, c.loop-rest.invariant.few k lt);
  counted = λ k is. passed_on c.loop-rest.counts k (tables_in k c.args.text.now) c.loop-rest.rest.now c.split_line.result.0.now c.split_line.result.1.now c.split_line.ensures.lines c.in_default.ensures is (c.loop-rest.invariant.counted k is);
}
