-- The text so far.
use Rattle.std.proofs.Common.{◌≡◌, ◌+◌, ◌++◌, ◌∷◌, [], ℕ, List, true, false, drop, sym, ap, ◌∙◌, append-nil, arith}
use Rattle.std.proofs.lemmas.List.{drop_all, length-drop}
use Rattle.abc_text_tokens.specs.Walks.{begins_escape, quoted_text}
use Rattle.abc_text_tokens.proofs.Quoting.{escape_hex, made_escape, made_plain, meant_empty, within_escape}
use Rattle.abc_text_tokens.proofs.Walking.{tail_is}
use Rattle.abc_text_tokens.proofs.quoted.unquoted.Goals as goal

pub hex_pair-requires-clause-high : goal.hex_pair-requires-clause-high
hex_pair-requires-clause-high c =
    let is : begins_escape (drop c.loop-i.i c.args.quoted.now) ≡ true = ap begins_escape (sym (tail_is c.args.quoted.now c.loop-i.i)) ∙ cc (c.is_escape.ensures, c.if-is_escape.true) in
    (escape_hex c.args.quoted.now c.loop-i.i is).0

pub hex_pair-requires-clause-low : goal.hex_pair-requires-clause-low
hex_pair-requires-clause-low c =
    let is : begins_escape (drop c.loop-i.i c.args.quoted.now) ≡ true = ap begins_escape (sym (tail_is c.args.quoted.now c.loop-i.i)) ∙ cc (c.is_escape.ensures, c.if-is_escape.true) in
    (escape_hex c.args.quoted.now c.loop-i.i is).1

pub loop-i-preserved-then-is_escape : goal.loop-i-preserved-then-is_escape
loop-i-preserved-then-is_escape c =
    let bytes = c.args.quoted.now in
    let i = c.loop-i.i in
    let is : begins_escape (drop i bytes) ≡ true = ap begins_escape (sym (tail_is bytes i)) ∙ cc (c.is_escape.ensures, c.if-is_escape.true) in
    let far = within_escape bytes i is in
    let len = length-drop i bytes in
    let pushed : c.push.new.self ≡ c.loop-i.text ++ c.hex_pair.result ∷ [] = c.in_ok-push.ensures.ok in
    record {
      within = omega (arith, far, len);
      made = ap (λ (t : List ℕ). t ++ quoted_text (drop (i + 3) bytes)) (pushed ∙ ap (λ (n : ℕ). c.loop-i.text ++ n ∷ []) c.hex_pair.ensures) ∙ made_escape bytes c.loop-i.text i is c.loop-i.invariant.made;
    }

pub loop-i-preserved : goal.loop-i-preserved
loop-i-preserved c =
    let bytes = c.args.quoted.now in
    let i = c.loop-i.i in
    let none : begins_escape (drop i bytes) ≡ false = ap begins_escape (sym (tail_is bytes i)) ∙ cc (c.is_escape.ensures, c.if-is_escape.false) in
    record {
      within = omega (arith, c.loop-i-test.true);
      made = ap (λ (t : List ℕ). t ++ quoted_text (drop (i + 1) bytes)) c.in_ok-push-2.ensures.ok ∙ made_plain bytes c.loop-i.text i c.loop-i-test.true none c.loop-i.invariant.made;
    }

pub returns : goal.returns
returns c =
    let all : drop c.loop-i.i c.args.quoted.now ≡ [] = drop_all c.loop-i.i c.args.quoted.now (omega (arith, c.loop-i-test.false)) in
    sym (append-nil c.loop-i.text) ∙ ap (λ (l : List ℕ). c.loop-i.text ++ l) (sym (ap quoted_text all ∙ meant_empty)) ∙ c.loop-i.invariant.made
