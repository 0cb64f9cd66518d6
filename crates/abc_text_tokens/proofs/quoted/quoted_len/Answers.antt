-- How far the quoted text goes.
use Rattle.std.proofs.Common.{◌≡◌, true, false, nat_eq, drop, get_or, sym, ap, ◌∙◌, arith}
use Rattle.std.proofs.lemmas.List.{length-drop}
use Rattle.std.proofs.lemmas.Bool.Decides.{nat_tests}
use Rattle.abc_text_lines.specs.Tokens.{backslash, quote}
use Rattle.abc_text_tokens.specs.Walks.{begins_escape}
use Rattle.abc_text_tokens.proofs.Quoting.{closed_at, open_at_end, open_at_escape, opened_escape, opened_plain, within_escape}
use Rattle.abc_text_tokens.proofs.Walking.{tail_is}
use Rattle.abc_text_tokens.proofs.quoted.quoted_len.Goals as goal

pub returns-then-bytes-i-eq34 : goal.returns-then-bytes-i-eq34
returns-then-bytes-i-eq34 c =
    let is : nat_eq (get_or c.args.bytes.now c.loop-i.i 0) quote ≡ true = (let e = c.if-bytes-i-eq34.true in grind (arith, nat_tests)) in
    (c.loop-i-test.true, closed_at c.args.bytes.now c.loop-i.i c.loop-i-test.true is c.loop-i.invariant.opened)

pub loop-i-preserved-then-is_escape : goal.loop-i-preserved-then-is_escape
loop-i-preserved-then-is_escape c =
    let bytes = c.args.bytes.now in
    let i = c.loop-i.i in
    let is : begins_escape (drop i bytes) ≡ true = ap begins_escape (sym (tail_is bytes i)) ∙ cc (c.is_escape.ensures, c.if-is_escape.true) in
    let far = within_escape bytes i is in
    let len = length-drop i bytes in
    record { within = omega (arith, far, len); opened = opened_escape bytes i c.loop-i.invariant.within is c.loop-i.invariant.opened }

pub returns-then-bytes-i-eq92 : goal.returns-then-bytes-i-eq92
returns-then-bytes-i-eq92 c =
    let bytes = c.args.bytes.now in
    let i = c.loop-i.i in
    let is : nat_eq (get_or bytes i 0) backslash ≡ true = (let e = c.if-bytes-i-eq92.true in grind (arith, nat_tests)) in
    let none : begins_escape (drop i bytes) ≡ false = ap begins_escape (sym (tail_is bytes i)) ∙ cc (c.is_escape.ensures, c.if-is_escape.false) in
    open_at_escape bytes i c.loop-i-test.true is none c.loop-i.invariant.opened

pub loop-i-preserved : goal.loop-i-preserved
loop-i-preserved c =
    let bytes = c.args.bytes.now in
    let i = c.loop-i.i in
    let first : nat_eq (get_or bytes i 0) quote ≡ false = (let e = c.if-bytes-i-eq34.false in grind (arith, nat_tests)) in
    let second : nat_eq (get_or bytes i 0) backslash ≡ false = (let e = c.if-bytes-i-eq92.false in grind (arith, nat_tests)) in
    record { within = omega (arith, c.loop-i-test.true); opened = opened_plain bytes i c.loop-i-test.true first second c.loop-i.invariant.opened }

pub returns : goal.returns
returns c = open_at_end c.args.bytes.now c.loop-i.i (omega (arith, c.loop-i-test.false)) c.loop-i.invariant.opened
