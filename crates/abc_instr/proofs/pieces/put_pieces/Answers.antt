use Rattle.std.proofs.Common.{◌≡◌, ◌<◌, ◌++◌, List, ℕ, length, get_or, refl, sym, ap, ◌∙◌, append_assoc, arith}
use Rattle.std.proofs.lemmas.List.{get_or_read_under}
use Rattle.abc_base.specs.Numbers.{number_bytes}
use Rattle.abc_file_types.specs.CodeBytes.{canonical_starts, code_bytes, code_len, instrs_bytes}
use Rattle.abc_file_types.proofs.Lengths.{canonical_count, canonical_end}
use Rattle.abc_instr.proofs.Filling.{filled_is, gaps_all_within}
use Rattle.abc_instr.proofs.pieces.put_pieces.Goals as goal

pub get-requires : goal.get-requires
get-requires c = rw c.requires.pieces.starts (omega (arith, canonical_count c.args.code.now, c.len.ensures))

put_both : (code : List _) (ss old mid new : List ℕ) (n : ℕ) → ss ≡ canonical_starts code → n ≡ code_len code → mid ≡ old ++ number_bytes n → new ≡ mid ++ instrs_bytes ss 0 code → new ≡ old ++ code_bytes code
unfolding code_bytes
put_both code ss old mid new n s e m h = h ∙ rw (m, s, e) (append_assoc old (number_bytes (code_len code)) (instrs_bytes (canonical_starts code) 0 code))

pub returns : goal.returns
returns c =
    let within : length c.args.code.now < length c.args.pieces.now.starts = rw c.requires.pieces.starts (omega (arith, canonical_count c.args.code.now)) in
    let read : c.get.result.now ≡ get_or c.args.pieces.now.starts (length c.args.code.now) 0 = get_or_read_under c.args.pieces.now.starts (length c.args.code.now) (length c.args.pieces.now.starts) c.get.result.now 0 (sym (rw c.len.ensures at c.get.ensures)) within refl in
    let last : c.get.result.now ≡ code_len c.args.code.now = read ∙ ap (λ (l : List ℕ). get_or l (length c.args.code.now) 0) c.requires.pieces.starts ∙ canonical_end c.args.code.now in
    put_both c.args.code.now c.args.pieces.now.starts c.args.out.now.items c.put_u30.new.out.items c.put_filled.new.out.items c.get.result.now c.requires.pieces.starts last c.in_ok-put_u30.ensures
    (c.in_ok-put_filled.ensures ∙ ap (λ l. c.put_u30.new.out.items ++ l) (filled_is c.args.code.now c.args.pieces.now c.as_slice.result.now c.deref.result.now c.deref-2.result.now c.requires.pieces c.as_slice.ensures c.deref.ensures.value c.deref-2.ensures.value))

pub put_filled-requires-clause-within : goal.put_filled-requires-clause-within
put_filled-requires-clause-within c = gaps_all_within c.args.code.now c.args.pieces.now c.deref-2.result.now c.requires.pieces c.deref-2.ensures.value
