-- The instructions that bytes at hand begin with.
use Rattle.std.specs.Prelude.{◌≤ℤ◌, ◌<ℤ◌, negsuc}
use Rattle.std.proofs.Common.{◌≡◌, ℕ, ℤ, suc, pos, ◌%◌, ◌*◌, ◌+◌, ◌-◌, ◌<◌, ◌≤◌, ◌^◌, inl, inr, subst, List, [], ◌∷◌, ◌++◌, length, length-take, length-drop, take, drop, get_or, Some, Ok, refl, sym, ap, ◌∙◌, append_assoc, unwrap_or, is_some, true, arith}
use Rattle.std.specs.declared.option.Option.{Option}
use Rattle.std.proofs.lemmas.Bool.{cases_lt, le-ltb, lt-ltb}
use Rattle.std.proofs.lemmas.Int.{ints}
use Rattle.std.specs.Int.{w8, cast_signed}
use Rattle.std.proofs.lemmas.List.{append-nil, take_all}
use Rattle.std.proofs.Math.Seq.{take-add}
use Rattle.abc_base.specs.Numbers.{SpellsNumber, signed24}
use Rattle.abc_base.proofs.Spelling.{number_shortest}
use Rattle.abc_file_types.specs.Canonical.{FitsS24}
use Rattle.abc_file_types.specs.Ends.{blame_first}
use Rattle.abc_file_types.specs.Part.{limit}
use Rattle.abc_file_types.specs.Numbers.{s24, u8, u30}
use Rattle.abc_file_types.specs.declared.code.Instr.TheVariants as instrs
use Rattle.abc_file_types.specs.declared.opcodes.Form.{Form}
use Rattle.abc_file_types.specs.declared.opcodes.Form.TheVariants as forms
use Rattle.abc_file_types.specs.Instructions.{RawInstr, Branch, Same, instruction, opcode_part, operand_parts, signed_byte}
use Rattle.abc_file_types.specs.Opcodes.{form_at}
use Rattle.abc_file_types.proofs.CodeParts.{instruction-exact}
use Rattle.abc_varint.proofs.Front.{front_taken}
use Rattle.abc_varint.specs.Reads.{Reads}
use Rattle.abc_varint.specs.Ready.{HoldsReady}
use Rattle.abc_varint.specs.View.{GoesOver, View, held_bytes, onward}
use Rattle.abc_varint.proofs.Inputs.{among}
use Rattle.abc_instr.specs.Fronts.{IsInstructionFront, front_length}
use Rattle.abc_instr.specs.declared.front.Front.{Front}
use Rattle.abc_instr.specs.declared.front.Front.TheVariants as fronts
use Rattle.abc_instr.specs.declared.raw.RawInstr.{RawInstr as Raw}
use Rattle.abc_instr.specs.declared.raw.RawInstr.TheVariants as raws
use Rattle.abc_instr.specs.Offsets.{raw_len, raw_of}

-- an opcode, with the operands of its form
pub spelled : (op : ℕ) (form : Form) (x : RawInstr) (rest : List ℕ) → form_at op ≡ Some form → (operand_parts op form).spells x rest → instruction.spells x (op ∷ rest)
unfolding instruction opcode_part u8
spelled op form x rest e s =
    let some : is_some (form_at op) ≡ true = rw e refl in
    let is : (op, form) ≡ (op, unwrap_or (form_at op) forms.Plain) = rw e refl in
    (((op, form), x), (op ∷ [], rest, refl, (op, (refl, some), is), s), refl)

-- a number that is below 2^30
pub small : (n : ℕ) (b : List ℕ) → SpellsNumber n b → n < 2 ^ 30 → u30.spells n b
unfolding u30
small n b s lt = (s, lt-ltb _ _ lt)

pub taken_one : (k op : ℕ) (rest : List ℕ) → take (1 + k) (op ∷ rest) ≡ op ∷ take k rest
taken_one k op rest = let e : 1 + k ≡ suc k = omega arith in rw e refl

taken_two : (j k op : ℕ) (rest : List ℕ) → take (1 + j + k) (op ∷ rest) ≡ op ∷ (take j rest ++ take k (drop j rest))
taken_two j k op rest = let e : 1 + j + k ≡ suc (j + k) = omega arith in rw e (ap (λ (l : List ℕ). op ∷ l) (take-add j k rest))

after_one : (j op : ℕ) (rest : List ℕ) → drop (1 + j) (op ∷ rest) ≡ drop j rest
after_one j op rest = let e : 1 + j ≡ suc j = omega arith in rw e refl

-- the bytes from a position to the end are those from it on
pub all_after : {A : Type 0} (spells : A → List ℕ → Type 0) (k n : ℕ) (x : A) (bytes : List ℕ) → spells x (take n (take (length bytes - k) (drop k bytes))) → spells x (take n (drop k bytes))
all_after spells k n x bytes s = let all : take (length bytes - k) (drop k bytes) ≡ drop k bytes = take_all (length bytes - k) (drop k bytes) (omega (arith, length-drop k bytes)) in rw all at s

-- what is put in two goes
pub put_after : {A : Type 0} (old mid new a b : List A) → mid ≡ old ++ a → new ≡ mid ++ b → new ≡ old ++ (a ++ b)
put_after old mid new a b first put = put ∙ rw first (append_assoc old a b)

pub plain_front : {A : Type 0} (puts : Raw → List A) (bytes : List ℕ) (old new : List A) → 11 ≤ length bytes → form_at (get_or bytes 0 0) ≡ Some forms.Plain → new ≡ old ++ puts (raws.Same (instrs.Plain (get_or bytes 0 0))) → IsInstructionFront puts (fronts.Put 1) bytes old new
plain_front puts [] old new len form put = absurd (omega arith)
plain_front puts (op ∷ rest) old new len form put = record {
  instr = raws.Same (instrs.Plain op);
  spelled = spelled op forms.Plain (Same (instrs.Plain op)) [] form (refl, refl);
  some = omega arith;
  few = omega arith;
  told = refl;
  raw = (form, refl);
  short = omega arith;
  put = put;
}

pub one_front : {A : Type 0} (puts : Raw → List A) (bytes : List ℕ) (n k : ℕ) (old new : List A) → 11 ≤ length bytes → form_at (get_or bytes 0 0) ≡ Some forms.One → SpellsNumber n (take k (drop 1 bytes)) → 0 < k → k ≤ 5 → n < 2 ^ 30
    → new ≡ old ++ puts (raws.Same (instrs.One (get_or bytes 0 0) n)) → IsInstructionFront puts (fronts.Put (1 + k)) bytes old new
one_front puts [] n k old new len form s some few lt put = absurd (omega arith)
one_front puts (op ∷ rest) n k old new len form s some few lt put =
    let count : length (take k rest) ≡ k = omega (arith, length-take k rest) in
    record {
      instr = raws.Same (instrs.One op n);
      spelled = rw (taken_one k op rest) (spelled op forms.One (Same (instrs.One op n)) (take k rest) form (n, small n (take k rest) s lt, refl));
      some = omega arith;
      few = omega arith;
      told = refl;
      raw = ((form, lt), refl);
      short = omega (arith, number_shortest n (take k rest) s, count);
      put = put;
    }

pub two_front : {A : Type 0} (puts : Raw → List A) (bytes : List ℕ) (n m j k : ℕ) (old new : List A) → 11 ≤ length bytes → form_at (get_or bytes 0 0) ≡ Some forms.Two
    → SpellsNumber n (take j (drop 1 bytes)) → 0 < j → j ≤ 5 → n < 2 ^ 30 → SpellsNumber m (take k (drop (1 + j) bytes)) → 0 < k → k ≤ 5 → m < 2 ^ 30
    → new ≡ old ++ puts (raws.Same (instrs.Two (get_or bytes 0 0) n m)) → IsInstructionFront puts (fronts.Put (1 + j + k)) bytes old new
two_front puts [] n m j k old new len form s some few lt s2 some2 few2 lt2 put = absurd (omega arith)
two_front puts (op ∷ rest) n m j k old new len form s some few lt s2 some2 few2 lt2 put =
    let one : length (take j rest) ≡ j = omega (arith, length-take j rest) in
    let t = rw (after_one j op rest) at s2 in
    let two : length (take k (drop j rest)) ≡ k = omega (arith, length-take k (drop j rest), length-drop j rest) in
    record {
      instr = raws.Same (instrs.Two op n m);
      spelled = rw (taken_two j k op rest) (spelled op forms.Two (Same (instrs.Two op n m)) (take j rest ++ take k (drop j rest)) form ((n, m), (take j rest, take k (drop j rest), refl, small n (take j rest) s lt, small m (take k (drop j rest)) t lt2), refl));
      some = omega arith;
      few = omega arith;
      told = refl;
      raw = ((form, lt, lt2), refl);
      short = omega (arith, number_shortest n (take j rest) s, number_shortest m (take k (drop j rest)) t, one, two);
      put = put;
    }

pub byte_front : {A : Type 0} (puts : Raw → List A) (bytes : List ℕ) (z : ℤ) (old new : List A) → 11 ≤ length bytes → form_at (get_or bytes 0 0) ≡ Some forms.Byte → negsuc 127 ≤ℤ z → z <ℤ pos 128 → z ≡ cast_signed w8 (get_or bytes 1 0) → get_or bytes 1 0 < 256
    → new ≡ old ++ puts (raws.Same (instrs.Byte z)) → IsInstructionFront puts (fronts.Put 2) bytes old new
unfolding signed_byte u8
byte_front puts [] z old new len form low high is lt put = absurd (omega arith)
byte_front puts (op ∷ []) z old new len form low high is lt put = absurd (omega arith)
byte_front puts (op ∷ x ∷ rest) z old new len form low high is lt put =
    let same : z ≡ cast_signed w8 (x % 256) = let e : x % 256 ≡ x = omega arith in rw e is in
    record {
      instr = raws.Same (instrs.Byte z);
      spelled = spelled op forms.Byte (Same (instrs.Byte z)) (x ∷ []) form (z, (x, refl, same), refl);
      some = omega arith;
      few = omega arith;
      raw = ((low, high), refl);
      short = omega arith;
      told = refl;
      put = put;
    }

-- an offset that three bytes spell
pub offset_fits : (z : ℤ) (b : List ℕ) → s24.spells z b → FitsS24 z
unfolding s24
offset_fits z b s = subst FitsS24 (sym s.2) (signed (s.0.0 % 256 + 256 * (s.0.1.0 % 256) + 65536 * (s.0.1.1 % 256)) (omega arith)) where
  signed : (x : ℕ) → x < 2 ^ 24 → FitsS24 (signed24 x)
  signed x lt = elim (cases_lt x (2 ^ 23)) [
    | inl low ↦ rw (lt-ltb x (2 ^ 23) low) (omega (arith, ints), omega (arith, ints))
    | inr high ↦ rw (le-ltb x (2 ^ 23) high) (omega (arith, ints), omega (arith, ints))
  ]

pub branch_front : {A : Type 0} (puts : Raw → List A) (bytes : List ℕ) (z : ℤ) (old : List A) → 11 ≤ length bytes → form_at (get_or bytes 0 0) ≡ Some forms.Branch → s24.spells z (take 3 (take (length bytes - 1) (drop 1 bytes)))
    → puts (raws.Branch (get_or bytes 0 0) z) ≡ [] → IsInstructionFront puts (fronts.Branch (get_or bytes 0 0) z) bytes old old
branch_front puts [] z old len form s none = absurd (omega arith)
branch_front {A = A} puts (op ∷ rest) z old len form s none =
    record {
      instr = raws.Branch op z;
      spelled = spelled op forms.Branch (Branch op z) (take 3 rest) form (z, all_after s24.spells 1 3 z (op ∷ rest) s, refl);
      some = omega arith;
      few = omega arith;
      raw = (form, offset_fits z _ s);
      short = omega arith;
      told = refl;
      put = sym (append-nil old) ∙ ap (λ (l : List A). old ++ l) (sym none);
    }

-- what was taken was read
pub taken : {A : Type 0} (puts : Raw → List A) (f : Front) (w w2 : View) (s : Option (List ℕ)) (old new : List A) → HoldsReady (front_length f) w → w2 ≡ onward (front_length f) w → (i : IsInstructionFront puts f (held_bytes w) old new) → Reads (blame_first instruction).reads w s w2 s (Ok (raw_of i.instr))
taken puts f w w2 s old new ready is i = front_taken (blame_first instruction) (raw_of i.instr) (front_length f) w w2 s instruction-exact (omega (arith, among w (front_length f) i.some ready.held)) ready i.spelled is

pub record Moves (i : Raw) (w w2 : View) : Type 0 where
  pub moves : w.place < w2.place
  pub passes : GoesOver (raw_len i) w w2
  pub room : w2.place ≤ limit

pub passed : {A : Type 0} (puts : Raw → List A) (f : Front) (w w2 : View) (old new : List A) → HoldsReady (front_length f) w → w2 ≡ onward (front_length f) w → (i : IsInstructionFront puts f (held_bytes w) old new) → Moves i.instr w w2
passed puts f w w2 old new ready is i =
    let at : w2.place ≡ w.place + front_length f = ap (λ (v : View). v.place) is in
    record { moves = omega (arith, i.some); passes = (omega (arith, i.short), omega (arith, ready.before)); room = omega (arith, ready.within) }
