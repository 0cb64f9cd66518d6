-- The canonical bytes of code spell it, and are the least.
use Rattle.std.proofs.Common.{◌≡◌, ℕ, zero, suc, ℤ, pos, negsuc, ◌≤ℤ◌, ◌<ℤ◌, ◌+◌, ◌-◌, ◌*◌, ◌^◌, ◌%◌, ◌<◌, ◌≤◌, inl, inr, Bool, true, false, List, [], ◌∷◌, ◌++◌, length, get_or, map, Some, None, refl, sym, ap, subst, ◌∙◌, length-append, arith}
use Rattle.std.specs.Prelude.{is_some, nat_eq, unwrap_or, if◌then◌else◌}
use Rattle.std.specs.Int.{w8, w16, cast_signed, cast_unsigned}
use Rattle.std.specs.List.{flat_map}
use Rattle.std.specs.declared.option.Option.{Option}
use Rattle.std.proofs.lemmas.Int.{ints, of_z-to_z}
use Rattle.std.proofs.lemmas.List.Folds.{flat_map-map}
use Rattle.std.proofs.lemmas.Bool.Decides.{nat_tests}
use Rattle.std.proofs.lemmas.Bool.{cases_lt, le-ltb, lt-ltb, ltb-true}
use Rattle.abc_base.specs.Numbers.{number_bytes}
use Rattle.abc_base.proofs.Spelling.{number_fits, number_grows}
use Rattle.abc_file_types.specs.Canonical.{IsCanonical, NoGreater, s24_bytes, FitsS24}
use Rattle.abc_file_types.specs.Ends.{Pieces}
use Rattle.abc_file_types.specs.Lists.{times}
use Rattle.abc_file_types.specs.Numbers.{u8, u30, u32, s24}
use Rattle.abc_file_types.specs.Part.{both}
use Rattle.abc_file_types.proofs.Canon.{both-canonical, then-canonical, times-canonical, u8-canonical, u30-canonical, u30_fits, s24_fits, s24_length, s24_three, s24s_three}
use Rattle.abc_file_types.proofs.Fixed.{s24-canonical}
use Rattle.abc_file_types.proofs.Least.{short-canonical}
use Rattle.abc_file_types.proofs.Lesser.{halves, no_greater_append}
use Rattle.abc_file_types.specs.declared.opcodes.Form.{Form}
use Rattle.abc_file_types.specs.declared.opcodes.Form.TheVariants as forms
use Rattle.abc_file_types.specs.Instructions.{RawInstr, Same, Branch, Switch, opcode_part, signed_byte, signed_short, switch_offsets, operand_parts, instruction, code_length}
use Rattle.abc_file_types.specs.declared.code.Instr.{Instr}
use Rattle.abc_file_types.specs.declared.code.Instr.TheVariants as instrs
use Rattle.abc_file_types.specs.declared.instructions.Code.{Code}
use Rattle.abc_file_types.specs.Opcodes.{branches, form_at, form_in, form_of, info_at, info_if, is_in, name_in, names_of_opcodes, one_operand, two_operands}
use Rattle.abc_file_types.specs.Starts.{starts, size, start}
use Rattle.abc_file_types.specs.Code.{IsTarget, AreTargets, Means, MeansAll, SpellsCode, code_body, code, code_listing}
use Rattle.abc_file_types.specs.Ready.{AllUpTo, CanSpell, AllCanSpell, Small, IsReady}
use Rattle.abc_file_types.specs.CodeBytes.{instr_len, with_lengths, offset, instr_bytes, instrs_bytes, canonical_starts, code_len, code_bytes}
use Rattle.abc_file_types.proofs.Meaning.{starts_from, starts_same}
use Rattle.abc_file_types.proofs.Resolving.{length-starts}

-- ---- what is known of an instruction that some bytes spell

targets_below : {A : Type 0} (ps : List (A × ℕ)) (base : ℕ) (zs : List ℤ) (ts : List ℕ) → AreTargets ps base zs ts → AllUpTo (length ps) ts × (length ts ≡ length zs)
targets_below ps base [] [] s = (tt, refl)
targets_below ps base [] (t ∷ ts) s = absurd s
targets_below ps base (z ∷ zs) [] s = absurd s
targets_below ps base (z ∷ zs) (t ∷ ts) s = let h = targets_below ps base zs ts s.1 in ((s.0.within, h.0), ap suc h.1)

known : (x : Option Form) → is_some x ≡ true → x ≡ Some (unwrap_or x forms.Plain)
known (Some f) h = refl
known None h = absurd cc

-- ---- numbers

small : (x : ℕ) (b : List ℕ) → u30.spells x b → (x < 2 ^ 30) × (length (number_bytes x) ≤ length b)
unfolding u30
small x b s = (ltb-true x (2 ^ 30) s.1, u30-canonical.shortest x b s)

byte_fits : (x : ℕ) → (negsuc 127 ≤ℤ cast_signed w8 (x % 256)) × (cast_signed w8 (x % 256) <ℤ pos 128)
byte_fits x =
    elim (cases_lt (x % 256) 128) [
      | inl lt ↦ rw (lt-ltb (x % 256) 128 lt) (omega (arith, ints), omega (arith, ints))
      | inr ge ↦ rw (le-ltb (x % 256) 128 ge) (omega (arith, ints), omega (arith, ints))
    ]

short_fits : (x : ℕ) → (negsuc 32767 ≤ℤ cast_signed w16 (x % 65536)) × (cast_signed w16 (x % 65536) <ℤ pos 32768)
short_fits x =
    elim (cases_lt (x % 65536) 32768) [
      | inl lt ↦ rw (lt-ltb (x % 65536) 32768 lt) (omega (arith, ints), omega (arith, ints))
      | inr ge ↦ rw (le-ltb (x % 65536) 32768 ge) (omega (arith, ints), omega (arith, ints))
    ]

byte_again : (z : ℤ) → negsuc 127 ≤ℤ z → z <ℤ pos 128 → cast_signed w8 (cast_unsigned w8 z % 256) ≡ z
byte_again (pos n) low high =
    let lt : n % 256 < 128 = omega (arith, ints) in
    let e : n % 256 ≡ n = omega (arith, ints) in
    rw (lt-ltb (n % 256) 128 lt, e) refl
byte_again (negsuc n) low high =
    let ge : 128 ≤ (256 - suc n) % 256 = omega (arith, ints) in
    let e : 256 - suc ((256 - suc n) % 256) ≡ n = omega (arith, ints) in
    rw (le-ltb ((256 - suc n) % 256) 128 ge, e) refl

short_again : (z : ℤ) → negsuc 32767 ≤ℤ z → z <ℤ pos 32768 → cast_signed w16 (cast_unsigned w16 z % 65536) ≡ z
short_again (pos n) low high =
    let lt : n % 65536 < 32768 = omega (arith, ints) in
    let e : n % 65536 ≡ n = omega (arith, ints) in
    rw (lt-ltb (n % 65536) 32768 lt, e) refl
short_again (negsuc n) low high =
    let ge : 32768 ≤ (65536 - suc n) % 65536 = omega (arith, ints) in
    let e : 65536 - suc ((65536 - suc n) % 65536) ≡ n = omega (arith, ints) in
    rw (le-ltb ((65536 - suc n) % 65536) 32768 ge, e) refl

short_bits : (z : ℤ) → negsuc 32767 ≤ℤ z → z <ℤ pos 32768 → cast_unsigned w16 z < 65536
short_bits (pos n) low high = omega (arith, ints)
short_bits (negsuc n) low high = omega arith

byte_spelled : (z : ℤ) → negsuc 127 ≤ℤ z → z <ℤ pos 128 → signed_byte.spells z (cast_unsigned w8 z ∷ [])
unfolding signed_byte u8
byte_spelled z low high = (cast_unsigned w8 z, refl, sym (byte_again z low high))

short_spelled : (z : ℤ) → negsuc 32767 ≤ℤ z → z <ℤ pos 32768 → signed_short.spells z (number_bytes (cast_unsigned w16 z))
unfolding signed_short u32
short_spelled z low high =
    let lt = short_bits z low high in
    (cast_unsigned w16 z, (cast_unsigned w16 z, number_fits (cast_unsigned w16 z) (omega (arith, lt)), omega (arith, lt)), sym (short_again z low high))

-- ---- the operands of a form

operands_can : (ps : List (RawInstr × ℕ)) (here next op : ℕ) (form : Form) (raw : RawInstr) (b : List ℕ) (i : Instr) → form_at op ≡ Some form → (operand_parts op form).spells raw b → Means ps here next raw i → CanSpell (length ps) i × (instr_len i ≤ suc (length b))
unfolding switch_offsets signed_byte signed_short u8
operands_can ps here next op forms.Plain raw b i f s m =
    let e : i ≡ instrs.Plain op = subst (λ (r : RawInstr). Means ps here next r i) s.0 m in
    rw e (f, omega arith)
operands_can ps here next op forms.One raw b i f s m =
    let e : i ≡ instrs.One op s.0 = subst (λ (r : RawInstr). Means ps here next r i) s.2 m in
    let h = small s.0 b s.1 in
    rw e ((f, h.0), omega (arith, h.1))
operands_can ps here next op forms.Two raw b i f s m =
    let e : i ≡ instrs.Two op s.0.0 s.0.1 = subst (λ (r : RawInstr). Means ps here next r i) s.2 m in
    let t = s.1 in
    let h = small s.0.0 t.0 t.3 in
    let k = small s.0.1 t.1 t.4 in
    rw e ((f, h.0, k.0), omega (arith, h.1, k.1, ap length t.2, length-append t.0 t.1))
operands_can ps here next op forms.Branch raw b i f s m =
    let e : Means ps here next (Branch op s.0) i = subst (λ (r : RawInstr). Means ps here next r i) s.2 m in
    rw e.2 ((f, e.1.within), omega (arith, s24_three s.0 b s.1))
operands_can ps here next op forms.Switch raw b i f s m =
    let x = s.0 in
    let e : Means ps here next (Switch x.0 x.1.1) i = subst (λ (r : RawInstr). Means ps here next r i) s.2 m in
    let first = s.1 in
    let second = first.4 in
    let ts = e.1 in
    let below = targets_below ps here x.1.1 ts e.3 in
    let three = s24_three x.0 first.0 first.3 in
    let many = s24s_three (x.1.0 + 1) x.1.1 second.1 second.4 in
    let count : length ts - 1 ≡ x.1.0 = omega (arith, below.1, many.0) in
    let h = small x.1.0 second.0 second.3 in
    let short : length (number_bytes (length ts - 1)) ≤ length second.0 = rw count h.1 in
    rw e.4 (
      (e.2.within, below.0, omega (arith, below.1, many.0), omega (arith, below.1, many.0, h.0)),
      omega (arith, short, three, many.0, many.1, below.1, ap length first.2, length-append first.0 first.1, ap length second.2, length-append second.0 second.1),
    )
operands_can ps here next op forms.Byte raw b i f s m =
    let e : i ≡ instrs.Byte s.0 = subst (λ (r : RawInstr). Means ps here next r i) s.2 m in
    let t = s.1 in
    let fits : (negsuc 127 ≤ℤ s.0) × (s.0 <ℤ pos 128) = subst (λ (z : ℤ). (negsuc 127 ≤ℤ z) × (z <ℤ pos 128)) (sym t.2) (byte_fits t.0) in
    rw e (fits, omega (arith, ap length t.1))
operands_can ps here next op forms.Short raw b i f s m =
    let e : i ≡ instrs.Short s.0 = subst (λ (r : RawInstr). Means ps here next r i) s.2 m in
    let t = s.1 in
    let fits : (negsuc 32767 ≤ℤ s.0) × (s.0 <ℤ pos 32768) = subst (λ (z : ℤ). (negsuc 32767 ≤ℤ z) × (z <ℤ pos 32768)) (sym t.2) (short_fits t.0) in
    rw e (fits, omega (arith, short-canonical.shortest s.0 b t))
operands_can ps here next op forms.ScopeObject raw b i f s m =
    let e : i ≡ instrs.ScopeObject s.0 = subst (λ (r : RawInstr). Means ps here next r i) s.2 m in
    rw e (tt, omega (arith, ap length s.1))
operands_can ps here next op forms.Debug raw b i f s m =
    let x = s.0 in
    let e : i ≡ instrs.Debug x.0 x.1.0 x.1.1.0 x.1.1.1 = subst (λ (r : RawInstr). Means ps here next r i) s.2 m in
    let t = s.1 in
    let u = t.4 in
    let v = u.4 in
    let h = small x.1.0 u.0 u.3 in
    let k = small x.1.1.1 v.1 v.4 in
    rw e ((h.0, k.0), omega (arith, h.1, k.1, ap length t.2, length-append t.0 t.1, ap length t.3, ap length u.2, length-append u.0 u.1, ap length v.2, length-append v.0 v.1, ap length v.3))

pub piece_can : (ps : List (RawInstr × ℕ)) (here next : ℕ) (raw : RawInstr) (b : List ℕ) (i : Instr) → instruction.spells raw b → Means ps here next raw i → CanSpell (length ps) i × (instr_len i ≤ length b)
unfolding instruction opcode_part u8
piece_can ps here next raw b i s m =
    let o = s.0.0 in
    let t = s.1 in
    let c = t.3 in
    let op : o.0 ≡ c.0 = ap (λ (p : ℕ × Form). p.0) c.2 in
    let form : o.1 ≡ unwrap_or (form_at c.0) forms.Plain = ap (λ (p : ℕ × Form). p.1) c.2 in
    let is : form_at o.0 ≡ Some o.1 = rw (op, form) (known (form_at c.0) c.1.1) in
    let same : Means ps here next s.0.1 i = subst (λ (r : RawInstr). Means ps here next r i) s.2 m in
    let h = operands_can ps here next o.0 o.1 s.0.1 t.1 i is t.4 same in
    (h.0, omega (arith, h.1, ap length t.2, length-append t.0 t.1, ap length c.1.0))

all_can : (ps : List (RawInstr × ℕ)) (here : ℕ) (xs : List (RawInstr × ℕ)) (b : List ℕ) (is : List Instr) → Pieces instruction xs b → MeansAll ps here xs is → AllCanSpell (length ps) is × (code_len is ≤ length b) × (length is ≡ length xs)
all_can ps here [] b [] s m = (tt, omega arith, refl)
all_can ps here [] b (i ∷ is) s m = absurd m
all_can ps here (x ∷ xs) b [] s m = absurd m
all_can ps here (x ∷ xs) b (i ∷ is) s m =
    let one = piece_can ps here (here + x.1) x.0 s.0 i s.3 m.0 in
    let more = all_can ps (here + x.1) xs s.1 is s.5 m.1 in
    ((one.0, more.0), omega (arith, one.1, more.1, ap length s.2, length-append s.0 s.1), ap suc more.2)

-- ---- the canonical pieces

abbrev pub raw_of : List ℕ → ℕ → ℕ → Instr → RawInstr
raw_of ss here next (instrs.Plain op) = Same (instrs.Plain op)
raw_of ss here next (instrs.One op n) = Same (instrs.One op n)
raw_of ss here next (instrs.Two op n m) = Same (instrs.Two op n m)
raw_of ss here next (instrs.Branch op t) = Branch op (offset ss next t)
raw_of ss here next (instrs.Switch t ts) = Switch (offset ss here t) (map (λ u. offset ss here u) ts)
raw_of ss here next (instrs.Byte z) = Same (instrs.Byte z)
raw_of ss here next (instrs.Short z) = Same (instrs.Short z)
raw_of ss here next (instrs.ScopeObject x) = Same (instrs.ScopeObject x)
raw_of ss here next (instrs.Debug kind name reg extra) = Same (instrs.Debug kind name reg extra)

abbrev pub raws_of : List ℕ → ℕ → List Instr → List (RawInstr × ℕ)
raws_of ss here [] = []
raws_of ss here (i ∷ is) = (raw_of ss here (here + instr_len i) i, instr_len i) ∷ raws_of ss (here + instr_len i) is

raws_starts : (ss : List ℕ) (here at : ℕ) (is : List Instr) → starts at (raws_of ss here is) ≡ starts at (with_lengths is)
raws_starts ss here at [] = refl
raws_starts ss here at (i ∷ is) = ap (λ (l : List ℕ). at ∷ l) (raws_starts ss (here + instr_len i) (at + instr_len i) is)

raws_length : (ss : List ℕ) (here : ℕ) (is : List Instr) → length (raws_of ss here is) ≡ length is
raws_length ss here [] = refl
raws_length ss here (i ∷ is) = ap suc (raws_length ss (here + instr_len i) is)

sized_length : (is : List Instr) → length (with_lengths is) ≡ length is
sized_length [] = refl
sized_length (i ∷ is) = ap suc (sized_length is)

pub start_small : {A : Type 0} (ps : List (A × ℕ)) (t : ℕ) → start ps t ≤ size ps
start_small ps zero = omega arith
start_small [] (suc t) = omega arith
start_small (p ∷ ps) (suc t) = omega (arith, start_small ps t)

offset_fits : (ss : List ℕ) (n base t : ℕ) → Small ss n → base < 2 ^ 23 → t ≤ n → FitsS24 (offset ss base t)
offset_fits ss n base t small lt le = let h = small t le in (omega (arith, ints), omega (arith, ints))

bytes_length : (ss : List ℕ) (here : ℕ) (ts : List ℕ) → length (flat_map (λ u. s24_bytes (offset ss here u)) ts) ≡ 3 * length ts
bytes_length ss here [] = refl
bytes_length ss here (t ∷ ts) = omega (arith, s24_length (offset ss here t), length-append (s24_bytes (offset ss here t)) (flat_map (λ u. s24_bytes (offset ss here u)) ts), bytes_length ss here ts)

cases_spelled : (ss : List ℕ) (n here : ℕ) (ts : List ℕ) → Small ss n → here < 2 ^ 23 → AllUpTo n ts → (times (length ts) s24).spells (map (λ u. offset ss here u) ts) (flat_map (λ u. s24_bytes (offset ss here u)) ts)
cases_spelled ss n here [] small lt all = (refl, refl)
cases_spelled ss n here (t ∷ ts) small lt all =
    let z = offset ss here t in
    let zs : List ℤ = map (λ u. offset ss here u) ts in
    let one = s24_fits z (offset_fits ss n here t small lt all.0) in
    let more = cases_spelled ss n here ts small lt all.1 in
    ((z, zs), (s24_bytes z, flat_map (λ u. s24_bytes (offset ss here u)) ts, refl, one, more), refl)

bytes_len : (ss : List ℕ) (here next : ℕ) (i : Instr) → length (instr_bytes ss here next i) ≡ instr_len i
bytes_len ss here next (instrs.Plain op) = refl
bytes_len ss here next (instrs.One op n) = omega arith
bytes_len ss here next (instrs.Two op n m) = omega (arith, length-append (number_bytes n) (number_bytes m))
bytes_len ss here next (instrs.Branch op t) = omega (arith, s24_length (offset ss next t))
bytes_len ss here next (instrs.Switch t ts) =
    let cases = flat_map (λ u. s24_bytes (offset ss here u)) ts in
    omega (arith, s24_length (offset ss here t), bytes_length ss here ts, length-append (s24_bytes (offset ss here t)) (number_bytes (length ts - 1) ++ cases), length-append (number_bytes (length ts - 1)) cases)
bytes_len ss here next (instrs.Byte z) = refl
bytes_len ss here next (instrs.Short z) = omega arith
bytes_len ss here next (instrs.ScopeObject x) = refl
bytes_len ss here next (instrs.Debug kind name reg extra) = omega (arith, length-append (number_bytes name) (reg ∷ number_bytes extra))

-- an opcode and its operands
opcode_spelled : (op : ℕ) (form : Form) (raw : RawInstr) (b : List ℕ) → form_at op ≡ Some form → (operand_parts op form).spells raw b → instruction.spells raw (op ∷ b)
unfolding instruction opcode_part u8
opcode_spelled op form raw b f s =
    let yes : is_some (form_at op) ≡ true = rw f refl in
    let same : form ≡ unwrap_or (form_at op) forms.Plain = rw f refl in
    (((op, form), raw), (op ∷ [], b, refl, (op, (refl, yes), ap (λ (g : Form). (op, g)) same), s), refl)

switch_form : form_at 0x1b ≡ Some forms.Switch
unfolding form_at info_at
switch_form = refl

byte_form : form_at 0x24 ≡ Some forms.Byte
unfolding form_at info_at
byte_form = refl

short_form : form_at 0x25 ≡ Some forms.Short
unfolding form_at info_at
short_form = refl

scope_object_form : form_at 0x65 ≡ Some forms.ScopeObject
unfolding form_at info_at
scope_object_form = refl

debug_form : form_at 0xef ≡ Some forms.Debug
unfolding form_at info_at
debug_form = refl

piece_spelled : (ss : List ℕ) (n here next : ℕ) (i : Instr) → Small ss n → here < 2 ^ 23 → next < 2 ^ 23 → CanSpell n i → instruction.spells (raw_of ss here next i) (instr_bytes ss here next i)
unfolding switch_offsets u8
piece_spelled ss n here next (instrs.Plain op) small lt lt2 c = opcode_spelled op forms.Plain (Same (instrs.Plain op)) [] c (refl, refl)
piece_spelled ss n here next (instrs.One op x) small lt lt2 c = opcode_spelled op forms.One (Same (instrs.One op x)) (number_bytes x) c.0 (x, u30_fits x c.1, refl)
piece_spelled ss n here next (instrs.Two op x y) small lt lt2 c =
    opcode_spelled op forms.Two (Same (instrs.Two op x y)) (number_bytes x ++ number_bytes y) c.0 ((x, y), (number_bytes x, number_bytes y, refl, u30_fits x c.1, u30_fits y c.2), refl)
piece_spelled ss n here next (instrs.Branch op t) small lt lt2 c =
    let z = offset ss next t in
    opcode_spelled op forms.Branch (Branch op z) (s24_bytes z) c.0 (z, s24_fits z (offset_fits ss n next t small lt2 c.1), refl)
piece_spelled ss n here next (instrs.Switch t ts) small lt lt2 c =
    let z = offset ss here t in
    let zs : List ℤ = map (λ u. offset ss here u) ts in
    let cases = flat_map (λ u. s24_bytes (offset ss here u)) ts in
    let one = s24_fits z (offset_fits ss n here t small lt c.0) in
    let len : length ts ≡ length ts - 1 + 1 = omega (arith, c.2) in
    let count = u30_fits (length ts - 1) (omega (arith, c.2, c.3)) in
    let more : (times (length ts - 1 + 1) s24).spells zs cases = subst (λ (k : ℕ). (times k s24).spells zs cases) len (cases_spelled ss n here ts small lt c.1) in
    opcode_spelled 0x1b forms.Switch (Switch z zs) (s24_bytes z ++ (number_bytes (length ts - 1) ++ cases)) switch_form
    ((z, (length ts - 1, zs)), (s24_bytes z, number_bytes (length ts - 1) ++ cases, refl, one, (number_bytes (length ts - 1), cases, refl, count, more)), refl)
piece_spelled ss n here next (instrs.Byte z) small lt lt2 c = opcode_spelled 0x24 forms.Byte (Same (instrs.Byte z)) (cast_unsigned w8 z ∷ []) byte_form (z, byte_spelled z c.0 c.1, refl)
piece_spelled ss n here next (instrs.Short z) small lt lt2 c = opcode_spelled 0x25 forms.Short (Same (instrs.Short z)) (number_bytes (cast_unsigned w16 z)) short_form (z, short_spelled z c.0 c.1, refl)
piece_spelled ss n here next (instrs.ScopeObject x) small lt lt2 c = opcode_spelled 0x65 forms.ScopeObject (Same (instrs.ScopeObject x)) (x ∷ []) scope_object_form (x, refl, refl)
piece_spelled ss n here next (instrs.Debug kind name reg extra) small lt lt2 c =
    opcode_spelled 0xef forms.Debug (Same (instrs.Debug kind name reg extra)) (kind ∷ (number_bytes name ++ reg ∷ number_bytes extra)) debug_form
    ((kind, (name, (reg, extra))), (kind ∷ [], number_bytes name ++ reg ∷ number_bytes extra, refl, refl, (number_bytes name, reg ∷ number_bytes extra, refl, u30_fits name c.0, (reg ∷ [], number_bytes extra, refl, refl, u30_fits extra c.1))), refl)

pieces_spelled : (ss : List ℕ) (n here : ℕ) (is : List Instr) → Small ss n → here + code_len is < 2 ^ 23 → AllCanSpell n is → Pieces instruction (raws_of ss here is) (instrs_bytes ss here is)
pieces_spelled ss n here [] small lt c = refl
pieces_spelled ss n here (i ∷ is) small lt c =
    let next = here + instr_len i in
    (instr_bytes ss here next i, instrs_bytes ss next is, refl, piece_spelled ss n here next i small (omega arith) (omega arith) c.0, sym (bytes_len ss here next i), pieces_spelled ss n next is small (omega arith) c.1)

bytes_all : (ss : List ℕ) (here : ℕ) (is : List Instr) → length (instrs_bytes ss here is) ≡ code_len is
bytes_all ss here [] = refl
bytes_all ss here (i ∷ is) = let next = here + instr_len i in omega (arith, bytes_len ss here next i, bytes_all ss next is, length-append (instr_bytes ss here next i) (instrs_bytes ss next is))

-- the canonical length is the length of the canonical bytes
pub code_bytes_length : (is : List Instr) → length (code_bytes is) ≡ length (number_bytes (code_len is)) + code_len is
unfolding code_bytes
code_bytes_length is = omega (arith, bytes_all (canonical_starts is) 0 is, length-append (number_bytes (code_len is)) (instrs_bytes (canonical_starts is) 0 is))

-- ---- they say the same instructions

module _ (qs : List (RawInstr × ℕ)) (ss : List ℕ) (n : ℕ) (len : length qs ≡ n) (same : (t : ℕ) → t ≤ n → get_or ss t 0 ≡ start qs t) where
  is_target : (base t : ℕ) → t ≤ n → IsTarget qs base (offset ss base t) t
  is_target base t le = let e = same t le in record { within = omega arith; is = omega (arith, ints) }

  are_targets : (base : ℕ) (ts : List ℕ) → AllUpTo n ts → AreTargets qs base (map (λ u. offset ss base u) ts) ts
  are_targets base [] all = tt
  are_targets base (t ∷ ts) all = (is_target base t all.0, are_targets base ts all.1)

  piece_means : (here next : ℕ) (i : Instr) → CanSpell n i → Means qs here next (raw_of ss here next i) i
  piece_means here next (instrs.Plain op) c = refl
  piece_means here next (instrs.One op x) c = refl
  piece_means here next (instrs.Two op x y) c = refl
  piece_means here next (instrs.Branch op t) c = (t, is_target next t c.1, refl)
  piece_means here next (instrs.Switch t ts) c = (t, ts, is_target here t c.0, are_targets here ts c.1, refl)
  piece_means here next (instrs.Byte z) c = refl
  piece_means here next (instrs.Short z) c = refl
  piece_means here next (instrs.ScopeObject x) c = refl
  piece_means here next (instrs.Debug kind name reg extra) c = refl

  pieces_mean : (here : ℕ) (is : List Instr) → AllCanSpell n is → MeansAll qs here (raws_of ss here is) is
  pieces_mean here [] c = tt
  pieces_mean here (i ∷ is) c = (piece_means here (here + instr_len i) i c.0, pieces_mean (here + instr_len i) is c.1)

-- ---- an opcode that only one instruction's form has

abbrev form_if : Bool → Bool → Bool → Bool → Bool → Bool → Bool → Bool → Form
form_if a b c d e f g h =
    if a then forms.One else if b then forms.Two else if c then forms.Branch else if d then forms.Switch else if e then forms.Byte else if f then forms.Short
    else if g then forms.ScopeObject else if h then forms.Debug else forms.Plain

-- the form of one opcode alone says that it is this
abbrev Says : Form → Bool → Bool → Bool → Bool → Bool → Type 0
Says forms.Switch d e f g h = d ≡ true
Says forms.Byte d e f g h = e ≡ true
Says forms.Short d e f g h = f ≡ true
Says forms.ScopeObject d e f g h = g ≡ true
Says forms.Debug d e f g h = h ≡ true
Says _ d e f g h = Unit {0}

form_says : (a b c d e f g h : Bool) → Says (form_if a b c d e f g h) d e f g h
form_says true b c d e f g h = tt
form_says false true c d e f g h = tt
form_says false false true d e f g h = tt
form_says false false false true e f g h = refl
form_says false false false false true f g h = refl
form_says false false false false false true g h = refl
form_says false false false false false false true h = refl
form_says false false false false false false false true = refl
form_says false false false false false false false false = tt

form_known : (name : Option (List ℕ)) (op : ℕ) (form : Form) → form_in (info_if name op) ≡ Some form → form_of op ≡ form
form_known (Some name) op form e = ap (λ (o : Option Form). unwrap_or o forms.Plain) e
form_known None op form e = absurd cc

one_opcode : (op : ℕ) (form : Form) → form_at op ≡ Some form → Says form (nat_eq op 0x1b) (nat_eq op 0x24) (nat_eq op 0x25) (nat_eq op 0x65) (nat_eq op 0xef)
unfolding form_at info_at
one_opcode op form e =
    let is : form_of op ≡ form = form_known (name_in names_of_opcodes op) op form e in
    subst (λ (f : Form). Says f (nat_eq op 0x1b) (nat_eq op 0x24) (nat_eq op 0x25) (nat_eq op 0x65) (nat_eq op 0xef)) is
    (form_says (is_in op one_operand) (is_in op two_operands) (is_in op branches) (nat_eq op 0x1b) (nat_eq op 0x24) (nat_eq op 0x25) (nat_eq op 0x65) (nat_eq op 0xef))

number_is : (op n : ℕ) → nat_eq op n ≡ true → op ≡ n
number_is op n h = grind (arith, nat_tests)

-- ---- as many bytes, of which none is less

signed_byte_least : (z : ℤ) (b : List ℕ) → signed_byte.spells z b → NoGreater (cast_unsigned w8 z ∷ []) b
unfolding signed_byte u8
signed_byte_least z b s =
    let x = s.0 in
    let is : cast_unsigned w8 z ≡ x % 256 = ap (cast_unsigned w8) s.2 ∙ of_z-to_z w8 (x % 256) (omega arith) in
    rw s.1 (omega (arith, is), tt)

two-canonical : IsCanonical (both u30 u30) (λ x. number_bytes x.0 ++ number_bytes x.1)
two-canonical = both-canonical _ _ _ _ u30-canonical u30-canonical

switch-canonical : IsCanonical switch_offsets (λ x. s24_bytes x.0 ++ (number_bytes x.1.0 ++ flat_map s24_bytes x.1.1))
unfolding switch_offsets
switch-canonical = both-canonical _ _ _ (λ y. number_bytes y.0 ++ flat_map s24_bytes y.1) s24-canonical (then-canonical _ _ number_bytes (λ n. flat_map s24_bytes) u30-canonical (λ n. times-canonical (n + 1) _ _ s24-canonical))

short_least : (z : ℤ) (b : List ℕ) → signed_short.spells z b → length (number_bytes (cast_unsigned w16 z)) ≡ length b → NoGreater (number_bytes (cast_unsigned w16 z)) b
unfolding signed_short
short_least z b s len = short-canonical.least z b s len

debug-canonical : IsCanonical (both u8 (both u30 (both u8 u30))) (λ x. (x.0 ∷ []) ++ (number_bytes x.1.0 ++ ((x.1.1.0 ∷ []) ++ number_bytes x.1.1.1)))
debug-canonical =
    both-canonical _ _ _ (λ y. number_bytes y.0 ++ ((y.1.0 ∷ []) ++ number_bytes y.1.1)) u8-canonical
    (both-canonical _ _ _ (λ y. (y.0 ∷ []) ++ number_bytes y.1) u30-canonical (both-canonical _ _ _ _ u8-canonical u30-canonical))

switch_many : (z : ℤ) (n : ℕ) (zs : List ℤ) (b : List ℕ) → switch_offsets.spells (z, (n, zs)) b → length zs ≡ n + 1
unfolding switch_offsets
switch_many z n zs b s = (s24s_three (n + 1) zs s.4.1 s.4.4).0

-- pieces as long as their instructions: the first and the others
filled_so : (ps : List (RawInstr × ℕ)) (here : ℕ) (x : RawInstr × ℕ) (xs : List (RawInstr × ℕ)) (b : List ℕ) (i : Instr) (is : List Instr)
    → (s : Pieces instruction (x ∷ xs) b) → MeansAll ps here (x ∷ xs) (i ∷ is) → code_len (i ∷ is) ≡ length b → (instr_len i ≡ length s.0) × (code_len is ≡ length s.1)
filled_so ps here x xs b i is s m len =
    let one = (piece_can ps here (here + x.1) x.0 s.0 i s.3 m.0).1 in
    let more = (all_can ps (here + x.1) xs s.1 is s.5 m.1).1 in
    let all : instr_len i + code_len is ≡ length s.0 + length s.1 = len ∙ ap length s.2 ∙ length-append s.0 s.1 in
    (omega (arith, one, more, all), omega (arith, one, more, all))

-- an opcode, and operands of as many bytes
led_by : (op : ℕ) (bytes operands b : List ℕ) → bytes ≡ op ∷ operands → length bytes ≡ suc (length b) → (length operands ≡ length b → NoGreater operands b) → NoGreater bytes (op ∷ b)
led_by op bytes operands b e len k = rw e (omega arith, k (omega (arith, ap length e, len)))

module _ (ps : List (RawInstr × ℕ)) (ss : List ℕ) (same : (t : ℕ) → t ≤ length ps → get_or ss t 0 ≡ start ps t) where
  -- an offset that leads to a start is the one that counts to it
  offset_is : (base : ℕ) (z : ℤ) (t : ℕ) → IsTarget ps base z t → offset ss base t ≡ z
  offset_is base z t h = let e = same t h.within in let is = h.is in omega (arith, ints, e, is)

  offsets_are : (base : ℕ) (zs : List ℤ) (ts : List ℕ) → AreTargets ps base zs ts → map (λ u. offset ss base u) ts ≡ zs
  offsets_are base [] [] h = refl
  offsets_are base [] (t ∷ ts) h = absurd h
  offsets_are base (z ∷ zs) [] h = absurd h
  offsets_are base (z ∷ zs) (t ∷ ts) h = rw (offset_is base z t h.0, offsets_are base zs ts h.1) refl

  operands_least : (here next op : ℕ) (form : Form) (raw : RawInstr) (b : List ℕ) (i : Instr) → form_at op ≡ Some form → (operand_parts op form).spells raw b → Means ps here next raw i
      → length (instr_bytes ss here next i) ≡ suc (length b) → NoGreater (instr_bytes ss here next i) (op ∷ b)
  unfolding u8
  operands_least here next op forms.Plain raw b i f s m len =
      let e : i ≡ instrs.Plain op = subst (λ (r : RawInstr). Means ps here next r i) s.0 m in
      led_by op (instr_bytes ss here next i) [] b (ap (instr_bytes ss here next) e) len (λ l. rw s.1 tt)
  operands_least here next op forms.One raw b i f s m len =
      let e : i ≡ instrs.One op s.0 = subst (λ (r : RawInstr). Means ps here next r i) s.2 m in
      led_by op (instr_bytes ss here next i) (number_bytes s.0) b (ap (instr_bytes ss here next) e) len (u30-canonical.least s.0 b s.1)
  operands_least here next op forms.Two raw b i f s m len =
      let e : i ≡ instrs.Two op s.0.0 s.0.1 = subst (λ (r : RawInstr). Means ps here next r i) s.2 m in
      led_by op (instr_bytes ss here next i) (number_bytes s.0.0 ++ number_bytes s.0.1) b (ap (instr_bytes ss here next) e) len (two-canonical.least s.0 b s.1)
  operands_least here next op forms.Branch raw b i f s m len =
      let e : Means ps here next (Branch op s.0) i = subst (λ (r : RawInstr). Means ps here next r i) s.2 m in
      let is : instr_bytes ss here next i ≡ op ∷ s24_bytes s.0 = ap (instr_bytes ss here next) e.2 ∙ ap (λ (z : ℤ). op ∷ s24_bytes z) (offset_is next s.0 e.0 e.1) in
      led_by op (instr_bytes ss here next i) (s24_bytes s.0) b is len (s24-canonical.least s.0 b s.1)
  operands_least here next op forms.Switch raw b i f s m len =
      let x = s.0 in
      let e : Means ps here next (Switch x.0 x.1.1) i = subst (λ (r : RawInstr). Means ps here next r i) s.2 m in
      let code : 0x1b ≡ op = sym (number_is op 0x1b (one_opcode op forms.Switch f)) in
      let many = switch_many x.0 x.1.0 x.1.1 b s.1 in
      let count : length e.1 - 1 ≡ x.1.0 = let below = targets_below ps here x.1.1 e.1 e.3 in omega (arith, below.1, many) in
      let default = offset_is here x.0 e.0 e.2 in
      let cases : flat_map (λ u. s24_bytes (offset ss here u)) e.1 ≡ flat_map s24_bytes x.1.1 = sym (flat_map-map s24_bytes (λ u. offset ss here u) e.1) ∙ ap (flat_map s24_bytes) (offsets_are here x.1.1 e.1 e.3) in
      let is : instr_bytes ss here next i ≡ op ∷ (s24_bytes x.0 ++ (number_bytes x.1.0 ++ flat_map s24_bytes x.1.1)) = ap (instr_bytes ss here next) e.4 ∙ rw (← code, default, count, cases) refl in
      led_by op (instr_bytes ss here next i) (s24_bytes x.0 ++ (number_bytes x.1.0 ++ flat_map s24_bytes x.1.1)) b is len (switch-canonical.least x b s.1)
  operands_least here next op forms.Byte raw b i f s m len =
      let e : i ≡ instrs.Byte s.0 = subst (λ (r : RawInstr). Means ps here next r i) s.2 m in
      let code : 0x24 ≡ op = sym (number_is op 0x24 (one_opcode op forms.Byte f)) in
      led_by op (instr_bytes ss here next i) (cast_unsigned w8 s.0 ∷ []) b (ap (instr_bytes ss here next) e ∙ ap (λ (o : ℕ). o ∷ cast_unsigned w8 s.0 ∷ []) code) len (λ l. signed_byte_least s.0 b s.1)
  operands_least here next op forms.Short raw b i f s m len =
      let e : i ≡ instrs.Short s.0 = subst (λ (r : RawInstr). Means ps here next r i) s.2 m in
      let code : 0x25 ≡ op = sym (number_is op 0x25 (one_opcode op forms.Short f)) in
      led_by op (instr_bytes ss here next i) (number_bytes (cast_unsigned w16 s.0)) b (ap (instr_bytes ss here next) e ∙ ap (λ (o : ℕ). o ∷ number_bytes (cast_unsigned w16 s.0)) code) len (short_least s.0 b s.1)
  operands_least here next op forms.ScopeObject raw b i f s m len =
      let e : i ≡ instrs.ScopeObject s.0 = subst (λ (r : RawInstr). Means ps here next r i) s.2 m in
      let code : 0x65 ≡ op = sym (number_is op 0x65 (one_opcode op forms.ScopeObject f)) in
      led_by op (instr_bytes ss here next i) (s.0 ∷ []) b (ap (instr_bytes ss here next) e ∙ ap (λ (o : ℕ). o ∷ s.0 ∷ []) code) len (λ l. rw s.1 (omega arith, tt))
  operands_least here next op forms.Debug raw b i f s m len =
      let x = s.0 in
      let e : i ≡ instrs.Debug x.0 x.1.0 x.1.1.0 x.1.1.1 = subst (λ (r : RawInstr). Means ps here next r i) s.2 m in
      let code : 0xef ≡ op = sym (number_is op 0xef (one_opcode op forms.Debug f)) in
      led_by op (instr_bytes ss here next i) (x.0 ∷ (number_bytes x.1.0 ++ x.1.1.0 ∷ number_bytes x.1.1.1)) b
      (ap (instr_bytes ss here next) e ∙ ap (λ (o : ℕ). o ∷ (x.0 ∷ (number_bytes x.1.0 ++ x.1.1.0 ∷ number_bytes x.1.1.1))) code) len (debug-canonical.least x b s.1)

  piece_least : (here next : ℕ) (raw : RawInstr) (b : List ℕ) (i : Instr) → instruction.spells raw b → Means ps here next raw i → length (instr_bytes ss here next i) ≡ length b
      → NoGreater (instr_bytes ss here next i) b
  unfolding instruction opcode_part u8
  piece_least here next raw b i s m len =
      let o = s.0.0 in
      let t = s.1 in
      let c = t.3 in
      let op : o.0 ≡ c.0 = ap (λ (p : ℕ × Form). p.0) c.2 in
      let form : o.1 ≡ unwrap_or (form_at c.0) forms.Plain = ap (λ (p : ℕ × Form). p.1) c.2 in
      let found : form_at o.0 ≡ Some o.1 = rw (op, form) (known (form_at c.0) c.1.1) in
      let means : Means ps here next s.0.1 i = subst (λ (r : RawInstr). Means ps here next r i) s.2 m in
      let is : o.0 ∷ t.1 ≡ b = sym (t.2 ∙ rw (c.1.0, op) refl) in
      subst (NoGreater (instr_bytes ss here next i)) is (operands_least here next o.0 o.1 s.0.1 t.1 i found t.4 means (len ∙ ap length (sym is)))

  all_least : (here : ℕ) (xs : List (RawInstr × ℕ)) (b : List ℕ) (is : List Instr) → Pieces instruction xs b → MeansAll ps here xs is → code_len is ≡ length b → NoGreater (instrs_bytes ss here is) b
  all_least here [] b [] s m len = rw s tt
  all_least here [] b (i ∷ is) s m len = absurd m
  all_least here (x ∷ xs) b [] s m len = absurd m
  all_least here (x ∷ xs) b (i ∷ is) s m len =
      let h = filled_so ps here x xs b i is s m len in
      let next = here + instr_len i in
      let at : here + x.1 ≡ next = omega (arith, h.0, s.4) in
      let one = piece_least here next x.0 s.0 i s.3 (subst (λ (n : ℕ). Means ps here n x.0 i) at m.0) (bytes_len ss here next i ∙ h.0) in
      let more = all_least next xs s.1 is s.5 (subst (λ (n : ℕ). MeansAll ps n xs is) at m.1) h.1 in
      rw s.2 (no_greater_append (instr_bytes ss here next i) (instrs_bytes ss next is) s.0 s.1 one more)

same_starts : (ps : List (RawInstr × ℕ)) (here at : ℕ) (xs : List (RawInstr × ℕ)) (b : List ℕ) (is : List Instr) → Pieces instruction xs b → MeansAll ps here xs is → code_len is ≡ length b
    → starts at xs ≡ starts at (with_lengths is)
same_starts ps here at [] b [] s m len = refl
same_starts ps here at [] b (i ∷ is) s m len = absurd m
same_starts ps here at (x ∷ xs) b [] s m len = absurd m
same_starts ps here at (x ∷ xs) b (i ∷ is) s m len =
    let h = filled_so ps here x xs b i is s m len in
    let next : x.1 ≡ instr_len i = s.4 ∙ sym h.0 in
    let more = same_starts ps (here + x.1) (at + x.1) xs s.1 is s.5 m.1 h.1 in
    ap (λ (l : List ℕ). at ∷ l) (more ∙ ap (λ (n : ℕ). starts (at + n) (with_lengths is)) next)

-- code that fills no more bytes than its canonical bytes has its starts where they have them
pub offsets_canonical : (c : Code) (b : List ℕ) → SpellsCode c b → code_len c.instrs ≡ length b → c.offsets ≡ canonical_starts c.instrs
unfolding canonical_starts
offsets_canonical c b s len = starts_same s.pieces c.offsets s.offsets ∙ same_starts s.pieces 0 0 s.pieces b c.instrs s.filled s.means len

body_least : (c : Code) (b : List ℕ) → SpellsCode c b → code_len c.instrs ≡ length b → NoGreater (instrs_bytes (canonical_starts c.instrs) 0 c.instrs) b
unfolding canonical_starts
body_least c b s len =
    let eq : starts 0 s.pieces ≡ starts 0 (with_lengths c.instrs) = same_starts s.pieces 0 0 s.pieces b c.instrs s.filled s.means len in
    all_least s.pieces (starts 0 (with_lengths c.instrs)) (λ t le. ap (λ (l : List ℕ). get_or l t 0) (sym eq) ∙ starts_from s.pieces t le) 0 s.pieces b c.instrs s.filled s.means len

-- ---- the whole

pub canonical_body : (is : List Instr) → AllCanSpell (length is) is → code_len is < 2 ^ 23 → SpellsCode (record { instrs = is; offsets = canonical_starts is }) (instrs_bytes (canonical_starts is) 0 is)
unfolding canonical_starts
canonical_body is c lt =
    let ss = starts 0 (with_lengths is) in
    let qs = raws_of ss 0 is in
    let from : (t : ℕ) → t ≤ length is → get_or ss t 0 ≡ start (with_lengths is) t = λ t le. starts_from (with_lengths is) t (omega (arith, sized_length is)) in
    let small : (t : ℕ) → t ≤ length is → get_or ss t 0 < 2 ^ 23 = λ t le. omega (arith, from t le, start_small (with_lengths is) t) in
    let eq : starts 0 qs ≡ ss = raws_starts ss 0 0 is in
    let same : (t : ℕ) → t ≤ length is → get_or ss t 0 ≡ start qs t = λ t le. ap (λ (l : List ℕ). get_or l t 0) (sym eq) ∙ starts_from qs t (omega (arith, raws_length ss 0 is)) in
    record {
      pieces = qs;
      filled = pieces_spelled ss (length is) 0 is small (omega arith) c;
      means = pieces_mean qs ss (length is) (raws_length ss 0 is) same 0 is c;
      offsets = record { count = ap length (sym eq) ∙ length-starts 0 qs; each = λ t le. same t (omega (arith, le, raws_length ss 0 is)) };
    }

-- what the bytes of code say
pub code_can : (c : Code) (b : List ℕ) → SpellsCode c b → AllCanSpell (length c.instrs) c.instrs × (code_len c.instrs ≤ length b)
code_can c b s =
    let h = all_can s.pieces 0 s.pieces b c.instrs s.filled s.means in
    (subst (λ (n : ℕ). AllCanSpell n c.instrs) (sym h.2) h.0, h.1)

record Best (is : List Instr) (b : List ℕ) : Type 0 where
  spelled : code_listing.spells is (code_bytes is)
  short : length (code_bytes is) ≤ length b
  least : length (code_bytes is) ≡ length b → NoGreater (code_bytes is) b

best : (n : ℕ) (d : Code) (b1 b2 : List ℕ) → code_length.spells n b1 → SpellsCode d b2 → length b2 ≡ n → Best d.instrs (b1 ++ b2)
unfolding code_listing code code_body code_bytes code_length
best n d b1 b2 l s len =
    let is = d.instrs in
    let can = code_can d b2 s in
    let lt : n < 2 ^ 23 = ltb-true n (2 ^ 23) l.1 in
    let less : code_len is < 2 ^ 23 = omega (arith, can.1) in
    let made : Code = record { instrs = is; offsets = canonical_starts is } in
    let bytes = instrs_bytes (canonical_starts is) 0 is in
    let number : code_length.spells (code_len is) (number_bytes (code_len is)) = (u30_fits (code_len is) (omega arith), lt-ltb (code_len is) (2 ^ 23) less) in
    record {
      spelled = (made, ((code_len is, made), (number_bytes (code_len is), bytes, refl, number, (canonical_body is can.0 less, bytes_all (canonical_starts is) 0 is)), refl), refl);
      short = omega (arith, bytes_all (canonical_starts is) 0 is, length-append (number_bytes (code_len is)) bytes, length-append b1 b2, can.1, len, number_grows (code_len is) n (omega (arith, can.1, len)), u30-canonical.shortest n b1 l.0);
      least = λ long.
          let first : length (number_bytes (code_len is)) ≤ length b1 = omega (arith, number_grows (code_len is) n (omega (arith, can.1, len)), u30-canonical.shortest n b1 l.0) in
          let second : length bytes ≤ length b2 = omega (arith, bytes_all (canonical_starts is) 0 is, can.1) in
          let h = halves (number_bytes (code_len is)) bytes b1 b2 first second long in
          let full : code_len is ≡ length b2 = sym (bytes_all (canonical_starts is) 0 is) ∙ h.1 in
          let count : u30.spells (code_len is) b1 = subst (λ (m : ℕ). u30.spells m b1) (sym (full ∙ len)) l.0 in
          no_greater_append (number_bytes (code_len is)) bytes b1 b2 (u30-canonical.least (code_len is) b1 count h.0) (body_least d b2 s full);
    }

listing_best : (is : List Instr) (b : List ℕ) → code_listing.spells is b → Best is b
unfolding code_listing code code_body
listing_best is b s =
    let c = s.1 in
    let t = c.1 in
    let same : c.0.1.instrs ≡ is = sym (s.2 ∙ ap (λ (d : Code). d.instrs) c.2) in
    subst (λ (js : List Instr). Best js b) same (subst (Best c.0.1.instrs) (sym t.2) (best c.0.0 c.0.1 t.0 t.1 t.3 t.4.0 t.4.1))

pub code_listing-canonical : IsCanonical code_listing code_bytes
code_listing-canonical = record { spelled = λ is b s. (listing_best is b s).spelled; shortest = λ is b s. (listing_best is b s).short; least = λ is b s len. (listing_best is b s).least len }

listing_ready_from : (n : ℕ) (d : Code) (b1 b2 : List ℕ) → code_length.spells n b1 → SpellsCode d b2 → length b2 ≡ n → IsReady d.instrs
unfolding code_length
listing_ready_from n d b1 b2 l s len =
    let can = code_can d b2 s in
    let lt : n < 2 ^ 23 = ltb-true n (2 ^ 23) l.1 in
    record { can = can.0; short = omega (arith, can.1) }

pub listing_ready : (is : List Instr) (b : List ℕ) → code_listing.spells is b → IsReady is
unfolding code_listing code code_body
listing_ready is b s =
    let c = s.1 in
    let t = c.1 in
    let same : c.0.1.instrs ≡ is = sym (s.2 ∙ ap (λ (d : Code). d.instrs) c.2) in
    subst IsReady same (listing_ready_from c.0.0 c.0.1 t.0 t.1 t.3 t.4.0 t.4.1)

pub ready_spelled : (is : List Instr) → IsReady is → code_listing.spells is (code_bytes is)
unfolding code_listing code code_body code_bytes code_length
ready_spelled is r =
    let made : Code = record { instrs = is; offsets = canonical_starts is } in
    let bytes = instrs_bytes (canonical_starts is) 0 is in
    let lt = r.short in
    let number : code_length.spells (code_len is) (number_bytes (code_len is)) = (u30_fits (code_len is) (omega arith), lt-ltb (code_len is) (2 ^ 23) r.short) in
    (made, ((code_len is, made), (number_bytes (code_len is), bytes, refl, number, (canonical_body is r.can r.short, bytes_all (canonical_starts is) 0 is)), refl), refl)
