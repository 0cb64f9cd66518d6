-- What some bytes spell has fields in the ranges that lines ask for.
use Rattle.std.proofs.Common.{◌≡◌, ℕ, zero, suc, ℤ, pos, negsuc, ◌-◌, ◌%◌, ◌^◌, ◌<◌, ◌≤ℤ◌, ◌<ℤ◌, inl, inr, true, false, ◌&&◌, nat_lt, nat_le, int_le, List, [], ◌∷◌, length, Some, None, refl, sym, subst, le-leb, lt-ltb, le-ltb, arith}
use Rattle.std.specs.Int.{w32, cast_signed}
use Rattle.std.specs.List.{All, AllByRecursion}
use Rattle.std.specs.declared.option.Option.{Option}
use Rattle.std.proofs.lemmas.Bool.{cases_lt}
use Rattle.std.proofs.lemmas.Bool.Decides.{nat_tests}
use Rattle.std.proofs.lemmas.Int.{ints}
use Rattle.std.proofs.lemmas.List.Elements.{recursion_from_All}
use Rattle.abc_text_lines.proofs.Bools.{split_bool}
use Rattle.abc_file_types.specs.Numbers as parts
use Rattle.abc_file_types.specs.declared.code.Handler.{Handler}
use Rattle.abc_file_types.specs.declared.code.Instr.{Instr}
use Rattle.abc_file_types.specs.declared.code.Instr.TheVariants as instrs
use Rattle.abc_file_types.specs.declared.methods.OptionValue.{OptionValue}
use Rattle.abc_file_types.specs.declared.names.Multiname.{Multiname}
use Rattle.abc_file_types.specs.declared.names.Multiname.TheVariants as names
use Rattle.abc_file_types.specs.declared.names.Namespace.{Namespace}
use Rattle.abc_file_types.specs.declared.opcodes.Form.TheVariants as forms
use Rattle.abc_file_types.specs.declared.tables.Eight.{Eight}
use Rattle.abc_file_types.specs.declared.tables.Sizes.{Sizes}
use Rattle.abc_file_types.specs.declared.traits.TraitBody.{TraitBody}
use Rattle.abc_file_types.specs.declared.traits.TraitBody.TheVariants as bodies
use Rattle.abc_file_types.specs.Methods.{has_value}
use Rattle.abc_file_types.specs.Opcodes.{form_at, info_at}
use Rattle.abc_file_types.specs.Ready.{CanSpell}
use Rattle.abc_file_types.specs.Traits.{trait_kind_in}
use Rattle.abc_tables.specs.Fitting.{FitsDouble, FitsInt, FitsMultiname, FitsNamespace, FitsNamespaceSet, FitsOption, FitsSlotValue, HasNames, IsEntryIndex, FitsNumber, IsPoolIndex, IsPosition, Spelled}
use Rattle.abc_tables.proofs.Combined.{entry_index_fits}
use Rattle.abc_tables.proofs.MethodsFit.{option_fits, value_fits}
use Rattle.abc_tables.proofs.PoolsFit as pools
use Rattle.abc_tables.proofs.PoolsFit.{double_fits, multiname_fits, namespace_fits, namespace_set_fits}
use Rattle.abc_tables.proofs.TraitsFit as traits
use Rattle.abc_text_lines.specs.Operands.{EachFits, any_number, any_signed, eight, entry_upto, index_operand_below, index_upto, number_below, target, text_operand, u30_operand}
use Rattle.abc_text_lines.specs.Kinds.{multiname_kind_operand, space_kind, value_kind_operand}
use Rattle.abc_text_lines.specs.Lineforms.{catch_line, double_line, instruction_operands, int_line, kind_in, multiname_operands, name_line, namespace_line, opcode_of, option_line, set_line, slot_value_operand, string_line, trait_operands, uint_line}
use Rattle.abc_disasm.specs.Bytes.{HasByteFields}

-- ---- lists

pub each : {A : Type 0} (P Q : A → Type 0) → ((x : A) → P x → Q x) → (xs : List A) → AllByRecursion P xs → AllByRecursion Q xs
each P Q f [] all = tt
each P Q f (x ∷ xs) all = (f x all.0, each P Q f xs all.1)

pub each_of : {A : Type 0} (P Q : A → Type 0) → ((x : A) → P x → Q x) → (xs : List A) → All P xs → AllByRecursion Q xs
each_of P Q f xs all = each P Q f xs (recursion_from_All P xs all)

-- ---- numbers

pub pool_in : (n x : ℕ) → IsPoolIndex n x → (index_upto n).fits x
unfolding IsPoolIndex parts.pool_index parts.u30 any_number
pool_in n x s = ((tt, s.is.0.1), s.is.1)

pub position_in : (n x : ℕ) → IsPosition n x → (index_operand_below n).fits x
unfolding IsPosition parts.index_below parts.u30 any_number
position_in n x s = ((tt, s.is.0.1), s.is.1)

pub number_in : (x : ℕ) → FitsNumber x → u30_operand.fits x
unfolding FitsNumber parts.u30 any_number
number_in x s = (tt, s.is.1)

pub entry_in : (n x : ℕ) → IsEntryIndex n x → (entry_upto n).fits x
unfolding any_number
entry_in n x s =
    let b = (entry_index_fits n x).0 s in
    let some = b.0 in
    let le = b.1 in
    let lt = b.2 in
    let a : nat_lt x (2 ^ 30) ≡ true = grind (arith, nat_tests) in
    let c : nat_lt 0 x ≡ true = grind (arith, nat_tests) in
    let d : nat_le x n ≡ true = grind (arith, nat_tests) in
    ((tt, a), rw (c, d) refl)

pub below_in : (bound x : ℕ) → x < bound → (number_below bound).fits x
unfolding any_number
below_in bound x lt = (tt, grind (arith, nat_tests))

-- ---- pools

signed32 : (n : ℕ) → n < 2 ^ 32 → (int_le (negsuc 2147483647) (cast_signed w32 n) && int_le (cast_signed w32 n) (pos 2147483647)) ≡ true
signed32 n lt =
    elim (cases_lt n 2147483648) [
      | inl low ↦ rw (lt-ltb n 2147483648 low) (le-leb n 2147483647 (omega arith))
      | inr high ↦ let c = le-leb (4294967296 - suc n) 2147483647 (omega arith) in rw (le-ltb n 2147483648 high, c) refl
    ]

pub int_in : (z : ℤ) → FitsInt z → int_line.fits z
unfolding FitsInt int_line any_signed parts.s32
int_in z s =
    let n = s.is.0 % 2 ^ 32 in
    let fits = signed32 n (omega arith) in
    let there : (int_le (negsuc 2147483647) z && int_le z (pos 2147483647)) ≡ true = subst (λ (y : ℤ). (int_le (negsuc 2147483647) y && int_le y (pos 2147483647)) ≡ true) (sym s.is.2) fits in
    (((tt, there), tt), refl)

pub uint_in : (x : ℕ) → Spelled parts.u32 x → uint_line.fits x
unfolding uint_line any_number parts.u32
uint_in x s = let lt : x < 2 ^ 32 = omega (arith, s.is.2) in (((tt, grind (arith, nat_tests)), tt), refl)

pub double_in : (d : Eight) → FitsDouble d → double_line.fits d
unfolding double_line eight
double_in d s = let len = (double_fits d).0 s in ((grind (arith, nat_tests), tt), refl)

pub string_in : (b : List ℕ) → string_line.fits b
unfolding string_line text_operand
string_in b = ((tt, tt), refl)

module _ (v : Sizes) where
  pub namespace_in : (n : Namespace) → FitsNamespace v.strings n → (namespace_line v).fits n
  unfolding namespace_line space_kind
  namespace_in n s = ((tt, (pool_in v.strings n.name ((namespace_fits v.strings n).0 s), tt)), refl)

  each_entry : (n : ℕ) (xs : List ℕ) → AllByRecursion (IsEntryIndex n) xs → EachFits (entry_upto n) xs
  each_entry n [] all = tt
  each_entry n (x ∷ xs) all = (entry_in n x all.0, each_entry n xs all.1)

  each_pool : (n : ℕ) (xs : List ℕ) → AllByRecursion (IsPoolIndex n) xs → EachFits (index_upto n) xs
  each_pool n [] all = tt
  each_pool n (x ∷ xs) all = (pool_in n x all.0, each_pool n xs all.1)

  pub set_in : (xs : List ℕ) → FitsNamespaceSet v.namespaces xs → (set_line v).fits xs
  unfolding set_line
  set_in xs s = each_entry v.namespaces xs (recursion_from_All (IsEntryIndex v.namespaces) xs ((namespace_set_fits v.namespaces xs).0 s).1)

  name_fields_in : (m : Multiname) → pools.HasFields v.strings v.namespaces v.sets v.names m → (multiname_operands v (kind_in m)).fits m
  name_fields_in (names.QName attr ns name) h = ((pool_in v.namespaces ns h.0, (pool_in v.strings name h.1, tt)), refl)
  name_fields_in (names.Rt attr name) h = ((pool_in v.strings name h, tt), refl)
  name_fields_in (names.RtL attr) h = (tt, refl)
  name_fields_in (names.Multi attr name set) h = ((pool_in v.strings name h.0, (entry_in v.sets set h.1, tt)), refl)
  name_fields_in (names.MultiL attr set) h = ((entry_in v.sets set h, tt), refl)
  name_fields_in (names.TypeName base params) h = ((entry_in v.names base h.0, each_pool v.names params (recursion_from_All (IsPoolIndex v.names) params h.2)), refl)

  pub name_in : (m : Multiname) → FitsMultiname v m → (name_line v).fits m
  unfolding name_line multiname_kind_operand
  name_in m s = ((tt, name_fields_in m ((multiname_fits v m).0 s)), refl)

  -- ---- values

  pub option_in : (o : OptionValue) → FitsOption v o → (option_line v).fits o
  unfolding option_line value_kind_operand
  option_in o s = let h = (option_fits v o).0 s in ((tt, ((number_in o.value h.0, h.1), tt)), refl)

  slot_by : (n : ℕ) (o : OptionValue) → o.value ≡ n → ¬ (n ≡ 0) → u30_operand.fits n → has_value v n o.kind ≡ true → (slot_value_operand v).fits (Some (record { kind = o.kind; value = n }))
  unfolding slot_value_operand value_kind_operand any_number
  slot_by zero o e some lt has = absurd (some refl)
  slot_by (suc n) o e some lt has = ((lt, (((tt, has), tt), refl)), refl)

  slot_in : (o : Option OptionValue) → FitsSlotValue v o → (slot_value_operand v).fits o
  unfolding slot_value_operand value_kind_operand any_number
  slot_in None s = (((tt, refl), (tt, refl)), refl)
  slot_in (Some o) s =
      let h = (value_fits v o).0 s in
      let k = (option_fits v o).0 h.1 in
      slot_by o.value o refl h.0 (number_in o.value k.0) k.1

  pub fields_in : (b : TraitBody) → traits.HasFields v b → (trait_operands v (trait_kind_in b)).fits b
  fields_in (bodies.Slot id ty value false) h = ((number_in id h.0, (pool_in v.names ty h.1, slot_in value h.2)), refl)
  fields_in (bodies.Slot id ty value true) h = ((number_in id h.0, (pool_in v.names ty h.1, slot_in value h.2)), refl)
  fields_in (bodies.Method disp method) h = ((number_in disp h.0, (position_in v.methods method h.1, tt)), refl)
  fields_in (bodies.Getter disp method) h = ((number_in disp h.0, (position_in v.methods method h.1, tt)), refl)
  fields_in (bodies.Setter disp method) h = ((number_in disp h.0, (position_in v.methods method h.1, tt)), refl)
  fields_in (bodies.Class id class) h = ((number_in id h.0, (position_in v.classes class h.1, tt)), refl)
  fields_in (bodies.Function id method) h = ((number_in id h.0, (position_in v.methods method h.1, tt)), refl)

  -- ---- bodies

  pub catch_in : (h : Handler) → HasNames v h → (catch_line v).fits h
  unfolding catch_line target
  catch_in h s = ((tt, (tt, (tt, (pool_in v.names h.exc_type s.exc_type, (pool_in v.names h.var_name s.var_name, tt))))), refl)

-- ---- instructions

int_below : (z : ℤ) (n : ℕ) → z <ℤ pos (suc n) → int_le z (pos n) ≡ true
int_below z n lt = elim (split_bool (int_le z (pos n))) [ inl e ↦ e | inr e ↦ absurd (omega (arith, ints)) ]

int_from : (z low : ℤ) → low ≤ℤ z → int_le low z ≡ true
int_from z low le = elim (split_bool (int_le low z)) [ inl e ↦ e | inr e ↦ absurd (omega (arith, ints)) ]

abbrev InstrFits : Instr → Type 0
InstrFits i = (instruction_operands (opcode_of i)).fits i

plain_in : (op : ℕ) → form_at op ≡ Some forms.Plain → (instruction_operands op).fits (instrs.Plain op)
unfolding instruction_operands
plain_in op e = rw e (tt, refl)

one_in : (op n : ℕ) → form_at op ≡ Some forms.One → u30_operand.fits n → (instruction_operands op).fits (instrs.One op n)
unfolding instruction_operands
one_in op n e lt = rw e ((lt, tt), refl)

two_in : (op n m : ℕ) → form_at op ≡ Some forms.Two → u30_operand.fits n → u30_operand.fits m → (instruction_operands op).fits (instrs.Two op n m)
unfolding instruction_operands
two_in op n m e lt lt2 = rw e ((lt, (lt2, tt)), refl)

branch_in : (op t : ℕ) → form_at op ≡ Some forms.Branch → (instruction_operands op).fits (instrs.Branch op t)
unfolding instruction_operands target
branch_in op t e = rw e ((tt, tt), refl)

each_target : (ts : List ℕ) → EachFits target ts
unfolding target
each_target [] = tt
each_target (t ∷ ts) = (tt, each_target ts)

switch_in : (t : ℕ) (ts : List ℕ) → 0 < length ts → InstrFits (instrs.Switch t ts)
unfolding instruction_operands form_at info_at target
switch_in t [] some = absurd (omega arith)
switch_in t (c ∷ cs) some = ((tt, (tt, each_target cs)), refl)

byte_in : (z : ℤ) → int_le (negsuc 127) z ≡ true → int_le z (pos 127) ≡ true → InstrFits (instrs.Byte z)
unfolding instruction_operands form_at info_at any_signed
byte_in z a b = (((tt, rw (a, b) refl), tt), refl)

short_in : (z : ℤ) → int_le (negsuc 32767) z ≡ true → int_le z (pos 32767) ≡ true → InstrFits (instrs.Short z)
unfolding instruction_operands form_at info_at any_signed
short_in z a b = (((tt, rw (a, b) refl), tt), refl)

scope_in : (n : ℕ) → (number_below 256).fits n → InstrFits (instrs.ScopeObject n)
unfolding instruction_operands form_at info_at
scope_in n lt = ((lt, tt), refl)

debug_in : (kind name reg extra : ℕ) → (number_below 256).fits kind → u30_operand.fits name → (number_below 256).fits reg → u30_operand.fits extra → InstrFits (instrs.Debug kind name reg extra)
unfolding instruction_operands form_at info_at
debug_in kind name reg extra a b c d = ((a, (b, (c, (d, tt)))), refl)

pub instr_in : (n : ℕ) (i : Instr) → CanSpell n i → HasByteFields i → InstrFits i
instr_in n (instrs.Plain op) can bytes = plain_in op can
instr_in n (instrs.One op x) can bytes = one_in op x can.0 (below_in (2 ^ 30) x can.1)
instr_in n (instrs.Two op x y) can bytes = two_in op x y can.0 (below_in (2 ^ 30) x can.1) (below_in (2 ^ 30) y can.2)
instr_in n (instrs.Branch op t) can bytes = branch_in op t can.0
instr_in n (instrs.Switch t ts) can bytes = switch_in t ts can.2
instr_in n (instrs.Byte z) can bytes = byte_in z (int_from z (negsuc 127) can.0) (int_below z 127 can.1)
instr_in n (instrs.Short z) can bytes = short_in z (int_from z (negsuc 32767) can.0) (int_below z 32767 can.1)
instr_in n (instrs.ScopeObject x) can bytes = scope_in x (below_in 256 x bytes)
instr_in n (instrs.Debug kind name reg extra) can bytes = debug_in kind name reg extra (below_in 256 kind bytes.0) (below_in (2 ^ 30) name can.0) (below_in 256 reg bytes.1) (below_in (2 ^ 30) extra can.1)
