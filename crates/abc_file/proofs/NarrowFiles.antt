-- The narrow format spells just the narrow values, by the same bytes.
use Rattle.std.proofs.Common.{◌≡◌, ◌↔◌, ℕ, Bool, true, false, List, [], ◌∷◌, length, map, refl, sym, ap, ◌∙◌, eqb-true, arith}
use Rattle.std.specs.Prelude.{All, ◌+◌, nat_eq, unwrap_or}
use Rattle.std.proofs.lemmas.Bool.Decides.{nat_tests}
use Rattle.std.proofs.lemmas.List.Elements.{All-cons, All-head, All-map, All-nil, All-same, All-tail}
use Rattle.abc_file_types.specs.Canonical.{IsCanonical, IsLeast}
use Rattle.abc_file_types.specs.Ends.{Pieces}
use Rattle.abc_file_types.specs.Numbers.{u8, u30}
use Rattle.abc_file_types.specs.Part.{Part, then_by}
use Rattle.abc_file_types.specs.declared.code.Body.{Body}
use Rattle.abc_file_types.specs.declared.code.Instr.{Instr}
use Rattle.abc_file_types.specs.declared.instructions.Code.{Code}
use Rattle.abc_file_types.specs.declared.names.Multiname.{Multiname}
use Rattle.abc_file_types.specs.declared.names.MultinameKind.{MultinameKind}
use Rattle.abc_file_types.specs.declared.names.MultinameKind.TheVariants as kinds
use Rattle.abc_file_types.specs.declared.opcodes.Form.{Form}
use Rattle.abc_file_types.specs.declared.opcodes.Form.TheVariants as forms
use Rattle.abc_file_types.specs.declared.tables.Abc.{Abc}
use Rattle.abc_file_types.specs.Bodies.{bodies, bodies_alone, body, body_list, body_with, methods_of}
use Rattle.abc_file_types.specs.Classes.{definitions, sizes_of}
use Rattle.abc_file_types.specs.Code.{Means, MeansAll, code, code_body}
use Rattle.abc_file_types.specs.Files.{file, file_bytes}
use Rattle.abc_file_types.specs.Instructions.{Branch, RawInstr, Same, Switch, instruction, opcode_part, opcode_in, operand_parts}
use Rattle.abc_file_types.specs.Opcodes.{form_at, info_at, is_opcode}
use Rattle.abc_file_types.specs.Pools.{is_multiname_kind, multiname, multiname_fields, multiname_kind, multiname_kind_in, multiname_kind_of, multiname_of, multinames, pools, pools_of}
use Rattle.abc_file_types.proofs.Whole.{file-canonical}
use Rattle.abc_file.specs.Narrow.{HasNoApplytype, IsNarrow, has_params, is_applytype, narrow_bodies, narrow_body, narrow_code_body, narrow_file, narrow_instruction, narrow_names}
use Rattle.abc_file.proofs.Narrowing.{Narrows, chain_narrows, checked_narrows, first_narrows, image_narrows, pair_narrows, pool_by_narrows, second_narrows, told_narrows}

-- ---- multinames

abbrev is_type : MultinameKind → Bool
is_type kinds.TypeName = true
is_type k = false

known_kind : (k : ℕ) → is_multiname_kind false k ≡ true → is_multiname_kind true k ≡ true
known_kind k h = grind (arith, nat_tests)

old_kind : (k : ℕ) → is_multiname_kind false k ≡ true → is_type (multiname_kind_of k) ≡ false
old_kind k h = grind (arith, nat_tests)

kept_kind : (k : ℕ) → is_multiname_kind true k ≡ true → is_type (multiname_kind_of k) ≡ false → is_multiname_kind false k ≡ true
kept_kind k h t = grind (arith, nat_tests)

kind_narrows : Narrows (multiname_kind_in false) multiname_kind (λ k. is_type k ≡ false)
unfolding multiname_kind
kind_narrows = image_narrows multiname_kind_of _ _ (λ k. is_type k ≡ false) (checked_narrows (is_multiname_kind false) (is_multiname_kind true) _ u8 _ (λ k h. (known_kind k h, old_kind k h)) kept_kind)

kind_tells : (strings spaces sets all : ℕ) (kind : MultinameKind) (m : Multiname) (b : List ℕ) → (multiname_fields strings spaces sets all kind).spells m b → is_type kind ≡ has_params m
kind_tells strings spaces sets all (kinds.QName attr) m b s = rw s.2 refl
kind_tells strings spaces sets all (kinds.Rt attr) m b s = rw s.2 refl
kind_tells strings spaces sets all (kinds.RtL attr) m b s = rw s.0 refl
kind_tells strings spaces sets all (kinds.Multi attr) m b s = rw s.2 refl
kind_tells strings spaces sets all (kinds.MultiL attr) m b s = rw s.2 refl
kind_tells strings spaces sets all kinds.TypeName m b s = rw s.2 refl

abbrev HasNone : Multiname → Type 0
HasNone m = has_params m ≡ false

name_narrows : (strings spaces sets all : ℕ) → Narrows (multiname_of (multiname_kind_in false) strings spaces sets all) (multiname strings spaces sets all) HasNone
unfolding multiname
name_narrows strings spaces sets all =
    image_narrows (λ (x : MultinameKind × Multiname). x.1) _ _ HasNone
    (told_narrows _ _ (λ x. is_type x.0 ≡ false) (λ x. has_params x.1 ≡ false)
    (λ x b s h. sym (kind_tells strings spaces sets all x.0 x.1 s.1 s.4) ∙ h) (λ x b s h. kind_tells strings spaces sets all x.0 x.1 s.1 s.4 ∙ h)
    (first_narrows (multiname_kind_in false) multiname_kind (multiname_fields strings spaces sets all) (λ k. is_type k ≡ false) kind_narrows))

names_narrow : (strings spaces sets : ℕ) → Narrows (narrow_names strings spaces sets) (multinames strings spaces sets) (All HasNone)
unfolding narrow_names multinames
names_narrow strings spaces sets = pool_by_narrows _ _ HasNone (name_narrows strings spaces sets)

pools_narrow : Narrows (pools_of narrow_names) pools (λ v. All HasNone v.names)
unfolding pools
pools_narrow =
    image_narrows _ _ _ (λ v. All HasNone v.names)
    (second_narrows _ _ _ _ (λ ints. second_narrows _ _ _ _ (λ uints. second_narrows _ _ _ _ (λ doubles. second_narrows _ _ _ _ (λ strings.
    second_narrows _ _ _ _ (λ spaces. second_narrows _ _ _ _ (λ sets. names_narrow (length strings) (length spaces) (length sets))))))))

-- ---- instructions

abbrev is_raw_applytype : RawInstr → Bool
is_raw_applytype (Same i) = is_applytype i
is_raw_applytype (Branch op z) = false
is_raw_applytype (Switch z zs) = false

apply_form : (op : ℕ) (form : Form) → form ≡ unwrap_or (form_at op) forms.Plain → nat_eq op 0x53 ≡ true → form ≡ forms.One
unfolding form_at info_at
apply_form op form f e = let is : op ≡ 0x53 = eqb-true op 0x53 e in f ∙ ap (λ (k : ℕ). unwrap_or (form_at k) forms.Plain) is

other_form : (op : ℕ) (form : Form) → form ≡ unwrap_or (form_at op) forms.Plain → (form ≡ forms.One → ⊥) → nat_eq op 0x53 ≡ false
other_form op form f differs = go (nat_eq op 0x53) (λ e. differs (apply_form op form f e)) where
  go : (t : Bool) → (t ≡ true → ⊥) → t ≡ false
  go true h = absurd (h refl)
  go false h = refl

opcode_tells : (op : ℕ) (form : Form) (raw : RawInstr) (b : List ℕ) → form ≡ unwrap_or (form_at op) forms.Plain → (operand_parts op form).spells raw b → nat_eq op 0x53 ≡ is_raw_applytype raw
opcode_tells op forms.Plain raw b f s = rw s.0 (other_form op forms.Plain f (λ e. absurd cc))
opcode_tells op forms.One raw b f s = rw s.2 refl
opcode_tells op forms.Two raw b f s = rw s.2 (other_form op forms.Two f (λ e. absurd cc))
opcode_tells op forms.Branch raw b f s = rw s.2 (other_form op forms.Branch f (λ e. absurd cc))
opcode_tells op forms.Switch raw b f s = rw s.2 (other_form op forms.Switch f (λ e. absurd cc))
opcode_tells op forms.Byte raw b f s = rw s.2 (other_form op forms.Byte f (λ e. absurd cc))
opcode_tells op forms.Short raw b f s = rw s.2 (other_form op forms.Short f (λ e. absurd cc))
opcode_tells op forms.ScopeObject raw b f s = rw s.2 (other_form op forms.ScopeObject f (λ e. absurd cc))
opcode_tells op forms.Debug raw b f s = rw s.2 (other_form op forms.Debug f (λ e. absurd cc))

opcode_form : (o : ℕ × Form) (b : List ℕ) → opcode_part.spells o b → o.1 ≡ unwrap_or (form_at o.0) forms.Plain
unfolding opcode_part
opcode_form o b s = ap (λ (p : ℕ × Form). p.1) s.2 ∙ ap (λ (p : ℕ × Form). unwrap_or (form_at p.0) forms.Plain) (sym s.2)

known_opcode : (op : ℕ) → is_opcode false op ≡ true → is_opcode true op ≡ true
known_opcode op h = grind (arith, nat_tests)

old_opcode : (op : ℕ) → is_opcode false op ≡ true → nat_eq op 0x53 ≡ false
old_opcode op h = grind (arith, nat_tests)

kept_opcode : (op : ℕ) → is_opcode true op ≡ true → nat_eq op 0x53 ≡ false → is_opcode false op ≡ true
kept_opcode op h t = rw t h

opcode_narrows : Narrows (opcode_in false) opcode_part (λ o. nat_eq o.0 0x53 ≡ false)
unfolding opcode_part
opcode_narrows = image_narrows _ _ _ (λ (o : ℕ × Form). nat_eq o.0 0x53 ≡ false) (checked_narrows (is_opcode false) (is_opcode true) _ u8 _ (λ op h. (known_opcode op h, old_opcode op h)) kept_opcode)

abbrev IsNoRaw : RawInstr → Type 0
IsNoRaw raw = is_raw_applytype raw ≡ false

instruction_narrows : Narrows narrow_instruction instruction IsNoRaw
unfolding narrow_instruction instruction
instruction_narrows =
    image_narrows (λ (x : (ℕ × Form) × RawInstr). x.1) _ _ IsNoRaw
    (told_narrows _ _ (λ x. nat_eq x.0.0 0x53 ≡ false) (λ x. is_raw_applytype x.1 ≡ false)
    (λ x b s h. sym (opcode_tells x.0.0 x.0.1 x.1 s.1 (opcode_form x.0 s.0 s.3) s.4) ∙ h) (λ x b s h. opcode_tells x.0.0 x.0.1 x.1 s.1 (opcode_form x.0 s.0 s.3) s.4 ∙ h)
    (first_narrows (opcode_in false) opcode_part (λ o. operand_parts o.0 o.1) (λ o. nat_eq o.0 0x53 ≡ false) opcode_narrows))

-- ---- code

abbrev AreNoRaws : List (RawInstr × ℕ) → Type 0
AreNoRaws [] = Unit {0}
AreNoRaws (x ∷ xs) = IsNoRaw x.0 × AreNoRaws xs

pieces_wider : (xs : List (RawInstr × ℕ)) (b : List ℕ) → Pieces narrow_instruction xs b → Pieces instruction xs b × AreNoRaws xs
pieces_wider [] b s = (s, tt)
pieces_wider (x ∷ xs) b s =
    let one = instruction_narrows.wider x.0 s.0 s.3 in let more = pieces_wider xs s.1 s.5 in ((s.0, s.1, s.2, one.0, s.4, more.0), (one.1, more.1))

pieces_narrower : (xs : List (RawInstr × ℕ)) (b : List ℕ) → Pieces instruction xs b → AreNoRaws xs → Pieces narrow_instruction xs b
pieces_narrower [] b s none = s
pieces_narrower (x ∷ xs) b s none = (s.0, s.1, s.2, instruction_narrows.narrower x.0 s.0 s.3 none.0, s.4, pieces_narrower xs s.1 s.5 none.1)

raw_tells : (ps : List (RawInstr × ℕ)) (here next : ℕ) (raw : RawInstr) (i : Instr) → Means ps here next raw i → is_raw_applytype raw ≡ is_applytype i
raw_tells ps here next (Same j) i m = rw m refl
raw_tells ps here next (Branch op z) i m = rw m.2 refl
raw_tells ps here next (Switch z zs) i m = rw m.4 refl

abbrev IsNone : Instr → Type 0
IsNone i = is_applytype i ≡ false

raws_there : (ps : List (RawInstr × ℕ)) (here : ℕ) (xs : List (RawInstr × ℕ)) (is : List Instr) → MeansAll ps here xs is → AreNoRaws xs → All IsNone is
raws_there ps here [] [] m none = All-nil IsNone
raws_there ps here [] (i ∷ is) m none = absurd m
raws_there ps here (x ∷ xs) [] m none = absurd m
raws_there ps here (x ∷ xs) (i ∷ is) m none =
    All-cons IsNone i is (sym (raw_tells ps here (here + x.1) x.0 i m.0) ∙ none.0) (raws_there ps (here + x.1) xs is m.1 none.1)

raws_back : (ps : List (RawInstr × ℕ)) (here : ℕ) (xs : List (RawInstr × ℕ)) (is : List Instr) → MeansAll ps here xs is → All IsNone is → AreNoRaws xs
raws_back ps here [] is m all = tt
raws_back ps here (x ∷ xs) [] m all = absurd m
raws_back ps here (x ∷ xs) (i ∷ is) m all =
    (raw_tells ps here (here + x.1) x.0 i m.0 ∙ All-head IsNone i is all, raws_back ps (here + x.1) xs is m.1 (All-tail IsNone i is all))

code_body_narrows : (n : ℕ) → Narrows (narrow_code_body n) (code_body n) (λ c. All IsNone c.instrs)
unfolding narrow_code_body code_body
code_body_narrows n = record {
  wider = λ c b s.
      let k = s.0 in let w = pieces_wider k.pieces b k.filled in
      ((record { pieces = k.pieces; filled = w.0; means = k.means; offsets = k.offsets }, s.1), raws_there k.pieces 0 k.pieces c.instrs k.means w.1);
  narrower = λ c b s all.
      let k = s.0 in
      (record { pieces = k.pieces; filled = pieces_narrower k.pieces b k.filled (raws_back k.pieces 0 k.pieces c.instrs k.means all); means = k.means; offsets = k.offsets }, s.1);
}

-- ---- bodies

body_narrows : (abc : Abc) (taken : List ℕ) → Narrows (narrow_body abc taken) (body (sizes_of abc) taken) (λ y. HasNoApplytype y.0)
unfolding narrow_body body body_with code
body_narrows abc taken =
    image_narrows _ _ _ (λ (y : Body × List ℕ). HasNoApplytype y.0)
    (second_narrows _ _ _ _ (λ method. second_narrows _ _ _ _ (λ max_stack. second_narrows _ _ _ _ (λ local_count. second_narrows _ _ _ _ (λ init_scope. second_narrows _ _ _ _ (λ max_scope.
    first_narrows _ _ _ (λ c. All IsNone c.instrs) (image_narrows (λ (x : ℕ × Code). x.1) _ _ (λ c. All IsNone c.instrs) (second_narrows _ _ _ (λ x. All IsNone x.1.instrs) code_body_narrows))))))))

unmapped : {X Y : Type 0} (P : Y → Type 0) (f : X → Y) (xs : List X) → All P (map f xs) → All (λ x. P (f x)) xs
unmapped P f [] all = All-nil (λ x. P (f x))
unmapped P f (x ∷ xs) all = All-cons (λ y. P (f y)) x xs (All-head P (f x) (map f xs) all) (unmapped P f xs (All-tail P (f x) (map f xs) all))

bodies_narrow : (abc : Abc) → Narrows (narrow_bodies abc) (bodies_alone abc) (λ v. All HasNoApplytype v.bodies)
unfolding narrow_bodies bodies_alone bodies body_list
bodies_narrow abc =
    let Is : Body × List ℕ → Type 0 = λ y. HasNoApplytype y.0 in
    image_narrows (λ (x : Abc × List (List ℕ)). x.0) _ _ (λ v. All HasNoApplytype v.bodies)
    (image_narrows _ _ _ (λ x. All HasNoApplytype (x.0).bodies)
    (told_narrows _ _ (All Is) (λ xs. All HasNoApplytype (map (λ x. x.0) xs)) (λ xs b s h. All-map HasNoApplytype (λ x. x.0) xs h) (λ xs b s h. unmapped HasNoApplytype (λ x. x.0) xs h)
    (image_narrows (λ (x : ℕ × List (Body × List ℕ)). x.1) _ _ (All Is)
    (second_narrows u30 _ _ (λ x. All Is x.1) (λ n. chain_narrows n (λ before. narrow_body abc (methods_of before)) (λ before. body (sizes_of abc) (methods_of before)) Is (λ before. body_narrows abc (methods_of before)))))))

-- ---- the whole file

-- the pools, the definitions and the bodies, each beside those before them
abbrev Stages : Type 0
Stages = Abc × (Abc × Abc)

abbrev all_stages : Part Stages
all_stages = then_by pools (λ abc. then_by (definitions abc) (λ full. bodies_alone full))

same_names : (x : Stages) (b : List ℕ) → all_stages.spells x b → x.1.1.names ≡ x.0.names
unfolding definitions bodies_alone bodies
same_names x b s =
    let full = s.4.3 in let last = s.4.4 in
    ap (λ (v : Abc). v.names) last.2 ∙ ap (λ (y : Abc × List (List ℕ)). (y.0).names) last.1.2 ∙ ap (λ (v : Abc). v.names) full.2

stages_narrow : Narrows (then_by (pools_of narrow_names) (λ abc. then_by (definitions abc) narrow_bodies)) all_stages (λ x. IsNarrow x.1.1)
stages_narrow =
    told_narrows _ _ (λ (x : Stages). All HasNone x.0.names × All HasNoApplytype x.1.1.bodies) (λ (x : Stages). IsNarrow x.1.1)
    (λ x b s h. record { names = All-same HasNone x.1.1.names x.0.names (same_names x b s) h.0; code = h.1 })
    (λ x b s h. (All-same HasNone x.0.names x.1.1.names (sym (same_names x b s)) h.names, h.code))
    (pair_narrows _ _ _ _ (λ v. All HasNone v.names) (λ (y : Abc × Abc). All HasNoApplytype y.1.bodies) pools_narrow (λ abc. second_narrows _ _ _ _ bodies_narrow))

file_narrows : Narrows narrow_file file IsNarrow
unfolding narrow_file file
file_narrows = image_narrows _ _ _ IsNarrow (second_narrows _ _ _ _ (λ version. stages_narrow))

pub just_narrow : (v : Abc) (b : List ℕ) → narrow_file.spells v b ↔ (file.spells v b × IsNarrow v)
just_narrow v b = (file_narrows.wider v b, λ h. file_narrows.narrower v b h.0 h.1)

pub narrow-canonical : IsCanonical narrow_file file_bytes
narrow-canonical = record {
  spelled = λ v b s. let w = file_narrows.wider v b s in file_narrows.narrower v (file_bytes v) (file-canonical.spelled v b w.0) w.1;
  shortest = λ v b s. file-canonical.shortest v b (file_narrows.wider v b s).0;
  least = λ v b s. file-canonical.least v b (file_narrows.wider v b s).0;
}

-- the same bytes are canonical in both formats
pub narrow_least : (v : Abc) (b : List ℕ) → IsNarrow v → IsLeast narrow_file v b ↔ IsLeast file v b
narrow_least v b n = (
  λ l. record {
    spelled = (file_narrows.wider v b l.spelled).0;
    shortest = λ c s. l.shortest c (file_narrows.narrower v c s n);
    least = λ c s. l.least c (file_narrows.narrower v c s n);
  },
  λ l. record {
    spelled = file_narrows.narrower v b l.spelled n;
    shortest = λ c s. l.shortest c (file_narrows.wider v c s).0;
    least = λ c s. l.least c (file_narrows.wider v c s).0;
  },
)
