-- What is given of a verified file: its methods and instructions.
use Rattle.std.proofs.Common.{◌≡◌, ℕ, zero, suc, ◌-◌, ◌<◌, ◌≤◌, ◌%◌, ◌^◌, ℤ, pos, List, [], ◌∷◌, length, map, replicate, get_or, refl, sym, ap, ◌∙◌, subst, arith, eqb-true}
use Rattle.std.proofs.lemmas.Int.{ints}
use Rattle.std.proofs.lemmas.Bool.{false_from_ne_true, leb-true}
use Rattle.std.specs.Prelude.{Bool, true, false, not, ◌||◌, is_some, nat_eq, nat_le, slice_get, Some, None, if◌then◌else◌}
use Rattle.std.specs.List.{list_all, list_any}
use Rattle.std.specs.declared.option.Option.{Option}
use Rattle.abc_base.specs.Ranges.{IsNumber}
use Rattle.abc_heap_values.specs.declared.values.Value.{Value}
use Rattle.abc_heap_values.specs.declared.values.Value.TheVariants as values
use Rattle.abc_tables.specs.Fitting.{FitOptions, FitsInt, FitsOption, Spelled}
use Rattle.abc_tables.proofs.BodiesFit.{bodies_fit, body_fits}
use Rattle.abc_tables.proofs.Combined.{position_fits}
use Rattle.abc_tables.proofs.DefinitionsFit.{AreDefinitions, definitions_fit}
use Rattle.abc_tables.proofs.FileFits.{file_fits, tables_fit}
use Rattle.abc_tables.proofs.MethodsFit.{method_fits, option_fits, options_asked, options_unasked}
use Rattle.abc_file_types.specs.Numbers.{s32, u32}
use Rattle.abc_heap_store.specs.Heap.{Heap}
use Rattle.abc_link_names.specs.Meaning.{type_named}
use Rattle.abc_link_names.specs.declared.named.Named.{Named}
use Rattle.abc_objects.specs.Values.{Exists, IsSpace}
use Rattle.abc_objects.proofs.Started.{Stored, stored}
use Rattle.abc_ops.proofs.Staying.{string_there}
use Rattle.abc_link_names.specs.Linked.{IsLinkedFile, LinkedFile}
use Rattle.abc_link_names.specs.Owners.{body_of, owner_of}
use Rattle.abc_link_names.specs.Types.{type_if, type_in}
use Rattle.abc_link_names.specs.Methods.{methods_with_bodies}
use Rattle.abc_link_names.specs.PartsByNumber.{body_at, method_at, no_body, no_method}
use Rattle.abc_link_names.specs.Starts.{int_at, raw_of_option, space_value, uint_at}
use Rattle.abc_link_names.specs.ItemTypes.{any_table, breaks_trait_not_run, breaks_unknown_type, own_type_fails, slot_type_fails}
use Rattle.abc_link_names.specs.declared.items.ItemKind.{ItemKind}
use Rattle.abc_link_names.specs.declared.items.ItemKind.TheVariants as items
use Rattle.abc_link_names.specs.declared.items.LinkRule.TheVariants as rules
use Rattle.abc_link_names.specs.declared.start.Raw.{Raw}
use Rattle.abc_link_names.specs.declared.start.Raw.TheVariants as raws
use Rattle.abc_link_names.specs.Items.{count_of}
use Rattle.abc_verify_typing.specs.Instructions.{opcode, targets}
use Rattle.abc_verify_typing.specs.Rows.{Shape, find, row_at, table_of_rows}
use Rattle.abc_verify_typing.specs.declared.row.Leads.{Leads as Leading}
use Rattle.abc_verify_typing.specs.declared.row.Leads.TheVariants.{Next, Branches, Jumps, Switches, Ends}
use Rattle.abc_file_types.specs.Bodies.{IsReadyBody}
use Rattle.abc_file_types.specs.Classes.{sizes_of}
use Rattle.abc_file_types.specs.Methods.{has_flag, has_value}
use Rattle.abc_file_types.specs.Opcodes.{form_at, info_at}
use Rattle.abc_file_types.specs.Ready.{AllCanSpell, CanSpell}
use Rattle.abc_file_types.specs.declared.code.Body.{Body}
use Rattle.abc_file_types.specs.declared.code.Instr.{Instr}
use Rattle.abc_file_types.specs.declared.code.Instr.TheVariants as instrs
use Rattle.abc_file_types.specs.declared.methods.Method.{Method}
use Rattle.abc_file_types.specs.declared.methods.OptionValue.{OptionValue}
use Rattle.abc_file_types.specs.declared.methods.ValueKind.{ValueKind}
use Rattle.abc_file_types.specs.declared.methods.ValueKind.TheVariants as kinds
use Rattle.abc_file_types.specs.declared.opcodes.Form.{Form}
use Rattle.abc_file_types.specs.declared.opcodes.Form.TheVariants as forms
use Rattle.abc_file_types.specs.declared.tables.Abc.{Abc}
use Rattle.abc_file_types.specs.declared.traits.TraitInfo.{TraitInfo}
use Rattle.abc_verify_typing.specs.Lists.{Each}
use Rattle.abc_verify_typing.specs.Routines.{Routine, filled_by, routine}
use Rattle.abc_verify_typing.proofs.Lists.{Each-append, Each-map}
use Rattle.abc_verify_typing.proofs.Member.{and_left, and_right}
use Rattle.abc_meaning.specs.Setting.{Setting, value_of_raw, routine_in, routine_of, string_of}
use Rattle.abc_meaning.specs.Simple.{whole}
use Rattle.abc_meaning_sound.specs.Given.{HasTarget, IsFormed, IsMethod, IsType, OptionExists}
use Rattle.abc_meaning_sound.proofs.Lists.{inside}
use Rattle.abc_meaning_sound.proofs.Indexed.{all_each, first_passed, got, is_at, map_at, none_passes, or_left, or_right}
use Rattle.abc_meaning_sound.proofs.Numbers.{cast_number}

-- ---- numbers of the pools

zero_number : IsNumber (pos 0)
zero_number = (omega (arith, ints), omega (arith, ints))

int_number : (z : ℤ) → FitsInt z → IsNumber z
unfolding FitsInt s32
int_number z s = subst IsNumber (sym s.is.2) (cast_number (s.is.0 % 2 ^ 32))

uint_number : (n : ℕ) → Spelled u32 n → IsNumber (pos n)
unfolding u32
uint_number n s =
    let e = s.is.2 in
    let low : n < 4294967296 = omega (arith, e) in
    (omega (arith, ints), omega (arith, ints, low))

entry : {X : Type 0} (P : X → Type 0) (xs : List X) (k : ℕ) (d : X) → P d → Each P xs → P (get_or xs k d)
entry P [] k d p a = p
entry P (x ∷ xs) zero d p a = a.0
entry P (x ∷ xs) (suc k) d p a = entry P xs k d p a.1

pub int_there : (v : Abc) → Stored v → (n : ℕ) → IsNumber (int_at v n)
int_there v s n = go (nat_eq n 0)
  where
    go : (b : Bool) → IsNumber (if b then pos 0 else get_or v.ints (n - 1) (pos 0))
    go true = zero_number
    go false = entry IsNumber v.ints (n - 1) (pos 0) zero_number (Each-map FitsInt IsNumber int_number v.ints (all_each FitsInt v.ints s.ints))

pub uint_there : (v : Abc) → Stored v → (n : ℕ) → IsNumber (pos (uint_at v n))
uint_there v s n = go (nat_eq n 0)
  where
    go : (b : Bool) → IsNumber (pos (if b then 0 else get_or v.uints (n - 1) 0))
    go true = zero_number
    go false = entry (λ (m : ℕ). IsNumber (pos m)) v.uints (n - 1) 0 zero_number (Each-map (Spelled u32) (λ (m : ℕ). IsNumber (pos m)) uint_number v.uints (all_each (Spelled u32) v.uints s.uints))

-- ---- instructions

-- a row whose instruction names places is of a form that does
abbrev is_branch : Option Form → Bool
is_branch (Some forms.Branch) = true
is_branch other = false

abbrev is_switch : Option Form → Bool
is_switch (Some forms.Switch) = true
is_switch other = false

abbrev leads_fit : Leading → Option Form → Bool
leads_fit Next o = true
leads_fit Ends o = true
leads_fit Branches o = is_branch o
leads_fit Jumps o = is_branch o
leads_fit Switches o = is_switch o

abbrev goes_on : Form → Bool
goes_on forms.Branch = false
goes_on forms.Switch = false
goes_on other = true

find_fits : (op : ℕ) (rs : List (ℕ × Shape)) (row : Shape) → list_all (λ (r : ℕ × Shape). leads_fit r.1.leads (form_at r.0)) rs ≡ true → find op rs ≡ Some row → leads_fit row.leads (form_at op) ≡ true
find_fits op [] row a e = absurd cc
find_fits op (r ∷ rs) row a e = go (λ f. find_fits op rs row (and_right (leads_fit r.1.leads (form_at r.0)) (list_all (λ (x : ℕ × Shape). leads_fit x.1.leads (form_at x.0)) rs) a) f) (nat_eq op r.0) refl e
  where
    go : (find op rs ≡ Some row → leads_fit row.leads (form_at op) ≡ true) → (b : Bool) → nat_eq op r.0 ≡ b → (if b then Some r.1 else find op rs) ≡ Some row → leads_fit row.leads (form_at op) ≡ true
    go more true q f =
        let same = eqb-true op r.0 q in
        let it : r.1 ≡ row = cc in
        subst (λ (k : ℕ). leads_fit row.leads (form_at k) ≡ true) (sym same) (subst (λ (x : Shape). leads_fit x.leads (form_at r.0) ≡ true) it (and_left (leads_fit r.1.leads (form_at r.0)) (list_all (λ (x : ℕ × Shape). leads_fit x.1.leads (form_at x.0)) rs) a))
    go more false q f = more f

all_fit : list_all (λ (r : ℕ × Shape). leads_fit r.1.leads (form_at r.0)) table_of_rows ≡ true
unfolding table_of_rows form_at info_at
all_fit = refl

row_fits : (op : ℕ) (row : Shape) (form : Form) → row_at op ≡ Some row → form_at op ≡ Some form → leads_fit row.leads (Some form) ≡ true
unfolding row_at
row_fits op row form e f = sym (ap (leads_fit row.leads) f) ∙ find_fits op table_of_rows row all_fit e

no_branch : (form : Form) → is_branch (Some form) ≡ true → goes_on form ≡ true → ⊥
no_branch forms.Plain e g = cc
no_branch forms.One e g = cc
no_branch forms.Two e g = cc
no_branch forms.Branch e g = cc
no_branch forms.Switch e g = cc
no_branch forms.Byte e g = cc
no_branch forms.Short e g = cc
no_branch forms.ScopeObject e g = cc
no_branch forms.Debug e g = cc

no_switch : (form : Form) → is_switch (Some form) ≡ true → goes_on form ≡ true → ⊥
no_switch forms.Plain e g = cc
no_switch forms.One e g = cc
no_switch forms.Two e g = cc
no_switch forms.Branch e g = cc
no_switch forms.Switch e g = cc
no_switch forms.Byte e g = cc
no_switch forms.Short e g = cc
no_switch forms.ScopeObject e g = cc
no_switch forms.Debug e g = cc

on_target : (leads : Leading) (form : Form) (ts : List ℕ) → leads_fit leads (Some form) ≡ true → goes_on form ≡ true → HasTarget leads ts
on_target Next form ts e g = tt
on_target Ends form ts e g = tt
on_target Branches form ts e g = absurd (no_branch form e g)
on_target Jumps form ts e g = absurd (no_branch form e g)
on_target Switches form ts e g = absurd (no_switch form e g)

one_target : (leads : Leading) (t : ℕ) (ts : List ℕ) → HasTarget leads (t ∷ ts)
one_target Next t ts = tt
one_target Ends t ts = tt
one_target Branches t ts = tt
one_target Jumps t ts = tt
one_target Switches t ts = tt

literal_forms : (form_at 0x24 ≡ Some forms.Byte) × (form_at 0x25 ≡ Some forms.Short) × (form_at 0x65 ≡ Some forms.ScopeObject) × (form_at 0xEF ≡ Some forms.Debug)
unfolding form_at info_at
literal_forms = (refl, refl, refl, refl)

target_there : (n : ℕ) (instr : Instr) (row : Shape) → CanSpell n instr → row_at (opcode instr) ≡ Some row → HasTarget row.leads (targets instr)
target_there n (instrs.Plain op) row c e = on_target row.leads forms.Plain [] (row_fits op row forms.Plain e c) refl
target_there n (instrs.One op x) row c e = on_target row.leads forms.One [] (row_fits op row forms.One e c.0) refl
target_there n (instrs.Two op x y) row c e = on_target row.leads forms.Two [] (row_fits op row forms.Two e c.0) refl
target_there n (instrs.Branch op t) row c e = one_target row.leads t []
target_there n (instrs.Switch t ts) row c e = one_target row.leads t ts
target_there n (instrs.Byte z) row c e = on_target row.leads forms.Byte [] (row_fits 0x24 row forms.Byte e literal_forms.0) refl
target_there n (instrs.Short z) row c e = on_target row.leads forms.Short [] (row_fits 0x25 row forms.Short e literal_forms.1) refl
target_there n (instrs.ScopeObject x) row c e = on_target row.leads forms.ScopeObject [] (row_fits 0x65 row forms.ScopeObject e literal_forms.2) refl
target_there n (instrs.Debug kind name reg extra) row c e = on_target row.leads forms.Debug [] (row_fits 0xEF row forms.Debug e literal_forms.3) refl

whole_number : (n : ℕ) (instr : Instr) → CanSpell n instr → IsNumber (whole instr)
whole_number n (instrs.Byte z) c = (omega (arith, ints, c.0), omega (arith, ints, c.1))
whole_number n (instrs.Short z) c = (omega (arith, ints, c.0), omega (arith, ints, c.1))
whole_number n (instrs.Plain op) c = zero_number
whole_number n (instrs.One op x) c = zero_number
whole_number n (instrs.Two op x y) c = zero_number
whole_number n (instrs.Branch op t) c = zero_number
whole_number n (instrs.Switch t ts) c = zero_number
whole_number n (instrs.ScopeObject x) c = zero_number
whole_number n (instrs.Debug kind name reg extra) c = zero_number

can_at : (n : ℕ) (is : List Instr) (i : ℕ) (instr : Instr) → AllCanSpell n is → slice_get is i ≡ Some instr → CanSpell n instr
can_at n [] i instr a e = absurd cc
can_at n (x ∷ xs) zero instr a e = let same : x ≡ instr = cc in subst (CanSpell n) same a.0
can_at n (x ∷ xs) (suc i) instr a e = can_at n xs i instr a.1 e

-- ---- the rules

module _ (l : LinkedFile) (linked : IsLinkedFile l) where
  pub types_known : (kind : ItemKind) (i : ℕ) → i < count_of l.file kind → breaks_unknown_type l.file kind i ≡ false
  types_known kind i b = false_from_ne_true (breaks_unknown_type l.file kind i) (linked.rules rules.UnknownType (record { kind = kind; index = i }) (record { within = b }))

  pub traits_run : (kind : ItemKind) (i : ℕ) → i < count_of l.file kind → breaks_trait_not_run l.file kind i ≡ false
  traits_run kind i b = false_from_ne_true (breaks_trait_not_run l.file kind i) (linked.rules rules.TraitNotRun (record { kind = kind; index = i }) (record { within = b }))

  pub some_script : 0 < length l.file.scripts
  some_script = go (length l.file.scripts) (false_from_ne_true (nat_eq (length l.file.scripts) 0) (linked.rules rules.NoScript (record { kind = items.File; index = 0 }) (record { within = omega arith })))
    where
      go : (n : ℕ) → nat_eq n 0 ≡ false → 0 < n
      go zero e = absurd cc
      go (suc n) e = omega arith

  pub type_known : (n : ℕ) → not (is_some (type_named l.file n)) ≡ false → IsType l n
  type_known n e = go (type_named l.file n) refl e
    where
      go : (o : Option Named) → type_named l.file n ≡ o → not (is_some o) ≡ false → IsType l n
      go None q f = absurd cc
      go (Some t) q f = record { ty = type_in l t; is = ap (type_if l) q }

  -- ---- methods and bodies

  pub definitions : AreDefinitions l.file
  definitions = (definitions_fit l.file).0 ((tables_fit l.file).0 ((file_fits l.file).0 linked.fits).1).1

  pub record BodyIs (n b : ℕ) : Type 0 where
    pub low : b < length l.file.bodies
    pub method : (body_at l.file b).method ≡ n
    pub method_low : n < length l.file.methods
    pub ready : IsReadyBody (body_at l.file b)

  pub body_is : (n b : ℕ) → body_of l.file n ≡ Some b → BodyIs n b
  body_is n b e =
      let r = first_passed (nat_eq n) (methods_with_bodies l.file) 0 b e in
      let m = map_at (λ (x : Body). x.method) l.file.bodies r.place r.key r.at in
      let is = r.is in
      let same : r.place ≡ b = omega (arith, is) in
      let inner = inside l.file.bodies r.place m.0 m.1 in
      let low : b < length l.file.bodies = omega (arith, same, inner) in
      let body : body_at l.file b ≡ m.0 = ap (body_at l.file) (sym same) ∙ got l.file.bodies r.place m.0 no_body m.1 in
      let method : (body_at l.file b).method ≡ n = ap (λ (x : Body). x.method) body ∙ sym m.2 ∙ sym (eqb-true n r.key r.passes) in
      let all = (bodies_fit l.file).0 ((tables_fit l.file).0 ((file_fits l.file).0 linked.fits).1).2 in
      let fits = (body_fits (sizes_of l.file) (body_at l.file b)).0 (all.1 b no_body low) in
      let place = (position_fits (sizes_of l.file).methods (body_at l.file b).method).0 fits.0 in
      record { low = low; method = method; method_low = subst (λ (x : ℕ). x < length l.file.methods) method place.0; ready = fits.2 }

module _ (p : Setting) (linked : IsLinkedFile p.linked) where
  pub record RoutineIs (n : ℕ) (r : Routine) : Type 0 where
    pub body : ℕ
    pub is : BodyIs p.linked linked n body
    pub routine_is : r ≡ routine p.linked body

  pub routine_found : (n : ℕ) (r : Routine) → routine_of p n ≡ Some r → RoutineIs n r
  routine_found n r e = go (body_of p.linked.file n) refl e
    where
      go : (o : Option ℕ) → body_of p.linked.file n ≡ o → routine_in p o ≡ Some r → RoutineIs n r
      go None q f = absurd cc
      go (Some b) q f = record { body = b; is = body_is p.linked linked n b q; routine_is = cc }

  pub formed : (n : ℕ) (r : Routine) (i : ℕ) (instr : Instr) → routine_of p n ≡ Some r → slice_get r.code i ≡ Some instr → IsFormed instr
  formed n r i instr e at =
      let b = routine_found n r e in
      let code = (body_at p.linked.file b.body).code in
      let c = can_at (length code) code i instr b.is.ready.code.can (sym (ap (λ (x : Routine). slice_get x.code i) b.routine_is) ∙ at) in
      record { target = λ row q. target_there (length code) instr row c q; number = whole_number (length code) instr c }

  -- ---- options

  -- the value of an option, as far as it may not exist
  abbrev RawThere : Raw → Type 0
  RawThere (raws.Int z) = IsNumber z
  RawThere (raws.UInt n) = IsNumber (pos n)
  RawThere (raws.Space n) = IsSpace p.linked n
  RawThere other = Unit {0}

  space_there : (n : ℕ) → nat_le n (length p.linked.file.namespaces) ≡ true → RawThere (space_value n)
  space_there n e = go (nat_eq n 0) refl
    where
      positive : (m : ℕ) → nat_eq m 0 ≡ false → 1 ≤ m
      positive zero q = absurd cc
      positive (suc m) q = omega arith

      go : (b : Bool) → nat_eq n 0 ≡ b → RawThere (if b then raws.Null else raws.Space n)
      go true q = tt
      go false q = (positive n q, leb-true n _ e)

  raw_there : (kind : ValueKind) (n : ℕ) → has_value (sizes_of p.linked.file) n kind ≡ true → RawThere (raw_of_option p.linked.file kind n)
  raw_there kinds.Undefined n e = tt
  raw_there kinds.Utf8 n e = tt
  raw_there kinds.Int n e = int_there p.linked.file (stored p.linked.file linked.fits) n
  raw_there kinds.UInt n e = uint_there p.linked.file (stored p.linked.file linked.fits) n
  raw_there kinds.Double n e = tt
  raw_there kinds.False n e = tt
  raw_there kinds.True n e = tt
  raw_there kinds.Null n e = tt
  raw_there kinds.Private n e = space_there n e
  raw_there kinds.Namespace n e = space_there n e
  raw_there kinds.Package n e = space_there n e
  raw_there kinds.PackageInternal n e = space_there n e
  raw_there kinds.Protected n e = space_there n e
  raw_there kinds.Explicit n e = space_there n e
  raw_there kinds.StaticProtected n e = space_there n e

  value_there : (h : Heap) (r : Raw) (v : Value) → RawThere r → value_of_raw p r ≡ Some v → Exists p.linked h v
  value_there h raws.Undefined v t e = let same : values.Undefined ≡ v = cc in subst (Exists p.linked h) same tt
  value_there h raws.Null v t e = let same : values.Null ≡ v = cc in subst (Exists p.linked h) same tt
  value_there h (raws.Int z) v t e = let same : values.Num z ≡ v = cc in subst (Exists p.linked h) same t
  value_there h (raws.UInt n) v t e = let same : values.Num (pos n) ≡ v = cc in subst (Exists p.linked h) same t
  value_there h raws.Double v t e = absurd cc
  value_there h (raws.Bool b) v t e = let same : values.Bool b ≡ v = cc in subst (Exists p.linked h) same tt
  value_there h (raws.Text i) v t e = let same : values.Text (string_of p i) ≡ v = cc in subst (Exists p.linked h) same (string_there p.linked.file.strings h i)
  value_there h (raws.Space n) v t e = let same : values.Space n ≡ v = cc in subst (Exists p.linked h) same t

  options_there : (os : List OptionValue) → Each (FitsOption (sizes_of p.linked.file)) os → Each (OptionExists p) (map Some os)
  options_there [] a = tt
  options_there (o ∷ os) a =
      let fits = (option_fits (sizes_of p.linked.file) o).0 a.0 in
      (λ h v s e. value_there h (raw_of_option p.linked.file o.kind o.value) v (raw_there o.kind o.value fits.1) e, options_there os a.1)

  no_options : (n : ℕ) → Each (OptionExists p) (replicate n None)
  no_options zero = tt
  no_options (suc n) = (tt, no_options n)

  none_fit : (os : List OptionValue) → length os ≡ 0 → Each (FitsOption (sizes_of p.linked.file)) os
  none_fit [] e = tt
  none_fit (o ∷ os) e = absurd (omega (arith, e))

  method_options : (m : Method) → FitOptions (sizes_of p.linked.file) m → Each (FitsOption (sizes_of p.linked.file)) m.options
  method_options m f = go (has_flag m.flags 0x08) refl
    where
      go : (b : Bool) → has_flag m.flags 0x08 ≡ b → Each (FitsOption (sizes_of p.linked.file)) m.options
      go true q = all_each (FitsOption (sizes_of p.linked.file)) m.options ((options_asked (sizes_of p.linked.file) m q).0 f).2
      go false q = none_fit m.options ((options_unasked (sizes_of p.linked.file) m q).0 f)

  pub method_is : (n : ℕ) (r : Routine) → routine_of p n ≡ Some r → IsMethod p n r
  method_is n r e =
      let b = routine_found n r e in
      let low = b.is.method_low in
      let m = method_at p.linked.file n in
      let types : (not (is_some (type_named p.linked.file m.ret)) || list_any (λ (t : ℕ). not (is_some (type_named p.linked.file t))) m.params) ≡ false = or_left (own_type_fails (λ (t : ℕ). not (is_some (type_named p.linked.file t))) p.linked.file items.Method n) (any_table (λ (ts : List TraitInfo). list_any (λ (t : TraitInfo). slot_type_fails (λ (x : ℕ). not (is_some (type_named p.linked.file x))) t.body) ts) p.linked.file items.Method n) (types_known p.linked linked items.Method n low) in
      let fits = (method_fits (sizes_of p.linked.file) m).0 ((definitions p.linked linked).methods n no_method low) in
      record {
        method = m;
        at = is_at p.linked.file.methods n no_method low;
        filled = ap (λ (x : Routine). x.filled) b.routine_is ∙ ap (λ (x : ℕ). filled_by p.linked (owner_of p.linked.file x) (method_at p.linked.file x)) b.is.method;
        params = Each-map (λ (t : ℕ). not (is_some (type_named p.linked.file t)) ≡ false) (IsType p.linked) (type_known p.linked linked) m.params (none_passes (λ (t : ℕ). not (is_some (type_named p.linked.file t))) m.params (or_right (not (is_some (type_named p.linked.file m.ret))) (list_any (λ (t : ℕ). not (is_some (type_named p.linked.file t))) m.params) types));
        ret = type_known p.linked linked m.ret (or_left (not (is_some (type_named p.linked.file m.ret))) (list_any (λ (t : ℕ). not (is_some (type_named p.linked.file t))) m.params) types);
        options = Each-append (OptionExists p) (replicate (length m.params - length m.options) None) (map Some m.options) (no_options (length m.params - length m.options)) (options_there m.options (method_options m fits.4));
      }
