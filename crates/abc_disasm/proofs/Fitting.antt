-- A file that some bytes spell fits the table of lines.
use Rattle.std.proofs.Common.{◌≡◌, ℕ, ◌^◌, ◌<◌, inl, inr, true, false, nat_eq, nat_le, List, [], ◌∷◌, length, map, Some, None, refl, sym, subst, arith}
use Rattle.std.specs.List.{All, AllByRecursion}
use Rattle.std.specs.Option.{option_to_list}
use Rattle.std.specs.declared.option.Option.{Option}
use Rattle.std.proofs.lemmas.Bool.Decides.{nat_tests}
use Rattle.std.proofs.lemmas.List.Elements.{recursion_from_All}
use Rattle.abc_text_lines.specs.declared.word.Word.{Word}
use Rattle.abc_text_lines.specs.declared.word.Word.TheVariants as words
use Rattle.abc_text_lines.proofs.Bools.{split_bool}
use Rattle.abc_file_types.specs.Numbers as parts
use Rattle.abc_file_types.specs.declared.classes.ClassInfo.{ClassInfo}
use Rattle.abc_file_types.specs.declared.classes.Instance.{Instance}
use Rattle.abc_file_types.specs.declared.classes.Script.{Script}
use Rattle.abc_file_types.specs.declared.code.Body.{Body}
use Rattle.abc_file_types.specs.declared.code.Instr.{Instr}
use Rattle.abc_file_types.specs.declared.methods.Metadata.{Metadata}
use Rattle.abc_file_types.specs.declared.methods.Method.{Method}
use Rattle.abc_file_types.specs.declared.tables.Abc.{Abc}
use Rattle.abc_file_types.specs.declared.tables.Sizes.{Sizes}
use Rattle.abc_file_types.specs.declared.traits.TraitInfo.{TraitInfo}
use Rattle.abc_file_types.specs.Classes.{sizes_of}
use Rattle.abc_file_types.specs.CodeBytes.{code_len}
use Rattle.abc_file_types.specs.Methods.{has_flag}
use Rattle.abc_file_types.specs.Ready.{AllCanSpell}
use Rattle.abc_tables.specs.Fitting.{FitBodies, FitDefinitions, FitOptions, FitParamNames, FitPools, FitTraits, FitUints, FitsBody, FitsClass, FitsInstance, FitsMetadata, FitsMethod, FitsOption, FitsProtected, FitsScript, FitsTrait, FitsTraitMetadata, HasNames, IsEntryIndex, FitsNumber, IsPoolIndex, IsPosition, Spelled}
use Rattle.abc_tables.proofs.BodiesFit.{bodies_fit, body_fits}
use Rattle.abc_tables.proofs.ClassesFit.{class_fits, instance_fits, protected_asked, protected_missing, protected_unasked, script_fits}
use Rattle.abc_tables.proofs.Combined.{pool_spelled}
use Rattle.abc_tables.proofs.DefinitionsFit.{definitions_fit}
use Rattle.abc_tables.proofs.MethodsFit.{metadata_fits, method_fits, names_asked, names_unasked, options_asked, options_unasked}
use Rattle.abc_tables.proofs.PoolsFit.{doubles_fit, ints_fit, multinames_fit, namespace_sets_fit, namespaces_fit, pools_fit}
use Rattle.abc_tables.proofs.TraitsFit.{fields_fit, metadata_asked, metadata_unasked, trait_fits, traits_fit}
use Rattle.abc_text_lines.specs.Operands.{Operands, index_upto}
use Rattle.abc_text_lines.specs.Rows.{AllFit, Faults, Head, ItemsFit, Rows}
use Rattle.abc_text_lines.specs.Wordlines.{always, closed_to, flat_lines, lines_of_word}
use Rattle.abc_text_lines.specs.Answers.{instance_head, instance_parts, metadata_lines, outline, pairs, file_rows}
use Rattle.abc_text_lines.specs.File as file
use Rattle.abc_text_lines.specs.Kinds.{trait_kind_operand}
use Rattle.abc_text_lines.specs.Lineforms.{BodyHead, MethodHead, TraitHead, body_line, catch_line, double_line, entry_line, implements_line, instance_line, int_line, method_index_line, method_line, name_line, namespace_line, number_line, option_line, param_line, protected_line, set_line, string_index_line, string_line, trait_line, trait_metadata_line, uint_line}
use Rattle.abc_disasm.proofs.Fields.{below_in, catch_in, double_in, each, each_of, entry_in, fields_in, instr_in, int_in, name_in, namespace_in, number_in, option_in, pool_in, position_in, set_in, string_in, uint_in}
use Rattle.abc_disasm.specs.Bytes.{HasByteFields, HasByteValues}

-- ---- lists of lines

flat_in : {A : Type 0} (faults : Faults) (w : Word) (p : Operands A) (n : ℕ) (xs : List A) → AllByRecursion p.fits xs → (flat_lines faults w p n).fits xs
flat_in faults w p n [] all = tt
flat_in faults w p n (x ∷ xs) all = ((all.0, tt), tt, flat_in faults w p n xs all.1)

many_in : {A H B : Type 0} (head : Head H B) (below : Rows B) (g : A → H × B) (xs : List A) → AllByRecursion (λ x. head.fits (g x).0 (g x).1 × below.fits (g x).1) xs → ItemsFit head below (map g xs)
many_in head below g [] all = tt
many_in head below g (x ∷ xs) all = (all.0.0, all.0.1, many_in head below g xs all.1)

empty_all : {A : Type 0} (P : A → Type 0) (xs : List A) → length xs ≡ 0 → AllByRecursion P xs
empty_all P [] e = tt
empty_all P (x ∷ xs) e = absurd (omega arith)

pub both_all : {A : Type 0} (P Q : A → Type 0) (xs : List A) → AllByRecursion P xs → AllByRecursion Q xs → AllByRecursion (λ x. P x × Q x) xs
both_all P Q [] p q = tt
both_all P Q (x ∷ xs) p q = ((p.0, q.0), both_all P Q xs p.1 q.1)

module _ (s : Sizes) (i : ℕ) where
  abbrev fs : Faults
  fs = file.faults s i

  alone_pool : (w : ℕ) (n : ℕ) → IsPoolIndex w n → ((index_upto w).fits n × Unit {0})
  alone_pool w n h = (pool_in w n h, tt)

  -- ---- traits

  abbrev trait_head : TraitInfo → TraitHead
  trait_head t = record { attrs = t.attrs; name = t.name; body = t.body }

  trait_line_in : (t : TraitInfo) → FitsTrait s t → (trait_line s).fits (trait_head t)
  unfolding trait_line trait_kind_operand
  trait_line_in t fits =
      let h = (trait_fits s t).0 fits in
      ((tt, ((below_in 16 t.attrs h.1, (entry_in s.names t.name h.0, fields_in s t.body ((fields_fit s t.body).0 h.2))), refl)), refl)

  tmeta_in : (n : ℕ) → IsPosition s.metadata n → (trait_metadata_line s).fits n
  unfolding trait_metadata_line
  tmeta_in n h = ((position_in s.metadata n h, tt), refl)

  -- its metadata, as the flag asks
  record MetadataFits (t : TraitInfo) : Type 0 where
    agrees : file.MetadataAgrees s i (trait_head t) t.metadata
    each_in : AllByRecursion (trait_metadata_line s).fits t.metadata

  metadata_by : (t : TraitInfo) → FitsTraitMetadata s t → MetadataFits t
  metadata_by t fits =
      elim (split_bool (has_flag t.attrs 4)) [
        | inl e ↦ record { agrees = rw e refl; each_in = each_of (IsPosition s.metadata) (trait_metadata_line s).fits tmeta_in t.metadata ((metadata_asked s t e).0 fits).1 }
        | inr e ↦
            let none = (metadata_unasked s t e).0 fits in
            let is : nat_eq (length t.metadata) 0 ≡ true = grind (arith, nat_tests) in
            record { agrees = rw (e, is) refl; each_in = empty_all (trait_metadata_line s).fits t.metadata none }
      ]

  pub traits_in : (faults : Faults) (n : ℕ) (ts : List TraitInfo) → FitTraits s ts → (file.traits s i faults n).fits ts
  unfolding file.traits
  traits_in faults n ts fits =
      many_in (lines_of_word words.Trait (trait_line s) (file.MetadataAgrees s i)) (closed_to file.skipped_words (flat_lines faults words.TraitMetadata (trait_metadata_line s) n)) (λ (t : TraitInfo). (trait_head t, t.metadata)) ts
      (each_of (FitsTrait s) _ (λ t h.
      let m = metadata_by t ((trait_fits s t).0 h).3 in
      ((trait_line_in t h, m.agrees), flat_in faults words.TraitMetadata (trait_metadata_line s) n t.metadata m.each_in))
      ts ((traits_fit s ts).0 fits).1)

  -- ---- methods

  abbrev method_head : Method → MethodHead
  method_head m = record { ret = m.ret; name = m.name; flags = m.flags }

  param_in : (n : ℕ) → IsPoolIndex s.names n → (param_line s).fits n
  unfolding param_line
  param_in n h = ((pool_in s.names n h, tt), refl)

  pname_in : (n : ℕ) → FitsNumber n → number_line.fits n
  unfolding number_line
  pname_in n h = ((number_in n h, tt), refl)

  record OptionsFit (m : Method) : Type 0 where
    few : nat_le (length m.options) (file.where_set (has_flag m.flags 0x08) (length m.params)) ≡ true
    each_in : AllByRecursion (option_line s).fits m.options

  options_by : (m : Method) → FitOptions s m → OptionsFit m
  options_by m fits =
      elim (split_bool (has_flag m.flags 0x08)) [
        | inl e ↦
            let h = (options_asked s m e).0 fits in
            let le = h.0 in
            let is : nat_le (length m.options) (length m.params) ≡ true = grind (arith, nat_tests) in
            record { few = rw (e, is) refl; each_in = each_of (FitsOption s) (option_line s).fits (option_in s) m.options h.2 }
        | inr e ↦
            let none = (options_unasked s m e).0 fits in
            let is : nat_le (length m.options) 0 ≡ true = grind (arith, nat_tests) in
            record { few = rw (e, is) refl; each_in = empty_all (option_line s).fits m.options none }
      ]

  record NamesFit (m : Method) : Type 0 where
    as_many : nat_eq (length m.param_names) (file.where_set (has_flag m.flags 0x80) (length m.params)) ≡ true
    each_in : AllByRecursion number_line.fits m.param_names

  names_by : (m : Method) → FitParamNames m → NamesFit m
  names_by m fits =
      elim (split_bool (has_flag m.flags 0x80)) [
        | inl e ↦
            let h = (names_asked m e).0 fits in
            let same = h.0 in
            let is : nat_eq (length m.param_names) (length m.params) ≡ true = grind (arith, nat_tests) in
            record { as_many = rw (e, is) refl; each_in = each_of FitsNumber number_line.fits pname_in m.param_names h.1 }
        | inr e ↦
            let none = (names_unasked m e).0 fits in
            let is : nat_eq (length m.param_names) 0 ≡ true = grind (arith, nat_tests) in
            record { as_many = rw (e, is) refl; each_in = empty_all number_line.fits m.param_names none }
      ]

  method_line_in : (m : Method) → FitsMethod s m → m.flags < 256 → (method_line s).fits (method_head m)
  unfolding method_line
  method_line_in m fits lt = let h = (method_fits s m).0 fits in ((pool_in s.names m.ret h.1, (pool_in s.strings m.name h.3, (below_in 256 m.flags lt, tt))), refl)

  method_below_in : (n : ℕ) (m : Method) → FitsMethod s m → (file.method_below s i n).fits (m.params, (m.options, m.param_names))
  unfolding file.method_below
  method_below_in n m fits =
      let h = (method_fits s m).0 fits in (
        flat_in fs words.Param (param_line s) n m.params (each_of (IsPoolIndex s.names) (param_line s).fits param_in m.params h.2),
        (flat_in fs words.Optional (option_line s) n m.options (options_by m h.4).each_in, flat_in fs words.ParamName number_line n m.param_names (names_by m h.5).each_in),
      )

  method_agrees : (m : Method) → FitsMethod s m → file.MethodAgrees s i (method_head m) (m.params, (m.options, m.param_names))
  method_agrees m fits = let h = (method_fits s m).0 fits in let a = (options_by m h.4).few in let b = (names_by m h.5).as_many in rw (a, b) refl

  methods_in : (n : ℕ) (ms : List Method) → All (FitsMethod s) ms → AllByRecursion (λ m. m.flags < 256) ms → (file.methods s i n).fits ms
  unfolding file.methods
  methods_in n ms all bytes =
      many_in (lines_of_word words.Method (method_line s) (file.MethodAgrees s i)) (file.method_below s i n) (λ (m : Method). (method_head m, (m.params, (m.options, m.param_names)))) ms
      (each (λ m. FitsMethod s m × (m.flags < 256)) _ (λ m h. ((method_line_in m h.0 h.1, method_agrees m h.0), method_below_in n m h.0)) ms
      (both_all (FitsMethod s) (λ m. m.flags < 256) ms (recursion_from_All (FitsMethod s) ms all) bytes))

  -- ---- metadata

  pairs_in : (xs : List ℕ) → AllByRecursion (IsPoolIndex s.strings) xs → AllByRecursion (entry_line s).fits (pairs xs)
  unfolding entry_line
  pairs_in [] all = tt
  pairs_in (a ∷ []) all = tt
  pairs_in (a ∷ b ∷ xs) all = (((pool_in s.strings a all.0, (pool_in s.strings b all.1.0, tt)), refl), pairs_in xs all.1.1)

  metadata_line_in : (n : ℕ) → IsPoolIndex s.strings n → (string_index_line s).fits n
  unfolding string_index_line
  metadata_line_in n h = ((pool_in s.strings n h, tt), refl)

  metadata_in : (n : ℕ) (ms : List Metadata) → All (FitsMetadata s) ms → (file.metadata s i n).fits (map metadata_lines ms)
  unfolding file.metadata
  metadata_in n ms all =
      many_in (lines_of_word words.Metadata (string_index_line s) always) (flat_lines fs words.Entry (entry_line s) n) metadata_lines ms
      (each_of (FitsMetadata s) _ (λ m f.
      let h = (metadata_fits s m).0 f in
      ((metadata_line_in m.name h.0, tt), flat_in fs words.Entry (entry_line s) n (pairs m.items) (pairs_in m.items (recursion_from_All (IsPoolIndex s.strings) m.items h.3)))) ms all)

  -- ---- instances, classes and scripts

  instance_line_in : (x : Instance) → FitsInstance s x → x.flags < 256 → (instance_line s).fits (instance_head x)
  unfolding instance_line
  instance_line_in x fits lt = let h = (instance_fits s x).0 fits in ((entry_in s.names x.name h.0, (pool_in s.names x.super_name h.1, (below_in 256 x.flags lt, tt))), refl)

  protected_line_in : (n : ℕ) → IsPoolIndex s.namespaces n → (protected_line s).fits n
  unfolding protected_line
  protected_line_in n h = ((pool_in s.namespaces n h, tt), refl)

  implements_line_in : (n : ℕ) → IsEntryIndex s.names n → (implements_line s).fits n
  unfolding implements_line
  implements_line_in n h = ((entry_in s.names n h, tt), refl)

  method_index_in : (n : ℕ) → IsPosition s.methods n → (method_index_line s).fits n
  unfolding method_index_line
  method_index_in n h = ((position_in s.methods n h, tt), refl)

  -- its protected namespace, as the flag asks
  record ProtectedFits (x : Instance) : Type 0 where
    as_asked : length (option_to_list x.protected_ns) ≡ file.where_set (has_flag x.flags 0x08) 1
    each_in : AllByRecursion (protected_line s).fits (option_to_list x.protected_ns)

  protected_given : (x : Instance) (o : Option ℕ) → x.protected_ns ≡ o → has_flag x.flags 0x08 ≡ true → FitsProtected s x → ProtectedFits x
  protected_given x None same e fits = absurd (protected_missing s x e same fits)
  protected_given x (Some n) same e fits =
      record {
        as_asked = rw (e, same) refl;
        each_in = subst (λ (o : Option ℕ). AllByRecursion (protected_line s).fits (option_to_list o)) (sym same) (protected_line_in n ((protected_asked s x n e same).0 fits), tt);
      }

  protected_by : (x : Instance) → FitsProtected s x → ProtectedFits x
  protected_by x fits =
      elim (split_bool (has_flag x.flags 0x08)) [
        | inl e ↦ protected_given x x.protected_ns refl e fits
        | inr e ↦
            let none = (protected_unasked s x e).0 fits in
            record {
              as_asked = rw (e, none) refl;
              each_in = subst (λ (o : Option ℕ). AllByRecursion (protected_line s).fits (option_to_list o)) (sym none) tt;
            }
      ]

  instance_below_in : (n : ℕ) (x : Instance) → FitsInstance s x → (file.instance_below s i n).fits (instance_parts x).1
  unfolding file.instance_below
  instance_below_in n x fits =
      let h = (instance_fits s x).0 fits in (
        flat_in fs words.Protected (protected_line s) n (option_to_list x.protected_ns) (protected_by x h.2).each_in,
        (flat_in fs words.Implements (implements_line s) n x.interfaces (each_of (IsEntryIndex s.names) (implements_line s).fits implements_line_in x.interfaces h.4), ((method_index_in x.iinit h.5, tt), traits_in fs n x.traits h.6)),
      )

  instances_in : (n : ℕ) → file.IsBalanced s i → (xs : List Instance) → All (FitsInstance s) xs → AllByRecursion (λ x. x.flags < 256) xs → (file.instance_lines s i n).fits (map instance_parts xs)
  unfolding file.instance_lines
  instances_in n balanced xs all bytes =
      many_in (lines_of_word words.Instance (instance_line s) (file.InstanceAgrees s i)) (file.instance_below s i n) instance_parts xs
      (each (λ x. FitsInstance s x × (x.flags < 256)) _
      (λ x h. ((instance_line_in x h.0 h.1, ((protected_by x ((instance_fits s x).0 h.0).2).as_asked, refl, balanced)), instance_below_in n x h.0)) xs
      (both_all (FitsInstance s) (λ x. x.flags < 256) xs (recursion_from_All (FitsInstance s) xs all) bytes))

  classes_in : (n : ℕ) → file.IsBalanced s i → (cs : List ClassInfo) → All (FitsClass s) cs → (file.classes s i n).fits cs
  unfolding file.classes
  classes_in n balanced cs all =
      many_in (lines_of_word words.Class (method_index_line s) (file.ClassAgrees s i)) (file.traits s i fs n) (λ (c : ClassInfo). (c.cinit, c.traits)) cs
      (each_of (FitsClass s) _ (λ c f. let h = (class_fits s c).0 f in ((method_index_in c.cinit h.0, balanced), traits_in fs n c.traits h.1)) cs all)

  scripts_in : (n : ℕ) (ss : List Script) → All (FitsScript s) ss → (file.scripts s i n).fits ss
  unfolding file.scripts
  scripts_in n ss all =
      many_in (lines_of_word words.Script (method_index_line s) always) (file.traits s i fs n) (λ (c : Script). (c.init, c.traits)) ss
      (each_of (FitsScript s) _ (λ c f. let h = (script_fits s c).0 f in ((method_index_in c.init h.0, tt), traits_in fs n c.traits h.1)) ss all)

  -- ---- bodies

  abbrev pub body_head : Body → BodyHead
  body_head b = record { method = b.method; max_stack = b.max_stack; local_count = b.local_count; init_scope = b.init_scope; max_scope = b.max_scope }

  pub body_line_in : (b : Body) → FitsBody s b → (body_line s).fits (body_head b)
  unfolding body_line
  body_line_in b fits =
      let h = (body_fits s b).0 fits in
      ((position_in s.methods b.method h.0, (number_in b.max_stack h.1.max_stack, (number_in b.local_count h.1.local_count, (number_in b.init_scope h.1.init_scope, (number_in b.max_scope h.1.max_scope, tt))))), refl)

  code_in : (n : ℕ) (is : List Instr) → AllCanSpell n is → AllByRecursion HasByteFields is → AllFit (file.instructions s i) is
  code_in n [] can bytes = tt
  code_in n (x ∷ is) can bytes = (instr_in n x can.0 bytes.0, code_in n is can.1 bytes.1)

  body_below_in : (n : ℕ) (b : Body) → FitsBody s b → AllByRecursion HasByteFields b.code → (file.body_below s i fs n).fits (b.code, (b.handlers, b.traits))
  unfolding file.body_below
  body_below_in n b fits bytes =
      let h = (body_fits s b).0 fits in
      (code_in (length b.code) b.code h.2.code.can bytes, (flat_in fs words.Catch (catch_line s) n b.handlers (each_of (HasNames s) (catch_line s).fits (catch_in s) b.handlers h.4), traits_in fs n b.traits h.5))

  bodies_in : (n : ℕ) (bs : List Body) → All (FitsBody s) bs → AllByRecursion (λ b. AllByRecursion HasByteFields b.code) bs → (file.body_lines s i n).fits bs
  unfolding file.body_lines
  bodies_in n bs all bytes =
      many_in (lines_of_word words.Body (body_line s) (file.BodyAgrees s i)) (file.body_below s i fs n) (λ (b : Body). (body_head b, (b.code, (b.handlers, b.traits)))) bs
      (each (λ b. FitsBody s b × AllByRecursion HasByteFields b.code) _
      (λ b h.
      let short = ((body_fits s b).0 h.0).2.code.short in
      let is : nat_le (2 ^ 23) (code_len b.code) ≡ false = grind (arith, nat_tests) in
      ((body_line_in b h.0, is), body_below_in n b h.0 h.1))
      bs (both_all (FitsBody s) (λ b. AllByRecursion HasByteFields b.code) bs (recursion_from_All (FitsBody s) bs all) bytes))

-- ---- the whole file

module _ (v : Abc) where
  abbrev s_ : Sizes
  s_ = sizes_of v

  abbrev i_ : ℕ
  i_ = length v.instances

  uints_in : FitUints v.uints → AllByRecursion uint_line.fits v.uints
  unfolding FitUints
  uints_in fits = each_of (Spelled parts.u32) uint_line.fits uint_in v.uints ((pool_spelled parts.u32 v.uints).0 fits).1

  strings_in : (xs : List (List ℕ)) → AllByRecursion string_line.fits xs
  strings_in [] = tt
  strings_in (x ∷ xs) = (string_in x, strings_in xs)

  pools_in : (n : ℕ) → FitPools v → (file.pools s_ i_ n).fits (outline v).0
  unfolding file.pools
  pools_in n fits =
      let h = (pools_fit v).0 fits in
      let f = file.faults s_ i_ in (
        flat_in f words.Int int_line n v.ints (each_of _ int_line.fits int_in v.ints ((ints_fit v.ints).0 h.ints).1),
        (
          flat_in f words.UInt uint_line n v.uints (uints_in h.uints),
          (
            flat_in f words.Double double_line n v.doubles (each_of _ double_line.fits double_in v.doubles ((doubles_fit v.doubles).0 h.doubles).1),
            (
              flat_in f words.Text string_line n v.strings (strings_in v.strings),
              (
                flat_in f words.Namespace (namespace_line s_) n v.namespaces (each_of _ (namespace_line s_).fits (namespace_in s_) v.namespaces ((namespaces_fit (length v.strings) v.namespaces).0 h.namespaces).1),
                (
                  flat_in f words.Set (set_line s_) n v.sets (each_of _ (set_line s_).fits (set_in s_) v.sets ((namespace_sets_fit (length v.namespaces) v.sets).0 h.sets).1),
                  flat_in f words.Name (name_line s_) n v.names (each_of _ (name_line s_).fits (name_in s_) v.names ((multinames_fit s_ v.names refl).0 h.names).1),
                ),
              ),
            ),
          ),
        ),
      )

  pub table_fits : FitPools v → FitDefinitions v → FitBodies v → HasByteValues v → (file_rows v).fits (outline v)
  unfolding file.file
  table_fits pools definitions bodies bytes =
      let d = (definitions_fit v).0 definitions in
      let b = (bodies_fit v).0 bodies in
      let balanced = sym d.instance_count in (
        pools_in 0 pools,
        (
          methods_in s_ i_ 0 v.methods d.methods bytes.methods,
          (
            metadata_in s_ i_ 0 v.metadata d.metadata,
            (
              instances_in s_ i_ 0 balanced v.instances d.instances bytes.instance_list,
              (classes_in s_ i_ 0 balanced v.classes d.classes, (scripts_in s_ i_ 0 v.scripts d.scripts, bodies_in s_ i_ 0 v.bodies b.1 bytes.bodies)),
            ),
          ),
        ),
      )
