-- The listing of a file is what is appended, table by table.
use Rattle.std.proofs.Common.{◌≡◌, ℕ, zero, suc, ◌+◌, true, false, List, [], ◌∷◌, ◌++◌, codes, decimal, length, map, Some, None, refl, sym, ap, ◌∙◌, append_assoc, append-nil, arith}
use Rattle.std.specs.List.{All, AllByRecursion, flat_map}
use Rattle.std.specs.Fmt.{digits}
use Rattle.std.specs.Option.{option_to_list}
use Rattle.std.specs.declared.option.Option.{Option}
use Rattle.std.proofs.lemmas.Grind.{flat_map-append}
use Rattle.std.proofs.lemmas.List.Elements.{recursion_from_All}
use Rattle.abc_text_lines.specs.declared.word.Word.{Word}
use Rattle.abc_text_lines.specs.declared.word.Word.TheVariants as words
use Rattle.abc_file_types.specs.declared.classes.ClassInfo.{ClassInfo}
use Rattle.abc_file_types.specs.declared.classes.Instance.{Instance}
use Rattle.abc_file_types.specs.declared.classes.Script.{Script}
use Rattle.abc_file_types.specs.declared.code.Body.{Body}
use Rattle.abc_file_types.specs.declared.code.Handler.{Handler}
use Rattle.abc_file_types.specs.declared.code.Instr.{Instr}
use Rattle.abc_file_types.specs.declared.code.Instr.TheVariants as instrs
use Rattle.abc_file_types.specs.declared.methods.Metadata.{Metadata}
use Rattle.abc_file_types.specs.declared.methods.Method.{Method}
use Rattle.abc_file_types.specs.declared.methods.OptionValue.{OptionValue}
use Rattle.abc_file_types.specs.declared.methods.ValueKind.{ValueKind}
use Rattle.abc_file_types.specs.declared.tables.Abc.{Abc}
use Rattle.abc_file_types.specs.declared.tables.Sizes.{Sizes}
use Rattle.abc_file_types.specs.declared.traits.TraitBody.{TraitBody}
use Rattle.abc_file_types.specs.declared.traits.TraitBody.TheVariants as bodies
use Rattle.abc_file_types.specs.declared.traits.TraitInfo.{TraitInfo}
use Rattle.abc_file_types.specs.Bodies.{IsReadyBody}
use Rattle.abc_file_types.specs.Classes.{sizes_of}
use Rattle.abc_file_types.specs.Traits.{trait_kind_in}
use Rattle.abc_text_lines.specs.Lines.{Item, Number, Shown, Line, Labels}
use Rattle.abc_text_lines.specs.Operands.{Operands, any_number, several_items, target}
use Rattle.abc_text_lines.specs.Rows.{Faults, Head, Rows, code_after, items_shown, empty_rows}
use Rattle.abc_text_lines.specs.Wordlines.{always, closed_to, flat_lines, lines_of_word}
use Rattle.abc_text_lines.specs.Answers.{instance_head, instance_parts, metadata_lines, outline, pairs}
use Rattle.abc_text_lines.specs.File as file
use Rattle.abc_text_lines.specs.Kinds.{trait_kind_operand, value_kind_operand}
use Rattle.abc_text_lines.specs.Lineforms.{BodyHead, MethodHead, TraitHead, body_line, catch_line, double_line, int_line, name_line, namespace_line, set_line, string_line, uint_line, entry_line, implements_line, instance_line, instruction_operands, method_index_line, method_line, number_line, opcode_of, option_line, param_line, protected_line, slot_value_operand, string_index_line, trait_operands, trait_line, trait_metadata_line}
use Rattle.abc_text_lines.specs.Listing.{body_text, line_bytes, lines_of_body, listing, quiet_lines, listing_bytes, shown_bytes, target_in, targets_of_line}
use Rattle.abc_disasm.specs.Texts as texts
use Rattle.abc_text_writer.specs.Numbers as tokens
use Rattle.abc_text_writer.specs.Numbers.{number_lines}
use Rattle.abc_disasm.specs.Texts.{HasShownForm, body_targets, class_text, code_text, definitions_text, entry_text, front_text, handler_targets, handler_text, instance_text, instr_targets, instr_text, metadata_text, method_text, option_text, pools_text, protected_text, script_text, trait_text, version_text, whole_body, whole_text}
use Rattle.abc_disasm.proofs.PutForms.{branch_items, byte_items, debug_items, one_items, plain_items, scope_items, short_items, switch_items, two_items}
use Rattle.abc_disasm.proofs.Readiness.{shown}

-- ---- lists of lines

module _ (v : Abc) (named : List ℕ) where
  abbrev shows : List Shown → List ℕ
  shows lines = listing_bytes v named lines

  two : (a b : List Shown) → shows (a ++ b) ≡ shows a ++ shows b
  two a b = flat_map-append (shown_bytes v named) a b

  -- lines of one word
  flat_shows : {A : Type 0} (w : Word) (p : Operands A) (f : A → List ℕ) → ((x : A) → line_bytes v w (p.items x) ≡ f x) → (xs : List A) → shows (items_shown (lines_of_word w p always) empty_rows (map (λ (x : A). (x, tt)) xs)) ≡ flat_map f xs
  flat_shows w p f e [] = refl
  flat_shows w p f e (x ∷ xs) = let a = e x in let b = flat_shows w p f e xs in rw (a, b) refl

  -- lines and those below each
  many_shows : {A H B : Type 0} (head : Head H B) (below : Rows B) (g : A → H × B) (f : A → List ℕ) → ((y : A) → line_bytes v (head.word (g y).0) (head.items (g y).0) ++ shows (below.shows (g y).1) ≡ f y) → (ys : List A) → shows (items_shown head below (map g ys)) ≡ flat_map f ys
  many_shows head below g f e [] = refl
  many_shows head below g f e (y ∷ ys) =
      let x = g y in
      let first = line_bytes v (head.word x.0) (head.items x.0) in
      let rest = items_shown head below (map g ys) in
      ap (λ (l : List ℕ). first ++ l) (two (below.shows x.1) rest)
      ∙ sym (append_assoc first (shows (below.shows x.1)) (shows rest))
      ∙ ap (λ (l : List ℕ). l ++ shows rest) (e y)
      ∙ ap (λ (l : List ℕ). f y ++ l) (many_shows head below g f e ys)

-- a line of a word and a number
number_is : (word : List ℕ) (n : ℕ) → (word ++ (0x20 ∷ (decimal n ++ []))) ++ (0x0a ∷ []) ≡ tokens.number_line_bytes word n
number_is word n = append_assoc word (0x20 ∷ (decimal n ++ [])) (0x0a ∷ []) ∙ ap (λ (l : List ℕ). word ++ (0x20 ∷ (l ++ 0x0a ∷ []))) (append-nil (decimal n))

module _ (v : Abc) where
  abbrev s : Sizes
  s = sizes_of v

  abbrev i : ℕ
  i = length v.instances

  abbrev fs : Faults
  fs = file.faults s i

  param_is : (n : ℕ) → line_bytes v words.Param ((param_line s).items n) ≡ tokens.number_line_bytes (codes "param") n
  unfolding param_line any_number
  param_is n = number_is (codes "param") n

  pname_is : (n : ℕ) → line_bytes v words.ParamName (number_line.items n) ≡ tokens.number_line_bytes (codes "pname") n
  unfolding number_line any_number
  pname_is n = number_is (codes "pname") n

  metadata_is : (n : ℕ) → line_bytes v words.Metadata ((string_index_line s).items n) ≡ tokens.number_line_bytes (codes "metadata") n
  unfolding string_index_line any_number
  metadata_is n = number_is (codes "metadata") n

  protected_is : (n : ℕ) → line_bytes v words.Protected ((protected_line s).items n) ≡ tokens.number_line_bytes (codes "protected") n
  unfolding protected_line any_number
  protected_is n = number_is (codes "protected") n

  implements_is : (n : ℕ) → line_bytes v words.Implements ((implements_line s).items n) ≡ tokens.number_line_bytes (codes "implements") n
  unfolding implements_line any_number
  implements_is n = number_is (codes "implements") n

  iinit_is : (n : ℕ) → line_bytes v words.Initializer ((method_index_line s).items n) ≡ tokens.number_line_bytes (codes "iinit") n
  unfolding method_index_line any_number
  iinit_is n = number_is (codes "iinit") n

  class_is : (n : ℕ) → line_bytes v words.Class ((method_index_line s).items n) ≡ tokens.number_line_bytes (codes "class") n
  unfolding method_index_line any_number
  class_is n = number_is (codes "class") n

  script_is : (n : ℕ) → line_bytes v words.Script ((method_index_line s).items n) ≡ tokens.number_line_bytes (codes "script") n
  unfolding method_index_line any_number
  script_is n = number_is (codes "script") n

  tmeta_is : (n : ℕ) → line_bytes v words.TraitMetadata ((trait_metadata_line s).items n) ≡ tokens.number_line_bytes (codes "tmeta") n
  unfolding trait_metadata_line any_number
  tmeta_is n = number_is (codes "tmeta") n

  version_is : line_bytes v words.Abc (Number 16 ∷ Number 46 ∷ []) ≡ version_text
  unfolding digits
  version_is = refl

  -- ---- tables

  abbrev Metas : ℕ → Rows (List ℕ)
  Metas n = closed_to file.skipped_words (flat_lines fs words.TraitMetadata (trait_metadata_line s) n)

  abbrev trait_head : TraitInfo → TraitHead
  trait_head t = record { attrs = t.attrs; name = t.name; body = t.body }

  traits_are : (named : List ℕ) (n : ℕ) (ts : List TraitInfo) → listing_bytes v named ((file.traits s i fs n).shows ts) ≡ flat_map (trait_text v) ts
  unfolding file.traits
  traits_are named n ts =
      many_shows v named (lines_of_word words.Trait (trait_line s) (file.MetadataAgrees s i)) (Metas n) (λ (t : TraitInfo). (trait_head t, t.metadata)) (trait_text v)
      (λ t. ap (λ (l : List ℕ). line_bytes v words.Trait ((trait_line s).items (trait_head t)) ++ l) (flat_shows v named words.TraitMetadata (trait_metadata_line s) (tokens.number_line_bytes (codes "tmeta")) tmeta_is t.metadata)) ts

  abbrev method_head : Method → MethodHead
  method_head m = record { ret = m.ret; name = m.name; flags = m.flags }

  method_below_is : (m : Method) → listing_bytes v [] ((file.method_below s i 0).shows (m.params, (m.options, m.param_names))) ≡ number_lines (codes "param") m.params ++ (flat_map (option_text v) m.options ++ number_lines (codes "pname") m.param_names)
  unfolding file.method_below
  method_below_is m =
      let a = (flat_lines fs words.Param (param_line s) 0).shows m.params in
      let b = (flat_lines fs words.Optional (option_line s) 0).shows m.options in
      let c = (flat_lines fs words.ParamName number_line 0).shows m.param_names in
      two v [] a (b ++ c)
      ∙ ap (λ (l : List ℕ). listing_bytes v [] a ++ l) (two v [] b c)
      ∙ ap (λ (l : List ℕ). l ++ (listing_bytes v [] b ++ listing_bytes v [] c)) (flat_shows v [] words.Param (param_line s) (tokens.number_line_bytes (codes "param")) param_is m.params)
      ∙ ap (λ (l : List ℕ). number_lines (codes "param") m.params ++ (l ++ listing_bytes v [] c)) (flat_shows v [] words.Optional (option_line s) (option_text v) (λ x. refl) m.options)
      ∙ ap (λ (l : List ℕ). number_lines (codes "param") m.params ++ (flat_map (option_text v) m.options ++ l)) (flat_shows v [] words.ParamName number_line (tokens.number_line_bytes (codes "pname")) pname_is m.param_names)

  methods_are : (ms : List Method) → listing_bytes v [] ((file.methods s i 0).shows ms) ≡ flat_map (method_text v) ms
  unfolding file.methods
  methods_are ms =
      many_shows v [] (lines_of_word words.Method (method_line s) (file.MethodAgrees s i)) (file.method_below s i 0) (λ (m : Method). (method_head m, (m.params, (m.options, m.param_names)))) (method_text v)
      (λ m. ap (λ (l : List ℕ). line_bytes v words.Method ((method_line s).items (method_head m)) ++ l) (method_below_is m)) ms

  metadata_are : (ms : List Metadata) → listing_bytes v [] ((file.metadata s i 0).shows (map metadata_lines ms)) ≡ flat_map (metadata_text v) ms
  unfolding file.metadata
  metadata_are ms =
      many_shows v [] (lines_of_word words.Metadata (string_index_line s) always) (flat_lines fs words.Entry (entry_line s) 0) metadata_lines (metadata_text v)
      (λ m.
      ap (λ (l : List ℕ). l ++ listing_bytes v [] ((flat_lines fs words.Entry (entry_line s) 0).shows (pairs m.items))) (metadata_is m.name)
      ∙ ap (λ (l : List ℕ). tokens.number_line_bytes (codes "metadata") m.name ++ l) (flat_shows v [] words.Entry (entry_line s) (entry_text v) (λ x. refl) (pairs m.items)))
      ms

  protected_are : (o : Option ℕ) → listing_bytes v [] ((flat_lines fs words.Protected (protected_line s) 0).shows (option_to_list o)) ≡ protected_text v o
  protected_are None = refl
  protected_are (Some n) = append-nil (line_bytes v words.Protected ((protected_line s).items n)) ∙ protected_is n

  instance_below_is : (x : Instance) → listing_bytes v [] ((file.instance_below s i 0).shows (instance_parts x).1) ≡ protected_text v x.protected_ns ++ (number_lines (codes "implements") x.interfaces ++ (tokens.number_line_bytes (codes "iinit") x.iinit ++ flat_map (trait_text v) x.traits))
  unfolding file.instance_below
  instance_below_is x =
      let a = (flat_lines fs words.Protected (protected_line s) 0).shows (option_to_list x.protected_ns) in
      let b = (flat_lines fs words.Implements (implements_line s) 0).shows x.interfaces in
      let t = (file.traits s i fs 0).shows x.traits in
      let c = Line words.Initializer ((method_index_line s).items x.iinit) ∷ t in
      two v [] a (b ++ c)
      ∙ ap (λ (l : List ℕ). listing_bytes v [] a ++ l) (two v [] b c)
      ∙ ap (λ (l : List ℕ). l ++ (listing_bytes v [] b ++ listing_bytes v [] c)) (protected_are x.protected_ns)
      ∙ ap (λ (l : List ℕ). protected_text v x.protected_ns ++ (l ++ listing_bytes v [] c)) (flat_shows v [] words.Implements (implements_line s) (tokens.number_line_bytes (codes "implements")) implements_is x.interfaces)
      ∙ ap (λ (l : List ℕ). protected_text v x.protected_ns ++ (number_lines (codes "implements") x.interfaces ++ (l ++ listing_bytes v [] t))) (iinit_is x.iinit)
      ∙ ap (λ (l : List ℕ). protected_text v x.protected_ns ++ (number_lines (codes "implements") x.interfaces ++ (tokens.number_line_bytes (codes "iinit") x.iinit ++ l))) (traits_are [] 0 x.traits)

  instances_are : (is : List Instance) → listing_bytes v [] ((file.instance_lines s i 0).shows (map instance_parts is)) ≡ flat_map (instance_text v) is
  unfolding file.instance_lines
  instances_are is =
      many_shows v [] (lines_of_word words.Instance (instance_line s) (file.InstanceAgrees s i)) (file.instance_below s i 0) instance_parts (instance_text v)
      (λ x. ap (λ (l : List ℕ). line_bytes v words.Instance ((instance_line s).items (instance_head x)) ++ l) (instance_below_is x)) is

  classes_are : (cs : List ClassInfo) → listing_bytes v [] ((file.classes s i 0).shows cs) ≡ flat_map (class_text v) cs
  unfolding file.classes
  classes_are cs =
      many_shows v [] (lines_of_word words.Class (method_index_line s) (file.ClassAgrees s i)) (file.traits s i fs 0) (λ (c : ClassInfo). (c.cinit, c.traits)) (class_text v)
      (λ c. ap (λ (l : List ℕ). l ++ listing_bytes v [] ((file.traits s i fs 0).shows c.traits)) (class_is c.cinit) ∙ ap (λ (l : List ℕ). tokens.number_line_bytes (codes "class") c.cinit ++ l) (traits_are [] 0 c.traits)) cs

  scripts_are : (ss : List Script) → listing_bytes v [] ((file.scripts s i 0).shows ss) ≡ flat_map (script_text v) ss
  unfolding file.scripts
  scripts_are ss =
      many_shows v [] (lines_of_word words.Script (method_index_line s) always) (file.traits s i fs 0) (λ (c : Script). (c.init, c.traits)) (script_text v)
      (λ c. ap (λ (l : List ℕ). l ++ listing_bytes v [] ((file.traits s i fs 0).shows c.traits)) (script_is c.init) ∙ ap (λ (l : List ℕ). tokens.number_line_bytes (codes "script") c.init ++ l) (traits_are [] 0 c.traits)) ss

  pools_are : listing_bytes v [] ((file.pools s i 0).shows (outline v).0) ≡ pools_text v
  unfolding file.pools
  pools_are =
      let a = (flat_lines fs words.Int int_line 0).shows v.ints in
      let b = (flat_lines fs words.UInt uint_line 0).shows v.uints in
      let c = (flat_lines fs words.Double double_line 0).shows v.doubles in
      let d = (flat_lines fs words.Text string_line 0).shows v.strings in
      let e = (flat_lines fs words.Namespace (namespace_line s) 0).shows v.namespaces in
      let f = (flat_lines fs words.Set (set_line s) 0).shows v.sets in
      let g = (flat_lines fs words.Name (name_line s) 0).shows v.names in
      let r = λ (l : List Shown). listing_bytes v [] l in
      let fa = flat_map (texts.int_text v) v.ints in
      let fb = flat_map (texts.uint_text v) v.uints in
      let fc = flat_map (texts.double_text v) v.doubles in
      let fd = flat_map (texts.string_text v) v.strings in
      let fe = flat_map (texts.namespace_text v) v.namespaces in
      let ff = flat_map (texts.set_text v) v.sets in
      two v [] a (b ++ (c ++ (d ++ (e ++ (f ++ g)))))
      ∙ ap (λ (l : List ℕ). r a ++ l) (two v [] b (c ++ (d ++ (e ++ (f ++ g))))
      ∙ ap (λ (l : List ℕ). r b ++ l) (two v [] c (d ++ (e ++ (f ++ g)))
      ∙ ap (λ (l : List ℕ). r c ++ l) (two v [] d (e ++ (f ++ g))
      ∙ ap (λ (l : List ℕ). r d ++ l) (two v [] e (f ++ g)
      ∙ ap (λ (l : List ℕ). r e ++ l) (two v [] f g)))))
      ∙ ap (λ (l : List ℕ). l ++ (r b ++ (r c ++ (r d ++ (r e ++ (r f ++ r g)))))) (flat_shows v [] words.Int int_line (texts.int_text v) (λ x. refl) v.ints)
      ∙ ap (λ (l : List ℕ). fa ++ (l ++ (r c ++ (r d ++ (r e ++ (r f ++ r g)))))) (flat_shows v [] words.UInt uint_line (texts.uint_text v) (λ x. refl) v.uints)
      ∙ ap (λ (l : List ℕ). fa ++ (fb ++ (l ++ (r d ++ (r e ++ (r f ++ r g)))))) (flat_shows v [] words.Double double_line (texts.double_text v) (λ x. refl) v.doubles)
      ∙ ap (λ (l : List ℕ). fa ++ (fb ++ (fc ++ (l ++ (r e ++ (r f ++ r g)))))) (flat_shows v [] words.Text string_line (texts.string_text v) (λ x. refl) v.strings)
      ∙ ap (λ (l : List ℕ). fa ++ (fb ++ (fc ++ (fd ++ (l ++ (r f ++ r g)))))) (flat_shows v [] words.Namespace (namespace_line s) (texts.namespace_text v) (λ x. refl) v.namespaces)
      ∙ ap (λ (l : List ℕ). fa ++ (fb ++ (fc ++ (fd ++ (fe ++ (l ++ r g)))))) (flat_shows v [] words.Set (set_line s) (texts.set_text v) (λ x. refl) v.sets)
      ∙ ap (λ (l : List ℕ). fa ++ (fb ++ (fc ++ (fd ++ (fe ++ (ff ++ l)))))) (flat_shows v [] words.Name (name_line s) (texts.name_text v) (λ x. refl) v.names)

  pub quiet_are : listing_bytes v [] (quiet_lines v) ≡ front_text v
  quiet_are =
      let p = (file.pools s i 0).shows (outline v).0 in
      let m = (file.methods s i 0).shows v.methods in
      let d = (file.metadata s i 0).shows (map metadata_lines v.metadata) in
      let x = (file.instance_lines s i 0).shows (map instance_parts v.instances) in
      let c = (file.classes s i 0).shows v.classes in
      let z = (file.scripts s i 0).shows v.scripts in
      let first = line_bytes v words.Abc (Number 16 ∷ Number 46 ∷ []) in
      let r = λ (l : List Shown). listing_bytes v [] l in
      let fx = flat_map (instance_text v) v.instances in
      let fc = flat_map (class_text v) v.classes in
      let fz = flat_map (script_text v) v.scripts in
      let fd = flat_map (metadata_text v) v.metadata in
      ap (λ (l : List ℕ). first ++ l)
      (two v [] p (m ++ (d ++ (x ++ (c ++ z))))
      ∙ ap (λ (l : List ℕ). r p ++ l) (two v [] m (d ++ (x ++ (c ++ z)))
      ∙ ap (λ (l : List ℕ). r m ++ l) (two v [] d (x ++ (c ++ z))
      ∙ ap (λ (l : List ℕ). r d ++ l) (two v [] x (c ++ z)
      ∙ ap (λ (l : List ℕ). r x ++ l) (two v [] c z ∙ ap (λ (l : List ℕ). l ++ r z) (classes_are v.classes) ∙ ap (λ (l : List ℕ). fc ++ l) (scripts_are v.scripts))
      ∙ ap (λ (l : List ℕ). l ++ (fc ++ fz)) (instances_are v.instances))
      ∙ ap (λ (l : List ℕ). l ++ (fx ++ (fc ++ fz))) (metadata_are v.metadata))
      ∙ ap (λ (l : List ℕ). l ++ (fd ++ (fx ++ (fc ++ fz)))) (methods_are v.methods))
      ∙ ap (λ (l : List ℕ). l ++ definitions_text v) pools_are)
      ∙ ap (λ (l : List ℕ). l ++ (pools_text v ++ definitions_text v)) version_is

  -- ---- bodies

  code_is : (named : List ℕ) (k : ℕ) (is : List Instr) → listing_bytes v named (Labels k ∷ code_after (file.instructions s i) k is) ≡ code_text v named k is
  code_is named k [] = append-nil (texts.label_if named k)
  code_is named k (x ∷ is) = ap (λ (l : List ℕ). texts.label_if named k ++ (instr_text v x ++ l)) (code_is named (k + 1) is)

  abbrev body_head : Body → BodyHead
  body_head b = record { method = b.method; max_stack = b.max_stack; local_count = b.local_count; init_scope = b.init_scope; max_scope = b.max_scope }

  abbrev below_lines : Body → List Shown
  below_lines b = (Labels 0 ∷ code_after (file.instructions s i) 0 b.code) ++ ((flat_lines fs words.Catch (catch_line s) 0).shows b.handlers ++ (file.traits s i fs 0).shows b.traits)

  body_lines_are : (b : Body) → lines_of_body v b ≡ Line words.Body ((body_line s).items (body_head b)) ∷ below_lines b
  unfolding file.body_lines file.body_below
  body_lines_are b = ap (λ (l : List Shown). Line words.Body ((body_line s).items (body_head b)) ∷ l) (append-nil (below_lines b))

  body_shown : (named : List ℕ) (b : Body) → listing_bytes v named (lines_of_body v b) ≡ texts.body_head_text v b ++ (code_text v named 0 b.code ++ (flat_map (handler_text v) b.handlers ++ flat_map (trait_text v) b.traits))
  body_shown named b =
      let first = texts.body_head_text v b in
      let c = Labels 0 ∷ code_after (file.instructions s i) 0 b.code in
      let h = (flat_lines fs words.Catch (catch_line s) 0).shows b.handlers in
      let t = (file.traits s i fs 0).shows b.traits in
      ap (λ (l : List Shown). listing_bytes v named l) (body_lines_are b)
      ∙ ap (λ (l : List ℕ). first ++ l) (two v named c (h ++ t))
      ∙ ap (λ (l : List ℕ). first ++ (listing_bytes v named c ++ l)) (two v named h t)
      ∙ ap (λ (l : List ℕ). first ++ (l ++ (listing_bytes v named h ++ listing_bytes v named t))) (code_is named 0 b.code)
      ∙ ap (λ (l : List ℕ). first ++ (code_text v named 0 b.code ++ (l ++ listing_bytes v named t))) (flat_shows v named words.Catch (catch_line s) (handler_text v) (λ x. refl) b.handlers)
      ∙ ap (λ (l : List ℕ). first ++ (code_text v named 0 b.code ++ (flat_map (handler_text v) b.handlers ++ l))) (traits_are named 0 b.traits)

  -- ---- targets

  several_targets : (ts : List ℕ) → flat_map target_in (several_items target ts) ≡ ts
  unfolding target
  several_targets [] = refl
  several_targets (t ∷ ts) = ap (λ (l : List ℕ). t ∷ l) (several_targets ts)

  abbrev in_items : List Item → List ℕ
  in_items items = flat_map target_in items

  instr_named : (x : Instr) → HasShownForm x → in_items ((instruction_operands (opcode_of x)).items x) ≡ instr_targets x
  instr_named (instrs.Plain op) e = ap in_items (plain_items op e)
  instr_named (instrs.One op n) e = ap in_items (one_items op n e)
  instr_named (instrs.Two op n m) e = ap in_items (two_items op n m e)
  instr_named (instrs.Branch op t) e = ap in_items (branch_items op t e)
  instr_named (instrs.Switch d []) e = absurd (omega arith)
  instr_named (instrs.Switch d (t ∷ ts)) e = ap in_items (switch_items d t ts) ∙ ap (λ (l : List ℕ). d ∷ l) (several_targets (t ∷ ts))
  instr_named (instrs.Byte z) e = ap in_items (byte_items z)
  instr_named (instrs.Short z) e = ap in_items (short_items z)
  instr_named (instrs.ScopeObject n) e = ap in_items (scope_items n)
  instr_named (instrs.Debug kind name reg extra) e = ap in_items (debug_items kind name reg extra)

  code_named : (k : ℕ) (is : List Instr) → AllByRecursion HasShownForm is → flat_map targets_of_line (Labels k ∷ code_after (file.instructions s i) k is) ≡ flat_map instr_targets is
  code_named k [] all = refl
  code_named k (x ∷ is) all = let a = instr_named x all.0 in let b = code_named (k + 1) is all.1 in ap (λ (l : List ℕ). l ++ flat_map targets_of_line (Labels (k + 1) ∷ code_after (file.instructions s i) (k + 1) is)) a ∙ ap (λ (l : List ℕ). instr_targets x ++ l) b

  body_names_none : (b : BodyHead) → in_items ((body_line s).items b) ≡ []
  unfolding body_line any_number
  body_names_none b = refl

  handler_named : (h : Handler) → in_items ((catch_line s).items h) ≡ handler_targets h
  unfolding catch_line target any_number
  handler_named h = refl

  handlers_named : (hs : List Handler) → flat_map targets_of_line ((flat_lines fs words.Catch (catch_line s) 0).shows hs) ≡ flat_map handler_targets hs
  handlers_named [] = refl
  handlers_named (h ∷ hs) = ap (λ (l : List ℕ). l ++ flat_map targets_of_line ((flat_lines fs words.Catch (catch_line s) 0).shows hs)) (handler_named h) ∙ ap (λ (l : List ℕ). handler_targets h ++ l) (handlers_named hs)

  slot_at : (n : ℕ) (kind : ValueKind) → in_items ((slot_value_operand s).items (Some (record { kind = kind; value = n }))) ≡ []
  unfolding slot_value_operand any_number value_kind_operand
  slot_at zero kind = refl
  slot_at (suc n) kind = refl

  slot_none : (o : Option OptionValue) → in_items ((slot_value_operand s).items o) ≡ []
  unfolding slot_value_operand any_number value_kind_operand
  slot_none None = refl
  slot_none (Some o) = slot_at o.value o.kind

  fields_none : (b : TraitBody) → in_items ((trait_operands s (trait_kind_in b)).items b) ≡ []
  unfolding any_number
  fields_none (bodies.Slot id ty value true) = slot_none value
  fields_none (bodies.Slot id ty value false) = slot_none value
  fields_none (bodies.Method disp method) = refl
  fields_none (bodies.Getter disp method) = refl
  fields_none (bodies.Setter disp method) = refl
  fields_none (bodies.Class id class) = refl
  fields_none (bodies.Function id method) = refl

  trait_none : (t : TraitHead) → in_items ((trait_line s).items t) ≡ []
  unfolding trait_line trait_kind_operand any_number
  trait_none t = fields_none t.body

  metas_none : (ns : List ℕ) → flat_map targets_of_line ((flat_lines fs words.TraitMetadata (trait_metadata_line s) 0).shows ns) ≡ []
  unfolding trait_metadata_line any_number
  metas_none [] = refl
  metas_none (n ∷ ns) = metas_none ns

  traits_none : (ts : List TraitInfo) → flat_map targets_of_line ((file.traits s i fs 0).shows ts) ≡ []
  unfolding file.traits
  traits_none [] = refl
  traits_none (t ∷ ts) =
      let first = (trait_line s).items (trait_head t) in
      let m = (flat_lines fs words.TraitMetadata (trait_metadata_line s) 0).shows t.metadata in
      let rest = (file.traits s i fs 0).shows ts in
      ap (λ (l : List ℕ). in_items first ++ l) (flat_map-append targets_of_line m rest)
      ∙ ap (λ (l : List ℕ). l ++ (flat_map targets_of_line m ++ flat_map targets_of_line rest)) (trait_none (trait_head t))
      ∙ ap (λ (l : List ℕ). l ++ flat_map targets_of_line rest) (metas_none t.metadata)
      ∙ traits_none ts

  body_named : (b : Body) → All HasShownForm b.code → flat_map targets_of_line (lines_of_body v b) ≡ body_targets b
  body_named b all =
      let c = Labels 0 ∷ code_after (file.instructions s i) 0 b.code in
      let h = (flat_lines fs words.Catch (catch_line s) 0).shows b.handlers in
      let t = (file.traits s i fs 0).shows b.traits in
      ap (flat_map targets_of_line) (body_lines_are b)
      ∙ ap (λ (l : List ℕ). l ++ flat_map targets_of_line (c ++ (h ++ t))) (body_names_none (body_head b))
      ∙ flat_map-append targets_of_line c (h ++ t)
      ∙ ap (λ (l : List ℕ). flat_map targets_of_line c ++ l) (flat_map-append targets_of_line h t ∙ ap (λ (l : List ℕ). flat_map targets_of_line h ++ l) (traits_none b.traits) ∙ append-nil (flat_map targets_of_line h) ∙ handlers_named b.handlers)
      ∙ ap (λ (l : List ℕ). l ++ flat_map handler_targets b.handlers) (code_named 0 b.code (recursion_from_All HasShownForm b.code all))

  pub body_is : (b : Body) → IsReadyBody b → body_text v b ≡ whole_body v b
  body_is b ready = body_shown (flat_map targets_of_line (lines_of_body v b)) b ∙ ap (λ (named : List ℕ). texts.body_head_text v b ++ (code_text v named 0 b.code ++ (flat_map (handler_text v) b.handlers ++ flat_map (trait_text v) b.traits))) (body_named b (shown b ready))

  bodies_are : (bs : List Body) → AllByRecursion IsReadyBody bs → flat_map (body_text v) bs ≡ flat_map (whole_body v) bs
  bodies_are [] all = refl
  bodies_are (b ∷ bs) all = ap (λ (l : List ℕ). l ++ flat_map (body_text v) bs) (body_is b all.0) ∙ ap (λ (l : List ℕ). whole_body v b ++ l) (bodies_are bs all.1)

  pub listing_is : All IsReadyBody v.bodies → listing v ≡ whole_text v
  unfolding listing
  listing_is all =
      ap (λ (l : List ℕ). l ++ flat_map (body_text v) v.bodies) quiet_are
      ∙ ap (λ (l : List ℕ). (version_text ++ (pools_text v ++ definitions_text v)) ++ l) (bodies_are v.bodies (recursion_from_All IsReadyBody v.bodies all))
      ∙ append_assoc version_text (pools_text v ++ definitions_text v) (flat_map (whole_body v) v.bodies)
      ∙ ap (λ (l : List ℕ). version_text ++ l) (append_assoc (pools_text v) (definitions_text v) (flat_map (whole_body v) v.bodies))
