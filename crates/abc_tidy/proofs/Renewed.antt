-- The indices of definitions with new numbers are the new numbers of their indices; and new numbers twice are new numbers.
use Rattle.std.proofs.Common.{◌≡◌, ℕ, List, [], ◌∷◌, ◌++◌, map, Some, None, Option, option_map, flat_map, refl, sym, ap, subst, ◌∙◌}
use Rattle.std.proofs.lemmas.List.{map-append}
use Rattle.abc_tidy_refs.specs.declared.refs.Ref.{Ref}
use Rattle.abc_tidy_refs.specs.Refs.{body_refs, class_refs, refs_of, file_refs, handler_refs, instance_refs, instr_refs, metadata_refs, method_refs, operand_pool, option_refs, protected_refs, ref, script_refs, trait_body_refs, trait_refs, value_pool, value_refs}
use Rattle.abc_tidy_refs.specs.Renumbered.{Renumbering, beside, new_body, renumbered_class, new_file, new_handler, renumbered_instance, new_instr, new_metadata, new_method, new_option, new_script, new_trait, new_trait_body}
use Rattle.abc_file_types.specs.declared.classes.ClassInfo.{ClassInfo}
use Rattle.abc_file_types.specs.declared.classes.Instance.{Instance}
use Rattle.abc_file_types.specs.declared.classes.Script.{Script}
use Rattle.abc_file_types.specs.declared.code.Body.{Body}
use Rattle.abc_file_types.specs.declared.code.Handler.{Handler}
use Rattle.abc_file_types.specs.declared.code.Instr.{Instr}
use Rattle.abc_file_types.specs.declared.code.Instr.TheVariants as instrs
use Rattle.abc_file_types.specs.declared.methods.Metadata.{Metadata}
use Rattle.abc_file_types.specs.declared.methods.Method.{Method}
use Rattle.abc_file_types.specs.declared.methods.OptionValue.{OptionValue}
use Rattle.abc_file_types.specs.declared.opcodes.Pool.{Pool}
use Rattle.abc_file_types.specs.declared.opcodes.Pool.TheVariants as pools
use Rattle.abc_file_types.specs.declared.tables.Abc.{Abc}
use Rattle.abc_file_types.specs.declared.traits.TraitBody.{TraitBody}
use Rattle.abc_file_types.specs.declared.traits.TraitBody.TheVariants as bodies
use Rattle.abc_file_types.specs.declared.traits.TraitInfo.{TraitInfo}
use Rattle.abc_file_types.specs.Pools.{empty}
use Rattle.abc_tidy.proofs.Lists.{same_maps, two_maps}

-- ---- indices

module _ (f : Renumbering) where
  abbrev pub renewed : Ref → Ref
  renewed r = ref r.pool (f r.pool r.index)

  list : {A : Type 0} (new : A → A) (refs : A → List Ref) (xs : List A) → ((x : A) → refs (new x) ≡ map renewed (refs x)) → flat_map refs (map new xs) ≡ map renewed (flat_map refs xs)
  list new refs [] e = refl
  list new refs (x ∷ xs) e =
      let first : refs (new x) ≡ map renewed (refs x) = e x in
      let rest : flat_map refs (map new xs) ≡ map renewed (flat_map refs xs) = list new refs xs e in
      (λ i. first i ++ rest i) ∙ sym (map-append renewed (refs x) (flat_map refs xs))

  ones : (pool : Pool) (xs : List ℕ) → refs_of pool (map (f pool) xs) ≡ map renewed (refs_of pool xs)
  ones pool xs = same_maps (ref pool) (f pool) renewed (ref pool) xs (λ x. refl)

  two : (a b : List Ref) → map renewed a ++ map renewed b ≡ map renewed (a ++ b)
  two a b = sym (map-append renewed a b)

  three : (a b c : List Ref) → map renewed a ++ map renewed b ++ map renewed c ≡ map renewed (a ++ b ++ c)
  three a b c = ap (λ l. l ++ map renewed c) (two a b) ∙ two (a ++ b) c

  five : (a b c d e : List Ref) → map renewed a ++ map renewed b ++ map renewed c ++ map renewed d ++ map renewed e ≡ map renewed (a ++ b ++ c ++ d ++ e)
  five a b c d e = ap (λ l. l ++ map renewed d ++ map renewed e) (three a b c) ∙ three (a ++ b ++ c) d e

  six : (a b c d e g : List Ref) → map renewed a ++ map renewed b ++ map renewed c ++ map renewed d ++ map renewed e ++ map renewed g ≡ map renewed (a ++ b ++ c ++ d ++ e ++ g)
  six a b c d e g = ap (λ l. l ++ map renewed g) (five a b c d e) ∙ two (a ++ b ++ c ++ d ++ e) g

  method : (m : Method) → method_refs (new_method f m) ≡ map renewed (method_refs m)
  method m =
      (λ i. map renewed (ref pools.Name m.ret ∷ []) ++ ones pools.Name m.params i ++ map renewed (ref pools.Text m.name ∷ []) ++ list (new_option f) option_refs m.options (λ o. refl) i ++ ones pools.Text m.param_names i)
      ∙ five (ref pools.Name m.ret ∷ []) (refs_of pools.Name m.params) (ref pools.Text m.name ∷ []) (flat_map option_refs m.options) (refs_of pools.Text m.param_names)

  metadata : (m : Metadata) → metadata_refs (new_metadata f m) ≡ map renewed (metadata_refs m)
  metadata m = ap (λ l. map renewed (ref pools.Text m.name ∷ []) ++ l) (ones pools.Text m.items) ∙ two (ref pools.Text m.name ∷ []) (refs_of pools.Text m.items)

  optional : (o : Option OptionValue) → value_refs (option_map (new_option f) o) ≡ map renewed (value_refs o)
  optional None = refl
  optional (Some o) = refl

  protected : (o : Option ℕ) → protected_refs (option_map (f pools.Space) o) ≡ map renewed (protected_refs o)
  protected None = refl
  protected (Some s) = refl

  trait_body : (b : TraitBody) → trait_body_refs (new_trait_body f b) ≡ map renewed (trait_body_refs b)
  trait_body (bodies.Slot id ty val constant) = ap (λ l. map renewed (ref pools.Name ty ∷ []) ++ l) (optional val) ∙ two (ref pools.Name ty ∷ []) (value_refs val)
  trait_body (bodies.Method disp m) = refl
  trait_body (bodies.Getter disp m) = refl
  trait_body (bodies.Setter disp m) = refl
  trait_body (bodies.Class id class) = refl
  trait_body (bodies.Function id m) = refl

  trait : (t : TraitInfo) → trait_refs (new_trait f t) ≡ map renewed (trait_refs t)
  trait t = ap (λ l. map renewed (ref pools.Name t.name ∷ []) ++ l) (trait_body t.body) ∙ two (ref pools.Name t.name ∷ []) (trait_body_refs t.body)

  traits : (ts : List TraitInfo) → flat_map trait_refs (map (new_trait f) ts) ≡ map renewed (flat_map trait_refs ts)
  traits ts = list (new_trait f) trait_refs ts trait

  instance : (x : Instance) → instance_refs (renumbered_instance f x) ≡ map renewed (instance_refs x)
  instance x =
      (λ i. map renewed (ref pools.Name x.name ∷ []) ++ map renewed (ref pools.Name x.super_name ∷ []) ++ protected x.protected_ns i ++ ones pools.Name x.interfaces i ++ traits x.traits i)
      ∙ five (ref pools.Name x.name ∷ []) (ref pools.Name x.super_name ∷ []) (protected_refs x.protected_ns) (refs_of pools.Name x.interfaces) (flat_map trait_refs x.traits)

  class : (c : ClassInfo) → class_refs (renumbered_class f c) ≡ map renewed (class_refs c)
  class c = traits c.traits

  script : (s : Script) → script_refs (new_script f s) ≡ map renewed (script_refs s)
  script s = traits s.traits

  instr : (x : Instr) → instr_refs (new_instr f x) ≡ map renewed (instr_refs x)
  instr (instrs.Plain op) = refl
  instr (instrs.One op n) = refl
  instr (instrs.Two op n m) = refl
  instr (instrs.Branch op target) = refl
  instr (instrs.Switch default cases) = refl
  instr (instrs.Byte x) = refl
  instr (instrs.Short x) = refl
  instr (instrs.ScopeObject x) = refl
  instr (instrs.Debug kind name reg extra) = refl

  body : (b : Body) → body_refs (new_body f b) ≡ map renewed (body_refs b)
  body b =
      (λ i. list (new_instr f) instr_refs b.code instr i ++ list (new_handler f) handler_refs b.handlers (λ h. refl) i ++ traits b.traits i)
      ∙ three (flat_map instr_refs b.code) (flat_map handler_refs b.handlers) (flat_map trait_refs b.traits)

  pub refs_renewed : (v : Abc) → file_refs (new_file f v) ≡ map renewed (file_refs v)
  refs_renewed v =
      (λ i. list (new_method f) method_refs v.methods method i ++ list (new_metadata f) metadata_refs v.metadata metadata i ++ list (renumbered_instance f) instance_refs v.instances instance i
      ++ list (renumbered_class f) class_refs v.classes class i ++ list (new_script f) script_refs v.scripts script i ++ list (new_body f) body_refs v.bodies body i)
      ∙ six (flat_map method_refs v.methods) (flat_map metadata_refs v.metadata) (flat_map instance_refs v.instances) (flat_map class_refs v.classes) (flat_map script_refs v.scripts) (flat_map body_refs v.bodies)

-- ---- numbers twice

module _ (g f h : Renumbering) (is : (pool : Pool) (i : ℕ) → g pool (f pool i) ≡ h pool i) where
  all : {A : Type 0} (new_g new_f new_h : A → A) (xs : List A) → ((x : A) → new_g (new_f x) ≡ new_h x) → map new_g (map new_f xs) ≡ map new_h xs
  all new_g new_f new_h xs e = two_maps new_g new_f new_h xs e

  some : {A : Type 0} (new_g new_f new_h : A → A) (o : Option A) → ((x : A) → new_g (new_f x) ≡ new_h x) → option_map new_g (option_map new_f o) ≡ option_map new_h o
  some new_g new_f new_h None e = refl
  some new_g new_f new_h (Some x) e = ap Some (e x)

  option_twice : (o : OptionValue) → new_option g (new_option f o) ≡ new_option h o
  option_twice o = λ i. record { kind = o.kind; value = is (value_pool o.kind) o.value i }

  method_twice : (m : Method) → new_method g (new_method f m) ≡ new_method h m
  method_twice m = λ i. record {
    ret = is pools.Name m.ret i;
    params = all (g pools.Name) (f pools.Name) (h pools.Name) m.params (is pools.Name) i;
    name = is pools.Text m.name i;
    flags = m.flags;
    options = all (new_option g) (new_option f) (new_option h) m.options option_twice i;
    param_names = all (g pools.Text) (f pools.Text) (h pools.Text) m.param_names (is pools.Text) i;
  }

  metadata_twice : (m : Metadata) → new_metadata g (new_metadata f m) ≡ new_metadata h m
  metadata_twice m = λ i. record { name = is pools.Text m.name i; items = all (g pools.Text) (f pools.Text) (h pools.Text) m.items (is pools.Text) i }

  trait_body_twice : (b : TraitBody) → new_trait_body g (new_trait_body f b) ≡ new_trait_body h b
  trait_body_twice (bodies.Slot id ty val constant) = λ i. bodies.Slot id (is pools.Name ty i) (some (new_option g) (new_option f) (new_option h) val option_twice i) constant
  trait_body_twice (bodies.Method disp m) = refl
  trait_body_twice (bodies.Getter disp m) = refl
  trait_body_twice (bodies.Setter disp m) = refl
  trait_body_twice (bodies.Class id class) = refl
  trait_body_twice (bodies.Function id m) = refl

  trait_twice : (t : TraitInfo) → new_trait g (new_trait f t) ≡ new_trait h t
  trait_twice t = λ i. record { name = is pools.Name t.name i; attrs = t.attrs; body = trait_body_twice t.body i; metadata = t.metadata }

  traits_twice : (ts : List TraitInfo) → map (new_trait g) (map (new_trait f) ts) ≡ map (new_trait h) ts
  traits_twice ts = all (new_trait g) (new_trait f) (new_trait h) ts trait_twice

  instance_twice : (x : Instance) → renumbered_instance g (renumbered_instance f x) ≡ renumbered_instance h x
  instance_twice x = λ i. record {
    name = is pools.Name x.name i;
    super_name = is pools.Name x.super_name i;
    flags = x.flags;
    protected_ns = some (g pools.Space) (f pools.Space) (h pools.Space) x.protected_ns (is pools.Space) i;
    interfaces = all (g pools.Name) (f pools.Name) (h pools.Name) x.interfaces (is pools.Name) i;
    iinit = x.iinit;
    traits = traits_twice x.traits i;
  }

  class_twice : (c : ClassInfo) → renumbered_class g (renumbered_class f c) ≡ renumbered_class h c
  class_twice c = λ i. record { cinit = c.cinit; traits = traits_twice c.traits i }

  script_twice : (s : Script) → new_script g (new_script f s) ≡ new_script h s
  script_twice s = λ i. record { init = s.init; traits = traits_twice s.traits i }

  instr_twice : (x : Instr) → new_instr g (new_instr f x) ≡ new_instr h x
  instr_twice (instrs.Plain op) = refl
  instr_twice (instrs.One op n) = ap (instrs.One op) (is (operand_pool op) n)
  instr_twice (instrs.Two op n m) = ap (λ k. instrs.Two op k m) (is (operand_pool op) n)
  instr_twice (instrs.Branch op target) = refl
  instr_twice (instrs.Switch default cases) = refl
  instr_twice (instrs.Byte x) = refl
  instr_twice (instrs.Short x) = refl
  instr_twice (instrs.ScopeObject x) = refl
  instr_twice (instrs.Debug kind name reg extra) = ap (λ k. instrs.Debug kind k reg extra) (is (operand_pool 0xef) name)

  handler_twice : (x : Handler) → new_handler g (new_handler f x) ≡ new_handler h x
  handler_twice x = λ i. record { from = x.from; to = x.to; target = x.target; exc_type = is pools.Name x.exc_type i; var_name = is pools.Name x.var_name i }

  body_twice : (b : Body) → new_body g (new_body f b) ≡ new_body h b
  body_twice b = λ i. record {
    method = b.method;
    max_stack = b.max_stack;
    local_count = b.local_count;
    init_scope = b.init_scope;
    max_scope = b.max_scope;
    code = all (new_instr g) (new_instr f) (new_instr h) b.code instr_twice i;
    handlers = all (new_handler g) (new_handler f) (new_handler h) b.handlers handler_twice i;
    traits = traits_twice b.traits i;
  }

  pub twice : (v : Abc) → beside (new_file g (new_file f v)) empty ≡ beside (new_file h v) empty
  twice v = λ i. record empty {
    methods = all (new_method g) (new_method f) (new_method h) v.methods method_twice i;
    metadata = all (new_metadata g) (new_metadata f) (new_metadata h) v.metadata metadata_twice i;
    instances = all (renumbered_instance g) (renumbered_instance f) (renumbered_instance h) v.instances instance_twice i;
    classes = all (renumbered_class g) (renumbered_class f) (renumbered_class h) v.classes class_twice i;
    scripts = all (new_script g) (new_script f) (new_script h) v.scripts script_twice i;
    bodies = all (new_body g) (new_body f) (new_body h) v.bodies body_twice i;
  }
