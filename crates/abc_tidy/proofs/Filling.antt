-- Definitions and bodies without indices, and a number for each index, give the definitions and bodies with these numbers.
use Rattle.std.proofs.Common.{◌≡◌, ℕ, zero, suc, List, [], ◌∷◌, ◌++◌, map, Some, None, Option, option_map, flat_map, refl, sym, ap, subst, ◌∙◌, append_assoc, append-nil}
use Rattle.std.proofs.lemmas.List.{map-append}
use Rattle.abc_tidy_refs.specs.declared.refs.Ref.{Ref}
use Rattle.abc_tidy_refs.specs.Refs.{body_refs, class_refs, refs_of, file_refs, handler_refs, instance_refs, instr_refs, metadata_refs, method_refs, operand_pool, option_refs, protected_refs, ref, script_refs, trait_body_refs, trait_refs, value_pool, value_refs}
use Rattle.abc_tidy_refs.specs.Renumbered.{Renumbering, beside, new_body, renumbered_class, new_file, new_handler, renumbered_instance, new_instr, new_metadata, new_method, new_option, new_script, new_trait, new_trait_body}
use Rattle.abc_file_types.specs.declared.classes.ClassInfo.{ClassInfo}
use Rattle.abc_file_types.specs.declared.classes.Instance.{Instance}
use Rattle.abc_file_types.specs.declared.classes.Script.{Script}
use Rattle.abc_file_types.specs.declared.code.Body.{Body}
use Rattle.abc_file_types.specs.declared.code.Handler.{Handler}
use Rattle.abc_file_types.specs.declared.code.Instr.{Instr}
use Rattle.abc_file_types.specs.declared.code.Instr.TheVariants as instrs
use Rattle.abc_file_types.specs.declared.methods.Metadata.{Metadata}
use Rattle.abc_file_types.specs.declared.methods.Method.{Method}
use Rattle.abc_file_types.specs.declared.methods.OptionValue.{OptionValue}
use Rattle.abc_file_types.specs.declared.opcodes.Pool.{Pool}
use Rattle.abc_file_types.specs.declared.opcodes.Pool.TheVariants as pools
use Rattle.abc_file_types.specs.declared.tables.Abc.{Abc}
use Rattle.abc_file_types.specs.declared.traits.TraitBody.{TraitBody}
use Rattle.abc_file_types.specs.declared.traits.TraitBody.TheVariants as bodies
use Rattle.abc_file_types.specs.declared.traits.TraitInfo.{TraitInfo}
use Rattle.abc_file_types.specs.Pools.{empty}
use Rattle.abc_tidy.specs.Free.{no_index}

-- ---- a value is made of numbers, and leaves the rest of them

abbrev Filler : Type 0 → Type 0
Filler A = List ℕ → A × List ℕ

made : {A : Type 0} → A → Filler A
made x ns = (x, ns)

with : {A B : Type 0} → Filler A → (A → Filler B) → Filler B
with f k ns = k (f ns).0 (f ns).1

record Gives {A : Type 0} (f : Filler A) (ns : List ℕ) (x : A) : Type 0 where
  gives : (rest : List ℕ) → f (ns ++ rest) ≡ (x, rest)

gives_made : {A : Type 0} (x : A) → Gives (made x) [] x
unfolding made
gives_made x = record { gives = λ rest. refl }

gives_with : {A B : Type 0} (f : Filler A) (k : A → Filler B) (ns ms : List ℕ) (x : A) (y : B) → Gives f ns x → Gives (k x) ms y → Gives (with f k) (ns ++ ms) y
unfolding with
gives_with {A} {B} f k ns ms x y g h = record {
  gives = λ rest. ap (λ l. k (f l).0 (f l).1) (append_assoc ns ms rest) ∙ ap (λ (p : A × List ℕ). k p.0 p.1) (g.gives (ms ++ rest)) ∙ h.gives rest;
}

gives_at : {A : Type 0} (f : Filler A) (ns ms : List ℕ) (x : A) → ns ≡ ms → Gives f ms x → Gives f ns x
gives_at f ns ms x e g = subst (λ l. Gives f l x) (sym e) g

-- ---- one index

abbrev filled : Pool → ℕ → ℕ → ℕ
filled pools.NoPool i n = i
filled pools.Int i n = n
filled pools.UInt i n = n
filled pools.Double i n = n
filled pools.Text i n = n
filled pools.Space i n = n
filled pools.Name i n = n

abbrev fill_one : Pool → ℕ → Filler ℕ
fill_one pool i [] = (i, [])
fill_one pool i (n ∷ ns) = (filled pool i n, ns)

fill_list : {A B : Type 0} → (A → Filler B) → List A → Filler (List B)
fill_list f [] = made []
fill_list f (x ∷ xs) = with (f x) (λ y. with (fill_list f xs) (λ ys. made (y ∷ ys)))

abbrev fill_some : {A B : Type 0} → (A → Filler B) → Option A → Filler (Option B)
fill_some f None = made None
fill_some f (Some x) = with (f x) (λ y. made (Some y))

-- ---- definitions

abbrev fill_option : OptionValue → Filler OptionValue
fill_option o = with (fill_one (value_pool o.kind) o.value) (λ n. made (record { kind = o.kind; value = n }))

abbrev fill_method : Method → Filler Method
fill_method m =
    with (fill_one pools.Name m.ret) (λ ret. with (fill_list (fill_one pools.Name) m.params) (λ params. with (fill_one pools.Text m.name) (λ name. with (fill_list fill_option m.options) (λ options. with (fill_list (fill_one pools.Text) m.param_names) (λ param_names. made (record { ret = ret; params = params; name = name; flags = m.flags; options = options; param_names = param_names }))))))

abbrev fill_metadata : Metadata → Filler Metadata
fill_metadata m = with (fill_one pools.Text m.name) (λ name. with (fill_list (fill_one pools.Text) m.items) (λ items. made (record { name = name; items = items })))

abbrev fill_trait_body : TraitBody → Filler TraitBody
fill_trait_body (bodies.Slot id ty value constant) = with (fill_one pools.Name ty) (λ ty. with (fill_some fill_option value) (λ value. made (bodies.Slot id ty value constant)))
fill_trait_body (bodies.Method disp method) = made (bodies.Method disp method)
fill_trait_body (bodies.Getter disp method) = made (bodies.Getter disp method)
fill_trait_body (bodies.Setter disp method) = made (bodies.Setter disp method)
fill_trait_body (bodies.Class id class) = made (bodies.Class id class)
fill_trait_body (bodies.Function id method) = made (bodies.Function id method)

abbrev fill_trait : TraitInfo → Filler TraitInfo
fill_trait t = with (fill_one pools.Name t.name) (λ name. with (fill_trait_body t.body) (λ body. made (record { name = name; attrs = t.attrs; body = body; metadata = t.metadata })))

abbrev fill_instance : Instance → Filler Instance
fill_instance i =
    with (fill_one pools.Name i.name) (λ name. with (fill_one pools.Name i.super_name) (λ super_name. with (fill_some (fill_one pools.Space) i.protected_ns) (λ protected_ns. with (fill_list (fill_one pools.Name) i.interfaces) (λ interfaces. with (fill_list fill_trait i.traits) (λ traits. made (record { name = name; super_name = super_name; flags = i.flags; protected_ns = protected_ns; interfaces = interfaces; iinit = i.iinit; traits = traits }))))))

abbrev fill_class : ClassInfo → Filler ClassInfo
fill_class c = with (fill_list fill_trait c.traits) (λ traits. made (record { cinit = c.cinit; traits = traits }))

abbrev fill_script : Script → Filler Script
fill_script s = with (fill_list fill_trait s.traits) (λ traits. made (record { init = s.init; traits = traits }))

abbrev fill_instr : Instr → Filler Instr
fill_instr (instrs.Plain op) = made (instrs.Plain op)
fill_instr (instrs.One op n) = with (fill_one (operand_pool op) n) (λ n. made (instrs.One op n))
fill_instr (instrs.Two op n m) = with (fill_one (operand_pool op) n) (λ n. made (instrs.Two op n m))
fill_instr (instrs.Branch op target) = made (instrs.Branch op target)
fill_instr (instrs.Switch default cases) = made (instrs.Switch default cases)
fill_instr (instrs.Byte x) = made (instrs.Byte x)
fill_instr (instrs.Short x) = made (instrs.Short x)
fill_instr (instrs.ScopeObject x) = made (instrs.ScopeObject x)
fill_instr (instrs.Debug kind name reg extra) = with (fill_one (operand_pool 0xef) name) (λ name. made (instrs.Debug kind name reg extra))

abbrev fill_handler : Handler → Filler Handler
fill_handler h = with (fill_one pools.Name h.exc_type) (λ exc_type. with (fill_one pools.Name h.var_name) (λ var_name. made (record { from = h.from; to = h.to; target = h.target; exc_type = exc_type; var_name = var_name })))

abbrev fill_body : Body → Filler Body
fill_body b =
    with (fill_list fill_instr b.code) (λ code. with (fill_list fill_handler b.handlers) (λ handlers. with (fill_list fill_trait b.traits) (λ traits. made (record { method = b.method; max_stack = b.max_stack; local_count = b.local_count; init_scope = b.init_scope; max_scope = b.max_scope; code = code; handlers = handlers; traits = traits }))))

abbrev fill_file : Abc → Filler Abc
fill_file v =
    with (fill_list fill_method v.methods) (λ methods. with (fill_list fill_metadata v.metadata) (λ metadata. with (fill_list fill_instance v.instances) (λ instances. with (fill_list fill_class v.classes) (λ classes. with (fill_list fill_script v.scripts) (λ scripts. with (fill_list fill_body v.bodies) (λ bodies. made (record empty { methods = methods; metadata = metadata; instances = instances; classes = classes; scripts = scripts; bodies = bodies })))))))

-- ---- the numbers fill what new numbers give

-- a number for each index, and what the index becomes
abbrev pub Fits : Renumbering → (Ref → ℕ) → Type 0
Fits f value = (pool : Pool) (i : ℕ) → filled pool (no_index pool i) (value (ref pool i)) ≡ f pool i

module _ (f : Renumbering) (value : Ref → ℕ) (fits : Fits f value) where
  one : (pool : Pool) (i : ℕ) → Gives (fill_one pool (no_index pool i)) (map value (ref pool i ∷ [])) (f pool i)
  one pool i = record { gives = λ rest. ap (λ (n : ℕ). (n, rest)) (fits pool i) }

  list : {A B C : Type 0} (blank : A → B) (fill : B → Filler C) (new : A → C) (refs : A → List Ref) (xs : List A) → ((x : A) → Gives (fill (blank x)) (map value (refs x)) (new x)) → Gives (fill_list fill (map blank xs)) (map value (flat_map refs xs)) (map new xs)
  unfolding fill_list
  list blank fill new refs [] g = gives_made []
  list blank fill new refs (x ∷ xs) g =
      gives_at _ (map value (refs x ++ flat_map refs xs)) (map value (refs x) ++ (map value (flat_map refs xs) ++ [])) _ (map-append value (refs x) (flat_map refs xs) ∙ ap (λ l. map value (refs x) ++ l) (sym (append-nil (map value (flat_map refs xs)))))
      (gives_with _ _ _ _ (new x) _ (g x) (gives_with _ _ _ _ (map new xs) _ (list blank fill new refs xs g) (gives_made (new x ∷ map new xs))))

  ones : (pool : Pool) (xs : List ℕ) → Gives (fill_list (fill_one pool) (map (no_index pool) xs)) (map value (refs_of pool xs)) (map (f pool) xs)
  ones pool xs = gives_at _ (map value (refs_of pool xs)) (map value (flat_map (λ i. ref pool i ∷ []) xs)) _ (ap (map value) (singles xs)) (list (no_index pool) (fill_one pool) (f pool) (λ i. ref pool i ∷ []) xs (one pool))
    where
      singles : (xs : List ℕ) → refs_of pool xs ≡ flat_map (λ i. ref pool i ∷ []) xs
      singles [] = refl
      singles (x ∷ xs) = ap (λ l. ref pool x ∷ l) (singles xs)

  -- how the values of indices in a row are cut
  two : (a b : List Ref) → map value (a ++ b) ≡ map value a ++ (map value b ++ [])
  two a b = map-append value a b ∙ ap (λ l. map value a ++ l) (sym (append-nil (map value b)))

  three : (a b c : List Ref) → map value (a ++ b ++ c) ≡ map value a ++ (map value b ++ (map value c ++ []))
  three a b c = two (a ++ b) c ∙ ap (λ l. l ++ (map value c ++ [])) (map-append value a b) ∙ append_assoc (map value a) (map value b) (map value c ++ [])

  five : (a b c d e : List Ref) → map value (a ++ b ++ c ++ d ++ e) ≡ map value a ++ (map value b ++ (map value c ++ (map value d ++ (map value e ++ []))))
  five a b c d e =
      three (a ++ b ++ c) d e ∙ ap (λ l. l ++ (map value d ++ (map value e ++ []))) (map-append value (a ++ b) c ∙ ap (λ l. l ++ map value c) (map-append value a b))
      ∙ append_assoc (map value a ++ map value b) (map value c) (map value d ++ (map value e ++ []))
      ∙ append_assoc (map value a) (map value b) (map value c ++ (map value d ++ (map value e ++ [])))

  six : (a b c d e g : List Ref) → map value (a ++ b ++ c ++ d ++ e ++ g) ≡ map value a ++ (map value b ++ (map value c ++ (map value d ++ (map value e ++ (map value g ++ [])))))
  six a b c d e g =
      five (a ++ b) c d e g ∙ ap (λ l. l ++ (map value c ++ (map value d ++ (map value e ++ (map value g ++ []))))) (map-append value a b)
      ∙ append_assoc (map value a) (map value b) (map value c ++ (map value d ++ (map value e ++ (map value g ++ []))))

  option : (o : OptionValue) → Gives (fill_option (new_option no_index o)) (map value (option_refs o)) (new_option f o)
  option o = gives_with _ _ _ [] _ _ (one (value_pool o.kind) o.value) (gives_made (new_option f o))

  method : (m : Method) → Gives (fill_method (new_method no_index m)) (map value (method_refs m)) (new_method f m)
  method m =
      gives_at _ _ _ _ (five (ref pools.Name m.ret ∷ []) (refs_of pools.Name m.params) (ref pools.Text m.name ∷ []) (flat_map option_refs m.options) (refs_of pools.Text m.param_names))
      (gives_with _ _ _ _ _ _ (one pools.Name m.ret) (gives_with _ _ _ _ _ _ (ones pools.Name m.params) (gives_with _ _ _ _ _ _ (one pools.Text m.name)
      (gives_with _ _ _ _ _ _ (list (new_option no_index) fill_option (new_option f) option_refs m.options option) (gives_with _ _ _ _ _ _ (ones pools.Text m.param_names) (gives_made (new_method f m)))))))

  metadata : (m : Metadata) → Gives (fill_metadata (new_metadata no_index m)) (map value (metadata_refs m)) (new_metadata f m)
  metadata m =
      gives_at _ _ _ _ (two (ref pools.Text m.name ∷ []) (refs_of pools.Text m.items))
      (gives_with _ _ _ _ _ _ (one pools.Text m.name) (gives_with _ _ _ _ _ _ (ones pools.Text m.items) (gives_made (new_metadata f m))))

  optional : (o : Option OptionValue) → Gives (fill_some fill_option (option_map (new_option no_index) o)) (map value (value_refs o)) (option_map (new_option f) o)
  optional None = gives_made None
  optional (Some o) = gives_at _ _ _ _ (sym (append-nil (map value (option_refs o)))) (gives_with _ _ _ _ _ _ (option o) (gives_made (Some (new_option f o))))

  protected : (o : Option ℕ) → Gives (fill_some (fill_one pools.Space) (option_map (no_index pools.Space) o)) (map value (protected_refs o)) (option_map (f pools.Space) o)
  protected None = gives_made None
  protected (Some s) = gives_with _ _ _ [] _ _ (one pools.Space s) (gives_made (Some (f pools.Space s)))

  trait_body : (b : TraitBody) → Gives (fill_trait_body (new_trait_body no_index b)) (map value (trait_body_refs b)) (new_trait_body f b)
  trait_body (bodies.Slot id ty val constant) =
      gives_at _ _ _ _ (two (ref pools.Name ty ∷ []) (value_refs val))
      (gives_with _ _ _ _ _ _ (one pools.Name ty) (gives_with _ _ _ _ _ _ (optional val) (gives_made (new_trait_body f (bodies.Slot id ty val constant)))))
  trait_body (bodies.Method disp m) = gives_made (bodies.Method disp m)
  trait_body (bodies.Getter disp m) = gives_made (bodies.Getter disp m)
  trait_body (bodies.Setter disp m) = gives_made (bodies.Setter disp m)
  trait_body (bodies.Class id class) = gives_made (bodies.Class id class)
  trait_body (bodies.Function id m) = gives_made (bodies.Function id m)

  trait : (t : TraitInfo) → Gives (fill_trait (new_trait no_index t)) (map value (trait_refs t)) (new_trait f t)
  trait t =
      gives_at _ _ _ _ (two (ref pools.Name t.name ∷ []) (trait_body_refs t.body))
      (gives_with _ _ _ _ _ _ (one pools.Name t.name) (gives_with _ _ _ _ _ _ (trait_body t.body) (gives_made (new_trait f t))))

  traits : (ts : List TraitInfo) → Gives (fill_list fill_trait (map (new_trait no_index) ts)) (map value (flat_map trait_refs ts)) (map (new_trait f) ts)
  traits ts = list (new_trait no_index) fill_trait (new_trait f) trait_refs ts trait

  instance : (x : Instance) → Gives (fill_instance (renumbered_instance no_index x)) (map value (instance_refs x)) (renumbered_instance f x)
  instance x =
      gives_at _ _ _ _ (five (ref pools.Name x.name ∷ []) (ref pools.Name x.super_name ∷ []) (protected_refs x.protected_ns) (refs_of pools.Name x.interfaces) (flat_map trait_refs x.traits))
      (gives_with _ _ _ _ _ _ (one pools.Name x.name) (gives_with _ _ _ _ _ _ (one pools.Name x.super_name) (gives_with _ _ _ _ _ _ (protected x.protected_ns)
      (gives_with _ _ _ _ _ _ (ones pools.Name x.interfaces) (gives_with _ _ _ _ _ _ (traits x.traits) (gives_made (renumbered_instance f x)))))))

  class : (c : ClassInfo) → Gives (fill_class (renumbered_class no_index c)) (map value (class_refs c)) (renumbered_class f c)
  class c = gives_at _ _ _ _ (sym (append-nil (map value (class_refs c)))) (gives_with _ _ _ _ _ _ (traits c.traits) (gives_made (renumbered_class f c)))

  script : (s : Script) → Gives (fill_script (new_script no_index s)) (map value (script_refs s)) (new_script f s)
  script s = gives_at _ _ _ _ (sym (append-nil (map value (script_refs s)))) (gives_with _ _ _ _ _ _ (traits s.traits) (gives_made (new_script f s)))

  instr : (x : Instr) → Gives (fill_instr (new_instr no_index x)) (map value (instr_refs x)) (new_instr f x)
  instr (instrs.Plain op) = gives_made (instrs.Plain op)
  instr (instrs.One op n) = gives_with _ _ _ [] _ _ (one (operand_pool op) n) (gives_made (new_instr f (instrs.One op n)))
  instr (instrs.Two op n m) = gives_with _ _ _ [] _ _ (one (operand_pool op) n) (gives_made (new_instr f (instrs.Two op n m)))
  instr (instrs.Branch op target) = gives_made (instrs.Branch op target)
  instr (instrs.Switch default cases) = gives_made (instrs.Switch default cases)
  instr (instrs.Byte x) = gives_made (instrs.Byte x)
  instr (instrs.Short x) = gives_made (instrs.Short x)
  instr (instrs.ScopeObject x) = gives_made (instrs.ScopeObject x)
  instr (instrs.Debug kind name reg extra) = gives_with _ _ _ [] _ _ (one (operand_pool 0xef) name) (gives_made (new_instr f (instrs.Debug kind name reg extra)))

  handler : (h : Handler) → Gives (fill_handler (new_handler no_index h)) (map value (handler_refs h)) (new_handler f h)
  handler h =
      gives_at _ _ _ _ (two (ref pools.Name h.exc_type ∷ []) (ref pools.Name h.var_name ∷ []))
      (gives_with _ _ _ _ _ _ (one pools.Name h.exc_type) (gives_with _ _ _ _ _ _ (one pools.Name h.var_name) (gives_made (new_handler f h))))

  body : (b : Body) → Gives (fill_body (new_body no_index b)) (map value (body_refs b)) (new_body f b)
  body b =
      gives_at _ _ _ _ (three (flat_map instr_refs b.code) (flat_map handler_refs b.handlers) (flat_map trait_refs b.traits))
      (gives_with _ _ _ _ _ _ (list (new_instr no_index) fill_instr (new_instr f) instr_refs b.code instr)
      (gives_with _ _ _ _ _ _ (list (new_handler no_index) fill_handler (new_handler f) handler_refs b.handlers handler)
      (gives_with _ _ _ _ _ _ (traits b.traits) (gives_made (new_body f b)))))

  whole : (v : Abc) → Gives (fill_file (beside (new_file no_index v) empty)) (map value (file_refs v)) (beside (new_file f v) empty)
  whole v =
      gives_at _ _ _ _ (six (flat_map method_refs v.methods) (flat_map metadata_refs v.metadata) (flat_map instance_refs v.instances) (flat_map class_refs v.classes) (flat_map script_refs v.scripts) (flat_map body_refs v.bodies))
      (gives_with _ _ _ _ _ _ (list (new_method no_index) fill_method (new_method f) method_refs v.methods method)
      (gives_with _ _ _ _ _ _ (list (new_metadata no_index) fill_metadata (new_metadata f) metadata_refs v.metadata metadata)
      (gives_with _ _ _ _ _ _ (list (renumbered_instance no_index) fill_instance (renumbered_instance f) instance_refs v.instances instance)
      (gives_with _ _ _ _ _ _ (list (renumbered_class no_index) fill_class (renumbered_class f) class_refs v.classes class)
      (gives_with _ _ _ _ _ _ (list (new_script no_index) fill_script (new_script f) script_refs v.scripts script)
      (gives_with _ _ _ _ _ _ (list (new_body no_index) fill_body (new_body f) body_refs v.bodies body) (gives_made (beside (new_file f v) empty))))))))

-- two files of one form, with equal numbers, become the same
pub same_filled : (v w : Abc) (f g : Renumbering) (value other : Ref → ℕ) → Fits f value → Fits g other → beside (new_file no_index v) empty ≡ beside (new_file no_index w) empty → map value (file_refs v) ≡ map other (file_refs w) → beside (new_file f v) empty ≡ beside (new_file g w) empty
same_filled v w f g value other fits fits2 e n =
    let left : fill_file (beside (new_file no_index v) empty) (map value (file_refs v) ++ []) ≡ (beside (new_file f v) empty, []) = (whole f value fits v).gives [] in
    let right : fill_file (beside (new_file no_index w) empty) (map other (file_refs w) ++ []) ≡ (beside (new_file g w) empty, []) = (whole g other fits2 w).gives [] in
    ap (λ (p : Abc × List ℕ). p.0) (sym left ∙ (λ i. fill_file (e i) (n i ++ [])) ∙ right)
