-- The operands of the instructions of a body name entries, or nothing, where those of each do. They do, and so do the names
-- of parameters, where all indices of the file do.
use Rattle.std.proofs.Common.{◌≡◌, ◌↔◌, ℕ, zero, suc, ◌<◌, ◌≤◌, List, [], ◌∷◌, ◌++◌, All, Bool, IsTrue, Some, None, length, get_or, refl, sym, subst, ◌∙◌, arith}
use Rattle.std.specs.declared.option.Option.{Option}
use Rattle.std.specs.List.{AllByRecursion, flat_map}
use Rattle.std.specs.Option.{option_to_list}
use Rattle.std.proofs.lemmas.List.Elements.{All-append, All-from_recursion, recursion_from_All}
use Rattle.abc_tidy_refs.specs.declared.refs.Ref.{Ref}
use Rattle.abc_tidy_refs.specs.Refs.{body_refs, class_refs, refs_of, file_refs, handler_refs, instance_refs, instr_refs, metadata_refs, method_refs, option_refs, ref, script_refs, trait_refs}
use Rattle.abc_file_types.specs.declared.code.Body.{Body}
use Rattle.abc_file_types.specs.declared.code.Instr.{Instr}
use Rattle.abc_file_types.specs.declared.methods.Method.{Method}
use Rattle.abc_file_types.specs.declared.opcodes.Pool.TheVariants as pools
use Rattle.abc_file_types.specs.declared.tables.Abc.{Abc}
use Rattle.abc_tidy_entries.specs.declared.error.TidyRule.TheVariants as rules
use Rattle.abc_tidy_entries.specs.Rules.{BodyHolds, HoldsTidyRule, InstrHolds, IsEntryThere, MethodHolds}

pub holds_one : (v : Abc) (r : Ref) (refs : List Ref) (b : Bool) → option_to_list (Some r) ≡ refs → (IsTrue b ↔ IsEntryThere v r) → IsTrue b ↔ All (IsEntryThere v) refs
holds_one v r refs b e h = (
  λ t. subst (All (IsEntryThere v)) e (All-from_recursion (IsEntryThere v) (r ∷ []) (h.0 t, tt)),
  λ all. h.1 ((recursion_from_All (IsEntryThere v) (r ∷ []) (subst (All (IsEntryThere v)) (sym e) all)).0),
)

pub holds_none : (v : Abc) (refs : List Ref) (b : Bool) → option_to_list {X = Ref} None ≡ refs → IsTrue b → IsTrue b ↔ All (IsEntryThere v) refs
holds_none v refs b e t = (λ u. subst (All (IsEntryThere v)) e (All-from_recursion (IsEntryThere v) [] tt), λ all. t)

-- ---- lists of lists

left : (P : Ref → Type 0) (xs ys : List Ref) → AllByRecursion P (xs ++ ys) → AllByRecursion P xs
left P [] ys h = tt
left P (x ∷ xs) ys h = (h.0, left P xs ys h.1)

right : (P : Ref → Type 0) (xs ys : List Ref) → AllByRecursion P (xs ++ ys) → AllByRecursion P ys
right P [] ys h = h
right P (x ∷ xs) ys h = right P xs ys h.1

each_holds : (v : Abc) (code : List Instr) → AllByRecursion (IsEntryThere v) (flat_map instr_refs code) → AllByRecursion (InstrHolds v) code
each_holds v [] h = tt
each_holds v (i ∷ code) h = (
  All-from_recursion (IsEntryThere v) (instr_refs i) (left (IsEntryThere v) (instr_refs i) (flat_map instr_refs code) h),
  each_holds v code (right (IsEntryThere v) (instr_refs i) (flat_map instr_refs code) h),
)

all_hold : (v : Abc) (code : List Instr) → AllByRecursion (InstrHolds v) code → All (IsEntryThere v) (flat_map instr_refs code)
all_hold v [] h = All-from_recursion (IsEntryThere v) [] tt
all_hold v (i ∷ code) h = All-append (IsEntryThere v) (instr_refs i) (flat_map instr_refs code) h.0 (all_hold v code h.1)

pub holds_all : (v : Abc) (code read : List Instr) (b : Bool) → read ≡ code → (IsTrue b ↔ All (InstrHolds v) read) → IsTrue b ↔ All (IsEntryThere v) (flat_map instr_refs code)
holds_all v code read b e h = (
  λ t. all_hold v code (recursion_from_All (InstrHolds v) code (subst (All (InstrHolds v)) e (h.0 t))),
  λ all. h.1 (subst (All (InstrHolds v)) (sym e) (All-from_recursion (InstrHolds v) code (each_holds v code (recursion_from_All (IsEntryThere v) (flat_map instr_refs code) all)))),
)

-- ---- of a file all of whose indices are there

-- what was made of one item stands among what was made of all
flat_part : {A : Type 0} (P : Ref → Type 0) (f : A → List Ref) (xs : List A) (i : ℕ) (x : A) → AllByRecursion P (flat_map f xs) → i < length xs → get_or xs i x ≡ x → AllByRecursion P (f x)
flat_part P f [] i x h lt at = absurd (none i lt)
  where
    none : (i : ℕ) → i < 0 → ⊥
    none i l = omega arith
flat_part P f (y ∷ xs) zero x h lt at = subst (λ z. AllByRecursion P (f z)) at (left P (f y) (flat_map f xs) h)
flat_part P f (y ∷ xs) (suc i) x h lt at = flat_part P f xs i x (right P (f y) (flat_map f xs) h) (omega arith) at

all_refs : (v : Abc) (refs : List Ref) → refs ≡ file_refs v → All (IsEntryThere v) refs → AllByRecursion (IsEntryThere v) (file_refs v)
all_refs v refs e h = recursion_from_All (IsEntryThere v) (file_refs v) (subst (All (IsEntryThere v)) e h)

body_part : (v : Abc) (b : Body) → AllByRecursion (IsEntryThere v) (body_refs b) → BodyHolds v b
body_part v b h =
    All-from_recursion (IsEntryThere v) (flat_map instr_refs b.code)
    (left (IsEntryThere v) (flat_map instr_refs b.code) (flat_map handler_refs b.handlers) (left (IsEntryThere v) (flat_map instr_refs b.code ++ flat_map handler_refs b.handlers) (flat_map trait_refs b.traits) h))

pub operands_hold : (v : Abc) (refs : List Ref) → refs ≡ file_refs v → All (IsEntryThere v) refs → HoldsTidyRule v rules.Operand
operands_hold v refs e h = λ i b.
    let rest = flat_map method_refs v.methods ++ flat_map metadata_refs v.metadata ++ flat_map instance_refs v.instances ++ flat_map class_refs v.classes ++ flat_map script_refs v.scripts in
    b.breaks (body_part v b.item (flat_part (IsEntryThere v) body_refs v.bodies i b.item (right (IsEntryThere v) rest (flat_map body_refs v.bodies) (all_refs v refs e h)) b.within b.at))

texts_there : (v : Abc) (names : List ℕ) → AllByRecursion (IsEntryThere v) (refs_of pools.Text names) → AllByRecursion (λ n. n ≤ length v.strings) names
texts_there v [] h = tt
texts_there v (n ∷ names) h = (h.0 refl, texts_there v names h.1)

method_part : (v : Abc) (m : Method) → AllByRecursion (IsEntryThere v) (method_refs m) → MethodHolds v m
method_part v m h =
    let before = (ref pools.Name m.ret ∷ []) ++ refs_of pools.Name m.params ++ (ref pools.Text m.name ∷ []) ++ flat_map option_refs m.options in
    All-from_recursion (λ n. n ≤ length v.strings) m.param_names (texts_there v m.param_names (right (IsEntryThere v) before (refs_of pools.Text m.param_names) h))

pub param_names_hold : (v : Abc) (refs : List Ref) → refs ≡ file_refs v → All (IsEntryThere v) refs → HoldsTidyRule v rules.ParamName
param_names_hold v refs e h = λ i b.
    let ms = flat_map method_refs v.methods in
    let to2 = ms ++ flat_map metadata_refs v.metadata in
    let to3 = to2 ++ flat_map instance_refs v.instances in
    let to4 = to3 ++ flat_map class_refs v.classes in
    let to5 = to4 ++ flat_map script_refs v.scripts in
    let first = left (IsEntryThere v) ms (flat_map metadata_refs v.metadata) (left (IsEntryThere v) to2 (flat_map instance_refs v.instances) (left (IsEntryThere v) to3 (flat_map class_refs v.classes) (left (IsEntryThere v) to4 (flat_map script_refs v.scripts) (left (IsEntryThere v) to5 (flat_map body_refs v.bodies) (all_refs v refs e h))))) in
    b.breaks (method_part v b.item (flat_part (IsEntryThere v) method_refs v.methods i b.item first b.within b.at))
