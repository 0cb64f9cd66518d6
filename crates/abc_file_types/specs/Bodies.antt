-- Method bodies: their sizes, code, exceptions and traits (Overview, chapter 4, "Method body" and "Exception"; profile: docs/FORMAT.md).
use Rattle.std.specs.Prelude.{ℕ, ◌≤◌, List, [], ◌++◌, All, length, map, not, nat_eq, get_or}
use Rattle.std.specs.List.{list_any}
use Rattle.abc_base.specs.Numbers.{number_bytes}
use Rattle.abc_file_types.specs.declared.reason.Reason.TheVariants as reasons
use Rattle.abc_file_types.specs.Part.{Part, then_by, both, image, with_test}
use Rattle.abc_file_types.specs.Numbers.{u30, index_below, pool_index}
use Rattle.abc_file_types.specs.Lists.{count_and_items, chain}
use Rattle.abc_file_types.specs.Canonical.{counted_bytes}
use Rattle.abc_file_types.specs.declared.code.Body.{Body}
use Rattle.abc_file_types.specs.declared.code.Handler.{Handler}
use Rattle.abc_file_types.specs.declared.instructions.Code.{Code}
use Rattle.abc_file_types.specs.declared.tables.Abc.{Abc}
use Rattle.abc_file_types.specs.declared.tables.Sizes.{Sizes}
use Rattle.abc_file_types.specs.declared.traits.TraitInfo.{TraitInfo}
use Rattle.abc_file_types.specs.Classes.{sizes_of}
use Rattle.abc_file_types.specs.Code.{code}
use Rattle.abc_file_types.specs.CodeBytes.{canonical_starts, code_bytes}
use Rattle.abc_file_types.specs.Places.{instruction_place}
use Rattle.abc_file_types.specs.Ready.{IsReady}
use Rattle.abc_file_types.specs.Traits.{trait_info, trait_bytes}

-- the fields in their order
abbrev pub handler_in : ℕ × (ℕ × (ℕ × (ℕ × ℕ))) → Handler
handler_in (from, (to, (target, (exc_type, var_name)))) = record { from = from; to = to; target = target; exc_type = exc_type; var_name = var_name }

-- three places in code whose instructions start so, a type and a name
unfoldable pub handler : Sizes → List ℕ → Part Handler
handler v starts =
    image handler_in
    (both (instruction_place starts) (both (instruction_place starts) (both (instruction_place starts) (both (pool_index v.names) (pool_index v.names)))))

-- the canonical bytes of a handler, in code whose instructions start so
unfoldable pub handler_bytes : List ℕ → Handler → List ℕ
handler_bytes starts h =
    number_bytes (get_or starts h.from 0) ++ number_bytes (get_or starts h.to 0) ++ number_bytes (get_or starts h.target 0) ++ number_bytes h.exc_type
    ++ number_bytes h.var_name

-- a method that none of these bodies have
unfoldable pub body_method : Sizes → List ℕ → Part ℕ
body_method v taken = with_test (λ m. not (list_any (nat_eq m) taken)) reasons.SecondBody (index_below v.methods)

-- the fields in their order, and beside the body where its instructions started
abbrev pub body_in : ℕ × (ℕ × (ℕ × (ℕ × (ℕ × (Code × (List Handler × List TraitInfo)))))) → Body × List ℕ
body_in (method, (max_stack, (local_count, (init_scope, (max_scope, (code, (handlers, traits))))))) = (
  record {
    method = method;
    max_stack = max_stack;
    local_count = local_count;
    init_scope = init_scope;
    max_scope = max_scope;
    code = code.instrs;
    handlers = handlers;
    traits = traits;
  },
  code.offsets,
)

-- a body whose code and method are spelled so, with the starts of its instructions as they were read
abbrev pub body_of_parts : Part Code → Sizes → Part ℕ → Part (Body × List ℕ)
body_of_parts code v method =
    image body_in
    (both method (both u30 (both u30 (both u30 (both u30 (then_by code (λ c.
    both (count_and_items (handler v c.offsets)) (count_and_items (trait_info v)))))))))

unfoldable pub body_with : Sizes → Part ℕ → Part (Body × List ℕ)
body_with = body_of_parts code

-- a body, where these methods have one already
unfoldable pub body : Sizes → List ℕ → Part (Body × List ℕ)
body v taken = body_with v (body_method v taken)

-- the canonical bytes of a body
unfoldable pub body_bytes : Body → List ℕ
body_bytes b =
    number_bytes b.method ++ number_bytes b.max_stack ++ number_bytes b.local_count ++ number_bytes b.init_scope ++ number_bytes b.max_scope
    ++ code_bytes b.code ++ counted_bytes (handler_bytes (canonical_starts b.code)) b.handlers ++ counted_bytes trait_bytes b.traits

abbrev pub methods_of : List (Body × List ℕ) → List ℕ
methods_of read = map (λ x. x.0.method) read

-- a count and that many bodies, each of another method
abbrev pub body_list_of : (List ℕ → Part (Body × List ℕ)) → Part (List (Body × List ℕ))
body_list_of body = image (λ x. x.1) (then_by u30 (λ n. chain n (λ before. body (methods_of before)) []))

-- a count and that many bodies, each of another method, and each with the starts of its instructions as they were read
unfoldable pub body_list : Sizes → Part (List (Body × List ℕ))
body_list v = body_list_of (body v)

-- the bodies beside the rest of a value, and the starts of each body's instructions
abbrev pub bodies_of : Part (List (Body × List ℕ)) → Abc → Part (Abc × List (List ℕ))
bodies_of list abc = image (λ xs. (record abc { bodies = map (λ x. x.0) xs }, map (λ x. x.1) xs)) list

-- the value with its bodies, and the starts of each body's instructions as they were read; the rest of the value is given
unfoldable pub bodies : Abc → Part (Abc × List (List ℕ))
bodies abc = bodies_of (body_list (sizes_of abc)) abc

-- the canonical bytes of all bodies: their count, and those of each
unfoldable pub bodies_bytes : Abc → List ℕ
bodies_bytes v = counted_bytes body_bytes v.bodies

-- the bodies beside the rest of a value, without what is known only of bytes as they were read
unfoldable pub bodies_alone : Abc → Part Abc
bodies_alone abc = image (λ x. x.0) (bodies abc)

-- ---- which bodies some bytes spell

-- The places are numbers of the n instructions or of the end.
pub record IsHandlerWithin (n : ℕ) (h : Handler) : Type 0 where
  pub from : h.from ≤ n
  pub to : h.to ≤ n
  pub target : h.target ≤ n

-- Some bytes spell the code, and its exceptions name places in it.
pub record IsReadyBody (b : Body) : Type 0 where
  pub code : IsReady b.code
  pub places : All (IsHandlerWithin (length b.code)) b.handlers
