-- Bodies as they are read: methods that have one are told by flags.
use Rattle.std.specs.Prelude.{◌≡◌, ◌<◌, ℕ, ◌++◌, Bool, true, not, unwrap_or, slice_get, get_or, List, length, map, nat_eq, Ok, Err}
use Rattle.std.specs.List.{list_any}
use Rattle.std.specs.declared.result.Result.{Result}
use Rattle.abc_file_types.specs.declared.reason.Reason.TheVariants as reasons
use Rattle.abc_file_types.specs.Part.{Part, both, with_test, then_by}
use Rattle.abc_file_types.specs.Canonical.{counted_bytes}
use Rattle.abc_file_types.specs.Lists.{count_and_items}
use Rattle.abc_file_types.specs.Numbers.{index_below}
use Rattle.abc_file_types.specs.declared.code.Body.{Body}
use Rattle.abc_file_types.specs.declared.tables.Abc.{Abc}
use Rattle.abc_file_types.specs.declared.tables.Sizes.{Sizes}
use Rattle.abc_file_types.specs.declared.code.Handler.{Handler}
use Rattle.abc_file_types.specs.declared.instructions.Code.{Code}
use Rattle.abc_file_types.specs.declared.traits.TraitInfo.{TraitInfo}
use Rattle.abc_file_types.specs.Bodies.{body_with, handler, handler_bytes}
use Rattle.abc_file_types.specs.Code.{code}
use Rattle.abc_file_types.specs.CodeBytes.{canonical_starts, code_bytes}
use Rattle.abc_file_types.specs.Traits.{trait_bytes, trait_info}

-- the flag of the method is down
abbrev pub is_flag_down : List Bool → ℕ → Bool
is_flag_down flags m = not (unwrap_or (slice_get flags m) true)

-- the index of a method that has no body yet: its flag is down
unfoldable pub free_method : Sizes → List Bool → Part ℕ
free_method v flags = with_test (is_flag_down flags) reasons.SecondBody (index_below v.methods)

-- a body of such a method, with the starts of its instructions as they were read
unfoldable pub free_body : Sizes → List Bool → Part (Body × List ℕ)
free_body v flags = body_with v (free_method v flags)

-- the flag of each method is up where the method is one of these
pub record IsFlagged (flags : List Bool) (taken : List ℕ) : Type 0 where
  pub each : (m : ℕ) → m < length flags → get_or flags m true ≡ list_any (nat_eq m) taken

-- the bodies, and what is kept of the starts of each body's instructions
abbrev pub halves : {K : Type 0} → (List (List ℕ) → K) → List (Body × List ℕ) → List Body × K
halves of_places xs = (map (λ x. x.0) xs, of_places (map (λ x. x.1) xs))

-- the value, and what is kept of those starts
abbrev pub keeping : {A K : Type 0} → (List (List ℕ) → K) → A × List (List ℕ) → A × K
keeping of_places x = (x.0, of_places x.1)

-- the result of a reader that gives a body, and leaves the starts of its instructions in its reading
abbrev pub body_with_starts : {E : Type 0} → Result Body E → List ℕ → Result (Body × List ℕ) E
body_with_starts (Ok body) starts = Ok (body, starts)
body_with_starts (Err e) starts = Err e

-- the result of a reader that leaves the bodies in place, and gives what is kept of the starts of their instructions
abbrev pub with_places : {K E : Type 0} → Result K E → Abc → Result (Abc × K) E
with_places (Ok kept) abc = Ok (abc, kept)
with_places (Err e) abc = Err e

-- what follows the sizes of a body: code, exceptions and traits
unfoldable pub part_behind_sizes : Sizes → Part (Code × (List Handler × List TraitInfo))
part_behind_sizes v = then_by code (λ c. both (count_and_items (handler v c.offsets)) (count_and_items (trait_info v)))

unfoldable pub rest_bytes : Code × (List Handler × List TraitInfo) → List ℕ
rest_bytes x = code_bytes x.0.instrs ++ (counted_bytes (handler_bytes (canonical_starts x.0.instrs)) x.1.0 ++ counted_bytes trait_bytes x.1.1)
