-- Exceptions as they are passed on: each place is read as where its instruction is moved to.
use Rattle.std.specs.Prelude.{ℕ, ◌++◌, List, is_some, unwrap_or}
use Rattle.std.specs.declared.option.Option.{Option}
use Rattle.abc_base.specs.Numbers.{number_bytes}
use Rattle.abc_file_types.specs.declared.reason.Reason.TheVariants as reasons
use Rattle.abc_file_types.specs.Part.{Part, both, with_test, image}
use Rattle.abc_file_types.specs.Numbers.{pool_index, u30}
use Rattle.abc_file_types.specs.declared.code.Handler.{Handler}
use Rattle.abc_file_types.specs.declared.tables.Sizes.{Sizes}

-- the start of an instruction, or the end, as where these marks say that it is moved to
unfoldable pub moved_place : (ℕ → Option ℕ) → Part ℕ
moved_place marks = image (λ x. unwrap_or (marks x) 0) (with_test (λ x. is_some (marks x)) reasons.HandlerRange u30)

-- three such places, a type and a name
unfoldable pub moved_handler : Sizes → (ℕ → Option ℕ) → Part Handler
moved_handler v marks =
    image (λ x. record { from = x.0; to = x.1.0; target = x.1.1.0; exc_type = x.1.1.1.0; var_name = x.1.1.1.1 })
    (both (moved_place marks) (both (moved_place marks) (both (moved_place marks) (both (pool_index v.names) (pool_index v.names)))))

-- the bytes of a handler whose three places were moved: they count bytes already, and are written as they are
unfoldable pub moved_bytes : Handler → List ℕ
moved_bytes h = number_bytes h.from ++ number_bytes h.to ++ number_bytes h.target ++ number_bytes h.exc_type ++ number_bytes h.var_name
