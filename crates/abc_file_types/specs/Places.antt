-- Places in code that other parts name, as exceptions do (Overview, chapter 4, "Exception"; profile: docs/FORMAT.md, "Method bodies").
use Rattle.std.specs.Prelude.{ℕ, is_some, unwrap_or, nat_eq, List}
use Rattle.std.specs.List.{position}
use Rattle.abc_file_types.specs.declared.reason.Reason.TheVariants as reasons
use Rattle.abc_file_types.specs.Part.{Part, image, with_test}
use Rattle.abc_file_types.specs.Numbers.{u30}

-- the start of an instruction, or the end, as its number
unfoldable pub instruction_place : List ℕ → Part ℕ
instruction_place ss = image (λ x. unwrap_or (position (λ s. nat_eq s x) ss) 0) (with_test (λ x. is_some (position (λ s. nat_eq s x) ss)) reasons.HandlerRange u30)
