-- The runtime parts of a name whose form is tested are as many as its form says, and stand on the stack.
use Rattle.std.proofs.Common.{◌≡◌, ℕ, ◌+◌, ◌<◌, ◌≤◌, List, [], ◌∷◌, drop, length, take, true, false, refl, sym, ap, ◌∙◌, add-one, drop-cons, arith}
use Rattle.std.specs.Prelude.{None, Some}
use Rattle.std.specs.declared.option.Option.{Option}
use Rattle.abc_heap_values.specs.declared.values.Value.{Value}
use Rattle.abc_heap_values.specs.declared.values.Value.TheVariants.{Undefined}
use Rattle.abc_run_names.specs.Named.{name_parts_count, parts_for}
use Rattle.abc_frames.specs.Frame.{Frame}
use Rattle.abc_meaning.specs.Names.{form_of_name}
use Rattle.abc_run_state.specs.Operands.{operand_at}
use Rattle.abc_meaning.specs.Setting.{Setting}
use Rattle.abc_file_types.specs.declared.names.Multiname.{Multiname}
use Rattle.abc_file_types.specs.declared.names.Multiname.TheVariants as names
use Rattle.abc_verify_typing.specs.Effects.{runtime}
use Rattle.abc_verify_typing.specs.Rules.{is_static_name, is_plain_multiname}

pub counted : (p : Setting) (m : Option Multiname) → is_static_name m ≡ true → length (runtime m) ≡ name_parts_count (form_of_name p m)
counted p None e = refl
counted p (Some (names.QName false ns i)) e = refl
counted p (Some (names.QName true ns i)) e = refl
counted p (Some (names.Multi false i set)) e = refl
counted p (Some (names.Multi true i set)) e = refl
counted p (Some (names.Rt false i)) e = refl
counted p (Some (names.Rt true i)) e = absurd cc
counted p (Some (names.MultiL false set)) e = refl
counted p (Some (names.MultiL true set)) e = absurd cc
counted p (Some (names.RtL false)) e = refl
counted p (Some (names.RtL true)) e = absurd cc
counted p (Some (names.TypeName base params)) e = refl

first_at : (f : Frame) (k : ℕ) → k < length f.stack → take 1 (drop k f.stack) ≡ operand_at k f ∷ []
first_at f k b = ap (take 1) (drop-cons f.stack k Undefined b)

two_at : (f : Frame) (k : ℕ) → k + 1 < length f.stack → take 2 (drop k f.stack) ≡ operand_at k f ∷ operand_at (k + 1) f ∷ []
two_at f k b =
    let first : k < length f.stack = omega (arith, b) in
    ap (take 2) (drop-cons f.stack k Undefined first ∙ ap (λ (i : ℕ). operand_at k f ∷ drop i f.stack) (sym (add-one k)) ∙ ap (λ (vs : List Value). operand_at k f ∷ vs) (drop-cons f.stack (k + 1) Undefined b))

pub parts_at_place : (p : Setting) (m : Option Multiname) (k : ℕ) (f : Frame) → is_static_name m ≡ true → k + length (runtime m) ≤ length f.stack → take (length (runtime m)) (drop k f.stack) ≡ parts_for (form_of_name p m) k f
parts_at_place p None k f e b = refl
parts_at_place p (Some (names.QName false ns i)) k f e b = refl
parts_at_place p (Some (names.QName true ns i)) k f e b = refl
parts_at_place p (Some (names.Multi false i set)) k f e b = refl
parts_at_place p (Some (names.Multi true i set)) k f e b = refl
parts_at_place p (Some (names.Rt false i)) k f e b = first_at f k (omega (arith, b))
parts_at_place p (Some (names.Rt true i)) k f e b = absurd cc
parts_at_place p (Some (names.MultiL false set)) k f e b = first_at f k (omega (arith, b))
parts_at_place p (Some (names.MultiL true set)) k f e b = absurd cc
parts_at_place p (Some (names.RtL false)) k f e b = two_at f k (omega (arith, b))
parts_at_place p (Some (names.RtL true)) k f e b = absurd cc
parts_at_place p (Some (names.TypeName base params)) k f e b = refl

-- a name without runtime parts
pub plain_parts : (p : Setting) (m : Option Multiname) (k : ℕ) (f : Frame) → is_plain_multiname m ≡ true → parts_for (form_of_name p m) k f ≡ []
plain_parts p None k f e = refl
plain_parts p (Some (names.QName false ns i)) k f e = refl
plain_parts p (Some (names.QName true ns i)) k f e = refl
plain_parts p (Some (names.Multi false i set)) k f e = refl
plain_parts p (Some (names.Multi true i set)) k f e = refl
plain_parts p (Some (names.Rt a i)) k f e = absurd cc
plain_parts p (Some (names.MultiL a set)) k f e = absurd cc
plain_parts p (Some (names.RtL a)) k f e = absurd cc
plain_parts p (Some (names.TypeName base params)) k f e = absurd cc
