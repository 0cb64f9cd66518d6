-- Values that a row takes, found under so many others.
use Rattle.std.proofs.Common.{◌≡◌, ℕ, ◌+◌, ◌<◌, List, [], ◌∷◌, drop, length, refl, ap, ◌∙◌, arith}
use Rattle.std.specs.List.{flat_map}
use Rattle.std.proofs.lemmas.List.{get_or-drop, length-drop}
use Rattle.abc_heap_values.specs.declared.values.Value.{Value}
use Rattle.abc_heap_values.specs.declared.values.Value.TheVariants.{Undefined}
use Rattle.abc_meaning.specs.Tests.{name_values, values_of}
use Rattle.abc_run_values.proofs.Armed.{IsOwn, Takes, one_taken, two_taken}
use Rattle.abc_verify_typing.specs.Rows.{shape_with}
use Rattle.abc_verify_typing.specs.declared.row.Need.{Need}
use Rattle.abc_frames.specs.Frame.{Frame, after_drop}
use Rattle.abc_run_state.specs.Operands.{operand_at}
use Rattle.abc_file_types.specs.declared.code.Instr.TheVariants.{Plain}
use Rattle.abc_verify_typing.specs.Effects.{parts_of_need}

one_at : (need : Need) (f : Frame) (j : ℕ) → IsOwn need → Takes (shape_with (need ∷ []) []) (Plain 0) (after_drop j f) 1 (operand_at 0 (after_drop j f) ∷ [])
one_at need f j own = one_taken (shape_with (need ∷ []) []) (Plain 0) (after_drop j f) need refl refl own

two_at : (top under : Need) (f : Frame) (j : ℕ) → IsOwn top → IsOwn under → Takes (shape_with (top ∷ under ∷ []) []) (Plain 0) (after_drop j f) 2 (operand_at 0 (after_drop j f) ∷ operand_at 1 (after_drop j f) ∷ [])
two_at top under f j a b = two_taken (shape_with (top ∷ under ∷ []) []) (Plain 0) (after_drop j f) top under refl refl a b

operand_below : (f : Frame) (j k : ℕ) → operand_at k (after_drop j f) ≡ operand_at (j + k) f
operand_below f j k = get_or-drop j f.stack k Undefined

operand_first : (f : Frame) (j : ℕ) → operand_at 0 (after_drop j f) ≡ operand_at j f
operand_first f j = let e : j + 0 ≡ j = omega arith in operand_below f j 0 ∙ ap (λ (i : ℕ). operand_at i f) e

-- ---- one value

pub one_needed : (parts : List Need) (need : Need) (f : Frame) → IsOwn need → length (flat_map (parts_of_need parts) (need ∷ [])) ≡ 1
one_needed parts need f own = (one_at need f 0 own).needs parts

pub one_below : (need : Need) (f : Frame) (j k : ℕ) → IsOwn need → j < length f.stack → values_of (need ∷ []) k (drop j f.stack) ≡ operand_at j f ∷ []
one_below need f j k own b =
    let long = length-drop j f.stack in
    (one_at need f j own).values (omega (arith, b, long)) k ∙ ap (λ (v : Value). v ∷ []) (operand_first f j)

pub one_unnamed : (need : Need) (f : Frame) (j k : ℕ) → IsOwn need → j < length f.stack → name_values (need ∷ []) k (drop j f.stack) ≡ []
one_unnamed need f j k own b =
    let long = length-drop j f.stack in
    (one_at need f j own).parts (omega (arith, b, long)) k

-- ---- two values

pub two_needed : (parts : List Need) (top under : Need) (f : Frame) → IsOwn top → IsOwn under → length (flat_map (parts_of_need parts) (top ∷ under ∷ [])) ≡ 2
two_needed parts top under f a b = (two_at top under f 0 a b).needs parts

pub two_below : (top under : Need) (f : Frame) (j k : ℕ) → IsOwn top → IsOwn under → j + 1 < length f.stack → values_of (top ∷ under ∷ []) k (drop j f.stack) ≡ operand_at j f ∷ operand_at (j + 1) f ∷ []
two_below top under f j k a b h =
    let long = length-drop j f.stack in
    (two_at top under f j a b).values (omega (arith, h, long)) k
    ∙ ap (λ (v : Value). v ∷ operand_at 1 (after_drop j f) ∷ []) (operand_first f j)
    ∙ ap (λ (v : Value). operand_at j f ∷ v ∷ []) (operand_below f j 1)

pub two_unnamed : (top under : Need) (f : Frame) (j k : ℕ) → IsOwn top → IsOwn under → j + 1 < length f.stack → name_values (top ∷ under ∷ []) k (drop j f.stack) ≡ []
two_unnamed top under f j k a b h =
    let long = length-drop j f.stack in
    (two_at top under f j a b).parts (omega (arith, h, long)) k
