-- Some bytes spell the code of each body.
use Rattle.std.proofs.Common.{◌≡◌, ℕ, zero, suc, ◌+◌, ◌*◌, ◌%◌, ◌^◌, ◌≤◌, ◌<◌, Bool, true, false, if◌then◌else◌, nat_eq, Some, pos, List, [], ◌∷◌, ◌++◌, length, refl, arith}
use Rattle.std.specs.Int.{cast_unsigned, w16}
use Rattle.std.proofs.lemmas.Int.{ints}
use Rattle.std.proofs.lemmas.List.{length-append}
use Rattle.std.specs.List.{flat_map, range_with_len}
use Rattle.abc_file_types.specs.declared.code.Instr.{Instr}
use Rattle.abc_file_types.specs.declared.opcodes.Form.TheVariants as forms
use Rattle.abc_file_types.specs.CodeBytes.{code_len}
use Rattle.abc_file_types.specs.Opcodes.{form_at, info_at}
use Rattle.abc_file_types.specs.Ready.{AllCanSpell, IsReady}
use Rattle.abc_file_types.proofs.Lengths.{number_most}
use Rattle.abc_cli_answers.specs.Codes.{call_code, callpropvoid, drawn_code, findpropstrict, first_code, getlocal_0, getlocal_1, drawn_operation, pushbyte, pushscope, loop_code, returnvoid, setlocal_1}
use Rattle.abc_cli_answers.specs.Draws.{draws_after, drawn_number}

-- ---- code in parts

pub can_append : (n : ℕ) (xs ys : List Instr) → AllCanSpell n xs → AllCanSpell n ys → AllCanSpell n (xs ++ ys)
can_append n [] ys h k = k
can_append n (x ∷ xs) ys h k = (h.0, can_append n xs ys h.1 k)

pub len_append : (xs ys : List Instr) → code_len (xs ++ ys) ≡ code_len xs + code_len ys
len_append [] ys = omega arith
len_append (x ∷ xs) ys = omega (arith, len_append xs ys)

-- ---- the calls

pub calls_spell : (n a k : ℕ) → a + k < 2 ^ 29 → AllCanSpell n (flat_map call_code (range_with_len a k))
unfolding form_at info_at
calls_spell n a zero few = tt
calls_spell n a (suc k) few = (refl, (refl, ((refl, omega arith, omega arith), (refl, (refl, calls_spell n (a + 1) k (omega arith))))))

pub calls_length : (a k : ℕ) → length (flat_map call_code (range_with_len a k)) ≡ 5 * k
calls_length a zero = refl
calls_length a (suc k) = omega (arith, length-append (call_code a) (flat_map call_code (range_with_len (a + 1) k)), calls_length (a + 1) k)

pub calls_len : (a k : ℕ) → code_len (flat_map call_code (range_with_len a k)) ≤ 15 * k
calls_len a zero = omega arith
calls_len a (suc k) =
    omega (arith, len_append (call_code a) (flat_map call_code (range_with_len (a + 1) k)), number_most (a + 2), number_most 1, calls_len (a + 1) k)

-- ---- the first code

abbrev begins : List Instr
begins = getlocal_0 ∷ pushscope ∷ pushbyte (pos 1) ∷ setlocal_1 ∷ []

abbrev ends : List Instr
ends = findpropstrict 1 ∷ getlocal_1 ∷ callpropvoid 1 1 ∷ returnvoid ∷ []

abbrev calls : ℕ → List Instr
calls m = flat_map call_code (range_with_len 1 m)

begins_spell : (n : ℕ) → AllCanSpell n begins
unfolding form_at info_at
begins_spell n = (refl, (refl, ((omega (arith, ints), omega (arith, ints)), (refl, tt))))

ends_spell : (n : ℕ) → AllCanSpell n ends
unfolding form_at info_at
ends_spell n = ((refl, omega arith), (refl, ((refl, omega arith, omega arith), (refl, tt))))

pub first_len : (m : ℕ) → code_len (first_code m) ≤ 15 * m + 40
first_len m =
    omega (arith, len_append begins (calls m ++ ends), len_append (calls m) ends, calls_len 1 m, number_most 1)

pub first_ready : (m : ℕ) → m ≤ 10000 → IsReady (first_code m)
first_ready m few =
    let n = length (first_code m) in
    record {
      can = can_append n begins (calls m ++ ends) (begins_spell n) (can_append n (calls m) ends (calls_spell n 1 m (omega arith)) (ends_spell n));
      short = omega (arith, first_len m);
    }

-- ---- the codes that are drawn

operation_form : (n : ℕ) → form_at (drawn_operation n) ≡ Some forms.Plain
unfolding form_at info_at
operation_form n = chosen (nat_eq n 0) (nat_eq n 1) (nat_eq n 2) where
  chosen : (a b c : Bool) → form_at (if a then 0xc5 else if b then 0xc6 else if c then 0xc7 else 0xaa) ≡ Some forms.Plain
  chosen true b c = refl
  chosen false true c = refl
  chosen false false true = refl
  chosen false false false = refl

repeated_spells : (rounds operand op : ℕ) → rounds < 128 → operand < 32768 → form_at op ≡ Some forms.Plain → AllCanSpell 16 (loop_code (pos rounds) (pos operand) op)
unfolding form_at info_at
repeated_spells rounds operand op few small plain =
    (refl, (refl, (refl, ((omega (arith, ints), omega (arith, ints, few)), (refl, (refl, (refl, ((omega (arith, ints), omega (arith, ints, small)), (plain, (refl, ((refl, omega arith), (refl, ((omega (arith, ints), omega (arith, ints)), ((refl, omega arith), (refl, (refl, tt))))))))))))))))

pub drawn_len : (x : ℕ) → code_len (drawn_code x) ≤ 60
drawn_len x = omega (arith, number_most 1, number_most (cast_unsigned w16 (pos (drawn_number (draws_after x 2) % 32768))))

pub drawn_ready : (x : ℕ) → IsReady (drawn_code x)
drawn_ready x =
    record {
      can = repeated_spells _ _ _ (omega arith) (omega arith) (operation_form (drawn_number (draws_after x 3) % 4));
      short = omega (arith, drawn_len x);
    }
