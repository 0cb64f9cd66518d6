-- The arguments of a method among the operands of a frame.
use Rattle.std.proofs.Common.{◌≡◌, ℕ, suc, ◌+◌, ◌-◌, ◌<◌, ◌≤◌, List, [], ◌∷◌, ◌++◌, inl, inr, length, take, drop, get_or, Bool, true, if◌then◌else◌, sym, ap, ◌∙◌, arith}
use Rattle.std.specs.Prelude.{reverse}
use Rattle.std.proofs.Math.Seq.{drop-cons, take-add}
use Rattle.std.proofs.lemmas.Bool.{cases_lt}
use Rattle.std.proofs.lemmas.List.{drop_all, drop_at, get_or-reverse, get_or-take, length-drop, length-reverse, length-take-le, reverse-append}
use Rattle.abc_heap_values.specs.declared.values.Value.{Value}
use Rattle.abc_heap_values.specs.declared.values.Value.TheVariants.{Undefined}
use Rattle.abc_frames.specs.Frame.{Frame, arguments}
use Rattle.abc_run_state.specs.Operands.{operand_at}
use Rattle.abc_file_types.specs.Methods.{has_flag}
use Rattle.abc_file_types.specs.declared.methods.Method.{Method}
use Rattle.abc_meaning.specs.Entering.{array_of, extra}
use Rattle.abc_meaning.specs.Setting.{Setting}
use Rattle.abc_meaning.specs.World.{World, pure}

pub count_given : (f : Frame) (n : ℕ) → n ≤ length f.stack → length (arguments n f) ≡ n
count_given f n h = length-reverse (take n f.stack) ∙ length-take-le n f.stack h

-- behind the last there is none
pub none_given : (f : Frame) (n k : ℕ) → n ≤ k → n ≤ length f.stack → drop k (arguments n f) ≡ []
none_given f n k a h = let e = count_given f n h in drop_all k (arguments n f) (omega (arith, e))

-- the k-th stands under those that were pushed later
pub given_at : (f : Frame) (n k : ℕ) → k < n → n ≤ length f.stack → drop k (arguments n f) ≡ operand_at (n - 1 - k) f ∷ drop (suc k) (arguments n f)
given_at f n k a h =
    let e = count_given f n h in
    let t : length (take n f.stack) ≡ n = length-take-le n f.stack h in
    let at : get_or (arguments n f) k Undefined ≡ operand_at (n - 1 - k) f =
    get_or-reverse (take n f.stack) k Undefined (omega (arith, t)) ∙ ap (λ m. get_or (take n f.stack) (m - 1 - k) Undefined) t ∙ get_or-take n f.stack (n - 1 - k) Undefined (omega arith) in
    drop-cons (arguments n f) k Undefined (omega (arith, e)) ∙ ap (λ (v : Value). v ∷ drop (suc k) (arguments n f)) at

-- those behind the first k are the last ones
pub dropped_given : (f : Frame) (n k : ℕ) → n ≤ length f.stack → drop k (arguments n f) ≡ arguments (n - k) f
dropped_given f n k h = elim (cases_lt n k) [ inl lt ↦ past lt | inr le ↦ within le ]
  where
    past : n < k → drop k (arguments n f) ≡ arguments (n - k) f
    past lt = let none : n - k ≡ 0 = omega arith in none_given f n k (omega arith) h ∙ sym (ap (λ m. arguments m f) none)

    within : k ≤ n → drop k (arguments n f) ≡ arguments (n - k) f
    within le =
        let j = n - k in
        let s = f.stack in
        let sum : n ≡ j + k = omega arith in
        let split : take n s ≡ take j s ++ take k (drop j s) = ap (λ m. take m s) sum ∙ take-add j k s in
        let turned : arguments n f ≡ reverse (take k (drop j s)) ++ reverse (take j s) = ap (λ (vs : List Value). reverse vs) split ∙ reverse-append (take j s) (take k (drop j s)) in
        let left = length-drop j s in
        let many : length (reverse (take k (drop j s))) ≡ k = length-reverse (take k (drop j s)) ∙ length-take-le k (drop j s) (omega (arith, left)) in
        ap (λ (vs : List Value). drop k vs) turned ∙ drop_at (reverse (take k (drop j s))) (reverse (take j s)) k many

-- ---- the array of the arguments behind the parameters

pub rest_is : (p : Setting) (m : Method) (f : Frame) (count more : ℕ) (w : World) → has_flag m.flags 0x04 ≡ true → count ≤ length f.stack → more ≡ count - length m.params → extra p m (arguments count f) w ≡ array_of p (arguments more f) w
rest_is p m f count more w e le is =
    ap (λ (b : Bool). (if b then array_of p (drop (length m.params) (arguments count f)) else (if has_flag m.flags 0x01 then array_of p (arguments count f) else pure [])) w) e
    ∙ ap (λ (vs : List Value). array_of p vs w) (dropped_given f count (length m.params) le ∙ ap (λ n. arguments n f) (sym is))
