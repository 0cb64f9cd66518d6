-- The options of a method, each at the place of its parameter.
use Rattle.std.proofs.Common.{◌≡◌, ℕ, zero, suc, ◌+◌, ◌-◌, ◌<◌, ◌≤◌, List, [], ◌∷◌, ◌++◌, true, nat_le, length, drop, map, refl, ap, ◌∙◌, arith, zero-add}
use Rattle.std.specs.Prelude.{None, Some, Ok, Err, IfOk, replicate, slice_get}
use Rattle.std.specs.declared.result.Result.{Result}
use Rattle.abc_heap_store.specs.Heap.{Heap}
use Rattle.abc_objects.specs.Stands.{StandsOver}
use Rattle.abc_objects.specs.Values.{Exists}
use Rattle.abc_link_names.specs.Linked.{LinkedFile}
use Rattle.abc_run_state.specs.Outer.{Outer, setting_in}
use Rattle.abc_run_state.specs.Stops.{part_outcome}
use Rattle.abc_run_state.specs.declared.state.Stop.{Stop}
use Rattle.abc_meaning.specs.Entering.{gives_option, or_double}
use Rattle.abc_meaning.specs.World.{Went, World}
use Rattle.abc_run_calls.specs.Arguments.{IsOptionOf, first_or_option}
use Rattle.std.specs.declared.option.Option.{Option}
use Rattle.std.proofs.lemmas.Bool.{leb-true}
use Rattle.abc_heap_values.specs.declared.values.Value.{Value}
use Rattle.abc_file_types.specs.declared.methods.Method.{Method}
use Rattle.abc_file_types.specs.declared.methods.OptionValue.{OptionValue}
use Rattle.abc_verify_typing.proofs.Member.{and_left}
use Rattle.abc_meaning.specs.Setting.{Setting, may_take_arguments, options_of, value_of_option}

-- how many parameters have none
abbrev pub unoffered : Method → ℕ
unoffered m = length m.params - length m.options

dropped_at : {X : Type 0} (xs : List X) (k : ℕ) (x : X) → slice_get xs k ≡ Some x → drop k xs ≡ x ∷ drop (suc k) xs
dropped_at [] k x e = cc
dropped_at (y ∷ ys) zero x e = let same : y ≡ x = cc in ap (λ z. z ∷ ys) same
dropped_at (y ∷ ys) (suc k) x e = dropped_at ys k x e

offered : (os : List OptionValue) (j : ℕ) (o : OptionValue) → slice_get os j ≡ Some o → slice_get (map Some os) j ≡ Some (Some o)
offered [] j o e = cc
offered (x ∷ xs) zero o e = ap Some e
offered (x ∷ xs) (suc j) o e = offered xs j o e

behind : (n i j : ℕ) (os : List OptionValue) (o : OptionValue) → i ≡ n + j → slice_get os j ≡ Some o → slice_get (replicate n None ++ map Some os) i ≡ Some (Some o)
behind zero i j os o e h = ap (λ k. slice_get (map Some os) k) (e ∙ zero-add j) ∙ offered os j o h
behind (suc n) zero j os o e h = absurd (omega (arith, e))
behind (suc n) (suc i) j os o e h = behind n i j os o (omega (arith, e)) h

-- that of parameter k
pub option_first : (m : Method) (k : ℕ) (o : OptionValue) → unoffered m ≤ k → slice_get m.options (k - unoffered m) ≡ Some o → drop k (options_of m) ≡ Some o ∷ drop (suc k) (options_of m)
option_first m k o le h = dropped_at (options_of m) k (Some o) (behind (unoffered m) k (k - unoffered m) m.options o (omega arith) h)

-- those that are missing have options
pub enough_given : (m : Method) (n : ℕ) → may_take_arguments m n ≡ true → unoffered m ≤ n
enough_given m n e = leb-true (unoffered m) n (and_left (nat_le (unoffered m) n) _ e)

pub option_within : (m : Method) (n k : ℕ) → may_take_arguments m n ≡ true → n ≤ k → k < length m.params → k - unoffered m < length m.options
option_within m n k e le lt = let a = enough_given m n e in omega arith

-- ---- what is given first

-- an argument
pub argument_first : (p : Setting) (os : List (Option OptionValue)) (v : Value) (vs : List Value) (w : World) → first_or_option p os (v ∷ vs) w ≡ Went w v
argument_first p [] v vs w = refl
argument_first p (o ∷ os) v vs w = refl

-- or the value of an option, which exists
pub option_exists : (l : LinkedFile) (h : Heap) (o : OptionValue) (r : Result Value Stop) → IsOptionOf l o → StandsOver l h → ((out : Outer) (w : World) → gives_option (setting_in l out) (Some o) w ≡ part_outcome r w) → IfOk r (Exists l h)
option_exists l h o (Err e) i s gives = tt
option_exists l h o (Ok v) i s gives = i.there [] h v s (go (value_of_option (record { linked = l; formulas = [] }) o) (gives (record { formulas = []; wrote = [] }) none))
  where
    none : World
    none = record { heap = h; started = []; wrote = [] }

    go : (x : Option Value) → or_double x none ≡ Went none v → x ≡ Some v
    go None e = absurd cc
    go (Some y) e = let same : y ≡ v = cc in ap Some same
