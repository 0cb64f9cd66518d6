-- The canonical bytes of the generated file are few.
use Rattle.std.proofs.Common.{◌≡◌, ℕ, ◌+◌, ◌-◌, ◌*◌, ◌^◌, ◌≤◌, ◌<◌, List, [], ◌∷◌, codes, decimal, length, map, sym, subst, arith}
use Rattle.std.specs.Prelude.{All}
use Rattle.std.specs.List.{sum_by}
use Rattle.std.proofs.lemmas.Fmt.{length-decimal-le}
use Rattle.std.proofs.lemmas.List.{length-append}
use Rattle.std.proofs.lemmas.List.Elements.{All-cons}
use Rattle.std.proofs.lemmas.List.FromFn.{get_or-map-range_with_len, length-map-range_with_len}
use Rattle.std.proofs.lemmas.List.Sums.{sum_by-cons, sum_by-le}
use Rattle.abc_file_types.specs.Canonical.{pool_count}
use Rattle.abc_file_types.specs.declared.code.Body.{Body}
use Rattle.abc_file_types.specs.declared.methods.Method.{Method}
use Rattle.abc_file_types.specs.declared.names.Multiname.{Multiname}
use Rattle.abc_file_types.specs.declared.traits.TraitInfo.{TraitInfo}
use Rattle.abc_file_types.specs.CodeBytes.{code_len}
use Rattle.abc_file_types.proofs.Lengths.{number_most}
use Rattle.abc_tables.specs.Lengths.{body_len, definitions_len, file_len, method_len, multiname_len, pools_len, script_len, text_len, trait_len}
use Rattle.abc_cli_answers.specs.Codes.{drawn_code, first_code}
use Rattle.abc_cli_answers.specs.Draws.{draws_after}
use Rattle.abc_cli_answers.specs.Generated.{first_body, function_body, function_name, function_signature, function_trait, generated_file, one_to, public_name, generated_script, signature, generated_texts}
use Rattle.abc_cli_answers.proofs.Ready.{drawn_len, first_len}

-- what holds of what is made of each number holds of the list
pub all_made : {A : Type 0} (P : A → Type 0) (f : ℕ → A) (n : ℕ) → ((i : ℕ) → 0 < i → i ≤ n → P (f i)) → All P (map f (one_to n))
all_made P f n h k d lt =
    let within : k < n = omega (arith, lt, length-map-range_with_len f 1 n) in
    subst P (sym (get_or-map-range_with_len f 1 n k (k + 1) d within (omega arith))) (h (k + 1) (omega arith) (omega arith))

pub made_length : {A : Type 0} (f : ℕ → A) (n : ℕ) → length (map f (one_to n)) ≡ n
made_length f n = length-map-range_with_len f 1 n

pub name_length : (i : ℕ) → i ≤ 10000 → length (function_name i) ≤ 6
name_length i few = omega (arith, length-append (codes "f") (decimal i), length-decimal-le 5 i (omega arith) (omega arith) (omega arith))

sum_below : {A : Type 0} (f : A → ℕ) (most n : ℕ) (xs : List A) → length xs ≡ n → All (λ x. f x ≤ most) xs → sum_by f xs ≤ n * most
sum_below f most n xs e all = subst (λ k. sum_by f xs ≤ k * most) e (sum_by-le f most xs all)

text_short : (b : List ℕ) → length b ≤ 6 → text_len b ≤ 11
text_short b few = omega (arith, number_most (length b), few)

texts_short : (m : ℕ) → m ≤ 10000 → sum_by text_len (generated_texts m) ≤ (m + 2) * 11
texts_short m few =
    let short : List ℕ → Type 0 = λ b. text_len b ≤ 11 in
    sum_below text_len 11 (m + 2) (generated_texts m) (omega (arith, made_length function_name m))
    (All-cons short (codes "trace") (codes "int" ∷ map function_name (one_to m)) (text_short (codes "trace") (omega arith))
    (All-cons short (codes "int") (map function_name (one_to m)) (text_short (codes "int") (omega arith))
    (all_made short function_name m (λ i low high. text_short (function_name i) (name_length i (omega arith))))))

names_short : (m : ℕ) → sum_by multiname_len (map public_name (one_to (m + 2))) ≤ (m + 2) * 11
names_short m =
    sum_below multiname_len 11 (m + 2) (map public_name (one_to (m + 2))) (made_length public_name (m + 2))
    (all_made (λ (x : Multiname). multiname_len x ≤ 11) public_name (m + 2) (λ i low high. omega (arith, number_most 1, number_most i)))

pub pools_short : (m seed : ℕ) → m ≤ 10000 → pools_len (generated_file seed m) ≤ (m + 2) * 22 + 60
unfolding pools_len
pools_short m seed few =
    omega (arith, texts_short m few, names_short m, number_most 0, number_most (pool_count (generated_texts m)), number_most (pool_count (map public_name (one_to (m + 2)))), number_most 2)

methods_short : (m : ℕ) → sum_by method_len (signature 0 [] ∷ map function_signature (one_to m)) ≤ (m + 1) * 21
unfolding method_len
methods_short m =
    let short : Method → Type 0 = λ x. method_len x ≤ 21 in
    sum_below method_len 21 (m + 1) (signature 0 [] ∷ map function_signature (one_to m)) (omega (arith, made_length function_signature m))
    (All-cons short (signature 0 []) (map function_signature (one_to m)) (omega (arith, number_most 0))
    (all_made short function_signature m (λ i low high. omega (arith, number_most 0, number_most 1, number_most 2))))

traits_short : (m : ℕ) → sum_by trait_len (map function_trait (one_to m)) ≤ m * 16
unfolding trait_len
traits_short m =
    sum_below trait_len 16 m (map function_trait (one_to m)) (made_length function_trait m)
    (all_made (λ (x : TraitInfo). trait_len x ≤ 16) function_trait m (λ i low high. omega (arith, number_most (i + 2), number_most 0, number_most i)))

script_short : (m : ℕ) → script_len (generated_script m) ≤ m * 16 + 10
unfolding script_len
script_short m = omega (arith, traits_short m, number_most 0, number_most (length (map function_trait (one_to m))))

definitions_short : (m seed : ℕ) → definitions_len (generated_file seed m) ≤ m * 37 + 60
unfolding definitions_len
definitions_short m seed =
    omega (arith, methods_short m, script_short m, number_most 0, number_most 1, number_most (length (signature 0 [] ∷ map function_signature (one_to m))))

first_short : (m : ℕ) → body_len (first_body m) ≤ m * 15 + 80
unfolding body_len
first_short m = omega (arith, first_len m, number_most 0, number_most 1, number_most 2, number_most (code_len (first_code m)))

function_short : (seed i : ℕ) → body_len (function_body seed i) ≤ 100
unfolding body_len
function_short seed i =
    let code = drawn_code (draws_after seed (3 * (i - 1))) in omega (arith, drawn_len (draws_after seed (3 * (i - 1))), number_most i, number_most 0, number_most 2, number_most 3, number_most (code_len code))

bodies_short : (m seed : ℕ) → sum_by body_len (map (function_body seed) (one_to m)) ≤ m * 100
bodies_short m seed =
    sum_below body_len 100 m (map (function_body seed) (one_to m)) (made_length (function_body seed) m)
    (all_made (λ (x : Body). body_len x ≤ 100) (function_body seed) m (λ i low high. function_short seed i))

pub file_short : (m seed : ℕ) → m ≤ 10000 → file_len (generated_file seed m) ≤ 2 ^ 24
unfolding file_len
file_short m seed few =
    omega (arith, pools_short m seed few, definitions_short m seed, sum_by-cons body_len (first_body m) (map (function_body seed) (one_to m)), first_short m, bodies_short m seed, number_most (length (first_body m ∷ map (function_body seed) (one_to m))))
