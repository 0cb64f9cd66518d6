-- What new numbers leave as it is.
use Rattle.std.proofs.Common.{◌≡◌, ℕ, ◌+◌, ◌<◌, ◌≤◌, List, [], ◌∷◌, ◌++◌, get_or, length, map, take, refl, sym, ap, subst, ◌∙◌, arith}
use Rattle.std.proofs.lemmas.List.{take_all, take_more}
use Rattle.abc_tidy_refs.proofs.Reading.{push_mapped}
use Rattle.abc_tidy_refs.specs.Renumbered.{Renumbering, new_body, new_handler, new_instr, new_method, new_option, new_trait}
use Rattle.abc_file_types.specs.declared.code.Body.{Body}
use Rattle.abc_file_types.specs.declared.methods.Method.{Method}
use Rattle.abc_file_types.specs.declared.opcodes.Pool.TheVariants as pools

no_item_stays : {A : Type 0} (f : A → A) (xs : List A) → length xs ≡ 0 → map f xs ≡ xs
no_item_stays f [] e = refl
no_item_stays f (x ∷ xs) e = absurd (omega (arith, e))

-- the first values of a list, and one more
pub one_more_stays : {A : Type 0} (f : A → A) (xs : List A) (i : ℕ) (x : A) → i < length xs → x ≡ get_or xs i x → map f (take i xs) ≡ take i xs → f x ≡ x → map f (take (i + 1) xs) ≡ take (i + 1) xs
one_more_stays f xs i x lt at e same =
    let more : take (i + 1) xs ≡ take i xs ++ x ∷ [] = take_more xs i x lt ∙ ap (λ y. take i xs ++ y ∷ []) (sym at) in
    sym (push_mapped f xs (take i xs) i x x (sym e) lt at (sym same)) ∙ sym more

pub all_stay : {A : Type 0} (f : A → A) (xs : List A) (i : ℕ) → length xs ≤ i → map f (take i xs) ≡ take i xs → map f xs ≡ xs
all_stay f xs i le e = subst (λ l. map f l ≡ l) (take_all i xs le) e

pub method_stays : (f : Renumbering) (m : Method) → length m.params ≡ 0 → length m.options ≡ 0 → length m.param_names ≡ 0 → f pools.Name m.ret ≡ m.ret → f pools.Text m.name ≡ m.name → new_method f m ≡ m
method_stays f m params options names ret name =
    rw (no_item_stays (f pools.Name) m.params params, no_item_stays (new_option f) m.options options, no_item_stays (f pools.Text) m.param_names names, ret, name) refl

pub body_stays : (f : Renumbering) (b : Body) → map (new_instr f) b.code ≡ b.code → map (new_handler f) b.handlers ≡ b.handlers → map (new_trait f) b.traits ≡ b.traits → new_body f b ≡ b
body_stays f b code handlers traits = rw (code, handlers, traits) refl
