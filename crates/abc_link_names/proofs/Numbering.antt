-- The numbers of a file's texts.
use Rattle.std.proofs.Common.{◌≡◌, ℕ, zero, suc, ◌-◌, Bool, true, false, List, [], cond, nat_eq, eqb-true, get_or, refl, sym, ap, ◌∙◌, arith}
use Rattle.std.specs.Str.{bytes_eq}
use Rattle.abc_base_graphs.specs.Texts.{AreNumbersOf, texts_of}
use Rattle.abc_file_types.specs.declared.tables.Abc.{Abc}
use Rattle.abc_link_names.specs.Pool.{text}
use Rattle.abc_link_names.specs.Numbers.{number_of_text}

text_entry : (v : Abc) (i : ℕ) → text v i ≡ get_or (texts_of v.strings) i []
text_entry v zero = refl
text_entry v (suc i) = go (nat_eq (suc i) 0) refl
  where
    go : (b : Bool) → nat_eq (suc i) 0 ≡ b → cond b [] (get_or v.strings (suc i - 1) []) ≡ get_or v.strings i []
    go true e = let q = eqb-true (suc i) 0 e in absurd (omega arith)
    go false e = let q : suc i - 1 ≡ i = omega arith in ap (λ m. get_or v.strings m []) q

pub same_numbers : (v : Abc) (numbers : List ℕ) → AreNumbersOf numbers v.strings → (i j : ℕ) → nat_eq (number_of_text numbers i) (number_of_text numbers j) ≡ bytes_eq (text v i) (text v j)
same_numbers v numbers a i j =
    a.same i j
    ∙ ap (λ (t : List ℕ). bytes_eq t (get_or (texts_of v.strings) j [])) (sym (text_entry v i))
    ∙ ap (bytes_eq (text v i)) (sym (text_entry v j))
