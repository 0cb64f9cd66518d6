-- Lines, piece by piece.
use Rattle.std.proofs.Common.{◌≡◌, ℕ, ◌++◌, ◌∷◌, [], List, ap, ap₂, sym, ◌∙◌, append_assoc}
use Rattle.std.specs.Prelude.{codes, decimal}
use Rattle.abc_cli_answers.specs.Lines.{code_text, told_line, place_text}

pub pieces_are : (a b c d word digits : List ℕ) → a ≡ [] → b ≡ a ++ word → c ≡ b ++ digits → d ≡ c ++ 10 ∷ [] → d ≡ word ++ digits ++ 10 ∷ []
pieces_are a b c d word digits none first more last =
    last ∙ ap (λ (x : List ℕ). x ++ 10 ∷ []) (more ∙ ap (λ (x : List ℕ). x ++ digits) (first ∙ ap (λ (x : List ℕ). x ++ word) none))

-- the line of an instruction, piece by piece
pub code_line : (m o : ℕ) (first second name : List ℕ) → first ≡ decimal m → second ≡ decimal o
    → ((codes "abc: method " ++ first ++ codes " offset ") ++ (second ++ codes ": " ++ name)) ++ 10 ∷ [] ≡ told_line (code_text m o name)
unfolding told_line code_text
code_line m o first second name e f =
    let front = first ++ codes " offset " in
    ap (λ (xs : List ℕ). (codes "abc: method " ++ xs) ++ (10 ∷ []))
    (ap (λ (xs : List ℕ). front ++ xs) (append_assoc second (codes ": ") name)
    ∙ sym (append_assoc front second (codes ": " ++ name))
    ∙ sym (append_assoc (front ++ second) (codes ": ") name)
    ∙ ap₂ (λ (a b : List ℕ). (((a ++ codes " offset ") ++ b) ++ codes ": ") ++ name) e f)

-- the line of a place, piece by piece
pub place_line : (n : ℕ) (kind digits name : List ℕ) → digits ≡ decimal n
    → ((codes "abc: " ++ kind ++ codes " ") ++ (digits ++ codes ": " ++ name)) ++ 10 ∷ [] ≡ told_line (place_text kind n name)
unfolding told_line place_text
place_line n kind digits name e =
    let front = kind ++ codes " " in
    ap (λ (xs : List ℕ). (codes "abc: " ++ xs) ++ (10 ∷ []))
    (ap (λ (xs : List ℕ). front ++ xs) (append_assoc digits (codes ": ") name)
    ∙ sym (append_assoc front digits (codes ": " ++ name))
    ∙ sym (append_assoc (front ++ digits) (codes ": ") name)
    ∙ ap (λ (xs : List ℕ). ((front ++ xs) ++ codes ": ") ++ name) e)
