-- Lists of lines in pieces, and results.
use Rattle.std.proofs.Common.{◌≡◌, ℕ, ◌⊎◌, inl, inr, List, [], ◌∷◌, ◌++◌, Ok, Err, Some, None, refl, sym, ap, subst, ◌∙◌, append_assoc}
use Rattle.std.specs.declared.result.Result.{Result}
use Rattle.std.specs.declared.option.Option.{Option}
use Rattle.std.proofs.lemmas.List.{map-append}
use Rattle.abc_text_lines.specs.declared.reason.AsmReason.{AsmReason}
use Rattle.abc_text_lines.specs.Reasons.{least}
use Rattle.abc_text_lines.specs.Words.{place_of}
use Rattle.abc_text_lines.specs.Lines.{Row, Shown, Line, Labels, line_places, places_shown}
use Rattle.abc_text_lines.specs.Rows.{Fault, Faults, fault, unless, ◌>>=◌}
use Rattle.abc_text_lines.specs.Law.{Among, Clean, Match, Next, Shows}

pub bind_ok : {A B : Type 0} (r : Result A Fault) (f : A → Result B Fault) (y : B) → (r >>= f) ≡ Ok y → (x : A) × (r ≡ Ok x) × (f x ≡ Ok y)
bind_ok (Ok x) f y e = (x, refl, e)
bind_ok (Err d) f y e = absurd cc

pub bind_err : {A B : Type 0} (r : Result A Fault) (f : A → Result B Fault) (d : Fault) → (r >>= f) ≡ Err d → (r ≡ Err d) ⊎ ((x : A) × (r ≡ Ok x) × (f x ≡ Err d))
bind_err (Ok x) f d e = inr (x, refl, e)
bind_err {B = B} (Err c) f d e = let same : c ≡ d = cc in inl (ap (λ (z : Fault). Err z) same)

abbrev pub fine : {A : Type 0} → A → Result A Fault
fine x = Ok x

pub ok_is : {A : Type 0} (x y : A) → fine x ≡ fine y → x ≡ y
ok_is x y e = cc

pub unless_ok : {A : Type 0} (o : Option AsmReason) (line : ℕ) (r : Result A Fault) (x : A) → unless o line r ≡ Ok x → (o ≡ None) × (r ≡ Ok x)
unless_ok None line r x e = (refl, e)
unless_ok (Some s) line r x e = absurd cc

pub unless_err : {A : Type 0} (o : Option AsmReason) (line : ℕ) (r : Result A Fault) (f : Fault) → unless o line r ≡ Err f → ((o ≡ Some f.reason) × (f.line ≡ line)) ⊎ ((o ≡ None) × (r ≡ Err f))
unless_err None line r f e = inr (refl, e)
unless_err {A = A} (Some s) line r f e =
    let same : fault line s ≡ f = cc in
    inl (ap (λ (z : Fault). Some z.reason) same, sym (ap (λ (z : Fault). z.line) same))

-- ---- pieces

-- where one list is cut in two ways, one of the cuts comes first
pub cut : {A : Type 0} (a b c d : List A) → a ++ b ≡ c ++ d → ((m : List A) × (a ≡ c ++ m) × (d ≡ m ++ b)) ⊎ ((x : A) × (m : List A) × (c ≡ a ++ x ∷ m) × (b ≡ x ∷ m ++ d))
cut [] b [] d e = inl ([], refl, sym e)
cut [] b (x ∷ c) d e = inr (x, c, refl, e)
cut (x ∷ a) b [] d e = inl (x ∷ a, refl, sym e)
cut (x ∷ a) b (y ∷ c) d e =
    let head : x ≡ y = cc in
    let tail : a ++ b ≡ c ++ d = cc in
    elim (cut a b c d tail) [
      | inl m ↦ inl (m.0, (let f : a ≡ c ++ m.0 = m.1 in cc), m.2)
      | inr m ↦ inr (m.0, m.1, (let f : c ≡ a ++ m.0 ∷ m.1 = m.2 in cc), m.3)
    ]

pub places-append : (a b : List Row) → line_places (a ++ b) ≡ line_places a ++ line_places b
places-append a b = map-append (λ (row : Row). place_of row.word) a b

pub shown-append : (a b : List Shown) → places_shown (a ++ b) ≡ places_shown a ++ places_shown b
shown-append [] b = refl
shown-append (Line w items ∷ a) b = ap (λ (l : List ℕ). place_of w ∷ l) (shown-append a b)
shown-append (Labels n ∷ a) b = shown-append a b

pub Among-left : (x : ℕ) (a b : List ℕ) → Among x a → Among x (a ++ b)
Among-left x [] b h = absurd h
Among-left x (y ∷ a) b h = elim h [ inl e ↦ inl e | inr m ↦ inr (Among-left x a b m) ]

pub Among-right : (x : ℕ) (a b : List ℕ) → Among x b → Among x (a ++ b)
Among-right x [] b h = h
Among-right x (y ∷ a) b h = inr (Among-right x a b h)

pub Next-head : (rest : List Row) (x y : ℕ) → Next rest x → Next rest y → x ≡ y
Next-head [] x y h k = absurd h
Next-head (row ∷ rest) x y h k = sym h ∙ k

-- the next line's place, where there is one
pub Next-places : (rows rest : List Row) (x : ℕ) (more : List ℕ) → line_places rows ≡ x ∷ more → Next (rows ++ rest) x
Next-places [] rest x more e = absurd cc
Next-places (row ∷ rows) rest x more e = let h : place_of row.word ≡ x = cc in h

pub Next-cases : (rows rest : List Row) (x : ℕ) → Next (rows ++ rest) x → ((more : List ℕ) × (line_places rows ≡ x ∷ more)) ⊎ Next rest x
Next-cases [] rest x h = inr h
Next-cases (row ∷ rows) rest x h = inl (line_places rows, ap (λ (n : ℕ). n ∷ line_places rows) h)

pub Next-made : (rows rest : List Row) (x y : ℕ) (more tail : List ℕ) → line_places rows ++ x ∷ more ≡ y ∷ tail → Next rest x → Next (rows ++ rest) y
Next-made [] rest x y more tail e h = let same : x ≡ y = cc in subst (λ (n : ℕ). Next rest n) same h
Next-made (row ∷ rows) rest x y more tail e h = let same : place_of row.word ≡ y = cc in same

pub Among-cases : (x : ℕ) (a b : List ℕ) → Among x (a ++ b) → Among x a ⊎ Among x b
Among-cases x [] b h = inr h
Among-cases x (y ∷ a) b h = elim h [ inl e ↦ inl (inl e) | inr m ↦ elim (Among-cases x a b m) [ inl l ↦ inl (inr l) | inr r ↦ inr r ] ]

module _ (faults : Faults) where
  pub Clean-append : (a b rest : List Row) → Clean faults a (b ++ rest) → Clean faults b rest → Clean faults (a ++ b) rest
  Clean-append [] b rest f g = g
  Clean-append (row ∷ a) b rest f g = (subst (λ (l : List Row). least (faults row l) ≡ None) (sym (append_assoc a b rest)) f.0, Clean-append a b rest f.1 g)

module _ (same : Shows) where
  pub Match-append : (a b : List Row) (s t : List Shown) → Match same a s → Match same b t → Match same (a ++ b) (s ++ t)
  Match-append a b [] t f g = subst (λ (l : List Row). Match same (l ++ b) t) (sym f) g
  Match-append a b (Line w items ∷ s) t f g =
      (f.0, f.1 ++ b, ap (λ (l : List Row). l ++ b) f.2, f.3, Match-append f.1 b s t f.4 g)
  Match-append a b (Labels n ∷ s) t f g =
      (f.0, f.1 ++ b, ap (λ (l : List Row). l ++ b) f.2 ∙ append_assoc f.0 f.1 b, f.3, Match-append f.1 b s t f.4 g)

  pub Match-split : (rows : List Row) (s t : List Shown) → Match same rows (s ++ t) → (a : List Row) × (b : List Row) × (rows ≡ a ++ b) × Match same a s × Match same b t
  Match-split rows [] t f = ([], rows, refl, refl, f)
  Match-split rows (Line w items ∷ s) t f =
      let m = Match-split f.1 s t f.4 in
      (f.0 ∷ m.0, m.1, f.2 ∙ ap (λ (l : List Row). f.0 ∷ l) m.2, (f.0, m.0, refl, f.3, m.3), m.4)
  Match-split rows (Labels n ∷ s) t f =
      let m = Match-split f.1 s t f.4 in
      (f.0 ++ m.0, m.1, f.2 ∙ ap (λ (l : List Row). f.0 ++ l) m.2 ∙ sym (append_assoc f.0 m.0 m.1), (f.0, m.0, refl, f.3, m.3), m.4)
