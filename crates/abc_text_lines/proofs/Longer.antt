-- CodeTooLong, by the lines below a body's.
use Rattle.std.proofs.Common.{◌≡◌, ◌≢◌, ◌↔◌, ◌⊎◌, ℕ, ◌^◌, inl, inr, Bool, true, cond, ◌&&◌, nat_eq, nat_le, List, [], ◌∷◌, ◌++◌, length, Ok, Err, refl, sym, ap, subst, ◌∙◌, append-nil, arith}
use Rattle.std.specs.declared.result.Result.{Result}
use Rattle.std.proofs.lemmas.Bool.Decides.{nat_tests}
use Rattle.abc_text_lines.specs.declared.reason.AsmReason.{AsmReason}
use Rattle.abc_text_lines.specs.declared.reason.AsmReason.TheVariants as reasons
use Rattle.abc_text_lines.specs.declared.word.Word.{Word}
use Rattle.abc_text_lines.specs.declared.word.Word.TheVariants as words
use Rattle.abc_file_types.specs.declared.code.Handler.{Handler}
use Rattle.abc_file_types.specs.declared.code.Instr.{Instr}
use Rattle.abc_file_types.specs.declared.tables.Sizes.{Sizes}
use Rattle.abc_file_types.specs.declared.traits.TraitInfo.{TraitInfo}
use Rattle.abc_file_types.specs.CodeBytes.{code_len}
use Rattle.abc_text_lines.specs.Words.{place_of}
use Rattle.abc_text_lines.specs.Lines.{Row}
use Rattle.abc_text_lines.specs.Rows.{Fault, Rows}
use Rattle.abc_text_lines.specs.Law.{Among, IsLineFree, Lawful, Match}
use Rattle.abc_text_lines.specs.Wordlines.{faults_by_rules, if_none, plain_faults, shows_operands}
use Rattle.abc_text_lines.specs.File.{body_below, ends_body, extra, faults, long_code, plain_rules, rules, traits}
use Rattle.abc_text_lines.specs.LongCode.{HasLongCode, IsBodyNext, TellsLongCode}
use Rattle.abc_text_lines.proofs.Bools.{if_is, and_true, split_bool}
use Rattle.abc_text_lines.proofs.Many.{eq_true}
use Rattle.abc_text_lines.proofs.Below.{body_below-lawful}
use Rattle.abc_text_lines.proofs.Wordlines.{apart}

body_at : (w : Word) → place_of w ≡ 22 → w ≡ words.Body
body_at words.Body e = refl
body_at (words.Instruction op) e = absurd (omega arith)
body_at _ e = absurd (omega arith)

module _ (v : Sizes) (instances : ℕ) where
  abbrev BelowBody : Type 0
  BelowBody = List Instr × (List Handler × List TraitInfo)

  abbrev Reading : Type 0
  Reading = Result (BelowBody × List Row) Fault

  -- what stands below a body, of which at most n lines are read
  abbrev below : ℕ → Rows BelowBody
  below n = body_below v instances (faults_by_rules (plain_rules v instances)) n

  lawful : (n : ℕ) → Lawful (Unit {0}) shows_operands (faults_by_rules (plain_rules v instances)) n (below n)
  lawful n = body_below-lawful v instances (Unit {0}) (plain_rules v instances) (λ w labels tokens. refl) (λ row after w. refl) (λ row after other. refl) n

  next_body : (rest : List Row) → ends_body v instances rest ≡ true → IsBodyNext rest
  next_body [] e = tt
  next_body (row ∷ rest) e = body_at row.word (eq_true (place_of row.word) 22 e)

  body_next : (rest : List Row) → IsBodyNext rest → ends_body v instances rest ≡ true
  body_next [] h = refl
  body_next (row ∷ rest) h = ap (λ (w : Word). nat_eq (place_of w) 22) h

  no_body_in : (n w : ℕ) → Among w (below n).has → w ≡ 22 → ⊥
  unfolding body_below traits
  no_body_in n w h e = apart (22 ∷ []) (below n).has refl 22 (inl refl) (subst (λ (x : ℕ). Among x (below n).has) e h)

  free : (n : ℕ) (rest : List Row) → IsBodyNext rest → IsLineFree (below n) rest
  free n [] h place next among = absurd next
  free n (row ∷ rest) h place next among = no_body_in n place among (sym next ∙ ap place_of h)

  shown_any : (n m : ℕ) (x : BelowBody) (front : List Row) → Match shows_operands front ((below n).shows x) → Match shows_operands front ((below m).shows x)
  unfolding body_below traits
  shown_any n m x front match = match

  fits_any : (n m : ℕ) (x : BelowBody) → (below n).fits x → (below m).fits x
  unfolding body_below traits
  fits_any n m x fit = fit

  -- ---- both directions

  found : (after : List Row) (r : Reading) → (below (length after)).reads after ≡ r → long_code v instances r ≡ reasons.CodeTooLong ∷ [] → HasLongCode v instances after
  found after (Err f) e long = absurd cc
  found after (Ok x) e long =
      elim (if_is (ends_body v instances x.1 && nat_le (2 ^ 23) (code_len x.0.0)) (reasons.CodeTooLong ∷ []) [] (reasons.CodeTooLong ∷ []) long) [
        | inr c ↦ absurd cc
        | inl c ↦
            let two = and_true (ends_body v instances x.1) (nat_le (2 ^ 23) (code_len x.0.0)) c.0 in
            let body = next_body x.1 two.0 in
            let t = (lawful (length after)).taken after x.0 x.1 (omega arith) e in
            record {
              front = t.front;
              rest = x.1;
              parts = t.parts;
              next = body;
              below = x.0;
              shown = shown_any (length after) 0 x.0 t.front t.shown;
              fits = fits_any (length after) 0 x.0 (t.fits tt (free (length after) x.1 body));
              long = let e = two.1 in grind (arith, nat_tests);
            }
      ]

  told : (after : List Row) → HasLongCode v instances after → long_code v instances ((below (length after)).reads after) ≡ reasons.CodeTooLong ∷ []
  told after h =
      let n = length after in
      let front = shown_any 0 n h.below h.front h.shown in
      let read : (below n).reads (h.front ++ h.rest) ≡ Ok (h.below, h.rest) = (lawful n).again h.below h.front h.rest (let e = ap length h.parts in omega (arith, e)) (fits_any 0 n h.below h.fits) front (free n h.rest h.next) in
      let long : nat_le (2 ^ 23) (code_len h.below.0) ≡ true = let le = h.long in grind (arith, nat_tests) in
      ap (λ (rows : List Row). long_code v instances ((below n).reads rows)) h.parts
      ∙ ap (long_code v instances) read
      ∙ ap (λ (b : Bool). cond (b && nat_le (2 ^ 23) (code_len h.below.0)) (reasons.CodeTooLong ∷ []) []) (body_next h.rest h.next)
      ∙ ap (λ (b : Bool). cond b (reasons.CodeTooLong ∷ []) []) long

  long_or_none : (r : Reading) → (long_code v instances r ≡ []) ⊎ (long_code v instances r ≡ reasons.CodeTooLong ∷ [])
  long_or_none (Err f) = inl refl
  long_or_none (Ok x) = elim (split_bool (ends_body v instances x.1 && nat_le (2 ^ 23) (code_len x.0.0))) [ inl e ↦ inr (rw e refl) | inr e ↦ inl (rw e refl) ]

  -- ---- what is told beside all else

  abbrev TooLong : List AsmReason → Type 0
  TooLong told = told ≡ reasons.CodeTooLong ∷ []

  extra_is : (w : Word) (row : Row) (after : List Row) → TooLong (extra v instances row after w) ↔ ((w ≡ words.Body) × HasLongCode v instances after)
  extra_is words.Body row after = (λ e. (refl, found after _ refl e), λ h. told after h.1)
  extra_is (words.Instruction op) row after = (λ e. absurd cc, λ h. let e = h.0 in absurd cc)
  extra_is _ row after = (λ e. absurd cc, λ h. let e = h.0 in absurd cc)

  extra_or_none : (w : Word) (row : Row) (after : List Row) → (extra v instances row after w ≡ []) ⊎ TooLong (extra v instances row after w)
  extra_or_none words.Body row after = long_or_none ((below (length after)).reads after)
  extra_or_none (words.Instruction op) row after = inl refl
  extra_or_none _ row after = inl refl

  alone_is : (row : Row) (after : List Row) → plain_faults (rules v instances) row after ≡ [] → faults v instances row after ≡ extra v instances row after row.word
  alone_is row after e = ap (λ (l : List AsmReason). l ++ if_none l (extra v instances row after row.word)) e

  nothing_more : (l more : List AsmReason) → l ≢ [] → l ++ if_none l more ≡ l
  nothing_more [] more some = absurd (some refl)
  nothing_more (r ∷ rs) more some = append-nil (r ∷ rs)

  pub tells_long_code : (row : Row) (after : List Row) → TellsLongCode v instances row after
  tells_long_code row after = record {
    alone = λ e.
        let is = alone_is row after e in
        let both = extra_is row.word row after in
        (λ long. both.0 (sym is ∙ long), λ h. is ∙ both.1 h);
    no_other = λ e. let is = alone_is row after e in elim (extra_or_none row.word row after) [ inl n ↦ inl (is ∙ n) | inr y ↦ inr (is ∙ y) ];
    last = λ some. nothing_more (plain_faults (rules v instances) row after) (extra v instances row after row.word) some;
  }
