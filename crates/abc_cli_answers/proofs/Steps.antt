-- The words one after the other: what they say once each was taken, and where one was refused.
use Rattle.std.proofs.Common.{◌≡◌, ℕ, suc, ◌+◌, true, Option, Some, None, Ok, Err, List, [], ◌∷◌, ◌++◌, take, refl, sym, ap, subst, ◌∙◌, arith}
use Rattle.std.specs.Option.{option_map, option_and_then}
use Rattle.std.specs.declared.result.Result.{Result}
use Rattle.abc_cli_answers.specs.declared.command.Usage.{Usage}
use Rattle.abc_cli_answers.specs.declared.command.Usage.TheVariants as usages
use Rattle.abc_cli_answers.specs.Commands.{OptionSetting}
use Rattle.abc_cli_answers.specs.Grammar.{GivesOne, GiveAll}
use Rattle.abc_cli_answers.specs.Grammar.GiveAll.{word}
use Rattle.abc_cli_answers.specs.Reading.{name_and_number, after_word, after_words, go_on}
use Rattle.abc_cli_answers.proofs.Places.{Place, Agree, left_of, put, have_own_names, taken, refused, taken_again, nothing_read}

pub give_cases : {w : List ℕ} {words : List (List ℕ)} {settings : List OptionSetting} → GiveAll (w ∷ words) settings → (left : List OptionSetting) × GivesOne w settings left × GiveAll words left
give_cases (word {left} one all) = (left, one, all)

go_on_ok : {G H : Type 0} (i : ℕ) (x : Option G) (f : G → Result H Usage) (h : H) → go_on i x f ≡ Ok h → (g : G) × (x ≡ Some g) × (f g ≡ Ok h)
go_on_ok i None f h e = absurd cc
go_on_ok i (Some g) f h e = (g, refl, e)

then_ok : {A B : Type 0} (f : A → Option B) (x : Option A) (y : B) → option_and_then f x ≡ Some y → (z : A) × (x ≡ Some z) × (f z ≡ Some y)
then_ok f None y e = absurd cc
then_ok f (Some z) y e = (z, refl, e)

-- the options of a command in a list of places
module _ (G : Type 0) (with : G → List ℕ → ℕ → Option G) (places : G → List Place) (same : (g : G) (name : List ℕ) (n : ℕ) → option_map places (with g name n) ≡ put (places g) name n) (own : (g : G) → have_own_names (places g) ≡ true) where
  put_after : (g h : G) (name : List ℕ) (n : ℕ) → with g name n ≡ Some h → put (places g) name n ≡ Some (places h)
  put_after g h name n e = sym (same g name n) ∙ ap (λ (x : Option G). option_map places x) e

  put_none : (g : G) (name : List ℕ) (n : ℕ) → with g name n ≡ None → put (places g) name n ≡ None
  put_none g name n e = sym (same g name n) ∙ ap (λ (x : Option G). option_map places x) e

  -- ---- one word

  word_taken : (g h : G) (w : List ℕ) (settings : List OptionSetting) (words : List (List ℕ)) → after_word with g w ≡ Some h → Agree (places g) settings → GiveAll (w ∷ words) (left_of (places g) settings) → Agree (places h) settings × GiveAll words (left_of (places h) settings)
  word_taken g h w settings words e agree all =
      let t = then_ok (λ (p : List ℕ × ℕ). with g p.0 p.1) (name_and_number w) h e in
      let a = give_cases all in
      let s = taken w t.0.0 t.0.1 t.1 (places g) (places h) settings a.0 (own g) (put_after g h t.0.0 t.0.1 t.2) agree a.1 in
      (s.0, subst (λ (l : List OptionSetting). GiveAll words l) s.1 a.2)

  word_again : (g h : G) (w : List ℕ) (settings : List OptionSetting) (words : List (List ℕ)) → after_word with g w ≡ Some h → Agree (places h) settings → GiveAll words (left_of (places h) settings) → Agree (places g) settings × GiveAll (w ∷ words) (left_of (places g) settings)
  word_again g h w settings words e agree all =
      let t = then_ok (λ (p : List ℕ × ℕ). with g p.0 p.1) (name_and_number w) h e in
      let s = taken_again w t.0.0 t.0.1 t.1 (places g) (places h) settings (put_after g h t.0.0 t.0.1 t.2) agree in
      (s.0, word s.1 all)

  refused_by : (g : G) (w : List ℕ) (settings left : List OptionSetting) (found : Option (List ℕ × ℕ)) → name_and_number w ≡ found → option_and_then (λ p. with g p.0 p.1) found ≡ None → Agree (places g) settings → ¬ GivesOne w (left_of (places g) settings) left
  refused_by g w settings left None is e agree one = nothing_read w is (places g) settings left (own g) agree one
  refused_by g w settings left (Some p) is e agree one = refused w p.0 p.1 is (places g) settings left (own g) (put_none g p.0 p.1 e) agree one

  word_refused : (g : G) (w : List ℕ) (settings : List OptionSetting) (words : List (List ℕ)) → after_word with g w ≡ None → Agree (places g) settings → ¬ GiveAll (w ∷ words) (left_of (places g) settings)
  word_refused g w settings words e agree all =
      let a = give_cases all in
      refused_by g w settings a.0 (name_and_number w) refl e agree a.1

  -- ---- several words

  pub words_taken : (words : List (List ℕ)) (g h : G) (i : ℕ) (settings : List OptionSetting) (more : List (List ℕ)) → after_words with g i words ≡ Ok h → Agree (places g) settings → GiveAll (words ++ more) (left_of (places g) settings) → Agree (places h) settings × GiveAll more (left_of (places h) settings)
  words_taken [] g h i settings more e agree all =
      let is : g ≡ h = cc in
      subst (λ (x : G). Agree (places x) settings × GiveAll more (left_of (places x) settings)) is (agree, all)
  words_taken (w ∷ words) g h i settings more e agree all =
      let s = go_on_ok i (after_word with g w) (λ x. after_words with x (i + 1) words) h e in
      let t = word_taken g s.0 w settings (words ++ more) s.1 agree all in
      words_taken words s.0 h (i + 1) settings more s.2 t.0 t.1

  pub words_again : (words : List (List ℕ)) (g h : G) (i : ℕ) (settings : List OptionSetting) (more : List (List ℕ)) → after_words with g i words ≡ Ok h → Agree (places h) settings → GiveAll more (left_of (places h) settings) → Agree (places g) settings × GiveAll (words ++ more) (left_of (places g) settings)
  words_again [] g h i settings more e agree all =
      let is : h ≡ g = cc in
      subst (λ (x : G). Agree (places x) settings × GiveAll more (left_of (places x) settings)) is (agree, all)
  words_again (w ∷ words) g h i settings more e agree all =
      let s = go_on_ok i (after_word with g w) (λ x. after_words with x (i + 1) words) h e in
      let t = words_again words s.0 h (i + 1) settings more s.2 agree all in
      word_again g s.0 w settings (words ++ more) s.1 t.0 t.1

  -- a word was refused: those before it were taken, and no words go on from it
  pub record IsRefused (g : G) (i : ℕ) (words : List (List ℕ)) (u : Usage) : Type 0 where
    pub count : ℕ
    pub is : u ≡ usages.Word (i + count)
    pub before : G
    pub taken : after_words with g i (take count words) ≡ Ok before
    pub stops : (settings : List OptionSetting) (more : List (List ℕ)) → Agree (places g) settings → ¬ GiveAll (take (suc count) words ++ more) (left_of (places g) settings)

  refused_later : (w : List ℕ) (words : List (List ℕ)) (g h : G) (i : ℕ) (u : Usage) → after_word with g w ≡ Some h → IsRefused h (i + 1) words u → IsRefused g i (w ∷ words) u
  refused_later w words g h i u e r = record {
    count = suc r.count;
    is = let place : (i + 1) + r.count ≡ i + suc r.count = omega arith in r.is ∙ ap usages.Word place;
    before = r.before;
    taken = rw e r.taken;
    stops = λ settings more agree all. let t = word_taken g h w settings (take (suc r.count) words ++ more) e agree all in r.stops settings more t.0 t.1;
  }

  refused_at : (w : List ℕ) (words : List (List ℕ)) (g : G) (i : ℕ) (u : Usage) (x : Option G) → ((h : G) → after_words with h (i + 1) words ≡ Err u → IsRefused h (i + 1) words u) → after_word with g w ≡ x → go_on i x (λ h. after_words with h (i + 1) words) ≡ Err u → IsRefused g i (w ∷ words) u
  refused_at w words g i u None later is e = record {
    count = 0;
    is = let here : usages.Word i ≡ u = cc in let place : i ≡ i + 0 = omega arith in sym here ∙ ap usages.Word place;
    before = g;
    taken = refl;
    stops = λ settings more agree all. word_refused g w settings more is agree all;
  }
  refused_at w words g i u (Some h) later is e = refused_later w words g h i u is (later h e)

  pub words_refused : (words : List (List ℕ)) (g : G) (i : ℕ) (u : Usage) → after_words with g i words ≡ Err u → IsRefused g i words u
  words_refused [] g i u e = absurd cc
  words_refused (w ∷ words) g i u e = refused_at w words g i u (after_word with g w) (λ h f. words_refused words h (i + 1) u f) refl e
