-- The options of a command as a list: what one word changes in it.
use Rattle.std.proofs.Common.{◌≡◌, ℕ, ◌≤◌, Bool, true, false, cond, ◌&&◌, Option, Some, None, List, [], ◌∷◌, refl, sym, ap, subst, ◌∙◌, inl, inr, ◌⊎◌}
use Rattle.std.specs.Prelude.{⊤}
use Rattle.std.specs.Option.{option_map}
use Rattle.std.specs.Str.{bytes_eq}
use Rattle.std.proofs.lemmas.Bool.{leb-true, le-leb}
use Rattle.std.proofs.lemmas.Slice.Eq.{bytes_eq-Decides}
use Rattle.abc_cli_answers.specs.Commands.{CommandOption, OptionSetting, option_setting}
use Rattle.abc_cli_answers.specs.Grammar.{GivesNumber, GivesOne}
use Rattle.abc_cli_answers.specs.Grammar.GivesOne.{first, later}
use Rattle.abc_cli_answers.specs.Reading.{can_take, name_and_number, some_if}
use Rattle.abc_cli_answers.proofs.Cuts.{has_no_sign, name_and_number-gives, gives-found}

-- an option, and the number that it was given, if any
pub data Place : Type 0 where
  place : CommandOption → Option ℕ → Place

-- the places once the option of that name is given that number
abbrev pub put : List Place → List ℕ → ℕ → Option (List Place)
put [] name n = None
put (place option given ∷ places) name n = cond (bytes_eq name option.name) (some_if (can_take option given n) (place option (Some n) ∷ places)) (option_map (λ others. place option given ∷ others) (put places name n))

-- the settings are of these options, and have the numbers that were given
abbrev pub agrees : Option ℕ → ℕ → Type 0
agrees None n = ⊤
agrees (Some m) n = n ≡ m

abbrev pub Agree : List Place → List OptionSetting → Type 0
Agree [] [] = ⊤
Agree [] (s ∷ settings) = ⊥
Agree (p ∷ places) [] = ⊥
Agree (place option given ∷ places) (s ∷ settings) = (s.option ≡ option) × agrees given s.number × Agree places settings

-- the settings of the options that were given no number yet
abbrev pub unless_given : Option ℕ → OptionSetting → List OptionSetting → List OptionSetting
unless_given None s settings = s ∷ settings
unless_given (Some n) s settings = settings

abbrev pub left_of : List Place → List OptionSetting → List OptionSetting
left_of [] settings = []
left_of (p ∷ places) [] = []
left_of (place option given ∷ places) (s ∷ settings) = unless_given given s (left_of places settings)

-- no place has this name
abbrev pub has_none : List ℕ → List Place → Bool
has_none name [] = true
has_none name (place option given ∷ places) = cond (bytes_eq name option.name) false (has_none name places)

-- the names are names, and no two are the same
abbrev pub have_own_names : List Place → Bool
have_own_names [] = true
have_own_names (place option given ∷ places) = has_no_sign option.name && (has_none option.name places && have_own_names places)

-- ---- tests

and_left : (a b : Bool) → (a && b) ≡ true → a ≡ true
and_left true b e = refl
and_left false b e = absurd cc

and_right : (a b : Bool) → (a && b) ≡ true → b ≡ true
and_right true b e = e
and_right false b e = absurd cc

cond_false : (b r : Bool) → cond b false r ≡ true → (b ≡ false) × (r ≡ true)
cond_false true r e = absurd cc
cond_false false r e = (refl, e)

some_if_ok : {A : Type 0} (test : Bool) (x y : A) → some_if test x ≡ Some y → (test ≡ true) × (x ≡ y)
some_if_ok true x y e = (refl, cc)
some_if_ok false x y e = absurd cc

some_if_none : {A : Type 0} (test : Bool) (x : A) → some_if test x ≡ None → test ≡ false
some_if_none true x e = absurd cc
some_if_none false x e = refl

map_ok : {A B : Type 0} (f : A → B) (x : Option A) (y : B) → option_map f x ≡ Some y → (z : A) × (x ≡ Some z) × (f z ≡ y)
map_ok f None y e = absurd cc
map_ok f (Some z) y e = (z, refl, cc)

map_none : {A B : Type 0} (f : A → B) (x : Option A) → option_map f x ≡ None → x ≡ None
map_none f None e = refl
map_none f (Some z) e = absurd cc

abbrev pair_of : List ℕ → ℕ → List ℕ × ℕ
pair_of name n = (name, n)

in_range : (o : CommandOption) (n : ℕ) → can_take o None n ≡ true → (o.least ≤ n) × (n ≤ o.greatest)
in_range o n e = (leb-true o.least n (and_left _ _ e), leb-true n o.greatest (and_right _ _ e))

can-take : (o : CommandOption) (n : ℕ) → o.least ≤ n → n ≤ o.greatest → can_take o None n ≡ true
can-take o n least greatest = rw (le-leb o.least n least, le-leb n o.greatest greatest) refl

gives_cases : {word : List ℕ} {s : OptionSetting} {others left : List OptionSetting} → GivesOne word (s ∷ others) left → (GivesNumber word s × (left ≡ others)) ⊎ ((rest : List OptionSetting) × (left ≡ s ∷ rest) × GivesOne word others rest)
gives_cases (first g) = inl (g, refl)
gives_cases (later {left} r) = inr (left, refl, r)

-- what a word says of a name and a number
module _ (word name : List ℕ) (n : ℕ) (found : name_and_number word ≡ Some (name, n)) where
  -- a word that gives a setting has the setting's name and number
  gives_name : (s : OptionSetting) → has_no_sign s.option.name ≡ true → GivesNumber word s → (s.option.name ≡ name) × (s.number ≡ n)
  gives_name s plain g =
      let same : Some (pair_of s.option.name s.number) ≡ Some (pair_of name n) = sym (name_and_number-gives word s plain g) ∙ found in
      let pair : pair_of s.option.name s.number ≡ pair_of name n = cc in
      (ap (λ x. x.0) pair, ap (λ x. x.1) pair)

  -- it gives the setting of no option with another name
  not_other : (o : CommandOption) (s : OptionSetting) → has_no_sign o.name ≡ true → s.option ≡ o → bytes_eq name o.name ≡ false → ¬ GivesNumber word s
  not_other o s plain is other g =
      let names : s.option.name ≡ o.name = ap (λ (x : CommandOption). x.name) is in
      let both = gives_name s (rw names plain) g in
      let same : bytes_eq name o.name ≡ true = (bytes_eq-Decides name o.name).1 (sym both.0 ∙ names) in
      absurd cc

  gives_no_other : (places : List Place) (settings left : List OptionSetting) → has_none name places ≡ true → have_own_names places ≡ true → Agree places settings → ¬ GivesOne word (left_of places settings) left
  gives_no_other [] [] left others own agree g = elim g [ ]
  gives_no_other [] (s ∷ settings) left others own agree g = absurd agree
  gives_no_other (p ∷ places) [] left others own agree g = absurd agree
  gives_no_other (place o None ∷ places) (s ∷ settings) left others own agree g =
      let head = cond_false _ _ others in
      elim (gives_cases g) [
        | inl h ↦ not_other o s (and_left _ _ own) agree.0 head.0 h.0
        | inr h ↦ gives_no_other places settings h.0 head.1 (and_right _ _ (and_right (has_no_sign o.name) _ own)) agree.2 h.2
      ]
  gives_no_other (place o (Some m) ∷ places) (s ∷ settings) left others own agree g =
      gives_no_other places settings left (cond_false _ _ others).1 (and_right _ _ (and_right (has_no_sign o.name) _ own)) agree.2 g

  -- ---- the option of that name

  no_other_here : (o : CommandOption) (places : List Place) (settings left : List OptionSetting) → bytes_eq name o.name ≡ true → have_own_names (place o None ∷ places) ≡ true → Agree places settings → ¬ GivesOne word (left_of places settings) left
  no_other_here o places settings left is own agree g =
      let same : name ≡ o.name = (bytes_eq-Decides name o.name).0 is in
      let rest = and_right (has_no_sign o.name) _ own in
      let others : has_none name places ≡ true = rw same (and_left _ _ rest) in
      gives_no_other places settings left others (and_right _ _ rest) agree g

  step_here : (o : CommandOption) (given : Option ℕ) (places after : List Place) (s : OptionSetting) (settings left : List OptionSetting) → bytes_eq name o.name ≡ true → have_own_names (place o given ∷ places) ≡ true
      → some_if (can_take o given n) (place o (Some n) ∷ places) ≡ Some after → Agree (place o given ∷ places) (s ∷ settings) → GivesOne word (left_of (place o given ∷ places) (s ∷ settings)) left → Agree after (s ∷ settings) × (left ≡ left_of after (s ∷ settings))
  step_here o None places after s settings left is own e agree g =
      let t = some_if_ok (can_take o None n) (place o (Some n) ∷ places) after e in
      let Q : List Place → Type 0 = λ ps. Agree ps (s ∷ settings) × (left ≡ left_of ps (s ∷ settings)) in
      elim (gives_cases g) [
        | inl h ↦
            let plain : has_no_sign s.option.name ≡ true = rw agree.0 (and_left _ _ own) in
            subst Q t.1 ((agree.0, (gives_name s plain h.0).1, agree.2), h.1)
        | inr h ↦ absurd (no_other_here o places settings h.0 is own agree.2 h.2)
      ]
  step_here o (Some m) places after s settings left is own e agree g = absurd cc

  step_later : (o : CommandOption) (given : Option ℕ) (places after : List Place) (s : OptionSetting) (settings left : List OptionSetting) → bytes_eq name o.name ≡ false → has_no_sign o.name ≡ true
      → ((later : List Place) (rest : List OptionSetting) → put places name n ≡ Some later → GivesOne word (left_of places settings) rest → Agree later settings × (rest ≡ left_of later settings))
      → option_map (λ others. place o given ∷ others) (put places name n) ≡ Some after → Agree (place o given ∷ places) (s ∷ settings) → GivesOne word (left_of (place o given ∷ places) (s ∷ settings)) left → Agree after (s ∷ settings) × (left ≡ left_of after (s ∷ settings))
  step_later o None places after s settings left other plain more e agree g =
      let m = map_ok (λ others. place o None ∷ others) (put places name n) after e in
      let Q : List Place → Type 0 = λ ps. Agree ps (s ∷ settings) × (left ≡ left_of ps (s ∷ settings)) in
      elim (gives_cases g) [
        | inl h ↦ absurd (not_other o s plain agree.0 other h.0)
        | inr h ↦
            let t = more m.0 h.0 m.1 h.2 in
            subst Q m.2 ((agree.0, agree.1, t.0), h.1 ∙ ap (λ (l : List OptionSetting). s ∷ l) t.1)
      ]
  step_later o (Some k) places after s settings left other plain more e agree g =
      let m = map_ok (λ others. place o (Some k) ∷ others) (put places name n) after e in
      let Q : List Place → Type 0 = λ ps. Agree ps (s ∷ settings) × (left ≡ left_of ps (s ∷ settings)) in
      let t = more m.0 left m.1 g in
      subst Q m.2 ((agree.0, agree.1, t.0), t.1)

  step_by : (o : CommandOption) (given : Option ℕ) (places after : List Place) (s : OptionSetting) (settings left : List OptionSetting) (test : Bool) → bytes_eq name o.name ≡ test → have_own_names (place o given ∷ places) ≡ true
      → ((later : List Place) (rest : List OptionSetting) → put places name n ≡ Some later → GivesOne word (left_of places settings) rest → Agree later settings × (rest ≡ left_of later settings))
      → cond test (some_if (can_take o given n) (place o (Some n) ∷ places)) (option_map (λ others. place o given ∷ others) (put places name n)) ≡ Some after → Agree (place o given ∷ places) (s ∷ settings) → GivesOne word (left_of (place o given ∷ places) (s ∷ settings)) left → Agree after (s ∷ settings) × (left ≡ left_of after (s ∷ settings))
  step_by o given places after s settings left true is own more e agree g = step_here o given places after s settings left is own e agree g
  step_by o given places after s settings left false is own more e agree g = step_later o given places after s settings left is (and_left _ _ own) more e agree g

  -- a word that is taken gives the setting of the place that it changes
  pub taken : (places after : List Place) (settings left : List OptionSetting) → have_own_names places ≡ true → put places name n ≡ Some after → Agree places settings → GivesOne word (left_of places settings) left → Agree after settings × (left ≡ left_of after settings)
  taken [] after settings left own e agree g = absurd cc
  taken (p ∷ places) after [] left own e agree g = absurd agree
  taken (place o given ∷ places) after (s ∷ settings) left own e agree g =
      step_by o given places after s settings left (bytes_eq name o.name) refl own (λ later rest f h. taken places later settings rest (and_right _ _ (and_right (has_no_sign o.name) _ own)) f agree.2 h) e agree g

  -- ---- a word that is refused

  no_step_here : (o : CommandOption) (given : Option ℕ) (places : List Place) (s : OptionSetting) (settings left : List OptionSetting) → bytes_eq name o.name ≡ true → have_own_names (place o given ∷ places) ≡ true
      → some_if (can_take o given n) (place o (Some n) ∷ places) ≡ None → Agree (place o given ∷ places) (s ∷ settings) → ¬ GivesOne word (left_of (place o given ∷ places) (s ∷ settings)) left
  no_step_here o None places s settings left is own e agree g =
      elim (gives_cases g) [
        | inl h ↦
            let plain : has_no_sign s.option.name ≡ true = rw agree.0 (and_left _ _ own) in
            let value = (gives_name s plain h.0).1 in
            let least : o.least ≤ n = subst (λ (k : ℕ). o.least ≤ k) value (subst (λ (x : CommandOption). x.least ≤ s.number) agree.0 h.0.least) in
            let greatest : n ≤ o.greatest = subst (λ (k : ℕ). k ≤ o.greatest) value (subst (λ (x : CommandOption). s.number ≤ x.greatest) agree.0 h.0.greatest) in
            let yes = can-take o n least greatest in
            let no = some_if_none _ _ e in
            absurd cc
        | inr h ↦ no_other_here o places settings h.0 is own agree.2 h.2
      ]
  no_step_here o (Some m) places s settings left is own e agree g = no_other_here o places settings left is own agree.2 g

  no_step_later : (o : CommandOption) (given : Option ℕ) (places : List Place) (s : OptionSetting) (settings left : List OptionSetting) → bytes_eq name o.name ≡ false → has_no_sign o.name ≡ true
      → ((rest : List OptionSetting) → put places name n ≡ None → ¬ GivesOne word (left_of places settings) rest)
      → option_map (λ others. place o given ∷ others) (put places name n) ≡ None → Agree (place o given ∷ places) (s ∷ settings) → ¬ GivesOne word (left_of (place o given ∷ places) (s ∷ settings)) left
  no_step_later o None places s settings left other plain more e agree g =
      elim (gives_cases g) [
        | inl h ↦ not_other o s plain agree.0 other h.0
        | inr h ↦ more h.0 (map_none _ _ e) h.2
      ]
  no_step_later o (Some m) places s settings left other plain more e agree g = more left (map_none _ _ e) g

  no_step_by : (o : CommandOption) (given : Option ℕ) (places : List Place) (s : OptionSetting) (settings left : List OptionSetting) (test : Bool) → bytes_eq name o.name ≡ test → have_own_names (place o given ∷ places) ≡ true
      → ((rest : List OptionSetting) → put places name n ≡ None → ¬ GivesOne word (left_of places settings) rest)
      → cond test (some_if (can_take o given n) (place o (Some n) ∷ places)) (option_map (λ others. place o given ∷ others) (put places name n)) ≡ None → Agree (place o given ∷ places) (s ∷ settings) → ¬ GivesOne word (left_of (place o given ∷ places) (s ∷ settings)) left
  no_step_by o given places s settings left true is own more e agree g = no_step_here o given places s settings left is own e agree g
  no_step_by o given places s settings left false is own more e agree g = no_step_later o given places s settings left is (and_left _ _ own) more e agree g

  -- a word that is refused gives no setting that is left
  pub refused : (places : List Place) (settings left : List OptionSetting) → have_own_names places ≡ true → put places name n ≡ None → Agree places settings → ¬ GivesOne word (left_of places settings) left
  refused [] [] left own e agree g = elim g [ ]
  refused [] (s ∷ settings) left own e agree g = absurd agree
  refused (p ∷ places) [] left own e agree g = absurd agree
  refused (place o given ∷ places) (s ∷ settings) left own e agree g =
      no_step_by o given places s settings left (bytes_eq name o.name) refl own (λ rest f h. refused places settings rest (and_right _ _ (and_right (has_no_sign o.name) _ own)) f agree.2 h) e agree g

  -- ---- a word that was taken, again

  back_here : (o : CommandOption) (given : Option ℕ) (places after : List Place) (s : OptionSetting) (settings : List OptionSetting) → bytes_eq name o.name ≡ true
      → some_if (can_take o given n) (place o (Some n) ∷ places) ≡ Some after → Agree after (s ∷ settings) → Agree (place o given ∷ places) (s ∷ settings) × GivesOne word (left_of (place o given ∷ places) (s ∷ settings)) (left_of after (s ∷ settings))
  back_here o None places after s settings is e agree =
      let t = some_if_ok (can_take o None n) (place o (Some n) ∷ places) after e in
      let range = in_range o n t.0 in
      let Q : List Place → Type 0 = λ ps. Agree ps (s ∷ settings) → Agree (place o None ∷ places) (s ∷ settings) × GivesOne word (left_of (place o None ∷ places) (s ∷ settings)) (left_of ps (s ∷ settings)) in
      let same : name ≡ o.name = (bytes_eq-Decides name o.name).0 is in
      let one : GivesNumber word (option_setting o n) = gives-found word name n o found same range.0 range.1 in
      let P : CommandOption → Type 0 = λ x. GivesNumber word (option_setting x n) in
      let R : ℕ → Type 0 = λ k. GivesNumber word (option_setting s.option k) in
      subst Q t.1 (λ a. ((a.0, tt, a.2), first (subst R (sym a.1) (subst P (sym a.0) one)))) agree
  back_here o (Some m) places after s settings is e agree = absurd cc

  back_later : (o : CommandOption) (given : Option ℕ) (places after : List Place) (s : OptionSetting) (settings : List OptionSetting)
      → ((later : List Place) → put places name n ≡ Some later → Agree later settings → Agree places settings × GivesOne word (left_of places settings) (left_of later settings))
      → option_map (λ others. place o given ∷ others) (put places name n) ≡ Some after → Agree after (s ∷ settings) → Agree (place o given ∷ places) (s ∷ settings) × GivesOne word (left_of (place o given ∷ places) (s ∷ settings)) (left_of after (s ∷ settings))
  back_later o None places after s settings more e agree =
      let m = map_ok (λ others. place o None ∷ others) (put places name n) after e in
      let Q : List Place → Type 0 = λ ps. Agree ps (s ∷ settings) → Agree (place o None ∷ places) (s ∷ settings) × GivesOne word (left_of (place o None ∷ places) (s ∷ settings)) (left_of ps (s ∷ settings)) in
      subst Q m.2 (λ a. let t = more m.0 m.1 a.2 in ((a.0, a.1, t.0), later t.1)) agree
  back_later o (Some k) places after s settings more e agree =
      let m = map_ok (λ others. place o (Some k) ∷ others) (put places name n) after e in
      let Q : List Place → Type 0 = λ ps. Agree ps (s ∷ settings) → Agree (place o (Some k) ∷ places) (s ∷ settings) × GivesOne word (left_of (place o (Some k) ∷ places) (s ∷ settings)) (left_of ps (s ∷ settings)) in
      subst Q m.2 (λ a. let t = more m.0 m.1 a.2 in ((a.0, a.1, t.0), t.1)) agree

  back_by : (o : CommandOption) (given : Option ℕ) (places after : List Place) (s : OptionSetting) (settings : List OptionSetting) (test : Bool) → bytes_eq name o.name ≡ test
      → ((later : List Place) → put places name n ≡ Some later → Agree later settings → Agree places settings × GivesOne word (left_of places settings) (left_of later settings))
      → cond test (some_if (can_take o given n) (place o (Some n) ∷ places)) (option_map (λ others. place o given ∷ others) (put places name n)) ≡ Some after → Agree after (s ∷ settings) → Agree (place o given ∷ places) (s ∷ settings) × GivesOne word (left_of (place o given ∷ places) (s ∷ settings)) (left_of after (s ∷ settings))
  back_by o given places after s settings true is more e agree = back_here o given places after s settings is e agree
  back_by o given places after s settings false is more e agree = back_later o given places after s settings more e agree

  taken_no_settings : (o : CommandOption) (given : Option ℕ) (places after : List Place) (test : Bool) → cond test (some_if (can_take o given n) (place o (Some n) ∷ places)) (option_map (λ others. place o given ∷ others) (put places name n)) ≡ Some after → ¬ Agree after []
  taken_no_settings o given places after true e agree = let t = some_if_ok _ _ _ e in subst (λ (ps : List Place). Agree ps []) (sym t.1) agree
  taken_no_settings o given places after false e agree = let m = map_ok _ _ _ e in subst (λ (ps : List Place). Agree ps []) (sym m.2) agree

  -- the setting of the place that a word changed is one that it gives
  pub taken_again : (places after : List Place) (settings : List OptionSetting) → put places name n ≡ Some after → Agree after settings → Agree places settings × GivesOne word (left_of places settings) (left_of after settings)
  taken_again [] after settings e agree = absurd cc
  taken_again (place o given ∷ places) after [] e agree = absurd (taken_no_settings o given places after (bytes_eq name o.name) e agree)
  taken_again (place o given ∷ places) after (s ∷ settings) e agree =
      back_by o given places after s settings (bytes_eq name o.name) refl (λ later f a. taken_again places later settings f a) e agree

-- a word in which no name and number is read gives no setting
nothing_given : (word : List ℕ) → name_and_number word ≡ None → (o : CommandOption) (s : OptionSetting) → has_no_sign o.name ≡ true → s.option ≡ o → ¬ GivesNumber word s
nothing_given word e o s plain is g =
    let names : s.option.name ≡ o.name = ap (λ (x : CommandOption). x.name) is in
    let some = name_and_number-gives word s (rw names plain) g in
    absurd cc

pub nothing_read : (word : List ℕ) → name_and_number word ≡ None → (places : List Place) (settings left : List OptionSetting) → have_own_names places ≡ true → Agree places settings → ¬ GivesOne word (left_of places settings) left
nothing_read word e [] [] left own agree g = elim g [ ]
nothing_read word e [] (s ∷ settings) left own agree g = absurd agree
nothing_read word e (p ∷ places) [] left own agree g = absurd agree
nothing_read word e (place o None ∷ places) (s ∷ settings) left own agree g =
    elim (gives_cases g) [
      | inl h ↦ nothing_given word e o s (and_left _ _ own) agree.0 h.0
      | inr h ↦ nothing_read word e places settings h.0 (and_right _ _ (and_right (has_no_sign o.name) _ own)) agree.2 h.2
    ]
nothing_read word e (place o (Some m) ∷ places) (s ∷ settings) left own agree g = nothing_read word e places settings left (and_right _ _ (and_right (has_no_sign o.name) _ own)) agree.2 g
