-- What a look-up by an equivalent key finds after an insertion.
use Rattle.std.proofs.Common.{◌≡◌, ℕ, ◌+◌, ◌<◌, List, [], ◌∷◌, Bool, true, false, cond, Some, refl, sym, ap, ◌∙◌, drop, length, get_or, ◌-◌, ◌≤◌, ◌⊎◌, inl, inr, arith, Vec, Global}
use Rattle.std.proofs.lemmas.Bool.{false≢true}
use Rattle.std.specs.declared.option.Option.{Option}
use Rattle.std.specs.Map.{lookup}
use Rattle.std.specs.Str.{bytes_eq}
use Rattle.std.proofs.lemmas.List.{drop_more}
use Rattle.std.proofs.lemmas.Cmp.{nat_list_eq_equiv}
use Rattle.indexmap.specs.IndexMap.{get, insert_entry}
use Rattle.abc_base_graphs.specs.Index.{FindsFrom, Map, first_from}

module _ {K : Type 0} (eq : K → K → Bool) (test : K → Bool) (symm : (x y : K) → eq x y ≡ eq y x) (alike : (x y : K) → test x ≡ true → test y ≡ eq x y) where
  same : (k x : K) → eq k x ≡ true → (a b : Bool) → test k ≡ a → test x ≡ b → test k ≡ test x
  same k x e true b p q = p ∙ sym (alike k x p ∙ e)
  same k x e false true p q = alike x k q ∙ symm x k ∙ e ∙ sym q
  same k x e false false p q = p ∙ sym q

  apart : (k x : K) → eq k x ≡ false → (a b : Bool) → test k ≡ a → test x ≡ b → (a ≡ false) ⊎ (b ≡ false)
  apart k x ne false b p q = inl refl
  apart k x ne true false p q = inr refl
  apart k x ne true true p q = let e : false ≡ true = sym ne ∙ sym (alike k x p) ∙ q in absurd (false≢true e)

swap_cond : {X : Type 0} (a b : Bool) (x y z : X) → (a ≡ false) ⊎ (b ≡ false) → cond b y (cond a x z) ≡ cond a x (cond b y z)
swap_cond false b x y z h = refl
swap_cond true false x y z h = refl
swap_cond true true x y z (inl e) = absurd (false≢true (sym e))
swap_cond true true x y z (inr e) = absurd (false≢true (sym e))

keep_cond : {X : Type 0} (a b : Bool) (x y z : X) → a ≡ b → cond b x z ≡ cond a x (cond b y z)
keep_cond true true x y z e = refl
keep_cond false false x y z e = refl
keep_cond true false x y z e = absurd (false≢true (sym e))
keep_cond false true x y z e = absurd (false≢true e)

module _ {K V : Type 0} (eq : K → K → Bool) (test : K → Bool) (symm : (x y : K) → eq x y ≡ eq y x) (alike : (x y : K) → test x ≡ true → test y ≡ eq x y) where
  pub lookup-insert_entry : (es : List (K × V)) (k : K) (v : V) → lookup test (insert_entry eq es k v) ≡ cond (test k) (Some v) (lookup test es)
  lookup-insert_entry [] k v = refl
  lookup-insert_entry (e ∷ es) k v = go (lookup-insert_entry es k v) (eq k e.0) refl
    where
      go : lookup test (insert_entry eq es k v) ≡ cond (test k) (Some v) (lookup test es) → (b : Bool) → eq k e.0 ≡ b → lookup test (cond b ((e.0, v) ∷ es) (e ∷ insert_entry eq es k v)) ≡ cond (test k) (Some v) (cond (test e.0) (Some e.1) (lookup test es))
      go more true is = keep_cond (test k) (test e.0) (Some v) (Some e.1) (lookup test es) (same eq test symm alike k e.0 is (test k) (test e.0) refl refl)
      go more false is =
          ap (λ o. cond (test e.0) (Some e.1) o) more
          ∙ swap_cond (test k) (test e.0) (Some v) (Some e.1) (lookup test es) (apart eq test symm alike k e.0 is (test k) (test e.0) refl refl)

-- ---- texts

pub text_inserted : (text : List ℕ) (es : List (Vec ℕ Global × ℕ)) (k : Vec ℕ Global) (n : ℕ) → lookup (λ k. bytes_eq text k.items) (insert_entry (λ x y. bytes_eq x.items y.items) es k n) ≡ cond (bytes_eq text k.items) (Some n) (lookup (λ k. bytes_eq text k.items) es)
text_inserted text es k n =
    lookup-insert_entry
    (λ (x y : Vec ℕ Global). bytes_eq x.items y.items)
    (λ (k : Vec ℕ Global). bytes_eq text k.items)
    (λ x y. nat_list_eq_equiv.symm x.items y.items)
    (λ x y e. nat_list_eq_equiv.congr text x.items y.items e)
    es k n

-- one more text, from the end on
pub text_more : (strings : List (List ℕ)) (i : ℕ) (items text : List ℕ) (old : Option ℕ) → 0 < i → i ≤ length strings → items ≡ get_or strings (i - 1) [] → old ≡ first_from (bytes_eq text) (i + 1) (drop i strings) → cond (bytes_eq text items) (Some (i - 1 + 1)) old ≡ first_from (bytes_eq text) (i - 1 + 1) (drop (i - 1) strings)
text_more strings i items text old pos within is was =
    let e : i - 1 + 1 ≡ i = omega arith in
    let lt : i - 1 < length strings = omega arith in
    rw (drop_more strings (i - 1) [] lt, e, is) (ap (λ o. cond (bytes_eq text (get_or strings (i - 1) [])) (Some i) o) was)

pub text_last : (strings : List (List ℕ)) (i : ℕ) (text : List ℕ) (old : Option ℕ) → i ≡ 0 → old ≡ first_from (bytes_eq text) (i + 1) (drop i strings) → old ≡ first_from (bytes_eq text) 1 strings
text_last strings i text old e was = was ∙ ap (λ n. first_from (bytes_eq text) (n + 1) (drop n strings)) e

-- ---- keys

-- one more key, from the end on
pub index_more : {K : Type 0} (eq : K → K → Bool) (symm : (x y : K) → eq x y ≡ eq y x) (old new : Map K) (keys : List K) (i : ℕ) (key : K) → 0 < i → i ≤ length keys → key ≡ get_or keys (i - 1) key → ((q : K) → get eq new q ≡ cond (eq key q) (Some (i - 1)) (get eq old q)) → FindsFrom eq old keys i → FindsFrom eq new keys (i - 1)
index_more {K} eq symm old new keys i key pos within is updates was =
    record {
      finds =
          λ q.
          let e : i ≡ i - 1 + 1 = omega arith in
          let lt : i - 1 < length keys = omega arith in
          updates q
          ∙ ap (λ (b : Bool). cond b (Some (i - 1)) (get eq old q)) (symm key q)
          ∙ ap (λ (o : Option ℕ). cond (eq q key) (Some (i - 1)) o) (was.finds q)
          ∙ ap (λ (j : ℕ). cond (eq q key) (Some (i - 1)) (first_from (eq q) j (drop j keys))) e
          ∙ ap (λ (k : K). cond (eq q k) (Some (i - 1)) (first_from (eq q) (i - 1 + 1) (drop (i - 1 + 1) keys))) is
          ∙ ap (λ (l : List K). first_from (eq q) (i - 1) l) (sym (drop_more keys (i - 1) key lt));
    }
