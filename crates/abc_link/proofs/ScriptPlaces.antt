-- The traits of scripts, one script after the other.
use Rattle.std.proofs.Common.{◌≡◌, ℕ, zero, suc, ◌+◌, ◌-◌, ◌<◌, Bool, true, false, List, [], ◌∷◌, ◌++◌, Some, None, cond, eqb-true, get_or, length, map, nat_eq, take, refl, sym, ap, ◌∙◌, arith, append_assoc}
use Rattle.std.proofs.lemmas.List.{append-nil, length-take, take_more}
use Rattle.std.specs.Str.{bytes_eq}
use Rattle.abc_base_graphs.specs.ByText.{names_of}
use Rattle.abc_base_graphs.specs.Groups.{places_of, some_places}
use Rattle.abc_base_graphs.specs.Texts.{number_in, texts_of}
use Rattle.abc_base_graphs.specs.declared.texts.Texts.{Texts}
use Rattle.abc_base_graphs.proofs.ByTexts.{no_places, same_places}
use Rattle.abc_link_layouts.specs.Strings.{trait_strings}
use Rattle.abc_link_names.specs.Pool.{text}
use Rattle.abc_link_names.specs.Traits.{trait_name, trait_texts}
use Rattle.abc_link.specs.ScriptTraits.{HasScripts, keys_of, owners_from, script_traits, traits_of_scripts}
use Rattle.abc_link.specs.declared.scripts.ScriptTraits.{ScriptTraits}
use Rattle.abc_file_types.specs.declared.classes.Script.{Script}
use Rattle.abc_file_types.specs.declared.tables.Abc.{Abc}
use Rattle.abc_file_types.specs.declared.traits.TraitInfo.{TraitInfo}
use Rattle.indexmap.specs.IndexMap.{get}

keys_append : (v : Abc) (numbers : List ℕ) (ts us : List TraitInfo) → keys_of v numbers (ts ++ us) ≡ keys_of v numbers ts ++ keys_of v numbers us
keys_append v numbers [] us = refl
keys_append v numbers (t ∷ ts) us = ap (λ ks. get_or numbers (trait_name v t).string 0 ∷ ks) (keys_append v numbers ts us)

traits_append : (ss : List Script) (s : Script) → traits_of_scripts (ss ++ s ∷ []) ≡ traits_of_scripts ss ++ s.traits
traits_append [] s = append-nil s.traits
traits_append (r ∷ ss) s = ap (λ ts. r.traits ++ ts) (traits_append ss s) ∙ sym (append_assoc r.traits (traits_of_scripts ss) s.traits)

owners_append : (n : ℕ) (ss : List Script) (s : Script) → owners_from n (ss ++ s ∷ []) ≡ owners_from n ss ++ map (λ (t : TraitInfo). n + length ss) s.traits
owners_append n [] s = let z : n ≡ n + 0 = omega arith in append-nil (map (λ (t : TraitInfo). n) s.traits) ∙ ap (λ k. map (λ (t : TraitInfo). k) s.traits) z
owners_append n (r ∷ ss) s =
    let e : n + 1 + length ss ≡ n + length (r ∷ ss) = omega arith in
    ap (λ os. map (λ (t : TraitInfo). n) r.traits ++ os) (owners_append (n + 1) ss s)
    ∙ sym (append_assoc (map (λ (t : TraitInfo). n) r.traits) (owners_from (n + 1) ss) (map (λ (t : TraitInfo). n + 1 + length ss) s.traits))
    ∙ ap (λ k. (map (λ (t : TraitInfo). n) r.traits ++ owners_from (n + 1) ss) ++ map (λ (t : TraitInfo). k) s.traits) e

-- one script more
pub keys_next : (v : Abc) (numbers old new : List ℕ) (ss : List Script) (i : ℕ) (s : Script) → i < length ss → s ≡ get_or ss i s → old ≡ keys_of v numbers (traits_of_scripts (take i ss)) → new ≡ old ++ keys_of v numbers s.traits
    → new ≡ keys_of v numbers (traits_of_scripts (take (i + 1) ss))
keys_next v numbers old new ss i s lt is e en =
    en ∙ ap (λ (ks : List ℕ). ks ++ keys_of v numbers s.traits) e
    ∙ sym (keys_append v numbers (traits_of_scripts (take i ss)) s.traits)
    ∙ ap (keys_of v numbers) (sym (traits_append (take i ss) s))
    ∙ ap (λ (r : Script). keys_of v numbers (traits_of_scripts (take i ss ++ r ∷ []))) is
    ∙ ap (λ (rs : List Script). keys_of v numbers (traits_of_scripts rs)) (sym (take_more ss i s lt))

pub owners_next : (old new : List ℕ) (ss : List Script) (i : ℕ) (s : Script) → i < length ss → s ≡ get_or ss i s → old ≡ owners_from 0 (take i ss) → new ≡ old ++ map (λ (t : TraitInfo). i) s.traits
    → new ≡ owners_from 0 (take (i + 1) ss)
owners_next old new ss i s lt is e en =
    let n : i ≡ 0 + length (take i ss) = omega (arith, length-take i ss) in
    en ∙ ap (λ (os : List ℕ). os ++ map (λ (t : TraitInfo). i) s.traits) e
    ∙ ap (λ k. owners_from 0 (take i ss) ++ map (λ (t : TraitInfo). k) s.traits) n
    ∙ sym (owners_append 0 (take i ss) s)
    ∙ ap (λ (r : Script). owners_from 0 (take i ss ++ r ∷ [])) is
    ∙ ap (owners_from 0) (sym (take_more ss i s lt))

-- ---- look-ups

text_entry : (v : Abc) (i : ℕ) → get_or (texts_of v.strings) i [] ≡ text v i
text_entry v zero = refl
text_entry v (suc i) = sym (go (nat_eq (suc i) 0) refl)
  where
    go : (b : Bool) → nat_eq (suc i) 0 ≡ b → cond b [] (get_or v.strings (suc i - 1) []) ≡ get_or v.strings i []
    go true e = let q = eqb-true (suc i) 0 e in absurd (omega arith)
    go false e = let q : suc i - 1 ≡ i = omega arith in ap (λ m. get_or v.strings m []) q

texts_are : (v : Abc) (ts : List TraitInfo) → names_of v.strings (trait_strings v ts) ≡ trait_texts v ts
texts_are v [] = refl
texts_are v (x ∷ ts) =
    ap (λ (t : List ℕ). t ∷ names_of v.strings (trait_strings v ts)) (text_entry v (trait_name v x).string) ∙ ap (λ (us : List (List ℕ)). text v (trait_name v x).string ∷ us) (texts_are v ts)

pub numbered : (v : Abc) (t : Texts) (s : ScriptTraits) (k : ℕ) (u : List ℕ) → HasScripts v t s → number_in t u ≡ Some k → get nat_eq s.groups k ≡ script_traits v u
numbered v t s k u h is =
    same_places t v.strings s.groups (trait_strings v (traits_of_scripts v.scripts)) u k h.grouped is
    ∙ ap (λ (us : List (List ℕ)). some_places (places_of (bytes_eq u) us)) (texts_are v (traits_of_scripts v.scripts))

pub unnumbered : (v : Abc) (t : Texts) (s : ScriptTraits) (u : List ℕ) → HasScripts v t s → number_in t u ≡ None → None ≡ script_traits v u
unnumbered v t s u h is =
    no_places t v.strings s.groups (trait_strings v (traits_of_scripts v.scripts)) u h.grouped is
    ∙ ap (λ (us : List (List ℕ)). some_places (places_of (bytes_eq u) us)) (texts_are v (traits_of_scripts v.scripts))
