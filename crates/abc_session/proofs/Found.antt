-- What is exported is a method trait of the last script.
use Rattle.std.proofs.Common.{◌≡◌, inl, inr, ℕ, List, [], ◌∷◌, Bool, true, false, cond, refl, sym, ap}
use Rattle.std.specs.Prelude.{IfSome, None, Some}
use Rattle.std.specs.List.{find}
use Rattle.std.specs.declared.option.Option.{Option}
use Rattle.abc_meaning.specs.Exports.{IsScriptMethod, export, is_export, exported_method, method_of_trait}
use Rattle.abc_link_names.specs.PartsByNumber.{script_at}
use Rattle.abc_meaning.specs.Throwing.{last_script}
use Rattle.abc_file_types.specs.declared.traits.TraitBody.{TraitBody}
use Rattle.abc_file_types.specs.declared.traits.TraitBody.TheVariants as bodies
use Rattle.abc_file_types.specs.declared.traits.TraitInfo.{TraitInfo}
use Rattle.abc_verify_typing.specs.Typing.{In}
use Rattle.abc_meaning.specs.Setting.{Setting}

found_among : (test : TraitInfo → Bool) (ts : List TraitInfo) (t : TraitInfo) → find test ts ≡ Some t → In t ts
found_among test [] t e = absurd cc
found_among test (x ∷ xs) t e = go (found_among test xs t) (test x) e
  where
    go : (find test xs ≡ Some t → In t xs) → (b : Bool) → cond b (Some x) (find test xs) ≡ Some t → In t (x ∷ xs)
    go more true e = let same : t ≡ x = cc in inl same
    go more false e = inr (more e)

method_there : (b : TraitBody) (m : ℕ) → exported_method b ≡ Some m → (disp : ℕ) × (b ≡ bodies.Method disp m)
method_there (bodies.Method disp n) m e = let same : n ≡ m = cc in (disp, ap (bodies.Method disp) same)
method_there (bodies.Slot id ty value constant) m e = absurd cc
method_there (bodies.Getter disp n) m e = absurd cc
method_there (bodies.Setter disp n) m e = absurd cc
method_there (bodies.Class id class) m e = absurd cc
method_there (bodies.Function id n) m e = absurd cc

export_is : (p : Setting) (text : List ℕ) (m : ℕ) → export p text ≡ Some m → IsScriptMethod p m
export_is p text m e = go (find (is_export p.linked.file text) (script_at p.linked.file (last_script p)).traits) refl e
  where
    go : (o : Option TraitInfo) → find (is_export p.linked.file text) (script_at p.linked.file (last_script p)).traits ≡ o → method_of_trait o ≡ Some m → IsScriptMethod p m
    go None f e = absurd cc
    go (Some t) f e =
        let b = method_there t.body m e in
        record { trait = t; among = found_among (is_export p.linked.file text) (script_at p.linked.file (last_script p)).traits t f; disp = b.0; is = b.1 }

pub exported : (p : Setting) (text : List ℕ) (o : Option ℕ) → o ≡ export p text → IfSome o (IsScriptMethod p)
exported p text None e = tt
exported p text (Some m) e = export_is p text m (sym e)
