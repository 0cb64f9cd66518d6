-- A method trait of the last script: its method has a body, and runs on the script's global object.
use Rattle.std.proofs.Common.{◌≡◌, inl, inr, ℕ, ◌<◌, List, [], ◌∷◌, length, refl, sym, ap, ◌∙◌, subst, arith}
use Rattle.std.specs.Prelude.{Some}
use Rattle.abc_tables.proofs.ClassesFit.{script_fits}
use Rattle.abc_tables.proofs.Combined.{position_fits}
use Rattle.abc_tables.proofs.TraitsFit.{HasFields, fields_fit, trait_fits, traits_fit}
use Rattle.abc_tables.specs.Fitting.{FitsTrait}
use Rattle.abc_meaning_sound.proofs.Filed.{definitions}
use Rattle.abc_meaning_sound.proofs.Indexed.{all_each}
use Rattle.abc_meaning_sound.proofs.Owned.{has_body, of_script_named, of_script_run, owned_by}
use Rattle.abc_heap_store.specs.Heap.{obj_id}
use Rattle.abc_heap_store.specs.Scopes.{scope_id}
use Rattle.abc_link_names.specs.Methods.{methods_among, methods_in}
use Rattle.abc_link_names.specs.PartsByNumber.{no_script, script_at}
use Rattle.abc_objects.proofs.Opened.{scope_made}
use Rattle.abc_link_names.specs.Owners.{naming, namings_among, namings_in, owner_of}
use Rattle.abc_link_names.specs.declared.types.Owner.{Owner}
use Rattle.abc_link_names.specs.declared.types.Owner.TheVariants as owners
use Rattle.abc_objects.specs.Objects.{global_number}
use Rattle.abc_file_types.specs.Classes.{sizes_of}
use Rattle.abc_file_types.specs.declared.traits.TraitBody.{TraitBody}
use Rattle.abc_file_types.specs.declared.traits.TraitBody.TheVariants as bodies
use Rattle.abc_file_types.specs.declared.traits.TraitInfo.{TraitInfo}
use Rattle.abc_verify_typing.specs.Lists.{Each}
use Rattle.abc_verify_typing.specs.Routines.{this_kind}
use Rattle.abc_verify_typing.specs.Typing.{In}
use Rattle.abc_verify_typing.proofs.Member.{in_left, in_right}
use Rattle.abc_meaning.specs.Entering.{global}
use Rattle.abc_meaning.specs.Objects.{place, place_of_owner}
use Rattle.abc_meaning.specs.Setting.{Setting}
use Rattle.abc_meaning.specs.World.{World}
use Rattle.abc_meaning.specs.Sound.{AreTypings, IsOfKind, Typings, WorldSound}
use Rattle.abc_meaning.specs.Throwing.{last_script}
use Rattle.abc_meaning_sound.specs.Given.{FileGiven, OpsGiven, OwnedSound}
use Rattle.abc_meaning_sound.proofs.Entered.{global_kind}
use Rattle.abc_meaning_sound.proofs.Lists.{inside}
use Rattle.abc_meaning.specs.Exports.{IsScriptMethod}

-- ---- among the traits of a table

each_in : {X : Type 0} (P : X → Type 0) (xs : List X) (x : X) → Each P xs → In x xs → P x
each_in P [] x a h = absurd h
each_in P (y ∷ ys) x a h = elim h [ inl e ↦ subst P (sym e) a.0 | inr more ↦ each_in P ys x a.1 more ]

body_in : (b : TraitBody) (disp m : ℕ) → b ≡ bodies.Method disp m → In m (methods_in b)
body_in b disp m e = subst (λ (x : TraitBody). In m (methods_in x)) (sym e) (inl refl)

body_named : (o : Owner) (b : TraitBody) (disp m : ℕ) → b ≡ bodies.Method disp m → In (naming o m) (namings_in o b)
body_named o b disp m e = subst (λ (x : TraitBody). In (naming o m) (namings_in o x)) (sym e) (inl refl)

method_among : (ts : List TraitInfo) (t : TraitInfo) (disp m : ℕ) → In t ts → t.body ≡ bodies.Method disp m → In m (methods_among ts)
method_among [] t disp m h e = absurd h
method_among (x ∷ xs) t disp m h e = elim h [
  | inl same ↦ in_left m (methods_in x.body) (methods_among xs) (body_in x.body disp m (ap (λ (y : TraitInfo). y.body) (sym same) ∙ e))
  | inr more ↦ in_right m (methods_in x.body) (methods_among xs) (method_among xs t disp m more e)
]

naming_among : (o : Owner) (ts : List TraitInfo) (t : TraitInfo) (disp m : ℕ) → In t ts → t.body ≡ bodies.Method disp m → In (naming o m) (namings_among o ts)
naming_among o [] t disp m h e = absurd h
naming_among o (x ∷ xs) t disp m h e = elim h [
  | inl same ↦ in_left (naming o m) (namings_in o x.body) (namings_among o xs) (body_named o x.body disp m (ap (λ (y : TraitInfo). y.body) (sym same) ∙ e))
  | inr more ↦ in_right (naming o m) (namings_in o x.body) (namings_among o xs) (naming_among o xs t disp m more e)
]

module _ (p : Setting) (file : FileGiven p) (ops : OpsGiven p) (typings : Typings) (typed : AreTypings p typings) (m : ℕ) (exported : IsScriptMethod p m) where
  abbrev s : ℕ
  s = last_script p

  there : s < length p.linked.file.scripts
  there = let one = file.one_script in omega (arith, one)

  low : m < length p.linked.file.methods
  low =
      let i = script_at p.linked.file s in
      let fits = (script_fits (sizes_of p.linked.file) i).0 ((definitions p.linked file.linked).scripts s no_script there) in
      let all = all_each (FitsTrait (sizes_of p.linked.file)) i.traits ((traits_fit (sizes_of p.linked.file) i.traits).0 fits.1).1 in
      let one = each_in (FitsTrait (sizes_of p.linked.file)) i.traits exported.trait all exported.among in
      let fields = (fields_fit (sizes_of p.linked.file) exported.trait.body).0 ((trait_fits (sizes_of p.linked.file) exported.trait).0 one).2 in
      let of : HasFields (sizes_of p.linked.file) (bodies.Method exported.disp m) = subst (HasFields (sizes_of p.linked.file)) exported.is fields in
      ((position_fits (sizes_of p.linked.file).methods m).0 of.1).0

  owner_is : owner_of p.linked.file m ≡ owners.ScriptMethod s
  owner_is = owned_by p file.linked (naming (owners.ScriptMethod s) m) low (of_script_named p file.linked s (naming (owners.ScriptMethod s) m) there (inr (naming_among (owners.ScriptMethod s) (script_at p.linked.file s).traits exported.trait exported.disp m exported.among exported.is)))

  pub owned_by_script : (w : World) → WorldSound p w → OwnedSound p w m (obj_id (global_number w.heap s))
  owned_by_script w z = record {
    body = has_body p file.linked m low (of_script_run p file.linked s m there (inr (method_among (script_at p.linked.file s).traits exported.trait exported.disp m exported.among exported.is)));
    place = place s (Some (scope_id s));
    kept = ap (λ (o : Owner). place_of_owner o w) owner_is;
    home = there;
    saved = inside w.heap.scopes s _ (scope_made p.linked w.heap s z.stands there);
    this = subst (λ (o : Owner). IsOfKind p.linked w.heap (this_kind p.linked o) (global s w)) (sym owner_is) (global_kind p file ops typings typed w s z there);
  }
