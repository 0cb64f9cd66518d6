-- What is given of a verified file: the layouts of activations and catch objects, and the bases of classes.
use Rattle.std.proofs.Common.{◌≡◌, ℕ, zero, suc, ◌+◌, ◌<◌, List, [], ◌∷◌, length, sym, ap, ◌∙◌, subst, arith}
use Rattle.std.specs.Prelude.{true, slice_get, Some}
use Rattle.abc_base.specs.declared.names.HostClass.TheVariants as hosts
use Rattle.abc_heap_store.specs.Heap.{Heap}
use Rattle.abc_base_graphs.specs.Index.{first}
use Rattle.abc_objects.proofs.Made.{host_found, part_found}
use Rattle.abc_link_names.specs.Linked.{IsLinkedFile, LinkedFile, layout_of}
use Rattle.abc_link_names.specs.Numbering.{part_at}
use Rattle.abc_link_names.specs.Parts.{HasLayout, has_activation}
use Rattle.abc_link_names.specs.declared.part.LayoutId.{LayoutId}
use Rattle.abc_link_names.specs.declared.part.Part.{Part}
use Rattle.abc_link_names.specs.declared.part.Part.TheVariants as parts
use Rattle.abc_link_names.specs.PartsByNumber.{body_at}
use Rattle.abc_file_types.specs.declared.code.Handler.{Handler}
use Rattle.abc_verify_typing.specs.Routines.{Routine, catches_from}
use Rattle.abc_verify_typing.specs.declared.catch.Catch.{Catch}
use Rattle.abc_meaning.specs.Setting.{Setting, routine_of}
use Rattle.abc_meaning.specs.Sound.{PartSound}
use Rattle.abc_link_names.proofs.ClassBases.{above_base, bases_known}
use Rattle.abc_meaning_sound.specs.Given.{IsScopeLayout, ScopesGiven}
use Rattle.abc_meaning_sound.proofs.Growing.{first_is}
use Rattle.abc_meaning_sound.proofs.Filed.{routine_found}

catch_at : (l : LinkedFile) (b e : ℕ) (hs : List Handler) (i : ℕ) (c : Catch) → slice_get (catches_from l b e hs) i ≡ Some c → (c.layout ≡ layout_of l (parts.Catch b (e + i))) × (i < length hs)
catch_at l b e [] i c q = absurd cc
catch_at l b e (h ∷ hs) zero c q =
    let same : layout_of l (parts.Catch b e) ≡ c.layout = cc in
    let here : e ≡ e + 0 = omega arith in
    (sym same ∙ ap (λ (x : ℕ). layout_of l (parts.Catch b x)) here, omega arith)
catch_at l b e (h ∷ hs) (suc i) c q =
    let r = catch_at l b (suc e) hs i c q in
    let next : suc e + i ≡ e + suc i = omega arith in
    let low = r.1 in
    (r.0 ∙ ap (λ (x : ℕ). layout_of l (parts.Catch b x)) next, omega (arith, low))

-- ---- layouts

module _ (p : Setting) (linked : IsLinkedFile p.linked) where
  layout_is : (x : Part) → HasLayout p.linked.file x → (x ≡ parts.Host hosts.Array → ⊥) → ((h : Heap) → PartSound p.linked h x) → IsScopeLayout p (layout_of p.linked x).0
  layout_is x has other sound =
      let f = part_found p.linked linked x has in
      let a = host_found p.linked linked hosts.Array in
      record {
        layout = f.0;
        no_array = λ e. other (sym f.1 ∙ ap (part_at p.linked.parts) e ∙ a.1);
        part = λ h. subst (PartSound p.linked h) (sym f.1) (sound h);
        first_of = first_is p.linked x f.1;
      }

  activation_layout : (n : ℕ) (r : Routine) → routine_of p n ≡ Some r → r.needs_activation ≡ true → IsScopeLayout p r.activation.0
  activation_layout n r e a =
      let b = routine_found p linked n r e in
      let has : has_activation p.linked.file b.body ≡ true = sym (ap (λ (x : Routine). x.needs_activation) b.routine_is) ∙ a in
      subst (IsScopeLayout p) (ap (λ (x : Routine). x.activation.0) (sym b.routine_is)) (layout_is (parts.Activation b.body) (b.is.low, has) (λ q. cc) (λ h. tt))

  catch_layout : (n : ℕ) (r : Routine) (i : ℕ) (c : Catch) → routine_of p n ≡ Some r → slice_get r.handlers i ≡ Some c → IsScopeLayout p c.layout.0
  catch_layout n r i c e at =
      let b = routine_found p linked n r e in
      let k = catch_at p.linked b.body 0 (body_at p.linked.file b.body).handlers i c (sym (ap (λ (x : Routine). slice_get x.handlers i) b.routine_is) ∙ at) in
      let same : 0 + i ≡ i = omega arith in
      subst (IsScopeLayout p) (ap (λ (x : LayoutId). x.0) (sym (k.0 ∙ ap (λ (x : ℕ). layout_of p.linked (parts.Catch b.body x)) same))) (layout_is (parts.Catch b.body i) (b.is.low, k.1) (λ q. cc) (λ h. tt))

  pub scopes_given : ScopesGiven p
  scopes_given = record { activations = activation_layout; catches = catch_layout; bases = bases_known p.linked linked; above = above_base p.linked linked }
