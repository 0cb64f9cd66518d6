-- The base of a class, by the layouts of the file, and its prototype.
use Rattle.std.proofs.Common.{◌≡◌, ◌≢◌, ◌∙◌, ℕ, ◌<◌, true, false, length, sym, ap, subst, Bool, eq-eqb, ne_eqb, if◌then◌else◌}
use Rattle.std.specs.Prelude.{Some, None, unwrap_or}
use Rattle.std.specs.declared.option.Option.{Option}
use Rattle.abc_base.specs.declared.names.HostClass.TheVariants as hosts
use Rattle.abc_heap_values.specs.declared.values.ObjId.{ObjId}
use Rattle.abc_heap_values.specs.declared.values.Value.{Value}
use Rattle.abc_heap_values.specs.declared.values.Value.TheVariants.{Obj}
use Rattle.std.proofs.lemmas.Bool.{false≢true}
use Rattle.abc_link_names.proofs.ClassBases.{bases_known}
use Rattle.abc_link_names.specs.Bases.{base_named, is_some_class}
use Rattle.abc_link_names.specs.declared.named.Named.{Named}
use Rattle.abc_link_names.specs.declared.named.Named.TheVariants as named
use Rattle.abc_objects.specs.Stands.{prototype_of}
use Rattle.abc_objects.proofs.Made.{part_found}
use Rattle.abc_link_names.specs.Linked.{IsLinkedFile, LinkedFile, above, layout_of}
use Rattle.abc_link_names.specs.Numbering.{part_at}
use Rattle.abc_link_names.specs.Parts.{HasLayout, base_part, parent}
use Rattle.abc_link_names.specs.Places.{place_under}
use Rattle.abc_link_names.specs.declared.part.Part.{Part}
use Rattle.abc_link_names.specs.declared.part.Part.TheVariants as parts
use Rattle.abc_link_names.specs.ClassBases.{BaseKnown}
use Rattle.abc_meaning.specs.Newing.{is_same_object}
use Rattle.abc_meaning.specs.Making.{prototype_in}
use Rattle.abc_meaning.specs.World.{Errs, Outcome, Run, Stopped, Went, World, see, throws}
use Rattle.abc_run_members.specs.declared.bases.Base.{Base}
use Rattle.abc_run_members.specs.declared.bases.Base.TheVariants as bases
use Rattle.abc_run_members.specs.Based.{IsBase, IsClassPart, named_of}

-- the layout above that of a class is that of its base
up_is : (l : LinkedFile) → IsLinkedFile l → (k : ℕ) → k < length l.file.instances → above l (layout_of l (parts.Instance k)).0 ≡ (layout_of l (base_part (base_named l.file k))).0
up_is l f k b =
    let at = (part_found l f (parts.Instance k) b).1 in
    ap (λ (r : Part). unwrap_or (place_under l.parts (parent l.file r)) 0) at

base_has : (l : LinkedFile) (o : Option Named) → BaseKnown l o → HasLayout l.file (base_part o)
base_has l None h = tt
base_has l (Some (named.Host c)) h = tt
base_has l (Some (named.Class j)) h = h
base_has l (Some named.Any) h = tt
base_has l (Some named.Void) h = tt

pub base_found : (l : LinkedFile) → IsLinkedFile l → (k x : ℕ) → k < length l.file.instances → x ≡ above l (layout_of l (parts.Instance k)).0 → (x < length l.parts) × (part_at l.parts x ≡ base_part (base_named l.file k))
base_found l f k x b e =
    let r = part_found l f (base_part (base_named l.file k)) (base_has l (base_named l.file k) (bases_known l f k b)) in
    let is = e ∙ up_is l f k b in
    (subst (λ (y : ℕ). y < length l.parts) (sym is) r.0, ap (part_at l.parts) is ∙ r.1)

-- ---- what a part is the base of

pub base_is_class : (o : Option Named) → IsClassPart (base_part o)
base_is_class None = tt
base_is_class (Some (named.Host c)) = tt
base_is_class (Some (named.Class j)) = tt
base_is_class (Some named.Any) = tt
base_is_class (Some named.Void) = tt

pub same_base : (o r : Option Named) → is_some_class o ≡ true → is_some_class r ≡ true → base_part o ≡ base_part r → o ≡ r
same_base (Some (named.Class j)) (Some (named.Class k)) s t e = let q : j ≡ k = cc in ap (λ n. Some (named.Class n)) q
same_base (Some (named.Host c)) (Some (named.Host d)) s t e = let q : c ≡ d = cc in ap (λ n. Some (named.Host n)) q
same_base (Some (named.Class j)) (Some (named.Host d)) s t e = absurd cc
same_base (Some (named.Host c)) (Some (named.Class k)) s t e = absurd cc
same_base None r s t e = absurd (false≢true s)
same_base (Some named.Any) r s t e = absurd (false≢true s)
same_base (Some named.Void) r s t e = absurd (false≢true s)
same_base (Some (named.Class j)) None s t e = absurd (false≢true t)
same_base (Some (named.Class j)) (Some named.Any) s t e = absurd (false≢true t)
same_base (Some (named.Class j)) (Some named.Void) s t e = absurd (false≢true t)
same_base (Some (named.Host c)) None s t e = absurd (false≢true t)
same_base (Some (named.Host c)) (Some named.Any) s t e = absurd (false≢true t)
same_base (Some (named.Host c)) (Some named.Void) s t e = absurd (false≢true t)

pub base_known : (l : LinkedFile) (b : Base) → BaseKnown l (named_of b) → IsBase l b
base_known l bases.Nothing h = tt
base_known l (bases.Class k) h = h
base_known l (bases.Host c) h = tt

-- ---- whether a value is the class object

asking : ObjId → Bool → World → Outcome (Option ObjId)
asking o b w = let r : Run (Option ObjId) = if b then see (prototype_in o) else throws hosts.TypeError in r w

pub that_is : (made : Option ObjId) (v : Value) (o given : ObjId) (w : World) (r : Option ObjId) → made ≡ Some o → v ≡ Obj given → o.0 ≡ given.0 → r ≡ prototype_of w.heap o.0 → is_same_object made v w ≡ Went w r
unfolding asking
that_is made v o given w r em ev same e =
    ap (λ x. is_same_object x v w) em ∙ ap (λ x. is_same_object (Some o) x w) ev ∙ ap (λ b. asking o b w) (eq-eqb o.0 given.0 same) ∙ ap (Went w) (sym e)

pub other_that : (made : Option ObjId) (v : Value) (o given : ObjId) (w : World) → made ≡ Some o → v ≡ Obj given → (o.0 ≡ given.0 → ⊥) → is_same_object made v w ≡ Stopped w (Errs hosts.TypeError)
unfolding asking
other_that made v o given w em ev ne = ap (λ x. is_same_object x v w) em ∙ ap (λ x. is_same_object (Some o) x w) ev ∙ ap (λ b. asking o b w) (ne_eqb o.0 given.0 ne)
