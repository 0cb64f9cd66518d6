-- An element that a number on the stack tells: the number's text is made, and names that element.
use Rattle.std.proofs.Common.{◌≡◌, ℕ, ℤ, ◌<◌, ◌≤◌, Bool, true, List, [], ◌∷◌, ◌++◌, cond, length, take, refl, sym, ap, ◌∙◌, subst, arith}
use Rattle.std.specs.Prelude.{MatchOption, Some, None, pos, slice_get}
use Rattle.std.specs.declared.option.Option.{Option}
use Rattle.std.specs.Fmt.{decimal}
use Rattle.std.proofs.Math.Seq.{drop-append_seam}
use Rattle.std.proofs.lemmas.List.{take_all}
use Rattle.abc_heap_values.specs.declared.values.ObjId.{ObjId}
use Rattle.abc_heap_values.specs.declared.values.Span.{Span}
use Rattle.abc_heap_values.specs.declared.values.Value.{Value}
use Rattle.abc_heap_values.specs.declared.values.Value.TheVariants as values
use Rattle.abc_heap_store.specs.Heap.{Heap, Object, elements_of, object_at}
use Rattle.abc_heap_store.specs.Texts.{IsTextMade, text_of}
use Rattle.abc_heap_store.specs.What.{is_array}
use Rattle.abc_lookup.proofs.NoTraits.{own_element}
use Rattle.abc_lookup.proofs.Stands.{delegates_fall}
use Rattle.abc_lookup.specs.declared.elements.ElementName.TheVariants.{Number}
use Rattle.abc_lookup.specs.Named.{element_name_on}
use Rattle.abc_lookup.specs.NoTraits.{HasNoTraits, IsWithoutTraits}
use Rattle.abc_meaning.specs.Names.{name_by_form}
use Rattle.abc_run_members.proofs.Cases.{reads_as}
use Rattle.abc_run_members.proofs.ElementsHeld.{element_taken}
use Rattle.abc_run_members.proofs.Searched.{object_inside}
use Rattle.abc_objects.specs.Stands.{StandsOver}
use Rattle.abc_objects.specs.Values.{IsObject}
use Rattle.abc_ops.proofs.Making.{made_is}
use Rattle.abc_ops.specs.Conversions.{spelling}
use Rattle.abc_link_names.specs.Linked.{LinkedFile}
use Rattle.abc_run_members.proofs.Numerals.{decimal_name, decimal_number}
use Rattle.abc_run_members.specs.AtOnce.{TellsElement}
use Rattle.abc_objects.specs.Spaces.{name_holds_public}
use Rattle.abc_objects.specs.ElementNames.{IsNumber, element_name, element_number}
use Rattle.abc_objects.specs.declared.found.Found.TheVariants as founds
use Rattle.abc_objects.specs.declared.found.Want.TheVariants.{Read}
use Rattle.abc_objects.specs.declared.name.Name.{Name}
use Rattle.abc_objects.specs.declared.name.Spaces.{Spaces}
use Rattle.abc_run_state.proofs.Operated.{operated_ok}
use Rattle.abc_run_state.specs.Outer.{at_heap}
use Rattle.abc_meaning.specs.Calling.{Got, got}
use Rattle.abc_meaning.specs.Members.{reads, write_element, writes_to}
use Rattle.abc_meaning.specs.Setting.{NoText, Setting}
use Rattle.abc_meaning.specs.World.{Outcome, Run, Went, World, and_then, pure, some, ◌>>=◌}

-- ---- the text of a number

pub text_made : (pool : List (List ℕ)) (old new : Heap) (s : Span) (bytes : List ℕ) → IsTextMade old new s bytes → text_of pool new s ≡ bytes
text_made pool old new s bytes m =
    ap (λ (h : Heap). text_of pool h s) m.heap
    ∙ ap (λ (x : Span). text_of pool (record old { made = old.made ++ bytes }) x) m.span
    ∙ ap (take (length bytes)) (drop-append_seam old.made bytes)
    ∙ take_all (length bytes) bytes (omega arith)

pub name_made : (p : Setting) (of : Spaces) (k : ℕ) (w : World) (new : Heap) (s : Span) → IsTextMade w.heap new s (decimal k) → name_by_form p (Some (NoText of)) (values.Num (pos k) ∷ []) w ≡ Went (at_heap new w) (record { spaces = of; text = s })
name_made p of k w new s m =
    let named_by : Span → Run Name = λ text. pure (record { spaces = of; text = text }) in
    ap (λ (o : Outcome Span). and_then o named_by) (operated_ok (λ h. spelling p.linked h (values.Num (pos k))) w s new (made_is w.heap new s (decimal k) m))

-- ---- what is told, and that it stays so

pub number_of : (h : Heap) (o : ObjId) (asked : Value) (n : ℤ) (r : Option ℕ) → asked ≡ values.Num n → MatchOption r (Unit {0}) (λ k. (n ≡ pos k) × (k ≤ 4294967294) × (k < length (elements_of h.objects o.0)))
    → MatchOption r (Unit {0}) (λ k. (asked ≡ values.Num (pos k)) × (k ≤ 4294967294) × (k < length (elements_of h.objects o.0)))
number_of h o asked n None is m = tt
number_of h o asked n (Some k) is m = (is ∙ ap values.Num m.0, m.1, m.2)

pub told_of : (l : LinkedFile) (h : Heap) (of : Spaces) (o : ObjId) (asked : Value) (name : Name) (r : Option ℕ) → name.spaces ≡ of → IsWithoutTraits l h o name → is_array (object_at h.objects o.0).what ≡ true
    → MatchOption r (Unit {0}) (λ k. (asked ≡ values.Num (pos k)) × (k ≤ 4294967294) × (k < length (elements_of h.objects o.0))) → MatchOption r (Unit {0}) (TellsElement l h of o asked)
told_of l h of o asked name None e plain array m = tt
told_of l h of o asked name (Some k) e plain array m = record { number = m.0; few = m.1; there = m.2; array = array; bare = plain.bare; public = subst (λ (x : Spaces). name_holds_public l x ≡ true) e plain.public }

pub told_stays : (l : LinkedFile) (old new : Heap) (of : Spaces) (o : ObjId) (asked : Value) (k : ℕ) (s : Span) (bytes : List ℕ) → IsTextMade old new s bytes → TellsElement l old of o asked k → TellsElement l new of o asked k
told_stays l old new of o asked k s bytes m t =
    let same : old.objects ≡ new.objects = sym (ap (λ (h : Heap). h.objects) m.heap) in
    record {
      number = t.number;
      few = t.few;
      there = subst (λ (obs : List Object). k < length (elements_of obs o.0)) same t.there;
      array = subst (λ (obs : List Object). is_array (object_at obs o.0).what ≡ true) same t.array;
      bare = subst (λ (obs : List Object). HasNoTraits l (object_at obs o.0).layout) same t.bare;
      public = t.public;
    }

pub object_stays : (old new : Heap) (o : ObjId) (s : Span) (bytes : List ℕ) → IsTextMade old new s bytes → IsObject old o → IsObject new o
object_stays old new o s bytes m h = subst (λ (obs : List Object). o.0 < length obs) (sym (ap (λ (x : Heap). x.objects) m.heap)) h

pub plain_of : (l : LinkedFile) (h : Heap) (of : Spaces) (o : ObjId) (asked : Value) (k : ℕ) (s : Span) → TellsElement l h of o asked k → IsWithoutTraits l h o (record { spaces = of; text = s })
plain_of l h of o asked k s t = record { bare = t.bare; public = t.public }

-- ---- it is read

pub element_read : (p : Setting) (w : World) (new : Heap) (of : Spaces) (o : ObjId) (asked : Value) (k : ℕ) (s : Span) (x : Value) → IsTextMade w.heap new s (decimal k) → TellsElement p.linked w.heap of o asked k → StandsOver p.linked new → IsObject w.heap o
    → slice_get (elements_of new.objects o.0) k ≡ Some x → reads p (values.Obj o) (record { spaces = of; text = s }) (at_heap new w) ≡ Went (at_heap new w) (Got x)
element_read p w new of o asked k s x m t over inner is =
    let l = p.linked in
    let u = at_heap new w in
    let name : Name = record { spaces = of; text = s } in
    let told = told_stays l w.heap new of o asked k s (decimal k) m t in
    let number : element_number (text_of l.file.strings new s) ≡ Some k = ap element_number (text_made l.file.strings w.heap new s (decimal k) m) ∙ decimal_number k t.few in
    let found = own_element l new o name Read k (plain_of l new of o asked k s told) (delegates_fall l new over) told.array number told.there in
    reads_as p (values.Obj o) name (founds.Element o k) u refl found
    ∙ ap (λ (r : Option Object). and_then (and_then (some r u) (λ ob. some (slice_get ob.elements k))) got) (object_inside new.objects o.0 (object_stays w.heap new o s (decimal k) m inner))
    ∙ ap (λ (r : Option Value). and_then (some r u) got) is

-- ---- it is written

pub element_written : (p : Setting) (w : World) (new : Heap) (of : Spaces) (o : ObjId) (asked : Value) (k : ℕ) (s : Span) (x : Value) (initial : Bool) → IsTextMade w.heap new s (decimal k) → TellsElement p.linked w.heap of o asked k → IsObject w.heap o
    → writes_to p (values.Obj o) (record { spaces = of; text = s }) x initial (at_heap new w) ≡ (write_element o (length (elements_of new.objects o.0)) k x >>= λ u. got values.Undefined) (at_heap new w)
element_written p w new of o asked k s x initial m t inner =
    let l = p.linked in
    let told = told_stays l w.heap new of o asked k s (decimal k) m t in
    let name : element_name (text_of l.file.strings new s) ≡ Some (IsNumber k) = ap element_name (text_made l.file.strings w.heap new s (decimal k) m) ∙ decimal_name k t.few in
    let on : element_name_on l new o s ≡ Some (IsNumber k) = ap (λ (b : Bool). cond b (element_name (text_of l.file.strings new s)) None) told.array ∙ name in
    element_taken p o (record { spaces = of; text = s }) x initial (at_heap new w) (Number k) k (object_stays w.heap new o s (decimal k) m inner) (plain_of l new of o asked k s told) (sym on) refl
