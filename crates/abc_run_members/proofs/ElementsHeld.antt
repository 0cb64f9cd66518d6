-- An element that is there is replaced, by a name of which no search is made.
use Rattle.std.proofs.Common.{◌≡◌, ℕ, ◌<◌, length, Bool, true, refl, sym, ap, ◌∙◌}
use Rattle.std.specs.Prelude.{MatchOption, Some, None}
use Rattle.std.specs.declared.option.Option.{Option}
use Rattle.abc_heap_values.specs.declared.values.ObjId.{ObjId}
use Rattle.abc_heap_values.specs.declared.values.Value.{Value}
use Rattle.abc_heap_values.specs.declared.values.Value.TheVariants as values
use Rattle.abc_heap_store.specs.Heap.{elements_of, object_at}
use Rattle.abc_lookup.proofs.NoTraits.{none_declared}
use Rattle.abc_lookup.specs.Named.{element_in, element_name_on}
use Rattle.abc_lookup.specs.declared.elements.ElementName as code
use Rattle.abc_lookup.specs.NoTraits.{IsWithoutTraits}
use Rattle.abc_objects.specs.Values.{IsObject}
use Rattle.abc_link_names.specs.Linked.{LinkedFile}
use Rattle.abc_objects.specs.Candidates.{layout_at}
use Rattle.abc_objects.specs.ElementNames.{ElementName, IsNumber}
use Rattle.abc_objects.specs.declared.found.Found.TheVariants as founds
use Rattle.abc_objects.specs.declared.found.Want.TheVariants.{Write}
use Rattle.abc_objects.specs.declared.name.Name.{Name}
use Rattle.abc_run_state.specs.Outer.{Outer, setting_in, world}
use Rattle.abc_run_state.specs.declared.state.State.{State}
use Rattle.abc_meaning.specs.Calling.{got}
use Rattle.abc_meaning.specs.Members.{write_element, write_own, writes_to}
use Rattle.abc_meaning.specs.Setting.{Setting}
use Rattle.abc_meaning.specs.World.{Outcome, World, and_then, ◌>>=◌}
use Rattle.abc_run_members.proofs.Cases.{missing_written, public_kept, writes_as}
use Rattle.abc_run_members.proofs.Written.{property_written}

pub element_taken : (p : Setting) (o : ObjId) (n : Name) (x : Value) (initial : Bool) (w : World) (e : code.ElementName) (k : ℕ) → IsObject w.heap o → IsWithoutTraits p.linked w.heap o n → element_in (Some e) ≡ element_name_on p.linked w.heap o n.text → element_in (Some e) ≡ Some (IsNumber k)
    → writes_to p (values.Obj o) n x initial w ≡ (write_element o (length (elements_of w.heap.objects o.0)) k x >>= λ u. got values.Undefined) w
element_taken p o n x initial w e k inner plain is number =
    writes_as p o n x initial (layout_at w.heap o.0) founds.Missing w inner refl (none_declared p.linked w.heap (layout_at w.heap o.0) (layout_at w.heap o.0) n Write plain.bare)
    ∙ missing_written p o n x initial founds.Missing w refl
    ∙ ap (λ (r : Outcome (Unit {0})). and_then r (λ u. got values.Undefined)) (public_kept p o n x w true (sym plain.public) refl
    ∙ property_written p o n.text x w (Some e) inner is
    ∙ ap (λ (r : Option ElementName). write_own p o (object_at w.heap.objects o.0) n.text x r w) number)

pub elements_taken : (l : LinkedFile) (s : State) (o : ObjId) (n : Name) (e : code.ElementName) (r : Option ℕ) → IsObject s.arena o → IsWithoutTraits l s.arena o n → element_in (Some e) ≡ element_name_on l s.arena o n.text
    → MatchOption r (Unit {0}) (λ k. (element_in (Some e) ≡ Some (IsNumber k)) × (k < length (elements_of s.arena.objects o.0)))
    → MatchOption r (Unit {0}) (λ k. (k < length (elements_of s.arena.objects o.0)) × ((out : Outer) (x : Value) (initial : Bool) → writes_to (setting_in l out) (values.Obj o) n x initial (world s out) ≡ (write_element o (length (elements_of s.arena.objects o.0)) k x >>= λ u. got values.Undefined) (world s out)))
elements_taken l s o n e None inner plain is h = tt
elements_taken l s o n e (Some k) inner plain is h = (h.1, λ out x initial. element_taken (setting_in l out) o n x initial (world s out) e k inner plain is h.0)
