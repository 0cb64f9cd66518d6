-- What is done at once by a name of which no part comes at run time.
use Rattle.std.proofs.Common.{◌≡◌, ℕ, ◌+◌, [], ◌∷◌, Bool, true, false, cond, refl, sym, ap, ◌∙◌, arith}
use Rattle.std.specs.Prelude.{Some, None}
use Rattle.std.specs.declared.option.Option.{Option}
use Rattle.abc_run_calls.specs.Calls.{settled_by}
use Rattle.abc_heap_values.specs.declared.values.ObjId.{ObjId}
use Rattle.abc_heap_values.specs.declared.values.Value.{Value}
use Rattle.abc_heap_values.specs.declared.values.Value.TheVariants as values
use Rattle.abc_heap_store.specs.Heap.{object_at}
use Rattle.abc_heap_store.specs.Texts.{text_of}
use Rattle.abc_heap_store.specs.What.{is_array}
use Rattle.abc_lookup.proofs.NoTraits.{none_declared}
use Rattle.abc_lookup.specs.NoTraits.{IsFoundFirst, IsWithoutTraits}
use Rattle.abc_meaning.specs.Names.{name_by_form}
use Rattle.abc_run_names.specs.Named.{name_form_at, name_parts_count, parts_for}
use Rattle.abc_objects.specs.Values.{IsObject}
use Rattle.abc_link_names.specs.declared.types.Owner.{Owner}
use Rattle.abc_objects.specs.Candidates.{layout_at}
use Rattle.abc_objects.specs.ElementNames.{element_name}
use Rattle.abc_objects.specs.declared.found.Found.{Found}
use Rattle.abc_objects.specs.declared.found.Found.TheVariants as founds
use Rattle.abc_objects.specs.declared.found.Want.TheVariants.{Read, Write}
use Rattle.abc_objects.specs.declared.name.Name.{Name}
use Rattle.abc_objects.specs.declared.name.Spaces.{Spaces}
use Rattle.abc_frames.specs.Frame.{Frame, arguments}
use Rattle.abc_run_state.specs.Operands.{operand_at}
use Rattle.abc_run_state.specs.Settling.{settles_how}
use Rattle.abc_run_state.specs.declared.state.How.{How}
use Rattle.abc_run_state.specs.declared.state.How.TheVariants.{Drop, Push}
use Rattle.abc_meaning.specs.Calling.{Came, Got, got}
use Rattle.abc_meaning.specs.Members.{calls_name, is_dynamic, read_found, reads, writes_to}
use Rattle.abc_meaning.specs.Setting.{NameForm, NoText, Setting, Whole}
use Rattle.abc_meaning.specs.World.{Outcome, Went, World, and_then, ◌>>=◌}
use Rattle.abc_run_members.specs.Members.{calls_named, enters_found, gets_named, puts_own, puts_top, receiver_under, sets_named}
use Rattle.abc_run_members.proofs.Cases.{calls_as, method_at, missing_written, public_kept, reads_as, writes_as}
use Rattle.abc_run_members.proofs.Searched.{property_first}
use Rattle.abc_run_members.proofs.Written.{dynamic_takes, own_written, property_written}

-- ---- read

pub property_read : (p : Setting) (o : ObjId) (n : Name) (x : Found) (holder : ObjId) (v : Value) (w : World) → IsFoundFirst p.linked w.heap o n x → x ≡ founds.Property holder v → reads p (values.Obj o) n w ≡ Went w (Got v)
property_read p o n x holder v w f is = reads_as p (values.Obj o) n x w refl (property_first p.linked w.heap o n x holder v f is) ∙ ap (λ (y : Found). read_found p y (values.Obj o) w) is

pub whole_got : (p : Setting) (n : ℕ) (name : Name) (o : ObjId) (x : Value) (f : Frame) (w : World) → name_form_at p n ≡ Some (Whole name) → operand_at 0 f ≡ values.Obj o → reads p (values.Obj o) name w ≡ Went w (Got x)
    → gets_named p n f w ≡ settles_how (Push 1) f (Got x) w
whole_got p n name o x f w form holder e =
    ap (λ (r : Option NameForm). settled_by (Push (name_parts_count r + 1)) f (name_by_form p r (parts_for r 0 f) >>= reads p (operand_at (name_parts_count r) f)) w) form
    ∙ ap (λ (r : Outcome Came). and_then r (settles_how (Push 1) f)) (ap (λ (v : Value). reads p v name w) holder ∙ e)

pub text_got : (p : Setting) (n : ℕ) (of : Spaces) (asked : Value) (o : ObjId) (f : Frame) (w : World) → name_form_at p n ≡ Some (NoText of) → asked ≡ operand_at 0 f → operand_at 1 f ≡ values.Obj o
    → gets_named p n f w ≡ settled_by (Push 2) f (name_by_form p (Some (NoText of)) (asked ∷ []) >>= reads p (values.Obj o)) w
text_got p n of asked o f w form top holder =
    ap (λ (r : Option NameForm). settled_by (Push (name_parts_count r + 1)) f (name_by_form p r (parts_for r 0 f) >>= reads p (operand_at (name_parts_count r) f)) w) form
    ∙ ap (λ (a : Value). settled_by (Push 2) f (name_by_form p (Some (NoText of)) (a ∷ []) >>= reads p (operand_at 1 f)) w) (sym top)
    ∙ ap (λ (v : Value). settled_by (Push 2) f (name_by_form p (Some (NoText of)) (asked ∷ []) >>= reads p v) w) holder

-- ---- written

pub own_taken : (p : Setting) (o : ObjId) (n : Name) (x : Value) (initial : Bool) (w : World) (d : Bool) → IsObject w.heap o → IsWithoutTraits p.linked w.heap o n → is_array (object_at w.heap.objects o.0).what ≡ false
    → d ≡ is_dynamic p (values.Obj o) w → d ≡ true → writes_to p (values.Obj o) n x initial w ≡ puts_own p o n.text x w
own_taken p o n x initial w d inner plain flat is e =
    writes_as p o n x initial (layout_at w.heap o.0) founds.Missing w inner refl (none_declared p.linked w.heap (layout_at w.heap o.0) (layout_at w.heap o.0) n Write plain.bare)
    ∙ missing_written p o n x initial founds.Missing w refl
    ∙ ap (λ (r : Outcome (Unit {0})). and_then r (λ u. got values.Undefined)) (public_kept p o n x w true (sym plain.public) refl
    ∙ property_written p o n.text x w None inner (sym (ap (λ (b : Bool). cond b (element_name (text_of p.linked.file.strings w.heap n.text)) None) flat))
    ∙ own_written p o n.text x w true (dynamic_takes p o n.text w d inner is e) refl)

pub text_put : (p : Setting) (n : ℕ) (of : Spaces) (asked x : Value) (o : ObjId) (initial : Bool) (f : Frame) (w : World) → name_form_at p n ≡ Some (NoText of) → asked ≡ operand_at 1 f → x ≡ operand_at 0 f → operand_at 2 f ≡ values.Obj o
    → sets_named p n initial f w ≡ settled_by (Drop 3) f (name_by_form p (Some (NoText of)) (asked ∷ []) >>= λ m. writes_to p (values.Obj o) m x initial) w
text_put p n of asked x o initial f w form under top holder =
    ap (λ (r : Option NameForm). settled_by (Drop (name_parts_count r + 2)) f (name_by_form p r (parts_for r 1 f) >>= λ m. writes_to p (operand_at (1 + name_parts_count r) f) m (operand_at 0 f) initial) w) form
    ∙ ap (λ (a : Value). settled_by (Drop 3) f (name_by_form p (Some (NoText of)) (a ∷ []) >>= λ m. writes_to p (operand_at 2 f) m (operand_at 0 f) initial) w) (sym under)
    ∙ ap (λ (y : Value). settled_by (Drop 3) f (name_by_form p (Some (NoText of)) (asked ∷ []) >>= λ m. writes_to p (operand_at 2 f) m y initial) w) (sym top)
    ∙ ap (λ (v : Value). settled_by (Drop 3) f (name_by_form p (Some (NoText of)) (asked ∷ []) >>= λ m. writes_to p v m x initial) w) holder

pub whole_put : (p : Setting) (n : ℕ) (name : Name) (o : ObjId) (initial : Bool) (f : Frame) (w : World) → name_form_at p n ≡ Some (Whole name) → operand_at 1 f ≡ values.Obj o
    → writes_to p (values.Obj o) name (operand_at 0 f) initial w ≡ puts_own p o name.text (operand_at 0 f) w → sets_named p n initial f w ≡ puts_top p o name.text f w
whole_put p n name o initial f w form holder e =
    ap (λ (r : Option NameForm). settled_by (Drop (name_parts_count r + 2)) f (name_by_form p r (parts_for r 1 f) >>= λ m. writes_to p (operand_at (1 + name_parts_count r) f) m (operand_at 0 f) initial) w) form
    ∙ ap (λ (r : Outcome Came). and_then r (settles_how (Drop 2) f)) (ap (λ (v : Value). writes_to p v name (operand_at 0 f) initial w) holder ∙ e)

-- ---- called

pub whole_called : (p : Setting) (n : ℕ) (name : Name) (o : ObjId) (owner : Owner) (m count : ℕ) (lexical : Bool) (how : How) (f : Frame) (w : World) → name_form_at p n ≡ Some (Whole name) → operand_at count f ≡ values.Obj o
    → IsFoundFirst p.linked w.heap o name (founds.Method owner m) → calls_named p n count lexical how f w ≡ enters_found p m (values.Obj o) count how f w
whole_called p n name o owner m count lexical how f w form holder first =
    let args = arguments count f in
    let same : count + 0 ≡ count = omega arith in
    let here : operand_at (count + 0) f ≡ values.Obj o = ap (λ (k : ℕ). operand_at k f) same ∙ holder in
    ap (λ (r : Option NameForm). settled_by how f (name_by_form p r (parts_for r count f) >>= λ x. calls_name p (operand_at (count + name_parts_count r) f) (receiver_under lexical (operand_at (count + name_parts_count r) f)) x args) w) form
    ∙ ap (λ (r : Outcome Came). and_then r (settles_how how f)) (ap (λ (v : Value). calls_name p v (receiver_under lexical v) name args w) here
    ∙ calls_as p (values.Obj o) (receiver_under lexical (values.Obj o)) name args (founds.Method owner m) w refl (first Read)
    ∙ method_at p (founds.Method owner m) owner m (values.Obj o) (receiver_under lexical (values.Obj o)) args w refl)
