-- Initializers of classes that are run.
use Rattle.std.proofs.Common.{◌≡◌, ◌∙◌, ℕ, ◌<◌, List, [], ◌∷◌, length, reverse, take, refl, sym, ap, arith}
use Rattle.std.specs.Prelude.{get_or}
use Rattle.std.specs.declared.option.Option.{Option}
use Rattle.std.proofs.lemmas.List.{get_or_default}
use Rattle.abc_heap_values.specs.declared.values.ObjId.{ObjId}
use Rattle.abc_heap_values.specs.declared.values.Value.{Value}
use Rattle.abc_heap_values.specs.declared.values.Value.TheVariants.{Obj}
use Rattle.abc_run_calls.specs.Entering.{enters_owned_above}
use Rattle.abc_tables.proofs.DefinitionsFit.{definitions_fit}
use Rattle.abc_tables.proofs.FileFits.{file_fits, tables_fit}
use Rattle.abc_link_names.specs.Bases.{base_named}
use Rattle.abc_link_names.specs.PartsByNumber.{class_at, no_class}
use Rattle.abc_link_names.specs.Linked.{IsLinkedFile, LinkedFile}
use Rattle.abc_frames.specs.Frame.{Frame}
use Rattle.abc_frames.specs.declared.records.Wait.TheVariants.{Keep}
use Rattle.abc_file_types.specs.declared.classes.ClassInfo.{ClassInfo}
use Rattle.abc_file_types.specs.declared.tables.Abc.{Abc}
use Rattle.abc_meaning.specs.At.{Above, Act, Goes, waiting_frame}
use Rattle.abc_meaning.specs.Newing.{base_prototype}
use Rattle.abc_run_state.specs.Operands.{operand_at}
use Rattle.abc_meaning.specs.Entering.{enters_owned}
use Rattle.abc_meaning.specs.Objects.{new_class}
use Rattle.abc_meaning.specs.Setting.{Setting}
use Rattle.abc_meaning.specs.World.{Outcome, Stop, Stopped, Went, World, and_then, pure, ◌>>=◌}
use Rattle.abc_run_members.specs.Scoped.{enters_class, makes_unmade}

-- ---- what the tables of the file say

pub initializer_is : (v file : Abc) (k : ℕ) (r : ClassInfo) → v ≡ file → k < length file.classes → get_or v.classes k r ≡ r → r.cinit ≡ (class_at file k).cinit
initializer_is v file k r is b e =
    ap (λ (i : ClassInfo). i.cinit) (sym e ∙ ap (λ (u : Abc). get_or u.classes k r) is ∙ get_or_default file.classes k r no_class b)

pub class_counted : (l : LinkedFile) → IsLinkedFile l → (k : ℕ) → k < length l.file.instances → k < length l.file.classes
class_counted l f k b =
    let d = (definitions_fit l.file).0 ((tables_fit l.file).0 ((file_fits l.file).0 f.fits).1).1 in
    omega (arith, b, d.instance_count)

-- ---- the initializer

none_taken : (vs : List Value) → reverse (take 0 vs) ≡ []
none_taken [] = refl
none_taken (v ∷ vs) = refl

pub initializes : (p : Setting) (k n : ℕ) (o : ObjId) (v : Value) (f : Frame) (w : World) → n ≡ (class_at p.linked.file k).cinit → v ≡ Obj o → enters_class p k o f w ≡ enters_owned_above p n v 0 1 (Keep v) f w
initializes p k n o v f w e is =
    ap (λ vs. (enters_owned p (class_at p.linked.file k).cinit (Obj o) vs >>= λ g. pure (Goes (Above g (waiting_frame (Keep (Obj o)) (Rattle.abc_frames.specs.Frame.after_drop 1 f))))) w) (sym (none_taken f.stack))
    ∙ ap (λ m. enters_owned_above p m (Obj o) 0 1 (Keep (Obj o)) f w) (sym e)
    ∙ ap (λ x. enters_owned_above p n x 0 1 (Keep x) f w) (sym is)

-- ---- the class is made

making : Setting → ℕ → Frame → Outcome (Option ObjId) → Outcome Act
making p k f r = and_then r (λ base. new_class p k f.home base f.saved f.scopes >>= λ o. enters_class p k o f)

entering : Setting → ℕ → Frame → Outcome ObjId → Outcome Act
entering p k f r = and_then r (λ o. enters_class p k o f)

module _ (p : Setting) (k : ℕ) (f : Frame) (v : Value) (w : World) (is : v ≡ operand_at 0 f) where
  base_first : (r : Outcome (Option ObjId)) → base_prototype (base_named p.linked.file k) v w ≡ r → makes_unmade p k f w ≡ making p k f r
  unfolding making
  base_first r e = ap (λ x. making p k f (base_prototype (base_named p.linked.file k) x w)) (sym is) ∙ ap (making p k f) e

  pub base_stops : (a : World) (why : Stop) → base_prototype (base_named p.linked.file k) v w ≡ Stopped a why → makes_unmade p k f w ≡ Stopped a why
  unfolding making
  base_stops a why e = base_first (Stopped a why) e

  pub class_stops : (a b : World) (base : Option ObjId) (why : Stop) → base_prototype (base_named p.linked.file k) v w ≡ Went a base → new_class p k f.home base f.saved f.scopes a ≡ Stopped b why → makes_unmade p k f w ≡ Stopped b why
  unfolding making entering
  class_stops a b base why e m = base_first (Went a base) e ∙ ap (entering p k f) m

  pub class_enters : (a b : World) (base : Option ObjId) (o : ObjId) → base_prototype (base_named p.linked.file k) v w ≡ Went a base → new_class p k f.home base f.saved f.scopes a ≡ Went b o → makes_unmade p k f w ≡ enters_class p k o f b
  unfolding making entering
  class_enters a b base o e m = base_first (Went a base) e ∙ ap (entering p k f) m
