-- What the proofs stand on: facts of a verified file, of the operations and of the searches.
use Rattle.std.specs.Prelude.{◌≡◌, ◌≢◌, ◌⊎◌, ℕ, ◌<◌, pos, List, [], ◌∷◌, ◌++◌, true, false, length, map, nat_eq, slice_get, Some, None, if◌then◌else◌}
use Rattle.std.specs.declared.option.Option.{Option}
use Rattle.abc_base.specs.Ranges.{IsNumber}
use Rattle.abc_heap_values.specs.declared.values.ObjId.{ObjId}
use Rattle.abc_heap_values.specs.declared.values.Value.{Value}
use Rattle.abc_heap_values.specs.declared.values.Value.TheVariants.{Obj}
use Rattle.abc_heap_values.specs.declared.numbers.Conversion.{Conversion}
use Rattle.abc_heap_values.specs.declared.numbers.Conversion.TheVariants.{ConvertS, ConvertB, ConvertO, CoerceS}
use Rattle.abc_heap_store.specs.Heap.{Heap, object_at}
use Rattle.abc_heap_store.specs.Texts.{IsText}
use Rattle.abc_heap_store.specs.declared.records.ScopeEntry.{ScopeEntry}
use Rattle.abc_heap_store.specs.declared.records.ScopeId.{ScopeId}
use Rattle.abc_base_graphs.specs.Graph.{Leads}
use Rattle.abc_link_names.specs.declared.named.Named.{Named}
use Rattle.abc_link_names.specs.declared.named.Named.TheVariants as named
use Rattle.abc_objects.specs.Stands.{IsScope, StandsOver, array_layout}
use Rattle.abc_objects.specs.Starts.{start_values}
use Rattle.abc_objects.specs.Values.{Exists, IsObject}
use Rattle.abc_link_names.specs.ClassBases.{BaseKnown}
use Rattle.abc_link_names.specs.Linked.{IsLinkedFile, LinkedFile}
use Rattle.abc_link_names.specs.Numbering.{part_at}
use Rattle.abc_link_names.specs.Owners.{owner_of}
use Rattle.abc_link_names.specs.Slots.{slots_of}
use Rattle.abc_link_names.specs.Tree.{IsBelow}
use Rattle.abc_link_names.specs.Types.{kind_of_type, type_of}
use Rattle.abc_link_names.specs.declared.part.LayoutId.{LayoutId}
use Rattle.abc_link_names.specs.declared.types.Kind.{Kind}
use Rattle.abc_link_names.specs.declared.types.Kind.TheVariants as kinds
use Rattle.abc_link_names.specs.declared.types.Owner.{Owner}
use Rattle.abc_link_names.specs.declared.types.Owner.TheVariants as owners
use Rattle.abc_link_names.specs.declared.types.Ty.{Ty}
use Rattle.abc_link_names.specs.Bases.{base_graph, base_named, is_interface}
use Rattle.abc_link_names.specs.PartsByNumber.{class_at, script_at}
use Rattle.abc_link_names.specs.Starts.{int_at, uint_at}
use Rattle.abc_verify_typing.specs.Instructions.{opcode, targets}
use Rattle.abc_verify_typing.specs.Rows.{Shape, row_at}
use Rattle.abc_verify_typing.specs.declared.row.Leads.{Leads as Leading}
use Rattle.abc_verify_typing.specs.declared.row.Leads.TheVariants.{Branches, Jumps, Switches}
use Rattle.abc_file_types.specs.declared.code.Instr.{Instr}
use Rattle.abc_link_names.specs.Instances.{instance_at}
use Rattle.abc_objects.specs.Searches.{declared_found, found_in_scopes, found_on}
use Rattle.abc_objects.specs.declared.found.Found.{Found}
use Rattle.abc_objects.specs.declared.found.Found.TheVariants as founds
use Rattle.abc_objects.specs.declared.found.ScopeFound.{ScopeFound}
use Rattle.abc_objects.specs.declared.found.ScopeFound.TheVariants as results
use Rattle.abc_objects.specs.declared.found.Want.{Want}
use Rattle.abc_objects.specs.declared.found.Want.TheVariants as wants
use Rattle.abc_objects.specs.declared.name.Name.{Name}
use Rattle.abc_file_types.specs.declared.methods.Method.{Method}
use Rattle.abc_file_types.specs.declared.methods.OptionValue.{OptionValue}
use Rattle.abc_verify_typing.specs.Effects.{sum_kind}
use Rattle.abc_verify_typing.specs.Lists.{Each, Each2}
use Rattle.abc_verify_typing.specs.Routines.{Routine, arrays, or_any, this_kind, type_at}
use Rattle.abc_verify_typing.specs.declared.catch.Catch.{Catch}
use Rattle.abc_verify_typing.specs.declared.home.Home.TheVariants.{MakesInstances}
use Rattle.abc_meaning.specs.Objects.{Place, place_of_owner}
use Rattle.abc_ops.specs.Left.{text_made}
use Rattle.abc_meaning.specs.Ops.{coerces, compares, computes_one, computes_two, converts, operates, spells}
use Rattle.abc_meaning.specs.Setting.{Setting, method_of, options_of, routine_of, value_of_option}
use Rattle.abc_meaning.specs.World.{Went, World}
use Rattle.abc_meaning.specs.Simple.{whole}
use Rattle.abc_meaning.specs.Sound.{IsFirstOf, IsOfKind, PartSound, SlotHolds, WorldSound}
use Rattle.abc_meaning_sound.specs.Keeping.{Fares}
use Rattle.abc_file_types.specs.declared.op.TheConstants as op

-- ---- the file

-- a type of the file, or any
pub record IsType (l : LinkedFile) (n : ℕ) : Type 0 where
  pub ty : Ty
  pub is : type_of l n ≡ Some ty

-- the value of an option that is used
abbrev pub OptionExists : Setting → Option OptionValue → Type 0
OptionExists p None = Unit {0}
OptionExists p (Some o) = (h : Heap) (v : Value) → StandsOver p.linked h → value_of_option p o ≡ Some v → Exists p.linked h v

-- a method that has a body
pub record IsMethod (p : Setting) (n : ℕ) (r : Routine) : Type 0 where
  pub method : Method
  pub at : method_of p n ≡ Some method
  pub filled : r.filled ≡ this_kind p.linked (owner_of p.linked.file n) ∷ (map (λ t. or_any (type_at p.linked t)) method.params ++ arrays p.linked method.flags)
  pub params : Each (IsType p.linked) method.params
  pub ret : IsType p.linked method.ret
  pub options : Each (OptionExists p) (options_of method)

pub record HasBody (p : Setting) (n : ℕ) : Type 0 where
  pub routine : Routine
  pub body : routine_of p n ≡ Some routine

-- a method that something owns, with its body
pub record IsOwned (p : Setting) (n : ℕ) (owner : Owner) : Type 0 where
  pub body : HasBody p n
  pub owner_is : owner_of p.linked.file n ≡ owner

-- a branch names a place
abbrev pub HasTarget : Leading → List ℕ → Type 0
HasTarget Branches [] = ⊥
HasTarget Jumps [] = ⊥
HasTarget Switches [] = ⊥
HasTarget leads ts = Unit {0}

-- an instruction has the operands of its row, and its constant is a number
pub record IsFormed (instr : Instr) : Type 0 where
  pub target : (row : Shape) → row_at (opcode instr) ≡ Some row → HasTarget row.leads (targets instr)
  pub number : IsNumber (whole instr)

pub record FileGiven (p : Setting) : Type 0 where
  pub linked : IsLinkedFile p.linked
  -- the values with which slots start are of the kinds of their types
  pub starts : (h : Heap) (x : ℕ) → StandsOver p.linked h → x < length p.linked.parts → Each2 (SlotHolds p.linked h) (slots_of p.linked x) (start_values p.linked x)
  pub methods : (n : ℕ) (r : Routine) → routine_of p n ≡ Some r → IsMethod p n r
  pub formed : (n : ℕ) (r : Routine) (i : ℕ) (instr : Instr) → routine_of p n ≡ Some r → slice_get r.code i ≡ Some instr → IsFormed instr
  pub ints : (n : ℕ) → IsNumber (int_at p.linked.file n)
  pub uints : (n : ℕ) → IsNumber (pos (uint_at p.linked.file n))
  pub one_script : 0 < length p.linked.file.scripts
  pub inits : (s : ℕ) → s < length p.linked.file.scripts → IsOwned p (script_at p.linked.file s).init (owners.ScriptInit s)
  pub cinits : (k : ℕ) → k < length p.linked.file.instances → IsOwned p (class_at p.linked.file k).cinit (owners.ClassInit k)
  pub iinits : (k : ℕ) → k < length p.linked.file.instances → is_interface p.linked.file k ≡ false → IsOwned p (instance_at p.linked.file k).iinit (owners.Iinit k)

-- ---- activations, catch objects and classes

-- a layout of an activation or of a catch object
pub record IsScopeLayout (p : Setting) (x : ℕ) : Type 0 where
  pub layout : x < length p.linked.parts
  pub no_array : x ≢ array_layout p.linked
  pub part : (h : Heap) → PartSound p.linked h (part_at p.linked.parts x)
  pub first_of : IsFirstOf p.linked x

pub record ScopesGiven (p : Setting) : Type 0 where
  pub activations : (n : ℕ) (r : Routine) → routine_of p n ≡ Some r → r.needs_activation ≡ true → IsScopeLayout p r.activation.0
  pub catches : (n : ℕ) (r : Routine) (i : ℕ) (c : Catch) → routine_of p n ≡ Some r → slice_get r.handlers i ≡ Some c → IsScopeLayout p c.layout.0
  pub bases : (k : ℕ) → k < length p.linked.file.instances → BaseKnown p.linked (base_named p.linked.file k)
  -- what a class leads to is its base, or what that leads to
  pub above : (k b : ℕ) → k < length p.linked.file.instances → Leads (base_graph p.linked.file) k b → (j : ℕ) × (base_named p.linked.file k ≡ Some (named.Class j)) × ((b ≡ j) ⊎ Leads (base_graph p.linked.file) j b)

-- ---- operations

abbrev pub conversion_kind : Conversion → Kind
conversion_kind ConvertS = kinds.Text
conversion_kind CoerceS = kinds.Text
conversion_kind ConvertB = kinds.Bool
conversion_kind ConvertO = kinds.Any
conversion_kind to = kinds.Num

abbrev pub single_kind : ℕ → Kind
single_kind code = if nat_eq code op.TYPEOF then kinds.Text else (if nat_eq code op.NOT then kinds.Bool else kinds.Num)

abbrev pub double_kind : ℕ → Kind → Kind → Kind
double_kind code k m = if nat_eq code op.ADD then sum_kind k m else kinds.Num

pub record OpsGiven (p : Setting) : Type 0 where
  pub spell : (w : World) (v : Value) → WorldSound p w → Exists p.linked w.heap v → Fares p w (spells p v w) (λ n t. IsText p.linked.file.strings n.heap t)
  pub text : (w : World) (bytes : List ℕ) → WorldSound p w → Fares p w (operates (λ h. text_made h bytes) w) (λ n t. IsText p.linked.file.strings n.heap t)
  pub coerce : (w : World) (t : Ty) (v : Value) → WorldSound p w → Exists p.linked w.heap v → Fares p w (coerces p t v w) (λ n x. IsOfKind p.linked n.heap (kind_of_type p.linked t) x)
  pub convert : (w : World) (to : Conversion) (v : Value) → WorldSound p w → Exists p.linked w.heap v → Fares p w (converts p to v w) (λ n x. IsOfKind p.linked n.heap (conversion_kind to) x)
  pub objects : (w : World) (v : Value) → WorldSound p w → Exists p.linked w.heap v → Fares p w (converts p ConvertO v w) (λ n x. x ≡ v)
  pub single : (w : World) (op : ℕ) (v : Value) → WorldSound p w → Exists p.linked w.heap v → Fares p w (computes_one op v w) (λ n x. IsOfKind p.linked n.heap (single_kind op) x)
  pub double : (w : World) (op : ℕ) (x y : Value) (k m : Kind) → WorldSound p w → IsOfKind p.linked w.heap k x → IsOfKind p.linked w.heap m y → Fares p w (computes_two p op x y w) (λ n z. IsOfKind p.linked n.heap (double_kind op k m) z)
  pub compare : (w : World) (op : ℕ) (x y : Value) → WorldSound p w → Fares p w (compares p op x y w) (λ n b. Unit {0})

-- ---- searches

-- a method that is found on an object: it has a body, its owner keeps where it runs, and the object is one of the owner's
pub record OwnedSound (p : Setting) (w : World) (n : ℕ) (o : ObjId) : Type 0 where
  pub body : HasBody p n
  pub place : Place
  pub kept : place_of_owner (owner_of p.linked.file n) w ≡ Went w place
  pub home : place.home < length p.linked.file.scripts
  pub saved : IsScope w.heap place.saved
  pub this : IsOfKind p.linked w.heap (this_kind p.linked (owner_of p.linked.file n)) (Obj o)

-- what is found is there; a read finds no setter, and a write among declared traits no getter
abbrev pub FoundSound : Setting → World → Want → Found → Value → Type 0
FoundSound p w want (founds.Slot k constant) (Obj o) = IsObject w.heap o × (k < length (slots_of p.linked (object_at w.heap.objects o.0).layout))
FoundSound p w want (founds.Method owner n) (Obj o) = OwnedSound p w n o × (owner ≡ owner_of p.linked.file n)
FoundSound p w wants.Read (founds.Getter n) (Obj o) = OwnedSound p w n o
FoundSound p w wants.Write (founds.Setter n) (Obj o) = OwnedSound p w n o
FoundSound p w wants.Read (founds.Property holder x) v = Exists p.linked w.heap x
FoundSound p w wants.Read (founds.Element holder k) v = (x : Value) × (slice_get (object_at w.heap.objects holder.0).elements k ≡ Some x) × IsObject w.heap holder
FoundSound p w wants.Read (founds.Length holder) v = IsObject w.heap holder
FoundSound p w want founds.WrongSide v = Unit {0}
FoundSound p w want founds.Missing v = Unit {0}
FoundSound p w want found v = ⊥

abbrev pub ScopeFoundSound : Setting → World → ScopeFound → Type 0
ScopeFoundSound p w (results.Object o) = IsObject w.heap o
ScopeFoundSound p w (results.Start s) = s < length p.linked.file.scripts
ScopeFoundSound p w results.Missing = Unit {0}

-- the maker of the base, by what makes an instance
abbrev pub base_maker : Setting → Owner → Option Named
base_maker p (owners.Iinit k) = base_named p.linked.file k
base_maker p owner = None

abbrev pub BaseRuns : Setting → World → ObjId → Option Named → Type 0
BaseRuns p w o (Some (named.Class b)) = OwnedSound p w (instance_at p.linked.file b).iinit o
BaseRuns p w o (Some (named.Host c)) = Unit {0}
BaseRuns p w o other = ⊥

pub record MakersGiven (p : Setting) : Type 0 where
  pub makers : (w : World) (n : ℕ) (r : Routine) (x : LayoutId) (o : ObjId) → WorldSound p w → routine_of p n ≡ Some r → r.home ≡ MakesInstances x → IsObject w.heap o → IsBelow p.linked (object_at w.heap.objects o.0).layout x.0 → BaseRuns p w o (base_maker p (owner_of p.linked.file n))

pub record SearchGiven (p : Setting) : Type 0 where
  pub on : (w : World) (v : Value) (name : Name) → WorldSound p w → Exists p.linked w.heap v → FoundSound p w wants.Read (found_on p.linked w.heap v name wants.Read) v
  pub declared : (w : World) (o : ObjId) (from : ℕ) (name : Name) (want : Want) → WorldSound p w → IsObject w.heap o → IsBelow p.linked (object_at w.heap.objects o.0).layout from → FoundSound p w want (declared_found p.linked w.heap (object_at w.heap.objects o.0).layout from name want) (Obj o)
  pub in_scopes : (w : World) (es : List ScopeEntry) (saved : Option ScopeId) (name : Name) → WorldSound p w → Each (λ (e : ScopeEntry). IsObject w.heap e.object) es → IsScope w.heap saved → ScopeFoundSound p w (found_in_scopes p.linked w.heap es saved w.started name)
