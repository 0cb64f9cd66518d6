-- A super operation that an act does, and the arm of its instruction.
use Rattle.std.proofs.Common.{◌≡◌, ◌∙◌, ℕ, ◌+◌, List, [], ◌∷◌, refl, ap}
use Rattle.std.specs.Prelude.{false, Some, None}
use Rattle.std.specs.declared.option.Option.{Option}
use Rattle.abc_heap_values.specs.declared.values.ObjId.{ObjId}
use Rattle.abc_heap_values.specs.declared.values.Value.{Value}
use Rattle.abc_heap_values.specs.declared.values.Value.TheVariants as values
use Rattle.abc_link_names.specs.Bases.{base_named}
use Rattle.abc_run_members.specs.Members.{holder_under, parts_at}
use Rattle.abc_run_names.specs.Named.{named_here}
use Rattle.abc_link_names.specs.declared.named.Named.{Named}
use Rattle.abc_link_names.specs.declared.named.Named.TheVariants as named
use Rattle.abc_link_names.specs.Linked.{above}
use Rattle.abc_link_names.specs.declared.part.LayoutId.{LayoutId}
use Rattle.abc_link_names.specs.declared.types.Owner.{Owner}
use Rattle.abc_link_names.specs.Owners.{owner_of}
use Rattle.abc_link_names.specs.declared.types.Owner.TheVariants.{Iinit}
use Rattle.abc_objects.specs.Searches.{declared_found}
use Rattle.abc_objects.specs.declared.found.Found.{Found}
use Rattle.abc_objects.specs.declared.found.Want.{Want}
use Rattle.abc_objects.specs.declared.found.Want.TheVariants.{Read, Write}
use Rattle.abc_objects.specs.declared.name.Name.{Name}
use Rattle.abc_frames.specs.Frame.{Frame, arguments, after_drop}
use Rattle.abc_meaning.specs.At.{ActCase, Goes, drops_came, dropping, gives_came, pushing}
use Rattle.abc_meaning.specs.Names.{name_of}
use Rattle.abc_meaning.specs.Supers as acts
use Rattle.abc_run_state.specs.Operands.{operand_at}
use Rattle.abc_run_state.proofs.Turning.{and_then_same}
use Rattle.abc_run_state.specs.declared.state.How.TheVariants.{Drop, Push}
use Rattle.abc_meaning.specs.Calling.{Came}
use Rattle.abc_meaning.specs.Members.{call_found, read_found, write_found}
use Rattle.abc_meaning.specs.Setting.{Setting}
use Rattle.abc_meaning.specs.World.{Outcome, Run, World, and_then, pure, object_named, see, some, the, ◌>>=◌}
use Rattle.abc_run_members.specs.Supers.{super_call, super_construct, gets_super, base_run, sets_super, super_found_here}
use Rattle.abc_run_dispatch.proofs.DeletedTaken.{taking_at}
use Rattle.abc_verify_typing.specs.Effects.{Here}
use Rattle.abc_verify_typing.specs.Rules.{super_layout}

-- ---- on a receiver

receives_same : {X : Type 0} (v : Value) (f g : ObjId → Run X) (w : World) → ((o : ObjId) → f o w ≡ g o w) → acts.on_receiver v f w ≡ acts.on_receiver v g w
receives_same (values.Obj o) f g w e = e o
receives_same values.Null f g w e = refl
receives_same values.Undefined f g w e = refl
receives_same (values.Num n) f g w e = refl
receives_same (values.Bool b) f g w e = refl
receives_same (values.Text t) f g w e = refl
receives_same (values.Space n) f g w e = refl

-- ---- from the base of the layout of its home on

found_is : (a : ActCase) (x : LayoutId) (o : ObjId) (name : Name) (want : Want) (w : World) → super_layout a.here.row.site a.here.method.home ≡ Some x → acts.super_found a o name want w ≡ super_found_here a.setting x.0 o name want w
found_is a x o name want w e = ap (λ (y : Option LayoutId). and_then (the (object_named o) w) (λ ob. some y >>= λ layout. see (λ v. acts.strict (declared_found a.setting.linked v.heap ob.layout (above a.setting.linked layout.0) name want)))) e

-- what is done on a receiver by a name
abbrev on_named : Setting → (name over from : ℕ) → Value → Want → (ObjId → Name → Found → Run Came) → Frame → Run Came
on_named p n over from v want go f = named_here p n over f >>= λ name. acts.on_receiver v (λ o. super_found_here p from o name want >>= go o name)

super_is : (p : Setting) (h : Here) (f : Frame) (count k n over : ℕ) (vs ps : List Value) (x : LayoutId) (v : Value) (want : Want) (go : ObjId → Name → Found → Run Came) (w : World) → name_of (taking_at p h f count k vs ps) w ≡ named_here p n over f w → super_layout h.row.site h.method.home ≡ Some x
    → acts.on_super (taking_at p h f count k vs ps) v want go w ≡ on_named p n over x.0 v want go f w
super_is p h f count k n over vs ps x v want go w is e =
    let a = taking_at p h f count k vs ps in
    ap (λ (r : Outcome Name). and_then r (λ name. acts.on_receiver v (λ o. acts.super_found a o name want >>= go o name))) is
    ∙ and_then_same (named_here p n over f w) (λ name. acts.on_receiver v (λ o. acts.super_found a o name want >>= go o name)) (λ name. acts.on_receiver v (λ o. super_found_here p x.0 o name want >>= go o name))
    (λ u name. receives_same v (λ o. acts.super_found a o name want >>= go o name) (λ o. super_found_here p x.0 o name want >>= go o name) u (λ o. ap (λ (r : Outcome Found). and_then r (go o name)) (found_is a x o name want u e)))

-- ---- getsuper, setsuper, callsuper, callsupervoid

module _ (p : Setting) (h : Here) (f : Frame) (n : ℕ) (x : LayoutId) (w : World) (site : super_layout h.row.site h.method.home ≡ Some x) where
  pub gets_is : (ps : List Value) → let a = taking_at p h f 0 (parts_at p n + 1) (operand_at (parts_at p n) f ∷ []) ps in name_of a w ≡ named_here p n 0 f w → gives_came acts.reads_super a w ≡ gets_super p n x.0 f w
  gets_is ps is =
      ap (λ (r : Outcome Came). and_then r (λ c. pure (Goes (pushing (after_drop (parts_at p n + 1) f) c))))
      (super_is p h f 0 (parts_at p n + 1) n 0 (operand_at (parts_at p n) f ∷ []) ps x (operand_at (parts_at p n) f) Read (λ o name found. read_found p found (values.Obj o)) w is site)

  pub sets_is : (ps : List Value) → let a = taking_at p h f 0 (parts_at p n + 2) (operand_at 0 f ∷ holder_under p n 1 f ∷ []) ps in name_of a w ≡ named_here p n 1 f w → drops_came acts.writes_super a w ≡ sets_super p n x.0 f w
  sets_is ps is =
      ap (λ (r : Outcome Came). and_then r (λ c. pure (Goes (dropping (after_drop (parts_at p n + 2) f) c))))
      (super_is p h f 0 (parts_at p n + 2) n 1 (operand_at 0 f ∷ holder_under p n 1 f ∷ []) ps x (holder_under p n 1 f) Write (λ o name found. write_found p o name (operand_at 0 f) false found) w is site)

  -- so many operands are taken in all
  pub calls_pushing : (count k : ℕ) (ps : List Value) → let a = taking_at p h f count k (holder_under p n count f ∷ []) ps in name_of a w ≡ named_here p n count f w → gives_came acts.calls_super a w ≡ super_call p n x.0 count (Push k) f w
  calls_pushing count k ps is =
      ap (λ (r : Outcome Came). and_then r (λ c. pure (Goes (pushing (after_drop k f) c))))
      (super_is p h f count k n count (holder_under p n count f ∷ []) ps x (holder_under p n count f) Read (λ o name found. call_found p found (values.Obj o) (values.Obj o) (arguments count f)) w is site)

  pub calls_dropping : (count k : ℕ) (ps : List Value) → let a = taking_at p h f count k (holder_under p n count f ∷ []) ps in name_of a w ≡ named_here p n count f w → drops_came acts.calls_super a w ≡ super_call p n x.0 count (Drop k) f w
  calls_dropping count k ps is =
      ap (λ (r : Outcome Came). and_then r (λ c. pure (Goes (dropping (after_drop k f) c))))
      (super_is p h f count k n count (holder_under p n count f ∷ []) ps x (holder_under p n count f) Read (λ o name found. call_found p found (values.Obj o) (values.Obj o) (arguments count f)) w is site)

-- ---- constructsuper

module _ (p : Setting) (h : Here) (f : Frame) (count : ℕ) (ps : List Value) (w : World) where
  abbrev made_at : ActCase
  made_at = taking_at p h f count (count + 1) (operand_at count f ∷ []) ps

  base_is : (o : ObjId) (b : Option Named) → acts.runs_base made_at o b w ≡ base_run p o count f b w
  base_is o (Some (named.Class k)) = refl
  base_is o (Some (named.Host c)) = refl
  base_is o (Some named.Any) = refl
  base_is o (Some named.Void) = refl
  base_is o None = refl

  pub constructs_is : (class : ℕ) → owner_of p.linked.file f.method ≡ Iinit class → drops_came acts.constructs_super made_at w ≡ super_construct p class count f w
  constructs_is class e =
      ap (λ (owner : Owner). and_then (acts.on_receiver (operand_at count f) (λ o. acts.runs_base made_at o (acts.base_of_maker made_at owner)) w) (λ c. pure (Goes (dropping (after_drop (count + 1) f) c)))) e
      ∙ ap (λ (r : Outcome Came). and_then r (λ c. pure (Goes (dropping (after_drop (count + 1) f) c))))
      (receives_same (operand_at count f) (λ o. acts.runs_base made_at o (base_named p.linked.file class)) (λ o. base_run p o count f (base_named p.linked.file class)) w (λ o. base_is o (base_named p.linked.file class)))
