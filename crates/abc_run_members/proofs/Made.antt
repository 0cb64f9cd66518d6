-- Makers of bases that are run.
use Rattle.std.proofs.Common.{◌≡◌, ◌∙◌, ℕ, ◌<◌, List, length, sym, ap}
use Rattle.std.specs.Prelude.{get_or}
use Rattle.std.proofs.lemmas.List.{get_or_default}
use Rattle.abc_base.specs.declared.names.HostClass.{HostClass}
use Rattle.abc_heap_values.specs.declared.values.ObjId.{ObjId}
use Rattle.abc_heap_values.specs.declared.values.Value.{Value}
use Rattle.abc_heap_values.specs.declared.values.Value.TheVariants.{Undefined}
use Rattle.abc_link_names.specs.Instances.{instance_at, no_instance}
use Rattle.abc_frames.specs.Frame.{Frame, arguments}
use Rattle.abc_file_types.specs.declared.classes.Instance.{Instance}
use Rattle.abc_file_types.specs.declared.tables.Abc.{Abc}
use Rattle.abc_run_state.proofs.Turning.{and_then_is}
use Rattle.abc_meaning.specs.Calling.{got}
use Rattle.abc_meaning.specs.Making.{host_arguments, set_message}
use Rattle.abc_meaning.specs.Setting.{Setting}
use Rattle.abc_meaning.specs.World.{Outcome, Stop, Stopped, Went, World, and_then, ◌>>=◌}
use Rattle.abc_run_members.specs.Supers.{told_base}

-- ---- what the tables of the file say

pub maker_is : (v file : Abc) (k : ℕ) (r : Instance) → v ≡ file → k < length file.instances → get_or v.instances k r ≡ r → r.iinit ≡ (instance_at file k).iinit
maker_is v file k r is b e =
    ap (λ (i : Instance). i.iinit) (sym e ∙ ap (λ (u : Abc). get_or u.instances k r) is ∙ get_or_default file.instances k r no_instance b)

-- ---- a message for a maker of the host

pub told_is : (p : Setting) (o : ObjId) (c : HostClass) (count : ℕ) (f : Frame) (w : World) → told_base p o c count f w ≡ ((host_arguments p c (arguments count f) >>= set_message p o) >>= λ u. got Undefined) w
told_is p o c count f w = sym (and_then_is (host_arguments p c (arguments count f) w) (set_message p o) (λ u. got Undefined))

telling : Setting → ObjId → Outcome (List Value) → Outcome (Unit {0})
telling p o r = and_then r (set_message p o)

pub told_went : (p : Setting) (o : ObjId) (c : HostClass) (count : ℕ) (f : Frame) (w a b : World) (texts : List Value) → host_arguments p c (arguments count f) w ≡ Went a texts → set_message p o texts a ≡ Went b tt → (host_arguments p c (arguments count f) >>= set_message p o) w ≡ Went b tt
unfolding telling
told_went p o c count f w a b texts e h = ap (telling p o) e ∙ h

pub told_stopped : (p : Setting) (o : ObjId) (c : HostClass) (count : ℕ) (f : Frame) (w a b : World) (texts : List Value) (why : Stop) → host_arguments p c (arguments count f) w ≡ Went a texts → set_message p o texts a ≡ Stopped b why → (host_arguments p c (arguments count f) >>= set_message p o) w ≡ Stopped b why
unfolding telling
told_stopped p o c count f w a b texts why e h = ap (telling p o) e ∙ h

pub untold : (p : Setting) (o : ObjId) (c : HostClass) (count : ℕ) (f : Frame) (w a : World) (why : Stop) → host_arguments p c (arguments count f) w ≡ Stopped a why → (host_arguments p c (arguments count f) >>= set_message p o) w ≡ Stopped a why
unfolding telling
untold p o c count f w a why e = ap (telling p o) e
