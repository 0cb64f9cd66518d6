-- Slots by numbers, and slots that are written.
use Rattle.std.specs.Prelude.{ℕ, false, get_or, slice_get}
use Rattle.abc_base.specs.declared.names.HostClass.TheVariants as hosts
use Rattle.abc_heap_values.specs.declared.values.ObjId.{ObjId}
use Rattle.abc_heap_values.specs.declared.values.Value.{Value}
use Rattle.abc_heap_values.specs.declared.values.Value.TheVariants.{Null, Obj}
use Rattle.abc_heap_store.specs.Heap.{Heap, Object, object_at}
use Rattle.abc_link_names.specs.Linked.{LinkedFile}
use Rattle.abc_link_names.specs.Slots.{slot_numbered, slots_of}
use Rattle.abc_link_names.specs.declared.types.Ty.{Ty}
use Rattle.abc_link_names.specs.declared.types.Ty.TheVariants as types
use Rattle.abc_link_names.specs.declared.start.Start.TheVariants as starts
use Rattle.abc_frames.specs.Frame.{Frame, after_drop}
use Rattle.abc_meaning.specs.At.{Act, goes, next_frame}
use Rattle.abc_run_state.specs.Operands.{operand_at}
use Rattle.abc_meaning.specs.Members.{write_slot}
use Rattle.abc_meaning.specs.Setting.{Setting}
use Rattle.abc_meaning.specs.World.{Run, object_named, some, sticks, the, throws, ◌>>=◌, ◌>>◌}
use Rattle.abc_run_state.specs.Settling.{pushes_instead}

abbrev pub on_numbered : {X : Type 0} → Setting → ℕ → Value → (ObjId → Object → ℕ → Run X) → Run X
on_numbered p n (Obj o) f = the (object_named o) >>= λ ob. some (slot_numbered p.linked ob.layout n) >>= λ k. f o ob k
on_numbered p n Null f = throws hosts.TypeError
on_numbered p n v f = sticks

-- getslot, setslot
abbrev pub reads_numbered : Setting → ℕ → Frame → Run Act
reads_numbered p n f = pushes_instead 1 f (on_numbered p n (operand_at 0 f) (λ o ob k. some (slice_get ob.slots k)))

-- setslot: the top operand goes into the slot of this number of the object under it
abbrev pub writes_numbered : Setting → ℕ → Frame → Run Act
writes_numbered p n f = on_numbered p n (operand_at 1 f) (λ o ob k. write_slot p o k (operand_at 0 f)) >> goes (next_frame (after_drop 2 f))

-- the type of a slot of an object
abbrev pub slot_type : LinkedFile → Heap → ObjId → ℕ → Ty
slot_type l h o k = (get_or (slots_of l (object_at h.objects o.0).layout) k (record { ty = types.Any; constant = false; start = starts.Undefined })).ty
