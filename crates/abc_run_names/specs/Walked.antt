-- Walking by positions.
use Rattle.std.specs.Prelude.{ℕ, [], ◌∷◌, is_some, pos, Some, None}
use Rattle.std.specs.declared.option.Option.{Option}
use Rattle.abc_heap_values.specs.declared.values.Value.{Value}
use Rattle.abc_heap_values.specs.declared.values.Value.TheVariants.{Null, Num, Bool as Truth, Obj}
use Rattle.abc_heap_store.specs.Heap.{obj_id}
use Rattle.abc_frames.specs.Frame.{Frame}
use Rattle.abc_meaning.specs.At.{Act, goes, after_pushes, frame_with_local}
use Rattle.abc_meaning.specs.Walking.{Position, has_next, walked_name, next_along, object_number, position, value_in, object_of}
use Rattle.abc_run_names.specs.declared.positions.Position.{Position as At}
use Rattle.abc_run_state.specs.Operands.{local_at, operand_at}
use Rattle.abc_meaning.specs.World.{Run, pure, see, ◌>>=◌}
use Rattle.abc_run_state.specs.Settling.{pushes_instead}

-- hasnext, nextname, nextvalue
abbrev pub pushes_next : Frame → Run Act
pushes_next f = pushes_instead 2 f (see (has_next (operand_at 1 f) (operand_at 0 f)))

-- nextname: the name at the position on top, of the object under it
abbrev pub pushes_name : Frame → Run Act
pushes_name f = pushes_instead 2 f (see (object_of (operand_at 1 f)) >>= λ ob. walked_name ob (position (operand_at 0 f)))

-- nextvalue: the value at the position on top, of the object under it
abbrev pub pushes_value : Frame → Run Act
pushes_value f = pushes_instead 2 f (see (object_of (operand_at 1 f)) >>= λ ob. pure (value_in ob (position (operand_at 0 f))))

-- ---- hasnext2

-- a position as code holds it
abbrev pub positions_of : Option At → Option Position
positions_of None = None
positions_of (Some e) = Some (record { holder = e.holder.0; position = e.position })

-- what the two locals then hold
abbrev pub holder_in : Option Position → Value
holder_in None = Null
holder_in (Some e) = Obj (obj_id e.holder)

abbrev pub position_in : Option Position → Value
position_in None = Num (pos 0)
position_in (Some e) = Num (pos e.position)

abbrev pub walked_to : (holder position : ℕ) → Frame → Option Position → Frame
walked_to x y f e = after_pushes (Truth (is_some e) ∷ []) (frame_with_local y (position_in e) (frame_with_local x (holder_in e) f))

-- one local is the object, another the position
abbrev pub walks_on : (holder position : ℕ) → Frame → Run Act
walks_on x y f = see (λ w. next_along (object_number (local_at x f)) (position (local_at y f)) w.heap) >>= λ e. goes (walked_to x y f e)
