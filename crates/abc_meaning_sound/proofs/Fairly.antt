-- What comes of the entering of a call, for the code that does it.
use Rattle.std.proofs.Common.{◌≢◌}
use Rattle.abc_base.specs.declared.names.HostClass.{HostClass}
use Rattle.abc_base.specs.declared.names.HostClass.TheVariants as hosts
use Rattle.abc_meaning.specs.Fair.{IsFairPart, IsFairStop, IsLeft}
use Rattle.abc_heap_store.specs.Heap.{obj_id}
use Rattle.abc_objects.specs.Objects.{global_number}
use Rattle.abc_meaning_sound.proofs.Never.{given}
use Rattle.abc_meaning_sound.proofs.Entered.{owned_fares}
use Rattle.abc_meaning_sound.specs.Keeping.{Fares, IsError, LeavesSound, StopSound}
use Rattle.abc_meaning.specs.Setting.{Setting}
use Rattle.abc_meaning.specs.World.{Errs, Faults, Fills, Outcome, Sticks, Stop, Stopped, Throws, Went, World}
use Rattle.abc_meaning.specs.Throwing.{last_script}
use Rattle.abc_meaning.specs.Calls.{enters_call, numbers}
use Rattle.abc_meaning_sound.specs.CallLaws.{CallsAreFair}
use Rattle.abc_meaning_sound.proofs.Called.{numbers_exist}
use Rattle.abc_meaning_sound.proofs.Exported.{owned_by_script}

left : (p : Setting) (w n : World) → LeavesSound p w n → IsLeft p w n
left p w n l = record { sound = l.sound; grows = l.grows.grows; limits = l.grows.limits }

no_array : (c : HostClass) → IsError c → c ≢ hosts.Array
no_array hosts.TypeError e q = cc
no_array hosts.ReferenceError e q = cc
no_array hosts.ArgumentError e q = cc
no_array hosts.Object e q = e
no_array hosts.Class e q = e
no_array hosts.Function e q = e
no_array hosts.Namespace e q = e
no_array hosts.Str e q = e
no_array hosts.Int e q = e
no_array hosts.UInt e q = e
no_array hosts.Number e q = e
no_array hosts.Boolean e q = e
no_array hosts.Error e q = e
no_array hosts.Array e q = e

stop_fair : (p : Setting) (n : World) (why : Stop) → StopSound p n why → IsFairStop p n why
stop_fair p n (Throws v) s = s
stop_fair p n (Errs c) s = no_array c s
stop_fair p n (Faults fault) s = tt
stop_fair p n (Fills limit) s = tt
stop_fair p n Sticks s = s

part_fair : {X : Type 0} (p : Setting) (w : World) (o : Outcome X) (Q : World → X → Type 0) → Fares p w o Q → IsFairPart p w o
part_fair p w (Went n g) Q s = left p w n s.so.0
part_fair p w (Stopped n why) Q s = (left p w n s.so.0, stop_fair p n why s.so.1)

pub call_fair : CallsAreFair
call_fair p typings w m args v typed z exported ns =
    let g = given p v in
    part_fair p w (enters_call p m args w) _ (owned_fares p g.file g.ops typings typed w m (obj_id (global_number w.heap (last_script p))) (numbers args) z (owned_by_script p g.file g.ops typings typed m exported w z) (numbers_exist p w args ns))
