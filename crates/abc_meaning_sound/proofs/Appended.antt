-- What was written stays in front.
use Rattle.std.proofs.Common.{zero, suc, refl}
use Rattle.abc_heap_values.specs.declared.values.Value.{Value}
use Rattle.abc_meaning.specs.Front.{IsWorldFront, left_by}
use Rattle.abc_meaning.proofs.Adding.{front_on, same_front}
use Rattle.abc_meaning.proofs.Stepping.{steps_append}
use Rattle.abc_meaning.specs.World.{World}
use Rattle.abc_meaning.specs.Step.{step}
use Rattle.abc_meaning.specs.Throwing.{Done, End, Ends, FuelSpent, Full, Machine, Profile, Stepped, Steps, Stuck, Uncaught}
use Rattle.abc_meaning.specs.Calls.{Replied, replies_for, value_at_end, then_replies}
use Rattle.abc_meaning_sound.specs.CallLaws.{CallsAppend}

ended_appends : (u : World) (x : Value) (w : World) (e : End) (go : Machine → Replied) → IsWorldFront u w → IsWorldFront u (then_replies x (Ends w e) go).world
ended_appends u x w Done go a = a
ended_appends u x w (Uncaught t) go a = a
ended_appends u x w (Profile n i fault) go a = a
ended_appends u x w FuelSpent go a = a
ended_appends u x w (Full limit) go a = a
ended_appends u x w Stuck go a = a

then_appends : (u : World) (x : Value) (s : Stepped) (go : Machine → Replied) → IsWorldFront u (left_by s) → ((q : Machine) → IsWorldFront q.world (go q).world) → IsWorldFront u (then_replies x s go).world
then_appends u x (Steps q) go a g = front_on u q.world (go q).world a (g q)
then_appends u x (Ends w e) go a g = ended_appends u x w e go a

pub calls_append : CallsAppend
calls_append p zero q = same_front q.world q.world refl
calls_append p (suc fuel) q = then_appends q.world (value_at_end p q.world q.frames) (step p q) (replies_for p fuel) (steps_append p q) (λ n. calls_append p fuel n)
