-- An act of a sound state is fair, since it is sound.
use Rattle.std.proofs.Common.{◌≢◌, suc, List, [], ◌∷◌, refl, arith}
use Rattle.abc_meaning.specs.At.{Above, Act, Goes, Returns, Stays}
use Rattle.abc_base.specs.declared.names.HostClass.{HostClass}
use Rattle.abc_base.specs.declared.names.HostClass.TheVariants as hosts
use Rattle.abc_meaning_sound.proofs.Scoped.{scopes_given}
use Rattle.abc_meaning_sound.proofs.Verified.{file_given}
use Rattle.abc_meaning.specs.ThrowLaws.{IsVerifiedSetting}
use Rattle.abc_meaning.specs.Sound.{Typings}
use Rattle.abc_meaning.specs.Step.{runs}
use Rattle.abc_meaning.specs.Throwing.{last_script}
use Rattle.abc_heap_values.specs.declared.values.Value.{Value}
use Rattle.abc_objects.specs.Stands.{EachAt}
use Rattle.abc_objects.specs.Values.{Exists}
use Rattle.abc_meaning_sound.specs.ObjectLaws.{Given}
use Rattle.abc_meaning_sound.proofs.Operated.{ops_given}
use Rattle.abc_meaning_sound.proofs.Law.{groups_hold}
use Rattle.abc_meaning_sound.proofs.Calls.{new_fares}
use Rattle.abc_meaning_sound.proofs.Stepping.{runs_fares}
use Rattle.abc_meaning_sound.specs.Keeping.{ActSound, Fares, IsError, LeavesSound, StopSound}
use Rattle.abc_meaning_sound.proofs.Entered.{starts_fares}
use Rattle.abc_frames.specs.Frame.{Frame}
use Rattle.abc_verify_typing.specs.Lists.{Each}
use Rattle.abc_meaning_sound.proofs.Makers.{makers_given}
use Rattle.abc_meaning_sound.proofs.Searched.{search_given}
use Rattle.abc_meaning.specs.Entering.{starts_script}
use Rattle.abc_meaning.specs.Making.{new}
use Rattle.abc_meaning.specs.Setting.{Setting, routine_of}
use Rattle.abc_meaning.specs.World.{Errs, Faults, Fills, Outcome, Sticks, Stop, Stopped, Throws, Went, World}
use Rattle.abc_meaning.specs.Fair.{IsFairAs, IsFairPart, IsFairStop, IsLeft}
use Rattle.abc_meaning_sound.specs.ProgressLaws.{ActsAreFair, NewsAreFair, StartsAreFair}
use Rattle.abc_meaning_sound.proofs.Waited.{receiver_there}

-- ---- what is given of a verified file

given : (p : Setting) → IsVerifiedSetting p → Given p
given p v =
    let file = file_given p v.linked in
    let scopes = scopes_given p v.linked in
    record { file = file; scopes = scopes; makers = makers_given p file scopes; ops = ops_given p v.linked; search = search_given p file scopes }

-- ---- what is sound is fair

left : (p : Setting) (w n : World) → LeavesSound p w n → IsLeft p w n
left p w n l = record { sound = l.sound; grows = l.grows.grows; limits = l.grows.limits }

no_array : (c : HostClass) → IsError c → c ≢ hosts.Array
no_array hosts.TypeError e q = cc
no_array hosts.ReferenceError e q = cc
no_array hosts.ArgumentError e q = cc
no_array hosts.Object e q = e
no_array hosts.Class e q = e
no_array hosts.Function e q = e
no_array hosts.Namespace e q = e
no_array hosts.Str e q = e
no_array hosts.Int e q = e
no_array hosts.UInt e q = e
no_array hosts.Number e q = e
no_array hosts.Boolean e q = e
no_array hosts.Error e q = e
no_array hosts.Array e q = e

stop_fair : (p : Setting) (n : World) (why : Stop) → StopSound p n why → IsFairStop p n why
stop_fair p n (Throws v) s = s
stop_fair p n (Errs c) s = no_array c s
stop_fair p n (Faults fault) s = tt
stop_fair p n (Fills limit) s = tt
stop_fair p n Sticks s = s

fair_of : (p : Setting) (typings : Typings) (w : World) (f : Frame) (o : Outcome Act) → Fares p w o (ActSound p typings f) → IsFairAs p f w o
fair_of p typings w f (Went n (Goes (Stays g))) s = (left p w n s.so.0, s.so.1.0)
fair_of p typings w f (Went n (Goes (Above g b))) s = (left p w n s.so.0, s.so.1.0)
fair_of p typings w f (Went n (Returns v)) s = (left p w n s.so.0, s.so.1)
fair_of p typings w f (Stopped n why) s = (left p w n s.so.0, stop_fair p n why s.so.1)

part_fair : {X : Type 0} (p : Setting) (w : World) (o : Outcome X) (Q : World → X → Type 0) → Fares p w o Q → IsFairPart p w o
part_fair p w (Went n g) Q s = left p w n s.so.0
part_fair p w (Stopped n why) Q s = (left p w n s.so.0, stop_fair p n why s.so.1)

-- ---- the laws

pub acts_fair : ActsAreFair
acts_fair p typings w f fs v typed s =
    let g = given p v in
    let fares = runs_fares p g.file g.ops typings typed (groups_hold p typings g typed) (new_fares p g.file g.ops typings typed) w f s.world s.frames.0 in
    (fair_of p typings w f (runs p f (routine_of p f.method) w) fares, receiver_there p typings w.heap f v typed s.frames.0)

pub starts_fair : StartsAreFair
starts_fair p typings w v typed s =
    let g = given p v in
    let one = g.file.one_script in
    part_fair p w (starts_script p (last_script p) w) _ (starts_fares p g.file g.ops typings typed w (last_script p) s.world (omega (arith, one)))

-- the two ways to say that something is so of each element
each_by : (P : Value → Type 0) (vs : List Value) → EachAt P vs → Each P vs
each_by P [] e = tt
each_by P (v ∷ vs) e = (e 0 v refl, each_by P vs (λ k x q. e (suc k) x q))

pub news_fair : NewsAreFair
news_fair p typings w v args verified typed s z es =
    let g = given p verified in
    part_fair p w (new p v args w) _ (new_fares p g.file g.ops typings typed w v args s z (each_by (Exists p.linked w.heap) args es))
