-- Types of class objects, and what is tested of them.
use Rattle.std.proofs.Common.{◌≡◌, ◌∙◌, ◌<◌, Bool, length, sym, ap}
use Rattle.std.specs.declared.option.Option.{Option}
use Rattle.abc_heap_values.specs.declared.values.ObjId.{ObjId}
use Rattle.abc_heap_values.specs.declared.values.Span.{Span}
use Rattle.abc_heap_values.specs.declared.values.Value.{Value}
use Rattle.abc_heap_values.specs.declared.values.Value.TheVariants.{Bool as Truth, Obj}
use Rattle.abc_heap_store.specs.Heap.{Object, object_at}
use Rattle.abc_link_names.specs.declared.types.Ty.{Ty}
use Rattle.abc_objects.specs.Searches.{found_on}
use Rattle.abc_objects.specs.declared.found.Found.{Found}
use Rattle.abc_objects.specs.declared.found.Want.TheVariants.{Read}
use Rattle.abc_objects.specs.declared.name.Spaces.TheVariants.{Public}
use Rattle.abc_meaning.specs.Late.{is_found, is_instance, kept_as, late_type, or_null, tested_as, type_of_what}
use Rattle.abc_run_state.proofs.Things.{object_is}
use Rattle.abc_meaning.specs.Members.{with_holder}
use Rattle.abc_meaning.specs.Ops.{spells}
use Rattle.abc_meaning.specs.Setting.{Setting}
use Rattle.abc_meaning.specs.Types.{is_of_type}
use Rattle.abc_meaning.specs.World.{Outcome, Run, Stop, Stopped, Went, World, and_then, pure, see, some, ◌>>=◌}
use Rattle.abc_run_names.specs.Late.{name_is_in}
use Rattle.abc_run_names.proofs.Receiving.{holder_first, passed}

-- of an object, by what it is
pub late_object : (p : Setting) (o : ObjId) (w : World) → o.0 < length w.heap.objects → late_type p (Obj o) w ≡ type_of_what p (object_at w.heap.objects o.0).what w
late_object p o w b = ap going (object_is w.heap.objects o.0 b)
  where
    going : Option Object → Outcome Ty
    going ob = and_then (some ob w) (λ it. type_of_what p it.what)

-- ---- by what the calls gave

late_is : {X : Type 0} (p : Setting) (c d : Value) (f : Ty → Run X) (w : World) (o : Outcome Ty) → c ≡ d → late_type p c w ≡ o → (late_type p d >>= f) w ≡ and_then o f
late_is p c d f w o same e = ap (λ x. and_then (late_type p x w) f) (sym same) ∙ ap (λ r. and_then r f) e

pub late_stops : {X : Type 0} (p : Setting) (c d : Value) (f : Ty → Run X) (w : World) (why : Stop) → c ≡ d → late_type p c w ≡ Stopped w why → (late_type p d >>= f) w ≡ Stopped w why
late_stops p c d f w why same e = late_is p c d f w (Stopped w why) same e

pub late_kept : (p : Setting) (c d v x : Value) (w : World) (t : Ty) (is : Bool) (r : Value) → c ≡ d → v ≡ x → late_type p c w ≡ Went w t → is ≡ is_of_type p.linked w.heap t v → r ≡ or_null v is → (late_type p d >>= kept_as p x) w ≡ Went w r
late_kept p c d v x w t is r same value e test kept =
    late_is p c d (kept_as p x) w (Went w t) same e
    ∙ ap (λ y. Went w (or_null y (is_of_type p.linked w.heap t y))) (sym value)
    ∙ ap (λ b. Went w (or_null v b)) (sym test)
    ∙ ap (Went w) (sym kept)

pub late_tested : (p : Setting) (c d v x : Value) (w : World) (t : Ty) (is : Bool) → c ≡ d → v ≡ x → late_type p c w ≡ Went w t → is ≡ is_of_type p.linked w.heap t v → (late_type p d >>= tested_as p x) w ≡ Went w (Truth is)
late_tested p c d v x w t is same value e test =
    late_is p c d (tested_as p x) w (Went w t) same e
    ∙ ap (λ y. Went w (Truth (is_of_type p.linked w.heap t y))) (sym value)
    ∙ ap (λ b. Went w (Truth b)) (sym test)

pub late_instance : (p : Setting) (c d v x : Value) (w : World) (t : Ty) (is : Bool) → c ≡ d → v ≡ x → late_type p c w ≡ Went w t → is ≡ is_instance v c w → (late_type p d >>= λ u. see (is_instance x d) >>= λ b. pure (Truth b)) w ≡ Went w (Truth is)
late_instance p c d v x w t is same value e test =
    late_is p c d (λ u. see (is_instance x d) >>= λ b. pure (Truth b)) w (Went w t) same e
    ∙ ap (λ y. Went w (Truth (is_instance y d w))) (sym value)
    ∙ ap (λ y. Went w (Truth (is_instance v y w))) (sym same)
    ∙ ap (λ b. Went w (Truth b)) (sym test)

-- ---- a name in an object

abbrev seen_in : Setting → Value → Span → World → Value
seen_in p o t w = Truth (is_found (found_on p.linked w.heap o (record { spaces = Public; text = t }) Read))

then_found : Setting → Value → Outcome Span → Outcome Value
then_found p o r = and_then r (λ t. with_holder o (see (seen_in p o t)))

spelled_first : (p : Setting) (m n o q : Value) (w : World) (r : Outcome Span) → m ≡ n → o ≡ q → spells p m w ≡ r → name_is_in p n q w ≡ then_found p o r
unfolding then_found
spelled_first p m n o q w r same object e = ap (λ x. then_found p q (spells p x w)) (sym same) ∙ ap (λ x. then_found p x (spells p m w)) (sym object) ∙ ap (then_found p o) e

pub in_stops : (p : Setting) (m n o q : Value) (w u : World) (why : Stop) → m ≡ n → o ≡ q → spells p m w ≡ Stopped u why → name_is_in p n q w ≡ Stopped u why
unfolding then_found
in_stops p m n o q w u why same object e = spelled_first p m n o q w (Stopped u why) same object e

holder_then : (p : Setting) (m n o q : Value) (w u : World) (t : Span) → m ≡ n → o ≡ q → spells p m w ≡ Went u t → name_is_in p n q w ≡ and_then (with_holder o passed u) (λ _. see (seen_in p o t))
unfolding then_found
holder_then p m n o q w u t same object e = spelled_first p m n o q w (Went u t) same object e ∙ holder_first o (see (seen_in p o t)) u

pub in_refused : (p : Setting) (m n o q : Value) (w u : World) (t : Span) (why : Stop) → m ≡ n → o ≡ q → spells p m w ≡ Went u t → with_holder o passed u ≡ Stopped u why → name_is_in p n q w ≡ Stopped u why
in_refused p m n o q w u t why same object e h = holder_then p m n o q w u t same object e ∙ ap (λ r. and_then r (λ _. see (seen_in p o t))) h

pub in_found : (p : Setting) (m n o q : Value) (w u : World) (t : Span) (f : Found) (is : Bool) → m ≡ n → o ≡ q → spells p m w ≡ Went u t → with_holder o passed u ≡ Went u tt → f ≡ found_on p.linked u.heap o (record { spaces = Public; text = t }) Read → is ≡ is_found f → name_is_in p n q w ≡ Went u (Truth is)
in_found p m n o q w u t f is same object e h found tells =
    holder_then p m n o q w u t same object e
    ∙ ap (λ r. and_then r (λ _. see (seen_in p o t))) h
    ∙ ap (λ x. Went u (Truth (is_found x))) (sym found)
    ∙ ap (λ b. Went u (Truth b)) (sym tells)
