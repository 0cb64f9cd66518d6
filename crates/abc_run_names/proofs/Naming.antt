-- Names of which parts come at run time.
use Rattle.std.proofs.Common.{◌≡◌, ◌∙◌, ℕ, [], ◌∷◌, sym, ap, subst}
use Rattle.std.specs.Prelude.{Some, None}
use Rattle.std.specs.declared.option.Option.{Option}
use Rattle.abc_heap_values.specs.declared.values.Span.{Span}
use Rattle.abc_heap_values.specs.declared.values.Value.{Value}
use Rattle.abc_heap_values.specs.declared.values.Value.TheVariants.{Undefined, Null, Num, Bool as Truth, Text, Space, Obj}
use Rattle.abc_objects.specs.declared.name.Name.{Name}
use Rattle.abc_objects.specs.declared.name.Spaces.{Spaces}
use Rattle.abc_frames.specs.Frame.{Frame}
use Rattle.abc_meaning.specs.Names.{name_by_form, space_of}
use Rattle.abc_run_state.specs.Stops.{IsOpen}
use Rattle.abc_run_state.proofs.Turning.{open_first}
use Rattle.abc_meaning.specs.Ops.{spells}
use Rattle.abc_meaning.specs.Setting.{NameForm, NoPart, NoSpace, NoText, Setting}
use Rattle.abc_meaning.specs.World.{Outcome, Run, Stop, Stopped, Went, World, and_then, pure, ◌>>=◌}
use Rattle.abc_run_names.specs.Named.{IsSpaceOrNull, parts_for}

abbrev name_with : Spaces → Span → Name
name_with of t = record { spaces = of; text = t }

-- ---- a namespace that comes

spaced : Span → Outcome Spaces → Outcome Name
spaced t o = and_then o (λ (of : Spaces). pure (name_with of t))

pub spaced_went : (p : Setting) (t : Span) (s : Value) (w n : World) (of : Spaces) → space_of s w ≡ Went n of → name_by_form p (Some (NoSpace t)) (s ∷ []) w ≡ Went n (name_with of t)
unfolding spaced
spaced_went p t s w n of e = ap (spaced t) e

pub spaced_stopped : (p : Setting) (t : Span) (s : Value) (w n : World) (why : Stop) → space_of s w ≡ Stopped n why → name_by_form p (Some (NoSpace t)) (s ∷ []) w ≡ Stopped n why
unfolding spaced
spaced_stopped p t s w n why e = ap (spaced t) e

-- ---- a text that comes

texted : Spaces → Outcome Span → Outcome Name
texted of o = and_then o (λ (t : Span). pure (name_with of t))

pub texted_went : (p : Setting) (of : Spaces) (v : Value) (w n : World) (t : Span) → spells p v w ≡ Went n t → name_by_form p (Some (NoText of)) (v ∷ []) w ≡ Went n (name_with of t)
unfolding texted
texted_went p of v w n t e = ap (texted of) e

pub texted_stopped : (p : Setting) (of : Spaces) (v : Value) (w n : World) (why : Stop) → spells p v w ≡ Stopped n why → name_by_form p (Some (NoText of)) (v ∷ []) w ≡ Stopped n why
unfolding texted
texted_stopped p of v w n why e = ap (texted of) e

-- ---- both

abbrev then_space : Value → Span → Run Name
then_space s t = space_of s >>= λ (of : Spaces). pure (name_with of t)

both : Value → Outcome Span → Outcome Name
both s o = and_then o (then_space s)

text_first : (p : Setting) (v s : Value) (w n : World) (t : Span) → spells p v w ≡ Went n t → name_by_form p (Some NoPart) (v ∷ s ∷ []) w ≡ then_space s t n
unfolding both
text_first p v s w n t e = ap (both s) e

pub both_went : (p : Setting) (v s : Value) (w n m : World) (t : Span) (of : Spaces) → spells p v w ≡ Went n t → space_of s n ≡ Went m of → name_by_form p (Some NoPart) (v ∷ s ∷ []) w ≡ Went m (name_with of t)
unfolding spaced
both_went p v s w n m t of e f = text_first p v s w n t e ∙ ap (spaced t) f

pub both_stopped : (p : Setting) (v s : Value) (w n m : World) (t : Span) (why : Stop) → spells p v w ≡ Went n t → space_of s n ≡ Stopped m why → name_by_form p (Some NoPart) (v ∷ s ∷ []) w ≡ Stopped m why
unfolding spaced
both_stopped p v s w n m t why e f = text_first p v s w n t e ∙ ap (spaced t) f

pub text_stopped : (p : Setting) (v s : Value) (w n : World) (why : Stop) → spells p v w ≡ Stopped n why → name_by_form p (Some NoPart) (v ∷ s ∷ []) w ≡ Stopped n why
unfolding both
text_stopped p v s w n why e = ap (both s) e

-- ---- what isn't stuck

pub space_open : (s : Value) (w : World) → IsOpen (space_of s w) → IsSpaceOrNull s
space_open (Space n) w h = tt
space_open Null w h = tt
space_open Undefined w h = h
space_open (Num n) w h = h
space_open (Truth b) w h = h
space_open (Text t) w h = h
space_open (Obj o) w h = h

pub open_space : (p : Setting) (t : Span) (s : Value) (w : World) → IsOpen (name_by_form p (Some (NoSpace t)) (s ∷ []) w) → IsSpaceOrNull s
open_space p t s w h = space_open s w (open_first (space_of s w) (λ (of : Spaces). pure (name_with of t)) h)

pub open_both : (p : Setting) (v s : Value) (w n : World) (t : Span) → spells p v w ≡ Went n t → IsOpen (name_by_form p (Some NoPart) (v ∷ s ∷ []) w) → IsSpaceOrNull s
open_both p v s w n t e h = space_open s n (open_first (space_of s n) (λ (of : Spaces). pure (name_with of t)) (subst IsOpen (text_first p v s w n t e) h))

pub none_open : (p : Setting) (o : Option NameForm) (above : ℕ) (f : Frame) (w : World) → None ≡ o → IsOpen (name_by_form p o (parts_for o above f) w) → ⊥
none_open p o above f w e h = subst (λ (x : Option NameForm). IsOpen (name_by_form p x (parts_for x above f) w)) (sym e) h
