-- The name of an instruction, a search in scopes, and then what is done with what was found.
use Rattle.std.proofs.Common.{◌≡◌, ◌∙◌, ℕ, ap, sym, subst}
use Rattle.abc_objects.specs.declared.found.ScopeFound.{ScopeFound}
use Rattle.abc_objects.specs.declared.name.Name.{Name}
use Rattle.abc_frames.specs.Frame.{Frame, Frames, newest}
use Rattle.abc_meaning.specs.At.{Act}
use Rattle.abc_run_names.specs.Named.{name_form_at, named_here, name_parts_count}
use Rattle.abc_run_state.specs.Stops.{IsOpen}
use Rattle.abc_run_state.specs.Turns.{Halts, Turned, bare_newest, turn_of}
use Rattle.abc_run_state.proofs.Turning.{open_first}
use Rattle.abc_meaning.specs.Setting.{Setting}
use Rattle.abc_meaning.specs.World.{Outcome, Run, Stop, Stopped, Went, World, and_then, see, ◌>>=◌}
use Rattle.abc_run_members.specs.Found.{found_from_scopes}
use Rattle.abc_run_members.specs.Scoped.{finds_with}

abbrev pub Going : Type 0
Going = ScopeFound → Name → ℕ → Frame → Run Act

abbrev after : Setting → ℕ → Going → Frame → Outcome Name → Outcome Act
after p n go f o = and_then o (λ name. see (found_from_scopes p f name) >>= λ found. go found name (name_parts_count (name_form_at p n)) f)

module _ (p : Setting) (q mid : Frames) (n parts : ℕ) (go : Going) (w a : World) (name : Name) (found : ScopeFound) (counted : parts ≡ name_parts_count (name_form_at p n)) (e : named_here p n 0 (newest q) w ≡ Went a name) (same : mid ≡ q) (is : found ≡ found_from_scopes p (newest mid) name a) where
  pub found_turns : (t : Turned) → turn_of p mid (go found name parts (newest mid) a) ≡ t → turn_of p q (finds_with p n go (newest q) w) ≡ t
  found_turns t h =
      ap (λ o. turn_of p q (after p n go (newest q) o)) e
      ∙ ap (λ (r : Frames). turn_of p r (after p n go (newest r) (Went a name))) (sym same)
      ∙ ap (λ x. turn_of p mid (go x name (name_parts_count (name_form_at p n)) (newest mid) a)) (sym is)
      ∙ ap (λ k. turn_of p mid (go found name k (newest mid) a)) (sym counted)
      ∙ h

  pub found_open : IsOpen (finds_with p n go (newest q) w) → IsOpen (go found name parts (newest mid) a)
  found_open h =
      subst (λ (k : ℕ). IsOpen (go found name k (newest mid) a)) (sym counted)
      (subst (λ x. IsOpen (go x name (name_parts_count (name_form_at p n)) (newest mid) a)) (sym is)
      (subst (λ (r : Frames). IsOpen (after p n go (newest r) (Went a name))) (sym same)
      (subst (λ o. IsOpen (after p n go (newest q) o)) e h)))

pub named_open : (p : Setting) (n : ℕ) (go : Going) (f : Frame) (w : World) → IsOpen (finds_with p n go f w) → IsOpen (named_here p n 0 f w)
named_open p n go f w h = open_first (named_here p n 0 f w) (λ name. see (found_from_scopes p f name) >>= λ found. go found name (name_parts_count (name_form_at p n)) f) h

pub named_halts : (p : Setting) (q new : Frames) (n : ℕ) (go : Going) (w a : World) (why : Stop) → named_here p n 0 (newest q) w ≡ Stopped a why → new ≡ q → turn_of p q (finds_with p n go (newest q) w) ≡ Halts a (bare_newest new) why
named_halts p q new n go w a why e same = ap (λ o. turn_of p q (after p n go (newest q) o)) e ∙ ap (λ (r : Frames). Halts a (bare_newest r) why) (sym same)
