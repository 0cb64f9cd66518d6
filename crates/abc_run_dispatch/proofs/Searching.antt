-- A search in scopes that an act does, and the arm of its instruction.
use Rattle.std.proofs.Common.{◌≡◌, ◌∙◌, ℕ, List, refl, ap}
use Rattle.abc_meaning.specs.Scopes as acts
use Rattle.abc_heap_values.specs.declared.values.Value.{Value}
use Rattle.abc_heap_values.specs.declared.values.Value.TheVariants.{Obj}
use Rattle.abc_run_members.specs.Found.{found_from_scopes}
use Rattle.abc_run_names.specs.Named.{name_form_at, named_here, name_parts_count}
use Rattle.abc_run_members.specs.Scoped.{finds_or_global_here, finds_strictly_here, pushes_or_global, pushes_strictly}
use Rattle.abc_objects.specs.declared.found.ScopeFound.{ScopeFound}
use Rattle.abc_objects.specs.declared.found.ScopeFound.TheVariants.{Missing, Object, Start}
use Rattle.abc_objects.specs.declared.name.Name.{Name}
use Rattle.abc_frames.specs.Frame.{Frame}
use Rattle.abc_meaning.specs.At.{ActCase, gives_came}
use Rattle.abc_meaning.specs.Names.{name_of}
use Rattle.abc_run_state.proofs.Turning.{and_then_same}
use Rattle.abc_meaning.specs.Entering.{global}
use Rattle.abc_meaning.specs.Members.{reads}
use Rattle.abc_meaning.specs.Setting.{Setting}
use Rattle.abc_meaning.specs.World.{World, and_then, see, ◌>>=◌}
use Rattle.abc_run_members.specs.Supers.{find_and_read, reads_in}
use Rattle.abc_run_dispatch.proofs.DeletedTaken.{taking_at}
use Rattle.abc_verify_typing.specs.Effects.{Here}

module _ (p : Setting) (h : Here) (f : Frame) (count n : ℕ) (vs ps : List Value) (w : World) where
  abbrev here_at : ActCase
  here_at = taking_at p h f count (name_parts_count (name_form_at p n)) vs ps

  strictly_found : (found : ScopeFound) (v : World) → acts.found_in here_at found (λ o. acts.pushes here_at (Obj o)) (acts.is_missing here_at) v ≡ pushes_strictly p found (name_parts_count (name_form_at p n)) f v
  strictly_found (Object o) v = refl
  strictly_found (Start s) v = refl
  strictly_found Missing v = refl

  global_found : (found : ScopeFound) (v : World) → acts.found_in here_at found (λ o. acts.pushes here_at (Obj o)) (see (global f.home) >>= acts.pushes here_at) v ≡ pushes_or_global p found (name_parts_count (name_form_at p n)) f v
  global_found (Object o) v = refl
  global_found (Start s) v = refl
  global_found Missing v = refl

  read_found : (name : Name) (found : ScopeFound) (v : World) → acts.found_in here_at found (λ o. gives_came (λ b. reads b.setting (Obj o) name) here_at) (acts.is_missing here_at) v ≡ reads_in p found name (name_parts_count (name_form_at p n)) f v
  read_found name (Object o) v = refl
  read_found name (Start s) v = refl
  read_found name Missing v = refl

  pub strictly_is : name_of here_at w ≡ named_here p n 0 f w → acts.finds_strictly here_at w ≡ finds_strictly_here p n f w
  strictly_is is =
      ap (λ o. and_then o (λ name. see (acts.find_in_scopes here_at name) >>= λ found. acts.found_in here_at found (λ x. acts.pushes here_at (Obj x)) (acts.is_missing here_at))) is
      ∙ and_then_same (named_here p n 0 f w) (λ name. see (acts.find_in_scopes here_at name) >>= λ found. acts.found_in here_at found (λ x. acts.pushes here_at (Obj x)) (acts.is_missing here_at)) (λ name. see (found_from_scopes p f name) >>= λ found. pushes_strictly p found (name_parts_count (name_form_at p n)) f)
      (λ v name. strictly_found (found_from_scopes p f name v) v)

  pub global_is : name_of here_at w ≡ named_here p n 0 f w → acts.finds_or_global here_at w ≡ finds_or_global_here p n f w
  global_is is =
      ap (λ o. and_then o (λ name. see (acts.find_in_scopes here_at name) >>= λ found. acts.found_in here_at found (λ x. acts.pushes here_at (Obj x)) (see (global f.home) >>= acts.pushes here_at))) is
      ∙ and_then_same (named_here p n 0 f w) (λ name. see (acts.find_in_scopes here_at name) >>= λ found. acts.found_in here_at found (λ x. acts.pushes here_at (Obj x)) (see (global f.home) >>= acts.pushes here_at)) (λ name. see (found_from_scopes p f name) >>= λ found. pushes_or_global p found (name_parts_count (name_form_at p n)) f)
      (λ v name. global_found (found_from_scopes p f name v) v)

  pub reads_is : name_of here_at w ≡ named_here p n 0 f w → acts.finds_and_reads here_at w ≡ find_and_read p n f w
  reads_is is =
      ap (λ o. and_then o (λ name. see (acts.find_in_scopes here_at name) >>= λ found. acts.found_in here_at found (λ x. gives_came (λ b. reads b.setting (Obj x) name) here_at) (acts.is_missing here_at))) is
      ∙ and_then_same (named_here p n 0 f w) (λ name. see (acts.find_in_scopes here_at name) >>= λ found. acts.found_in here_at found (λ x. gives_came (λ b. reads b.setting (Obj x) name) here_at) (acts.is_missing here_at)) (λ name. see (found_from_scopes p f name) >>= λ found. reads_in p found name (name_parts_count (name_form_at p n)) f)
      (λ v name. read_found name (found_from_scopes p f name v) v)
