-- A run that can begin: of the verified file that there is, in a state with room for the first locals of its methods.
use Rattle.std.proofs.Common.{◌≡◌, ℕ, zero, suc, ◌+◌, ◌≤◌, List, [], ◌∷◌, length, refl, subst, arith}
use Rattle.std.specs.Prelude.{None, Some, slice_get}
use Rattle.abc_heap_store.specs.declared.records.Limits.{Limits}
use Rattle.abc_meaning.specs.Meaning.{first_world, too_small}
use Rattle.abc_run_finish.specs.Begun.{IsBegun}
use Rattle.abc_machine.specs.ReachedLaws.{SomeRunsBegin}
use Rattle.abc_machine.proofs.Beginning.{reached_first}
use Rattle.abc_frames.specs.Frame.{no_frames}
use Rattle.abc_meaning.specs.Setting.{Setting}
use Rattle.abc_run_state.specs.declared.state.State.{State}
use Rattle.abc_meaning_sound.proofs.Witness.{some_verified}

-- a number that is enough for each of some things, of so many each
enough : {X : Type 0} → List X → (X → ℕ) → ℕ
enough [] size = 0
enough (x ∷ xs) size = size x + enough xs size

is_enough : {X : Type 0} (xs : List X) (size : X → ℕ) (n : ℕ) (x : X) → slice_get xs n ≡ Some x → size x ≤ enough xs size
unfolding enough
is_enough [] size n x e = absurd cc
is_enough {X = X} (y ∷ xs) size zero x e = let same : y ≡ x = cc in subst (λ (z : X). size z ≤ size y + enough xs size) same (omega arith)
is_enough (y ∷ xs) size (suc n) x e = let more = is_enough xs size n x e in omega (arith, more)

begun : Setting → Limits → State
begun p limits = record {
  arena = (first_world p limits).heap;
  frames = no_frames limits.frames limits.stack;
  started = (first_world p limits).started;
  given = record { items = []; limit = enough p.linked.file.methods (λ m. length m.params + 2) };
}

is_begun : (p : Setting) (limits : Limits) → too_small (first_world p limits).heap ≡ None → IsBegun p limits (begun p limits)
unfolding begun
is_begun p limits e = record { fits = e; heap = refl; started = refl; frames = refl; given = refl; room = record { each = λ n m is. is_enough p.linked.file.methods (λ x. length x.params + 2) n m is } }

pub some_begins : SomeRunsBegin
unfolding begun
some_begins =
    let x = some_verified in
    let p = x.0 in
    let limits = x.1 in
    let s = begun p limits in
    let b = is_begun p limits x.4 in
    (p.linked, p.formulas, limits, s, record { verified = x.2; begun = b; reached = reached_first p.linked p.formulas limits s x.2 x.3 b })
