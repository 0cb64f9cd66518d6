-- How the parts of a step are put together.
use Rattle.std.proofs.Common.{◌≡◌, ℕ, ◌+◌, ◌≤◌, length, refl, sym, subst}
use Rattle.std.specs.Prelude.{Bool, true, false, nat_le, Some, if◌then◌else◌}
use Rattle.std.specs.declared.option.Option.{Option}
use Rattle.std.proofs.lemmas.Bool.{leb-true}
use Rattle.abc_heap_store.specs.Heap.{cells_used}
use Rattle.abc_heap_store.specs.declared.records.Limit.{Limit}
use Rattle.abc_heap_store.specs.declared.records.Limit.TheVariants.{Cells, Objects}
use Rattle.abc_meaning.specs.Setting.{Setting}
use Rattle.abc_meaning.specs.World.{Fills, Outcome, Run, Stop, Stopped, Went, World, and_then, pure, must, room, room_for_cells, room_for_objects, some, stop}
use Rattle.abc_meaning.specs.Sound.{WorldSound}
use Rattle.abc_meaning_sound.specs.Keeping.{Fares, LeavesSound, StopSound}
use Rattle.abc_meaning_sound.proofs.Growing.{evolves_on, evolves_self}

module _ (p : Setting) where
  pub leaves_trans : (u w n : World) → LeavesSound p u w → LeavesSound p w n → LeavesSound p u n
  leaves_trans u w n a b = record { sound = b.sound; grows = evolves_on u.heap w.heap n.heap a.grows b.grows }

  pub leaves_self : (w : World) → WorldSound p w → LeavesSound p w w
  leaves_self w s = record { sound = s; grows = evolves_self w.heap }

  pub fares_from : {X : Type 0} (u w : World) (o : Outcome X) (Q : World → X → Type 0) → LeavesSound p u w → Fares p w o Q → Fares p u o Q
  fares_from u w (Went n x) Q l h = record { so = (leaves_trans u w n l h.so.0, h.so.1) }
  fares_from u w (Stopped n why) Q l h = record { so = (leaves_trans u w n l h.so.0, h.so.1) }

  pub then_fares : {X Y : Type 0} (w : World) (o : Outcome X) (f : X → Run Y) (Q : World → X → Type 0) (R : World → Y → Type 0) → Fares p w o Q → ((n : World) (x : X) → LeavesSound p w n → Q n x → Fares p n (f x n) R) → Fares p w (and_then o f) R
  then_fares w (Went n x) f Q R h k = fares_from w n (f x n) R h.so.0 (k n x h.so.0 h.so.1)
  then_fares w (Stopped n why) f Q R h k = record { so = h.so }

  pub weaker : {X : Type 0} (w : World) (o : Outcome X) (Q R : World → X → Type 0) → ((n : World) (x : X) → LeavesSound p w n → Q n x → R n x) → Fares p w o Q → Fares p w o R
  weaker w (Went n x) Q R k h = record { so = (h.so.0, k n x h.so.0 h.so.1) }
  weaker w (Stopped n why) Q R k h = record { so = h.so }

  pub done_fares : {X : Type 0} (w : World) (x : X) (Q : World → X → Type 0) → WorldSound p w → Q w x → Fares p w (Went w x) Q
  done_fares w x Q s q = record { so = (leaves_self w s, q) }

  pub went_fares : {X : Type 0} (w n : World) (x : X) (Q : World → X → Type 0) → LeavesSound p w n → Q n x → Fares p w (Went n x) Q
  went_fares w n x Q l q = record { so = (l, q) }

  pub stop_fares : {X : Type 0} (w : World) (why : Stop) (Q : World → X → Type 0) → WorldSound p w → StopSound p w why → Fares p w (Stopped w why) Q
  stop_fares w why Q s q = record { so = (leaves_self w s, q) }

  pub some_then : {X Y : Type 0} (w : World) (o : Option X) (x : X) (f : X → Run Y) (R : World → Y → Type 0) → o ≡ Some x → Fares p w (f x w) R → Fares p w (and_then (some o w) f) R
  some_then w o x f R e h = subst (λ q. Fares p w (and_then (some q w) f) R) (sym e) h

  pub some_fares : {X : Type 0} (w : World) (o : Option X) (x : X) (R : World → X → Type 0) → o ≡ Some x → WorldSound p w → R w x → Fares p w (some o w) R
  some_fares w o x R e s h = subst (λ q. Fares p w (some q w) R) (sym e) (done_fares w x R s h)

  pub must_then : {Y : Type 0} (w : World) (b : Bool) (f : Unit {0} → Run Y) (R : World → Y → Type 0) → b ≡ true → Fares p w (f tt w) R → Fares p w (and_then (must b w) f) R
  must_then w b f R e h = subst (λ q. Fares p w (and_then (must q w) f) R) (sym e) h

  pub if_fares : {X : Type 0} (w : World) (b : Bool) (m k : Run X) (R : World → X → Type 0) → (b ≡ true → Fares p w (m w) R) → (b ≡ false → Fares p w (k w) R) → Fares p w ((if b then m else k) w) R
  if_fares w true m k R f g = f refl
  if_fares w false m k R f g = g refl

  pub room_then : {Y : Type 0} (w : World) (which : Limit) (used need limit : ℕ) (f : Unit {0} → Run Y) (R : World → Y → Type 0) → WorldSound p w → (used + need ≤ limit → Fares p w (f tt w) R) → Fares p w (and_then (room which used need limit w) f) R
  room_then w which used need limit f R s h = go (nat_le (used + need) limit) refl
    where
      go : (b : Bool) → nat_le (used + need) limit ≡ b → Fares p w (and_then ((if b then pure tt else stop (Fills which)) w) f) R
      go true e = h (leb-true _ _ e)
      go false e = stop_fares w (Fills which) R s tt

  pub objects_then : {Y : Type 0} (w : World) (need : ℕ) (f : Unit {0} → Run Y) (R : World → Y → Type 0) → WorldSound p w → (length w.heap.objects + need ≤ w.heap.limits.objects → Fares p w (f tt w) R) → Fares p w (and_then (room_for_objects need w) f) R
  objects_then w need f R s h = room_then w Objects (length w.heap.objects) need w.heap.limits.objects f R s h

  pub cells_then : {Y : Type 0} (w : World) (need : ℕ) (f : Unit {0} → Run Y) (R : World → Y → Type 0) → WorldSound p w → (cells_used w.heap + need ≤ w.heap.limits.cells → Fares p w (f tt w) R) → Fares p w (and_then (room_for_cells need w) f) R
  cells_then w need f R s h = room_then w Cells (cells_used w.heap) need w.heap.limits.cells f R s h
