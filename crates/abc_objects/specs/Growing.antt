-- A heap that grows: objects keep what they are made as, texts and scopes stay where they are, and nothing goes.
use Rattle.std.specs.Prelude.{◌≡◌, ℕ, ◌<◌, ◌≤◌, List, ◌++◌, length}
use Rattle.abc_heap_store.specs.Heap.{Heap, Object, object_at}
use Rattle.abc_heap_store.specs.declared.records.ScopeNode.{ScopeNode}

-- an object keeps its layout, its delegate and what it is
pub record ObjectKeeps (old new : Object) : Type 0 where
  pub layout : new.layout ≡ old.layout
  pub delegate : new.delegate ≡ old.delegate
  pub what : new.what ≡ old.what

-- each object is still there and keeps what it was made as; scopes and made texts are only added at the end;
-- fixed texts and formulas stay
pub record Grows (old new : Heap) : Type 0 where
  pub objects : (o : ℕ) → o < length old.objects → (o < length new.objects) × ObjectKeeps (object_at old.objects o) (object_at new.objects o)
  pub scopes : (more : List ScopeNode) × (new.scopes ≡ old.scopes ++ more)
  pub fixed : new.fixed ≡ old.fixed
  pub made : (more : List ℕ) × (new.made ≡ old.made ++ more)
  pub formulas : new.formulas ≡ old.formulas
