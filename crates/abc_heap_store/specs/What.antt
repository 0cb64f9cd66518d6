-- What an object is (profile: docs/MACHINE.md, "Heap and room").
use Rattle.std.specs.Prelude.{Bool, true, false, Some, None}
use Rattle.abc_heap_values.specs.declared.chain.Chain.{Chain}
use Rattle.abc_heap_store.specs.declared.records.What.{What}
use Rattle.abc_heap_store.specs.declared.records.What.TheVariants as whats
use Rattle.abc_heap_store.specs.declared.stored.StoredWhat.{StoredWhat}
use Rattle.abc_heap_store.specs.declared.stored.StoredWhat.TheVariants as kept

-- the object is an array
abbrev pub is_array : What → Bool
is_array whats.Array = true
is_array other = false

-- what is kept in the fewest bytes
abbrev pub what_in : StoredWhat → What
what_in kept.Plain = whats.Plain
what_in (kept.Free m h s) = whats.Closure m h s None
what_in (kept.Bound m h b) = whats.Closure m h None (Some b)
what_in (kept.BoundWithin m h s b) = whats.Closure m h (Some s) (Some b)
what_in (kept.OuterClass c h i) = whats.ClassObject c h None i
what_in (kept.InnerClass c h s i) = whats.ClassObject c h (Some s) i
what_in (kept.HostClass c) = whats.HostClass c
what_in kept.Trace = whats.Trace
what_in (kept.Formula n) = whats.Formula n
what_in kept.HostObject = whats.HostObject
what_in (kept.Global s) = whats.Global s
what_in kept.Activation = whats.Activation
what_in kept.Catch = whats.Catch
what_in (kept.Array c) = whats.Array

-- the list of its elements, which an array alone has
abbrev pub elements_in : StoredWhat → Chain
elements_in (kept.Array c) = c
elements_in other = record { last = 0; count = 0 }
