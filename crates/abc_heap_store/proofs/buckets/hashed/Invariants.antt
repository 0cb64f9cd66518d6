use Rattle.std.proofs.Common.{◌≡◌, ◌<◌, drop}
use Rattle.abc_heap_store.specs.Buckets.{hash_on}
use Rattle.abc_heap_store.proofs.buckets.hashed.Given as goal

abbrev pub invariant-loop-byte : goal.invariant-loop-byte
invariant-loop-byte l = (l.hash < 4294967296) × (hash_on l.hash (drop l.byte-index l.text) ≡ hash_on l.owner l.text)
