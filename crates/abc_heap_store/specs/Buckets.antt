-- The properties of all objects in buckets, by owner and text.
use Rattle.std.specs.Prelude.{◌≡◌, ℕ, zero, suc, ◌+◌, ◌*◌, ◌%◌, ◌<◌, ◌≤◌, Bool, false, List, [], ◌∷◌, map, length, Option, Some, None, slice_get, get_or, nat_eq, if◌then◌else◌}
use Rattle.abc_heap_values.specs.Filling.{Filling}
use Rattle.abc_heap_values.specs.Lanes.{property_in}
use Rattle.abc_heap_values.specs.declared.cell.Cell.{Cell}
use Rattle.abc_heap_values.specs.declared.values.Span.{Span}
use Rattle.abc_heap_values.specs.declared.values.Value.{Value}
use Rattle.abc_heap_store.specs.declared.buckets.Buckets.{Buckets}
use Rattle.abc_heap_store.specs.Texts.{text_in, IsTextIn}
use Rattle.abc_heap_store.specs.Gaps.{AreGaps}

-- a hash goes on over some bytes
unfoldable pub hash_on : ℕ → List ℕ → ℕ
hash_on h [] = h
hash_on h (b ∷ t) = hash_on ((h * 65599 + b) % 4294967296) t

-- the bucket of a text on an object, where there are n buckets
abbrev pub bucket : ℕ → ℕ → List ℕ → ℕ
bucket n o t = hash_on o t % n

-- the bucket of what a cell holds, where that is a property
abbrev pub bucket_of : ℕ → (Span → List ℕ) → ℕ → Option (Span × Value) → Option ℕ
bucket_of n f o None = None
bucket_of n f o (Some p) = Some (bucket n o (f p.0))

abbrev pub buckets_of : ℕ → (Span → List ℕ) → List Cell → List (Option ℕ)
buckets_of n f cells = map (λ (c : Cell). bucket_of n f c.owner (property_in c.held)) cells

abbrev pub is_in_bucket : ℕ → Option ℕ → Bool
is_in_bucket b None = false
is_in_bucket b (Some c) = nat_eq c b

-- the last place below n that is in a bucket, counted from 1, and 0 where none is
abbrev pub last_in : List (Option ℕ) → ℕ → ℕ → ℕ
last_in ks b zero = 0
last_in ks b (suc n) = if is_in_bucket b (get_or ks n None) then suc n else last_in ks b n

-- what is known of each bucket and of each place in one
pub record AreBuckets (ks : List (Option ℕ)) (ls : List ℕ) (bs : List ℕ) : Type 0 where
  pub lasts : (b : ℕ) → b < length ls → get_or ls b 0 ≡ last_in ks b (length ks)
  pub befores : (p b : ℕ) → get_or ks p None ≡ Some b → get_or bs p 0 ≡ last_in ks b p
  pub room : (p b : ℕ) → get_or ks p None ≡ Some b → p < length bs

-- each property's name is a text
abbrev pub AreNamesIn : List ℕ → List ℕ → List (List ℕ) → List Cell → Type 0
AreNamesIn fixed made strings cells = (i : ℕ) (c : Cell) (n : Span) (v : Value) → slice_get cells i ≡ Some c → property_in c.held ≡ Some (n, v) → IsTextIn fixed made strings n

-- the properties are in their buckets, and the emptied positions know of each other
pub record IsIndexed (fixed : List ℕ) (made : List ℕ) (strings : List (List ℕ)) (cells : Filling Cell) (b : Buckets) : Type 0 where
  pub names : AreNamesIn fixed made strings cells.items
  pub buckets : AreBuckets (buckets_of (length b.lasts.items) (text_in fixed made strings) cells.items) b.lasts.items b.befores.items
  pub some : 0 < length b.lasts.items
  pub room : cells.limit ≤ b.befores.limit
  pub gaps : AreGaps cells.items

-- what changes no property keeps them there
abbrev pub KeepsIndex : Filling Cell → Filling Cell → Type 0
KeepsIndex old new = (fixed made : List ℕ) (strings : List (List ℕ)) (b : Buckets) → IsIndexed fixed made strings old b → IsIndexed fixed made strings new b
