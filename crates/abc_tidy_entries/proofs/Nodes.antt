-- Nodes are below their number.
use Rattle.std.proofs.Common.{◌≡◌, ℕ, ◌+◌, ◌<◌, ◌≤◌, ◌^◌, Bool, true, false, nat_eq, nat_le, if◌then◌else◌, refl, ap, ◌∙◌, arith}
use Rattle.abc_tidy_refs.specs.declared.nodes.Counts.{Counts}
use Rattle.abc_tidy_refs.specs.Nodes.{node_in_pool, node_count, node_of, set_node}
use Rattle.abc_file_types.specs.declared.opcodes.Pool.{Pool}
use Rattle.abc_file_types.specs.declared.opcodes.Pool.TheVariants as pools
use Rattle.std.proofs.lemmas.Bool.{leb-true}

pub node_at_most : (before size i : ℕ) → node_in_pool before size i ≤ before + size
node_at_most before size i = by (nat_eq i 0) (nat_le i size) refl refl
  where
    by : (a b : Bool) → nat_eq i 0 ≡ a → nat_le i size ≡ b → node_in_pool before size i ≤ before + size
    by true b e f = let h : node_in_pool before size i ≡ 0 = ap (λ t. if t then 0 else if nat_le i size then before + i else 0) e in omega arith
    by false true e f =
        let h : node_in_pool before size i ≡ before + i = ap (λ t. if t then 0 else if nat_le i size then before + i else 0) e ∙ ap (λ t. if t then before + i else 0) f in
        let l : i ≤ size = leb-true i size f in
        omega arith
    by false false e f =
        let h : node_in_pool before size i ≡ 0 = ap (λ t. if t then 0 else if nat_le i size then before + i else 0) e ∙ ap (λ t. if t then before + i else 0) f in
        omega arith

pub node_small : (c : Counts) (p : Pool) (i : ℕ) → node_count c < 2 ^ 32 → node_of c p i < 2 ^ 32
node_small c pools.NoPool i few = omega arith
node_small c pools.Int i few = let h = node_at_most 0 c.ints i in omega arith
node_small c pools.UInt i few = let h = node_at_most c.ints c.uints i in omega arith
node_small c pools.Double i few = let h = node_at_most (c.ints + c.uints) c.doubles i in omega arith
node_small c pools.Text i few = let h = node_at_most (c.ints + c.uints + c.doubles) c.strings i in omega arith
node_small c pools.Space i few = let h = node_at_most (c.ints + c.uints + c.doubles + c.strings) c.namespaces i in omega arith
node_small c pools.Name i few = let h = node_at_most (c.ints + c.uints + c.doubles + c.strings + c.namespaces + c.sets) c.names i in omega arith

pub set_node_small : (c : Counts) (i : ℕ) → node_count c < 2 ^ 32 → set_node c i < 2 ^ 32
set_node_small c i few = let h = node_at_most (c.ints + c.uints + c.doubles + c.strings + c.namespaces) c.sets i in omega arith

pub node_within : (c : Counts) (p : Pool) (i : ℕ) → node_of c p i < node_count c
node_within c pools.NoPool i = omega arith
node_within c pools.Int i = let h = node_at_most 0 c.ints i in omega arith
node_within c pools.UInt i = let h = node_at_most c.ints c.uints i in omega arith
node_within c pools.Double i = let h = node_at_most (c.ints + c.uints) c.doubles i in omega arith
node_within c pools.Text i = let h = node_at_most (c.ints + c.uints + c.doubles) c.strings i in omega arith
node_within c pools.Space i = let h = node_at_most (c.ints + c.uints + c.doubles + c.strings) c.namespaces i in omega arith
node_within c pools.Name i = let h = node_at_most (c.ints + c.uints + c.doubles + c.strings + c.namespaces + c.sets) c.names i in omega arith
