-- What is noted of the indices of a file: the nodes that they name, each once, and that each names an entry, or nothing.
use Rattle.std.proofs.Common.{◌≡◌, ℕ, ◌+◌, ◌<◌, ◌≤◌, ◌^◌, All, List, [], ◌∷◌, Bool, true, false, ◌&&◌, ◌||◌, not, if◌then◌else◌, nat_eq, nat_le, eqb-true, length, map, replicate, refl, sym, ap, subst, ◌∙◌, arith, true≢false}
use Rattle.std.specs.List.{fold}
use Rattle.std.proofs.lemmas.Bool.{leb-true}
use Rattle.std.proofs.lemmas.List.{length-replicate}
use Rattle.std.proofs.lemmas.List.Elements.{All-cons, All-nil}
use Rattle.abc_tidy_refs.specs.declared.nodes.Counts.{Counts}
use Rattle.abc_tidy_refs.specs.declared.refs.Ref.{Ref}
use Rattle.abc_tidy_refs.specs.Nodes.{counts_of, node_in_pool, node_count, node_of}
use Rattle.abc_tidy_refs.specs.Refs.{file_refs, ref}
use Rattle.abc_file_types.specs.declared.opcodes.Pool.{Pool}
use Rattle.abc_file_types.specs.declared.opcodes.Pool.TheVariants as pools
use Rattle.abc_file_types.specs.declared.tables.Abc.{Abc}
use Rattle.abc_tidy_entries.specs.Once.{AreListMarks, once, with_all}
use Rattle.abc_tidy_entries.specs.Roots.{RootsView, is_root_there, with_ref}
use Rattle.abc_tidy_entries.specs.Rules.{IsEntryThere, names_pool, pool_size}
use Rattle.abc_tidy_entries.specs.Visited.{roots_of}
use Rattle.abc_tidy_entries.proofs.Once.{no_numbers}

-- ---- nothing as yet

pub begun : (c : Counts) (n : ℕ) (marks : List Bool) (nodes : List ℕ) → node_count c < 2 ^ 32 → n ≡ node_count c → marks ≡ replicate n false → nodes ≡ [] → (node_count c < 2 ^ 32) × (length marks ≡ node_count c) × AreListMarks marks nodes
begun c n marks nodes few e is none =
    (few, ap length is ∙ length-replicate n false ∙ e, subst (AreListMarks marks) (sym none) (no_numbers n marks is))

-- ---- the nodes

nodes_of_all : (w : RootsView) (refs : List Ref) → (fold with_ref w refs).nodes ≡ with_all w.nodes (map (λ r. node_of w.counts r.pool r.index) refs)
nodes_of_all w [] = refl
nodes_of_all w (r ∷ refs) = nodes_of_all (with_ref w r) refs

pub rooted_nodes : (v : Abc) (c : Counts) (w u : RootsView) → c ≡ counts_of v → w ≡ record { counts = c; nodes = []; are_there = true } → u ≡ fold with_ref w (file_refs v) → u.nodes ≡ once (roots_of v)
rooted_nodes v c w u e f g =
    ap (λ (x : RootsView). x.nodes) g ∙ nodes_of_all w (file_refs v) ∙ ap (λ (x : RootsView). with_all x.nodes (map (λ (r : Ref). node_of x.counts r.pool r.index) (file_refs v))) f
    ∙ ap (λ (d : Counts). with_all [] (map (λ (r : Ref). node_of d r.pool r.index) (file_refs v))) e

-- ---- whether each is there

both : (a b : Bool) → (a && b) ≡ true → (a ≡ true) × (b ≡ true)
both true b e = (refl, e)
both false b e = absurd (true≢false (sym e))

at_there : (before size i : ℕ) → (not (nat_eq (node_in_pool before size i) 0) || nat_eq i 0) ≡ true → i ≤ size
at_there before size i h = by (nat_eq i 0) (nat_le i size) refl refl
  where
    by : (a b : Bool) → nat_eq i 0 ≡ a → nat_le i size ≡ b → i ≤ size
    by true b e f = let z : i ≡ 0 = eqb-true i 0 e in omega arith
    by false true e f = leb-true i size f
    by false false e f =
        let n : node_in_pool before size i ≡ 0 = ap (λ t. if t then 0 else if nat_le i size then before + i else 0) e ∙ ap (λ t. if t then before + i else 0) f in
        let g : (not (nat_eq (node_in_pool before size i) 0) || nat_eq i 0) ≡ false = ap (λ (k : ℕ). not (nat_eq k 0) || nat_eq i 0) n ∙ e in
        absurd (true≢false (sym h ∙ g))

there : (v : Abc) (p : Pool) (i : ℕ) → is_root_there (node_of (counts_of v) p i) (ref p i) ≡ true → names_pool p ≡ true → i ≤ pool_size v p
there v pools.NoPool i e n = absurd (true≢false (sym n))
there v pools.Int i e n = at_there 0 (length v.ints) i e
there v pools.UInt i e n = at_there (length v.ints) (length v.uints) i e
there v pools.Double i e n = at_there (length v.ints + length v.uints) (length v.doubles) i e
there v pools.Text i e n = at_there (length v.ints + length v.uints + length v.doubles) (length v.strings) i e
there v pools.Space i e n = at_there (length v.ints + length v.uints + length v.doubles + length v.strings) (length v.namespaces) i e
there v pools.Name i e n = at_there (length v.ints + length v.uints + length v.doubles + length v.strings + length v.namespaces + length v.sets) (length v.names) i e

all_there : (v : Abc) (w : RootsView) (refs : List Ref) → w.counts ≡ counts_of v → (fold with_ref w refs).are_there ≡ true → (w.are_there ≡ true) × All (IsEntryThere v) refs
all_there v w [] e t = (t, All-nil (IsEntryThere v))
all_there v w (r ∷ refs) e t =
    let h = all_there v (with_ref w r) refs e t in
    let s = both w.are_there (is_root_there (node_of w.counts r.pool r.index) r) h.0 in
    (s.0, All-cons (IsEntryThere v) r refs (there v r.pool r.index (subst (λ (c : Counts). is_root_there (node_of c r.pool r.index) r ≡ true) e s.1)) h.1)

pub rooted_there : (v : Abc) (c : Counts) (w u : RootsView) → c ≡ counts_of v → w ≡ record { counts = c; nodes = []; are_there = true } → u ≡ fold with_ref w (file_refs v) → u.are_there ≡ true → All (IsEntryThere v) (file_refs v)
rooted_there v c w u e f g t = (all_there v w (file_refs v) (ap (λ (x : RootsView). x.counts) f ∙ e) (sym (ap (λ (x : RootsView). x.are_there) g) ∙ t)).1
