-- Blocks of kinds, of which equal ones may lie in one place.
use Rattle.std.proofs.Common.{◌≡◌, ◌≢◌, ℕ, ◌+◌, ◌≤◌, ◌<◌, List, [], ◌∷◌, ◌++◌, Some, length, set, refl, sym, ap, ◌∙◌, subst, arith, ◌⊎◌, inl, inr}
use Rattle.std.specs.Prelude.{true, false, slice_get}
use Rattle.std.proofs.lemmas.List.{length-map, map-append, map-set}
use Rattle.std.proofs.lemmas.Bool.{cases_eq}
use Rattle.abc_link_names.specs.declared.types.Kind.{Kind}
use Rattle.abc_verify_flow.proofs.Numbers.{got_other, got_same}
use Rattle.abc_verify_flow.proofs.Parts.{added_length, got_inside, got_last, got_map, map_but, map_same, over_length, part_before, part_behind, part_last, part_longer, part_put, set_same}
use Rattle.abc_verify_flow.specs.Blocks.{AreAlone, AreDisjoint, IsBlockFree, IsBlockMarked, block_of, blocks_of}
use Rattle.abc_verify_flow.specs.Kept.{IsLonger, IsSpan, over, part}
use Rattle.abc_verify_flow.specs.declared.blocks.Block.{Block}
use Rattle.abc_verify_flow.specs.declared.span.Span.{Span}

-- ---- where blocks lie

alone_more : (bs : List Block) (m n : ℕ) → AreAlone bs m → m ≤ n → AreAlone bs n
alone_more bs m n a le = record { inside = λ i h e. let z = a.inside i h e in omega (arith, z, le); alone = a.alone }

alone_pushed : (bs : List Block) (h : Block) (m c n : ℕ) → AreAlone bs m → IsSpan m c h.span → n ≡ m + c → AreAlone (bs ++ h ∷ []) n
alone_pushed bs h m c n old is e = record { inside = inside; alone = alone }
  where
    inside : (i : ℕ) (k : Block) → slice_get (bs ++ h ∷ []) i ≡ Some k → k.span.first + k.span.count ≤ n
    inside i k g = elim (got_last bs h i k g) [
      | inl a ↦ (let z = old.inside i k a in omega (arith, z, e))
      | inr a ↦ subst (λ (x : Block). x.span.first + x.span.count ≤ n) a.1 (let f = is.first in let q = is.count in omega (arith, f, q, e))
    ]

    alone : (i j : ℕ) (k l : Block) → i ≢ j → slice_get (bs ++ h ∷ []) i ≡ Some k → slice_get (bs ++ h ∷ []) j ≡ Some l → k.is_shared ≡ false → AreDisjoint k.span l.span
    alone i j k l ne f g off = elim (got_last bs h i k f) [
      | inl a ↦ elim (got_last bs h j l g) [
        | inl b ↦ old.alone i j k l ne a b off
        | inr b ↦ inl (subst (λ (x : Block). k.span.first + k.span.count ≤ x.span.first) b.1 (let z = old.inside i k a in let q = is.first in omega (arith, z, q)))
      ]
      | inr a ↦ elim (got_last bs h j l g) [
        | inl b ↦ inr (subst (λ (x : Block). l.span.first + l.span.count ≤ x.span.first) a.1 (let z = old.inside j l b in let q = is.first in omega (arith, z, q)))
        | inr b ↦ absurd (ne (a.0 ∙ sym b.0))
      ]
    ]

-- a block lies where another lies, and both are marked
alone_beside : (bs : List Block) (i : ℕ) (h k : Block) (n : ℕ) → AreAlone bs n → slice_get bs i ≡ Some k → k.is_shared ≡ true → h.span ≡ k.span → h.is_shared ≡ true → AreAlone (bs ++ h ∷ []) n
alone_beside bs i h k n old at on same shared = record { inside = inside; alone = alone }
  where
    inside : (j : ℕ) (l : Block) → slice_get (bs ++ h ∷ []) j ≡ Some l → l.span.first + l.span.count ≤ n
    inside j l g = elim (got_last bs h j l g) [
      | inl a ↦ old.inside j l a
      | inr a ↦ subst (λ (x : Block). x.span.first + x.span.count ≤ n) a.1 (subst (λ (s : Span). s.first + s.count ≤ n) (sym same) (old.inside i k at))
    ]

    alone : (j m : ℕ) (l o : Block) → j ≢ m → slice_get (bs ++ h ∷ []) j ≡ Some l → slice_get (bs ++ h ∷ []) m ≡ Some o → l.is_shared ≡ false → AreDisjoint l.span o.span
    alone j m l o ne f g off = elim (got_last bs h j l f) [
      | inr a ↦ absurd (let z : h.is_shared ≡ false = ap (λ (x : Block). x.is_shared) a.1 ∙ off in cc)
      | inl a ↦ elim (got_last bs h m o g) [
        | inl b ↦ old.alone j m l o ne a b off
        | inr b ↦ subst (λ (x : Block). AreDisjoint l.span x.span) b.1 (subst (λ (s : Span). AreDisjoint l.span s) (sym same) (old.alone j i l k (other a) a at off))
      ]
    ]
      where
        other : slice_get bs j ≡ Some l → j ≢ i
        other a q = let z : Some l ≡ Some k = sym a ∙ ap (slice_get bs) q ∙ at in let y : l ≡ k = cc in let x : k.is_shared ≡ false = ap (λ (w : Block). w.is_shared) (sym y) ∙ off in cc

-- what is put in place of a block that is not shared leaves another
alone_kept : (bs : List Block) (i j : ℕ) (h k : Block) (xs ys zs : List Kind) → AreAlone bs (length xs) → slice_get bs i ≡ Some h → j ≢ i → slice_get bs j ≡ Some k → h.is_shared ≡ false → zs ≡ over h.span xs ys → length ys ≡ h.span.count → part k.span zs ≡ part k.span xs
alone_kept bs i j h k xs ys zs old e ne f off is c =
    let inside = old.inside i h e in
    ap (part k.span) is
    ∙ elim (old.alone i j h k (λ q. ne (sym q)) e f off) [
      | inl le ↦ part_behind h.span k.span xs ys le (omega (arith, inside)) c
      | inr le ↦ part_before h.span k.span xs ys le (omega (arith, inside))
    ]

-- ---- a block is marked

module _ (bs : List Block) (i : ℕ) (h k : Block) where
  marked_got : (j : ℕ) (l : Block) → slice_get bs i ≡ Some h → slice_get (set bs i k) j ≡ Some l → ((j ≡ i) × (k ≡ l)) ⊎ ((j ≢ i) × (slice_get bs j ≡ Some l))
  marked_got j l at e = elim (cases_eq j i) [
    | inl q ↦ (let z : Some k ≡ Some l = sym (got_same bs i k (got_inside bs i h at)) ∙ ap (slice_get (set bs i k)) (sym q) ∙ e in inl (q, cc))
    | inr ne ↦ inr (ne, sym (got_other bs i j k (λ q. ne (sym q))) ∙ e)
  ]

  marked_alone : (end : ℕ) → slice_get bs i ≡ Some h → k.span ≡ h.span → k.is_shared ≡ true → AreAlone bs end → AreAlone (set bs i k) end
  marked_alone end at same on old = record { inside = inside; alone = alone }
    where
      inside : (j : ℕ) (l : Block) → slice_get (set bs i k) j ≡ Some l → l.span.first + l.span.count ≤ end
      inside j l e = elim (marked_got j l at e) [
        | inl r ↦ subst (λ (x : Block). x.span.first + x.span.count ≤ end) r.1 (subst (λ (s : Span). s.first + s.count ≤ end) (sym same) (old.inside i h at))
        | inr r ↦ old.inside j l r.1
      ]

      alone : (m n : ℕ) (l o : Block) → m ≢ n → slice_get (set bs i k) m ≡ Some l → slice_get (set bs i k) n ≡ Some o → l.is_shared ≡ false → AreDisjoint l.span o.span
      alone m n l o ne e f off = elim (marked_got m l at e) [
        | inl r ↦ absurd (let z : k.is_shared ≡ false = ap (λ (x : Block). x.is_shared) r.1 ∙ off in cc)
        | inr r ↦ elim (marked_got n o at f) [
          | inl t ↦ subst (λ (x : Block). AreDisjoint l.span x.span) t.1 (subst (λ (s : Span). AreDisjoint l.span s) (sym same) (old.alone m i l h r.0 r.1 at off))
          | inr t ↦ old.alone m n l o ne r.1 t.1 off
        ]
      ]

-- a block gets a place behind all others
alone_set : (bs : List Block) (i : ℕ) (k : Block) (m c n : ℕ) → i < length bs → AreAlone bs m → IsSpan m c k.span → n ≡ m + c → AreAlone (set bs i k) n
alone_set bs i k m c n lt old is e = record { inside = inside; alone = alone }
  where
    got : (j : ℕ) (l : Block) → slice_get (set bs i k) j ≡ Some l → ((j ≡ i) × (k ≡ l)) ⊎ ((j ≢ i) × (slice_get bs j ≡ Some l))
    got j l f = elim (cases_eq j i) [
      | inl q ↦ (let z : Some k ≡ Some l = sym (got_same bs i k lt) ∙ ap (slice_get (set bs i k)) (sym q) ∙ f in inl (q, cc))
      | inr ne ↦ inr (ne, sym (got_other bs i j k (λ q. ne (sym q))) ∙ f)
    ]

    inside : (j : ℕ) (l : Block) → slice_get (set bs i k) j ≡ Some l → l.span.first + l.span.count ≤ n
    inside j l f = elim (got j l f) [
      | inl r ↦ subst (λ (x : Block). x.span.first + x.span.count ≤ n) r.1 (let g = is.first in let q = is.count in omega (arith, g, q, e))
      | inr r ↦ (let z = old.inside j l r.1 in omega (arith, z, e))
    ]

    alone : (j o : ℕ) (l p : Block) → j ≢ o → slice_get (set bs i k) j ≡ Some l → slice_get (set bs i k) o ≡ Some p → l.is_shared ≡ false → AreDisjoint l.span p.span
    alone j o l p ne f g off = elim (got j l f) [
      | inl r ↦ elim (got o p g) [
        | inl t ↦ absurd (ne (r.0 ∙ sym t.0))
        | inr t ↦ inr (subst (λ (x : Block). p.span.first + p.span.count ≤ x.span.first) r.1 (let z = old.inside o p t.1 in let q = is.first in omega (arith, z, q)))
      ]
      | inr r ↦ elim (got o p g) [
        | inl t ↦ inl (subst (λ (x : Block). l.span.first + l.span.count ≤ x.span.first) t.1 (let z = old.inside j l r.1 in let q = is.first in omega (arith, z, q)))
        | inr t ↦ old.alone j o l p ne r.1 t.1 off
      ]
    ]

pub span_along : (a b m n : ℕ) (s : Span) → IsSpan a b s → a ≡ m → b ≡ n → IsSpan m n s
span_along a b m n s is p q = record { first = is.first ∙ p; count = is.count ∙ q }

-- ---- blocks, and where they lie

abbrev shared : Span → Block
shared s = record { span = s; is_shared = true }

pub none_alone : AreAlone [] 0
none_alone = record { inside = λ i b e. absurd cc; alone = λ i j b c ne e f off. absurd cc }

module _ (bs cs : List Block) (i : ℕ) (s : Span) (m : IsBlockMarked bs cs i s) where
  pub marked_here : slice_get cs i ≡ Some (shared s)
  marked_here = ap (λ (xs : List Block). slice_get xs i) m.set_in ∙ got_same bs i (shared s) (got_inside bs i m.block m.was)

  pub marked_stays : (n : ℕ) → AreAlone bs n → AreAlone cs n
  marked_stays n old = subst (λ (xs : List Block). AreAlone xs n) (sym m.set_in) (marked_alone bs i m.block (shared s) n m.was (sym m.span) refl old)

  pub marked_blocks : (ks : List Kind) → blocks_of ks cs ≡ blocks_of ks bs
  marked_blocks ks =
      ap (blocks_of ks) m.set_in
      ∙ map-set (block_of ks) bs i (shared s)
      ∙ ap (λ (x : Span). set (blocks_of ks bs) i (part x ks)) (sym m.span)
      ∙ set_same (blocks_of ks bs) i (block_of ks m.block) (got_map (block_of ks) bs i m.block m.was)

  -- another block lies where the marked one lies
  pub beside_alone : (n : ℕ) → AreAlone bs n → AreAlone (cs ++ shared s ∷ []) n
  beside_alone n old = alone_beside cs i (shared s) (shared s) n (marked_stays n old) marked_here refl refl refl

  pub beside_blocks : (ks : List Kind) (a : List (List Kind)) (xs : List Kind) → blocks_of ks bs ≡ a → slice_get a i ≡ Some xs → blocks_of ks (cs ++ shared s ∷ []) ≡ a ++ xs ∷ []
  beside_blocks ks a xs view is =
      let got : slice_get a i ≡ Some (part m.block.span ks) = ap (λ (zs : List (List Kind)). slice_get zs i) (sym view) ∙ got_map (block_of ks) bs i m.block m.was in
      let both : Some (part m.block.span ks) ≡ Some xs = sym got ∙ is in
      let same : part m.block.span ks ≡ xs = cc in
      map-append (block_of ks) cs (shared s ∷ [])
      ∙ ap (λ (zs : List (List Kind)). zs ++ part s ks ∷ []) (marked_blocks ks ∙ view)
      ∙ ap (λ (x : Span). a ++ part x ks ∷ []) (sym m.span)
      ∙ ap (λ (z : List Kind). a ++ z ∷ []) same

module _ (bs : List Block) (ks ms : List Kind) (a : List (List Kind)) where
  pub longer_alone : AreAlone bs (length ks) → IsLonger ks ms → AreAlone bs (length ms)
  longer_alone old r = alone_more bs (length ks) (length ms) old (let e = added_length ks r.0 ms r.1 in omega (arith, e))

  pub longer_blocks : AreAlone bs (length ks) → IsLonger ks ms → blocks_of ks bs ≡ a → blocks_of ms bs ≡ a
  longer_blocks old r view = map_same (block_of ms) (block_of ks) bs (λ i b e. part_longer b.span ks ms r (old.inside i b e)) ∙ view

  pub pushed_alone : (b : Block) (xs : List Kind) → AreAlone bs (length ks) → IsSpan (length ks) (length xs) b.span → ms ≡ ks ++ xs → AreAlone (bs ++ b ∷ []) (length ms)
  pushed_alone b xs old is e = alone_pushed bs b (length ks) (length xs) (length ms) old is (added_length ks xs ms e)

  pub pushed_blocks : (b : Block) (xs : List Kind) → AreAlone bs (length ks) → IsSpan (length ks) (length xs) b.span → ms ≡ ks ++ xs → blocks_of ks bs ≡ a → blocks_of ms (bs ++ b ∷ []) ≡ a ++ xs ∷ []
  pushed_blocks b xs old is e view =
      map-append (block_of ms) bs (b ∷ [])
      ∙ ap (λ (zs : List (List Kind)). zs ++ block_of ms b ∷ []) (longer_blocks old (xs, e) view)
      ∙ ap (λ (z : List Kind). a ++ z ∷ []) (part_last b.span ks xs ms is e)

  pub moved_alone : (i : ℕ) (b : Block) (xs : List Kind) → i < length bs → AreAlone bs (length ks) → IsSpan (length ks) (length xs) b.span → ms ≡ ks ++ xs → AreAlone (set bs i b) (length ms)
  moved_alone i b xs lt old is e = alone_set bs i b (length ks) (length xs) (length ms) lt old is (added_length ks xs ms e)

  pub moved_blocks : (i : ℕ) (b : Block) (xs : List Kind) → AreAlone bs (length ks) → IsSpan (length ks) (length xs) b.span → ms ≡ ks ++ xs → blocks_of ks bs ≡ a → blocks_of ms (set bs i b) ≡ set a i xs
  moved_blocks i b xs old is e view =
      map-set (block_of ms) bs i b
      ∙ ap (λ (zs : List (List Kind)). set zs i (block_of ms b)) (longer_blocks old (xs, e) view)
      ∙ ap (λ (z : List Kind). set a i z) (part_last b.span ks xs ms is e)

  pub put_alone : (i : ℕ) (b : Block) (xs : List Kind) → AreAlone bs (length ks) → slice_get bs i ≡ Some b → IsBlockFree b (length xs) → ms ≡ over b.span ks xs → AreAlone bs (length ms)
  put_alone i b xs old e free is = alone_more bs (length ks) (length ms) old (let z = over_length b.span ks xs ms is (old.inside i b e) free.count in omega (arith, z))

  pub put_blocks : (i : ℕ) (b : Block) (xs : List Kind) → AreAlone bs (length ks) → slice_get bs i ≡ Some b → IsBlockFree b (length xs) → ms ≡ over b.span ks xs → blocks_of ks bs ≡ a → blocks_of ms bs ≡ set a i xs
  put_blocks i b xs old e free is view =
      map_but (block_of ks) (block_of ms) bs i xs (got_inside bs i b e) here (λ j k ne f. alone_kept bs i j b k ks xs ms old e ne f free.alone is free.count)
      ∙ ap (λ (zs : List (List Kind)). set zs i xs) view
    where
      here : (k : Block) → slice_get bs i ≡ Some k → block_of ms k ≡ xs
      here k f = let z : Some b ≡ Some k = sym e ∙ f in let same : b ≡ k = cc in subst (λ (x : Block). block_of ms x ≡ xs) same (part_put b.span ks xs ms is (old.inside i b e) free.count)

  pub block_inside : (i : ℕ) → blocks_of ks bs ≡ a → i < length a → i < length bs
  block_inside i view lt = let z : length a ≡ length bs = ap (λ zs. length zs) (sym view) ∙ length-map bs (block_of ks) in omega (arith, z, lt)

  pub block_here : (i : ℕ) (b : Block) (xs : List Kind) → blocks_of ks bs ≡ a → slice_get bs i ≡ Some b → xs ≡ part b.span ks → slice_get a i ≡ Some xs
  block_here i b xs view e is = ap (λ (zs : List (List Kind)). slice_get zs i) (sym view) ∙ got_map (block_of ks) bs i b e ∙ ap (λ (z : List Kind). Some z) (sym is)
