-- Texts in one block.
use Rattle.std.proofs.Common.{◌≡◌, ℕ, zero, suc, ◌+◌, ◌-◌, ◌<◌, ◌≤◌, List, [], ◌∷◌, ◌++◌, length, take, drop, get_or, refl, sym, ap, ◌∙◌, subst, arith, length-append, take_all, drop_at}
use Rattle.std.proofs.lemmas.List.{take-append-le}
use Rattle.abc_heap_store.specs.Strings.{texts_from, AreTextEnds}
use Rattle.abc_heap_store.proofs.Bytes.{take_next_or}

pub ends_le : (at : ℕ) (ends : List ℕ) (n : ℕ) → AreTextEnds at ends n → at ≤ n
ends_le at [] n h = omega arith
ends_le at (e ∷ ends) n h = omega (arith, h.0, ends_le e ends n h.1)

pub ends_more : (at : ℕ) (ends : List ℕ) (n e : ℕ) → AreTextEnds at ends n → n ≤ e → AreTextEnds at (ends ++ e ∷ []) e
ends_more at [] n e h b = (omega arith, refl)
ends_more at (x ∷ ends) n e h b = (h.0, ends_more x ends n e h.1 b)

pub front : (at k : ℕ) (bytes t : List ℕ) → at + k ≤ length bytes → take k (drop at (bytes ++ t)) ≡ take k (drop at bytes)
front zero k bytes t b = take-append-le k bytes t (omega arith)
front (suc at) k [] t b = absurd (omega arith)
front (suc at) k (x ∷ bytes) t b = front at k bytes t (omega arith)

-- one more text at the end
pub pieces_more : (at : ℕ) (ends bytes t : List ℕ) → AreTextEnds at ends (length bytes) → texts_from at (ends ++ length (bytes ++ t) ∷ []) (bytes ++ t) ≡ texts_from at ends bytes ++ t ∷ []
pieces_more at [] bytes t h =
    let n : length (bytes ++ t) - length bytes ≡ length t = omega (arith, length-append bytes t) in
    ap (λ p. p ∷ []) (ap (λ k. take (length (bytes ++ t) - k) (drop k (bytes ++ t))) h ∙ (ap (take (length (bytes ++ t) - length bytes)) (drop_at bytes t (length bytes) refl) ∙ (ap (λ k. take k t) n ∙ take_all (length t) t (omega arith))))
pieces_more at (x ∷ ends) bytes t h =
    let b = ends_le x ends (length bytes) h.1 in
    ap (λ p. p ∷ texts_from x (ends ++ length (bytes ++ t) ∷ []) (bytes ++ t)) (front at (x - at) bytes t (omega (arith, h.0, b)))
    ∙ ap (λ ps. take (x - at) (drop at bytes) ∷ ps) (pieces_more x ends bytes t h.1)

-- a text, by its position
pub piece_at : (at : ℕ) (ends bytes : List ℕ) (i start : ℕ) → i < length ends → (i ≡ 0 → start ≡ at) → (0 < i → start ≡ get_or ends (i - 1) 0) → get_or (texts_from at ends bytes) i [] ≡ take (get_or ends i 0 - start) (drop start bytes)
piece_at at [] bytes i start b first other = absurd (omega arith)
piece_at at (e ∷ ends) bytes zero start b first other = ap (λ k. take (e - k) (drop k bytes)) (sym (first refl))
piece_at at (e ∷ ends) bytes (suc i) start b first other =
    let q : suc i - 1 ≡ i = omega arith in
    let s : start ≡ get_or (e ∷ ends) i 0 = other (omega arith) ∙ ap (λ k. get_or (e ∷ ends) k 0) q in
    piece_at e ends bytes i start (omega arith) (λ z. s ∙ ap (λ k. get_or (e ∷ ends) k 0) z) (λ m. let r : i ≡ suc (i - 1) = omega arith in s ∙ ap (λ k. get_or (e ∷ ends) k 0) r)

pub piece_past : (at : ℕ) (ends bytes : List ℕ) (i : ℕ) → length ends ≤ i → get_or (texts_from at ends bytes) i [] ≡ []
piece_past at [] bytes i b = refl
piece_past at (e ∷ ends) bytes zero b = absurd (omega arith)
piece_past at (e ∷ ends) bytes (suc i) b = piece_past e ends bytes i (omega arith)

-- its end is in the block, and not before its start
pub end_in : (at : ℕ) (ends : List ℕ) (n i : ℕ) → AreTextEnds at ends n → i < length ends → (at ≤ get_or ends i 0) × (get_or ends i 0 ≤ n)
end_in at [] n i h b = absurd (omega arith)
end_in at (e ∷ ends) n zero h b = (h.0, ends_le e ends n h.1)
end_in at (e ∷ ends) n (suc i) h b = let r = end_in e ends n i h.1 (omega arith) in (omega (arith, h.0, r.0), r.1)

pub end_rises : (at : ℕ) (ends : List ℕ) (n i : ℕ) → AreTextEnds at ends n → i + 1 < length ends → get_or ends i 0 ≤ get_or ends (i + 1) 0
end_rises at [] n i h b = absurd (omega arith)
end_rises at (e ∷ ends) n zero h b = (end_in e ends n 0 h.1 (omega arith)).0
end_rises at (e ∷ ends) n (suc i) h b =
    let q : suc i + 1 ≡ suc (i + 1) = omega arith in
    let r = end_rises e ends n i h.1 (omega arith) in
    let s = ap (λ k. get_or (e ∷ ends) k 0) q in
    omega (arith, r, s)

-- a text is copied
pub copied_on : (pool : List (List ℕ)) (ends bytes ends' bytes' t d : List ℕ) (e i : ℕ) → AreTextEnds 0 ends (length bytes) × (texts_from 0 ends bytes ≡ take i pool) → bytes' ≡ bytes ++ t → e ≡ length bytes' → ends' ≡ ends ++ e ∷ [] → t ≡ get_or pool i d → i < length pool → AreTextEnds 0 ends' (length bytes') × (texts_from 0 ends' bytes' ≡ take (i + 1) pool)
copied_on pool ends bytes ends' bytes' t d e i h b n q s l =
    let long : e ≡ length (bytes ++ t) = n ∙ ap length b in
    let more : AreTextEnds 0 (ends ++ e ∷ []) e = ends_more 0 ends (length bytes) e h.0 (omega (arith, long, length-append bytes t)) in (
      subst (λ xs. AreTextEnds 0 xs (length bytes')) (sym q) (subst (AreTextEnds 0 (ends ++ e ∷ [])) n more),
      ap (λ xs. texts_from 0 xs bytes') q
          ∙ (ap (texts_from 0 (ends ++ e ∷ [])) b
          ∙ (ap (λ k. texts_from 0 (ends ++ k ∷ []) (bytes ++ t)) long
          ∙ (pieces_more 0 ends bytes t h.0
          ∙ (ap (λ ps. ps ++ t ∷ []) h.1 ∙ (ap (λ x. take i pool ++ x ∷ []) s ∙ take_next_or pool i d l))))),
    )

-- where a text lies in the block
pub start_in : (ends : List ℕ) (n i start : ℕ) → AreTextEnds 0 ends n → i < length ends → (i ≡ 0 → start ≡ 0) → (0 < i → start ≡ get_or ends (i - 1) 0) → (start ≤ get_or ends i 0) × (get_or ends i 0 ≤ n)
start_in ends n zero start h b first other = let r = end_in 0 ends n 0 h b in (omega (arith, first refl, r.0), r.1)
start_in ends n (suc i) start h b first other =
    let q : suc i - 1 ≡ i = omega arith in
    let s : start ≡ get_or ends i 0 = other (omega arith) ∙ ap (λ k. get_or ends k 0) q in
    let z : suc i ≡ i + 1 = omega arith in
    let r = end_rises 0 ends n i h (omega arith) in
    (omega (arith, s, r, ap (λ k. get_or ends k 0) z), (end_in 0 ends n (suc i) h b).1)
