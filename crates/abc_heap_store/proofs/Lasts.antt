-- The last place in a bucket, as places come and go.
use Rattle.std.proofs.Common.{◌≡◌, ◌≢◌, ℕ, zero, suc, ◌+◌, ◌-◌, ◌<◌, ◌≤◌, Bool, true, false, List, [], ◌∷◌, ◌++◌, Option, Some, None, length, set, get_or, refl, sym, ap, ◌∙◌, arith, ◌⊎◌, inl, inr, length-append, length-set, get_or-set_same, get_or-set_other, drop, drop-cons, drop_of_length-le, ◌*◌, ◌%◌, eqb-true, eq-eqb, ne_eqb, true≢false, nat_eq, nat_le, leb-true, leb-false, if◌then◌else◌}
use lib.ListN.{get_or-append}
use lib.Seq.{get_or-append_seam}
use Rattle.abc_heap_store.specs.Buckets.{hash_on, is_in_bucket, last_in, AreBuckets}

pub chosen : {X : Type 0} (b : Bool) (x y : X) → b ≡ true → (if b then x else y) ≡ x
chosen true x y e = refl
chosen false x y e = absurd cc

pub skipped : {X : Type 0} (b : Bool) (x y : X) → b ≡ false → (if b then x else y) ≡ y
skipped false x y e = refl
skipped true x y e = absurd cc

either : (t : Bool) → (t ≡ true) ⊎ (t ≡ false)
either true = inl refl
either false = inr refl

pub decide : (p n : ℕ) → (p ≡ n) ⊎ (p ≢ n)
decide p n = elim (either (nat_eq p n)) [ inl e ↦ inl (eqb-true p n e) | inr e ↦ inr (λ q. true≢false (sym (eq-eqb p n q) ∙ e)) ]

-- a test of a place
in_own : (b : ℕ) (k : Option ℕ) → k ≡ Some b → is_in_bucket b k ≡ true
in_own b k e = ap (is_in_bucket b) e ∙ eq-eqb b b refl

in_other : (b d : ℕ) (k : Option ℕ) → k ≡ Some d → d ≢ b → is_in_bucket b k ≡ false
in_other b d k e n = ap (is_in_bucket b) e ∙ ne_eqb d b n

in_none : (b : ℕ) (k : Option ℕ) → k ≡ None → is_in_bucket b k ≡ false
in_none b k e = ap (is_in_bucket b) e

in_is : (b : ℕ) (k : Option ℕ) → is_in_bucket b k ≡ true → k ≡ Some b
in_is b None e = absurd cc
in_is b (Some d) e = ap Some (eqb-true d b e)

pub within : (ks : List (Option ℕ)) (p b : ℕ) → get_or ks p None ≡ Some b → p < length ks
within [] p b e = absurd cc
within (k ∷ ks) zero b e = omega arith
within (k ∷ ks) (suc p) b e = omega (arith, within ks p b e)

last_own : (ks : List (Option ℕ)) (b n : ℕ) → is_in_bucket b (get_or ks n None) ≡ true → last_in ks b (suc n) ≡ suc n
last_own ks b n e = chosen (is_in_bucket b (get_or ks n None)) (suc n) (last_in ks b n) e

last_on : (ks : List (Option ℕ)) (b n : ℕ) → is_in_bucket b (get_or ks n None) ≡ false → last_in ks b (suc n) ≡ last_in ks b n
last_on ks b n e = skipped (is_in_bucket b (get_or ks n None)) (suc n) (last_in ks b n) e

pub last_le : (ks : List (Option ℕ)) (b n : ℕ) → last_in ks b n ≤ n
last_le ks b zero = omega arith
last_le ks b (suc n) = elim (either (is_in_bucket b (get_or ks n None))) [ inl e ↦ omega (arith, last_own ks b n e) | inr e ↦ omega (arith, last_on ks b n e, last_le ks b n) ]

-- it is in the bucket
pub last_hit : (ks : List (Option ℕ)) (b n : ℕ) → 0 < last_in ks b n → get_or ks (last_in ks b n - 1) None ≡ Some b
last_hit ks b zero h = absurd (omega arith)
last_hit ks b (suc n) h = elim (either (is_in_bucket b (get_or ks n None))) [
  | inl e ↦ let q : last_in ks b (suc n) - 1 ≡ n = omega (arith, last_own ks b n e) in ap (λ k. get_or ks k None) q ∙ in_is b (get_or ks n None) e
  | inr e ↦ let q = last_on ks b n e in ap (λ k. get_or ks (k - 1) None) q ∙ last_hit ks b n (omega (arith, q))
]

-- and no place of the bucket is above it
pub last_covers : (ks : List (Option ℕ)) (b n p : ℕ) → p < n → get_or ks p None ≡ Some b → p + 1 ≤ last_in ks b n
last_covers ks b zero p h e = absurd (omega arith)
last_covers ks b (suc n) p h e = elim (either (is_in_bucket b (get_or ks n None))) [
  | inl t ↦ omega (arith, last_own ks b n t)
  | inr t ↦ elim (decide p n) [
    | inl q ↦ absurd (true≢false (sym (in_own b (get_or ks n None) (ap (λ k. get_or ks k None) (sym q) ∙ e)) ∙ t))
    | inr q ↦ omega (arith, last_on ks b n t, last_covers ks b n p (omega arith) e)
  ]
]

-- where no test below it changes, neither does the last
pub last_same : (ks ks' : List (Option ℕ)) (b n : ℕ) → ((p : ℕ) → p < n → is_in_bucket b (get_or ks' p None) ≡ is_in_bucket b (get_or ks p None)) → last_in ks' b n ≡ last_in ks b n
last_same ks ks' b zero f = refl
last_same ks ks' b (suc n) f =
    ap (λ (t : Bool). if t then suc n else last_in ks' b n) (f n (omega arith))
    ∙ ap (λ m. if is_in_bucket b (get_or ks n None) then suc n else m) (last_same ks ks' b n (λ p h. f p (omega arith)))

last_front : (ks : List (Option ℕ)) (k : Option ℕ) (b n : ℕ) → n ≤ length ks → last_in (ks ++ k ∷ []) b n ≡ last_in ks b n
last_front ks k b n h = last_same ks (ks ++ k ∷ []) b n (λ p l. ap (is_in_bucket b) (get_or-append ks (k ∷ []) None p (omega arith)))

more_long : (ks : List (Option ℕ)) (k : Option ℕ) → length (ks ++ k ∷ []) ≡ suc (length ks)
more_long ks k = omega (arith, length-append ks (k ∷ []))

last_seam : (ks : List (Option ℕ)) (k : Option ℕ) (b : ℕ) → is_in_bucket b k ≡ false → last_in (ks ++ k ∷ []) b (length (ks ++ k ∷ [])) ≡ last_in ks b (length ks)
last_seam ks k b e =
    ap (last_in (ks ++ k ∷ []) b) (more_long ks k)
    ∙ (last_on (ks ++ k ∷ []) b (length ks) (ap (is_in_bucket b) (get_or-append_seam ks k [] None) ∙ e) ∙ last_front ks k b (length ks) (omega arith))

-- a place that is in no bucket
pub none_added : (ks : List (Option ℕ)) (lasts befores : List ℕ) → AreBuckets ks lasts befores → AreBuckets (ks ++ None ∷ []) lasts befores
none_added ks lasts befores a = record {
  lasts = λ b h. a.lasts b h ∙ sym (last_seam ks None b refl);
  befores = λ p b e. elim (decide p (length ks)) [
    | inl q ↦ absurd (no_seam ks p b q e)
    | inr q ↦
        let w = within (ks ++ None ∷ []) p b e in
        let l : p < length ks = omega (arith, more_long ks None, w) in
        a.befores p b (sym (get_or-append ks (None ∷ []) None p l) ∙ e) ∙ sym (last_front ks None b p (omega arith))
  ];
  room = λ p b e. elim (decide p (length ks)) [
    | inl q ↦ absurd (no_seam ks p b q e)
    | inr q ↦
        let w = within (ks ++ None ∷ []) p b e in
        let l : p < length ks = omega (arith, more_long ks None, w) in
        a.room p b (sym (get_or-append ks (None ∷ []) None p l) ∙ e)
  ];
}
  where
    no_seam : (ks : List (Option ℕ)) (p b : ℕ) → p ≡ length ks → get_or (ks ++ None ∷ []) p None ≡ Some b → ⊥
    no_seam ks p b q e = let s = get_or-append_seam ks None [] None in let t = ap (λ k. get_or (ks ++ None ∷ []) k None) q in absurd (cc (s, t, e))

-- further on, with no place before those on the way
pub reached : (ks : List (Option ℕ)) (lasts befores more : List ℕ) → AreBuckets ks lasts befores → ((p : ℕ) → get_or more p 0 ≡ get_or befores p 0) × (length befores ≤ length more) → AreBuckets ks lasts more
reached ks lasts befores more a same = record { lasts = a.lasts; befores = λ p b e. same.0 p ∙ a.befores p b e; room = λ p b e. omega (arith, a.room p b e, same.1) }

-- one more place in a bucket
pub one_added : (ks : List (Option ℕ)) (lasts befores : List ℕ) (d n : ℕ) → AreBuckets ks lasts befores → n ≡ length ks → n < length befores → d < length lasts → AreBuckets (ks ++ Some d ∷ []) (set lasts d (n + 1)) (set befores n (get_or lasts d 0))
one_added ks lasts befores d n a e r i = record {
  lasts = λ b h. elim (decide b d) [
    | inl q ↦
        ap (λ k. get_or (set lasts d (n + 1)) k 0) q
        ∙ (get_or-set_same lasts d (n + 1) 0 i
        ∙ (n_more ∙ sym (ap (λ k. last_in (ks ++ Some d ∷ []) k (length (ks ++ Some d ∷ []))) q ∙ (ap (last_in (ks ++ Some d ∷ []) d) (more_long ks (Some d)) ∙ last_own (ks ++ Some d ∷ []) d (length ks) (in_own d _ (get_or-append_seam ks (Some d) [] None))))))
    | inr q ↦
        let l : b < length lasts = omega (arith, h, length-set lasts d (n + 1)) in
        get_or-set_other lasts d b (n + 1) 0 q ∙ (a.lasts b l ∙ sym (last_seam ks (Some d) b (in_other b d (Some d) refl (λ z. q (sym z)))))
  ];
  befores = λ p b w. elim (decide p n) [
    | inl q ↦
        let s : Some b ≡ Some d = sym w ∙ (ap (λ k. get_or (ks ++ Some d ∷ []) k None) (q ∙ e) ∙ get_or-append_seam ks (Some d) [] None) in
        let t : b ≡ d = cc in
        ap (λ k. get_or (set befores n (get_or lasts d 0)) k 0) q
        ∙ (get_or-set_same befores n (get_or lasts d 0) 0 r
        ∙ (a.lasts d i ∙ (sym (last_front ks (Some d) d (length ks) (omega arith)) ∙ (ap (λ k. last_in (ks ++ Some d ∷ []) k (length ks)) (sym t) ∙ ap (last_in (ks ++ Some d ∷ []) b) (sym (q ∙ e))))))
    | inr q ↦
        let v = within (ks ++ Some d ∷ []) p b w in
        let l : p < length ks = omega (arith, more_long ks (Some d), v) in
        get_or-set_other befores n p (get_or lasts d 0) 0 q ∙ (a.befores p b (sym (get_or-append ks (Some d ∷ []) None p l) ∙ w) ∙ sym (last_front ks (Some d) b p (omega arith)))
  ];
  room = λ p b w. elim (decide p n) [
    | inl q ↦ omega (arith, q, r, length-set befores n (get_or lasts d 0))
    | inr q ↦
        let v = within (ks ++ Some d ∷ []) p b w in
        let l : p < length ks = omega (arith, more_long ks (Some d), v) in
        omega (arith, a.room p b (sym (get_or-append ks (Some d ∷ []) None p l) ∙ w), length-set befores n (get_or lasts d 0))
  ];
}
  where
    n_more : n + 1 ≡ suc (length ks)
    n_more = omega arith

-- ---- a place goes

gone_other : (ks : List (Option ℕ)) (p d b n : ℕ) → get_or ks p None ≡ Some d → d ≢ b → last_in (set ks p None) b n ≡ last_in ks b n
gone_other ks p d b n e f = last_same ks (set ks p None) b n (λ q h. elim (decide q p) [
  | inl t ↦ in_none b _ (ap (λ k. get_or (set ks p None) k None) t ∙ get_or-set_same ks p None None (within ks p d e)) ∙ sym (in_other b d _ (ap (λ k. get_or ks k None) t ∙ e) f)
  | inr t ↦ ap (is_in_bucket b) (get_or-set_other ks p q None None t)
])

gone_below : (ks : List (Option ℕ)) (p b n : ℕ) → n ≤ p → last_in (set ks p None) b n ≡ last_in ks b n
gone_below ks p b n l = last_same ks (set ks p None) b n (λ q h. ap (is_in_bucket b) (get_or-set_other ks p q None None (λ (z : q ≡ p). absurd (omega arith))))

-- above it, the last is what was below it where it was the last, and else stays
gone_above : (ks : List (Option ℕ)) (p d n : ℕ) → get_or ks p None ≡ Some d → p < n → (last_in ks d n ≡ p + 1 → last_in (set ks p None) d n ≡ last_in ks d p) × (last_in ks d n ≢ p + 1 → last_in (set ks p None) d n ≡ last_in ks d n)
gone_above ks p d zero e l = absurd (omega arith)
gone_above ks p d (suc n) e l = elim (decide p n) [
  | inl q ↦
      let was : last_in ks d (suc n) ≡ p + 1 = last_own ks d n (in_own d _ (ap (λ k. get_or ks k None) (sym q) ∙ e)) ∙ next p n q in
      let now : last_in (set ks p None) d (suc n) ≡ last_in ks d p = last_on (set ks p None) d n (in_none d _ (ap (λ k. get_or (set ks p None) k None) (sym q) ∙ get_or-set_same ks p None None (within ks p d e))) ∙ (ap (last_in (set ks p None) d) (sym q) ∙ gone_below ks p d p (omega arith)) in
      (λ h. now, λ h. absurd (h was))
  | inr q ↦
      let same : get_or (set ks p None) n None ≡ get_or ks n None = get_or-set_other ks p n None None (λ z. q (sym z)) in
      elim (either (is_in_bucket d (get_or ks n None))) [
        | inl t ↦
            let was = last_own ks d n t in
            let now = last_own (set ks p None) d n (ap (is_in_bucket d) same ∙ t) in
            (λ h. absurd (clash p n q (sym was ∙ h)), λ h. now ∙ sym was)
        | inr t ↦
            let was = last_on ks d n t in
            let now = last_on (set ks p None) d n (ap (is_in_bucket d) same ∙ t) in
            let r = gone_above ks p d n e (omega arith) in
            (λ h. now ∙ r.0 (sym was ∙ h), λ h. now ∙ (r.1 (λ z. h (was ∙ z)) ∙ sym was))
      ]
]
  where
    next : (p n : ℕ) → p ≡ n → suc n ≡ p + 1
    next p n q = omega arith

    clash : (p n : ℕ) → p ≢ n → suc n ≡ p + 1 → ⊥
    clash p n q h = absurd (omega arith)

left_in : (ks : List (Option ℕ)) (p q b : ℕ) → get_or (set ks p None) q None ≡ Some b → (q ≢ p) × (get_or ks q None ≡ Some b)
left_in ks p q b e = elim (decide q p) [
  | inl t ↦ absurd (no ks p q b t e)
  | inr t ↦ (t, sym (get_or-set_other ks p q None None t) ∙ e)
]
  where
    no : (ks : List (Option ℕ)) (p q b : ℕ) → q ≡ p → get_or (set ks p None) q None ≡ Some b → ⊥
    no ks p q b t e =
        let w = within (set ks p None) q b e in
        let l : p < length ks = omega (arith, t, length-set ks p None) in
        let s = get_or-set_same ks p None None l in
        let u = ap (λ k. get_or (set ks p None) k None) t in
        absurd (cc (s, u, e))

gone_long : (ks : List (Option ℕ)) (p : ℕ) → length (set ks p None) ≡ length ks
gone_long ks p = length-set ks p None

-- it was the last of its bucket
pub last_gone : (ks : List (Option ℕ)) (lasts befores : List ℕ) (d p : ℕ) → AreBuckets ks lasts befores → d < length lasts → get_or ks p None ≡ Some d → get_or lasts d 0 ≡ p + 1 → AreBuckets (set ks p None) (set lasts d (get_or befores p 0)) befores
last_gone ks lasts befores d p a i e was = record {
  lasts = λ b h. elim (decide b d) [
    | inl q ↦
        ap (λ k. get_or (set lasts d (get_or befores p 0)) k 0) q
        ∙ (get_or-set_same lasts d (get_or befores p 0) 0 i
        ∙ (a.befores p d e ∙ sym (ap (λ k. last_in (set ks p None) k (length (set ks p None))) q ∙ (ap (last_in (set ks p None) d) (gone_long ks p) ∙ (gone_above ks p d (length ks) e (within ks p d e)).0 (sym (a.lasts d i) ∙ was)))))
    | inr q ↦
        let l : b < length lasts = omega (arith, h, length-set lasts d (get_or befores p 0)) in
        get_or-set_other lasts d b (get_or befores p 0) 0 q ∙ (a.lasts b l ∙ sym (ap (last_in (set ks p None) b) (gone_long ks p) ∙ gone_other ks p d b (length ks) e (λ z. q (sym z))))
  ];
  befores = λ q b w.
      let s = left_in ks p q b w in
      let stays : last_in (set ks p None) b q ≡ last_in ks b q = elim (decide b d) [
        | inl t ↦
            let c = last_covers ks d (length ks) q (within ks q b s.1) (s.1 ∙ ap Some t) in
            let u = a.lasts d i in
            gone_below ks p b q (omega (arith, c, u, was))
        | inr t ↦ gone_other ks p d b q e (λ z. t (sym z))
      ] in
      a.befores q b s.1 ∙ sym stays;
  room = λ q b w. a.room q b (left_in ks p q b w).1;
}

-- it was the one before another
pub other_gone : (ks : List (Option ℕ)) (lasts befores : List ℕ) (d p x : ℕ) → AreBuckets ks lasts befores → d < length lasts → get_or ks p None ≡ Some d → get_or ks x None ≡ Some d → get_or befores x 0 ≡ p + 1 → AreBuckets (set ks p None) lasts (set befores x (get_or befores p 0))
other_gone ks lasts befores d p x a i e ex was = record {
  lasts = λ b h. elim (decide b d) [
    | inl q ↦ a.lasts b h ∙ sym (ap (last_in (set ks p None) b) (gone_long ks p) ∙ (ap (λ k. last_in (set ks p None) k (length ks)) q ∙ ((gone_above ks p d (length ks) e (within ks p d e)).1 (not_last (length ks) (within ks x d ex)) ∙ ap (λ k. last_in ks k (length ks)) (sym q))))
    | inr q ↦ a.lasts b h ∙ sym (ap (last_in (set ks p None) b) (gone_long ks p) ∙ gone_other ks p d b (length ks) e (λ z. q (sym z)))
  ];
  befores = λ q b w.
      let s = left_in ks p q b w in
      elim (decide q x) [
        | inl t ↦
            let same : b ≡ d = some_same b d (sym s.1 ∙ (ap (λ k. get_or ks k None) t ∙ ex)) in
            ap (λ k. get_or (set befores x (get_or befores p 0)) k 0) t
            ∙ (get_or-set_same befores x (get_or befores p 0) 0 (a.room x d ex)
            ∙ (a.befores p d e ∙ sym (ap (λ k. last_in (set ks p None) k q) same ∙ (ap (last_in (set ks p None) d) t ∙ (gone_above ks p d x e over).0 before))))
        | inr t ↦
            let stays : last_in (set ks p None) b q ≡ last_in ks b q = elim (decide b d) [
              | inl u ↦ ap (λ k. last_in (set ks p None) k q) u ∙ (in_d q s.0 t (s.1 ∙ ap Some u) ∙ ap (λ k. last_in ks k q) (sym u))
              | inr u ↦ gone_other ks p d b q e (λ z. u (sym z))
            ] in
            get_or-set_other befores x q (get_or befores p 0) 0 t ∙ (a.befores q b s.1 ∙ sym stays)
      ];
  room = λ q b w. omega (arith, a.room q b (left_in ks p q b w).1, length-set befores x (get_or befores p 0));
}
  where
    before : last_in ks d x ≡ p + 1
    before = sym (a.befores x d ex) ∙ was

    over : p < x
    over = omega (arith, before, last_le ks d x)

    not_last : (n : ℕ) → x < n → last_in ks d n ≢ p + 1
    not_last n l h = absurd (omega (arith, last_covers ks d n x l ex, over))

    some_same : (b d : ℕ) → Some b ≡ Some d → b ≡ d
    some_same b d h = cc

    -- another place of the bucket keeps the one before it
    in_d : (q : ℕ) → q ≢ p → q ≢ x → get_or ks q None ≡ Some d → last_in (set ks p None) d q ≡ last_in ks d q
    in_d q np nx h = elim (either (nat_le q p)) [
      | inl l ↦ gone_below ks p d q (leb-true q p l)
      | inr l ↦
          let g = leb-false q p l in
          (gone_above ks p d q e (omega (arith, g))).1 (λ z. elim (either (nat_le q x)) [
            | inl m ↦ let o = leb-true q x m in absurd (omega (arith, last_covers ks d x q (omega (arith, o, nx)) h, before, g))
            | inr m ↦ let o = leb-false q x m in absurd (omega (arith, last_covers ks d q x (omega (arith, o)) ex, z, over))
          ])
    ]

-- ---- the place above another in their bucket

pub top_above : (ks : List (Option ℕ)) (lasts befores : List ℕ) (d p : ℕ) → AreBuckets ks lasts befores → d < length lasts → get_or ks p None ≡ Some d → (p + 1 ≤ get_or lasts d 0) × (get_or ks (get_or lasts d 0 - 1) None ≡ Some d) × (get_or lasts d 0 - 1 < length befores) × (p < length befores)
top_above ks lasts befores d p a i e =
    let last = a.lasts d i in
    let n = within ks p d e in
    let c = last_covers ks d (length ks) p n e in
    let top : get_or ks (get_or lasts d 0 - 1) None ≡ Some d = ap (λ k. get_or ks (k - 1) None) last ∙ last_hit ks d (length ks) (omega (arith, c)) in
    (omega (arith, last, c), top, a.room (get_or lasts d 0 - 1) d top, a.room p d e)

-- place x is above p, and place y is the one before it
pub record IsAbove (ks : List (Option ℕ)) (befores : List ℕ) (d : ℕ) (p : ℕ) (x : ℕ) (y : ℕ) : Type 0 where
  pub own : get_or ks x None ≡ Some d
  pub over : p < x
  pub next : y + 1 ≡ get_or befores x 0

pub before_above : (ks : List (Option ℕ)) (lasts befores : List ℕ) (d p x : ℕ) → AreBuckets ks lasts befores → get_or ks p None ≡ Some d → get_or ks x None ≡ Some d → p < x → (p + 1 ≤ get_or befores x 0) × (get_or befores x 0 ≤ x) × (x < length befores)
before_above ks lasts befores d p x a e ex l =
    let b = a.befores x d ex in
    (omega (arith, b, last_covers ks d x p l e), omega (arith, b, last_le ks d x), a.room x d ex)

pub above_first : (ks : List (Option ℕ)) (lasts befores : List ℕ) (d p x y : ℕ) → AreBuckets ks lasts befores → d < length lasts → get_or ks p None ≡ Some d → p + 1 < get_or lasts d 0 → x + 1 ≡ get_or lasts d 0 → y + 1 ≡ get_or befores x 0 → IsAbove ks befores d p x y
above_first ks lasts befores d p x y a i e more ex ey =
    let q : x ≡ get_or lasts d 0 - 1 = omega arith in
    let own : get_or ks x None ≡ Some d = ap (λ k. get_or ks k None) q ∙ (top_above ks lasts befores d p a i e).1 in
    let over : p < x = omega arith in
    record { own = own; over = over; next = ey }

pub first_in : (ks : List (Option ℕ)) (lasts befores : List ℕ) (d p x : ℕ) → AreBuckets ks lasts befores → d < length lasts → get_or ks p None ≡ Some d → p + 1 < get_or lasts d 0 → x + 1 ≡ get_or lasts d 0 → (x < length befores) × (0 < get_or befores x 0)
first_in ks lasts befores d p x a i e more ex =
    let q : x ≡ get_or lasts d 0 - 1 = omega arith in
    let own : get_or ks x None ≡ Some d = ap (λ k. get_or ks k None) q ∙ (top_above ks lasts befores d p a i e).1 in
    let over : p < x = omega arith in
    let b = before_above ks lasts befores d p x a e own over in
    (b.2, omega (arith, b))

pub next_above : (ks : List (Option ℕ)) (lasts befores : List ℕ) (d p x y : ℕ) → AreBuckets ks lasts befores → get_or ks p None ≡ Some d → IsAbove ks befores d p x y → y ≢ p → (get_or ks y None ≡ Some d) × (p < y) × (y < x) × (y < length befores) × (0 < get_or befores y 0)
next_above ks lasts befores d p x y a e s n =
    let b = before_above ks lasts befores d p x a e s.own s.over in
    let next = s.next in
    let here = a.befores x d s.own in
    let q : y ≡ last_in ks d x - 1 = omega (arith, next, here) in
    let own : get_or ks y None ≡ Some d = ap (λ k. get_or ks k None) q ∙ last_hit ks d x (omega (arith, next, here)) in
    let over : p < y = omega (arith, next, b, n) in
    let w = before_above ks lasts befores d p y a e own over in
    (own, over, omega (arith, next, b), w.2, omega (arith, w))

pub above_next : (ks : List (Option ℕ)) (lasts befores : List ℕ) (d p x y z : ℕ) → AreBuckets ks lasts befores → get_or ks p None ≡ Some d → IsAbove ks befores d p x y → y ≢ p → z + 1 ≡ get_or befores y 0 → IsAbove ks befores d p y z
above_next ks lasts befores d p x y z a e s n ez =
    let w = next_above ks lasts befores d p x y a e s n in
    record { own = w.0; over = w.1; next = ez }

-- ---- the hash, byte by byte

pub hash_next : (h i d : ℕ) (t : List ℕ) → i < length t → hash_on ((h * 65599 + get_or t i d) % 4294967296) (drop (i + 1) t) ≡ hash_on h (drop i t)
unfolding hash_on
hash_next h i d t b =
    let n : i + 1 ≡ suc i = omega arith in
    ap (λ k. hash_on ((h * 65599 + get_or t i d) % 4294967296) (drop k t)) n ∙ sym (ap (hash_on h) (drop-cons t i d b))

pub hash_done : (h i : ℕ) (t : List ℕ) → length t ≤ i → hash_on h (drop i t) ≡ h
unfolding hash_on
hash_done h i t b = ap (hash_on h) (drop_of_length-le t b)

pub in_befores : (ks : List (Option ℕ)) (lasts befores : List ℕ) (d x : ℕ) → AreBuckets ks lasts befores → get_or ks x None ≡ Some d → x < length befores
in_befores ks lasts befores d x a e = a.room x d e
