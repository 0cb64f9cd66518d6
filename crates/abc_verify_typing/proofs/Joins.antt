-- Two kinds have a least kind above both, and it is the first or stands higher.
use Rattle.std.proofs.Common.{◌≡◌, ◌≢◌, ℕ, zero, suc, ◌+◌, ◌≤◌, ◌<◌, length, refl, sym, ap, subst, arith, ◌⊎◌, inl, inr, min}
use Rattle.std.proofs.lemmas.Bool.{cases_lt, cases_eq}
use Rattle.abc_link_names.specs.declared.types.Kind.{Kind}
use Rattle.abc_link_names.specs.declared.types.Kind.TheVariants.{Any, Undef, Null, Num, Bool, Text, Space, Obj}
use Rattle.abc_link_names.specs.Linked.{IsLinkedFile, LinkedFile, above}
use Rattle.abc_link_names.specs.Tree.{IsBelow, IsCommon}
use Rattle.abc_verify_typing.proofs.Good.{IsGood}
use Rattle.abc_link_names.specs.Kinds.{IsAtMost, IsJoin}
use Rattle.abc_verify_typing.specs.Height.{height}
use Rattle.abc_link_names.proofs.Tree.{above_le, below_self, below_up, below_le, below_both, below_next}
use Rattle.abc_link_names.proofs.Order.{kind_self, kind_any}

pub meeting : (p : LinkedFile) → IsLinkedFile p → (fuel a b : ℕ) → a + b ≤ fuel → (c : ℕ) × IsCommon p a b c
meeting p t zero a b h = let e : b ≡ a = omega arith in (a, record { left = below_self p a; right = subst (λ x. IsBelow p x a) (sym e) (below_self p a); least = λ n x y. x })
meeting p t (suc fuel) a b h = elim (cases_eq a b) [ inl e ↦ (a, record { left = below_self p a; right = subst (λ x. IsBelow p x a) e (below_self p a); least = λ n x y. x }) | inr ne ↦ elim (cases_lt b a) [ inl lt ↦ (let ta = above_le p t a in down lt (meeting p t fuel (above p a) b (omega arith))) | inr le ↦ (let tb = above_le p t b in let lt : a < b = omega arith in up lt (meeting p t fuel a (above p b) (omega arith))) ] ]
  where
    down : b < a → ((c : ℕ) × IsCommon p (above p a) b c) → (c : ℕ) × IsCommon p a b c
    down lt r = (r.0, record { left = below_up p a r.0 r.1.left; right = r.1.right; least = λ n x y. r.1.least n (below_both p t a b n lt x y) y })

    up : a < b → ((c : ℕ) × IsCommon p a (above p b) c) → (c : ℕ) × IsCommon p a b c
    up lt r = (r.0, record { left = r.1.left; right = below_up p b r.0 r.1.right; least = λ n x y. r.1.least n x (below_both p t b a n lt y x) })

-- what stands above another layout is lower
climbs_lower : (p : LinkedFile) → IsGood p → (n : ℕ) → 0 < n → length p.parts ≤ n → (a c : ℕ) → IsBelow p a c → a ≢ c → min c n < min a n
climbs_lower p g n pos long a c b ne = elim (cases_lt a (length p.parts)) [ inl lt ↦ (let q = below_le p g.linked a c b in omega arith) | inr le ↦ (let q = below_le p g.linked (above p a) c (below_next p a c b ne) in let z = g.outside a le in omega arith) ]

-- the least kind above two, and that it is the first or has less to rise
pub record Joined (p : LinkedFile) (n : ℕ) (a b j : Kind) : Type 0 where
  pub join : IsJoin p a b j
  pub rises : (j ≡ a) ⊎ (height n j < height n a)

joined_left : (p : LinkedFile) (n : ℕ) (a b : Kind) → IsAtMost p b a → Joined p n a b a
joined_left p n a b h = record { join = record { left = kind_self p a; right = h; least = λ k x y. x }; rises = inl refl }

joined_right : (p : LinkedFile) (n : ℕ) (a b : Kind) → IsAtMost p a b → height n b < height n a → Joined p n a b b
joined_right p n a b h lt = record { join = record { left = h; right = kind_self p b; least = λ k x y. y }; rises = inr lt }

joined_any : (p : LinkedFile) (n : ℕ) (a b : Kind) → ((k : Kind) → IsAtMost p a k → IsAtMost p b k → IsAtMost p Any k) → 0 < height n a → Joined p n a b Any
joined_any p n a b least lt = record { join = record { left = kind_any p a; right = kind_any p b; least = least }; rises = inr lt }

pub kind_join : (p : LinkedFile) → IsGood p → (n : ℕ) → 0 < n → length p.parts ≤ n → (a b : Kind) → (j : Kind) × Joined p n a b j
kind_join p g n pos long Any b = (Any, joined_left p n Any b (kind_any p b))
kind_join p g n pos long Undef Undef = (Undef, joined_left p n Undef Undef tt)
kind_join p g n pos long Num Num = (Num, joined_left p n Num Num tt)
kind_join p g n pos long Bool Bool = (Bool, joined_left p n Bool Bool tt)
kind_join p g n pos long Text Text = (Text, joined_left p n Text Text tt)
kind_join p g n pos long Space Space = (Space, joined_left p n Space Space tt)
kind_join p g n pos long Null Null = (Null, joined_left p n Null Null tt)
kind_join p g n pos long Text Null = (Text, joined_left p n Text Null tt)
kind_join p g n pos long Space Null = (Space, joined_left p n Space Null tt)
kind_join p g n pos long (Obj l) Null = (Obj l, joined_left p n (Obj l) Null tt)
kind_join p g n pos long Null Text = (Text, joined_right p n Null Text tt (omega arith))
kind_join p g n pos long Null Space = (Space, joined_right p n Null Space tt (omega arith))
kind_join p g n pos long Null (Obj m) = (Obj m, joined_right p n Null (Obj m) tt (omega arith))
kind_join p g n pos long (Obj l) (Obj m) =
    let r = meeting p g.linked (l.0 + m.0) l.0 m.0 (omega arith) in
    (Obj (record { 0 = r.0 }), record { join = record { left = r.1.left; right = r.1.right; least = least r.0 r.1 }; rises = elim (cases_eq l.0 r.0) [ inl e ↦ inl (ap (λ (x : ℕ). Obj (record { 0 = x })) (sym e)) | inr ne ↦ inr (let z = climbs_lower p g n pos long l.0 r.0 r.1.left ne in omega arith) ] })
  where
    least : (c : ℕ) → IsCommon p l.0 m.0 c → (k : Kind) → IsAtMost p (Obj l) k → IsAtMost p (Obj m) k → IsAtMost p (Obj (record { 0 = c })) k
    least c h Any x y = tt
    least c h (Obj n) x y = h.least n.0 x y
    least c h k x y = grind arith
kind_join p g n pos long a b = (Any, joined_any p n a b (λ k x y. grind arith) (omega arith))
