-- The laws of the whole file.
use Rattle.std.proofs.Common.{◌≡◌, ◌≢◌, ℕ, ◌≤◌, ◌⊎◌, inl, inr, List, [], ◌∷◌, ◌++◌, length, true, refl, sym, ap, subst, ◌∙◌, append_assoc, arith}
use Rattle.std.specs.Prelude.{All, nat_eq}
use Rattle.std.proofs.lemmas.List.{append-nil}
use Rattle.std.proofs.lemmas.Bool.Decides.{nat_tests}
use Rattle.abc_file_types.specs.declared.reason.Reason.TheVariants as reasons
use Rattle.abc_file_types.specs.Part.{Part, At, at_of, limit, Front, Refusal, refusal, Begins}
use Rattle.abc_file_types.specs.Law.{Exact, IsDetermined}
use Rattle.abc_file_types.specs.Canonical.{IsCanonical, IsLeast, u16_bytes}
use Rattle.abc_file_types.proofs.Exact.{image-exact, both-exact, checked-exact, then-exact}
use Rattle.abc_file_types.proofs.Numbers.{u16-exact}
use Rattle.abc_file_types.proofs.Canon.{image-canonical, both-canonical, checked-canonical, then-canonical}
use Rattle.abc_file_types.proofs.Fixed.{u16-canonical}
use Rattle.abc_file_types.proofs.Lesser.{no_greater_same}
use Rattle.abc_file_types.proofs.Determined.{determined}
use Rattle.abc_file_types.specs.declared.tables.Abc.{Abc}
use Rattle.abc_file_types.specs.Pools.{pools_bytes}
use Rattle.abc_file_types.specs.Classes.{definitions, definitions_bytes}
use Rattle.abc_file_types.specs.Bodies.{IsReadyBody, bodies, bodies_alone, bodies_bytes}
use Rattle.abc_file_types.specs.Files.{version, version_bytes, last_of, file, file_read, file_bytes, Fits, IsFile, IsFileRead, IsBadFile, IsDecided}
use Rattle.abc_file_types.proofs.BodiesExact.{bodies-exact}
use Rattle.abc_file_types.proofs.BodiesReady.{bodies_ready}
use Rattle.abc_file_types.proofs.BodiesShortest.{again, bodies-shortens, bodies_alone-canonical}
use Rattle.abc_file_types.proofs.Exactness.{pools-exact, definitions-exact}
use Rattle.abc_file_types.proofs.Shortening.{Shortens, both-shortens, canonical-shortens, image-shortens, then-shortens}
use Rattle.abc_file_types.proofs.Shortest.{pools-canonical, definitions-canonical}

pub version-exact : Exact version
unfolding version
version-exact = both-exact _ _ (checked-exact _ _ _ u16-exact) (checked-exact _ _ _ u16-exact)

pub bodies_alone-exact : (abc : Abc) → Exact (bodies_alone abc)
unfolding bodies_alone
bodies_alone-exact abc = image-exact _ _ (bodies-exact abc)

pub file-exact : Exact file
unfolding file
file-exact = image-exact _ _ (both-exact _ _ version-exact (then-exact _ _ pools-exact (λ abc. then-exact _ _ (definitions-exact abc) (λ full. bodies_alone-exact full))))

pub file_read-exact : Exact file_read
unfolding file_read
file_read-exact = image-exact _ _ (both-exact _ _ version-exact (then-exact _ _ pools-exact (λ abc. then-exact _ _ (definitions-exact abc) (λ full. bodies-exact full))))

-- ---- with the starts and without them

-- the starts are told beside the file
pub read_spelled : (v : Abc × List (List ℕ)) (b : List ℕ) → file_read.spells v b → file.spells v.0 b
unfolding file file_read bodies_alone
read_spelled v b s =
    let x = s.0 in
    let d = s.1.4 in
    let f = d.4 in
    ((x.0, (x.1.0, (x.1.1.0, x.1.1.1.0))), (s.1.0, s.1.1, s.1.2, s.1.3, (d.0, d.1, d.2, d.3, (f.0, f.1, f.2, f.3, (x.1.1.1, f.4, refl)))), ap (λ (y : Abc × List (List ℕ)). y.0) s.2)

pub read_begins : (from : At) (v : Abc × List (List ℕ)) (after : At) → Begins file_read from v after → Begins file from v.0 after
read_begins from v after b = record { front = b.front; spelled = read_spelled v b.front b.spelled; is = b.is }

-- what refuses the one refuses the other
pub read_bad : (from : At) (r : Refusal) → file_read.bad from r → file.bad from r
unfolding file file_read bodies_alone
read_bad from r b = b

-- ---- the whole input

whole_front : (b : List ℕ) → length b ≤ limit → Front (at_of 0 b) b (at_of (length b) [])
whole_front b le = record { parts = sym (append-nil b); place = omega arith; room = le; same = refl; within = λ h. omega arith }

begins_whole : (v : Abc) (b : List ℕ) → IsFile v b → Begins file (at_of 0 b) v (at_of (length b) [])
begins_whole v b f = record { front = b; spelled = f.0; is = whole_front b f.1 }

pub whole_begins : {A : Type 0} (p : Part A) (v : A) (b : List ℕ) (after : At) → Begins p (at_of 0 b) v after → after.bytes ≡ [] → p.spells v b × (length b ≤ limit)
whole_begins p v b after s none =
    let e : b ≡ s.front = s.is.parts ∙ ap (λ (t : List ℕ). s.front ++ t) none ∙ append-nil s.front in
    let le : length s.front ≤ limit = omega (arith, s.is.place, s.is.room) in
    (subst (p.spells v) (sym e) s.spelled, subst (λ (t : List ℕ). length t ≤ limit) (sym e) le)

is_empty : (b : List ℕ) → (b ≡ []) ⊎ (b ≢ [])
is_empty [] = inl refl
is_empty (x ∷ b) = inr (λ e. cc)

zero_room : (b : List ℕ) → (at_of 0 b).place ≤ limit
zero_room b = omega arith

law : IsDetermined file
law = determined file file-exact

decided_some : (b : List ℕ) → ((v : Abc) × (after : At) × Begins file (at_of 0 b) v after) ⊎ ((r : Refusal) × file.bad (at_of 0 b) r) → ((v : Abc) × IsFile v b) ⊎ ((r : Refusal) × IsBadFile b r)
decided_some b (inl s) =
    elim (is_empty s.1.bytes) [
      | inl none ↦ inl (s.0, whole_begins file s.0 b s.1 s.2 none)
      | inr some ↦ inr (refusal s.1.place reasons.Trailing, inr (s.0, s.1, s.2, some, refl))
    ]
decided_some b (inr r) = inr (r.0, inl r.1)

same_refusal : (b : List ℕ) (r s : Refusal) → IsBadFile b r → IsBadFile b s → r ≡ s
same_refusal b r s (inl x) (inl y) = law.one_refusal (at_of 0 b) r s x y
same_refusal b r s (inl x) (inr y) = absurd (law.never_both (at_of 0 b) y.0 y.1 r y.2 x)
same_refusal b r s (inr x) (inl y) = absurd (law.never_both (at_of 0 b) x.0 x.1 s x.2 y)
same_refusal b r s (inr x) (inr y) =
    let e = (law.one_value (at_of 0 b) x.0 y.0 x.1 y.1 x.2 y.2).1 in
    x.4 ∙ ap (λ (a : At). refusal a.place reasons.Trailing) e ∙ sym y.4

never_both : (b : List ℕ) (v : Abc) (r : Refusal) → IsFile v b → IsBadFile b r → ⊥
never_both b v r f (inl x) = law.never_both (at_of 0 b) v (at_of (length b) []) r (begins_whole v b f) x
never_both b v r f (inr x) =
    let e = (law.one_value (at_of 0 b) v x.0 (at_of (length b) []) x.1 (begins_whole v b f) x.2).1 in
    x.3 (sym (ap (λ (a : At). a.bytes) e))

pub decided : (b : List ℕ) → IsDecided b
decided b = record {
  some = decided_some b (law.some (at_of 0 b) (zero_room b));
  one_value = λ v w f g. (law.one_value (at_of 0 b) v w (at_of (length b) []) (at_of (length b) []) (begins_whole v b f) (begins_whole w b g)).0;
  one_refusal = same_refusal b;
  never_both = never_both b;
}

-- ---- canonical bytes

sixteen : (n : ℕ) → nat_eq n 16 ≡ true → n ≡ 16
sixteen n h = grind (arith, nat_tests)

forty_six : (n : ℕ) → nat_eq n 46 ≡ true → n ≡ 46
forty_six n h = grind (arith, nat_tests)

version-canonical : IsCanonical version (λ x. u16_bytes x.0 ++ u16_bytes x.1)
unfolding version
version-canonical = both-canonical _ _ _ _ (checked-canonical _ _ _ _ u16-canonical) (checked-canonical _ _ _ _ u16-canonical)

version_known : (x : ℕ × ℕ) (b : List ℕ) → version.spells x b → u16_bytes x.0 ++ u16_bytes x.1 ≡ version_bytes
unfolding version
version_known x b s =
    let minor : x.0 ≡ 16 = sixteen x.0 s.3.1 in
    let major : x.1 ≡ 46 = forty_six x.1 s.4.1 in
    rw (minor, major) refl

-- definitions leave the pools as they are
pools_kept : (abc v : Abc) (b : List ℕ) → (definitions abc).spells v b → pools_bytes abc ≡ pools_bytes v
unfolding definitions pools_bytes
pools_kept abc v b s = rw s.2 refl

-- bodies leave all else as it is
rest_kept : (abc v : Abc) (b : List ℕ) → (bodies_alone abc).spells v b → (pools_bytes abc ≡ pools_bytes v) × (definitions_bytes abc ≡ definitions_bytes v)
unfolding bodies_alone bodies pools_bytes definitions_bytes
rest_kept abc v b s = let is = s.2 ∙ ap (λ (y : Abc × List (List ℕ)). y.0) s.1.2 in rw is (refl, refl)

pub file-canonical : IsCanonical file file_bytes
unfolding file file_bytes
file-canonical =
    image-canonical _ _ (λ x. (u16_bytes x.0.0 ++ u16_bytes x.0.1) ++ (pools_bytes x.1.0 ++ (definitions_bytes x.1.1.0 ++ bodies_bytes x.1.1.1))) _
    (both-canonical _ _ _ (λ y. pools_bytes y.0 ++ (definitions_bytes y.1.0 ++ bodies_bytes y.1.1)) version-canonical
    (then-canonical _ _ pools_bytes (λ abc y. definitions_bytes y.0 ++ bodies_bytes y.1) pools-canonical (λ abc.
    then-canonical _ _ definitions_bytes (λ full. bodies_bytes) (definitions-canonical abc) (λ full. bodies_alone-canonical full))))
    (λ x b s.
    let begin = version_known x.0 s.0 s.3 in
    let kept = pools_kept x.1.0 x.1.1.0 s.4.4.0 s.4.4.3 in
    let rest = rest_kept x.1.1.0 x.1.1.1 s.4.4.1 s.4.4.4 in
    rw (begin, kept, rest.0, rest.1) (simp append_assoc))

-- ---- the same, with the starts of the canonical code

file_read-shortens : Shortens file_read file_read again (λ x. file_bytes x.0)
unfolding file_read file_bytes bodies_alone
file_read-shortens =
    image-shortens last_of last_of _ _ (λ x. (x.0, (x.1.0, (x.1.1.0, again x.1.1.1)))) (λ x. (u16_bytes x.0.0 ++ u16_bytes x.0.1) ++ (pools_bytes x.1.0 ++ (definitions_bytes x.1.1.0 ++ bodies_bytes x.1.1.1.0))) again (λ (x : Abc × List (List ℕ)). file_bytes x.0)
    (both-shortens _ _ _ _ _ _ (λ y. (y.0, (y.1.0, again y.1.1))) (λ y. pools_bytes y.0 ++ (definitions_bytes y.1.0 ++ bodies_bytes y.1.1.0)) (canonical-shortens _ _ version-canonical)
    (then-shortens _ _ _ pools_bytes _ _ (λ abc y. (y.0, again y.1)) (λ abc y. definitions_bytes y.0 ++ bodies_bytes y.1.0) (canonical-shortens _ _ pools-canonical) (λ abc b s.
    then-shortens _ _ _ definitions_bytes _ _ (λ full y. again y) (λ full y. bodies_bytes y.0) (canonical-shortens _ _ (definitions-canonical abc)) (λ full c t. bodies-shortens full))))
    (λ x. refl)
    (λ x b s.
    let begin = version_known x.0 s.0 s.3 in
    let kept = pools_kept x.1.0 x.1.1.0 s.4.4.0 s.4.4.3 in
    let rest = rest_kept x.1.1.0 x.1.1.1.0 s.4.4.1 (x.1.1.1, s.4.4.4, refl) in
    rw (begin, kept, rest.0, rest.1) (simp append_assoc))

-- what spells a file spells it with some starts
with_starts : (v : Abc) (b : List ℕ) → file.spells v b → (starts : List (List ℕ)) × file_read.spells (v, starts) b
unfolding file file_read bodies_alone
with_starts v b s =
    let x = s.0 in
    let d = s.1.4 in
    let f = d.4 in
    let y = f.4.0 in
    (y.1, ((x.0, (x.1.0, (x.1.1.0, y))), (s.1.0, s.1.1, s.1.2, s.1.3, (d.0, d.1, d.2, d.3, (f.0, f.1, f.2, f.3, f.4.1))), ap (λ (w : Abc). (w, y.1)) (s.2 ∙ f.4.2)))

-- ---- what the canonical bytes promise

pub canonical_file : (v : Abc) (b : List ℕ) → IsFile v b → IsFile v (file_bytes v) × (length (file_bytes v) ≤ length b)
canonical_file v b f =
    let spelled = file-canonical.spelled v b f.0 in
    let shortest = file-canonical.shortest v b f.0 in
    ((spelled, omega (arith, shortest, f.1)), shortest)

-- they are the least spelling, and no other bytes are
pub canonical_least : (v : Abc) (b : List ℕ) → Fits v → b ≡ file_bytes v → IsLeast file v b
canonical_least v b f e = subst (IsLeast file v) (sym e) (record {
  spelled = file-canonical.spelled v f.0 (f.1).0;
  shortest = λ c s. file-canonical.shortest v c s;
  least = λ c s len. file-canonical.least v c s len;
})

pub least_only : (v : Abc) (b : List ℕ) → Fits v → IsLeast file v b → b ≡ file_bytes v
least_only v b f l =
    let made = canonical_least v (file_bytes v) f refl in
    let one = l.shortest (file_bytes v) made.spelled in
    let two = made.shortest b l.spelled in
    no_greater_same b (file_bytes v) (l.least (file_bytes v) made.spelled (omega (arith, one, two))) (made.least b l.spelled (omega (arith, one, two)))

-- they are read as the file, with the starts of its canonical code
pub canonical_read : (v : Abc) (b : List ℕ) → IsFile v b → IsFileRead (again (v, [])) (file_bytes v)
canonical_read v b f =
    let s = with_starts v b f.0 in
    (file_read-shortens.spelled (v, s.0) b s.1, (canonical_file v b f).0.1)

pub canonical_same : (v w : Abc) (b c : List ℕ) → IsFile v b → IsFile w c → file_bytes v ≡ file_bytes w → v ≡ w
canonical_same v w b c f g e =
    let one = (canonical_file v b f).0 in
    let two = (canonical_file w c g).0 in
    (decided (file_bytes w)).one_value v w (subst (IsFile v) e one) two

-- the bodies of a file can be written
pub file_ready : (v : Abc) (b : List ℕ) → IsFile v b → All IsReadyBody v.bodies
unfolding file
file_ready v b f =
    let x = f.0.0 in
    let s = f.0.1.4.4 in
    subst (λ (w : Abc). All IsReadyBody w.bodies) (sym f.0.2) (bodies_ready x.1.1.0 x.1.1.1 s.1 s.4)
