-- Parts that are pushed, as equations.
use Rattle.std.proofs.Common.{◌≡◌, ℕ, zero, suc, ◌+◌, List, [], ◌∷◌, ◌++◌, Bool, true, false, if◌then◌else◌, length, map, sym, ap, ◌∙◌, arith, append_assoc}
use Rattle.std.proofs.lemmas.List.{append-nil, flat_map_more}
use Rattle.std.proofs.lemmas.List.FromFn.{map-range_with_len_more}
use Rattle.std.specs.List.{flat_map, range_with_len}
use Rattle.abc_base.specs.Names.{host_classes}
use Rattle.abc_base.specs.declared.names.HostClass.{HostClass}
use Rattle.abc_base_graphs.specs.Orders.{order_of_all}
use Rattle.abc_link_names.specs.PartsByNumber.{body_at}
use Rattle.abc_link_names.specs.Parts.{has_activation}
use Rattle.abc_link_names.specs.declared.part.Part.{Part}
use Rattle.abc_link_names.specs.declared.part.Part.TheVariants as parts
use Rattle.abc_file_types.specs.declared.tables.Abc.{Abc}
use Rattle.abc_link_layouts.specs.Forest.{class_bases}
use Rattle.abc_link_layouts.specs.Numbering.{activation_in, numbering, parts_in}

-- ---- a row of parts

pub row_none : (first : List Part) (row : ℕ → Part) → first ≡ first ++ map row (range_with_len 0 0)
row_none first row = sym (append-nil first)

pub row_next : (first old new : List Part) (row : ℕ → Part) (i : ℕ) → old ≡ first ++ map row (range_with_len 0 i) → new ≡ old ++ row i ∷ [] → new ≡ first ++ map row (range_with_len 0 (i + 1))
row_next first old new row i e f =
    f ∙ ap (λ (ps : List Part). ps ++ row i ∷ []) e
    ∙ append_assoc first (map row (range_with_len 0 i)) (row i ∷ [])
    ∙ ap (λ (ps : List Part). first ++ ps) (sym (map-range_with_len_more row 0 i i (omega arith)))

-- ---- bodies

pub no_activation : (v : Abc) (old : List Part) (b : ℕ) → has_activation v b ≡ false → old ≡ old ++ activation_in v b
no_activation v old b e = sym (append-nil old) ∙ ap (λ (t : Bool). old ++ (if t then parts.Activation b ∷ [] else [])) (sym e)

pub one_activation : (v : Abc) (old new : List Part) (b : ℕ) → new ≡ old ++ parts.Activation b ∷ [] → has_activation v b ≡ true → new ≡ old ++ activation_in v b
one_activation v old new b f e = f ∙ ap (λ (t : Bool). old ++ (if t then parts.Activation b ∷ [] else [])) (sym e)

pub body_pushed : (v : Abc) (old mid new : List Part) (b n : ℕ) → n ≡ length (body_at v b).handlers → mid ≡ old ++ activation_in v b → new ≡ mid ++ map (λ e. parts.Catch b e) (range_with_len 0 n) → new ≡ old ++ parts_in v b
body_pushed v old mid new b n e f g =
    g ∙ ap (λ (ps : List Part). ps ++ map (λ e. parts.Catch b e) (range_with_len 0 n)) f
    ∙ append_assoc old (activation_in v b) (map (λ e. parts.Catch b e) (range_with_len 0 n))
    ∙ ap (λ k. old ++ (activation_in v b ++ map (λ e. parts.Catch b e) (range_with_len 0 k))) e

pub range_more : (a n : ℕ) → range_with_len a (n + 1) ≡ range_with_len a n ++ (a + n) ∷ []
range_more a n = ap (range_with_len a) (let e : n + 1 ≡ suc n = omega arith in e) ∙ go a n
  where
    go : (b m : ℕ) → range_with_len b (suc m) ≡ range_with_len b m ++ (b + m) ∷ []
    go b zero = let e : b ≡ b + 0 = omega arith in ap (λ k. k ∷ []) e
    go b (suc m) = let e : b + 1 + m ≡ b + suc m = omega arith in ap (λ (ks : List ℕ). b ∷ ks) (go (b + 1) m) ∙ ap (λ k. b ∷ range_with_len (b + 1) m ++ k ∷ []) e

pub bodies_none : (v : Abc) (first : List Part) → first ≡ first ++ flat_map (parts_in v) (range_with_len 0 0)
bodies_none v first = sym (append-nil first)

pub bodies_next : (v : Abc) (first old new : List Part) (b : ℕ) → old ≡ first ++ flat_map (parts_in v) (range_with_len 0 b) → new ≡ old ++ parts_in v b → new ≡ first ++ flat_map (parts_in v) (range_with_len 0 (b + 1))
bodies_next v first old new b e f =
    let zero_more : 0 + b ≡ b = omega arith in
    f ∙ ap (λ (ps : List Part). ps ++ parts_in v b) e
    ∙ flat_map_more (parts_in v) first (range_with_len 0 b) b
    ∙ ap (λ (ks : List ℕ). first ++ flat_map (parts_in v) ks) (sym (range_more 0 b ∙ ap (λ k. range_with_len 0 b ++ k ∷ []) zero_more))

-- ---- all

pub all_pushed : (v : Abc) (nodes given : List ℕ) (hs hs2 : List HostClass) (m n k : ℕ) (z a b c d e f : List Part) → nodes ≡ order_of_all (class_bases v) → given ≡ nodes
    → z ≡ [] → hs ≡ host_classes → hs2 ≡ host_classes → m ≡ length v.instances → n ≡ length v.scripts → k ≡ length v.bodies
    → a ≡ z ++ map (λ h. parts.Host h) hs → b ≡ a ++ map (λ h. parts.HostClassObject h) hs2 → c ≡ b ++ map (λ x. parts.Instance x) given → d ≡ c ++ map (λ x. parts.ClassObject x) (range_with_len 0 m)
    → e ≡ d ++ map (λ x. parts.Global x) (range_with_len 0 n) → f ≡ e ++ flat_map (parts_in v) (range_with_len 0 k) → f ≡ numbering v
unfolding numbering
all_pushed v nodes given hs hs2 m n k z a b c d e f is_order is_given is_z is_hs is_hs2 is_m is_n is_k is_a is_b is_c is_d is_e is_f =
    is_f
    ∙ ap (λ x. e ++ flat_map (parts_in v) (range_with_len 0 x)) is_k
    ∙ ap (λ (ps : List Part). ps ++ flat_map (parts_in v) (range_with_len 0 (length v.bodies))) (is_e
    ∙ ap (λ x. d ++ map (λ x. parts.Global x) (range_with_len 0 x)) is_n
    ∙ ap (λ (ps : List Part). ps ++ map (λ x. parts.Global x) (range_with_len 0 (length v.scripts))) (is_d
    ∙ ap (λ x. c ++ map (λ x. parts.ClassObject x) (range_with_len 0 x)) is_m
    ∙ ap (λ (ps : List Part). ps ++ map (λ x. parts.ClassObject x) (range_with_len 0 (length v.instances))) (is_c
    ∙ ap (λ (ks : List ℕ). b ++ map (λ x. parts.Instance x) ks) (is_given ∙ is_order)
    ∙ ap (λ (ps : List Part). ps ++ map (λ x. parts.Instance x) (order_of_all (class_bases v))) (is_b
    ∙ ap (λ (xs : List HostClass). a ++ map (λ h. parts.HostClassObject h) xs) is_hs2
    ∙ ap (λ (ps : List Part). ps ++ map (λ h. parts.HostClassObject h) host_classes) (is_a
    ∙ ap (λ (ps : List Part). ps ++ map (λ h. parts.Host h) hs) is_z
    ∙ ap (λ (xs : List HostClass). map (λ h. parts.Host h) xs) is_hs)))))
