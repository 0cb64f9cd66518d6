-- No part has two numbers.
use Rattle.std.proofs.Common.{◌≡◌, ℕ, zero, suc, ◌+◌, ◌-◌, ◌*◌, ◌<◌, ◌≤◌, ◌⊎◌, inl, inr, List, [], ◌∷◌, ◌++◌, Bool, true, false, if◌then◌else◌, map, length, get_or, unwrap_or, refl, sym, ap, subst, ◌∙◌, arith, length-append}
use Rattle.std.specs.List.{flat_map, range_with_len}
use Rattle.std.specs.declared.option.Option.{Option}
use Rattle.std.proofs.lemmas.Bool.{cases_lt}
use Rattle.std.proofs.lemmas.List.{get_or-append_right, get_or-map, get_or_append_left, length-map}
use Rattle.std.proofs.lemmas.List.FromFn.{get_or-range_with_len, length-range_with_len}
use Rattle.abc_base.specs.Names.{host_classes}
use Rattle.abc_base.specs.declared.names.HostClass.TheVariants as hosts
use Rattle.abc_base_graphs.specs.Orders.{IsOrder, place_in_order}
use Rattle.abc_file_types.specs.declared.tables.Abc.{Abc}
use Rattle.abc_link_layouts.specs.Forest.{class_bases}
use Rattle.abc_link_layouts.specs.Numbering.{activation_in, parts_in}
use Rattle.abc_link_names.specs.PartsByNumber.{body_at}
use Rattle.abc_link_names.specs.Numbering.{part_at}
use Rattle.abc_link_names.specs.Parts.{has_activation}
use Rattle.abc_link_names.specs.Places.{host_number, part_key}
use Rattle.abc_link_names.specs.declared.part.Part.{Part}
use Rattle.abc_link_names.specs.declared.part.Part.TheVariants as parts

-- kind after kind, and then body after body
pub stage : Part → ℕ
stage (parts.Host h) = 0
stage (parts.HostClassObject h) = 1
stage (parts.Instance k) = 2
stage (parts.ClassObject k) = 3
stage (parts.Global s) = 4
stage (parts.Activation b) = 5 + 2 * b
stage (parts.Catch b e) = 6 + 2 * b

-- the parts of the stages from one to another, none twice
pub record AreApart (from to : ℕ) (all : List Part) : Type 0 where
  pub le : from ≤ to
  pub low : (x : ℕ) → x < length all → from ≤ stage (part_at all x)
  pub high : (x : ℕ) → x < length all → stage (part_at all x) < to
  pub apart : (x y : ℕ) → x < y → y < length all → part_at all x ≡ part_at all y → ⊥

none_apart : (from to : ℕ) → from ≤ to → AreApart from to []
none_apart from to le = record { le = le; low = λ x lt. absurd (omega (arith, lt)); high = λ x lt. absurd (omega (arith, lt)); apart = λ x y l lt e. absurd (omega (arith, lt)) }

pub both_apart : (a b c : ℕ) (xs ys : List Part) → AreApart a b xs → AreApart b c ys → AreApart a c (xs ++ ys)
both_apart a b c xs ys f g = record {
  le = let p = f.le in let q = g.le in omega (arith, p, q);
  low = λ x lt. low x lt (cases_lt x (length xs));
  high = λ x lt. high x lt (cases_lt x (length xs));
  apart = λ x y less lt e. apart x y less lt e (cases_lt x (length xs)) (cases_lt y (length xs));
}
  where
    len : length (xs ++ ys) ≡ length xs + length ys
    len = length-append xs ys

    left : (x : ℕ) → x < length xs → part_at (xs ++ ys) x ≡ part_at xs x
    left x lt = get_or_append_left xs ys (parts.Host hosts.Object) x lt

    right : (x : ℕ) → length xs ≤ x → part_at (xs ++ ys) x ≡ part_at ys (x - length xs)
    right x le = get_or-append_right xs ys (length xs) x (parts.Host hosts.Object) refl le

    low : (x : ℕ) → x < length (xs ++ ys) → (x < length xs) ⊎ (length xs ≤ x) → a ≤ stage (part_at (xs ++ ys) x)
    low x lt (inl less) = subst (λ p. a ≤ stage p) (sym (left x less)) (f.low x less)
    low x lt (inr le) = let p = f.le in let q = g.low (x - length xs) (omega (arith, lt, len, le)) in subst (λ p. a ≤ stage p) (sym (right x le)) (omega (arith, p, q))

    high : (x : ℕ) → x < length (xs ++ ys) → (x < length xs) ⊎ (length xs ≤ x) → stage (part_at (xs ++ ys) x) < c
    high x lt (inl less) = let p = g.le in let q = f.high x less in subst (λ p. stage p < c) (sym (left x less)) (omega (arith, p, q))
    high x lt (inr le) = subst (λ p. stage p < c) (sym (right x le)) (g.high (x - length xs) (omega (arith, lt, len, le)))

    apart : (x y : ℕ) → x < y → y < length (xs ++ ys) → part_at (xs ++ ys) x ≡ part_at (xs ++ ys) y → (x < length xs) ⊎ (length xs ≤ x) → (y < length xs) ⊎ (length xs ≤ y) → ⊥
    apart x y less lt e (inl p) (inl q) = f.apart x y less q (sym (left x p) ∙ e ∙ left y q)
    apart x y less lt e (inl p) (inr q) =
        let h = f.high x p in
        let l = g.low (y - length xs) (omega (arith, lt, len, q)) in
        let same = ap stage (sym (left x p) ∙ e ∙ right y q) in
        omega (arith, h, l, same)
    apart x y less lt e (inr p) (inl q) = omega (arith, less, p, q)
    apart x y less lt e (inr p) (inr q) = g.apart (x - length xs) (y - length xs) (omega (arith, less, p)) (omega (arith, lt, len, q)) (sym (right x p) ∙ e ∙ right y q)

-- parts of one stage, whose places can be told from them
each_apart : {X : Type 0} → (f : X → Part) (rank : Part → ℕ) (from to : ℕ) (d : X) (ns : List X) → from < to → ((n : X) → stage (f n) ≡ from) → ((k : ℕ) → k < length ns → rank (f (get_or ns k d)) ≡ k) → AreApart from to (map f ns)
each_apart f rank from to d ns less of is = record {
  le = omega (arith, less);
  low = λ x lt. let e = staged x lt in omega (arith, e);
  high = λ x lt. let e = staged x lt in omega (arith, e, less);
  apart = λ x y lower lt e.
      let at_x = at x (omega (arith, lower, lt)) in
      let at_y = at y lt in
      let r = ap rank (sym at_x ∙ e ∙ at_y) in
      let a = is x (omega (arith, lower, lt, len)) in
      let b = is y (omega (arith, lt, len)) in
      omega (arith, r, a, b, lower);
}
  where
    len : length (map f ns) ≡ length ns
    len = length-map ns f

    at : (x : ℕ) → x < length (map f ns) → part_at (map f ns) x ≡ f (get_or ns x d)
    at x lt = get_or-map f ns x d (parts.Host hosts.Object) (omega (arith, lt, len))

    staged : (x : ℕ) → x < length (map f ns) → stage (part_at (map f ns) x) ≡ from
    staged x lt = ap stage (at x lt) ∙ of (get_or ns x d)

number : Part → ℕ
number p = (part_key p).number

in_host : map host_number host_classes ≡ range_with_len 0 14
in_host = refl

host_at : (k : ℕ) → k < 14 → host_number (get_or host_classes k hosts.Object) ≡ k
host_at k lt =
    let e = sym (get_or-map host_number host_classes k hosts.Object 0 lt) ∙ ap (λ (ns : List ℕ). get_or ns k 0) in_host ∙ get_or-range_with_len 0 14 k 0 lt in
    omega (arith, e)

pub hosts_apart : AreApart 0 1 (map (λ h. parts.Host h) host_classes)
unfolding stage number
hosts_apart = each_apart (λ h. parts.Host h) number 0 1 hosts.Object host_classes (omega arith) (λ h. refl) host_at

pub host_objects_apart : AreApart 1 2 (map (λ h. parts.HostClassObject h) host_classes)
unfolding stage number
host_objects_apart = each_apart (λ h. parts.HostClassObject h) number 1 2 hosts.Object host_classes (omega arith) (λ h. refl) host_at

pub instances_apart : (v : Abc) (nodes : List ℕ) (places : List (Option ℕ)) → IsOrder (class_bases v) nodes places → AreApart 2 3 (map (λ k. parts.Instance k) nodes)
unfolding stage number
instances_apart v nodes places o =
    each_apart (λ k. parts.Instance k) (λ p. unwrap_or (place_in_order places (number p)) 0) 2 3 0 nodes (omega arith) (λ k. refl)
    (λ k lt. ap (λ (x : Option ℕ). unwrap_or x 0) (o.placed.back k lt))

row_at : (n k : ℕ) → k < length (range_with_len 0 n) → get_or (range_with_len 0 n) k 0 ≡ k
row_at n k lt =
    let len = length-range_with_len 0 n in
    let e = get_or-range_with_len 0 n k 0 (omega (arith, lt, len)) in
    omega (arith, e)

pub class_objects_apart : (n : ℕ) → AreApart 3 4 (map (λ k. parts.ClassObject k) (range_with_len 0 n))
unfolding stage number
class_objects_apart n = each_apart (λ k. parts.ClassObject k) number 3 4 0 (range_with_len 0 n) (omega arith) (λ k. refl) (row_at n)

pub globals_apart : (n : ℕ) → AreApart 4 5 (map (λ s. parts.Global s) (range_with_len 0 n))
unfolding stage number
globals_apart n = each_apart (λ s. parts.Global s) number 4 5 0 (range_with_len 0 n) (omega arith) (λ k. refl) (row_at n)

activation_apart : (b : ℕ) (makes : Bool) → AreApart (5 + 2 * b) (6 + 2 * b) (if makes then parts.Activation b ∷ [] else [])
unfolding stage
activation_apart b true = each_apart (λ (k : ℕ). parts.Activation b) (λ p. 0) (5 + 2 * b) (6 + 2 * b) 0 (0 ∷ []) (omega arith) (λ k. refl) (λ k lt. omega (arith, lt))
activation_apart b false = none_apart (5 + 2 * b) (6 + 2 * b) (omega arith)

catches_apart : (b n : ℕ) → AreApart (6 + 2 * b) (5 + 2 * (b + 1)) (map (λ e. parts.Catch b e) (range_with_len 0 n))
unfolding stage
catches_apart b n = each_apart (λ e. parts.Catch b e) (λ p. (part_key p).exception) (6 + 2 * b) (5 + 2 * (b + 1)) 0 (range_with_len 0 n) (omega arith) (λ e. refl) (row_at n)

pub bodies_apart : (v : Abc) (b n : ℕ) → AreApart (5 + 2 * b) (5 + 2 * (b + n)) (flat_map (parts_in v) (range_with_len b n))
bodies_apart v b zero = none_apart (5 + 2 * b) (5 + 2 * (b + 0)) (omega arith)
bodies_apart v b (suc n) =
    let same : 5 + 2 * (b + 1 + n) ≡ 5 + 2 * (b + suc n) = omega arith in
    let rest = subst (λ to. AreApart (5 + 2 * (b + 1)) to (flat_map (parts_in v) (range_with_len (b + 1) n))) same (bodies_apart v (b + 1) n) in
    let one = both_apart (5 + 2 * b) (6 + 2 * b) (5 + 2 * (b + 1)) (activation_in v b) (map (λ e. parts.Catch b e) (range_with_len 0 (length (body_at v b).handlers))) (activation_apart b (has_activation v b)) (catches_apart b (length (body_at v b).handlers)) in
    both_apart (5 + 2 * b) (5 + 2 * (b + 1)) (5 + 2 * (b + suc n)) (parts_in v b) (flat_map (parts_in v) (range_with_len (b + 1) n)) one rest
