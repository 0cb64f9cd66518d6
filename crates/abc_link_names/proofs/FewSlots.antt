-- A layout has fewer slots than bytes spell the file: each is of a trait or an exception of a table of its own.
use Rattle.std.proofs.Common.{◌≡◌, ℕ, zero, suc, ◌+◌, ◌<◌, ◌≤◌, ◌≢◌, ◌⊎◌, inl, inr, List, [], ◌∷◌, ◌++◌, Some, None, Option, map, length, take, get_or, sum_by, refl, sym, ap, subst, ◌∙◌, arith, length-append}
use Rattle.std.specs.List.{flat_map, range_with_len}
use Rattle.std.proofs.lemmas.Bool.{cases_lt}
use Rattle.std.proofs.lemmas.List.{get_or_past, take_more}
use Rattle.std.proofs.lemmas.List.Concat.{length-flat_map}
use Rattle.std.proofs.lemmas.List.Sums.{sum_by-append, sum_by-cons, sum_by-take-le, sum_by_push}
use Rattle.abc_base.specs.Names.{host_classes}
use Rattle.abc_base.specs.Numbers.{number_bytes}
use Rattle.abc_base.specs.declared.names.HostClass.{HostClass}
use Rattle.abc_base.specs.declared.names.HostClass.TheVariants as hosts
use Rattle.abc_base.proofs.Spelling.{length_1, number_grows}
use Rattle.abc_base_graphs.specs.Heirs.{heritage}
use Rattle.abc_base_graphs.specs.Ways.{IsFalling}
use Rattle.abc_base_graphs.proofs.Laid.{heritage_none, heritage_some}
use Rattle.abc_file_types.specs.Bodies.{bodies_bytes, body_bytes, handler_bytes}
use Rattle.abc_file_types.specs.Canonical.{counted_bytes}
use Rattle.abc_file_types.specs.Classes.{class_bytes, definitions_bytes, instance_bytes, script_bytes}
use Rattle.abc_file_types.specs.CodeBytes.{canonical_starts}
use Rattle.abc_file_types.specs.Files.{file_bytes, version_bytes}
use Rattle.abc_file_types.specs.Methods.{metadata_bytes, method_bytes}
use Rattle.abc_file_types.specs.Pools.{pools_bytes}
use Rattle.abc_file_types.specs.Traits.{trait_bytes}
use Rattle.abc_file_types.specs.declared.classes.ClassInfo.{ClassInfo}
use Rattle.abc_file_types.specs.declared.classes.Instance.{Instance}
use Rattle.abc_file_types.specs.declared.classes.Script.{Script}
use Rattle.abc_file_types.specs.declared.code.Body.{Body}
use Rattle.abc_file_types.specs.declared.code.Handler.{Handler}
use Rattle.abc_file_types.specs.declared.tables.Abc.{Abc}
use Rattle.abc_file_types.specs.declared.traits.TraitBody.{TraitBody}
use Rattle.abc_file_types.specs.declared.traits.TraitBody.TheVariants as traits
use Rattle.abc_file_types.specs.declared.traits.TraitInfo.{TraitInfo}
use Rattle.abc_file_types.proofs.Whole.{canonical_file}
use Rattle.abc_link_names.specs.Instances.{instance_at, no_instance}
use Rattle.abc_link_names.specs.PartsByNumber.{body_at, class_at, no_body, no_class, no_script, script_at}
use Rattle.abc_link_names.specs.Linked.{IsLinkedFile, LinkedFile, base_layout}
use Rattle.abc_link_names.specs.Numbering.{part_at}
use Rattle.abc_link_names.specs.Parts.{HasLayout}
use Rattle.abc_link_names.specs.Slots.{HasFewSlots, own_slots, slots_in, slots_of}
use Rattle.abc_link_names.specs.declared.part.Part.{Part}
use Rattle.abc_link_names.specs.declared.part.Part.TheVariants as parts
use Rattle.abc_link_names.specs.declared.types.SlotInfo.{SlotInfo}
use Rattle.abc_link_names.proofs.Finding.{falling}

-- ---- elements of lists, and sums over lists of which none stands twice

In : {X : Type 0} → X → List X → Type 0
In x [] = ⊥
In x (y ∷ ys) = (x ≡ y) ⊎ In x ys

AreDistinct : {X : Type 0} → List X → Type 0
AreDistinct [] = Unit {0}
AreDistinct (x ∷ xs) = (In x xs → ⊥) × AreDistinct xs

without : {X : Type 0} (x : X) (ys : List X) → In x ys → List X
unfolding In
without x [] i = absurd i
without x (y ∷ ys) (inl e) = ys
without x (y ∷ ys) (inr i) = y ∷ without x ys i

sum_without : {X : Type 0} (u : X → ℕ) (x : X) (ys : List X) (i : In x ys) → sum_by u ys ≡ u x + sum_by u (without x ys i)
unfolding In without
sum_without u x [] i = absurd i
sum_without u x (y ∷ ys) (inl e) = let a = sum_by-cons u y ys in let same = ap u e in omega (arith, a, same)
sum_without u x (y ∷ ys) (inr i) = let a = sum_by-cons u y ys in let b = sum_by-cons u y (without x ys i) in let h = sum_without u x ys i in omega (arith, a, b, h)

still_in : {X : Type 0} (z x : X) (ys : List X) → z ≢ x → In z ys → (i : In x ys) → In z (without x ys i)
unfolding In without
still_in z x [] apart h i = absurd i
still_in z x (y ∷ ys) apart (inl e) (inl f) = absurd (apart (e ∙ sym f))
still_in z x (y ∷ ys) apart (inr h) (inl f) = h
still_in z x (y ∷ ys) apart (inl e) (inr i) = inl e
still_in z x (y ∷ ys) apart (inr h) (inr i) = inr (still_in z x ys apart h i)

no_more : {X : Type 0} (u : X → ℕ) (xs ys : List X) → AreDistinct xs → ((x : X) → In x xs → In x ys) → sum_by u xs ≤ sum_by u ys
unfolding In AreDistinct
no_more u [] ys d s = omega arith
no_more u (x ∷ xs) ys d s =
    let i = s x (inl refl) in
    let e = sum_without u x ys i in
    let h = no_more u xs (without x ys i) d.1 (λ z j. still_in z x ys (λ q. d.0 (subst (λ w. In w xs) q j)) (s z (inr j)) i) in
    let a = sum_by-cons u x xs in
    omega (arith, a, e, h)

in_left : {X : Type 0} (x : X) (xs ys : List X) → In x xs → In x (xs ++ ys)
unfolding In
in_left x [] ys i = absurd i
in_left x (y ∷ xs) ys (inl e) = inl e
in_left x (y ∷ xs) ys (inr i) = inr (in_left x xs ys i)

in_right : {X : Type 0} (x : X) (xs ys : List X) → In x ys → In x (xs ++ ys)
unfolding In
in_right x [] ys i = i
in_right x (y ∷ xs) ys i = inr (in_right x xs ys i)

in_map : {X Y : Type 0} (f : X → Y) (x : X) (xs : List X) → In x xs → In (f x) (map f xs)
unfolding In
in_map f x [] i = absurd i
in_map f x (y ∷ xs) (inl e) = inl (ap f e)
in_map f x (y ∷ xs) (inr i) = inr (in_map f x xs i)

in_flat : {X Y : Type 0} (f : X → List Y) (y : Y) (x : X) (xs : List X) → In x xs → In y (f x) → In y (flat_map f xs)
unfolding In
in_flat f y x [] i j = absurd i
in_flat f y x (z ∷ xs) (inl e) j = in_left y (f z) (flat_map f xs) (subst (λ w. In y (f w)) e j)
in_flat f y x (z ∷ xs) (inr i) j = in_right y (f z) (flat_map f xs) (in_flat f y x xs i j)

in_range : (a n k : ℕ) → a ≤ k → k < a + n → In k (range_with_len a n)
unfolding In
in_range a zero k le lt = absurd (omega (arith, le, lt))
in_range a (suc n) k le lt = elim (cases_lt a k) [
  | inl less ↦ inr (in_range (a + 1) n k (omega (arith, less)) (omega (arith, lt)))
  | inr more ↦ inl (omega (arith, le, more))
]

-- where an element stands
place_in : {X : Type 0} (x d : X) (xs : List X) → In x xs → (k : ℕ) × (k < length xs) × (get_or xs k d ≡ x)
unfolding In
place_in x d [] i = absurd i
place_in x d (y ∷ xs) (inl e) = (0, omega arith, sym e)
place_in x d (y ∷ xs) (inr i) = let h = place_in x d xs i in (suc h.0, (let low = h.1 in omega (arith, low)), h.2)

distinct : (ps : List Part) → ((x y : ℕ) → x < y → y < length ps → part_at ps x ≢ part_at ps y) → AreDistinct ps
unfolding AreDistinct
distinct [] apart = tt
distinct (p ∷ ps) apart = (
  λ i. let h = place_in p (parts.Host hosts.Object) ps i in apart 0 (suc h.0) (omega arith) (let low = h.1 in omega (arith, low)) (sym h.2),
  distinct ps (λ x y less lt e. apart (suc x) (suc y) (omega (arith, less)) (omega (arith, lt)) e),
)

-- ---- at most so many slots a part has of its own

table_of : Abc → Part → ℕ
table_of v (parts.Host h) = 1
table_of v (parts.HostClassObject h) = 0
table_of v (parts.Instance k) = length (instance_at v k).traits
table_of v (parts.ClassObject k) = length (class_at v k).traits
table_of v (parts.Global s) = length (script_at v s).traits
table_of v (parts.Activation b) = length (body_at v b).traits
table_of v (parts.Catch b e) = 1

one_each : (l : LinkedFile) (ts : List TraitInfo) → length (flat_map (λ t. slots_in l t.body) ts) ≤ length ts
one_each l [] = omega arith
one_each l (t ∷ ts) =
    let h = one_each l ts in
    let e = length-append (slots_in l t.body) (flat_map (λ s. slots_in l s.body) ts) in
    let o = one t.body in
    omega (arith, h, e, o)
  where
    one : (b : TraitBody) → length (slots_in l b) ≤ 1
    one (traits.Slot id ty value constant) = omega arith
    one (traits.Method disp m) = omega arith
    one (traits.Getter disp m) = omega arith
    one (traits.Setter disp m) = omega arith
    one (traits.Class id k) = omega arith
    one (traits.Function id m) = omega arith

own_few : (l : LinkedFile) (p : Part) → length (own_slots l p) ≤ table_of l.file p
unfolding table_of
own_few l (parts.Host hosts.Object) = omega arith
own_few l (parts.Host hosts.Class) = omega arith
own_few l (parts.Host hosts.Function) = omega arith
own_few l (parts.Host hosts.Namespace) = omega arith
own_few l (parts.Host hosts.Str) = omega arith
own_few l (parts.Host hosts.Int) = omega arith
own_few l (parts.Host hosts.UInt) = omega arith
own_few l (parts.Host hosts.Number) = omega arith
own_few l (parts.Host hosts.Boolean) = omega arith
own_few l (parts.Host hosts.Error) = omega arith
own_few l (parts.Host hosts.TypeError) = omega arith
own_few l (parts.Host hosts.ReferenceError) = omega arith
own_few l (parts.Host hosts.ArgumentError) = omega arith
own_few l (parts.Host hosts.Array) = omega arith
own_few l (parts.HostClassObject h) = omega arith
own_few l (parts.Instance k) = one_each l (instance_at l.file k).traits
own_few l (parts.ClassObject k) = one_each l (class_at l.file k).traits
own_few l (parts.Global s) = one_each l (script_at l.file s).traits
own_few l (parts.Activation b) = one_each l (body_at l.file b).traits
own_few l (parts.Catch b e) = omega arith

sum_rises : {X : Type 0} (u : X → ℕ) (i j : ℕ) (xs : List X) → i ≤ j → sum_by u (take i xs) ≤ sum_by u (take j xs)
sum_rises u zero j [] le = omega arith
sum_rises u zero j (x ∷ xs) le = omega arith
sum_rises u (suc i) zero xs le = absurd (omega (arith, le))
sum_rises u (suc i) (suc j) [] le = omega arith
sum_rises u (suc i) (suc j) (x ∷ xs) le =
    let a = sum_by-cons u x (take i xs) in
    let b = sum_by-cons u x (take j xs) in
    let h = sum_rises u i j xs (omega (arith, le)) in
    omega (arith, a, b, h)

-- those of a layout are at most those of the parts up to it
slots_up_to : (l : LinkedFile) → IsFalling (base_layout l) → (n x : ℕ) → x < n → x < length l.parts → length (slots_of l x) ≤ sum_by (table_of l.file) (take (x + 1) l.parts)
slots_up_to l falls zero x less low = absurd (omega (arith, less))
slots_up_to l falls (suc n) x less low =
    let own = λ (y : ℕ). own_slots l (part_at l.parts y) in
    let above : List SlotInfo = heritage (base_layout l) own (base_layout l x) in
    let is : length (slots_of l x) ≡ length above + length (own x) = ap length (heritage_some (base_layout l) own falls x) ∙ length-append above (own x) in
    let row : sum_by (table_of l.file) (take (x + 1) l.parts) ≡ sum_by (table_of l.file) (take x l.parts) + table_of l.file (part_at l.parts x) =
    ap (sum_by (table_of l.file)) (take_more l.parts x (parts.Host hosts.Object) low) ∙ sum_by_push (table_of l.file) (take x l.parts) (part_at l.parts x) in
    let here = own_few l (part_at l.parts x) in
    let rest = go (slots_up_to l falls n) (base_layout l x) refl in
    omega (arith, is, row, here, rest)
  where
    go : ((b : ℕ) → b < n → b < length l.parts → length (slots_of l b) ≤ sum_by (table_of l.file) (take (b + 1) l.parts)) → (b : Option ℕ) → base_layout l x ≡ b → length (heritage (base_layout l) (λ (y : ℕ). own_slots l (part_at l.parts y)) b) ≤ sum_by (table_of l.file) (take x l.parts)
    go below None e = let none = ap length (heritage_none (base_layout l) (λ (y : ℕ). own_slots l (part_at l.parts y))) in omega (arith, none)
    go below (Some b) e =
        let lt = falls.falls x b e in
        let h = below b (omega (arith, lt, less)) (omega (arith, lt, low)) in
        let f = sum_rises (table_of l.file) (b + 1) x l.parts (omega (arith, lt)) in
        omega (arith, h, f)

-- ---- all parts, in any order

body_parts : Abc → ℕ → List Part
body_parts v b = parts.Activation b ∷ map (λ e. parts.Catch b e) (range_with_len 0 (length (body_at v b).handlers))

bodies_parts : Abc → List Part
bodies_parts v = flat_map (body_parts v) (range_with_len 0 (length v.bodies))

file_parts : Abc → List Part
file_parts v =
    map (λ k. parts.Instance k) (range_with_len 0 (length v.instances)) ++ map (λ k. parts.ClassObject k) (range_with_len 0 (length v.instances))
    ++ map (λ s. parts.Global s) (range_with_len 0 (length v.scripts)) ++ bodies_parts v

all_parts : Abc → List Part
all_parts v = map (λ h. parts.Host h) host_classes ++ map (λ h. parts.HostClassObject h) host_classes ++ file_parts v

host_in : (h : HostClass) → In h host_classes
unfolding In
host_in hosts.Object = inl refl
host_in hosts.Class = inr (inl refl)
host_in hosts.Function = inr (inr (inl refl))
host_in hosts.Namespace = inr (inr (inr (inl refl)))
host_in hosts.Str = inr (inr (inr (inr (inl refl))))
host_in hosts.Int = inr (inr (inr (inr (inr (inl refl)))))
host_in hosts.UInt = inr (inr (inr (inr (inr (inr (inl refl))))))
host_in hosts.Number = inr (inr (inr (inr (inr (inr (inr (inl refl)))))))
host_in hosts.Boolean = inr (inr (inr (inr (inr (inr (inr (inr (inl refl))))))))
host_in hosts.Error = inr (inr (inr (inr (inr (inr (inr (inr (inr (inl refl)))))))))
host_in hosts.TypeError = inr (inr (inr (inr (inr (inr (inr (inr (inr (inr (inl refl))))))))))
host_in hosts.ReferenceError = inr (inr (inr (inr (inr (inr (inr (inr (inr (inr (inr (inl refl)))))))))))
host_in hosts.ArgumentError = inr (inr (inr (inr (inr (inr (inr (inr (inr (inr (inr (inr (inl refl))))))))))))
host_in hosts.Array = inr (inr (inr (inr (inr (inr (inr (inr (inr (inr (inr (inr (inr (inl refl)))))))))))))

hosts_front : List Part
hosts_front = map (λ h. parts.Host h) host_classes

objects_front : List Part
objects_front = map (λ h. parts.HostClassObject h) host_classes

in_file : (v : Abc) (p : Part) → In p (file_parts v) → In p (all_parts v)
unfolding all_parts hosts_front objects_front
in_file v p i = in_right p (hosts_front ++ objects_front) (file_parts v) i

host_there : (v : Abc) (h : HostClass) → In (parts.Host h) (all_parts v)
unfolding all_parts hosts_front objects_front
host_there v h = in_left (parts.Host h) (hosts_front ++ objects_front) (file_parts v) (in_left (parts.Host h) hosts_front objects_front (in_map (λ x. parts.Host x) h host_classes (host_in h)))

object_there : (v : Abc) (h : HostClass) → In (parts.HostClassObject h) (all_parts v)
unfolding all_parts hosts_front objects_front
object_there v h = in_left (parts.HostClassObject h) (hosts_front ++ objects_front) (file_parts v) (in_right (parts.HostClassObject h) hosts_front objects_front (in_map (λ x. parts.HostClassObject x) h host_classes (host_in h)))

instances_of : Abc → List Part
instances_of v = map (λ k. parts.Instance k) (range_with_len 0 (length v.instances))

classes_of : Abc → List Part
classes_of v = map (λ k. parts.ClassObject k) (range_with_len 0 (length v.instances))

globals_of : Abc → List Part
globals_of v = map (λ s. parts.Global s) (range_with_len 0 (length v.scripts))

instance_there : (v : Abc) (k : ℕ) → k < length v.instances → In (parts.Instance k) (file_parts v)
unfolding file_parts instances_of classes_of globals_of
instance_there v k lt =
    in_left (parts.Instance k) (instances_of v ++ classes_of v ++ globals_of v) (bodies_parts v)
    (in_left (parts.Instance k) (instances_of v ++ classes_of v) (globals_of v)
    (in_left (parts.Instance k) (instances_of v) (classes_of v) (in_map (λ x. parts.Instance x) k (range_with_len 0 (length v.instances)) (in_range 0 (length v.instances) k (omega arith) (omega (arith, lt))))))

class_there : (v : Abc) (k : ℕ) → k < length v.instances → In (parts.ClassObject k) (file_parts v)
unfolding file_parts instances_of classes_of globals_of
class_there v k lt =
    in_left (parts.ClassObject k) (instances_of v ++ classes_of v ++ globals_of v) (bodies_parts v)
    (in_left (parts.ClassObject k) (instances_of v ++ classes_of v) (globals_of v)
    (in_right (parts.ClassObject k) (instances_of v) (classes_of v) (in_map (λ x. parts.ClassObject x) k (range_with_len 0 (length v.instances)) (in_range 0 (length v.instances) k (omega arith) (omega (arith, lt))))))

global_there : (v : Abc) (s : ℕ) → s < length v.scripts → In (parts.Global s) (file_parts v)
unfolding file_parts instances_of classes_of globals_of
global_there v s lt =
    in_left (parts.Global s) (instances_of v ++ classes_of v ++ globals_of v) (bodies_parts v)
    (in_right (parts.Global s) (instances_of v ++ classes_of v) (globals_of v) (in_map (λ x. parts.Global x) s (range_with_len 0 (length v.scripts)) (in_range 0 (length v.scripts) s (omega arith) (omega (arith, lt)))))

in_body : (v : Abc) (p : Part) (b : ℕ) → b < length v.bodies → In p (body_parts v b) → In p (file_parts v)
unfolding file_parts bodies_parts instances_of classes_of globals_of
in_body v p b lt i =
    in_right p (instances_of v ++ classes_of v ++ globals_of v) (bodies_parts v)
    (in_flat (body_parts v) p b (range_with_len 0 (length v.bodies)) (in_range 0 (length v.bodies) b (omega arith) (omega (arith, lt))) i)

activation_there : (v : Abc) (b : ℕ) → In (parts.Activation b) (body_parts v b)
unfolding In body_parts
activation_there v b = inl refl

catch_there : (v : Abc) (b e : ℕ) → e < length (body_at v b).handlers → In (parts.Catch b e) (body_parts v b)
unfolding In body_parts
catch_there v b e lt =
    let row = range_with_len 0 (length (body_at v b).handlers) in
    inr (in_map (λ x. parts.Catch b x) e row (in_range 0 (length (body_at v b).handlers) e (omega arith) (omega (arith, lt))))

has_all : (v : Abc) (p : Part) → HasLayout v p → In p (all_parts v)
has_all v (parts.Host h) has = host_there v h
has_all v (parts.HostClassObject h) has = object_there v h
has_all v (parts.Instance k) has = in_file v (parts.Instance k) (instance_there v k has)
has_all v (parts.ClassObject k) has = in_file v (parts.ClassObject k) (class_there v k has)
has_all v (parts.Global s) has = in_file v (parts.Global s) (global_there v s has)
has_all v (parts.Activation b) has = in_file v (parts.Activation b) (in_body v (parts.Activation b) b has.0 (activation_there v b))
has_all v (parts.Catch b e) has = in_file v (parts.Catch b e) (in_body v (parts.Catch b e) b has.0 (catch_there v b e has.1))

-- ---- the sum over them

sum_map : {X Y : Type 0} (u : Y → ℕ) (f : X → Y) (xs : List X) → sum_by u (map f xs) ≡ sum_by (λ x. u (f x)) xs
sum_map u f [] = refl
sum_map u f (x ∷ xs) = let a = sum_by-cons u (f x) (map f xs) in let b = sum_by-cons (λ y. u (f y)) x xs in let h = sum_map u f xs in omega (arith, a, b, h)

sum_flat : {X Y : Type 0} (u : Y → ℕ) (f : X → List Y) (xs : List X) → sum_by u (flat_map f xs) ≡ sum_by (λ x. sum_by u (f x)) xs
sum_flat u f [] = refl
sum_flat u f (x ∷ xs) = let a = sum_by-append u (f x) (flat_map f xs) in let b = sum_by-cons (λ y. sum_by u (f y)) x xs in let h = sum_flat u f xs in omega (arith, a, b, h)

-- the numbers from a on, by the entries of a list, whose default counts nothing
sum_row : {X : Type 0} (g : X → ℕ) (d : X) → g d ≡ 0 → (h : ℕ → ℕ) (a n : ℕ) (xs : List X) → ((j k : ℕ) → k ≡ a + j → h k ≡ g (get_or xs j d)) → sum_by h (range_with_len a n) ≤ sum_by g xs
sum_row g d none h a zero xs is = omega arith
sum_row g d none h a (suc n) [] is =
    let here = is 0 a (omega arith) in
    let rest = sum_row g d none h (a + 1) n [] (λ j k e. is (suc j) k (omega (arith, e)) ∙ ap g (get_or_past [] (suc j) d (omega arith) ∙ sym (get_or_past [] j d (omega arith)))) in
    let row = sum_by-cons h a (range_with_len (a + 1) n) in
    omega (arith, here, rest, none, row)
sum_row g d none h a (suc n) (x ∷ xs) is =
    let here = is 0 a (omega arith) in
    let rest = sum_row g d none h (a + 1) n xs (λ j k e. is (suc j) k (omega (arith, e))) in
    let row = sum_by-cons h a (range_with_len (a + 1) n) in
    let all = sum_by-cons g x xs in
    omega (arith, here, rest, row, all)

-- a sum is at most that of what is at least as much
sum_low : {X : Type 0} (g h : X → ℕ) → ((x : X) → g x ≤ h x) → (xs : List X) → sum_by g xs ≤ sum_by h xs
sum_low g h le [] = omega arith
sum_low g h le (x ∷ xs) = let a = le x in let b = sum_low g h le xs in let c = sum_by-cons g x xs in let d = sum_by-cons h x xs in omega (arith, a, b, c, d)

-- as many bytes at least
bytes_low : {X : Type 0} (g : X → ℕ) (f : X → List ℕ) → ((x : X) → g x ≤ length (f x)) → (xs : List X) → sum_by g xs ≤ length (flat_map f xs)
bytes_low g f le xs = let a = sum_low g (λ x. length (f x)) le xs in let b = length-flat_map f xs in omega (arith, a, b)

entries_low : {X : Type 0} (f : X → List ℕ) → ((x : X) → 1 ≤ length (f x)) → (xs : List X) → length xs ≤ length (counted_bytes f xs)
unfolding counted_bytes
entries_low {X} f le xs =
    let a = count xs in
    let b = bytes_low (λ (x : X). 1) f le xs in
    let c = length-append (number_bytes (length xs)) (flat_map f xs) in
    omega (arith, a, b, c)
  where
    count : (ys : List X) → sum_by (λ (y : X). 1) ys ≡ length ys
    count [] = refl
    count (y ∷ ys) = let h = count ys in let a = sum_by-cons (λ (z : X). 1) y ys in omega (arith, h, a)

number_some : (n : ℕ) → 1 ≤ length (number_bytes n)
number_some n = let a = length_1 0 (omega arith) in let b = number_grows 0 n (omega arith) in omega (arith, a, b)

front_low : {X : Type 0} (m : ℕ) (xs ys : List X) → m ≤ length xs → m ≤ length (xs ++ ys)
front_low m xs ys le = let e = length-append xs ys in omega (arith, e, le)

back_low : {X : Type 0} (m : ℕ) (xs ys : List X) → m ≤ length ys → m ≤ length (xs ++ ys)
back_low m xs ys le = let e = length-append xs ys in omega (arith, e, le)

trait_some : (t : TraitInfo) → 1 ≤ length (trait_bytes t)
unfolding trait_bytes
trait_some t = front_low 1 _ _ (front_low 1 _ _ (front_low 1 (number_bytes t.name) _ (number_some t.name)))

handler_some : (starts : List ℕ) (h : Handler) → 1 ≤ length (handler_bytes starts h)
unfolding handler_bytes
handler_some starts h = front_low 1 _ _ (front_low 1 _ _ (front_low 1 _ _ (front_low 1 (number_bytes (get_or starts h.from 0)) _ (number_some (get_or starts h.from 0)))))

instance_low : (i : Instance) → length i.traits ≤ length (instance_bytes i)
unfolding instance_bytes
instance_low i = back_low (length i.traits) _ _ (entries_low trait_bytes trait_some i.traits)

class_low : (c : ClassInfo) → length c.traits ≤ length (class_bytes c)
unfolding class_bytes
class_low c = back_low (length c.traits) (number_bytes c.cinit) _ (entries_low trait_bytes trait_some c.traits)

script_low : (s : Script) → length s.traits ≤ length (script_bytes s)
unfolding script_bytes
script_low s = back_low (length s.traits) (number_bytes s.init) _ (entries_low trait_bytes trait_some s.traits)

both_low : {X : Type 0} (m n : ℕ) (xs ys zs : List X) → n ≤ length ys → m ≤ length zs → m + n ≤ length (xs ++ ys ++ zs)
both_low m n xs ys zs few more = let a = length-append (xs ++ ys) zs in let b = length-append xs ys in omega (arith, a, b, few, more)

body_low : (b : Body) → length b.traits + length b.handlers ≤ length (body_bytes b)
unfolding body_bytes
body_low b =
    both_low (length b.traits) (length b.handlers) _ (counted_bytes (handler_bytes (canonical_starts b.code)) b.handlers) (counted_bytes trait_bytes b.traits)
    (entries_low (handler_bytes (canonical_starts b.code)) (handler_some (canonical_starts b.code)) b.handlers) (entries_low trait_bytes trait_some b.traits)

instances_sum : (v : Abc) → sum_by (table_of v) (map (λ k. parts.Instance k) (range_with_len 0 (length v.instances))) ≤ length (flat_map instance_bytes v.instances)
unfolding table_of
instances_sum v =
    let e = sum_map (table_of v) (λ k. parts.Instance k) (range_with_len 0 (length v.instances)) in
    let a = sum_row (λ (i : Instance). length i.traits) no_instance refl (λ k. length (instance_at v k).traits) 0 (length v.instances) v.instances (λ j k q. let same : k ≡ j = omega (arith, q) in ap (λ n. length (instance_at v n).traits) same) in
    let b = bytes_low (λ (i : Instance). length i.traits) instance_bytes instance_low v.instances in
    omega (arith, e, a, b)

classes_sum : (v : Abc) → sum_by (table_of v) (map (λ k. parts.ClassObject k) (range_with_len 0 (length v.instances))) ≤ length (flat_map class_bytes v.classes)
unfolding table_of
classes_sum v =
    let e = sum_map (table_of v) (λ k. parts.ClassObject k) (range_with_len 0 (length v.instances)) in
    let a = sum_row (λ (c : ClassInfo). length c.traits) no_class refl (λ k. length (class_at v k).traits) 0 (length v.instances) v.classes (λ j k q. let same : k ≡ j = omega (arith, q) in ap (λ n. length (class_at v n).traits) same) in
    let b = bytes_low (λ (c : ClassInfo). length c.traits) class_bytes class_low v.classes in
    omega (arith, e, a, b)

globals_sum : (v : Abc) → sum_by (table_of v) (map (λ s. parts.Global s) (range_with_len 0 (length v.scripts))) ≤ length (flat_map script_bytes v.scripts)
unfolding table_of
globals_sum v =
    let e = sum_map (table_of v) (λ s. parts.Global s) (range_with_len 0 (length v.scripts)) in
    let a = sum_row (λ (s : Script). length s.traits) no_script refl (λ k. length (script_at v k).traits) 0 (length v.scripts) v.scripts (λ j k q. let same : k ≡ j = omega (arith, q) in ap (λ n. length (script_at v n).traits) same) in
    let b = bytes_low (λ (s : Script). length s.traits) script_bytes script_low v.scripts in
    omega (arith, e, a, b)

ones : (v : Abc) (b a n : ℕ) → sum_by (table_of v) (map (λ e. parts.Catch b e) (range_with_len a n)) ≡ n
unfolding table_of
ones v b a zero = refl
ones v b a (suc n) = let h = ones v b (a + 1) n in let c = sum_by-cons (table_of v) (parts.Catch b a) (map (λ e. parts.Catch b e) (range_with_len (a + 1) n)) in omega (arith, h, c)

body_sum : (v : Abc) (j k : ℕ) → k ≡ 0 + j → sum_by (table_of v) (body_parts v k) ≡ length (get_or v.bodies j no_body).traits + length (get_or v.bodies j no_body).handlers
unfolding table_of body_parts
body_sum v j k q =
    let same : k ≡ j = omega (arith, q) in
    let a = sum_by-cons (table_of v) (parts.Activation k) (map (λ e. parts.Catch k e) (range_with_len 0 (length (body_at v k).handlers))) in
    let b = ones v k 0 (length (body_at v k).handlers) in
    let c = ap (λ n. length (body_at v n).traits + length (body_at v n).handlers) same in
    omega (arith, a, b, c)

bodies_sum : (v : Abc) → sum_by (table_of v) (bodies_parts v) ≤ length (flat_map body_bytes v.bodies)
unfolding table_of bodies_parts body_parts
bodies_sum v =
    let size = λ (b : Body). length b.traits + length b.handlers in
    let e = sum_flat (table_of v) (body_parts v) (range_with_len 0 (length v.bodies)) in
    let a = sum_row size no_body refl (λ b. sum_by (table_of v) (body_parts v b)) 0 (length v.bodies) v.bodies (body_sum v) in
    let b = bytes_low size body_bytes body_low v.bodies in
    omega (arith, e, a, b)

hosts_sum : (v : Abc) → sum_by (table_of v) (map (λ h. parts.Host h) host_classes) ≡ 14
unfolding table_of
hosts_sum v = refl

host_objects_sum : (v : Abc) → sum_by (table_of v) (map (λ h. parts.HostClassObject h) host_classes) ≡ 0
unfolding table_of
host_objects_sum v = refl

bytes_sum : (v : Abc) → length (flat_map instance_bytes v.instances) + length (flat_map class_bytes v.classes) + length (flat_map script_bytes v.scripts) + length (flat_map body_bytes v.bodies) ≤ length (file_bytes v)
unfolding file_bytes definitions_bytes bodies_bytes counted_bytes
bytes_sum v =
    let instances = flat_map instance_bytes v.instances in
    let classes = flat_map class_bytes v.classes in
    let scripts = flat_map script_bytes v.scripts in
    let bodies = flat_map body_bytes v.bodies in
    let front = counted_bytes method_bytes v.methods ++ counted_bytes metadata_bytes v.metadata ++ number_bytes (length v.classes) in
    let of_scripts = number_bytes (length v.scripts) ++ scripts in
    let of_bodies = number_bytes (length v.bodies) ++ bodies in
    let a = length-append front instances in
    let b = length-append (front ++ instances) classes in
    let c : length (definitions_bytes v) ≡ length (front ++ instances ++ classes) + length of_scripts = length-append (front ++ instances ++ classes) of_scripts in
    let d = length-append (number_bytes (length v.scripts)) scripts in
    let e = length-append (number_bytes (length v.bodies)) bodies in
    let f = length-append (version_bytes ++ pools_bytes v) (definitions_bytes v) in
    let g : length (file_bytes v) ≡ length (version_bytes ++ pools_bytes v ++ definitions_bytes v) + length of_bodies = length-append (version_bytes ++ pools_bytes v ++ definitions_bytes v) of_bodies in
    omega (arith, a, b, c, d, e, f, g)

parts_sum : (v : Abc) → sum_by (table_of v) (all_parts v) ≤ 14 + length (file_bytes v)
unfolding all_parts file_parts
parts_sum v =
    let u = table_of v in
    let hs = map (λ h. parts.Host h) host_classes in
    let os = map (λ h. parts.HostClassObject h) host_classes in
    let is = map (λ k. parts.Instance k) (range_with_len 0 (length v.instances)) in
    let cs = map (λ k. parts.ClassObject k) (range_with_len 0 (length v.instances)) in
    let gs = map (λ s. parts.Global s) (range_with_len 0 (length v.scripts)) in
    let bs = bodies_parts v in
    let a : sum_by u (all_parts v) ≡ sum_by u (hs ++ os) + sum_by u (is ++ cs ++ gs ++ bs) = sum_by-append u (hs ++ os) (is ++ cs ++ gs ++ bs) in
    let b = sum_by-append u hs os in
    let c = sum_by-append u (is ++ cs ++ gs) bs in
    let d = sum_by-append u (is ++ cs) gs in
    let e = sum_by-append u is cs in
    let s0 = hosts_sum v in
    let s1 = host_objects_sum v in
    let s2 = instances_sum v in
    let s3 = classes_sum v in
    let s4 = globals_sum v in
    let s5 = bodies_sum v in
    let bytes = bytes_sum v in
    omega (arith, a, b, c, d, e, s0, s1, s2, s3, s4, s5, bytes)

pub few_slots : (l : LinkedFile) → IsLinkedFile l → HasFewSlots l
few_slots l linked x low =
    let falls : IsFalling (base_layout l) = falling l.file l.parts linked.numbering in
    let a = slots_up_to l falls (x + 1) x (omega arith) low in
    let b = sum_by-take-le (table_of l.file) l.parts (x + 1) in
    let c = no_more (table_of l.file) l.parts (all_parts l.file) (distinct l.parts linked.numbering.apart) known in
    let d = parts_sum l.file in
    let bytes = linked.fits.0 in
    let e = (canonical_file l.file bytes linked.fits.1).1 in
    let f = linked.fits.1.1 in
    omega (arith, a, b, c, d, e, f)
  where
    known : (p : Part) → In p l.parts → In p (all_parts l.file)
    known p i =
        let h = place_in p (parts.Host hosts.Object) l.parts i in
        has_all l.file p (subst (HasLayout l.file) h.2 (linked.numbering.only h.0 (parts.Host hosts.Object) h.1))
