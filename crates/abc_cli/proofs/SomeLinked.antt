-- A file that keeps the rules of linking has a linked file.
use Rattle.std.proofs.Common.{◌≡◌, ℕ, suc, ◌+◌, ◌<◌, ◌≤◌, ◌^◌, List, [], ◌∷◌, ◌++◌, Some, Bool, true, false, if◌then◌else◌, ◌||◌, nat_eq, eqb-true, map, length, get_or, sum_by, refl, sym, ap, subst, ◌∙◌, arith, length-append}
use Rattle.std.specs.List.{flat_map, list_any, range_with_len}
use Rattle.std.specs.declared.option.Option.{Option}
use Rattle.std.proofs.lemmas.Bool.{false≢true, ne_eqb}
use Rattle.std.proofs.lemmas.List.{get_or_default, length-map}
use Rattle.std.proofs.lemmas.List.Concat.{length-flat_map}
use Rattle.std.proofs.lemmas.List.FromFn.{length-range_with_len}
use Rattle.std.proofs.lemmas.List.Sums.{sum_by-cons}
use Rattle.std.proofs.lemmas.Map.Keys.{IsDistinct-from_apart}
use Rattle.std.proofs.lemmas.Map.Steps.{length-le_from_distinct_below}
use Rattle.abc_base.specs.Names.{host_classes}
use Rattle.abc_base.proofs.Spelling.{length_1, number_grows}
use Rattle.abc_base_graphs.specs.Orders.{AreNodesPlaced, place_in_order, order_of_all}
use Rattle.abc_base_graphs.proofs.Placing.{placed_in_range}
use Rattle.abc_file_types.specs.CodeBytes.{canonical_starts, number_len}
use Rattle.abc_file_types.specs.Files.{Fits}
use Rattle.abc_file_types.specs.declared.code.Body.{Body}
use Rattle.abc_file_types.specs.declared.code.Handler.{Handler}
use Rattle.abc_file_types.specs.declared.tables.Abc.{Abc}
use Rattle.abc_link_layouts.specs.Forest.{class_bases}
use Rattle.abc_link_layouts.specs.Numbering.{activation_in, numbering, parts_in}
use Rattle.abc_link_layouts.proofs.Numbered.{numbered}
use Rattle.abc_link_layouts.proofs.Rooted.{few_bases, is_forest}
use Rattle.abc_link_names.specs.PartsByNumber.{body_at, no_body}
use Rattle.abc_link_names.specs.Rules.{AllHold}
use Rattle.abc_link_names.specs.Linked.{IsLinkedFile, LinkedFile}
use Rattle.abc_link_names.specs.Parts.{has_activation}
use Rattle.abc_link_names.specs.declared.part.Part.{Part}
use Rattle.abc_link_names.specs.declared.part.Part.TheVariants as parts
use Rattle.abc_tables.specs.Lengths.{body_len, file_len, handler_len}
use Rattle.abc_tables.proofs.BodiesFit.{bodies_fit}
use Rattle.abc_tables.proofs.DefinitionsFit.{definitions_fit}
use Rattle.abc_tables.proofs.FileFits.{file_fits, tables_fit}
use Rattle.abc_cli.proofs.SomeOrder.{some_order}

-- ---- an order has no more nodes than there are

module _ (bases : List (Option ℕ)) (order : List ℕ) (places : List (Option ℕ)) (placed : AreNodesPlaced bases order places) where
  apart : (i j d : ℕ) → i < j → j < length order → nat_eq (get_or order i d) (get_or order j d) ≡ false
  apart i j d less low = ne_eqb (get_or order i d) (get_or order j d) differ
    where
      differ : get_or order i d ≡ get_or order j d → ⊥
      differ e =
          let same : get_or order i 0 ≡ get_or order j 0 = sym (get_or_default order i d 0 (omega (arith, less, low))) ∙ e ∙ get_or_default order j d 0 low in
          let both : Some i ≡ Some j = sym (placed.back i (omega (arith, less, low))) ∙ ap (place_in_order places) same ∙ placed.back j low in
          let k : i ≡ j = cc in
          omega (arith, k, less)

  known : (k : ℕ) → k < length order → get_or order k 0 < length bases
  known k lt = let h = placed_in_range places (get_or order k 0) k (placed.back k lt) in omega (arith, h, placed.len)

  few_nodes : length order ≤ length bases
  few_nodes = length-le_from_distinct_below order (length bases) (IsDistinct-from_apart nat_eq order apart) (λ q e. below order q known e)
    where
      below : (xs : List ℕ) (q : ℕ) → ((k : ℕ) → k < length xs → get_or xs k 0 < length bases) → list_any (nat_eq q) xs ≡ true → q < length bases
      below [] q low e = absurd (false≢true e)
      below (x ∷ xs) q low e = go (below xs q (λ k lt. low (suc k) (omega (arith, lt)))) (nat_eq q x) refl e
        where
          go : (list_any (nat_eq q) xs ≡ true → q < length bases) → (b : Bool) → nat_eq q x ≡ b → (b || list_any (nat_eq q) xs) ≡ true → q < length bases
          go more true is f = let same = eqb-true q x is in let h = low 0 (omega arith) in omega (arith, same, h)
          go more false is f = more f

-- ---- sums over lists

at_least_one : {X : Type 0} (f : X → ℕ) → ((x : X) → 1 ≤ f x) → (xs : List X) → length xs ≤ sum_by f xs
at_least_one f some [] = omega arith
at_least_one f some (x ∷ xs) = let a = some x in let b = at_least_one f some xs in let c = sum_by-cons f x xs in omega (arith, a, b, c)

-- the numbers from one on, by the entries of a list
sum_rows : {X : Type 0} (g : X → ℕ) (d : X) (h : ℕ → ℕ) (a : ℕ) (xs : List X) → ((j : ℕ) → j < length xs → h (a + j) ≤ g (get_or xs j d)) → sum_by h (range_with_len a (length xs)) ≤ sum_by g xs
sum_rows g d h a [] low = omega arith
sum_rows g d h a (x ∷ xs) low =
    let here : h a ≤ g x = let q = ap h add_none in let k = low 0 (omega arith) in omega (arith, q, k) in
    let rest = sum_rows g d h (a + 1) xs (λ j lt. let q = ap h (shifted j) in let k = low (suc j) (omega (arith, lt)) in omega (arith, q, k)) in
    let row = sum_by-cons h a (range_with_len (a + 1) (length xs)) in
    let all = sum_by-cons g x xs in
    omega (arith, here, rest, row, all)
  where
    add_none : a + 0 ≡ a
    add_none = omega arith

    shifted : (j : ℕ) → a + 1 + j ≡ a + suc j
    shifted j = omega arith

-- ---- how many parts a body has

number_some : (n : ℕ) → 1 ≤ number_len n
number_some n = let a = length_1 0 (omega arith) in let b = number_grows 0 n (omega arith) in omega (arith, a, b)

handlers_some : (starts : List ℕ) (h : Handler) → 1 ≤ handler_len starts h
handlers_some starts h = let a = number_some h.exc_type in omega (arith, a)

body_some : (b : Body) → 1 + length b.handlers ≤ body_len b
unfolding body_len
body_some b =
    let a = number_some b.method in
    let c = at_least_one (handler_len (canonical_starts b.code)) (handlers_some (canonical_starts b.code)) b.handlers in
    omega (arith, a, c)

parts_few : (v : Abc) (b : ℕ) → length (parts_in v b) ≤ 1 + length (body_at v b).handlers
parts_few v b =
    let catches = map (λ e. parts.Catch b e) (range_with_len 0 (length (body_at v b).handlers)) in
    let all = length-append (activation_in v b) catches in
    let few = length-map (range_with_len 0 (length (body_at v b).handlers)) (λ e. parts.Catch b e) in
    let row = length-range_with_len 0 (length (body_at v b).handlers) in
    let one = activations (has_activation v b) in
    omega (arith, all, few, row, one)
  where
    activations : (t : Bool) → length (if t then parts.Activation b ∷ [] else []) ≤ 1
    activations true = omega arith
    activations false = omega arith

bodies_few : (v : Abc) → length (flat_map (parts_in v) (range_with_len 0 (length v.bodies))) ≤ sum_by body_len v.bodies
bodies_few v =
    let all = length-flat_map (parts_in v) (range_with_len 0 (length v.bodies)) in
    let rows = sum_rows body_len no_body (λ b. length (parts_in v b)) 0 v.bodies (λ j lt. low j (0 + j) (omega arith)) in
    omega (arith, all, rows)
  where
    low : (j k : ℕ) → k ≡ j → length (parts_in v k) ≤ body_len (get_or v.bodies j no_body)
    low j k e =
        let a = parts_few v k in
        let b = body_some (body_at v j) in
        let same = ap (λ (i : ℕ). length (body_at v i).handlers) e in
        omega (arith, a, b, same)

-- ---- how many layouts a file has

bodies_within : (v : Abc) → file_len v ≤ 2 ^ 24 → sum_by body_len v.bodies ≤ 2 ^ 24
unfolding file_len
bodies_within v le = omega (arith, le)

module _ (v : Abc) (nodes : List ℕ) (few_nodes : length nodes ≤ length v.instances) (few : length v.instances < 2 ^ 30) (scripts : length v.scripts < 2 ^ 30) (bodies : sum_by body_len v.bodies ≤ 2 ^ 24) where
  hs : List Part
  hs = map (λ h. parts.Host h) host_classes

  os : List Part
  os = map (λ h. parts.HostClassObject h) host_classes

  is : List Part
  is = map (λ k. parts.Instance k) nodes

  cs : List Part
  cs = map (λ k. parts.ClassObject k) (range_with_len 0 (length v.instances))

  gs : List Part
  gs = map (λ s. parts.Global s) (range_with_len 0 (length v.scripts))

  bs : List Part
  bs = flat_map (parts_in v) (range_with_len 0 (length v.bodies))

  host_counts : (length hs ≡ 14) × (length os ≡ 14)
  unfolding hs os
  host_counts = (refl, refl)

  row_counts : (length is ≡ length nodes) × (length cs ≡ length v.instances) × (length gs ≡ length v.scripts)
  unfolding is cs gs
  row_counts = (
    length-map nodes (λ k. parts.Instance k),
    length-map (range_with_len 0 (length v.instances)) (λ k. parts.ClassObject k) ∙ length-range_with_len 0 (length v.instances),
    length-map (range_with_len 0 (length v.scripts)) (λ s. parts.Global s) ∙ length-range_with_len 0 (length v.scripts),
  )

  body_count : length bs ≤ 2 ^ 24
  unfolding bs
  body_count = let h = bodies_few v in omega (arith, h, bodies)

  few_parts : length (hs ++ os ++ is ++ cs ++ gs ++ bs) < 2 ^ 32
  few_parts =
      let a = length-append (hs ++ os ++ is ++ cs ++ gs) bs in
      let b = length-append (hs ++ os ++ is ++ cs) gs in
      let c = length-append (hs ++ os ++ is) cs in
      let d = length-append (hs ++ os) is in
      let e = length-append hs os in
      let f = host_counts in
      let g = row_counts in
      let h = body_count in
      omega (arith, a, b, c, d, e, f.0, f.1, g.0, g.1, g.2, h, few_nodes, few, scripts)

few_layouts : (v : Abc) (nodes : List ℕ) → nodes ≡ order_of_all (class_bases v) → length nodes ≤ length v.instances → length v.instances < 2 ^ 30 → length v.scripts < 2 ^ 30 → sum_by body_len v.bodies ≤ 2 ^ 24 → length (numbering v) < 2 ^ 32
unfolding numbering hs os is cs gs bs
few_layouts v nodes e few_nodes few scripts bodies = subst (λ (ns : List ℕ). length (map (λ h. parts.Host h) host_classes ++ map (λ h. parts.HostClassObject h) host_classes ++ map (λ k. parts.Instance k) ns ++ map (λ k. parts.ClassObject k) (range_with_len 0 (length v.instances)) ++ map (λ s. parts.Global s) (range_with_len 0 (length v.scripts)) ++ flat_map (parts_in v) (range_with_len 0 (length v.bodies))) < 2 ^ 32) e (few_parts v nodes few_nodes few scripts bodies)

-- ---- the linked file

abbrev pub linked_of : Abc → LinkedFile
linked_of v = record { file = v; parts = numbering v }

pub is_linked : (v : Abc) → Fits v → AllHold v → IsLinkedFile (linked_of v)
is_linked v fits rules =
    let forest = is_forest v (class_bases v) rules refl in
    let o = some_order (class_bases v) forest in
    let nodes : List ℕ = order_of_all (class_bases v) in
    let f = (file_fits v).0 fits in
    let t = (tables_fit v).0 f.1 in
    let d = (definitions_fit v).0 t.1 in
    let b = (bodies_fit v).0 t.2 in
    let placed : AreNodesPlaced (class_bases v) nodes o.0 = subst (λ (ns : List ℕ). AreNodesPlaced (class_bases v) ns o.0) o.1.is o.1.placed in
    let some = few_nodes (class_bases v) nodes o.0 placed in
    let bases = few_bases v (class_bases v) refl in
    let classes : length v.instances < 2 ^ 30 = let m = d.class_count in let n = d.instance_count in omega (arith, m, n) in
    record {
      fits = fits;
      rules = rules;
      numbering = numbered v _ o.0 o.1;
      tables = record {
        methods = let m = d.method_count in omega (arith, m);
        classes = omega (arith, classes);
        scripts = let m = d.script_count in omega (arith, m);
        bodies = let m = b.0 in omega (arith, m);
      };
      layouts = few_layouts v nodes refl (omega (arith, some, bases)) classes d.script_count (bodies_within v f.0);
    }
