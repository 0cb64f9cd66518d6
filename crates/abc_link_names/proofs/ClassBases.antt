-- The base of each class of a linked file is there, and what a class leads to in the graph of bases is its base, or what that
-- leads to.
use Rattle.std.proofs.Common.{◌≡◌, ◌≢◌, ◌⊎◌, inl, inr, ℕ, ◌<◌, List, [], length, refl, sym, ap, ◌∙◌, subst, arith, eqb-true}
use Rattle.std.proofs.lemmas.Bool.{false_from_ne_true}
use Rattle.std.proofs.lemmas.List.{get_or-map}
use Rattle.std.specs.Prelude.{Bool, true, false, not, ◌&&◌, Contains, nat_eq, Some, None}
use Rattle.std.specs.declared.option.Option.{Option}
use Rattle.abc_base_graphs.specs.Graph.{Edge, Leads, Then, leads_to}
use Rattle.abc_base_graphs.proofs.Searched.{contains_none, contains_one}
use Rattle.abc_file_types.specs.declared.classes.Instance.{Instance}
use Rattle.abc_link_names.specs.Bases.{base_graph, base_named, breaks_unknown_base, classes_named, is_some_class}
use Rattle.abc_link_names.specs.Instances.{instance_at, no_instance}
use Rattle.abc_link_names.specs.Meaning.{resolve}
use Rattle.abc_link_names.specs.declared.items.ItemKind.TheVariants as items
use Rattle.abc_link_names.specs.declared.items.LinkRule.TheVariants as rules
use Rattle.abc_link_names.specs.declared.named.Named.{Named}
use Rattle.abc_link_names.specs.declared.named.Named.TheVariants as named
use Rattle.abc_link_names.proofs.Within.{resolve_within}
use Rattle.abc_link_names.specs.ClassBases.{BaseKnown}
use Rattle.abc_link_names.specs.Linked.{IsLinkedFile, LinkedFile}

module _ (l : LinkedFile) (linked : IsLinkedFile l) where
  base_known : (k : ℕ) → k < length l.file.instances → breaks_unknown_base l.file k ≡ false
  base_known k b = false_from_ne_true (breaks_unknown_base l.file k) (linked.rules rules.UnknownBase (record { kind = items.Class; index = k }) (record { within = b }))

  -- a class that names a base has one
  pub named_base : (k : ℕ) → k < length l.file.instances → (instance_at l.file k).super_name ≢ 0 → is_some_class (base_named l.file k) ≡ true
  named_base k b some = go (nat_eq (instance_at l.file k).super_name 0) refl (is_some_class (base_named l.file k)) refl (base_known k b)
    where
      go : (a : Bool) → nat_eq (instance_at l.file k).super_name 0 ≡ a → (c : Bool) → is_some_class (base_named l.file k) ≡ c → (not a && not c) ≡ false → is_some_class (base_named l.file k) ≡ true
      go true q c r e = absurd (some (eqb-true _ 0 q))
      go false q true r e = r
      go false q false r e = absurd cc

  -- a class that names no base has none
  pub no_base : (k : ℕ) → (instance_at l.file k).super_name ≡ 0 → base_named l.file k ≡ None
  no_base k e = ap (λ (n : ℕ). resolve l.file n) e

  -- the base of a class is there
  pub bases_known : (k : ℕ) → k < length l.file.instances → BaseKnown l (base_named l.file k)
  bases_known k b = go (nat_eq (instance_at l.file k).super_name 0) refl
    where
      of : (o : Option Named) → base_named l.file k ≡ o → is_some_class o ≡ true → BaseKnown l o
      of None q e = tt
      of (Some (named.Class j)) q e = resolve_within l.file (instance_at l.file k).super_name j q
      of (Some (named.Host c)) q e = tt
      of (Some named.Any) q e = absurd cc
      of (Some named.Void) q e = absurd cc

      go : (a : Bool) → nat_eq (instance_at l.file k).super_name 0 ≡ a → BaseKnown l (base_named l.file k)
      go true q = subst (BaseKnown l) (sym (no_base k (eqb-true _ 0 q))) tt
      go false q = of (base_named l.file k) refl (named_base k b (λ e. let same : nat_eq (instance_at l.file k).super_name 0 ≡ true = ap (λ (n : ℕ). nat_eq n 0) e in cc))

  -- ---- as a graph

  base_targets : (k : ℕ) → k < length l.file.instances → leads_to (base_graph l.file) k ≡ classes_named (base_named l.file k)
  base_targets k b = get_or-map (λ (i : Instance). classes_named (resolve l.file i.super_name)) l.file.instances k no_instance [] b

  only_base : (o : Option Named) (b : ℕ) → Contains (classes_named o) b → o ≡ Some (named.Class b)
  only_base None b c = absurd (contains_none b c)
  only_base (Some (named.Class j)) b c = let same : j ≡ b = contains_one b j c in ap (λ (x : ℕ). Some (named.Class x)) same
  only_base (Some (named.Host h)) b c = absurd (contains_none b c)
  only_base (Some named.Any) b c = absurd (contains_none b c)
  only_base (Some named.Void) b c = absurd (contains_none b c)

  -- what is led to by one edge is the base
  pub edge_is : (k b : ℕ) → k < length l.file.instances → Contains (leads_to (base_graph l.file) k) b → base_named l.file k ≡ Some (named.Class b)
  edge_is k b low c = only_base (base_named l.file k) b (subst (λ (ts : List ℕ). Contains ts b) (base_targets k low) c)

  -- and the base is led to
  pub base_edge : (k b : ℕ) → k < length l.file.instances → base_named l.file k ≡ Some (named.Class b) → Contains (leads_to (base_graph l.file) k) b
  base_edge k b low e = subst (λ (ts : List ℕ). Contains ts b) (sym (base_targets k low ∙ ap classes_named e)) (0, omega arith, refl)

  pub above_base : (k b : ℕ) → k < length l.file.instances → Leads (base_graph l.file) k b → (j : ℕ) × (base_named l.file k ≡ Some (named.Class j)) × ((b ≡ j) ⊎ Leads (base_graph l.file) j b)
  above_base k b low (Edge c) = (b, edge_is k b low c, inl refl)
  above_base k b low (Then {y = y} c rest) = (y, edge_is k y low c, inr rest)
