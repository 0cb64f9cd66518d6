-- A method whose class has a base: its class is one of the file, and a super operation begins at the layout of its instances.
use Rattle.std.proofs.Common.{◌≡◌, ◌∙◌, ℕ, ◌<◌, ◌≤◌, Bool, true, false, length, ap, refl, sym}
use Rattle.std.specs.declared.option.Option.{Option}
use Rattle.std.specs.Prelude.{None, Some, is_some, nat_lt, if◌then◌else◌}
use Rattle.std.proofs.lemmas.Bool.{false≢true, ltb-false, ltb-true}
use Rattle.std.proofs.lemmas.List.{get_or_past}
use Rattle.abc_link_names.proofs.MethodBodies.{body_is_of}
use Rattle.abc_link_names.specs.Instances.{no_instance}
use Rattle.abc_link_names.specs.Linked.{LinkedFile, layout_of}
use Rattle.abc_link_names.specs.Owners.{body_of, owner_of}
use Rattle.abc_link_names.specs.declared.part.Part.TheVariants as parts
use Rattle.abc_link_names.specs.declared.types.Owner.{Owner}
use Rattle.abc_link_names.specs.declared.types.Owner.TheVariants as owners
use Rattle.abc_verify_typing.specs.declared.row.Site.TheVariants.{InMaker, OnInstance}
use Rattle.abc_meaning.specs.Setting.{Setting, routine_in, routine_of}
use Rattle.abc_file_types.specs.declared.classes.Instance.{Instance}
use Rattle.abc_verify_typing.specs.Routines.{Routine, has_base, home_of, routine}
use Rattle.abc_verify_typing.specs.Rules.{super_layout}
use Rattle.abc_verify_typing.specs.declared.home.Home.{Home}
use Rattle.abc_verify_typing.specs.declared.home.Home.TheVariants.{Elsewhere, MakesInstances, OnInstances}
use Rattle.abc_run_dispatch.specs.Homes.{HasHome, class_of_owner}

-- ---- the class is one of the file

based_inside : (l : LinkedFile) (k : ℕ) → has_base l k ≡ true → k < length l.file.instances
based_inside l k e = go (nat_lt k (length l.file.instances)) refl
  where
    go : (b : Bool) → nat_lt k (length l.file.instances) ≡ b → k < length l.file.instances
    go true t = ltb-true k (length l.file.instances) t
    go false t =
        let past : length l.file.instances ≤ k = ltb-false k (length l.file.instances) t in
        let bare : has_base l k ≡ false = ap (λ (i : Instance). nat_lt 0 i.super_name) (get_or_past l.file.instances k no_instance past) in
        absurd (false≢true (sym bare ∙ e))

based_if : (b : Bool) (home : Home) → is_some (super_layout OnInstance (if b then home else Elsewhere)) ≡ true → b ≡ true
based_if true home e = refl
based_if false home e = absurd (false≢true e)

pub home_inside : (l : LinkedFile) (o : Owner) (k : ℕ) → HasHome l o → class_of_owner o ≡ Some k → k < length l.file.instances
home_inside l (owners.Iinit j) k h e = based_inside l k (let same : j ≡ k = cc in ap (has_base l) (sym same) ∙ based_if (has_base l j) (MakesInstances (layout_of l (parts.Instance j))) h)
home_inside l (owners.Instance j) k h e = based_inside l k (let same : j ≡ k = cc in ap (has_base l) (sym same) ∙ based_if (has_base l j) (OnInstances (layout_of l (parts.Instance j))) h)
home_inside l o k h e = absurd cc

-- ---- and the layout that of its instances

pub home_layout : (l : LinkedFile) (o : Owner) (k : ℕ) → HasHome l o → class_of_owner o ≡ Some k → super_layout OnInstance (home_of l o) ≡ Some (layout_of l (parts.Instance k))
home_layout l (owners.Iinit j) k h e =
    let same : j ≡ k = cc in
    let there = based_if (has_base l j) (MakesInstances (layout_of l (parts.Instance j))) h in
    ap (λ (b : Bool). super_layout OnInstance (if b then MakesInstances (layout_of l (parts.Instance j)) else Elsewhere)) there ∙ ap (λ (n : ℕ). Some (layout_of l (parts.Instance n))) same
home_layout l (owners.Instance j) k h e =
    let same : j ≡ k = cc in
    let there = based_if (has_base l j) (OnInstances (layout_of l (parts.Instance j))) h in
    ap (λ (b : Bool). super_layout OnInstance (if b then OnInstances (layout_of l (parts.Instance j)) else Elsewhere)) there ∙ ap (λ (n : ℕ). Some (layout_of l (parts.Instance n))) same
home_layout l o k h e = absurd cc

-- ---- the maker of instances

pub maker_home : (l : LinkedFile) (o : Owner) → is_some (super_layout InMaker (home_of l o)) ≡ true → HasHome l o
maker_home l o e = go (home_of l o) e
  where
    go : (home : Home) → is_some (super_layout InMaker home) ≡ true → is_some (super_layout OnInstance home) ≡ true
    go (MakesInstances x) t = refl
    go (OnInstances x) t = absurd (false≢true t)
    go Elsewhere t = absurd (false≢true t)

pub maker_is : (l : LinkedFile) (o : Owner) (k : ℕ) → is_some (super_layout InMaker (home_of l o)) ≡ true → class_of_owner o ≡ Some k → o ≡ owners.Iinit k
maker_is l (owners.Iinit j) k h e = let same : j ≡ k = cc in ap owners.Iinit same
maker_is l (owners.Instance j) k h e = absurd (go (has_base l j) h)
  where
    go : (b : Bool) → is_some (super_layout InMaker (if b then OnInstances (layout_of l (parts.Instance j)) else Elsewhere)) ≡ true → ⊥
    go true t = false≢true t
    go false t = false≢true t
maker_is l o k h e = absurd cc

-- ---- what a routine says of its home is said of its method's owner

pub routine_home : (p : Setting) (n : ℕ) (r : Routine) → routine_of p n ≡ Some r → r.home ≡ home_of p.linked (owner_of p.linked.file n)
routine_home p n r e = go (body_of p.linked.file n) refl e
  where
    go : (o : Option ℕ) → body_of p.linked.file n ≡ o → routine_in p o ≡ Some r → r.home ≡ home_of p.linked (owner_of p.linked.file n)
    go None q f = absurd cc
    go (Some b) q f =
        let is : r ≡ routine p.linked b = cc in
        ap (λ (x : Routine). x.home) is ∙ ap (λ (m : ℕ). home_of p.linked (owner_of p.linked.file m)) (body_is_of p.linked.file n b q)
