-- Which files some bytes spell.
use Rattle.std.proofs.Common.{◌≡◌, ℕ, ◌+◌, ◌-◌, ◌^◌, ◌<◌, ◌≤◌, List, ◌++◌, length, min, refl, sym, ap, subst, ◌∙◌, arith}
use Rattle.std.specs.Prelude.{◌↔◌}
use Rattle.abc_file_types.specs.Canonical.{u16_bytes}
use Rattle.abc_file_types.proofs.Fixed.{u16_fits}
use Rattle.abc_file_types.specs.declared.tables.Abc.{Abc}
use Rattle.abc_file_types.specs.Bodies.{bodies, bodies_alone}
use Rattle.abc_file_types.specs.Classes.{definitions, sizes_of}
use Rattle.abc_file_types.specs.Files.{Fits, file, file_bytes, version}
use Rattle.abc_file_types.specs.Pools.{pools}
use Rattle.abc_file_types.specs.Sizes.{capped_sizes}
use Rattle.abc_file_types.proofs.Whole.{file-canonical}
use Rattle.abc_tables.specs.Fitting.{AreFew, FitBodies, FitDefinitions, FitPools, FitsTables, Spelled, pools_alone, without_bodies}
use Rattle.abc_tables.specs.Lengths.{body_len, definitions_len, file_len, pools_len}
use Rattle.abc_file_types.specs.CodeBytes.{number_len}
use Rattle.abc_file_types.specs.declared.code.Body.{Body}
use Rattle.std.specs.List.{sum_by}
use Rattle.abc_tables.proofs.CanonicalLength.{file-len}
use Rattle.abc_tables.proofs.DefinitionsFit.{definitions_fit}
use Rattle.abc_tables.proofs.PoolsFit.{doubles_fit, ints_fit, multinames_fit, namespace_sets_fit, namespaces_fit, pools_fit, texts_fit, uints_few}

-- ---- what each part leaves as it is

pools_only : (abc : Abc) (b : List ℕ) → pools.spells abc b → abc ≡ pools_alone abc
unfolding pools
pools_only abc b s = subst (λ (a : Abc). a ≡ pools_alone a) (sym s.2) refl

record Kept (abc full : Abc) : Type 0 where
  pools : abc ≡ pools_alone full
  bodies : full ≡ without_bodies full

definitions_only : (abc full : Abc) (b : List ℕ) → (definitions abc).spells full b → abc ≡ pools_alone abc → Kept abc full
unfolding definitions
definitions_only abc full b s alone =
    let y = s.0 in
    let made : Abc → Abc = λ a. record a { methods = y.0; metadata = y.1.0; instances = y.1.1.1.0; classes = y.1.1.1.1.0; scripts = y.1.1.1.1.1 } in
    let kept : Kept abc (made abc) = subst (λ (a : Abc). Kept a (made a)) (sym alone) (record { pools = refl; bodies = refl }) in
    subst (Kept abc) (sym s.2) kept

bodies_only : (full v : Abc) (b : List ℕ) → (bodies_alone full).spells v b → full ≡ without_bodies full → full ≡ without_bodies v
unfolding bodies_alone bodies
bodies_only full v b s alone =
    let is : v ≡ s.0.0 = s.2 in
    let made = ap (λ (y : Abc × List (List ℕ)). y.0) s.1.2 in
    subst (λ (w : Abc). full ≡ without_bodies w) (sym (is ∙ made)) alone

-- ---- the tables

version_spelled : Spelled version (16, 46)
unfolding version
version_spelled = record { bytes = u16_bytes 16 ++ u16_bytes 46; is = (u16_bytes 16, u16_bytes 46, refl, (u16_fits 16 (omega arith), refl), (u16_fits 46 (omega arith), refl)) }

pub tables_fit : (v : Abc) → FitsTables v ↔ (FitPools v × FitDefinitions v × FitBodies v)
unfolding FitsTables FitPools FitDefinitions FitBodies file
tables_fit v = (
  λ s.
      let x = s.is.0 in
      let first = s.is.1.4 in
      let second = first.4 in
      let abc = x.1.0 in
      let full = x.1.1.0 in
      let kept = definitions_only abc full second.0 second.3 (pools_only abc first.0 first.3) in
      let rest = bodies_only full x.1.1.1 second.1 second.4 kept.bodies in
      let whole : full ≡ without_bodies v = rest ∙ ap without_bodies (sym s.is.2) in
      let alone : abc ≡ pools_alone v = kept.pools ∙ ap pools_alone whole in
      let one : Spelled pools abc = record { bytes = first.0; is = first.3 } in
      let two : Spelled (definitions abc) full = record { bytes = second.0; is = second.3 } in
      let three : Spelled (bodies_alone full) x.1.1.1 = record { bytes = second.1; is = second.4 } in (
        subst (Spelled pools) alone one,
        subst (λ (a : Abc). Spelled (definitions a) (without_bodies v)) alone (subst (λ (f : Abc). Spelled (definitions abc) f) whole two),
        subst (λ (f : Abc). Spelled (bodies_alone f) v) whole (subst (λ (w : Abc). Spelled (bodies_alone full) w) (sym s.is.2) three),
      ),
  λ h.
      let n = version_spelled in
      record {
        bytes = n.bytes ++ (h.0.bytes ++ (h.1.bytes ++ h.2.bytes));
        is = (((16, 46), (pools_alone v, (without_bodies v, v))), (n.bytes, _, refl, n.is, (h.0.bytes, _, refl, h.0.is, (h.1.bytes, h.2.bytes, refl, h.1.is, h.2.is))), refl);
      },
)

pub tables_few : (v : Abc) → FitsTables v → AreFew v
tables_few v s =
    let t = (tables_fit v).0 s in
    let p = (pools_fit v).0 t.0 in
    let d = (definitions_fit v).0 t.1 in
    record {
      ints = omega (arith, ((ints_fit v.ints).0 p.ints).0);
      uints = omega (arith, uints_few v.uints p.uints);
      doubles = omega (arith, ((doubles_fit v.doubles).0 p.doubles).0);
      strings = omega (arith, ((texts_fit v.strings).0 p.strings).0);
      namespaces = omega (arith, ((namespaces_fit _ v.namespaces).0 p.namespaces).0);
      sets = omega (arith, ((namespace_sets_fit _ v.sets).0 p.sets).0);
      names = omega (arith, ((multinames_fit _ v.names refl).0 p.names).0);
      methods = d.method_count;
      metadata = d.metadata_count;
      classes = d.class_count;
    }

-- sizes below 2^30 are told as they are
pub few_told : (v : Abc) → AreFew v → capped_sizes (sizes_of v) ≡ sizes_of v
few_told v few =
    let told : (n : ℕ) → n < 2 ^ 30 → min n (2 ^ 30) ≡ n = λ n lt. omega arith in
    rw (
      told (length v.ints) few.ints,
      told (length v.uints) few.uints,
      told (length v.doubles) few.doubles,
      told (length v.strings) few.strings,
      told (length v.namespaces) few.namespaces,
      told (length v.sets) few.sets,
      told (length v.names) few.names,
      told (length v.methods) few.methods,
      told (length v.metadata) few.metadata,
      told (length v.classes) few.classes,
    ) refl

-- ---- the whole file

pub file_fits : (v : Abc) → Fits v ↔ ((file_len v ≤ 2 ^ 24) × FitsTables v)
unfolding FitsTables
file_fits v = (
  λ f.
      let least = file-canonical.shortest v f.0 (f.1).0 in
      (omega (arith, file-len v, least, (f.1).1), record { bytes = f.0; is = (f.1).0 }),
  λ h. (file_bytes v, (file-canonical.spelled v h.1.bytes h.1.is, omega (arith, file-len v, h.0))),
)

pub few_in : (v : Abc) → Fits v → AreFew v
few_in v f = tables_few v ((file_fits v).0 f).1

pub parts_in : (v : Abc) → Fits v → FitPools v × FitDefinitions v
parts_in v f = let t = (tables_fit v).0 ((file_fits v).0 f).1 in (t.0, t.1)

pub whole_fits : (v : Abc) → FitPools v → FitDefinitions v → Fits v ↔ ((file_len v ≤ 2 ^ 24) × FitBodies v)
whole_fits v p d = (
  λ f. let h = (file_fits v).0 f in (h.0, ((tables_fit v).0 h.1).2),
  λ h. (file_fits v).1 (h.0, (tables_fit v).1 (p, d, h.1)),
)

pub total_len : (v : Abc) (bs : List Body) (before len all : ℕ) → bs ≡ v.bodies → before ≡ min (4 + pools_len v + definitions_len v + number_len (length v.bodies)) (2 ^ 64 - 1) → len ≡ min (sum_by body_len bs) (2 ^ 64 - 1) → all ≡ min (before + len) (2 ^ 64 - 1)
    → all ≡ min (file_len v) (2 ^ 64 - 1)
unfolding file_len
total_len v bs before len all e b l a = let sum : sum_by body_len bs ≡ sum_by body_len v.bodies = ap (sum_by body_len) e in omega (arith, b, l, a, sum)
