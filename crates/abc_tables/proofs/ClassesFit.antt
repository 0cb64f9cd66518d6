-- Which instances, classes and scripts some bytes spell, and which definitions as a whole.
use Rattle.std.proofs.Common.{◌≡◌, ℕ, ◌^◌, ◌<◌, true, false, [], ◌∷◌, ◌++◌, length, Some, None, refl, sym, subst, ◌∙◌}
use Rattle.std.specs.Prelude.{◌↔◌, All}
use Rattle.std.specs.declared.option.Option.{Option}
use Rattle.abc_file_types.specs.Numbers.{entry_index, pool_index, u8}
use Rattle.abc_file_types.specs.Part.{image}
use Rattle.abc_file_types.specs.declared.classes.ClassInfo.{ClassInfo}
use Rattle.abc_file_types.specs.declared.classes.Instance.{Instance}
use Rattle.abc_file_types.specs.declared.classes.Script.{Script}
use Rattle.abc_file_types.specs.declared.tables.Sizes.{Sizes}
use Rattle.abc_file_types.specs.Classes.{class_info, instance, script, some_index}
use Rattle.abc_file_types.specs.Methods.{has_flag}
use Rattle.abc_tables.specs.Fitting.{FitTraits, FitsClass, FitsInstance, FitsProtected, FitsScript, IsEntryIndex, IsPoolIndex, IsPosition, Spelled}
use Rattle.abc_tables.proofs.Combined.{asked, counted_spelled, image_spelled, unasked}

-- ---- the protected namespace

some_in : (n : ℕ) (o : Option ℕ) (x : ℕ) → Spelled (image some_index (pool_index n)) o → o ≡ Some x → IsPoolIndex n x
unfolding IsPoolIndex
some_in n o x s e =
    let is : Some x ≡ Some s.is.0 = sym e ∙ s.is.2 in
    let same : s.is.0 ≡ x = cc in
    subst (Spelled (pool_index n)) same (record { bytes = s.bytes; is = s.is.1 })

none_in : (n : ℕ) (o : Option ℕ) → Spelled (image some_index (pool_index n)) o → o ≡ None → ⊥
none_in n o s e = let is : None ≡ Some s.is.0 = sym e ∙ s.is.2 in cc

pub protected_asked : (v : Sizes) (i : Instance) (x : ℕ) → has_flag i.flags 0x08 ≡ true → i.protected_ns ≡ Some x → FitsProtected v i ↔ IsPoolIndex v.namespaces x
unfolding FitsProtected IsPoolIndex
protected_asked v i x e is =
    let a = asked (has_flag i.flags 0x08) None i.protected_ns (image some_index (pool_index v.namespaces)) e in
    (λ s. some_in v.namespaces i.protected_ns x (a.0 s) is, λ h. a.1 (image_spelled some_index (pool_index v.namespaces) x i.protected_ns is h))

pub protected_missing : (v : Sizes) (i : Instance) → has_flag i.flags 0x08 ≡ true → i.protected_ns ≡ None → FitsProtected v i → ⊥
unfolding FitsProtected
protected_missing v i e is s = none_in v.namespaces i.protected_ns ((asked (has_flag i.flags 0x08) None i.protected_ns (image some_index (pool_index v.namespaces)) e).0 s) is

pub protected_unasked : (v : Sizes) (i : Instance) → has_flag i.flags 0x08 ≡ false → FitsProtected v i ↔ (i.protected_ns ≡ None)
unfolding FitsProtected
protected_unasked v i e = unasked (has_flag i.flags 0x08) None i.protected_ns (image some_index (pool_index v.namespaces)) e

-- ---- instances, classes and scripts

abbrev pub InstanceFits : Sizes → Instance → Type 0
InstanceFits v i = IsEntryIndex v.names i.name × IsPoolIndex v.names i.super_name × FitsProtected v i × (length i.interfaces < 2 ^ 30) × All (IsEntryIndex v.names) i.interfaces × IsPosition v.methods i.iinit × FitTraits v i.traits

pub instance_fits : (v : Sizes) (i : Instance) → FitsInstance v i ↔ InstanceFits v i
unfolding FitsInstance FitsProtected FitTraits IsEntryIndex IsPoolIndex IsPosition instance u8
instance_fits v i = (
  λ s.
      let x = s.is.0 in
      let name = s.is.1 in
      let base = name.4 in
      let flags = base.4 in
      let space = flags.4 in
      let faces = space.4 in
      let init = faces.4 in
      let listed = (counted_spelled (entry_index v.names) x.1.1.1.1.0).0 (record { bytes = faces.0; is = faces.3 }) in
      subst (InstanceFits v) (sym s.is.2) (
        record { bytes = name.0; is = name.3 },
        record { bytes = base.0; is = base.3 },
        record { bytes = space.0; is = space.3 },
        listed.0,
        listed.1,
        record { bytes = init.0; is = init.3 },
        record { bytes = init.1; is = init.4 },
      ),
  λ h.
      let faces = (counted_spelled (entry_index v.names) i.interfaces).1 (h.3, h.4) in
      record {
        bytes = h.0.bytes ++ (h.1.bytes ++ (i.flags ∷ [] ++ (h.2.bytes ++ (faces.bytes ++ (h.5.bytes ++ h.6.bytes)))));
        is = (
          (i.name, (i.super_name, (i.flags, (i.protected_ns, (i.interfaces, (i.iinit, i.traits)))))),
          (h.0.bytes, _, refl, h.0.is, (h.1.bytes, _, refl, h.1.is, (i.flags ∷ [], _, refl, refl, (h.2.bytes, _, refl, h.2.is, (faces.bytes, _, refl, faces.is, (h.5.bytes, h.6.bytes, refl, h.5.is, h.6.is)))))),
          refl,
        );
      },
)

abbrev pub ClassFits : Sizes → ClassInfo → Type 0
ClassFits v c = IsPosition v.methods c.cinit × FitTraits v c.traits

pub class_fits : (v : Sizes) (c : ClassInfo) → FitsClass v c ↔ ClassFits v c
unfolding FitsClass FitTraits IsPosition class_info
class_fits v c = (
  λ s. let t = s.is.1 in subst (ClassFits v) (sym s.is.2) (record { bytes = t.0; is = t.3 }, record { bytes = t.1; is = t.4 }),
  λ h. record { bytes = h.0.bytes ++ h.1.bytes; is = ((c.cinit, c.traits), (h.0.bytes, h.1.bytes, refl, h.0.is, h.1.is), refl) },
)

abbrev pub ScriptFits : Sizes → Script → Type 0
ScriptFits v s = IsPosition v.methods s.init × FitTraits v s.traits

pub script_fits : (v : Sizes) (s : Script) → FitsScript v s ↔ ScriptFits v s
unfolding FitsScript FitTraits IsPosition script
script_fits v c = (
  λ s. let t = s.is.1 in subst (ScriptFits v) (sym s.is.2) (record { bytes = t.0; is = t.3 }, record { bytes = t.1; is = t.4 }),
  λ h. record { bytes = h.0.bytes ++ h.1.bytes; is = ((c.init, c.traits), (h.0.bytes, h.1.bytes, refl, h.0.is, h.1.is), refl) },
)
