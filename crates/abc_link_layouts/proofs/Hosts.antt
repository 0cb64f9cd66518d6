-- The classes of the host have the first layouts.
use Rattle.std.proofs.Common.{◌≡◌, ℕ, zero, suc, ◌<◌, List, [], ◌∷◌, ◌++◌, All, Contains, Some, None, map, length, take, get_or, refl, sym, subst, arith, lit<}
use Rattle.std.proofs.lemmas.List.{get_or-map, length-map}
use Rattle.abc_base.specs.Names.{host_classes}
use Rattle.abc_base.specs.declared.names.HostClass.{HostClass}
use Rattle.abc_base.specs.declared.names.HostClass.TheVariants as hosts
use Rattle.abc_file_types.specs.declared.tables.Abc.{Abc}
use Rattle.abc_link_names.specs.Numbering.{IsNumberedBehind, part_at}
use Rattle.abc_link_names.specs.Parts.{HasLayout, host_parent, parent}
use Rattle.abc_link_names.specs.declared.part.Part.{Part}
use Rattle.abc_link_names.specs.declared.part.Part.TheVariants as parts
use Rattle.abc_link_layouts.proofs.Adding.{HasHosts, contains_map}

pub host_known : (h : HostClass) → Contains host_classes h
host_known hosts.Object = (0, lit< tt, refl)
host_known hosts.Class = (1, lit< tt, refl)
host_known hosts.Function = (2, lit< tt, refl)
host_known hosts.Namespace = (3, lit< tt, refl)
host_known hosts.Str = (4, lit< tt, refl)
host_known hosts.Int = (5, lit< tt, refl)
host_known hosts.UInt = (6, lit< tt, refl)
host_known hosts.Number = (7, lit< tt, refl)
host_known hosts.Boolean = (8, lit< tt, refl)
host_known hosts.Error = (9, lit< tt, refl)
host_known hosts.TypeError = (10, lit< tt, refl)
host_known hosts.ReferenceError = (11, lit< tt, refl)
host_known hosts.ArgumentError = (12, lit< tt, refl)
host_known hosts.Array = (13, lit< tt, refl)

abbrev pub host_parts : List Part
host_parts = map (λ h. parts.Host h) host_classes

pub has_hosts : HasHosts host_parts
has_hosts = record { has = λ h. contains_map (λ x. parts.Host x) host_classes h (host_known h) }

pub hosts_only : (v : Abc) → All (HasLayout v) host_parts
hosts_only v = λ k d lt.
    let f : HostClass → Part = λ h. parts.Host h in
    subst (HasLayout v) (sym (get_or-map f host_classes k hosts.Object d (omega (arith, length-map host_classes f)))) tt

behind : (v : Abc) (x : ℕ) (q : Part) → x < length host_parts → parent v (part_at host_parts x) ≡ Some q → Contains (take x host_parts) q
behind v zero q lt e = cc
behind v (suc zero) q lt e = let same : parts.Host hosts.Object ≡ q = cc in subst (Contains (take 1 host_parts)) same (0, lit< tt, refl)
behind v (suc (suc zero)) q lt e = let same : parts.Host hosts.Object ≡ q = cc in subst (Contains (take 2 host_parts)) same (0, lit< tt, refl)
behind v (suc (suc (suc zero))) q lt e = let same : parts.Host hosts.Object ≡ q = cc in subst (Contains (take 3 host_parts)) same (0, lit< tt, refl)
behind v (suc (suc (suc (suc zero)))) q lt e = let same : parts.Host hosts.Object ≡ q = cc in subst (Contains (take 4 host_parts)) same (0, lit< tt, refl)
behind v (suc (suc (suc (suc (suc zero))))) q lt e = let same : parts.Host hosts.Object ≡ q = cc in subst (Contains (take 5 host_parts)) same (0, lit< tt, refl)
behind v (suc (suc (suc (suc (suc (suc zero)))))) q lt e = let same : parts.Host hosts.Object ≡ q = cc in subst (Contains (take 6 host_parts)) same (0, lit< tt, refl)
behind v (suc (suc (suc (suc (suc (suc (suc zero))))))) q lt e = let same : parts.Host hosts.Object ≡ q = cc in subst (Contains (take 7 host_parts)) same (0, lit< tt, refl)
behind v (suc (suc (suc (suc (suc (suc (suc (suc zero)))))))) q lt e = let same : parts.Host hosts.Object ≡ q = cc in subst (Contains (take 8 host_parts)) same (0, lit< tt, refl)
behind v (suc (suc (suc (suc (suc (suc (suc (suc (suc zero))))))))) q lt e = let same : parts.Host hosts.Object ≡ q = cc in subst (Contains (take 9 host_parts)) same (0, lit< tt, refl)
behind v (suc (suc (suc (suc (suc (suc (suc (suc (suc (suc zero)))))))))) q lt e = let same : parts.Host hosts.Error ≡ q = cc in subst (Contains (take 10 host_parts)) same (9, lit< tt, refl)
behind v (suc (suc (suc (suc (suc (suc (suc (suc (suc (suc (suc zero))))))))))) q lt e = let same : parts.Host hosts.Error ≡ q = cc in subst (Contains (take 11 host_parts)) same (9, lit< tt, refl)
behind v (suc (suc (suc (suc (suc (suc (suc (suc (suc (suc (suc (suc zero)))))))))))) q lt e = let same : parts.Host hosts.Error ≡ q = cc in subst (Contains (take 12 host_parts)) same (9, lit< tt, refl)
behind v (suc (suc (suc (suc (suc (suc (suc (suc (suc (suc (suc (suc (suc zero))))))))))))) q lt e = let same : parts.Host hosts.Object ≡ q = cc in subst (Contains (take 13 host_parts)) same (0, lit< tt, refl)
behind v (suc (suc (suc (suc (suc (suc (suc (suc (suc (suc (suc (suc (suc (suc x)))))))))))))) q lt e = absurd (omega arith)

pub hosts_behind : (v : Abc) → IsNumberedBehind v host_parts
hosts_behind v = record { behind = behind v }
