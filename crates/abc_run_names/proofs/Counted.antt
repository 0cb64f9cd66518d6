-- How many parts a name takes at run time.
use Rattle.std.proofs.Common.{◌≡◌, ◌∙◌, ℕ, Bool, true, false, refl, sym, ap}
use Rattle.std.specs.Prelude.{if◌then◌else◌}
use Rattle.abc_file_types.specs.declared.names.Multiname.{Multiname}
use Rattle.abc_file_types.specs.declared.names.Multiname.TheVariants as names
use Rattle.abc_meaning.specs.Setting.{Setting, name_form}
use Rattle.abc_run_names.specs.Named.{name_parts_count}

abbrev taken : Setting → Multiname → ℕ
taken p m = name_parts_count (name_form p m)

abbrev unless : Bool → ℕ → ℕ
unless b n = if b then 0 else n

pub qname_takes : (p : Setting) (m : Multiname) (b : Bool) (ns i : ℕ) → m ≡ names.QName b ns i → 0 ≡ taken p m
qname_takes p m b ns i is = go b ∙ ap (taken p) (sym is)
  where
    go : (c : Bool) → 0 ≡ taken p (names.QName c ns i)
    go true = refl
    go false = refl

pub multi_takes : (p : Setting) (m : Multiname) (b : Bool) (i set : ℕ) → m ≡ names.Multi b i set → 0 ≡ taken p m
multi_takes p m b i set is = go b ∙ ap (taken p) (sym is)
  where
    go : (c : Bool) → 0 ≡ taken p (names.Multi c i set)
    go true = refl
    go false = refl

pub rt_takes : (p : Setting) (m : Multiname) (b : Bool) (i r : ℕ) → m ≡ names.Rt b i → r ≡ unless b 1 → r ≡ taken p m
rt_takes p m b i r is e = e ∙ go b ∙ ap (taken p) (sym is)
  where
    go : (c : Bool) → unless c 1 ≡ taken p (names.Rt c i)
    go true = refl
    go false = refl

pub multi_late_takes : (p : Setting) (m : Multiname) (b : Bool) (set r : ℕ) → m ≡ names.MultiL b set → r ≡ unless b 1 → r ≡ taken p m
multi_late_takes p m b set r is e = e ∙ go b ∙ ap (taken p) (sym is)
  where
    go : (c : Bool) → unless c 1 ≡ taken p (names.MultiL c set)
    go true = refl
    go false = refl

pub rt_late_takes : (p : Setting) (m : Multiname) (b : Bool) (r : ℕ) → m ≡ names.RtL b → r ≡ unless b 2 → r ≡ taken p m
rt_late_takes p m b r is e = e ∙ go b ∙ ap (taken p) (sym is)
  where
    go : (c : Bool) → unless c 2 ≡ taken p (names.RtL c)
    go true = refl
    go false = refl
