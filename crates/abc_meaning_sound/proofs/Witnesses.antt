-- What the verified files of the examples share: the layouts of the host, and the states of a body without branches.
use Rattle.std.proofs.Common.{◌≡◌, ℕ, zero, suc, ◌≤◌, ◌<◌, List, [], ◌∷◌, ◌++◌, length, take, map, get_or, refl, sym, ap, subst, ◌∙◌, append_assoc, arith}
use Rattle.std.proofs.lemmas.List.{append-nil, get_or-map}
use Rattle.std.proofs.lemmas.List.FromFn.{get_or-range_with_len}
use Rattle.std.specs.Prelude.{◌^◌, All, Contains, Ok, Some, None}
use Rattle.std.specs.List.{range_with_len}
use Rattle.std.specs.declared.option.Option.{Option}
use Rattle.abc_base.specs.Names.{host_classes}
use Rattle.abc_base.specs.declared.names.HostClass.{HostClass}
use Rattle.abc_base.specs.declared.names.HostClass.TheVariants as hosts
use Rattle.abc_file_types.specs.declared.tables.Abc.{Abc}
use Rattle.abc_file_types.specs.Files.{Fits, file}
use Rattle.abc_file_types.specs.Part.{at_of}
use Rattle.abc_file_types.proofs.Whole.{file-exact}
use Rattle.abc_link_names.specs.Linked.{LinkedFile}
use Rattle.abc_link_names.specs.Numbering.{IsNumbering, part_at}
use Rattle.abc_link_names.specs.Parts.{HasLayout, parent}
use Rattle.abc_link_names.specs.Places.{place_of_part}
use Rattle.abc_link_names.specs.declared.part.Part.{Part}
use Rattle.abc_link_names.specs.declared.part.Part.TheVariants as parts
use Rattle.abc_verify_typing.specs.Lists.{Each}
use Rattle.abc_verify_typing.specs.Routines.{Routine}
use Rattle.abc_verify_typing.specs.Rules.{follows}
use Rattle.abc_verify_typing.specs.Typing.{entry}
use Rattle.abc_verify_typing.specs.declared.state.State.{State}
use Rattle.abc_verify_typing.proofs.Examples.{pick}

-- a file fits that so many bytes are read as
pub fits_by : (bytes : List ℕ) (v : Abc) (n : ℕ) → n ≤ 2 ^ 24 → file.reads (at_of 0 bytes) ≡ Ok (v, at_of n []) → Fits v
fits_by bytes v n few is_read = let b = file-exact.found (at_of 0 bytes) v (at_of n []) (omega arith) is_read in let place = b.is.place in (b.front, (b.spelled, omega (arith, place, few)))

-- ---- layouts: those of the host, and those of the file behind them

abbrev pub with_host : List Part → List Part
with_host more = map (λ c. parts.Host c) host_classes ++ map (λ c. parts.HostClassObject c) host_classes ++ more

pub host_there : (more : List Part) (c : HostClass) → Contains (with_host more) (parts.Host c)
host_there more hosts.Object = (0, omega arith, refl)
host_there more hosts.Class = (1, omega arith, refl)
host_there more hosts.Function = (2, omega arith, refl)
host_there more hosts.Namespace = (3, omega arith, refl)
host_there more hosts.Str = (4, omega arith, refl)
host_there more hosts.Int = (5, omega arith, refl)
host_there more hosts.UInt = (6, omega arith, refl)
host_there more hosts.Number = (7, omega arith, refl)
host_there more hosts.Boolean = (8, omega arith, refl)
host_there more hosts.Error = (9, omega arith, refl)
host_there more hosts.TypeError = (10, omega arith, refl)
host_there more hosts.ReferenceError = (11, omega arith, refl)
host_there more hosts.ArgumentError = (12, omega arith, refl)
host_there more hosts.Array = (13, omega arith, refl)

pub class_object_there : (more : List Part) (c : HostClass) → Contains (with_host more) (parts.HostClassObject c)
class_object_there more hosts.Object = (14, omega arith, refl)
class_object_there more hosts.Class = (15, omega arith, refl)
class_object_there more hosts.Function = (16, omega arith, refl)
class_object_there more hosts.Namespace = (17, omega arith, refl)
class_object_there more hosts.Str = (18, omega arith, refl)
class_object_there more hosts.Int = (19, omega arith, refl)
class_object_there more hosts.UInt = (20, omega arith, refl)
class_object_there more hosts.Number = (21, omega arith, refl)
class_object_there more hosts.Boolean = (22, omega arith, refl)
class_object_there more hosts.Error = (23, omega arith, refl)
class_object_there more hosts.TypeError = (24, omega arith, refl)
class_object_there more hosts.ReferenceError = (25, omega arith, refl)
class_object_there more hosts.ArgumentError = (26, omega arith, refl)
class_object_there more hosts.Array = (27, omega arith, refl)

-- what is so of each element, by its place
each_all : {X : Type 0} (P : X → Type 0) (xs : List X) → Each P xs → All P xs
each_all P [] h k d low = absurd (omega (arith, low))
each_all P (x ∷ xs) h zero d low = h.0
each_all P (x ∷ xs) h (suc k) d low = each_all P xs h.1 k d (omega (arith, low))

abbrev pub IsAmong : List Part → Option Part → Type 0
IsAmong front None = Unit {0}
IsAmong front (Some q) = Contains front q

-- what each stands under is among those before it
abbrev pub Behind : Abc → List Part → List Part → Type 0
Behind v front [] = Unit {0}
Behind v front (x ∷ xs) = IsAmong front (parent v x) × Behind v (front ++ x ∷ []) xs

behind_at : (v : Abc) (front xs : List Part) (x : ℕ) (q : Part) → Behind v front xs → x < length xs → parent v (part_at xs x) ≡ Some q → Contains (front ++ take x xs) q
behind_at v front [] x q h low e = absurd (omega (arith, low))
behind_at v front (y ∷ ys) zero q h low e = subst (λ (zs : List Part). Contains zs q) (sym (append-nil front)) (subst (IsAmong front) e h.0)
behind_at v front (y ∷ ys) (suc x) q h low e = subst (λ (zs : List Part). Contains zs q) (append_assoc front (y ∷ []) (take x ys)) (behind_at v (front ++ y ∷ []) ys x q h.1 (omega (arith, low)) e)

module _ (v : Abc) (more : List Part) where
  abbrev pub all : List Part
  all = with_host more

  all_behind : Behind v (with_host []) more → Behind v [] all
  all_behind h = (tt, ((0, omega arith, refl), ((0, omega arith, refl), ((0, omega arith, refl), ((0, omega arith, refl), ((0, omega arith, refl), ((0, omega arith, refl), ((0, omega arith, refl), ((0, omega arith, refl), ((0, omega arith, refl), ((9, omega arith, refl), ((9, omega arith, refl), ((9, omega arith, refl), ((0, omega arith, refl), ((1, omega arith, refl), ((1, omega arith, refl), ((1, omega arith, refl), ((1, omega arith, refl), ((1, omega arith, refl), ((1, omega arith, refl), ((1, omega arith, refl), ((1, omega arith, refl), ((1, omega arith, refl), ((1, omega arith, refl), ((1, omega arith, refl), ((1, omega arith, refl), ((1, omega arith, refl), ((1, omega arith, refl), h))))))))))))))))))))))))))))

  all_have : Each (HasLayout v) more → Each (HasLayout v) all
  all_have h = (tt, (tt, (tt, (tt, (tt, (tt, (tt, (tt, (tt, (tt, (tt, (tt, (tt, (tt, (tt, (tt, (tt, (tt, (tt, (tt, (tt, (tt, (tt, (tt, (tt, (tt, (tt, (tt, h))))))))))))))))))))))))))))

  module _ (places : map (place_of_part all) all ≡ range_with_len 0 (length all)) where
    place_is : (x : ℕ) → x < length all → place_of_part all (part_at all x) ≡ x
    place_is x low = let e = sym (get_or-map (place_of_part all) all x (parts.Host hosts.Object) 0 low) ∙ ap (λ (ns : List ℕ). get_or ns x 0) places ∙ get_or-range_with_len 0 (length all) x 0 low in omega (arith, e)

    apart : (x y : ℕ) → x < y → y < length all → part_at all x ≡ part_at all y → ⊥
    apart x y less low e = let a = place_is x (omega (arith, less, low)) in let b = place_is y low in let same = ap (place_of_part all) e in omega (arith, a, b, same, less)

    -- the file's own layouts, each behind what it stands under
    pub numbering : ((x : Part) → HasLayout v x → Contains all x) → Each (HasLayout v) more → Behind v (with_host []) more → IsNumbering v all
    numbering every have behind = record { every = every; only = each_all (HasLayout v) all (all_have have); behind = record { behind = λ x q low e. behind_at v [] all x q (all_behind behind) low e }; apart = apart }

-- ---- bodies: from a place on the states that follow one another

abbrev pub from : LinkedFile → Routine → ℕ → Option (ℕ × State) → List (Option State)
from p m zero o = []
from p m (suc n) None = None ∷ from p m n None
from p m (suc n) (Some x) = Some x.1 ∷ from p m n (pick 0 (follows p m x.0 x.1))

-- from the entry on
abbrev pub states : LinkedFile → Routine → ℕ → List (Option State)
states p m n = from p m n (Some (0, entry m))
