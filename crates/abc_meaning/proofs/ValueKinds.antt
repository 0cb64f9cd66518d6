-- Values of kinds, and values of types.
use Rattle.std.proofs.Common.{◌≡◌, ◌≤◌, ℕ, zero, suc, true, List, [], ◌∷◌, refl, sym, subst, arith}
use Rattle.std.proofs.lemmas.Bool.{false≢true}
use Rattle.abc_base.specs.declared.names.HostClass.TheVariants as hosts
use Rattle.abc_heap_values.specs.declared.values.Value.{Value}
use Rattle.abc_heap_values.specs.declared.values.Value.TheVariants as values
use Rattle.abc_heap_store.specs.Heap.{Heap, object_at}
use Rattle.abc_objects.specs.Values.{Exists, IsValueOf}
use Rattle.abc_link_names.specs.Kinds.{IsAtMost}
use Rattle.abc_link_names.specs.Linked.{IsLinkedFile, LinkedFile, above, layout_of}
use Rattle.abc_link_names.specs.Tree.{IsBelow}
use Rattle.abc_link_names.specs.Types.{kind_of_type}
use Rattle.abc_link_names.specs.declared.part.LayoutId.{LayoutId}
use Rattle.abc_link_names.specs.declared.part.Part.TheVariants as parts
use Rattle.abc_link_names.specs.declared.types.Kind.{Kind}
use Rattle.abc_link_names.specs.declared.types.Kind.TheVariants as kinds
use Rattle.abc_link_names.specs.declared.types.Ty.{Ty}
use Rattle.abc_link_names.specs.declared.types.Ty.TheVariants as types
use Rattle.abc_link_names.proofs.Tree.{above_le, below_trans, below_up}
use Rattle.abc_verify_typing.specs.Lists.{Each2}
use Rattle.abc_verify_typing.proofs.Good.{good}
use Rattle.abc_verify_typing.proofs.Reaching.{below_reached}
use Rattle.abc_meaning.specs.Types.{is_of_type}
use Rattle.abc_meaning.specs.Sound.{IsOfKind}

-- ---- a value of a kind is of the kinds above it

only_null : (l : LinkedFile) (h : Heap) (v : Value) → IsValueOf l h kinds.Null v → v ≡ values.Null
only_null l h values.Null b = refl
only_null l h values.Undefined b = absurd b
only_null l h (values.Num n) b = absurd b
only_null l h (values.Bool c) b = absurd b
only_null l h (values.Text s) b = absurd b
only_null l h (values.Space n) b = absurd b
only_null l h (values.Obj o) b = absurd b

object_up : (l : LinkedFile) (h : Heap) (x y : LayoutId) (v : Value) → IsBelow l x.0 y.0 → IsValueOf l h (kinds.Obj x) v → IsValueOf l h (kinds.Obj y) v
object_up l h x y values.Null a b = tt
object_up l h x y (values.Obj o) a b = (b.0, below_trans l (object_at h.objects o.0).layout x.0 y.0 b.1 a)
object_up l h x y values.Undefined a b = absurd b
object_up l h x y (values.Num n) a b = absurd b
object_up l h x y (values.Bool c) a b = absurd b
object_up l h x y (values.Text s) a b = absurd b
object_up l h x y (values.Space n) a b = absurd b

holds_up : (l : LinkedFile) (h : Heap) (k m : Kind) (v : Value) → IsAtMost l k m → IsValueOf l h k v → IsValueOf l h m v
holds_up l h k kinds.Any v a b = tt
holds_up l h kinds.Undef kinds.Undef v a b = b
holds_up l h kinds.Null kinds.Null v a b = b
holds_up l h kinds.Num kinds.Num v a b = b
holds_up l h kinds.Bool kinds.Bool v a b = b
holds_up l h kinds.Text kinds.Text v a b = b
holds_up l h kinds.Space kinds.Space v a b = b
holds_up l h kinds.Null kinds.Text v a b = subst (λ w. IsValueOf l h kinds.Text w) (sym (only_null l h v b)) tt
holds_up l h kinds.Null kinds.Space v a b = subst (λ w. IsValueOf l h kinds.Space w) (sym (only_null l h v b)) tt
holds_up l h kinds.Null (kinds.Obj y) v a b = subst (λ w. IsValueOf l h (kinds.Obj y) w) (sym (only_null l h v b)) tt
holds_up l h (kinds.Obj x) (kinds.Obj y) v a b = object_up l h x y v a b
holds_up l h k m v a b = absurd a

pub kind_up : (l : LinkedFile) (h : Heap) (k m : Kind) (v : Value) → IsAtMost l k m → IsOfKind l h k v → IsOfKind l h m v
kind_up l h k m v a b = record { exists = b.exists; kind = holds_up l h k m v a b.kind }

pub kinds_up : (l : LinkedFile) (h : Heap) (ks ms : List Kind) (vs : List Value) → Each2 (IsAtMost l) ks ms → Each2 (IsOfKind l h) ks vs → Each2 (IsOfKind l h) ms vs
kinds_up l h [] [] [] a b = tt
kinds_up l h (k ∷ ks) (m ∷ ms) (v ∷ vs) (a, more) (b, rest) = (kind_up l h k m v a b, kinds_up l h ks ms vs more rest)
kinds_up l h [] (m ∷ ms) vs a b = absurd a
kinds_up l h (k ∷ ks) [] vs a b = absurd a
kinds_up l h [] [] (v ∷ vs) a b = absurd b
kinds_up l h (k ∷ ks) (m ∷ ms) [] a b = absurd b

-- ---- a value of a type is of its kind

-- all layouts are below that of Object's instances
below_first : (l : LinkedFile) → IsLinkedFile l → (fuel x : ℕ) → x ≤ fuel → IsBelow l x 0
below_first l f zero x le = let same : x ≡ 0 = omega arith in record { steps = 0; climb = same }
below_first l f (suc fuel) x le = let up = above_le l f x in below_up l x 0 (below_first l f fuel (above l x) (omega arith))

pub below_object : (l : LinkedFile) → IsLinkedFile l → (x : ℕ) → IsBelow l x (layout_of l (parts.Host hosts.Object)).0
below_object l f x = let g = good l f in let low : x ≤ x = omega arith in subst (λ y. IsBelow l x y) (sym g.root) (below_first l f x x low)

-- the test of each type fails at values of other sorts
pub type_holds : (l : LinkedFile) (h : Heap) (t : Ty) (v : Value) → IsLinkedFile l → Exists l h v → is_of_type l h t v ≡ true → IsValueOf l h (kind_of_type l t) v
type_holds l h types.Any v f x e = tt
type_holds l h types.Object v f x e = tt
type_holds l h types.Void values.Undefined f x e = tt
type_holds l h types.Void values.Null f x e = absurd (false≢true e)
type_holds l h types.Void (values.Num n) f x e = absurd (false≢true e)
type_holds l h types.Void (values.Bool c) f x e = absurd (false≢true e)
type_holds l h types.Void (values.Text s) f x e = absurd (false≢true e)
type_holds l h types.Void (values.Space n) f x e = absurd (false≢true e)
type_holds l h types.Void (values.Obj o) f x e = absurd (false≢true e)
type_holds l h types.Int values.Undefined f x e = absurd (false≢true e)
type_holds l h types.Int values.Null f x e = absurd (false≢true e)
type_holds l h types.Int (values.Num n) f x e = tt
type_holds l h types.Int (values.Bool c) f x e = absurd (false≢true e)
type_holds l h types.Int (values.Text s) f x e = absurd (false≢true e)
type_holds l h types.Int (values.Space n) f x e = absurd (false≢true e)
type_holds l h types.Int (values.Obj o) f x e = absurd (false≢true e)
type_holds l h types.UInt values.Undefined f x e = absurd (false≢true e)
type_holds l h types.UInt values.Null f x e = absurd (false≢true e)
type_holds l h types.UInt (values.Num n) f x e = tt
type_holds l h types.UInt (values.Bool c) f x e = absurd (false≢true e)
type_holds l h types.UInt (values.Text s) f x e = absurd (false≢true e)
type_holds l h types.UInt (values.Space n) f x e = absurd (false≢true e)
type_holds l h types.UInt (values.Obj o) f x e = absurd (false≢true e)
type_holds l h types.Number values.Undefined f x e = absurd (false≢true e)
type_holds l h types.Number values.Null f x e = absurd (false≢true e)
type_holds l h types.Number (values.Num n) f x e = tt
type_holds l h types.Number (values.Bool c) f x e = absurd (false≢true e)
type_holds l h types.Number (values.Text s) f x e = absurd (false≢true e)
type_holds l h types.Number (values.Space n) f x e = absurd (false≢true e)
type_holds l h types.Number (values.Obj o) f x e = absurd (false≢true e)
type_holds l h types.Boolean values.Undefined f x e = absurd (false≢true e)
type_holds l h types.Boolean values.Null f x e = absurd (false≢true e)
type_holds l h types.Boolean (values.Num n) f x e = absurd (false≢true e)
type_holds l h types.Boolean (values.Bool c) f x e = tt
type_holds l h types.Boolean (values.Text s) f x e = absurd (false≢true e)
type_holds l h types.Boolean (values.Space n) f x e = absurd (false≢true e)
type_holds l h types.Boolean (values.Obj o) f x e = absurd (false≢true e)
type_holds l h types.Text values.Undefined f x e = absurd (false≢true e)
type_holds l h types.Text values.Null f x e = absurd (false≢true e)
type_holds l h types.Text (values.Num n) f x e = absurd (false≢true e)
type_holds l h types.Text (values.Bool c) f x e = absurd (false≢true e)
type_holds l h types.Text (values.Text s) f x e = tt
type_holds l h types.Text (values.Space n) f x e = absurd (false≢true e)
type_holds l h types.Text (values.Obj o) f x e = absurd (false≢true e)
type_holds l h types.Space values.Undefined f x e = absurd (false≢true e)
type_holds l h types.Space values.Null f x e = absurd (false≢true e)
type_holds l h types.Space (values.Num n) f x e = absurd (false≢true e)
type_holds l h types.Space (values.Bool c) f x e = absurd (false≢true e)
type_holds l h types.Space (values.Text s) f x e = absurd (false≢true e)
type_holds l h types.Space (values.Space n) f x e = tt
type_holds l h types.Space (values.Obj o) f x e = absurd (false≢true e)
type_holds l h (types.Of y) values.Undefined f x e = absurd (false≢true e)
type_holds l h (types.Of y) values.Null f x e = absurd (false≢true e)
type_holds l h (types.Of y) (values.Num n) f x e = absurd (false≢true e)
type_holds l h (types.Of y) (values.Bool c) f x e = absurd (false≢true e)
type_holds l h (types.Of y) (values.Text s) f x e = absurd (false≢true e)
type_holds l h (types.Of y) (values.Space n) f x e = absurd (false≢true e)
type_holds l h (types.Of y) (values.Obj o) f x e = (x, below_reached l (object_at h.objects o.0).layout (object_at h.objects o.0).layout y.0 e)
type_holds l h (types.Interface k) values.Undefined f x e = absurd (false≢true e)
type_holds l h (types.Interface k) values.Null f x e = absurd (false≢true e)
type_holds l h (types.Interface k) (values.Num n) f x e = absurd (false≢true e)
type_holds l h (types.Interface k) (values.Bool c) f x e = absurd (false≢true e)
type_holds l h (types.Interface k) (values.Text s) f x e = absurd (false≢true e)
type_holds l h (types.Interface k) (values.Space n) f x e = absurd (false≢true e)
type_holds l h (types.Interface k) (values.Obj o) f x e = (x, below_object l f (object_at h.objects o.0).layout)
