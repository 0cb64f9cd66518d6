-- The sum over the fields of a value is the length of its canonical bytes.
use Rattle.std.proofs.Common.{◌≡◌, ℕ, ℤ, Bool, true, false, cond, List, [], length, Some, None, refl, ◌∙◌, length-append, arith}
use Rattle.std.specs.List.{flat_map, sum_by}
use Rattle.std.specs.declared.option.Option.{Option}
use Rattle.std.proofs.lemmas.List.Concat.{length-flat_map}
use Rattle.abc_base.specs.Numbers.{number_bytes}
use Rattle.abc_file_types.specs.Canonical.{counted_bytes, pool_bytes, pool_count, s32_bytes, text_bytes}
use Rattle.abc_file_types.proofs.Fixed.{u16_length}
use Rattle.abc_file_types.specs.declared.classes.ClassInfo.{ClassInfo}
use Rattle.abc_file_types.specs.declared.classes.Instance.{Instance}
use Rattle.abc_file_types.specs.declared.classes.Script.{Script}
use Rattle.abc_file_types.specs.declared.code.Body.{Body}
use Rattle.abc_file_types.specs.declared.code.Handler.{Handler}
use Rattle.abc_file_types.specs.declared.methods.Metadata.{Metadata}
use Rattle.abc_file_types.specs.declared.methods.Method.{Method}
use Rattle.abc_file_types.specs.declared.methods.OptionValue.{OptionValue}
use Rattle.abc_file_types.specs.declared.names.Multiname.{Multiname}
use Rattle.abc_file_types.specs.declared.names.Multiname.TheVariants as names
use Rattle.abc_file_types.specs.declared.names.Namespace.{Namespace}
use Rattle.abc_file_types.specs.declared.tables.Abc.{Abc}
use Rattle.abc_file_types.specs.declared.traits.TraitBody.{TraitBody}
use Rattle.abc_file_types.specs.declared.traits.TraitBody.TheVariants as bodies
use Rattle.abc_file_types.specs.declared.traits.TraitInfo.{TraitInfo}
use Rattle.abc_file_types.specs.Bodies.{bodies_bytes, body_bytes, handler_bytes}
use Rattle.abc_file_types.specs.Classes.{class_bytes, definitions_bytes, instance_bytes, protected_bytes, script_bytes}
use Rattle.abc_file_types.specs.CodeBytes.{canonical_starts, number_len}
use Rattle.abc_file_types.specs.Files.{file_bytes}
use Rattle.abc_file_types.specs.Methods.{has_flag, metadata_bytes, method_bytes, option_bytes}
use Rattle.abc_file_types.specs.Pools.{double_bytes, multiname_bytes, namespace_bytes, pools_bytes}
use Rattle.abc_file_types.specs.Traits.{slot_value_bytes, trait_bytes, trait_fields_bytes}
use Rattle.abc_file_types.proofs.CodeShortest.{code_bytes_length}
use Rattle.abc_tables.specs.Lengths.{body_len, class_len, counted_len, definitions_len, double_len, file_len, handler_len, instance_len, metadata_len, method_len, multiname_len, namespace_len, option_len, pool_len, pools_len, protected_len, s32_len, script_len, slot_value_len, text_len, trait_fields_len, trait_len}

-- ---- lists

all_len : {A : Type 0} (f : A → List ℕ) (g : A → ℕ) → ((x : A) → length (f x) ≡ g x) → (xs : List A) → length (flat_map f xs) ≡ sum_by g xs
all_len f g each xs = length-flat_map f xs ∙ simp each

counted-len : {A : Type 0} (f : A → List ℕ) (g : A → ℕ) → ((x : A) → length (f x) ≡ g x) → (xs : List A) → length (counted_bytes f xs) ≡ counted_len g xs
unfolding counted_bytes
counted-len f g each xs = omega (arith, all_len f g each xs, length-append (number_bytes (length xs)) (flat_map f xs))

pool-len : {A : Type 0} (f : A → List ℕ) (g : A → ℕ) → ((x : A) → length (f x) ≡ g x) → (xs : List A) → length (pool_bytes f xs) ≡ pool_len g xs
unfolding pool_bytes
pool-len f g each xs = omega (arith, all_len f g each xs, length-append (number_bytes (pool_count xs)) (flat_map f xs))

numbers-len : (xs : List ℕ) → length (flat_map number_bytes xs) ≡ sum_by number_len xs
numbers-len xs = length-flat_map number_bytes xs

-- bytes that a flag asks for
flagged : (flag : Bool) (b : List ℕ) (n : ℕ) → length b ≡ n → length (cond flag b []) ≡ cond flag n 0
flagged true b n e = e
flagged false b n e = refl

-- ---- pools

s32-len : (z : ℤ) → length (s32_bytes z) ≡ s32_len z
unfolding s32_bytes
s32-len z = refl

text-len : (b : List ℕ) → length (text_bytes b) ≡ text_len b
unfolding text_bytes
text-len b = length-append (number_bytes (length b)) b

namespace-len : (n : Namespace) → length (namespace_bytes n) ≡ namespace_len n
unfolding namespace_bytes
namespace-len n = omega arith

indices-len : (xs : List ℕ) → length (counted_bytes number_bytes xs) ≡ counted_len number_len xs
indices-len xs = counted-len number_bytes number_len (λ n. refl) xs

multiname-len : (m : Multiname) → length (multiname_bytes m) ≡ multiname_len m
multiname-len (names.QName attr n i) = omega (arith, length-append (number_bytes n) (number_bytes i))
multiname-len (names.Rt attr i) = omega arith
multiname-len (names.RtL attr) = omega arith
multiname-len (names.Multi attr i s) = omega (arith, length-append (number_bytes i) (number_bytes s))
multiname-len (names.MultiL attr s) = omega arith
multiname-len (names.TypeName base params) = omega (arith, indices-len params, length-append (number_bytes base) (counted_bytes number_bytes params))

pools-len : (v : Abc) → length (pools_bytes v) ≡ pools_len v
unfolding pools_bytes pools_len
pools-len v =
    simp length-append
    (omega (
      arith,
      pool-len s32_bytes s32_len s32-len v.ints,
      pool-len number_bytes number_len (λ n. refl) v.uints,
      pool-len double_bytes double_len (λ d. refl) v.doubles,
      pool-len text_bytes text_len text-len v.strings,
      pool-len namespace_bytes namespace_len namespace-len v.namespaces,
      pool-len (counted_bytes number_bytes) (counted_len number_len) indices-len v.sets,
      pool-len multiname_bytes multiname_len multiname-len v.names,
    ))

-- ---- methods and metadata

option-len : (o : OptionValue) → length (option_bytes o) ≡ option_len o
unfolding option_bytes
option-len o = simp length-append

method-len : (m : Method) → length (method_bytes m) ≡ method_len m
unfolding method_bytes method_len
method-len m =
    let values = flagged (has_flag m.flags 0x08) (counted_bytes option_bytes m.options) (counted_len option_len m.options) (counted-len option_bytes option_len option-len m.options) in
    let named = flagged (has_flag m.flags 0x80) (flat_map number_bytes m.param_names) (sum_by number_len m.param_names) (numbers-len m.param_names) in
    simp length-append (omega (arith, values, named, numbers-len m.params))

metadata-len : (m : Metadata) → length (metadata_bytes m) ≡ metadata_len m
unfolding metadata_bytes metadata_len
metadata-len m = simp length-append (omega (arith, numbers-len m.items))

-- ---- traits

slot_value-len : (o : Option OptionValue) → length (slot_value_bytes o) ≡ slot_value_len o
unfolding number_bytes
slot_value-len None = refl
slot_value-len (Some o) = option-len o

trait_fields-len : (t : TraitBody) → length (trait_fields_bytes t) ≡ trait_fields_len t
trait_fields-len (bodies.Slot id ty value constant) = simp length-append (omega (arith, slot_value-len value))
trait_fields-len (bodies.Method disp method) = simp length-append
trait_fields-len (bodies.Getter disp method) = simp length-append
trait_fields-len (bodies.Setter disp method) = simp length-append
trait_fields-len (bodies.Class id class) = simp length-append
trait_fields-len (bodies.Function id method) = simp length-append

trait-len : (t : TraitInfo) → length (trait_bytes t) ≡ trait_len t
unfolding trait_bytes trait_len
trait-len t =
    let more = flagged (has_flag t.attrs 4) (counted_bytes number_bytes t.metadata) (counted_len number_len t.metadata) (indices-len t.metadata) in
    simp length-append (omega (arith, trait_fields-len t.body, more))

traits-len : (ts : List TraitInfo) → length (counted_bytes trait_bytes ts) ≡ counted_len trait_len ts
traits-len ts = counted-len trait_bytes trait_len trait-len ts

-- ---- classes and scripts

protected-len : (o : Option ℕ) → length (protected_bytes o) ≡ protected_len o
protected-len None = refl
protected-len (Some n) = refl

instance-len : (i : Instance) → length (instance_bytes i) ≡ instance_len i
unfolding instance_bytes instance_len
instance-len i = simp length-append (omega (arith, protected-len i.protected_ns, indices-len i.interfaces, traits-len i.traits))

class-len : (c : ClassInfo) → length (class_bytes c) ≡ class_len c
unfolding class_bytes class_len
class-len c = simp length-append (omega (arith, traits-len c.traits))

script-len : (s : Script) → length (script_bytes s) ≡ script_len s
unfolding script_bytes script_len
script-len s = simp length-append (omega (arith, traits-len s.traits))

definitions-len : (v : Abc) → length (definitions_bytes v) ≡ definitions_len v
unfolding definitions_bytes definitions_len
definitions-len v =
    simp length-append
    (omega (
      arith,
      counted-len method_bytes method_len method-len v.methods,
      counted-len metadata_bytes metadata_len metadata-len v.metadata,
      all_len instance_bytes instance_len instance-len v.instances,
      all_len class_bytes class_len class-len v.classes,
      counted-len script_bytes script_len script-len v.scripts,
    ))

-- ---- bodies

handler-len : (starts : List ℕ) (h : Handler) → length (handler_bytes starts h) ≡ handler_len starts h
unfolding handler_bytes
handler-len starts h = simp length-append

body-len : (b : Body) → length (body_bytes b) ≡ body_len b
unfolding body_bytes body_len
body-len b =
    let handlers = counted-len (handler_bytes (canonical_starts b.code)) (handler_len (canonical_starts b.code)) (handler-len (canonical_starts b.code)) b.handlers in
    simp length-append (omega (arith, code_bytes_length b.code, handlers, traits-len b.traits))

-- ---- the whole file

pub file-len : (v : Abc) → length (file_bytes v) ≡ file_len v
unfolding file_bytes file_len bodies_bytes
file-len v = simp length-append (omega (arith, u16_length 16, u16_length 46, pools-len v, definitions-len v, counted-len body_bytes body_len body-len v.bodies))
