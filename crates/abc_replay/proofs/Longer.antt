-- What is refused within the greatest file is refused so whatever follows.
use Rattle.std.proofs.Common.{◌≡◌, ◌≢◌, ℕ, zero, suc, ◌+◌, ◌-◌, ◌<◌, ◌≤◌, inl, inr, Bool, true, false, List, [], ◌∷◌, ◌++◌, length, refl, ap, ◌∙◌, append_assoc, length-append, arith}
use Rattle.abc_file_types.specs.declared.reason.Reason.{Reason}
use Rattle.abc_file_types.specs.Part.{At, Begins, Front, Part, Refusal, at_of, both, with_test, known_value, image, limit, then_by, when}
use Rattle.abc_file_types.specs.Numbers.{byte, index_below, number, pool_index, entry_index, s24, s32, u16, u30, u32, u8}
use Rattle.abc_file_types.specs.Lists.{chain, count_and_items, pool, pool_by, bytes_with_count, times}
use Rattle.abc_file_types.specs.Ends.{blame_first, within_next, inside}
use Rattle.abc_file_types.specs.declared.names.MultinameKind.{MultinameKind}
use Rattle.abc_file_types.specs.declared.names.MultinameKind.TheVariants as kinds
use Rattle.abc_file_types.specs.declared.opcodes.Form.{Form}
use Rattle.abc_file_types.specs.declared.opcodes.Form.TheVariants as forms
use Rattle.abc_file_types.specs.declared.traits.TraitKind.{TraitKind}
use Rattle.abc_file_types.specs.declared.traits.TraitKind.TheVariants as traits
use Rattle.abc_file_types.specs.declared.tables.Sizes.{Sizes}
use Rattle.abc_file_types.specs.declared.tables.Abc.{Abc}
use Rattle.abc_file_types.specs.Pools.{double, namespace_kind, namespace, namespace_set, multiname_kind, multiname_fields, multiname, multinames, pools}
use Rattle.abc_file_types.specs.Methods.{value_kind, option_value, options, method, metadata}
use Rattle.abc_file_types.specs.Traits.{trait_kind, slot_value, trait_fields, trait_info}
use Rattle.abc_file_types.specs.Classes.{instance, class_info, script, definitions, sizes_of}
use Rattle.abc_file_types.specs.Instructions.{opcode_part, signed_byte, signed_short, switch_offsets, operand_parts, instruction, code_length}
use Rattle.abc_file_types.specs.Places.{instruction_place}
use Rattle.abc_file_types.specs.Code.{code, code_body}
use Rattle.abc_file_types.specs.Bodies.{handler, body_method, body_with, body, body_list, bodies, bodies_alone, methods_of}
use Rattle.abc_file_types.specs.Files.{IsBadFile, file, version}

-- with more behind
abbrev longer : At → List ℕ → At
longer from more = record { place = from.place; bytes = from.bytes ++ more; end = from.end }

-- What is refused where a byte stands past the greatest file is refused so whatever follows.
record Stays {A : Type 0} (p : Part A) : Type 0 where
  bad : (from : At) (more : List ℕ) (r : Refusal) → from.place ≤ limit → limit < from.place + length from.bytes → p.bad from r → p.bad (longer from more) r

Front-longer : (from : At) (front : List ℕ) (after : At) (more : List ℕ) → Front from front after → Front (longer from more) front (longer after more)
Front-longer from front after more f = record { parts = ap (λ (b : List ℕ). b ++ more) f.parts ∙ append_assoc front after.bytes more; place = f.place; room = f.room; same = f.same; within = f.within }

Begins-longer : {A : Type 0} (p : Part A) (from : At) (x : A) (after : At) (more : List ℕ) → Begins p from x after → Begins p (longer from more) x (longer after more)
Begins-longer p from x after more b = record { front = b.front; spelled = b.spelled; is = Front-longer from b.front after more b.is }

-- a byte stands there still
still_past : (from : At) (front : List ℕ) (after : At) → Front from front after → limit < from.place + length from.bytes → limit < after.place + length after.bytes
still_past from front after f past = omega (arith, f.place, ap length f.parts, length-append front after.bytes, past)

-- ---- each way to make a part

done-stays : {A : Type 0} (x : A) → Stays (known_value x)
done-stays x = record { bad = λ from more r low past b. absurd b }

then-stays : {A B : Type 0} (p : Part A) (f : A → Part B) → Stays p → ((x : A) → Stays (f x)) → Stays (then_by p f)
then-stays p f sp sf = record {
  bad = λ from more r low past b. elim b [
    | inl h ↦ inl (sp.bad from more r low past h)
    | inr a ↦ inr (a.0, longer a.1 more, Begins-longer p from a.0 a.1 more a.2, (sf a.0).bad a.1 more r a.2.is.room (still_past from a.2.front a.1 a.2.is past) a.3)
  ];
}

both-stays : {A B : Type 0} (p : Part A) (q : Part B) → Stays p → Stays q → Stays (both p q)
both-stays p q sp sq = then-stays p (λ _. q) sp (λ _. sq)

image-stays : {A B : Type 0} (f : A → B) (p : Part A) → Stays p → Stays (image f p)
image-stays f p sp = record { bad = λ from more r low past b. sp.bad from more r low past b }

checked-stays : {A : Type 0} (test : A → Bool) (reason : Reason) (p : Part A) → Stays p → Stays (with_test test reason p)
checked-stays test reason p sp = record {
  bad = λ from more r low past b. elim b [
    | inl h ↦ inl (sp.bad from more r low past h)
    | inr a ↦ inr (a.0, longer a.1 more, Begins-longer p from a.0 a.1 more a.2, a.3, a.4)
  ];
}

times-stays : {A : Type 0} (n : ℕ) (p : Part A) → Stays p → Stays (times n p)
times-stays zero p sp = done-stays []
times-stays (suc n) p sp = image-stays (λ x. x.0 ∷ x.1) (both p (times n p)) (both-stays p (times n p) sp (times-stays n p sp))

chain-stays : {A : Type 0} (n : ℕ) (p : List A → Part A) (before : List A) → ((xs : List A) → Stays (p xs)) → Stays (chain n p before)
chain-stays zero p before sp = done-stays before
chain-stays (suc n) p before sp = image-stays _ _ (then-stays (p before) _ (sp before) (λ x. chain-stays n p (before ++ x ∷ []) sp))

inside-stays : {A : Type 0} (n : ℕ) (p : Part A) → Stays p → Stays (inside n p)
inside-stays n p sp = record { bad = λ from more r low past b. sp.bad (within_next n from) more r low past b }

blamed-stays : {A : Type 0} (p : Part A) → Stays p → Stays (blame_first p)
blamed-stays p sp = record { bad = λ from more r low past b. (b.0, sp.bad from more b.0 low past b.1, b.2) }

-- ---- bytes and numbers

no_byte : (from : At) → from.place ≤ limit → limit < from.place + length from.bytes → from.bytes ≡ [] → ⊥
no_byte from low past none = omega (arith, low, past, ap length none)

byte-stays : Stays byte
byte-stays = record {
  bad = λ from more r low past b. elim b [
    | inl h ↦ inl h
    | inr h ↦ elim h.1 [
      | inl none ↦ absurd (no_byte from low past none.0)
      | inr far ↦ inr (h.0, inr (far.0, far.1 ++ more, ap (λ (l : List ℕ). l ++ more) far.2, far.3, far.4))
    ]
  ];
}

u8-stays : Stays u8
unfolding u8
u8-stays = byte-stays

number-stays : Stays number
number-stays = record {
  bad = λ from more r low past b. record {
    high = b.high;
    after = longer b.after more;
    is = Front-longer from b.high b.after more b.is;
    each = b.each;
    why = elim b.why [
      | inl h ↦ inl (h.0, byte-stays.bad b.after more r b.is.room (still_past from b.high b.after b.is past) h.1)
      | inr h ↦ inr h
    ];
  };
}

u30-stays : Stays u30
unfolding u30
u30-stays = checked-stays _ _ number number-stays

u32-stays : Stays u32
unfolding u32
u32-stays = image-stays _ number number-stays

s32-stays : Stays s32
unfolding s32
s32-stays = image-stays _ number number-stays

u16-stays : Stays u16
unfolding u16
u16-stays = image-stays _ _ (both-stays u8 u8 u8-stays u8-stays)

s24-stays : Stays s24
unfolding s24
s24-stays = image-stays _ _ (both-stays u8 (both u8 u8) u8-stays (both-stays u8 u8 u8-stays u8-stays))

index_below-stays : (n : ℕ) → Stays (index_below n)
unfolding index_below
index_below-stays n = checked-stays _ _ u30 u30-stays

pool_index-stays : (n : ℕ) → Stays (pool_index n)
unfolding pool_index
pool_index-stays n = checked-stays _ _ u30 u30-stays

entry_index-stays : (n : ℕ) → Stays (entry_index n)
unfolding entry_index
entry_index-stays n = checked-stays _ _ u30 u30-stays

-- ---- lists

counted-stays : {A : Type 0} (p : Part A) → Stays p → Stays (count_and_items p)
unfolding count_and_items
counted-stays p sp = image-stays _ _ (then-stays u30 (λ n. times n p) u30-stays (λ n. times-stays n p sp))

pool_by-stays : {A : Type 0} (p : ℕ → Part A) → ((n : ℕ) → Stays (p n)) → Stays (pool_by p)
unfolding pool_by
pool_by-stays p sp = image-stays _ _ (then-stays u30 (λ n. times (n - 1) (p (n - 1))) u30-stays (λ n. times-stays (n - 1) (p (n - 1)) (sp (n - 1))))

pool-stays : {A : Type 0} (p : Part A) → Stays p → Stays (pool p)
unfolding pool
pool-stays p sp = image-stays _ _ (then-stays u30 (λ n. times (n - 1) p) u30-stays (λ n. times-stays (n - 1) p sp))

when-stays : {A : Type 0} (b : Bool) (x : A) (p : Part A) → Stays p → Stays (when b x p)
unfolding when
when-stays true x p sp = sp
when-stays false x p sp = done-stays x

text-stays : Stays bytes_with_count
unfolding bytes_with_count
text-stays = counted-stays u8 u8-stays

ruleset parts = (image-stays, then-stays, checked-stays, done-stays, times-stays, when-stays, counted-stays, pool-stays, u8-stays, u30-stays, u32-stays, s32-stays, index_below-stays, pool_index-stays, entry_index-stays, text-stays)

-- ---- pools

double-stays : Stays double
unfolding double
double-stays = image-stays _ _ (times-stays 8 _ u8-stays)

namespace_kind-stays : Stays namespace_kind
unfolding namespace_kind
namespace_kind-stays = search parts

namespace-stays : (strings : ℕ) → Stays (namespace strings)
unfolding namespace
namespace-stays strings = search (parts, namespace_kind-stays)

namespace_set-stays : (spaces : ℕ) → Stays (namespace_set spaces)
unfolding namespace_set
namespace_set-stays spaces = search parts

multiname_kind-stays : Stays multiname_kind
unfolding multiname_kind
multiname_kind-stays = search parts

multiname_fields-stays : (strings spaces sets names : ℕ) (kind : MultinameKind) → Stays (multiname_fields strings spaces sets names kind)
multiname_fields-stays strings spaces sets names (kinds.QName attr) = search parts
multiname_fields-stays strings spaces sets names (kinds.Rt attr) = search parts
multiname_fields-stays strings spaces sets names (kinds.RtL attr) = search parts
multiname_fields-stays strings spaces sets names (kinds.Multi attr) = search parts
multiname_fields-stays strings spaces sets names (kinds.MultiL attr) = search parts
multiname_fields-stays strings spaces sets names kinds.TypeName = search parts

multiname-stays : (strings spaces sets names : ℕ) → Stays (multiname strings spaces sets names)
unfolding multiname
multiname-stays strings spaces sets names = search (parts, multiname_kind-stays, multiname_fields-stays)

multinames-stays : (strings spaces sets : ℕ) → Stays (multinames strings spaces sets)
unfolding multinames
multinames-stays strings spaces sets = pool_by-stays _ (multiname-stays strings spaces sets)

pools-stays : Stays pools
unfolding pools
pools-stays = search (parts, double-stays, namespace-stays, namespace_set-stays, multinames-stays) depth 24

-- ---- methods and metadata

value_kind-stays : Stays value_kind
unfolding value_kind
value_kind-stays = search parts

option_value-stays : (v : Sizes) → Stays (option_value v)
unfolding option_value
option_value-stays v = search (parts, value_kind-stays)

options-stays : (v : Sizes) (params : ℕ) → Stays (options v params)
unfolding options
options-stays v params = search (parts, option_value-stays)

method-stays : (v : Sizes) → Stays (method v)
unfolding method
method-stays v = search (parts, options-stays) depth 20

metadata-stays : (v : Sizes) → Stays (metadata v)
unfolding metadata
metadata-stays v = search parts

-- ---- traits

trait_kind-stays : Stays trait_kind
unfolding trait_kind
trait_kind-stays = search parts

slot_value-stays : (v : Sizes) → Stays (slot_value v)
unfolding slot_value
slot_value-stays v = search (parts, value_kind-stays)

trait_fields-stays : (v : Sizes) (kind : TraitKind) → Stays (trait_fields v kind)
trait_fields-stays v traits.Slot = search (parts, slot_value-stays)
trait_fields-stays v traits.Method = search parts
trait_fields-stays v traits.Getter = search parts
trait_fields-stays v traits.Setter = search parts
trait_fields-stays v traits.Class = search parts
trait_fields-stays v traits.Function = search parts
trait_fields-stays v traits.Const = search (parts, slot_value-stays)

trait_info-stays : (v : Sizes) → Stays (trait_info v)
unfolding trait_info
trait_info-stays v = search (parts, trait_kind-stays, trait_fields-stays) depth 12

-- ---- classes and scripts

instance-stays : (v : Sizes) → Stays (instance v)
unfolding instance
instance-stays v = search (parts, trait_info-stays) depth 20

class_info-stays : (v : Sizes) → Stays (class_info v)
unfolding class_info
class_info-stays v = search (parts, trait_info-stays)

script-stays : (v : Sizes) → Stays (script v)
unfolding script
script-stays v = search (parts, trait_info-stays)

definitions-stays : (abc : Abc) → Stays (definitions abc)
unfolding definitions
definitions-stays abc = search (parts, method-stays, metadata-stays, instance-stays, class_info-stays, script-stays) depth 20

-- ---- code

opcode-stays : Stays opcode_part
unfolding opcode_part
opcode-stays = image-stays _ _ (checked-stays _ _ _ u8-stays)

signed_byte-stays : Stays signed_byte
unfolding signed_byte
signed_byte-stays = image-stays _ _ u8-stays

signed_short-stays : Stays signed_short
unfolding signed_short
signed_short-stays = image-stays _ _ u32-stays

switch_offsets-stays : Stays switch_offsets
unfolding switch_offsets
switch_offsets-stays = both-stays _ _ s24-stays (then-stays _ _ u30-stays (λ c. times-stays (c + 1) _ s24-stays))

operands-stays : (op : ℕ) (form : Form) → Stays (operand_parts op form)
operands-stays op forms.Plain = done-stays _
operands-stays op forms.One = image-stays _ _ u30-stays
operands-stays op forms.Two = image-stays _ _ (both-stays _ _ u30-stays u30-stays)
operands-stays op forms.Branch = image-stays _ _ s24-stays
operands-stays op forms.Switch = image-stays _ _ switch_offsets-stays
operands-stays op forms.Byte = image-stays _ _ signed_byte-stays
operands-stays op forms.Short = image-stays _ _ signed_short-stays
operands-stays op forms.ScopeObject = image-stays _ _ u8-stays
operands-stays op forms.Debug = image-stays _ _ (both-stays _ _ u8-stays (both-stays _ _ u30-stays (both-stays _ _ u8-stays u30-stays)))

instruction-stays : Stays (blame_first instruction)
unfolding instruction
instruction-stays = blamed-stays _ (image-stays _ _ (then-stays _ _ opcode-stays (λ o. operands-stays o.0 o.1)))

code_length-stays : Stays code_length
unfolding code_length
code_length-stays = checked-stays _ _ _ u30-stays

-- a piece, and an offset that leads nowhere, are told by the bytes before them
code_body-stays : (n : ℕ) → Stays (code_body n)
unfolding code_body
code_body-stays n = record {
  bad = λ from more r low past b. elim b [
    | inl h ↦ inl (record {
      before = h.before;
      front = h.front;
      after = longer h.after more;
      filled = h.filled;
      is = Front-longer from h.front h.after more h.is;
      room = h.room;
      bad = (inside-stays (n - length h.front) (blame_first instruction) instruction-stays).bad h.after more r h.is.room (still_past from h.front h.after h.is past) h.bad;
    })
    | inr a ↦ inr (record {
      pieces = a.pieces;
      front = a.front;
      after = longer a.after more;
      filled = a.filled;
      full = a.full;
      is = Front-longer from a.front a.after more a.is;
      offset = a.offset;
      misses = a.misses;
      says = a.says;
    })
  ];
}

code-stays : Stays code
unfolding code
code-stays = image-stays _ _ (then-stays _ _ code_length-stays code_body-stays)

-- ---- bodies

instruction_place-stays : (ss : List ℕ) → Stays (instruction_place ss)
unfolding instruction_place
instruction_place-stays ss = image-stays _ _ (checked-stays _ _ _ u30-stays)

handler-stays : (v : Sizes) (starts : List ℕ) → Stays (handler v starts)
unfolding handler
handler-stays v starts =
    image-stays _ _ (both-stays _ _ (instruction_place-stays starts) (both-stays _ _ (instruction_place-stays starts) (both-stays _ _ (instruction_place-stays starts)
    (both-stays _ _ (pool_index-stays v.names) (pool_index-stays v.names)))))

body_method-stays : (v : Sizes) (taken : List ℕ) → Stays (body_method v taken)
unfolding body_method
body_method-stays v taken = checked-stays _ _ _ (index_below-stays v.methods)

body_with-stays : (v : Sizes) (method : Part ℕ) → Stays method → Stays (body_with v method)
unfolding body_with
body_with-stays v method stays =
    image-stays _ _ (both-stays _ _ stays (both-stays _ _ u30-stays (both-stays _ _ u30-stays (both-stays _ _ u30-stays (both-stays _ _ u30-stays
    (then-stays _ _ code-stays (λ c. both-stays _ _ (counted-stays _ (handler-stays v c.offsets)) (counted-stays _ (trait_info-stays v)))))))))

body-stays : (v : Sizes) (taken : List ℕ) → Stays (body v taken)
unfolding body
body-stays v taken = body_with-stays v (body_method v taken) (body_method-stays v taken)

body_list-stays : (v : Sizes) → Stays (body_list v)
unfolding body_list
body_list-stays v = image-stays _ _ (then-stays _ _ u30-stays (λ n. chain-stays n _ [] (λ before. body-stays v (methods_of before))))

bodies-stays : (abc : Abc) → Stays (bodies abc)
unfolding bodies
bodies-stays abc = image-stays _ _ (body_list-stays (sizes_of abc))

-- ---- the file

version-stays : Stays version
unfolding version
version-stays = both-stays _ _ (checked-stays _ _ _ u16-stays) (checked-stays _ _ _ u16-stays)

file-stays : Stays file
unfolding file bodies_alone
file-stays = image-stays _ _ (both-stays _ _ version-stays (then-stays _ _ pools-stays (λ abc. then-stays _ _ (definitions-stays abc) (λ full. image-stays _ _ (bodies-stays full)))))

still_some : (bytes more : List ℕ) → bytes ≢ [] → bytes ++ more ≢ []
still_some [] more some = absurd (some refl)
still_some (b ∷ bytes) more some = λ e. cc

-- More bytes than the greatest file has are refused as they are with any others behind them.
pub bad_longer : (bytes more : List ℕ) (r : Refusal) → limit < length bytes → IsBadFile bytes r → IsBadFile (bytes ++ more) r
bad_longer bytes more r past (inl b) = inl (file-stays.bad (at_of 0 bytes) more r (omega arith) (omega (arith, past)) b)
bad_longer bytes more r past (inr x) = inr (x.0, longer x.1 more, Begins-longer file (at_of 0 bytes) x.0 x.1 more x.2, still_some x.1.bytes more x.3, x.4)
