-- Rows by what they take: nothing, one value, two, the parts of a name, and these with values under and over them.
use Rattle.std.proofs.Common.{◌≡◌, ℕ, ◌*◌, ◌+◌, List, [], ◌∷◌, ◌++◌, drop, length, true, sym, ap, ◌∙◌, subst, arith}
use Rattle.std.specs.List.{flat_map}
use Rattle.std.proofs.lemmas.List.{drop-drop, length-append}
use Rattle.abc_heap_values.specs.declared.values.Value.{Value}
use Rattle.abc_meaning.specs.Tests.{name_values, values_of}
use Rattle.abc_run_names.specs.Named.{name_form_at, name_parts_count, parts_for}
use Rattle.abc_run_values.proofs.Armed.{IsOwn}
use Rattle.abc_run_values.proofs.Shaped.{first_there}
use Rattle.abc_verify_typing.specs.Rows.{Shape}
use Rattle.abc_verify_typing.specs.declared.row.Need.{Need}
use Rattle.abc_verify_typing.specs.declared.row.Need.TheVariants.{Runtime, Value as OneValue}
use Rattle.abc_verify_typing.specs.declared.row.Operand.{Operand}
use Rattle.abc_verify_typing.specs.declared.row.Operand.TheVariants.{NameAt, PlainNameAt}
use Rattle.abc_frames.specs.Frame.{Frame}
use Rattle.abc_run_state.specs.Operands.{operand_at}
use Rattle.abc_meaning.specs.Setting.{Setting}
use Rattle.abc_verify_typing.specs.Effects.{multiname_at, runtime, parts_of_need}
use Rattle.abc_verify_typing.specs.Rules.{has_form, is_static_name, is_plain_multiname}
use Rattle.abc_run_dispatch.proofs.Below.{one_below, one_needed, one_unnamed, two_below, two_needed, two_unnamed}
use Rattle.abc_run_dispatch.proofs.DeletedParts.{counted, parts_at_place, plain_parts}
use Rattle.abc_run_dispatch.proofs.DeletedTaken.{Takes}

-- ---- how many arguments there are

pub no_arguments : (k : ℕ) → 0 * k ≡ 0
no_arguments k = omega arith

pub all_arguments : (k : ℕ) → 1 * k ≡ k
all_arguments k = omega arith

-- ---- no name

pub none_taken : (row : Shape) (count : ℕ) (parts : List Need) (f : Frame) → row.takes ≡ [] → Takes row count parts f count [] []
none_taken row count parts f t =
    let none : count + 0 ≡ count = omega arith in
    record {
      needed = ap (λ (ns : List Need). count + length (flat_map (parts_of_need parts) ns)) t ∙ none;
      values = λ b. ap (λ (ns : List Need). values_of ns (length parts) (drop count f.stack)) t;
      named = λ b. ap (λ (ns : List Need). name_values ns (length parts) (drop count f.stack)) t;
    }

pub one_taken : (row : Shape) (count : ℕ) (parts : List Need) (f : Frame) (need : Need) → row.takes ≡ need ∷ [] → IsOwn need → Takes row count parts f (count + 1) (operand_at count f ∷ []) []
one_taken row count parts f need t own = record {
  needed = ap (λ (ns : List Need). count + length (flat_map (parts_of_need parts) ns)) t ∙ ap (λ (k : ℕ). count + k) (one_needed parts need f own);
  values = λ b. ap (λ (ns : List Need). values_of ns (length parts) (drop count f.stack)) t ∙ one_below need f count (length parts) own (omega (arith, b));
  named = λ b. ap (λ (ns : List Need). name_values ns (length parts) (drop count f.stack)) t ∙ one_unnamed need f count (length parts) own (omega (arith, b));
}

pub two_taken : (row : Shape) (count : ℕ) (parts : List Need) (f : Frame) (top under : Need) → row.takes ≡ top ∷ under ∷ [] → IsOwn top → IsOwn under → Takes row count parts f (count + 2) (operand_at count f ∷ operand_at (count + 1) f ∷ []) []
two_taken row count parts f top under t a b = record {
  needed = ap (λ (ns : List Need). count + length (flat_map (parts_of_need parts) ns)) t ∙ ap (λ (k : ℕ). count + k) (two_needed parts top under f a b);
  values = λ h. ap (λ (ns : List Need). values_of ns (length parts) (drop count f.stack)) t ∙ two_below top under f count (length parts) a b (omega (arith, h));
  named = λ h. ap (λ (ns : List Need). name_values ns (length parts) (drop count f.stack)) t ∙ two_unnamed top under f count (length parts) a b (omega (arith, h));
}

-- ---- the form of the name is tested

name_tested : (p : Setting) (row : Shape) (n : ℕ) → row.operand ≡ NameAt → has_form p.linked row.operand n ≡ true → is_static_name (multiname_at p.linked n) ≡ true
name_tested p row n o t = ap (λ (x : Operand). has_form p.linked x n) (sym o) ∙ t

plain_tested : (p : Setting) (row : Shape) (n : ℕ) → row.operand ≡ PlainNameAt → has_form p.linked row.operand n ≡ true → is_plain_multiname (multiname_at p.linked n) ≡ true
plain_tested p row n o t = ap (λ (x : Operand). has_form p.linked x n) (sym o) ∙ t

-- a name that takes no parts
pub plain_taken : (p : Setting) (row : Shape) (count name : ℕ) (parts : List Need) (f : Frame) → row.operand ≡ PlainNameAt → row.takes ≡ [] → has_form p.linked row.operand name ≡ true → Takes row count parts f count [] (parts_for (name_form_at p name) count f)
plain_taken p row count name parts f o t form = subst (Takes row count parts f count []) (sym (plain_parts p (multiname_at p.linked name) count f (plain_tested p row name o form))) (none_taken row count parts f t)

-- ---- the parts of a name

past_parts : (f : Frame) (count k j : ℕ) → count + k ≡ j → drop k (drop count f.stack) ≡ drop j f.stack
past_parts f count k j e = drop-drop k count f.stack ∙ ap (λ (i : ℕ). drop i f.stack) e

-- under so many arguments
pub parts_taken : (p : Setting) (row : Shape) (count n name : ℕ) (f : Frame) → row.operand ≡ NameAt → row.takes ≡ Runtime ∷ [] → count + name_parts_count (name_form_at p name) ≡ n → has_form p.linked row.operand name ≡ true → Takes row count (runtime (multiname_at p.linked name)) f n [] (parts_for (name_form_at p name) count f)
parts_taken p row count n name f o t sum form =
    let m = multiname_at p.linked name in
    let parts = runtime m in
    let is = name_tested p row name o form in
    let many = counted p m is in
    let long = length-append parts [] in
    let total : count + length (parts ++ []) ≡ n = omega (arith, long, many, sum) in
    record {
      needed = ap (λ (ns : List Need). count + length (flat_map (parts_of_need parts) ns)) t ∙ total;
      values = λ b. ap (λ (ns : List Need). values_of ns (length parts) (drop count f.stack)) t;
      named = λ b. ap (λ (ns : List Need). name_values ns (length parts) (drop count f.stack)) t ∙ parts_at_place p m count f is (omega (arith, b, many, sum));
    }

-- with a value under them
pub named_taken : (p : Setting) (row : Shape) (count j n name : ℕ) (f : Frame) (need : Need) → row.operand ≡ NameAt → row.takes ≡ Runtime ∷ need ∷ [] → IsOwn need → count + name_parts_count (name_form_at p name) ≡ j → j + 1 ≡ n → has_form p.linked row.operand name ≡ true → Takes row count (runtime (multiname_at p.linked name)) f n (operand_at j f ∷ []) (parts_for (name_form_at p name) count f)
named_taken p row count j n name f need o t own sum all form =
    let m = multiname_at p.linked name in
    let parts = runtime m in
    let is = name_tested p row name o form in
    let many = counted p m is in
    let one = one_needed parts need f own in
    let long = length-append parts (flat_map (parts_of_need parts) (need ∷ [])) in
    let total : count + length (parts ++ flat_map (parts_of_need parts) (need ∷ [])) ≡ n = omega (arith, long, one, many, sum, all) in
    let past : count + length parts ≡ j = omega (arith, many, sum) in
    record {
      needed = ap (λ (ns : List Need). count + length (flat_map (parts_of_need parts) ns)) t ∙ total;
      values = λ b. ap (λ (ns : List Need). values_of ns (length parts) (drop count f.stack)) t ∙ ap (values_of (need ∷ []) (length parts)) (past_parts f count (length parts) j past) ∙ one_below need f j (length parts) own (omega (arith, b, all));
      named = λ b. ap (λ (ns : List Need). name_values ns (length parts) (drop count f.stack)) t ∙ parts_at_place p m count f is (omega (arith, b, past, all));
    }

-- and one over them
pub valued_taken : (p : Setting) (row : Shape) (j n name : ℕ) (f : Frame) (need : Need) → row.operand ≡ NameAt → row.takes ≡ OneValue ∷ Runtime ∷ need ∷ [] → IsOwn need → 1 + name_parts_count (name_form_at p name) ≡ j → j + 1 ≡ n → has_form p.linked row.operand name ≡ true → Takes row 0 (runtime (multiname_at p.linked name)) f n (operand_at 0 f ∷ operand_at j f ∷ []) (parts_for (name_form_at p name) 1 f)
valued_taken p row j n name f need o t own sum all form =
    let m = multiname_at p.linked name in
    let parts = runtime m in
    let is = name_tested p row name o form in
    let many = counted p m is in
    let one = one_needed parts need f own in
    let long = length-append parts (flat_map (parts_of_need parts) (need ∷ [])) in
    let total : 0 + length (OneValue ∷ (parts ++ flat_map (parts_of_need parts) (need ∷ []))) ≡ n = omega (arith, long, one, many, sum, all) in
    let past : 1 + length parts ≡ j = omega (arith, many, sum) in
    record {
      needed = ap (λ (ns : List Need). 0 + length (flat_map (parts_of_need parts) ns)) t ∙ total;
      values = λ b.
          ap (λ (ns : List Need). values_of ns (length parts) f.stack) t
          ∙ ap (values_of (OneValue ∷ Runtime ∷ need ∷ []) (length parts)) (first_there f.stack (omega (arith, b, all)))
          ∙ ap (λ (vs : List Value). operand_at 0 f ∷ values_of (need ∷ []) (length parts) vs) (past_parts f 1 (length parts) j past)
          ∙ ap (λ (vs : List Value). operand_at 0 f ∷ vs) (one_below need f j (length parts) own (omega (arith, b, all)));
      named = λ b.
          ap (λ (ns : List Need). name_values ns (length parts) f.stack) t
          ∙ ap (name_values (OneValue ∷ Runtime ∷ need ∷ []) (length parts)) (first_there f.stack (omega (arith, b, all)))
          ∙ parts_at_place p m 1 f is (omega (arith, b, past, all));
    }
