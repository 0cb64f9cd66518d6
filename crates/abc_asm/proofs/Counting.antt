-- Lines whose other faults depend on the lines that follow them.
use Rattle.std.proofs.Common.{◌≡◌, ℕ, Bool, true, false, cond, nat_le, List, [], ◌∷◌, ◌++◌, Ok, Err, Some, None, refl, sym, ap, ◌∙◌, append-nil, arith}
use Rattle.std.proofs.lemmas.Bool.Decides.{nat_tests}
use Rattle.std.specs.declared.option.Option.{Option}
use Rattle.std.specs.declared.result.Result.{Result}
use Rattle.abc_text_lines.specs.declared.reason.AsmReason.{AsmReason}
use Rattle.abc_text_lines.specs.declared.reason.AsmReason.TheVariants as reasons
use Rattle.abc_text_lines.specs.declared.word.Word.{Word}
use Rattle.abc_text_lines.specs.Reasons.{least, lesser, rank_of_reason}
use Rattle.abc_file_types.specs.declared.tables.Sizes.{Sizes}
use Rattle.abc_text_lines.specs.Firsts.{value_or_reason}
use Rattle.abc_text_lines.specs.Lines.{Label, Row}
use Rattle.abc_text_lines.specs.Tokens.{Token}
use Rattle.abc_text_lines.specs.File.{count_unless, extra, faults, others, own}
use Rattle.abc_text_operands.specs.Joined.{earlier_reason, both_or_reason, map_operand}
use Rattle.abc_text_tokens.specs.Walks.{tokens_of}
use Rattle.abc_text_reader.specs.declared.reader.Reader.{Reader}
use Rattle.abc_text_reader.specs.declared.reader.Taken.{Taken}
use Rattle.abc_text_reader.specs.Parts.{head_says}
use Rattle.abc_text_reader.specs.Reading.{labels_now, row_of, rows_left}
use Rattle.abc_text_reader.proofs.Lone.{no_extra, once_faults}
use Rattle.abc_asm.specs.Counted.{fault_unless, with_fault}

-- ---- one reason more

le_le : (a b c : ℕ) → nat_le a b ≡ true → nat_le b c ≡ true → nat_le a c ≡ true
le_le a b c x y = grind (arith, nat_tests)

not_le_le : (a b c : ℕ) → nat_le a b ≡ false → nat_le b c ≡ false → nat_le a c ≡ false
not_le_le a b c x y = grind (arith, nat_tests)

least_two : (f s t : AsmReason) (a b c : Bool) → nat_le (rank_of_reason f) (rank_of_reason s) ≡ a → nat_le (rank_of_reason s) (rank_of_reason t) ≡ b → nat_le (rank_of_reason f) (rank_of_reason t) ≡ c → cond b (cond a f s) (cond c f t) ≡ cond a (cond c f t) (cond b s t)
least_two f s t true true true x y z = refl
least_two f s t true true false x y z = absurd (let v : true ≡ false = sym (le_le (rank_of_reason f) (rank_of_reason s) (rank_of_reason t) x y) ∙ z in cc)
least_two f s t true false c x y z = refl
least_two f s t false true c x y z = refl
least_two f s t false false true x y z = absurd (let v : true ≡ false = sym z ∙ not_le_le (rank_of_reason f) (rank_of_reason s) (rank_of_reason t) x y in cc)
least_two f s t false false false x y z = refl

with_test : (b : Bool) (f s t : AsmReason) → cond (nat_le (rank_of_reason f) (rank_of_reason (cond b s t))) f (cond b s t) ≡ cond b (cond (nat_le (rank_of_reason f) (rank_of_reason s)) f s) (cond (nat_le (rank_of_reason f) (rank_of_reason t)) f t)
with_test true f s t = refl
with_test false f s t = refl

with_front : (a : Bool) (f s t : AsmReason) → cond (nat_le (rank_of_reason (cond a f s)) (rank_of_reason t)) (cond a f s) t ≡ cond a (cond (nat_le (rank_of_reason f) (rank_of_reason t)) f t) (cond (nat_le (rank_of_reason s) (rank_of_reason t)) s t)
with_front true f s t = refl
with_front false f s t = refl

-- the first of a reason, if there is one, and another
abbrev sooner : Option AsmReason → AsmReason → AsmReason
sooner None s = s
sooner (Some r) s = cond (nat_le (rank_of_reason r) (rank_of_reason s)) r s

lesser_sooner : (r : AsmReason) (o : Option AsmReason) (s : AsmReason) → lesser r (Some (sooner o s)) ≡ sooner (Some (lesser r o)) s
lesser_sooner r None s = refl
lesser_sooner r (Some t) s =
    with_test (nat_le (rank_of_reason t) (rank_of_reason s)) r t s
    ∙ least_two r t s (nat_le (rank_of_reason r) (rank_of_reason t)) (nat_le (rank_of_reason t) (rank_of_reason s)) (nat_le (rank_of_reason r) (rank_of_reason s)) refl refl refl
    ∙ sym (with_front (nat_le (rank_of_reason r) (rank_of_reason t)) r t s)

least_last : (rs : List AsmReason) (s : AsmReason) → least (rs ++ s ∷ []) ≡ Some (sooner (least rs) s)
unfolding least
least_last [] s = refl
least_last (r ∷ rs) s = ap (λ (o : Option AsmReason). Some (lesser r o)) (least_last rs s) ∙ ap (λ (t : AsmReason). Some t) (lesser_sooner r (least rs) s)

told_sooner : {H : Type 0} (o : Option AsmReason) (x : H) (s : AsmReason) → value_or_reason (Some (sooner o s)) x ≡ map_operand (λ (y : H × Unit {0}). y.0) (both_or_reason (value_or_reason o x) (Err s))
told_sooner None x s = refl
told_sooner (Some r) x s = refl

told_alone : {H : Type 0} (o : Option AsmReason) (x : H) → value_or_reason o x ≡ map_operand (λ (y : H × Unit {0}). y.0) (both_or_reason (value_or_reason o x) (Ok tt))
told_alone None x = refl
told_alone (Some r) x = refl

-- the function of such a line, by that of two values
pub fault_ok : {H : Type 0} (head : Result H AsmReason) (other : Result (Unit {0}) AsmReason) (fine : Bool) (reason : AsmReason) (x : H × Unit {0}) → other ≡ fault_unless fine reason → Ok x ≡ both_or_reason head other → Ok x.0 ≡ with_fault head fine reason
fault_ok {H} head other fine reason x is e =
    ap (map_operand (λ (y : H × Unit {0}). y.0)) e ∙ ap (λ (o : Result (Unit {0}) AsmReason). map_operand (λ (y : H × Unit {0}). y.0) (both_or_reason head o)) is

pub fault_err : {H : Type 0} (head : Result H AsmReason) (other : Result (Unit {0}) AsmReason) (fine : Bool) (reason s : AsmReason) → other ≡ fault_unless fine reason → Err s ≡ both_or_reason head other → Err s ≡ with_fault head fine reason
fault_err {H} head other fine reason s is e =
    ap (map_operand (λ (y : H × Unit {0}). y.0)) e ∙ ap (λ (o : Result (Unit {0}) AsmReason). map_operand (λ (y : H × Unit {0}). y.0) (both_or_reason head o)) is

abbrev pub unless_fine : Bool → AsmReason → List AsmReason
unless_fine fine reason = cond fine [] (reason ∷ [])

pub fault_says : {H : Type 0} (rs : List AsmReason) (x : H) (b : Bool) (s : AsmReason) → with_fault (value_or_reason (least rs) x) b s ≡ value_or_reason (least (rs ++ unless_fine b s)) x
fault_says rs x true s = sym (told_alone (least rs) x) ∙ ap (λ (l : List AsmReason). value_or_reason (least l) x) (sym (append-nil rs))
fault_says rs x false s = sym (told_sooner (least rs) x s) ∙ ap (λ (o : Option AsmReason). value_or_reason o x) (sym (least_last rs s))

-- ---- a line's value as the code has it

pub unmapped : {A B : Type 0} (f : A → B) (g : B → A) → ((a : A) → g (f a) ≡ a) → (r : Result A AsmReason) (o : Option AsmReason) (x : B) → map_operand f r ≡ value_or_reason o x → r ≡ value_or_reason o (g x)
unmapped {A} f g back (Ok a) None x e = let same : f a ≡ x = cc in ap (λ (z : A). Ok z) (sym (back a) ∙ ap g same)
unmapped f g back (Ok a) (Some s) x e = absurd cc
unmapped f g back (Err r) None x e = absurd cc
unmapped f g back (Err r) (Some s) x e = let same : r ≡ s = cc in ap (λ (z : AsmReason). Err z) same

module _ (r : Reader) (taken : Taken) (w : Word) (is : taken.word ≡ w) (once : taken.repeated ≡ false) where
  abbrev v : Sizes
  v = r.sizes

  abbrev head : Row
  head = row_of taken r

  abbrev after : List Row
  after = rows_left r

  abbrev labels : List Label
  labels = labels_now r.body

  abbrev tokens : List Token
  tokens = tokens_of r.operands.items

  module _ {C S : Type 0} (f : C → S) (g : S → C) (back : (a : C) → g (f a) ≡ a) (value : Sizes → List Label → List Token → S) (said : Result C AsmReason) (says : map_operand f said ≡ value_or_reason (least (own v r.instances w labels tokens)) (value v labels tokens)) (extra_none : extra v r.instances head after w ≡ []) where
    abbrev code_value : Sizes → List Label → List Token → C
    code_value z ls ts = g (value z ls ts)

    code_says : said ≡ value_or_reason (least (own v r.instances w labels tokens)) (g (value v labels tokens))
    code_says = unmapped f g back said (least (own v r.instances w labels tokens)) (value v labels tokens) says

    all_faults : faults v r.instances head after ≡ own v r.instances w labels tokens ++ (others v r.instances head after w ++ [])
    all_faults = no_extra v r.instances head after w is extra_none ∙ once_faults v r.instances head after w is refl once

    pub head_counted : (b : Bool) → others v r.instances head after w ≡ count_unless b → with_fault said b reasons.Count ≡ head_says code_value taken r
    head_counted b other =
        ap (λ (s : Result C AsmReason). with_fault s b reasons.Count) code_says
        ∙ fault_says (own v r.instances w labels tokens) (g (value v labels tokens)) b reasons.Count
        ∙ ap (λ (l : List AsmReason). value_or_reason (least (own v r.instances w labels tokens ++ l)) (g (value v labels tokens))) (sym (append-nil (count_unless b)))
        ∙ ap (λ (l : List AsmReason). value_or_reason (least (own v r.instances w labels tokens ++ (l ++ []))) (g (value v labels tokens))) (sym other)
        ∙ ap (λ (l : List AsmReason). value_or_reason (least l) (g (value v labels tokens))) (sym all_faults)

    pub head_plain : others v r.instances head after w ≡ [] → said ≡ head_says code_value taken r
    head_plain other =
        code_says
        ∙ ap (λ (l : List AsmReason). value_or_reason (least l) (g (value v labels tokens))) (sym (append-nil (own v r.instances w labels tokens)))
        ∙ ap (λ (l : List AsmReason). value_or_reason (least (own v r.instances w labels tokens ++ (l ++ []))) (g (value v labels tokens))) (sym other)
        ∙ ap (λ (l : List AsmReason). value_or_reason (least l) (g (value v labels tokens))) (sym all_faults)
