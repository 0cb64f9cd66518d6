-- Operands of one form, one further.
use Rattle.std.proofs.Common.{◌≡◌, ℕ, zero, suc, ◌+◌, ◌<◌, ◌≤◌, ◌⊎◌, inl, inr, Bool, true, false, cond, nat_le, List, [], ◌∷◌, ◌++◌, length, map, drop, get_or, Some, None, Ok, Err, refl, sym, ap, ◌∙◌, add-one, append_assoc, append-nil, arith}
use Rattle.std.proofs.Math.Seq.{drop-cons}
use Rattle.std.proofs.lemmas.Bool.Decides.{nat_tests}
use Rattle.std.specs.declared.option.Option.{Option}
use Rattle.std.specs.declared.result.Result.{Result}
use Rattle.abc_text_lines.specs.declared.reason.AsmReason.{AsmReason}
use Rattle.abc_text_lines.specs.Reasons.{least, rank_of_reason}
use Rattle.abc_text_lines.specs.Tokens.{Token}
use Rattle.abc_text_lines.proofs.Bools.{split_bool}
use Rattle.abc_text_lines.specs.Firsts.{value_or_reason}
use Rattle.abc_text_lines.specs.Lines.{Label}
use Rattle.abc_text_lines.specs.Operands.{Operand, any_number, entry_upto, reasons_in, several, several_faults, several_value, value_or}
use Rattle.abc_file_types.specs.declared.tables.Sizes.{Sizes}
use Rattle.abc_text_lines.specs.Lineforms.{set_line}
use Rattle.abc_text_tokens.specs.declared.token.Token as code
use Rattle.abc_text_tokens.specs.Walks.{token_as_text, tokens_of}
use Rattle.abc_text_operands.specs.Joined.{earlier_reason, both_or_reason, line_result, map_operand}
use Rattle.abc_text_operands.proofs.Joining.{joined_is}
use Rattle.abc_text_operands.specs.Each.{each_result, onto_operands, so_far, sooner}

told_cons : (o : Option AsmReason) (x : ℕ) (xs : List ℕ) → value_or_reason o (x ∷ xs) ≡ map_operand (λ (y : ℕ × List ℕ). y.0 ∷ y.1) (value_or_reason o (x, xs))
told_cons None x xs = refl
told_cons (Some r) x xs = refl

-- any number of operands are read as each is
pub several_is : (p : Operand ℕ) (labels : List Label) (ts : List Token) → line_result (several p) labels ts ≡ each_result (p.reads labels) ts
unfolding least
several_is p labels [] = refl
several_is p labels (t ∷ ts) =
    let a = p.reads labels t in
    let fs = several_faults p labels ts in
    let vs = several_value p labels ts in
    told_cons (least (reasons_in a ++ fs)) (value_or a p.default) vs ∙ ap (map_operand (λ (y : ℕ × List ℕ). y.0 ∷ y.1)) (joined_is a fs vs p.default ∙ ap (both_or_reason a) (several_is p labels ts))

-- ---- one token further

abbrev rest_of : (Token → Result ℕ AsmReason) → List code.Token → ℕ → Result (List ℕ) AsmReason
rest_of read ts i = each_result read (tokens_of (drop i ts))

each_at : (read : Token → Result ℕ AsmReason) (ts : List code.Token) (i : ℕ) (t : code.Token) → i < length ts → t ≡ get_or ts i t → rest_of read ts i ≡ map_operand (λ (y : ℕ × List ℕ). y.0 ∷ y.1) (both_or_reason (read (token_as_text t)) (rest_of read ts (i + 1)))
each_at read ts i t lt is =
    let cut : drop i ts ≡ t ∷ drop (i + 1) ts = rw add-one (drop-cons ts i t lt) ∙ ap (λ (x : code.Token). x ∷ drop (i + 1) ts) (sym is) in
    ap (λ (l : List code.Token). each_result read (tokens_of l)) cut

step_ok : (xs : List ℕ) (n : ℕ) (r : Result (List ℕ) AsmReason) → onto_operands (Ok xs) (map_operand (λ (y : ℕ × List ℕ). y.0 ∷ y.1) (both_or_reason (Ok n) r)) ≡ onto_operands (Ok (xs ++ n ∷ [])) r
step_ok xs n (Ok ys) = ap (λ (l : List ℕ). Ok l) (sym (append_assoc xs (n ∷ []) ys))
step_ok xs n (Err r) = refl

step_skip : (f : AsmReason) (n : ℕ) (r : Result (List ℕ) AsmReason) → onto_operands (Err f) (map_operand (λ (y : ℕ × List ℕ). y.0 ∷ y.1) (both_or_reason (Ok n) r)) ≡ onto_operands (Err f) r
step_skip f n (Ok ys) = refl
step_skip f n (Err r) = refl

least_two : (f s t : AsmReason) (a b c : Bool) → nat_le (rank_of_reason f) (rank_of_reason s) ≡ a → nat_le (rank_of_reason s) (rank_of_reason t) ≡ b → nat_le (rank_of_reason f) (rank_of_reason t) ≡ c → cond b (cond a f s) (cond c f t) ≡ cond a (cond c f t) (cond b s t)
least_two f s t true true true x y z = refl
least_two f s t true true false x y z = absurd (let u : nat_le (rank_of_reason f) (rank_of_reason t) ≡ true = grind (arith, nat_tests) in let v : true ≡ false = sym u ∙ z in cc)
least_two f s t true false c x y z = refl
least_two f s t false true c x y z = refl
least_two f s t false false true x y z = absurd (let u : nat_le (rank_of_reason f) (rank_of_reason t) ≡ false = grind (arith, nat_tests) in let v : true ≡ false = sym z ∙ u in cc)
least_two f s t false false false x y z = refl

with_test : (b : Bool) (f s t : AsmReason) → cond (nat_le (rank_of_reason f) (rank_of_reason (cond b s t))) f (cond b s t) ≡ cond b (cond (nat_le (rank_of_reason f) (rank_of_reason s)) f s) (cond (nat_le (rank_of_reason f) (rank_of_reason t)) f t)
with_test true f s t = refl
with_test false f s t = refl

with_front : (a : Bool) (f s t : AsmReason) → cond (nat_le (rank_of_reason (cond a f s)) (rank_of_reason t)) (cond a f s) t ≡ cond a (cond (nat_le (rank_of_reason f) (rank_of_reason t)) f t) (cond (nat_le (rank_of_reason s) (rank_of_reason t)) s t)
with_front true f s t = refl
with_front false f s t = refl

step_err : (first : Option AsmReason) (items : List ℕ) (s : AsmReason) (r : Result (List ℕ) AsmReason) → onto_operands (so_far first items) (map_operand (λ (y : ℕ × List ℕ). y.0 ∷ y.1) (both_or_reason {A = ℕ} (Err s) r)) ≡ onto_operands (Err (sooner first s)) r
step_err None items s r = refl
step_err (Some f) items s (Ok ys) = refl
step_err (Some f) items s (Err t) =
    ap (λ (x : AsmReason). Err x) (with_test (nat_le (rank_of_reason s) (rank_of_reason t)) f s t ∙ least_two f s t (nat_le (rank_of_reason f) (rank_of_reason s)) (nat_le (rank_of_reason s) (rank_of_reason t)) (nat_le (rank_of_reason f) (rank_of_reason t)) refl refl refl ∙ sym (with_front (nat_le (rank_of_reason f) (rank_of_reason s)) f s t))

-- what stands at a place, whatever stands for what is past the end
any_default : (ts : List code.Token) (i : ℕ) (d : code.Token) → i < length ts → get_or ts i d ≡ get_or ts i (get_or ts i d)
any_default [] i d lt = absurd (omega arith)
any_default (t ∷ ts) zero d lt = refl
any_default (t ∷ ts) (suc i) d lt = any_default ts i d (omega arith)

-- a value more, or a reason more
pub value_more : (read : Token → Result ℕ AsmReason) (ts : List code.Token) (i n : ℕ) (d : code.Token) (first : Option AsmReason) (items : List ℕ) (all : Result (List ℕ) AsmReason) → i < length ts → Ok n ≡ read (token_as_text (get_or ts i d)) → onto_operands (so_far first items) (rest_of read ts i) ≡ all → onto_operands (so_far first (items ++ n ∷ [])) (rest_of read ts (i + 1)) ≡ all
value_more read ts i n d None items all lt e was = sym (step_ok items n (rest_of read ts (i + 1))) ∙ sym (ap (onto_operands (Ok items)) (each_at read ts i (get_or ts i d) lt (any_default ts i d lt) ∙ ap (λ (r : Result ℕ AsmReason). map_operand (λ (y : ℕ × List ℕ). y.0 ∷ y.1) (both_or_reason r (rest_of read ts (i + 1)))) (sym e))) ∙ was
value_more read ts i n d (Some f) items all lt e was = sym (step_skip f n (rest_of read ts (i + 1))) ∙ sym (ap (onto_operands (Err f)) (each_at read ts i (get_or ts i d) lt (any_default ts i d lt) ∙ ap (λ (r : Result ℕ AsmReason). map_operand (λ (y : ℕ × List ℕ). y.0 ∷ y.1) (both_or_reason r (rest_of read ts (i + 1)))) (sym e))) ∙ was

pub reason_more : (read : Token → Result ℕ AsmReason) (ts : List code.Token) (i : ℕ) (s : AsmReason) (d : code.Token) (first : Option AsmReason) (items : List ℕ) (all : Result (List ℕ) AsmReason) → i < length ts → Err s ≡ read (token_as_text (get_or ts i d)) → onto_operands (so_far first items) (rest_of read ts i) ≡ all → onto_operands (so_far (Some (sooner first s)) items) (rest_of read ts (i + 1)) ≡ all
reason_more read ts i s d first items all lt e was = sym (step_err first items s (rest_of read ts (i + 1))) ∙ sym (ap (onto_operands (so_far first items)) (each_at read ts i (get_or ts i d) lt (any_default ts i d lt) ∙ ap (λ (r : Result ℕ AsmReason). map_operand (λ (y : ℕ × List ℕ). y.0 ∷ y.1) (both_or_reason r (rest_of read ts (i + 1)))) (sym e))) ∙ was

pub all_ok : (items : List ℕ) (all : Result (List ℕ) AsmReason) → onto_operands (Ok items) (Ok []) ≡ all → all ≡ Ok items
all_ok items all e = sym e ∙ ap (λ (l : List ℕ). Ok l) (append-nil items)

pub each_begin : (r : Result (List ℕ) AsmReason) → onto_operands (Ok []) r ≡ r
each_begin (Ok xs) = refl
each_begin (Err s) = refl
