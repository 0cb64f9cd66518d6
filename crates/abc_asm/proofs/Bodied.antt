-- A body, with its line's own fault that asks what is read below it.
use Rattle.std.proofs.Common.{◌≡◌, ℕ, ◌≤◌, ◌-◌, ◌^◌, min, Bool, true, false, cond, not, ◌&&◌, nat_le, List, [], ◌∷◌, ◌++◌, length, Ok, Err, Some, None, refl, sym, ap, subst, ◌∙◌, append-nil, arith}
use Rattle.std.proofs.lemmas.Bool.Decides.{nat_tests}
use Rattle.std.specs.declared.option.Option.{Option}
use Rattle.std.specs.declared.result.Result.{Result}
use Rattle.abc_text_lines.specs.declared.reason.AsmReason.{AsmReason}
use Rattle.abc_text_lines.specs.declared.reason.AsmReason.TheVariants as reasons
use Rattle.abc_text_lines.specs.declared.word.Word.{Word}
use Rattle.abc_text_lines.specs.declared.word.Word.TheVariants as words
use Rattle.abc_text_lines.specs.Reasons.{least}
use Rattle.abc_text_lines.specs.Tokens.{Token}
use Rattle.abc_file_types.specs.declared.code.Body.{Body}
use Rattle.abc_file_types.specs.declared.code.Handler.{Handler}
use Rattle.abc_file_types.specs.declared.code.Instr.{Instr}
use Rattle.abc_file_types.specs.declared.tables.Sizes.{Sizes}
use Rattle.abc_file_types.specs.declared.traits.TraitInfo.{TraitInfo}
use Rattle.abc_file_types.specs.CodeBytes.{code_len}
use Rattle.abc_text_lines.specs.Firsts.{value_or_reason}
use Rattle.abc_text_lines.specs.Lines.{Label, Row}
use Rattle.abc_text_lines.specs.Rows.{Fault, fault, unless, ◌>>=◌}
use Rattle.abc_text_lines.specs.Wordlines.{if_none, plain_faults, repeat_reason}
use Rattle.abc_text_lines.specs.File as file
use Rattle.abc_text_lines.specs.File.{ends_body, extra, faults, long_code, others, own, rules}
use Rattle.abc_text_lines.specs.Lineforms as forms
use Rattle.abc_text_tokens.specs.Walks.{tokens_of}
use Rattle.abc_text_tokens.specs.declared.token.Token as code
use Rattle.abc_text_operands.specs.Heads.{as_body}
use Rattle.abc_text_operands.specs.Joined.{line_result, map_operand}
use Rattle.abc_text_operands.specs.declared.lines.BodyHead.{BodyHead}
use Rattle.abc_text_reader.specs.declared.error.AsmError.{AsmError}
use Rattle.abc_text_reader.specs.declared.error.AsmError.TheVariants as errors
use Rattle.abc_text_reader.specs.declared.reader.Reader.{Reader}
use Rattle.abc_text_reader.specs.declared.reader.Taken.{Taken}
use Rattle.abc_text_reader.specs.Parts.{GivesPart, ReadsItem, ReadsTextPart, valued_at}
use Rattle.abc_text_reader.specs.Reading.{Goes, labels_now, row_of, rows_left}
use Rattle.abc_text_reader.proofs.Lone.{whole_faults}
use Rattle.abc_text_reader.proofs.Pairs.{item_is, told_none, told_some}
use Rattle.abc_asm.specs.Below.{body_below, body_item, body_made, body_from_below, body_value}
use Rattle.abc_asm.specs.declared.bodies.BodyBelow.{BodyBelow}
use Rattle.abc_asm.specs.Counted.{with_fault}
use Rattle.abc_asm.proofs.Alike.{Reading, as_other}
use Rattle.abc_asm.proofs.Beneath.{ends_same}
use Rattle.abc_asm.proofs.Bodying.{plain_below, plainly}
use Rattle.abc_asm.proofs.Counting.{fault_says, unless_fine, unmapped}

-- a sum that stops tells as well whether it is great
capped_le : (n len : ℕ) → len ≡ min n (2 ^ 64 - 1) → nat_le (2 ^ 23) n ≡ nat_le (2 ^ 23) len
capped_le n len e = grind (arith, nat_tests)

nil_of : (l : List AsmReason) → least l ≡ None → l ≡ []
unfolding least
nil_of [] e = refl
nil_of (r ∷ rs) e = absurd cc

some_first : (l more : List AsmReason) (r : AsmReason) → least l ≡ Some r → least (l ++ if_none l more) ≡ Some r
unfolding least
some_first [] more r e = absurd cc
some_first (s ∷ rs) more r e = ap (λ (l : List AsmReason). least l) (append-nil (s ∷ rs)) ∙ e

other_err : {A B : Type 0} (f : A → B) (r : Reading A) (d : Fault) → as_other f r ≡ Err d → r ≡ Err d
other_err f (Ok x) d e = absurd cc
other_err {A} f (Err c) d e = let same : c ≡ d = cc in let bad : Fault → Reading A = λ g. Err g in ap bad same

abbrev read_as : {B : Type 0} → B × List Row → Reading B
read_as x = Ok x

record IsOther {A B : Type 0} (f : A → B) (r : Reading A) (y : B) (left : List Row) : Type 0 where
  value : A
  is : r ≡ Ok (value, left)
  same : f value ≡ y

same_read : {B : Type 0} (a b : B × List Row) → read_as a ≡ read_as b → a ≡ b
same_read a b e = cc

other_ok : {A B : Type 0} (f : A → B) (r : Reading A) (y : B) (left : List Row) → as_other f r ≡ Ok (y, left) → IsOther f r y left
other_ok {A} {B} f (Ok x) y left e =
    let same = same_read (f x.0, x.1) (y, left) e in
    let value : f x.0 ≡ y = ap (λ (z : B × List Row). z.0) same in
    let rest : x.1 ≡ left = ap (λ (z : B × List Row). z.1) same in
    let pair : List Row → Reading A = λ l. Ok (x.0, l) in
    record { value = x.0; is = ap pair rest; same = value }
other_ok f (Err d) y left e = absurd cc

abbrev body_head : forms.BodyHead → BodyHead
body_head b = record { method = b.method; max_stack = b.max_stack; local_count = b.local_count; init_scope = b.init_scope; max_scope = b.max_scope }

module _ (old mid : Reader) (taken : Taken) (word : taken.word ≡ words.Body) (opens : rows_left old ≡ row_of taken mid ∷ rows_left mid) (goes : Goes old mid) where
  abbrev v : Sizes
  v = old.sizes

  abbrev i : ℕ
  i = old.instances

  abbrev head : Row
  head = row_of taken mid

  abbrev after : List Row
  after = rows_left mid

  abbrev labels : List Label
  labels = labels_now mid.body

  abbrev tokens : List Token
  tokens = tokens_of mid.operands.items

  abbrev plain : List AsmReason
  plain = plain_faults (rules v i) head after

  abbrev again : List AsmReason
  again = cond taken.repeated (reasons.SecondBody ∷ []) []

  abbrev h : BodyHead
  h = body_value v labels tokens

  abbrev read : Reading (List Instr × (List Handler × List TraitInfo))
  read = (file.body_below v i (plainly v i) (length after)).reads after

  pub plain_is : plain ≡ own v i words.Body labels tokens ++ again
  plain_is =
      whole_faults v i head after refl
      ∙ ap (λ (w : Word). own v i w labels tokens ++ (others v i head after w ++ cond taken.repeated (repeat_reason w ∷ []) [])) word

  again_is : (b : Bool) → unless_fine (not b) reasons.SecondBody ≡ cond b (reasons.SecondBody ∷ []) []
  again_is true = refl
  again_is false = refl

  -- what the line's function says of the operands that the reader found
  pub line_says : (said : Result BodyHead AsmReason) (ts : List code.Token) → ts ≡ mid.operands.items → ((ls : List Label) → map_operand as_body said ≡ line_result (forms.body_line mid.sizes) ls (tokens_of ts)) → with_fault said (not taken.repeated) reasons.SecondBody ≡ value_or_reason (least plain) h
  line_says said ts same says =
      let own_faults = own v i words.Body labels tokens in
      let here : map_operand as_body said ≡ line_result (forms.body_line v) labels tokens =
      subst (λ (z : Sizes). map_operand as_body said ≡ line_result (forms.body_line z) labels tokens) goes.sizes
      (subst (λ (l : List code.Token). map_operand as_body said ≡ line_result (forms.body_line mid.sizes) labels (tokens_of l)) same (says labels)) in
      let is : said ≡ value_or_reason (least own_faults) h = unmapped as_body body_head (λ b. refl) said (least own_faults) ((forms.body_line v).value labels tokens) here in
      ap (λ (r : Result BodyHead AsmReason). with_fault r (not taken.repeated) reasons.SecondBody) is
      ∙ fault_says own_faults h (not taken.repeated) reasons.SecondBody
      ∙ ap (λ (l : List AsmReason). value_or_reason (least (own_faults ++ l)) h) (again_is taken.repeated)
      ∙ ap (λ (l : List AsmReason). value_or_reason (least l) h) (sym plain_is)

  extra_is : extra v i head after taken.word ≡ long_code v i read
  extra_is = ap (λ (w : Word). extra v i head after w) word

  abbrev item_by : Option AsmReason → Reading BodyBelow → Reading Body
  item_by o r = unless o taken.number (r >>= λ y. Ok (body_from_below h y.0, y.1))

  item_at : (n : ℕ) (row : Row) (rows : List Row) → rows_left old ≡ row ∷ rows → body_item v i n row rows ≡ item_by (least (faults v i head after)) (body_below v i n after)
  item_at n row rows e = item_is body_value body_below body_from_below old mid taken opens goes n row rows e

  -- the line has a fault of its own
  pub own_fails : (new : Reader) (r : AsmReason) → Err r ≡ value_or_reason (least plain) h → ReadsItem body_item old new (Err (errors.Refused taken.number r))
  own_fails new r is n row rows le e =
      item_at n row rows e
      ∙ ap (λ (o : Option AsmReason). item_by o (body_below v i n after)) (some_first plain (extra v i head after taken.word) r (told_some body_value body_below body_from_below (least plain) h r is))

  pub head_fails : (new : Reader) (r : Result BodyHead AsmReason) (d : AsmError) → r ≡ value_or_reason (least plain) h → Err d ≡ valued_at taken.number r → ReadsItem body_item old new (Err d)
  head_fails new (Ok x) d is e = absurd cc
  head_fails new (Err s) d is e =
      let same : d ≡ errors.Refused taken.number s = cc in
      subst (λ (z : AsmError). ReadsItem body_item old new (Err z)) (sym same) (own_fails new s is)

  pub head_fine : (r : Result BodyHead AsmReason) (x : BodyHead) → r ≡ value_or_reason (least plain) h → Ok x ≡ valued_at taken.number r → Ok x ≡ value_or_reason (least plain) h
  head_fine (Ok y) x is e = let same : x ≡ y = cc in let good : BodyHead → Result BodyHead AsmReason = λ z. Ok z in ap good same ∙ is
  head_fine (Err s) x is e = absurd cc

  faults_are : (x : BodyHead) → Ok x ≡ value_or_reason (least plain) h → faults v i head after ≡ long_code v i read
  faults_are x is =
      let none : plain ≡ [] = nil_of plain (told_none body_value body_below body_from_below (least plain) h x is).0 in
      ap (λ (l : List AsmReason). l ++ if_none l (extra v i head after taken.word)) none ∙ extra_is

  -- what is read below, by the sizes that were first
  below_at : (new : Reader) (result : Result BodyBelow AsmError) → ReadsTextPart body_below mid new result → (n : ℕ) → length after ≤ n → GivesPart (rows_left new) result (body_below v i n after)
  below_at new result reads n le =
      subst (λ (k : ℕ). GivesPart (rows_left new) result (body_below v k n after)) goes.instances
      (subst (λ (z : Sizes). GivesPart (rows_left new) result (body_below z mid.instances n after)) goes.sizes (reads n le))

  few : (n : ℕ) → length (rows_left old) ≤ n → length after ≤ n
  few n le = let fewer = goes.fewer in omega arith

  no_fault : (r : Reading BodyBelow) → item_by (least []) r ≡ item_by None r
  unfolding least
  no_fault r = refl

  one_fault : (r : Reading BodyBelow) → item_by (least (reasons.CodeTooLong ∷ [])) r ≡ Err (fault taken.number reasons.CodeTooLong)
  unfolding least
  one_fault r = refl

  -- a line below has a fault
  pub below_fails : (new : Reader) (x : BodyHead) (e : AsmError) → Ok x ≡ value_or_reason (least plain) h → ReadsTextPart body_below mid new (Err e) → ReadsItem body_item old new (Err e)
  below_fails new x (errors.Refused line reason) is reads n row rows le e =
      let bad : read ≡ Err (fault line reason) = other_err body_made read (fault line reason) (plain_below v i (length after) after ∙ below_at new (Err (errors.Refused line reason)) reads (length after) (omega arith)) in
      let none : faults v i head after ≡ [] = faults_are x is ∙ ap (λ (r : Reading (List Instr × (List Handler × List TraitInfo))). long_code v i r) bad in
      item_at n row rows e
      ∙ ap (λ (l : List AsmReason). item_by (least l) (body_below v i n after)) none
      ∙ no_fault (body_below v i n after)
      ∙ ap (λ (r : Reading BodyBelow). item_by None r) (below_at new (Err (errors.Refused line reason)) reads n (few n le))
  below_fails new x errors.NoMemory is reads n row rows le e = tt

  module _ (new : Reader) (x : BodyHead) (y : BodyBelow) (is : Ok x ≡ value_or_reason (least plain) h) (reads : ReadsTextPart body_below mid new (Ok y)) where
    abbrev left : List Row
    left = rows_left new

    long_is : long_code v i read ≡ cond (ends_body v i left && nat_le (2 ^ 23) (code_len y.code)) (reasons.CodeTooLong ∷ []) []
    long_is =
        let o = other_ok body_made read y left (plain_below v i (length after) after ∙ below_at new (Ok y) reads (length after) (omega arith)) in
        ap (λ (r : Reading (List Instr × (List Handler × List TraitInfo))). long_code v i r) o.is
        ∙ ap (λ (b : BodyBelow). cond (ends_body v i left && nat_le (2 ^ 23) (code_len b.code)) (reasons.CodeTooLong ∷ []) []) o.same

    module _ (len : ℕ) (sum : len ≡ min (code_len y.code) (2 ^ 64 - 1)) where
      -- what is told of the code, by the sizes that are known behind the lines
      long_by : (b : Bool) → b ≡ (ends_body new.sizes new.instances left && nat_le (2 ^ 23) len) → (ends_body v i left && nat_le (2 ^ 23) (code_len y.code)) ≡ b
      long_by b e = ap (λ (t : Bool). ends_body v i left && t) (capped_le (code_len y.code) len sum) ∙ ap (λ (t : Bool). t && nat_le (2 ^ 23) len) (ends_same v new.sizes i new.instances left) ∙ sym e

      -- the code is too long
      pub too_long : (b : Bool) → b ≡ (ends_body new.sizes new.instances left && nat_le (2 ^ 23) len) → b ≡ true → ReadsItem body_item old new (Err (errors.Refused taken.number reasons.CodeTooLong))
      too_long b by is_long n row rows le f =
          let e = long_by b by ∙ is_long in
          let all : faults v i head after ≡ reasons.CodeTooLong ∷ [] = faults_are x is ∙ long_is ∙ ap (λ (b : Bool). cond b (reasons.CodeTooLong ∷ []) []) e in
          item_at n row rows f
          ∙ ap (λ (l : List AsmReason). item_by (least l) (body_below v i n after)) all
          ∙ one_fault (body_below v i n after)

      -- it isn't
      pub body_fine : (b : Bool) → b ≡ (ends_body new.sizes new.instances left && nat_le (2 ^ 23) len) → b ≡ false → (z : Body) → z ≡ body_from_below x y → ReadsItem body_item old new (Ok z)
      body_fine b by is_short z made n row rows le f =
          let e = long_by b by ∙ is_short in
          let none : faults v i head after ≡ [] = faults_are x is ∙ long_is ∙ ap (λ (b : Bool). cond b (reasons.CodeTooLong ∷ []) []) e in
          let value : h ≡ x = (told_none body_value body_below body_from_below (least plain) h x is).1 in
          item_at n row rows f
          ∙ ap (λ (l : List AsmReason). item_by (least l) (body_below v i n after)) none
          ∙ no_fault (body_below v i n after)
          ∙ ap (λ (r : Reading BodyBelow). item_by None r) (below_at new (Ok y) reads n (few n le))
          ∙ ap (λ (b : BodyHead). Ok (body_from_below b y, left)) value
          ∙ ap (λ (b : Body). Ok (b, left)) (sym made)
