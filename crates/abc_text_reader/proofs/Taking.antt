-- A line is taken.
use Rattle.std.proofs.Common.{◌≡◌, ℕ, ◌+◌, ◌≤◌, ◌<◌, ◌^◌, inl, inr, Bool, true, false, cond, ◌||◌, nat_eq, List, [], ◌∷◌, ◌++◌, length, drop, Ok, Err, Some, None, refl, sym, ap, subst, ◌∙◌, arith}
use Rattle.std.specs.Option.{IsSome}
use Rattle.std.specs.Result.{IfOk}
use Rattle.std.specs.declared.result.Result.{Result}
use Rattle.std.specs.declared.option.Option.{Option}
use Rattle.abc_text_lines.specs.declared.reason.AsmReason.TheVariants as reasons
use Rattle.abc_text_lines.specs.declared.word.Word.{Word}
use Rattle.abc_text_lines.specs.declared.word.Word.TheVariants as words
use Rattle.abc_text_lines.specs.Scanning.{Scan}
use Rattle.abc_text_lines.specs.Words.{place_of}
use Rattle.abc_text_lines.proofs.Bools.{split_bool}
use Rattle.abc_file_types.specs.declared.tables.Sizes.{Sizes}
use Rattle.abc_text_lines.specs.Lines.{Label, Row}
use Rattle.abc_text_lines.proofs.Many.{eq_refl, eq_true}
use Rattle.abc_text_lines.proofs.Wordlines.{same_word}
use Rattle.abc_text_lines.specs.Texts.{Counts, Ends, Raw, Sets, Skips, Step, by_step, is_text_among, is_taken, labels_set, method_named, row_of_raw, rows_of_lines, label_step}
use Rattle.abc_text_tokens.specs.Ahead.{FollowsLine}
use Rattle.abc_text_tokens.specs.Counts.{count_all_raws}
use Rattle.abc_text_tokens.specs.Labels.{LabelsLead}
use Rattle.abc_text_tokens.proofs.Counted.{comes_raws, fewer, stay_numbered}
use Rattle.abc_text_operands.specs.Places.{Places}
use Rattle.abc_text_tokens.specs.Cursor.{AreNumbered, Comes, most_lines, raw_of_line, raws_after, raws_at}
use Rattle.abc_text_tokens.specs.Names.{NameMap}
use Rattle.abc_text_tokens.specs.Walks.{GathersTokens, tokens_of}
use Rattle.abc_text_tokens.specs.declared.line.Line.{Line}
use Rattle.abc_text_tokens.specs.declared.token.Token.{Token}
use Rattle.abc_text_reader.specs.Names.{Same}
use Rattle.abc_text_reader.specs.declared.error.AsmError.TheVariants as errors
use Rattle.abc_text_reader.specs.declared.reader.Reader.{Reader}
use Rattle.abc_text_reader.specs.Reading.{IsLineBroken, IsReader, NotesLine, NotedBody, Opens, labels_now, may_repeat, one_at, raw_with, row_of, rows_left, set_now, word_next}
use Rattle.abc_text_reader.proofs.SetLines.{same_rows}

-- ---- the first of some lines

plain_steps : {A : Type 0} (w : Word) (a b c : A) → may_repeat w ≡ false → by_step (label_step w) a b c c ≡ c
plain_steps words.Body a b c e = absurd cc
plain_steps words.Label a b c e = absurd cc
plain_steps _ a b c e = refl

module _ (labels : List Label) (set taken : List (List ℕ)) (raw : Raw) (raws : List Raw) where
  abbrev at_body : List Row
  at_body = row_of_raw raw (labels_set 0 raws) (is_taken (method_named raw.operands) taken) ∷ rows_of_lines (labels_set 0 raws) [] (method_named raw.operands ++ taken) raws

  abbrev at_label : List Row
  at_label = row_of_raw raw labels (is_text_among raw.name set) ∷ rows_of_lines labels (raw.name ∷ set) taken raws

  abbrev at_other : List Row
  at_other = row_of_raw raw labels false ∷ rows_of_lines labels set taken raws

  pub first_body : raw.word ≡ words.Body → rows_of_lines labels set taken (raw ∷ raws) ≡ at_body
  first_body e = ap (λ (w : Word). by_step (label_step w) at_body at_label at_other at_other) e

  pub first_label : raw.word ≡ words.Label → rows_of_lines labels set taken (raw ∷ raws) ≡ at_label
  first_label e = ap (λ (w : Word). by_step (label_step w) at_body at_label at_other at_other) e

  pub first_other : may_repeat raw.word ≡ false → rows_of_lines labels set taken (raw ∷ raws) ≡ at_other
  first_other e = plain_steps raw.word at_body at_label at_other e

  stepped : (step : Step) → word_next (by_step step at_body at_label at_other at_other) ≡ Some raw.word
  stepped Ends = refl
  stepped Sets = refl
  stepped Counts = refl
  stepped Skips = refl

  pub first_word : word_next (rows_of_lines labels set taken (raw ∷ raws)) ≡ Some raw.word
  first_word = stepped (label_step raw.word)

pub next_word : (r : Reader) (line : Line) → r.next ≡ Some line → Some line.word ≡ word_next (rows_left r)
unfolding rows_left
next_word r line e =
    sym (first_word (labels_now r.body) (set_now r) r.bodied (raw_of_line line) (raws_after line))
    ∙ ap (λ (o : Option Line). word_next (rows_of_lines (labels_now r.body) (set_now r) r.bodied (raws_at o))) (sym e)

pub no_word : (r : Reader) → r.next ≡ None → None ≡ word_next (rows_left r)
unfolding rows_left
no_word r e = ap (λ (o : Option Line). word_next (rows_of_lines (labels_now r.body) (set_now r) r.bodied (raws_at o))) (sym e)

pub some_next : (r : Reader) → r.next ≡ None → IsSome (word_next (rows_left r)) → ⊥
some_next r e some = let none : IsSome {T = Word} None = subst (λ (o : Option Word). IsSome o) (sym (no_word r e)) some in cc

-- ---- what is noted of a line

pub may_not : (w : Word) → ¬ (w ≡ words.Label) → ¬ (w ≡ words.Body) → may_repeat w ≡ false
may_not words.Body label body = absurd (body refl)
may_not words.Label label body = absurd (label refl)
may_not _ label body = refl

pub one_not : (w v : Word) → ¬ (place_of v ≡ 23) → ¬ (w ≡ v) → one_at (place_of v) w ≡ 0
one_not w v apart differs =
    elim (split_bool (nat_eq (place_of w) (place_of v))) [
      | inl e ↦ absurd (differs (same_word w v apart (eq_true (place_of w) (place_of v) e)))
      | inr e ↦ ap (λ (b : Bool). cond b 1 0) e
    ]

pub one_is : (w v : Word) → w ≡ v → one_at (place_of v) w ≡ 1
one_is w v e = ap (λ (b : Bool). cond b 1 0) (eq_refl (place_of w) (place_of v) (ap place_of e))

pub opens_other : (old new : Reader) (line : Line) → may_repeat line.word ≡ false → new.body ≡ old.body → set_now new ≡ set_now old → new.bodied ≡ old.bodied → Opens old new line false
opens_other old new line plain body set bodied broken =
    let raw = raw_with line broken old.operands.items in
    let raws = raws_after line in
    first_other (labels_now old.body) (set_now old) old.bodied raw raws plain
    ∙ ap (λ (o : Option Line). row_of_raw raw (labels_now o) false ∷ rows_of_lines (labels_now o) (set_now old) old.bodied raws) (sym body)
    ∙ ap (λ (names : List (List ℕ)). row_of_raw raw (labels_now new.body) false ∷ rows_of_lines (labels_now new.body) names old.bodied raws) (sym set)
    ∙ ap (λ (taken : List (List ℕ)). row_of_raw raw (labels_now new.body) false ∷ rows_of_lines (labels_now new.body) (set_now new) taken raws) (sym bodied)

pub opens_label : (old new : Reader) (line : Line) (repeated : Bool) → line.word ≡ words.Label → new.body ≡ old.body → new.bodied ≡ old.bodied → repeated ≡ is_text_among line.name.now (set_now old) → Same (set_now new) (line.name.now ∷ set_now old) → Opens old new line repeated
opens_label old new line repeated word body bodied is same broken =
    let raw = raw_with line broken old.operands.items in
    let raws = raws_after line in
    let labels = labels_now old.body in
    let taken = old.bodied in
    let name = line.name.now in
    first_label labels (set_now old) taken raw raws word
    ∙ ap (λ (b : Bool). row_of_raw raw labels b ∷ rows_of_lines labels (name ∷ set_now old) taken raws) (sym is)
    ∙ ap (λ (l : List Row). row_of_raw raw labels repeated ∷ l) (same_rows labels (name ∷ set_now old) (set_now new) taken taken raws (λ n. sym (same n)) (λ n. refl))
    ∙ ap (λ (o : Option Line). row_of_raw raw (labels_now o) repeated ∷ rows_of_lines (labels_now o) (set_now new) taken raws) (sym body)
    ∙ ap (λ (taken : List (List ℕ)). row_of_raw raw (labels_now new.body) repeated ∷ rows_of_lines (labels_now new.body) (set_now new) taken raws) (sym bodied)

pub opens_body : (old new : Reader) (line : Line) (repeated : Bool) → line.word ≡ words.Body → NotedBody old new line repeated → Opens old new line repeated
opens_body old new line repeated word noted broken =
    let raw = raw_with line broken old.operands.items in
    let raws = raws_after line in
    let labels = labels_set 0 raws in
    let taken = old.bodied in
    let methods = method_named (tokens_of old.operands.items) in
    let e : Some line ≡ new.body = sym noted.body in
    let f : [] ≡ set_now new = sym noted.set in
    first_body (labels_now old.body) (set_now old) taken raw raws word
    ∙ ap (λ (b : Bool). row_of_raw raw labels b ∷ rows_of_lines labels [] (methods ++ taken) raws) (sym noted.repeats)
    ∙ ap (λ (l : List Row). row_of_raw raw labels repeated ∷ l) (same_rows labels [] (set_now new) (methods ++ taken) new.bodied raws (λ n. ap (λ (xs : List (List ℕ)). is_text_among n xs) f) (λ n. sym (noted.bodied n)))
    ∙ ap (λ (o : Option Line). row_of_raw raw (labels_now o) repeated ∷ rows_of_lines (labels_now o) (set_now new) new.bodied raws) e

-- a line of another word
pub noted_other : (old new : Reader) (line : Line) → Places old.places (labels_now old.body) → may_repeat line.word ≡ false → new.next ≡ old.next → new.operands.items ≡ old.operands.items → new.sizes ≡ old.sizes → new.instances ≡ old.instances → new.places ≡ old.places → new.body ≡ old.body → set_now new ≡ set_now old → new.bodied ≡ old.bodied → new.instances_left + one_at 14 line.word ≡ old.instances_left → new.classes_left + one_at 20 line.word ≡ old.classes_left → FollowsLine new.next (drop new.place new.ahead.items) → NotesLine old new line false
noted_other old new line places plain next operands sizes all same_places body set bodied instances classes ahead =
    record {
      next = next;
      ahead = ahead;
      operands = operands;
      sizes = sizes;
      all = all;
      places = subst (λ (m : NameMap ℕ). Places m (labels_now new.body)) (sym same_places) (subst (λ (o : Option Line). Places old.places (labels_now o)) (sym body) places);
      opens = opens_other old new line plain body set bodied;
      once = λ h. refl;
      instances = instances;
      classes = classes;
    }

-- a label line
pub noted_label : {E : Type 0} (old new : Reader) (line : Line) (r : Result Bool E) → Places old.places (labels_now old.body) → line.word ≡ words.Label → new.next ≡ old.next → new.operands.items ≡ old.operands.items → new.sizes ≡ old.sizes → new.instances ≡ old.instances → new.places ≡ old.places → new.body ≡ old.body → new.bodied ≡ old.bodied → new.instances_left ≡ old.instances_left → new.classes_left ≡ old.classes_left → IfOk r (λ known. known ≡ is_text_among line.name.now (set_now old)) → FollowsLine new.next (drop new.place new.ahead.items) → IfOk r (λ known. Same (set_now new) (line.name.now ∷ set_now old)) → IfOk r (λ repeated. NotesLine old new line repeated)
noted_label old new line (Ok known) places word next operands sizes all same_places body bodied instances classes was ahead same =
    let no_instance : one_at 14 line.word ≡ 0 = ap (one_at 14) word in
    let no_class : one_at 20 line.word ≡ 0 = ap (one_at 20) word in
    record {
      next = next;
      ahead = ahead;
      operands = operands;
      sizes = sizes;
      all = all;
      places = subst (λ (m : NameMap ℕ). Places m (labels_now new.body)) (sym same_places) (subst (λ (o : Option Line). Places old.places (labels_now o)) (sym body) places);
      opens = opens_label old new line known word body bodied was same;
      once = λ h. let yes : may_repeat line.word ≡ true = ap may_repeat word in absurd cc;
      instances = omega arith;
      classes = omega arith;
    }
noted_label old new line (Err d) places word next operands sizes all same_places body bodied instances classes was ahead same = tt

-- the labels of the lines that come are those of the body
pub noted_places : (m : NameMap ℕ) (line : Line) (next : Option Line) → raws_after line ≡ raws_at next → LabelsLead m (labels_set 0 (raws_at next)) → Places m (labels_now (Some line))
noted_places m line next e leads = subst (λ (raws : List Raw). Places m (labels_set 0 raws)) (sym e) leads

-- a body's line
pub noted_body : {E : Type 0} (old new : Reader) (line : Line) (r : Result Bool E) → line.word ≡ words.Body → IfOk r (λ repeated. NotedBody old new line repeated) → IfOk r (λ repeated. NotesLine old new line repeated)
noted_body old new line (Ok repeated) word noted =
    let no_instance : one_at 14 line.word ≡ 0 = ap (one_at 14) word in
    let no_class : one_at 20 line.word ≡ 0 = ap (one_at 20) word in
    let i = noted.instances in let c = noted.classes in
    record {
      next = noted.next;
      ahead = noted.ahead;
      operands = noted.operands;
      sizes = noted.sizes;
      all = noted.all;
      places = noted.places;
      opens = opens_body old new line repeated word noted;
      once = λ h. let yes : may_repeat line.word ≡ true = ap may_repeat word in absurd cc;
      instances = omega arith;
      classes = omega arith;
    }
noted_body old new line (Err d) word noted = tt

-- ---- what is taken

two_equal : (a b : Bool) (c : Bool) → b ≡ c → (a || b) ≡ (a || c)
two_equal a b c e = ap (λ (x : Bool). a || x) e

raw_is : (line : Line) (ts : List Token) (unclosed : Bool) → GathersTokens line.tail.now ts unclosed → raw_of_line line ≡ raw_with line (line.broken || unclosed) ts
raw_is line ts unclosed gathers =
    let made : Scan → Raw = λ s. record { number = line.number; broken = line.broken || s.broken; word = line.word; name = line.name.now; operands = s.tokens } in
    ap made gathers

-- the lines that were left are the line and those that are left now
pub taken_is : (old mid new : Reader) (line : Line) (repeated unclosed : Bool) (number count : ℕ) → NotesLine mid new line repeated → old.next ≡ Some line → mid.body ≡ old.body → set_now mid ≡ set_now old → mid.bodied ≡ old.bodied → GathersTokens line.tail.now mid.operands.items unclosed → Comes (raws_after line) number count mid.next → rows_left old ≡ row_of_raw (raw_with line (line.broken || unclosed) mid.operands.items) (labels_now new.body) repeated ∷ rows_left new
unfolding rows_left
taken_is old mid new line repeated unclosed number count noted next body set bodied gathers comes =
    let labels = labels_now old.body in
    let all = set_now old in
    let methods = old.bodied in
    let raw = raw_with line (line.broken || unclosed) mid.operands.items in
    let e = sym body in let f = sym set in let g = sym bodied in
    let head = row_of_raw raw (labels_now new.body) repeated in
    let rest : raws_after line ≡ raws_at new.next = comes_raws (raws_after line) number count mid.next comes ∙ ap raws_at (sym noted.next) in
    ap (λ (o : Option Line). rows_of_lines labels all methods (raws_at o)) next
    ∙ ap (λ (r : Raw). rows_of_lines labels all methods (r ∷ raws_after line)) (raw_is line mid.operands.items unclosed gathers)
    ∙ ap (λ (o : Option Line). rows_of_lines (labels_now o) all methods (raw ∷ raws_after line)) e
    ∙ ap (λ (names : List (List ℕ)). rows_of_lines (labels_now mid.body) names methods (raw ∷ raws_after line)) f
    ∙ ap (λ (taken : List (List ℕ)). rows_of_lines (labels_now mid.body) (set_now mid) taken (raw ∷ raws_after line)) g
    ∙ noted.opens (line.broken || unclosed)
    ∙ ap (λ (raws : List Raw). head ∷ rows_of_lines (labels_now new.body) (set_now new) new.bodied raws) rest

-- a whole line
pub taken_row : (old mid new : Reader) (line : Line) (repeated unclosed broken : Bool) (number count : ℕ) → NotesLine mid new line repeated → old.next ≡ Some line → mid.body ≡ old.body → set_now mid ≡ set_now old → mid.bodied ≡ old.bodied → GathersTokens line.tail.now mid.operands.items unclosed → Comes (raws_after line) number count mid.next → broken ≡ (line.broken || unclosed) → broken ≡ false → rows_left old ≡ row_of (record { number = line.number; word = line.word; repeated = repeated }) new ∷ rows_left new
taken_row old mid new line repeated unclosed broken number count noted next body set bodied gathers comes is whole =
    let fine : (line.broken || unclosed) ≡ false = sym is ∙ whole in
    let same : mid.operands.items ≡ new.operands.items = sym noted.operands in
    taken_is old mid new line repeated unclosed number count noted next body set bodied gathers comes
    ∙ ap (λ (b : Bool). row_of_raw (raw_with line b mid.operands.items) (labels_now new.body) repeated ∷ rows_left new) fine
    ∙ ap (λ (v : List Token). row_of_raw (raw_with line false v) (labels_now new.body) repeated ∷ rows_left new) same

-- a line that is broken
pub taken_broken : (old mid new : Reader) (line : Line) (repeated unclosed broken : Bool) (number count : ℕ) → NotesLine mid new line repeated → old.next ≡ Some line → mid.body ≡ old.body → set_now mid ≡ set_now old → mid.bodied ≡ old.bodied → GathersTokens line.tail.now mid.operands.items unclosed → Comes (raws_after line) number count mid.next → broken ≡ (line.broken || unclosed) → broken ≡ true → IsLineBroken (errors.Refused line.number reasons.Text) (rows_left old)
taken_broken old mid new line repeated unclosed broken number count noted next body set bodied gathers comes is bad =
    (row_of_raw (raw_with line (line.broken || unclosed) mid.operands.items) (labels_now new.body) repeated, rows_left new, taken_is old mid new line repeated unclosed number count noted next body set bodied gathers comes, sym is ∙ bad, refl, refl)

one_step : (b : Bool) (x k t : ℕ) → x + cond b 1 0 ≡ t → t ≡ cond b (1 + k) k → x ≡ k
one_step true x k t e f = omega arith
one_step false x k t e f = omega arith

-- what a reader keeps to, it keeps to behind the line
pub still_reads : (old mid new : Reader) (line : Line) (repeated : Bool) → NotesLine mid new line repeated → IsReader old → old.next ≡ Some line → mid.sizes ≡ old.sizes → mid.instances ≡ old.instances → mid.instances_left ≡ old.instances_left → mid.classes_left ≡ old.classes_left → Comes (raws_after line) (line.number + 1) (length line.rest.now) mid.next → IsReader new
still_reads old mid new line repeated noted is next sizes all instances classes comes =
    let here : Comes (raws_after line) (line.number + 1) (length line.rest.now) new.next = subst (λ (o : Option Line). Comes (raws_after line) (line.number + 1) (length line.rest.now) o) (sym noted.next) comes in
    let numbered : AreNumbered (Some line) = subst AreNumbered next is.numbered in
    let few : most_lines (Some line) < 2 ^ 32 = subst (λ (o : Option Line). most_lines o < 2 ^ 32) next is.few in
    let short = fewer (raws_after line) (line.number + 1) (length line.rest.now) new.next here in
    let rest : raws_after line ≡ raws_at new.next = comes_raws (raws_after line) (line.number + 1) (length line.rest.now) new.next here in
    let counted : (place : ℕ) → count_all_raws place (raws_at old.next) ≡ cond (nat_eq (place_of line.word) place) (1 + count_all_raws place (raws_at new.next)) (count_all_raws place (raws_at new.next)) = λ place.
    ap (λ (o : Option Line). count_all_raws place (raws_at o)) next ∙ ap (λ (raws : List Raw). cond (nat_eq (place_of line.word) place) (1 + count_all_raws place raws) (count_all_raws place raws)) rest in
    let instances_are : new.instances_left ≡ count_all_raws 14 (raws_at new.next) = one_step (nat_eq (place_of line.word) 14) new.instances_left (count_all_raws 14 (raws_at new.next)) old.instances_left (noted.instances ∙ instances) (is.instances ∙ counted 14) in
    let classes_are : new.classes_left ≡ count_all_raws 20 (raws_at new.next) = one_step (nat_eq (place_of line.word) 20) new.classes_left (count_all_raws 20 (raws_at new.next)) old.classes_left (noted.classes ∙ classes) (is.classes ∙ counted 20) in
    let more : new.instances ≡ old.instances = noted.all ∙ all in
    let table : new.sizes.classes ≡ old.sizes.classes = ap (λ (s : Sizes). s.classes) (noted.sizes ∙ sizes) in
    let i = noted.instances in let c = noted.classes in let si = is.some_instances in let sc = is.some_classes in
    record {
      places = noted.places;
      numbered = stay_numbered (raws_after line) (line.number + 1) (length line.rest.now) new.next numbered here;
      few = omega arith;
      ahead = noted.ahead;
      instances = instances_are;
      some_instances = omega arith;
      classes = classes_are;
      some_classes = omega arith;
    }

-- a line of this place is among those that are left
pub some_left : (old : Reader) (line : Line) (place left : ℕ) → old.next ≡ Some line → left ≡ count_all_raws place (raws_at old.next) → place_of line.word ≡ place → 1 ≤ left
some_left old line place left next is at =
    let counted : count_all_raws place (raws_at old.next) ≡ 1 + count_all_raws place (raws_after line) =
    ap (λ (o : Option Line). count_all_raws place (raws_at o)) next ∙ ap (λ (b : Bool). cond b (1 + count_all_raws place (raws_after line)) (count_all_raws place (raws_after line))) (eq_refl (place_of line.word) place at) in
    omega arith

pub shorter : (a b : List Row) (row : Row) → a ≡ row ∷ b → length b < length a
shorter a b row e = let same : length a ≡ length (row ∷ b) = ap (λ (l : List Row). length l) e in omega arith
