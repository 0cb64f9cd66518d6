-- The laws of lines of one word, and of instructions and label lines.
use Rattle.std.proofs.Common.{◌≡◌, ℕ, inl, inr, Bool, true, false, cond, nat_eq, nat_le, List, [], ◌∷◌, ◌++◌, map, Some, None, refl, sym, ap, subst, ◌∙◌, arith}
use Rattle.std.proofs.lemmas.Slice.Eq.{bytes_eq-Decides}
use Rattle.std.specs.Str.{bytes_eq}
use Rattle.std.specs.List.{AllByRecursion}
use Rattle.std.specs.declared.option.Option.{Option}
use Rattle.abc_text_lines.specs.declared.reason.AsmReason.{AsmReason}
use Rattle.abc_text_lines.specs.declared.reason.AsmReason.TheVariants as reasons
use Rattle.abc_text_lines.specs.declared.word.Word.{Word}
use Rattle.abc_text_lines.specs.declared.word.Word.TheVariants as words
use Rattle.abc_text_lines.specs.Reasons.{least}
use Rattle.abc_text_lines.specs.Tokens.{Token}
use Rattle.abc_text_lines.specs.Words.{place_of}
use Rattle.abc_text_lines.proofs.Bools.{if_is, split_bool}
use Rattle.abc_text_lines.specs.Lines.{Label, Row}
use Rattle.abc_text_lines.specs.Operands.{AreOperands, Operands, none, reasons_of}
use Rattle.abc_text_lines.specs.Rows.{Faults, Head, Rows, code_rows, is_label, many, empty_rows}
use Rattle.abc_text_lines.specs.Law.{Among, IsLineFree, IsLabel, IsLine, LineKeeps, Lawful, Match, Shows}
use Rattle.abc_text_lines.specs.Wordlines.{Rules, always, among, closed_to, faults_by_rules, flat_lines, if_none, in_word, instruction, lines_of_word, lookup, plain_faults, shows_operands, repeat_reason}
use Rattle.abc_text_lines.proofs.Coding.{code-lawful}
use Rattle.abc_text_lines.proofs.Many.{eq_refl, eq_true, image-lawful, many-lawful, map_back, none_inside, nothing-lawful}
use Rattle.abc_text_lines.proofs.Pieces.{Among-left}

-- ---- kind words

some_same : {A : Type 0} (x y : A) → (let some : A → Option A = λ z. Some z in some x ≡ some y) → x ≡ y
some_same x y e = cc

-- where every row has the name of its kind, a word that names a kind is its name
pub lookup_there : {K : Type 0} (name : K → List ℕ) (rows : List (List ℕ × K)) → AllByRecursion (λ row. row.0 ≡ name row.1) rows → (word : List ℕ) (k : K) → lookup rows word ≡ Some k → word ≡ name k
lookup_there name [] all word k e = absurd cc
lookup_there {K} name (row ∷ rows) all word k e =
    elim (if_is (bytes_eq row.0 word) (Some row.1) (lookup rows word) (Some k) e) [
      | inl c ↦ let same : row.1 ≡ k = some_same row.1 k c.1 in sym ((bytes_eq-Decides row.0 word).0 c.0) ∙ all.0 ∙ ap name same
      | inr c ↦ lookup_there name rows all.1 word k c.1
    ]

-- ---- faults

least_nil : (rs : List AsmReason) → least rs ≡ None → rs ≡ []
unfolding least
least_nil [] e = refl
least_nil (r ∷ rs) e = absurd cc

nil_least : (rs : List AsmReason) → rs ≡ [] → least rs ≡ None
unfolding least
nil_least rs e = rw e refl

nothing_joined : (a b : List AsmReason) → a ++ b ≡ [] → (a ≡ []) × (b ≡ [])
nothing_joined [] b e = (refl, e)
nothing_joined (r ∷ a) b e = absurd cc

whole_line : (b : Bool) (rs : List AsmReason) → cond b (reasons.Text ∷ []) rs ≡ [] → (b ≡ false) × (rs ≡ [])
whole_line true rs e = absurd cc
whole_line false rs e = (refl, e)

not_twice : (b : Bool) (r : AsmReason) → cond b (r ∷ []) [] ≡ [] → b ≡ false
not_twice true r e = absurd cc
not_twice false r e = refl

pub reasons_nil : {A : Type 0} (p : Operands A) (labels : List Label) (tokens : List Token) → reasons_of p labels tokens ≡ [] → (p.counts labels tokens ≡ true) × (p.faults labels tokens ≡ [])
reasons_nil p labels tokens e =
    elim (if_is (p.counts labels tokens) (p.faults labels tokens) (reasons.Operands ∷ []) [] e) [ inl c ↦ c | inr c ↦ absurd cc ]

nil_reasons : {A : Type 0} (p : Operands A) (labels : List Label) (tokens : List Token) → p.counts labels tokens ≡ true → p.faults labels tokens ≡ [] → reasons_of p labels tokens ≡ []
nil_reasons p labels tokens c e = ap (λ (b : Bool). cond b (p.faults labels tokens) (reasons.Operands ∷ [])) c ∙ e

-- what a line without faults is
pub record IsClear (rules : Rules) (row : Row) (after : List Row) : Type 0 where
  pub whole : row.broken ≡ false
  pub own : rules.own row.word row.labels row.operands ≡ []
  pub others : rules.others row after row.word ≡ []
  pub once : row.repeated ≡ false
  pub extra : rules.extra row after ≡ []

module _ (rules : Rules) (row : Row) (after : List Row) where
  abbrev own : List AsmReason
  own = rules.own row.word row.labels row.operands

  abbrev others : List AsmReason
  others = rules.others row after row.word

  abbrev again : List AsmReason
  again = cond row.repeated (repeat_reason row.word ∷ []) []

  pub clear : least (faults_by_rules rules row after) ≡ None → IsClear rules row after
  clear e =
      let plain = plain_faults rules row after in
      let all = nothing_joined plain (if_none plain (rules.extra row after)) (least_nil (faults_by_rules rules row after) e) in
      let a = whole_line row.broken (own ++ (others ++ again)) all.0 in
      let b = nothing_joined own (others ++ again) a.1 in
      let c = nothing_joined others again b.1 in
      record { whole = a.0; own = b.0; others = c.0; once = not_twice row.repeated (repeat_reason row.word) c.1; extra = ap (λ (l : List AsmReason). if_none l (rules.extra row after)) (sym all.0) ∙ all.1 }

  pub unclear : IsClear rules row after → least (faults_by_rules rules row after) ≡ None
  unclear c =
      let plain : plain_faults rules row after ≡ [] =
      ap (λ (b : Bool). cond b (reasons.Text ∷ []) (own ++ (others ++ again))) c.whole
      ∙ ap (λ (l : List AsmReason). l ++ (others ++ again)) c.own
      ∙ ap (λ (l : List AsmReason). l ++ again) c.others
      ∙ ap (λ (b : Bool). cond b (repeat_reason row.word ∷ []) []) c.once in
      nil_least (faults_by_rules rules row after) (ap (λ (l : List AsmReason). l ++ if_none l (rules.extra row after)) plain ∙ c.extra)

-- ---- a line of one word

abbrev word_at : ℕ → Word
word_at n = cond (nat_le n 0) words.Abc (cond (nat_le n 1) words.Int (cond (nat_le n 2) words.UInt (cond (nat_le n 3) words.Double (cond (nat_le n 4) words.Text (cond (nat_le n 5) words.Namespace (cond (nat_le n 6) words.Set (cond (nat_le n 7) words.Name (cond (nat_le n 8) words.Method (cond (nat_le n 9) words.Param (cond (nat_le n 10) words.Optional (cond (nat_le n 11) words.ParamName (cond (nat_le n 12) words.Metadata (cond (nat_le n 13) words.Entry (cond (nat_le n 14) words.Instance (cond (nat_le n 15) words.Protected (cond (nat_le n 16) words.Implements (cond (nat_le n 17) words.Initializer (cond (nat_le n 18) words.Trait (cond (nat_le n 19) words.TraitMetadata (cond (nat_le n 20) words.Class (cond (nat_le n 21) words.Script (cond (nat_le n 22) words.Body (cond (nat_le n 24) words.Catch words.Unknown)))))))))))))))))))))))

word_back : (w : Word) → ¬ (place_of w ≡ 23) → word_at (place_of w) ≡ w
word_back words.Abc other = refl
word_back words.Int other = refl
word_back words.UInt other = refl
word_back words.Double other = refl
word_back words.Text other = refl
word_back words.Namespace other = refl
word_back words.Set other = refl
word_back words.Name other = refl
word_back words.Method other = refl
word_back words.Param other = refl
word_back words.Optional other = refl
word_back words.ParamName other = refl
word_back words.Metadata other = refl
word_back words.Entry other = refl
word_back words.Instance other = refl
word_back words.Protected other = refl
word_back words.Implements other = refl
word_back words.Initializer other = refl
word_back words.Trait other = refl
word_back words.TraitMetadata other = refl
word_back words.Class other = refl
word_back words.Script other = refl
word_back words.Body other = refl
word_back (words.Instruction op) other = absurd (other refl)
word_back words.Label other = absurd (other refl)
word_back words.Catch other = refl
word_back words.Unknown other = refl

-- two words of one place are one, but for code
pub same_word : (w v : Word) → ¬ (place_of v ≡ 23) → place_of w ≡ place_of v → w ≡ v
same_word w v other e = sym (word_back w (λ h. other (sym e ∙ h))) ∙ ap word_at e ∙ word_back v other

-- what the lines that follow must be, by the other faults of a line
pub record Agrees {A B : Type 0} (given : Type 0) (rules : Rules) (w : Word) (p : Operands A) (agree : A → B → Type 0) (below : Rows B) : Type 0 where
  pub fits : given → (row : Row) (front rest : List Row) (y : B) → row.word ≡ w → IsClear rules row (front ++ rest) → Match shows_operands front (below.shows y) → below.fits y → IsLineFree below rest → agree (p.value row.labels row.operands) y
  pub again : (row : Row) (front rest : List Row) (y : B) → row.word ≡ w → agree (p.value row.labels row.operands) y → Match shows_operands front (below.shows y) → below.fits y → IsLineFree below rest → (rules.others row (front ++ rest) w ≡ []) × (rules.extra row (front ++ rest) ≡ [])

module _ {A B : Type 0} (given : Type 0) (rules : Rules) (w : Word) (p : Operands A) (agree : A → B → Type 0) (below : Rows B) (ordinary : ¬ (place_of w ≡ 23)) (own_is : (labels : List Label) (tokens : List Token) → rules.own w labels tokens ≡ reasons_of p labels tokens) (lp : AreOperands p) (agrees : Agrees given rules w p agree below) where
  own_nil : (row : Row) (after : List Row) → row.word ≡ w → IsClear rules row after → (p.counts row.labels row.operands ≡ true) × (p.faults row.labels row.operands ≡ [])
  own_nil row after word c = reasons_nil p row.labels row.operands (sym (own_is row.labels row.operands) ∙ ap (λ (v : Word). rules.own v row.labels row.operands) (sym word) ∙ c.own)

  pub line-keeps : LineKeeps given shows_operands (faults_by_rules rules) (lines_of_word w p agree) below
  line-keeps = record {
    at = λ x. refl;
    found = λ row after here plain e.
        let c = clear rules row after e in
        let word = same_word row.word w ordinary here in
        let own = own_nil row after word c in
        record { word = word; whole = c.whole; operands = (lp.found row.labels row.operands own.0 own.1).0; once = c.once };
    fits = λ all row front rest y here plain e match fit free.
        let c = clear rules row (front ++ rest) e in
        let word = same_word row.word w ordinary here in
        let own = own_nil row (front ++ rest) word c in
        ((lp.found row.labels row.operands own.0 own.1).1, agrees.fits all row front rest y word c match fit free);
    again = λ row front rest x y fit is match fit_below free.
        let a = lp.again row.labels row.operands x is.operands fit.0 in
        let word = is.word in
        let more = agrees.again row front rest y word (subst (λ (z : A). agree z y) (sym a.2) fit.1) match fit_below free in
        let own : rules.own row.word row.labels row.operands ≡ [] = ap (λ (v : Word). rules.own v row.labels row.operands) word ∙ own_is row.labels row.operands ∙ nil_reasons p row.labels row.operands a.0 a.1 in
        (unclear rules row (front ++ rest) (record { whole = is.whole; own = own; others = ap (λ (v : Word). rules.others row (front ++ rest) v) word ∙ more.0; once = is.once; extra = more.1 }), a.2);
  }

-- nothing is asked of the lines that follow
pub agrees_always : {A B : Type 0} (given : Type 0) (rules : Rules) (w : Word) (p : Operands A) (below : Rows B) → ((row : Row) (after : List Row) → row.word ≡ w → (rules.others row after w ≡ []) × (rules.extra row after ≡ [])) → Agrees given rules w p always below
agrees_always given rules w p below free = record { fits = λ all row front rest y word c match fit next. tt; again = λ row front rest y word a match fit next. free row (front ++ rest) word }

-- lines without lines below them
module _ {A : Type 0} (given : Type 0) (rules : Rules) (w : Word) (p : Operands A) (ordinary : ¬ (place_of w ≡ 23)) (own_is : (labels : List Label) (tokens : List Token) → rules.own w labels tokens ≡ reasons_of p labels tokens) (others : (row : Row) (after : List Row) → row.word ≡ w → (rules.others row after w ≡ []) × (rules.extra row after ≡ [])) (lp : AreOperands p) where
  pub flat-lawful : (n : ℕ) → Lawful given shows_operands (faults_by_rules rules) n (flat_lines (faults_by_rules rules) w p n)
  flat-lawful n =
      image-lawful given shows_operands (faults_by_rules rules) n (map (λ (x : A × Unit {0}). x.0)) (map (λ (x : A). (x, tt)))
      (many (faults_by_rules rules) (lines_of_word w p always) empty_rows n)
      (map_back (λ (x : A × Unit {0}). x.0) (λ (x : A). (x, tt)) (λ x. refl)) (map_back (λ (x : A). (x, tt)) (λ (x : A × Unit {0}). x.0) (λ x. refl))
      (many-lawful given shows_operands (faults_by_rules rules) (lines_of_word w p always) empty_rows (line-keeps given rules w p always empty_rows ordinary own_is lp (agrees_always given rules w p empty_rows others)) ordinary (λ h. h) (λ x before w more e. none_inside before w more e) n (nothing-lawful given shows_operands (faults_by_rules rules) n))

-- ---- instructions and label lines

-- a code line that sets no label has an instruction
instruction_word : (w : Word) → place_of w ≡ 23 → is_label w ≡ false → (op : ℕ) × (w ≡ words.Instruction op)
instruction_word (words.Instruction op) e plain = (op, refl)
instruction_word words.Label e plain = absurd cc
instruction_word _ e plain = absurd (omega arith)

label_word : (w : Word) → is_label w ≡ true → w ≡ words.Label
label_word words.Label e = refl
label_word _ e = absurd cc

no_operands : (labels : List Label) (tokens : List Token) → none.counts labels tokens ≡ true → tokens ≡ []
no_operands labels [] e = refl
no_operands labels (token ∷ tokens) e = absurd cc

module _ {I : Type 0} (given : Type 0) (rules : Rules) (opcode_of : I → ℕ) (operands : ℕ → Operands I) (default : I)
    (own_is : (op : ℕ) (labels : List Label) (tokens : List Token) → rules.own (words.Instruction op) labels tokens ≡ reasons_of (operands op) labels tokens)
    (label_is : (labels : List Label) (tokens : List Token) → rules.own words.Label labels tokens ≡ reasons_of none labels tokens)
    (others : (row : Row) (after : List Row) → place_of row.word ≡ 23 → (rules.others row after row.word ≡ []) × (rules.extra row after ≡ []))
    (are : (op : ℕ) → AreOperands (operands op))
    (opcode_is : (op : ℕ) (i : I) → (operands op).fits i → opcode_of i ≡ op) where
  abbrev head : Head I (Unit {0})
  head = instruction opcode_of operands default

  -- what an instruction's line is
  record IsInstruction (row : Row) : Type 0 where
    opcode : ℕ
    word : row.word ≡ words.Instruction opcode
    value : head.value row ≡ (operands opcode).value row.labels row.operands
    found : IsLine shows_operands row (head.word (head.value row)) (head.items (head.value row))
    fits : head.fits (head.value row) tt

  instruction_line : (row : Row) (after : List Row) → place_of row.word ≡ 23 → is_label row.word ≡ false → least (faults_by_rules rules row after) ≡ None → IsInstruction row
  instruction_line row after here plain e =
      let w = instruction_word row.word here plain in
      let op = w.0 in
      let c = clear rules row after e in
      let own = reasons_nil (operands op) row.labels row.operands (sym (own_is op row.labels row.operands) ∙ ap (λ (v : Word). rules.own v row.labels row.operands) (sym w.1) ∙ c.own) in
      let f = (are op).found row.labels row.operands own.0 own.1 in
      let v : head.value row ≡ (operands op).value row.labels row.operands = ap (λ (x : Word). (in_word opcode_of operands default x).value row.labels row.operands) w.1 in
      let same : opcode_of ((operands op).value row.labels row.operands) ≡ op = opcode_is op ((operands op).value row.labels row.operands) f.1 in
      let line_ : IsLine shows_operands row (words.Instruction op) ((operands op).items ((operands op).value row.labels row.operands)) = record { word = w.1; whole = c.whole; operands = f.0; once = c.once } in
      record {
        opcode = op;
        word = w.1;
        value = v;
        found = subst (λ (i : I). IsLine shows_operands row (head.word i) (head.items i)) (sym v) (subst (λ (n : ℕ). IsLine shows_operands row (words.Instruction n) ((operands n).items ((operands op).value row.labels row.operands))) (sym same) line_);
        fits = subst (λ (i : I). head.fits i tt) (sym v) (subst (λ (n : ℕ). (operands n).fits ((operands op).value row.labels row.operands)) (sym same) f.1);
      }

  instruction-keeps : LineKeeps given shows_operands (faults_by_rules rules) head empty_rows
  instruction-keeps = record {
    at = λ i. refl;
    found = λ row after here plain e. (instruction_line row after here plain e).found;
    fits = λ all row front rest y here plain e match fit free. (instruction_line row (front ++ rest) here plain e).fits;
    again = λ row front rest i y fit is match fit_below free.
        let op = opcode_of i in
        let a = (are op).again row.labels row.operands i is.operands fit in
        let at : place_of row.word ≡ 23 = ap place_of is.word in
        let more = others row (front ++ rest) at in
        let own : rules.own row.word row.labels row.operands ≡ [] = ap (λ (v : Word). rules.own v row.labels row.operands) is.word ∙ own_is op row.labels row.operands ∙ nil_reasons (operands op) row.labels row.operands a.0 a.1 in (
          unclear rules row (front ++ rest) (record { whole = is.whole; own = own; others = more.0; once = is.once; extra = more.1 }),
          ap (λ (x : Word). (in_word opcode_of operands default x).value row.labels row.operands) is.word ∙ a.2,
        );
  }

  label_at : (row : Row) → is_label row.word ≡ true → place_of row.word ≡ 23
  label_at row l = ap place_of (label_word row.word l)

  label_found : (row : Row) (after : List Row) → is_label row.word ≡ true → least (faults_by_rules rules row after) ≡ None → IsLabel row
  label_found row after l e =
      let c = clear rules row after e in
      let own = reasons_nil none row.labels row.operands (sym (label_is row.labels row.operands) ∙ ap (λ (v : Word). rules.own v row.labels row.operands) (sym (label_word row.word l)) ∙ c.own) in
      record { word = l; whole = c.whole; operands = no_operands row.labels row.operands own.0; once = c.once }

  label_clean : (row : Row) (after : List Row) → IsLabel row → least (faults_by_rules rules row after) ≡ None
  label_clean row after l =
      let more = others row after (label_at row l.word) in
      let tokens = l.operands in
      let own : rules.own row.word row.labels row.operands ≡ [] = ap (λ (v : Word). rules.own v row.labels row.operands) (label_word row.word l.word) ∙ label_is row.labels row.operands ∙ ap (λ (t : List Token). reasons_of none row.labels t) tokens in
      unclear rules row after (record { whole = l.whole; own = own; others = more.0; once = l.once; extra = more.1 })

  pub code_is-lawful : (n : ℕ) → Lawful given shows_operands (faults_by_rules rules) n (code_rows (faults_by_rules rules) head 0)
  code_is-lawful n = code-lawful given shows_operands (faults_by_rules rules) head instruction-keeps refl (λ i. refl) label_clean label_found n 0

-- ---- places

abbrev disjoint : List ℕ → List ℕ → Bool
disjoint [] p = true
disjoint (x ∷ s) p = cond (among x p) false (disjoint s p)

pub among_yes : (w : ℕ) (p : List ℕ) → Among w p → among w p ≡ true
among_yes w [] h = absurd h
among_yes w (x ∷ p) h =
    elim h [
      | inl e ↦ let yes : nat_eq w x ≡ true = eq_refl w x e in rw yes refl
      | inr m ↦ let more = among_yes w p m in elim (split_bool (nat_eq w x)) [ inl e ↦ rw e refl | inr e ↦ rw e more ]
    ]

pub yes_among : (w : ℕ) (p : List ℕ) → among w p ≡ true → Among w p
yes_among w [] e = absurd cc
yes_among w (x ∷ p) e = elim (if_is (nat_eq w x) true (among w p) true e) [ inl c ↦ inl (eq_true w x c.0) | inr c ↦ inr (yes_among w p c.1) ]

-- two lists of places that have none in common
pub apart : (s p : List ℕ) → disjoint s p ≡ true → (w : ℕ) → Among w s → Among w p → ⊥
apart [] p d w a b = a
apart (x ∷ s) p d w a b =
    elim (if_is (among x p) false (disjoint s p) true d) [
      | inl c ↦ absurd cc
      | inr c ↦ elim a [
        | inl e ↦ let yes : among x p ≡ true = among_yes x p (subst (λ (v : ℕ). Among v p) e b) in let other = c.0 in absurd cc
        | inr m ↦ apart s p c.1 w m b
      ]
    ]

pub closed-lawful : {A : Type 0} (given : Type 0) (same : Shows) (faults : Faults) (n : ℕ) (more_places : List ℕ) (p : Rows A) → Lawful given same faults n p → Lawful given same faults n (closed_to more_places p)
closed-lawful given same faults n more_places p lp = record {
  taken = λ rows x rest le e.
      let t = lp.taken rows x rest le e in
      record { front = t.front; parts = t.parts; shown = t.shown; clean = t.clean; fits = λ all free. t.fits all (λ w h k. free w h (Among-left w p.has more_places k)); like = t.like; alike = t.alike; stops = t.stops };
  refused = λ rows f le e.
      let r = lp.refused rows f le e in
      record { front = r.front; row = r.row; after = r.after; parts = r.parts; clean = r.clean; reason = r.reason; line = r.line; like = r.like; more = r.more; alike = r.alike };
  again = λ x front rest le fit match free. lp.again x front rest le fit match (λ w h k. free w h (Among-left w p.has more_places k));
  some = lp.some;
  first = lp.first;
  begins = lp.begins;
  inside = λ x before w more e. Among-left w p.has more_places (lp.inside x before w more e);
}
