-- The lines of a listing are read back one by one, before what they ask of each other is looked at.
use Rattle.std.proofs.Common.{◌≡◌, ℕ, ◌+◌, ◌<◌, ◌^◌, inl, inr, true, false, List, [], ◌∷◌, ◌++◌, map, Some, if◌then◌else◌, refl, sym, ap, ◌∙◌, append_assoc, append-nil, arith}
use Rattle.std.specs.List.{AllByRecursion, flat_map}
use Rattle.std.specs.declared.option.Option.{Option}
use Rattle.abc_text_lines.specs.declared.word.Word.{Word}
use Rattle.abc_text_lines.specs.declared.word.Word.TheVariants as words
use Rattle.abc_text_lines.specs.Scanning.{Scan, scan, scan_of}
use Rattle.abc_text_lines.specs.Tokens.{Token, Bare}
use Rattle.abc_text_lines.specs.Writing.{written_line}
use Rattle.abc_text_lines.proofs.Bools.{split_bool}
use Rattle.abc_text_lines.proofs.Scans.{tokens_scanned}
use Rattle.abc_text_lines.proofs.Written.{line_has}
use Rattle.abc_file_types.specs.declared.tables.Abc.{Abc}
use Rattle.abc_text_lines.specs.Lines.{Item, Number, Signed, Text, Eight, Kind, Target, Shown, Line, Labels}
use Rattle.abc_text_lines.specs.Operands.{is_name}
use Rattle.abc_text_lines.specs.Wordlines.{among}
use Rattle.abc_text_lines.specs.Listing.{comment_of, label_bytes, label_of, line_bytes, listing_bytes, token_of, word_name}
use Rattle.abc_text_lines.specs.Texts.{Raw, before_colon, before_colon_more, if_name, lines_in, or_else, raws_of_scan, raws_from, token_name, word_of_text}
use Rattle.abc_disasm.proofs.ReadHeads.{IsHead}
use Rattle.abc_disasm.proofs.Items.{CanBeShown, IsFine, all_append, fine_writable, items_fine, line_feed, word_fine}
use Rattle.abc_disasm.proofs.Remarks.{IsRemark, remark_is}
use Rattle.abc_disasm.proofs.Runs.{IsNoFeed, IsWord, label_name, name_word}

-- ---- lines that can be written and read

abbrev pub Stands : (ℕ → Type 0) → Shown → Type 0
Stands leads (Line w items) = IsHead w × AllByRecursion (CanBeShown leads) items
Stands leads (Labels n) = n < 2 ^ 64

abbrev pub AllStand : (ℕ → Type 0) → List Shown → Type 0
AllStand leads lines = AllByRecursion (Stands leads) lines

item_more : (p q : ℕ → Type 0) → ((n : ℕ) → p n → q n) → (item : Item) → CanBeShown p item → CanBeShown q item
item_more p q f (Number n) can = can
item_more p q f (Signed z) can = can
item_more p q f (Text bytes) can = can
item_more p q f (Eight bytes) can = can
item_more p q f (Kind kind) can = can
item_more p q f (Target n) can = (can.0, f n can.1)

pub items_more : (p q : ℕ → Type 0) → ((n : ℕ) → p n → q n) → (items : List Item) → AllByRecursion (CanBeShown p) items → AllByRecursion (CanBeShown q) items
items_more p q f [] can = tt
items_more p q f (item ∷ items) can = (item_more p q f item can.0, items_more p q f items can.1)

pub stand_more : (p q : ℕ → Type 0) → ((n : ℕ) → p n → q n) → (lines : List Shown) → AllStand p lines → AllStand q lines
stand_more p q f [] all = tt
stand_more p q f (Line w items ∷ lines) all = ((all.0.0, items_more p q f items all.0.1), stand_more p q f lines all.1)
stand_more p q f (Labels n ∷ lines) all = (all.0, stand_more p q f lines all.1)

pub two_stand : (leads : ℕ → Type 0) (a b : List Shown) → AllStand leads a → AllStand leads b → AllStand leads (a ++ b)
two_stand leads [] b p q = q
two_stand leads (line ∷ a) b p q = (p.0, two_stand leads a b p.1 q)

pub front_stand : (leads : ℕ → Type 0) (a b : List Shown) → AllStand leads (a ++ b) → AllStand leads a × AllStand leads b
front_stand leads [] b all = (tt, all)
front_stand leads (line ∷ a) b all = let more = front_stand leads a b all.1 in ((all.0, more.0), more.1)

-- ---- the lines of a listing

-- without the label lines whose numbers are not named
abbrev pub kept : List ℕ → List Shown → List Shown
kept named [] = []
kept named (Line w items ∷ lines) = Line w items ∷ kept named lines
kept named (Labels n ∷ lines) = if among n named then Labels n ∷ kept named lines else kept named lines

pub kept-append : (named : List ℕ) (a b : List Shown) → kept named (a ++ b) ≡ kept named a ++ kept named b
kept-append named [] b = refl
kept-append named (Line w items ∷ a) b = ap (λ (l : List Shown). Line w items ∷ l) (kept-append named a b)
kept-append named (Labels n ∷ a) b =
    let more = kept-append named a b in
    elim (split_bool (among n named)) [ inl e ↦ rw e (ap (λ (l : List Shown). Labels n ∷ l) more) | inr e ↦ rw e more ]

pub kept_stand : (leads : ℕ → Type 0) (named : List ℕ) (lines : List Shown) → AllStand leads lines → AllStand leads (kept named lines)
kept_stand leads named [] all = tt
kept_stand leads named (Line w items ∷ lines) all = (all.0, kept_stand leads named lines all.1)
kept_stand leads named (Labels n ∷ lines) all =
    let more = kept_stand leads named lines all.1 in
    elim (split_bool (among n named)) [ inl e ↦ rw e (all.0, more) | inr e ↦ rw e more ]

abbrev pub exact : Abc → Shown → List ℕ
exact v (Line w items) = line_bytes v w items
exact v (Labels n) = label_bytes n

pub rendered_kept : (v : Abc) (named : List ℕ) (lines : List Shown) → listing_bytes v named lines ≡ flat_map (exact v) (kept named lines)
rendered_kept v named [] = refl
rendered_kept v named (Line w items ∷ lines) = ap (λ (l : List ℕ). line_bytes v w items ++ l) (rendered_kept v named lines)
rendered_kept v named (Labels n ∷ lines) =
    let more = rendered_kept v named lines in
    elim (split_bool (among n named)) [ inl e ↦ rw e (ap (λ (l : List ℕ). label_bytes n ++ l) more) | inr e ↦ rw e more ]

-- ---- the lines of a text

abbrev pub raw_line : ℕ → Word → List Item → Raw
raw_line number w items = record { number = number; broken = false; word = w; name = token_name (Bare (word_name w)); operands = map token_of items }

abbrev pub raw_label : ℕ → ℕ → Raw
raw_label number n = record { number = number; broken = false; word = words.Label; name = label_of n; operands = [] }

-- as lines of a text, from a line number on
abbrev pub raws : ℕ → List Shown → List Raw
raws number [] = []
raws number (Line w items ∷ lines) = raw_line number w items ∷ raws (number + 1) lines
raws number (Labels n ∷ lines) = raw_label number n ∷ raws (number + 1) lines

feed_ends : (line rest : List ℕ) → AllByRecursion IsNoFeed line → lines_in (line ++ 0x0a ∷ rest) ≡ line ∷ lines_in rest
feed_ends [] rest all = refl
feed_ends (b ∷ line) rest all = let here = all.0 in let more = feed_ends line rest all.1 in rw (here, more) refl

regroup : (a c rest : List ℕ) → (a ++ (c ++ 0x0a ∷ [])) ++ rest ≡ (a ++ c) ++ 0x0a ∷ rest
regroup a c rest = append_assoc a (c ++ 0x0a ∷ []) rest ∙ ap (λ (l : List ℕ). a ++ l) (append_assoc c (0x0a ∷ []) rest) ∙ sym (append_assoc a c (0x0a ∷ rest))

-- a line whose bytes are known, before others
one_line : (number : ℕ) (tokens : List Token) (comment rest : List ℕ) → AllByRecursion IsFine tokens → IsRemark comment → raws_from number (lines_in ((written_line tokens ++ (comment ++ 0x0a ∷ [])) ++ rest)) ≡ raws_of_scan number (scan_of false tokens) (raws_from (number + 1) (lines_in rest))
one_line number tokens comment rest fine remark =
    let line = written_line tokens ++ comment in
    ap (λ (l : List ℕ). raws_from number (lines_in l)) (regroup (written_line tokens) comment rest)
    ∙ ap (raws_from number) (feed_ends line rest (all_append IsNoFeed (written_line tokens) comment (line_feed tokens fine) remark.feed))
    ∙ ap (λ (s : Scan). raws_of_scan number s (raws_from (number + 1) (lines_in rest))) (tokens_scanned tokens false line (line_has tokens comment (fine_writable tokens fine) remark.is))

-- ---- label lines

colon_last : (name : List ℕ) → before_colon (name ++ 0x3a ∷ []) ≡ Some name
colon_last [] = refl
colon_last (b ∷ []) = refl
colon_last (b ∷ c ∷ name) = ap (before_colon_more b) (colon_last (c ∷ name))

capital_word : (rest : List ℕ) → word_of_text (0x4c ∷ rest) ≡ if_name (before_colon (0x4c ∷ rest))
unfolding word_of_text
capital_word rest = refl

name_label : (name : List ℕ) → is_name name ≡ true → if_name (Some name) ≡ words.Label
name_label name e = rw e refl

abbrev label_token : ℕ → List ℕ
label_token n = label_of n ++ 0x3a ∷ []

label_word : (n : ℕ) → n < 2 ^ 64 → word_of_text (label_token n) ≡ words.Label
label_word n lt = capital_word _ ∙ ap if_name (colon_last (label_of n)) ∙ name_label (label_of n) (label_name n lt)

solid_colon : (word : List ℕ) → IsWord word → IsWord (word ++ 0x3a ∷ [])
solid_colon [] is = let some = is.some in absurd (omega arith)
solid_colon (b ∷ word) is = record { some = omega arith; solid = all_append _ (b ∷ word) (0x3a ∷ []) is.solid ((omega arith, λ e. omega arith), tt) }

label_fine : (n : ℕ) → n < 2 ^ 64 → AllByRecursion IsFine (Bare (label_token n) ∷ [])
label_fine n lt = (word_fine (label_token n) (solid_colon (label_of n) (name_word (label_of n) (label_name n lt))), tt)

no_remark : IsRemark []
no_remark = record { is = inl refl; feed = tt }

label_line : (n : ℕ) → label_bytes n ≡ written_line (Bare (label_token n) ∷ []) ++ ([] ++ 0x0a ∷ [])
label_line n = sym (ap (λ (l : List ℕ). l ++ 0x0a ∷ []) (append-nil (label_token n)) ∙ append_assoc (label_of n) (0x3a ∷ []) (0x0a ∷ []))

-- ---- all lines

empty_line : (number : ℕ) → raws_from number (lines_in []) ≡ []
unfolding scan
empty_line number = refl

line_read : (v : Abc) (leads : ℕ → Type 0) (w : Word) (items : List Item) (rest : List ℕ) (number : ℕ) → IsHead w → AllByRecursion (CanBeShown leads) items → raws_from number (lines_in (line_bytes v w items ++ rest)) ≡ raw_line number w items ∷ raws_from (number + 1) (lines_in rest)
line_read v leads w items rest number head can =
    let tokens = Bare (word_name w) ∷ map token_of items in
    one_line number tokens (comment_of v w items) rest (word_fine (word_name w) (name_word (word_name w) head.name), items_fine leads items can) (remark_is v w items)
    ∙ ap (λ (u : Word). let raw : Raw = record { number = number; broken = false; word = u; name = token_name (Bare (word_name w)); operands = map token_of items } in raw ∷ raws_from (number + 1) (lines_in rest)) head.back

label_read : (n : ℕ) (rest : List ℕ) (number : ℕ) → n < 2 ^ 64 → raws_from number (lines_in (label_bytes n ++ rest)) ≡ raw_label number n ∷ raws_from (number + 1) (lines_in rest)
label_read n rest number lt =
    let after = raws_from (number + 1) (lines_in rest) in
    ap (λ (l : List ℕ). raws_from number (lines_in (l ++ rest))) (label_line n)
    ∙ one_line number (Bare (label_token n) ∷ []) [] rest (label_fine n lt) no_remark
    ∙ ap (λ (u : Word). let raw : Raw = record { number = number; broken = false; word = u; name = token_name (Bare (label_token n)); operands = [] } in raw ∷ after) (label_word n lt)
    ∙ ap (λ (o : Option (List ℕ)). let raw : Raw = record { number = number; broken = false; word = words.Label; name = or_else o []; operands = [] } in raw ∷ after) (colon_last (label_of n))

pub lines_read : (v : Abc) (leads : ℕ → Type 0) (lines : List Shown) → AllStand leads lines → (number : ℕ) → raws_from number (lines_in (flat_map (exact v) lines)) ≡ raws number lines
lines_read v leads [] all number = empty_line number
lines_read v leads (Line w items ∷ lines) all number =
    line_read v leads w items (flat_map (exact v) lines) number all.0.0 all.0.1 ∙ ap (λ (l : List Raw). raw_line number w items ∷ l) (lines_read v leads lines all.1 (number + 1))
lines_read v leads (Labels n ∷ lines) all number =
    label_read n (flat_map (exact v) lines) number all.0 ∙ ap (λ (l : List Raw). raw_label number n ∷ l) (lines_read v leads lines all.1 (number + 1))
