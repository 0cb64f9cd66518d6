-- One input is one log, and no log is refused.
use Rattle.std.proofs.Common.{◌≡◌, ℕ, zero, suc, ◌+◌, ◌*◌, ◌<◌, ◌/◌, ◌%◌, ◌^◌, Bool, true, false, List, [], ◌∷◌, ◌++◌, length, take, drop, get_or, Some, None, refl, sym, ap, subst, ◌∙◌, arith, append_assoc, length-append, add-zero}
use Rattle.std.specs.Prelude.{if◌then◌else◌, nat_lt}
use Rattle.std.specs.List.{flat_map}
use Rattle.std.proofs.Math.Nat.{pow-suc, pow-zero}
use Rattle.std.proofs.Math.Seq.{drop-append_seam, take-append_seam}
use Rattle.std.proofs.lemmas.Bool.{both_ways, eq-eqb, ltb-true}
use Rattle.abc_base.specs.declared.formula.Formula.{Formula}
use Rattle.abc_log.specs.Followed.{parts_from}
use Rattle.abc_base.specs.Escapes.{hex_digit}
use Rattle.abc_file_types.specs.Part.{refusal}
use Rattle.abc_heap_store.specs.declared.records.Limits.{Limits}
use Rattle.abc_link_names.specs.Rules.{IsFirstBroken}
use Rattle.abc_log.specs.Heads.{AllStand, GoesWrong, IsWrong, may_stand}
use Rattle.abc_log.proofs.Fronts.{one_front}
use Rattle.abc_log.specs.Limits.{is_no_feed}
use Rattle.abc_log.proofs.Lined.{limits_feedless, these_limits}
use Rattle.abc_log.proofs.Standing.{AllStand-append, digits_stand, length-hex_digits}
use Rattle.abc_log.specs.Lines.{AreLimits, head_line, hex_digits, limits_line, limits_text, next_number, limit_numbers}
use Rattle.abc_meaning.specs.Inputs.{IsLogOf}
use Rattle.abc_meaning.specs.Logs.{log}
use Rattle.abc_meaning.specs.ThrowLaws.{IsVerifiedSetting}
use Rattle.abc_meaning.specs.Setting.{Setting}
use Rattle.abc_link_names.specs.Linked.{LinkedFile}
use Rattle.abc_file_types.specs.Files.{IsFile}
use Rattle.abc_file_types.specs.declared.tables.Abc.{Abc}
use Rattle.abc_file_types.proofs.Whole.{decided, read_spelled}
use Rattle.abc_link_layouts.specs.Numbering.{HasLayoutNumbers}
use Rattle.abc_verify.proofs.Single.{one_numbered}
use Rattle.abc_verify.specs.FileRefusing.{IsFileRefused as IsNoVerifiedFile, IsUnverified, bad, unlinked, untyped, unverified}
use Rattle.abc_verify.specs.declared.verified_error.VerifiedError.{VerifiedError}
use Rattle.abc_verify.specs.VerifyRefusing.{IsFirstUntyped}
use Rattle.abc_link_names.proofs.MethodBodies.{body_inside}
use Rattle.abc_replay.specs.Laws.{HasOneNumber, IsNeverBoth}
use Rattle.abc_replay.specs.Replays.{HasLogParts, IsLogRefused}
use Rattle.abc_replay.specs.declared.error.ReplayError.{ReplayError}
use Rattle.abc_replay.proofs.Counting.{counted, log_counted}

-- ---- fronts of equal length

pub same_front : (xs ys more rest : List ℕ) → length xs ≡ length ys → xs ++ more ≡ ys ++ rest → (xs ≡ ys) × (more ≡ rest)
same_front xs ys more rest long e = (
  sym (take-append_seam xs more) ∙ ap (take (length xs)) e ∙ ap (λ (n : ℕ). take n (ys ++ rest)) long ∙ take-append_seam ys rest,
  sym (drop-append_seam xs more) ∙ ap (drop (length xs)) e ∙ ap (λ (n : ℕ). drop n (ys ++ rest)) long ∙ drop-append_seam ys rest,
)

-- ---- the line before the file

same_digit : (a b : ℕ) → a < 16 → b < 16 → hex_digit a ≡ hex_digit b → a ≡ b
same_digit a b small_a small_b = go (nat_lt a 10) (nat_lt b 10) refl refl
  where
    go : (s t : Bool) → nat_lt a 10 ≡ s → nat_lt b 10 ≡ t → (if s then 48 + a else 87 + a) ≡ (if t then 48 + b else 87 + b) → a ≡ b
    go true true low_a low_b e = omega (arith, e)
    go true false low_a low_b e = let below = ltb-true a 10 low_a in omega (arith, e, below)
    go false true low_a low_b e = let below = ltb-true b 10 low_b in omega (arith, e, below)
    go false false low_a low_b e = omega (arith, e)

one_number_of : (k n m : ℕ) → n < 16 ^ k → m < 16 ^ k → hex_digits k n ≡ hex_digits k m → n ≡ m
unfolding hex_digits
one_number_of zero n m small_n small_m e = let one = pow-zero 16 in omega (arith, small_n, small_m, one)
one_number_of (suc k) n m small_n small_m e =
    let next : 16 ^ suc k ≡ 16 ^ k * 16 = pow-suc 16 k in
    let both = same_front (hex_digits k (n / 16)) (hex_digits k (m / 16)) (hex_digit (n % 16) ∷ []) (hex_digit (m % 16) ∷ []) (length-hex_digits k (n / 16) ∙ sym (length-hex_digits k (m / 16))) e in
    let last : hex_digit (n % 16) ≡ hex_digit (m % 16) = ap (λ (l : List ℕ). get_or l 0 0) both.1 in
    let low : n % 16 ≡ m % 16 = same_digit (n % 16) (m % 16) (omega arith) (omega arith) last in
    let high : n / 16 ≡ m / 16 = one_number_of k (n / 16) (m / 16) (omega (arith, small_n, next)) (omega (arith, small_m, next)) both.0 in
    omega (arith, low, high)

pub length-head_line : (n : ℕ) → length (head_line n) ≡ 9
unfolding head_line
length-head_line n = length-append (hex_digits 8 n) (10 ∷ []) ∙ ap (λ (k : ℕ). k + 1) (length-hex_digits 8 n)

pub same_head : (n m : ℕ) → n < 2 ^ 32 → m < 2 ^ 32 → head_line n ≡ head_line m → n ≡ m
unfolding head_line
same_head n m small_n small_m e =
    let both = same_front (hex_digits 8 n) (hex_digits 8 m) (10 ∷ []) (10 ∷ []) (length-hex_digits 8 n ∙ sym (length-hex_digits 8 m)) e in
    one_number_of 8 n m small_n small_m both.0

-- what stands as it may isn't wrong before its end
pub stands_right : (from : ℕ) (xs right more rest : List ℕ) → AllStand from xs → xs ++ more ≡ right ++ rest → length right < length xs → IsWrong (from + length right) rest → ⊥
stands_right from [] right more rest stand e short wrong = let none : length right < 0 = short in absurd (omega (arith, none))
stands_right from (x ∷ xs) [] more rest stand e short wrong =
    let here : may_stand (from + 0) x ≡ false = subst (IsWrong (from + 0)) (sym e) wrong in
    both_ways (may_stand from x) (ap (λ (k : ℕ). may_stand k x) (sym (add-zero from)) ∙ here) stand.0
stands_right from (x ∷ xs) (y ∷ right) more rest stand e short wrong =
    let shorter : suc (length right) < suc (length xs) = short in
    let far : from + suc (length right) ≡ suc from + length right = omega arith in
    stands_right (suc from) xs right more rest stand.1 (ap (drop 1) e) (omega (arith, shorter)) (subst (λ (k : ℕ). IsWrong k rest) far wrong)

head_stands : (n : ℕ) → AllStand 0 (head_line n)
unfolding head_line
head_stands n =
    let far : 0 + length (hex_digits 8 n) ≡ 8 = omega (arith, length-hex_digits 8 n) in
    AllStand-append 0 (hex_digits 8 n) (10 ∷ []) (digits_stand 8 0 n (omega arith)) (subst (λ (k : ℕ). AllStand k (10 ∷ [])) (sym far) (refl, tt))

pub right_head : (n place : ℕ) (input more : List ℕ) → input ≡ head_line n ++ more → GoesWrong 0 place input → ⊥
right_head n place input more is w =
    let far : place ≡ length w.right = omega (arith, w.far) in
    let short : length w.right < length (head_line n) = omega (arith, w.within, far, length-head_line n) in
    stands_right 0 (head_line n) w.right more w.rest (head_stands n) (sym is ∙ w.parts) short (subst (λ (k : ℕ). IsWrong k w.rest) w.far w.wrong)

-- ---- the parts of an input

-- the file, and what stands behind it
same_parts : (input file behind bytes rest : List ℕ) → length file < 2 ^ 32 → input ≡ head_line (length file) ++ (file ++ behind) → HasLogParts input bytes rest → (bytes ≡ file) × (rest ≡ behind)
same_parts input file behind bytes rest short is p =
    let both = same_front (head_line (length file)) (head_line p.stated) (file ++ behind) p.following (length-head_line (length file) ∙ sym (length-head_line p.stated)) (sym is ∙ p.is) in
    let same : p.stated ≡ length file = sym (same_head (length file) p.stated short p.low both.0) in (
      p.file_is ∙ ap (λ (n : ℕ). take n p.following) same ∙ ap (take (length file)) (sym both.1) ∙ take-append_seam file behind,
      p.rest_is ∙ ap (λ (n : ℕ). drop n p.following) same ∙ ap (drop (length file)) (sym both.1) ∙ drop-append_seam file behind,
    )

-- ---- the line of limits

pub same_text : (fuel fuel2 : ℕ) (m m2 : Limits) (more rest : List ℕ) → AreLimits fuel m → AreLimits fuel2 m2 → limits_line fuel m ++ more ≡ limits_line fuel2 m2 ++ rest → (limits_text fuel m ≡ limits_text fuel2 m2) × (10 ∷ more ≡ 10 ∷ rest)
same_text fuel fuel2 m m2 more rest a b e =
    one_front is_no_feed (limits_text fuel m) (limits_text fuel2 m2) (10 ∷ more) (10 ∷ rest) (limits_feedless fuel m a) (limits_feedless fuel2 m2 b) refl refl
    (sym (append_assoc (limits_text fuel m) (10 ∷ []) more) ∙ e ∙ append_assoc (limits_text fuel2 m2) (10 ∷ []) rest)

behind_limits : (fuel fuel2 : ℕ) (m m2 : Limits) (more rest : List ℕ) → AreLimits fuel m → AreLimits fuel2 m2 → limits_line fuel m ++ more ≡ limits_line fuel2 m2 ++ rest → more ≡ rest
behind_limits fuel fuel2 m m2 more rest a b e = ap (drop 1) (same_text fuel fuel2 m m2 more rest a b e).1

all_below : (a b c d e f n : ℕ) → a < n → b < n → c < n → d < n → e < n → f < n → (k : ℕ) → k < 6 → get_or (a ∷ b ∷ c ∷ d ∷ e ∷ f ∷ []) k 0 < n
all_below a b c d e f n p q r s t u zero lt = p
all_below a b c d e f n p q r s t u (suc zero) lt = q
all_below a b c d e f n p q r s t u (suc (suc zero)) lt = r
all_below a b c d e f n p q r s t u (suc (suc (suc zero))) lt = s
all_below a b c d e f n p q r s t u (suc (suc (suc (suc zero)))) lt = t
all_below a b c d e f n p q r s t u (suc (suc (suc (suc (suc zero))))) lt = u
all_below a b c d e f n p q r s t u (suc (suc (suc (suc (suc (suc k)))))) lt = absurd (omega (arith, lt))

pub same_numbers : (fuel fuel2 : ℕ) (m m2 : Limits) → AreLimits fuel m → AreLimits fuel2 m2 → limits_text fuel m ≡ limits_text fuel2 m2 → limit_numbers fuel m ≡ limit_numbers fuel2 m2
unfolding limits_text
same_numbers fuel fuel2 m m2 a b e =
    these_limits (limits_text fuel m) (flat_map next_number (limit_numbers fuel m)) (limit_numbers fuel m) refl refl refl
    (all_below fuel m.objects m.cells m.text m.frames m.stack (2 ^ 32) a.steps (omega (arith, a.objects)) (omega (arith, a.cells)) (omega (arith, a.text)) (omega (arith, a.frames)) (omega (arith, a.stack))) fuel2 m2 b e

limits_in : List ℕ → Limits
limits_in ns = record { objects = get_or ns 1 0; cells = get_or ns 2 0; text = get_or ns 3 0; frames = get_or ns 4 0; stack = get_or ns 5 0 }

pub same_limits : (fuel fuel2 : ℕ) (m m2 : Limits) → limit_numbers fuel m ≡ limit_numbers fuel2 m2 → (fuel ≡ fuel2) × (m ≡ m2)
unfolding limits_in
same_limits fuel fuel2 m m2 e = (ap (λ (l : List ℕ). get_or l 0 0) e, ap limits_in e)

-- ---- a log, by its parts

abbrev setting_of : LinkedFile → List Formula → Setting
setting_of l formulas = record { linked = l; formulas = formulas }

abbrev rest_of : (formulas : List Formula) (l : LinkedFile) (fuel : ℕ) (m : Limits) → List ℕ
rest_of formulas l fuel m = limits_line fuel m ++ log (setting_of l formulas) m fuel

grouped : (formulas : List Formula) (l : LinkedFile) (fuel : ℕ) (m : Limits) (input : List ℕ) (is : IsLogOf formulas l fuel m input) → input ≡ head_line (length is.file) ++ (is.file ++ rest_of formulas l fuel m)
grouped formulas l fuel m input is =
    let head = head_line (length is.file) in
    let line : List ℕ = limits_line fuel m in
    let lines = log (setting_of l formulas) m fuel in
    is.is ∙ append_assoc (head ++ is.file) line lines ∙ append_assoc head is.file (line ++ lines)

-- the parts of a log
log_parts : (formulas : List Formula) (l : LinkedFile) (fuel : ℕ) (m : Limits) (input bytes rest : List ℕ) (is : IsLogOf formulas l fuel m input) → HasLogParts input bytes rest → (bytes ≡ is.file) × (rest ≡ rest_of formulas l fuel m)
log_parts formulas l fuel m input bytes rest is parts = same_parts input is.file (rest_of formulas l fuel m) bytes rest is.short (grouped formulas l fuel m input is) parts

-- a log has parts
has_parts : (formulas : List Formula) (l : LinkedFile) (fuel : ℕ) (m : Limits) (input : List ℕ) (is : IsLogOf formulas l fuel m input) → HasLogParts input is.file (rest_of formulas l fuel m)
has_parts formulas l fuel m input is = record {
  stated = length is.file;
  following = is.file ++ rest_of formulas l fuel m;
  low = is.short;
  is = grouped formulas l fuel m input is;
  file_is = sym (take-append_seam is.file (rest_of formulas l fuel m));
  rest_is = sym (drop-append_seam is.file (rest_of formulas l fuel m));
}

-- ---- one number of steps

same_log : (formulas : List Formula) (l l2 : LinkedFile) (fuel fuel2 : ℕ) (m m2 : Limits) (input : List ℕ) → IsLogOf formulas l fuel m input → IsLogOf formulas l2 fuel2 m2 input → log (setting_of l formulas) m fuel ≡ log (setting_of l2 formulas) m2 fuel2
same_log formulas l l2 fuel fuel2 m m2 input is is2 =
    let both = log_parts formulas l2 fuel2 m2 input is.file (rest_of formulas l fuel m) is2 (has_parts formulas l fuel m input is) in
    behind_limits fuel fuel2 m m2 (log (setting_of l formulas) m fuel) (log (setting_of l2 formulas) m2 fuel2) is.limits is2.limits both.1

pub one_number : HasOneNumber
one_number formulas input n k a b =
    a.counted ∙ sym (log_counted (setting_of a.linked formulas) a.limits a.fuel)
    ∙ ap (counted true) (same_log formulas a.linked b.linked a.fuel b.fuel a.limits b.limits input a.is b.is)
    ∙ log_counted (setting_of b.linked formulas) b.limits b.fuel ∙ sym b.counted

-- ---- no log is refused

module _ (formulas : List Formula) (l : LinkedFile) (bytes : List ℕ) (spells : IsFile l.file bytes) (verified : IsVerifiedSetting (setting_of l formulas)) (numbered : HasLayoutNumbers l) where
  verified_once : (v : Abc) (starts : List (List ℕ)) (e : VerifiedError) → v ≡ l.file → IsUnverified v starts e → ⊥
  verified_once v starts e same (unlinked rule i first) =
      let broken : IsFirstBroken l.file rule i = subst (λ (w : Abc). IsFirstBroken w rule i) same first in
      verified.linked.rules rule i broken.item broken.breaks
  verified_once v starts e same (untyped k m b i rule is linked numbered_too first) =
      let one : k ≡ l = one_numbered k l numbered_too numbered (is ∙ same) in
      let here : IsFirstUntyped l m b i rule = subst (λ (x : LinkedFile). IsFirstUntyped x m b i rule) one first in
      let none = here.2 in
      none.untyped (verified.typed b (body_inside l.file m b none.of_method))

  file_once : (e : VerifiedError) → IsNoVerifiedFile bytes e → ⊥
  file_once e (bad place reason is) = (decided bytes).never_both l.file (refusal place reason) spells is
  file_once e (unverified v starts f read why) =
      let file : IsFile v bytes = (read_spelled (v, starts) bytes read.0, read.1) in
      verified_once v starts f ((decided bytes).one_value v l.file file spells) why

same_byte : (i : ℕ) (xs : List ℕ) → parts_from i xs xs ≡ None
same_byte i [] = refl
same_byte i (x ∷ xs) = ap (λ (t : Bool). if t then parts_from (suc i) xs xs else Some i) (eq-eqb x x refl) ∙ same_byte (suc i) xs

-- what is the log doesn't part from it
never_parts : (lines found : List ℕ) (n : ℕ) → found ≡ lines → parts_from 0 found lines ≡ Some n → ⊥
never_parts lines found n same e =
    let clash : None ≡ Some n = sym (same_byte 0 lines) ∙ ap (λ (f : List ℕ). parts_from 0 f lines) (sym same) ∙ e in
    cc

log_same : (formulas : List Formula) (l k : LinkedFile) (fuel fuel2 : ℕ) (m m2 : Limits) (found : List ℕ) → k ≡ l → AreLimits fuel m → AreLimits fuel2 m2 → rest_of formulas l fuel m ≡ limits_line fuel2 m2 ++ found → found ≡ log (setting_of k formulas) m2 fuel2
log_same formulas l k fuel fuel2 m m2 found one within within2 e =
    let texts = same_text fuel fuel2 m m2 (log (setting_of l formulas) m fuel) found within within2 e in
    let same = same_limits fuel fuel2 m m2 (same_numbers fuel fuel2 m m2 within within2 texts.0) in
    sym (ap (drop 1) texts.1) ∙ ap (λ (x : LinkedFile). log (setting_of x formulas) m fuel) (sym one) ∙ ap (λ (y : Limits). log (setting_of k formulas) y fuel) same.1 ∙ ap (log (setting_of k formulas) m2) same.0

no_refusal : (formulas : List Formula) (l : LinkedFile) (fuel : ℕ) (m : Limits) (input : List ℕ) (e : ReplayError) → IsLogOf formulas l fuel m input → IsLogRefused formulas input e → ⊥
no_refusal formulas l fuel m input e is (IsLogRefused.head place wrong) = right_head (length is.file) place input (is.file ++ rest_of formulas l fuel m) (grouped formulas l fuel m input is) wrong
no_refusal formulas l fuel m input e is (IsLogRefused.file bytes rest f parts why) =
    let same : is.file ≡ bytes = sym (log_parts formulas l fuel m input bytes rest is parts).0 in
    file_once formulas l bytes (subst (IsFile l.file) same is.spells) is.verified is.numbered f why
no_refusal formulas l fuel m input e is (IsLogRefused.limits bytes rest k parts spells none) =
    none fuel m (log (setting_of l formulas) m fuel) is.limits (log_parts formulas l fuel m input bytes rest is parts).1
no_refusal formulas l fuel m input e is (IsLogRefused.differs bytes rest found k fuel2 m2 n parts spells within there parted) =
    let both = log_parts formulas l fuel m input bytes rest is parts in
    let same : k.file ≡ l.file = (decided bytes).one_value k.file l.file spells.spells (subst (IsFile l.file) (sym both.0) is.spells) in
    let one : k ≡ l = one_numbered k l spells.numbered is.numbered same in
    never_parts (log (setting_of k formulas) m2 fuel2) found n (log_same formulas l k fuel fuel2 m m2 found one is.limits within (sym both.1 ∙ there)) parted

pub never_both : IsNeverBoth
never_both formulas input n e a x = no_refusal formulas a.linked a.fuel a.limits input e a.is x
