-- How many steps a log has, told by its bytes.
use Rattle.std.proofs.Common.{◌≡◌, ℕ, zero, suc, ◌+◌, ◌<◌, ◌≤◌, ◌/◌, ◌%◌, Bool, true, false, List, [], ◌∷◌, ◌++◌, Some, None, refl, ap, subst, ◌∙◌, arith, append_assoc}
use Rattle.std.specs.Prelude.{decimal, if◌then◌else◌, nat_eq, nat_lt}
use Rattle.std.specs.Fmt.{digit_glyph, digits, digits_onto}
use Rattle.std.specs.List.{flat_map}
use Rattle.std.specs.declared.option.Option.{Option}
use Rattle.std.proofs.lemmas.Bool.{lt-ltb, ne_eqb}
use Rattle.abc_base.specs.Escapes.{hex_digit}
use Rattle.abc_heap_store.specs.declared.records.Limit.{Limit}
use Rattle.abc_heap_store.specs.declared.records.Limits.{Limits}
use Rattle.abc_log.specs.Lines.{log_hex, limit_end, out_line, profile_end, start_line, step_line, uncaught_end, word_end}
use Rattle.abc_meaning.specs.Lines.{end_line}
use Rattle.abc_meaning.specs.Logs.{step_lines, line_of, lines_of_step, log, log_if, logs_for, steps, steps_for, steps_if, then_counts, then_logs, world_left, wrote_since}
use Rattle.abc_meaning.specs.Meaning.{first_state, first_world, too_small}
use Rattle.abc_meaning.specs.Step.{step}
use Rattle.abc_meaning.specs.Throwing.{Done, End, Ends, FuelSpent, Full, Machine, Profile, Stepped, Steps, Stuck, Uncaught, last_script}
use Rattle.abc_meaning.specs.Setting.{Setting}
use Rattle.abc_log.specs.Starts.{started_from}
use Rattle.abc_frames.specs.Frame.{Frame}
use Rattle.abc_file_types.specs.declared.tables.Abc.{Abc}

-- the lines of bytes, from the beginning of one on or from within one: each counts that doesn't begin with `o`, and none from the
-- first on that begins with `e`
pub counted : (begins : Bool) → List ℕ → ℕ
counted begins [] = 0
counted true (b ∷ bs) = if nat_eq b 101 then 0 else (if nat_eq b 111 then counted false bs else suc (counted false bs))
counted false (b ∷ bs) = counted (nat_eq b 10) bs

-- ---- bytes within a line

-- no byte that is below the digits
AreHigh : List ℕ → Type 0
AreHigh [] = Unit {0}
AreHigh (b ∷ bs) = (48 ≤ b) × AreHigh bs

within : (line more : List ℕ) → AreHigh line → counted false (line ++ more) ≡ counted false more
unfolding counted AreHigh
within [] more high = refl
within (b ∷ line) more high =
    let low = high.0 in
    ap (λ (t : Bool). counted t (line ++ more)) (ne_eqb b 10 (λ same. omega (arith, low, same))) ∙ within line more high.1

-- a line feed ends it
ends : (line more : List ℕ) → AreHigh line → counted false ((line ++ 10 ∷ []) ++ more) ≡ counted true more
unfolding counted
ends line more high = ap (counted false) (append_assoc line (10 ∷ []) more) ∙ within line (10 ∷ more) high

-- ---- digits

AreDigits : List ℕ → Type 0
AreDigits [] = Unit {0}
AreDigits (b ∷ bs) = (48 ≤ b) × (b ≤ 57) × AreDigits bs

digits_high : (ds : List ℕ) → AreDigits ds → AreHigh ds
unfolding AreDigits AreHigh
digits_high [] all = tt
digits_high (d ∷ ds) all = (all.0, digits_high ds all.2)

-- one at least
record AreSome (ds : List ℕ) : Type 0 where
  first : ℕ
  more : List ℕ
  is : ds ≡ first ∷ more
  all : AreDigits ds

glyph : (d : ℕ) → d < 10 → digit_glyph false d ≡ 48 + d
glyph d small = ap (λ (t : Bool). if t then 48 + d else 87 + d) (lt-ltb d 10 small)

one_more : (n : ℕ) (ds : List ℕ) → AreDigits ds → AreSome (digit_glyph false (n % 10) ∷ ds)
unfolding AreDigits
one_more n ds all =
    let small : n % 10 < 10 = omega arith in
    let is = glyph (n % 10) small in
    record { first = digit_glyph false (n % 10); more = ds; is = refl; all = (omega (arith, is), omega (arith, is, small), all) }

either : (t : Bool) (xs ys : List ℕ) → AreSome xs → AreSome ys → AreSome (if t then xs else ys)
either true xs ys some other = some
either false xs ys some other = other

digits_more : (k n : ℕ) (ds : List ℕ) → AreSome ds → AreSome (digits_onto k 10 false n ds)
digits_more zero n ds some = some
digits_more (suc k) n ds some =
    let next = one_more n ds some.all in
    either (nat_eq (n / 10) 0) (digit_glyph false (n % 10) ∷ ds) (digits_onto k 10 false (n / 10) (digit_glyph false (n % 10) ∷ ds)) next (digits_more k (n / 10) (digit_glyph false (n % 10) ∷ ds) next)

digits_some : (k n : ℕ) → AreSome (digits_onto (suc k) 10 false n [])
unfolding AreDigits
digits_some k n =
    let next = one_more n [] tt in
    either (nat_eq (n / 10) 0) (digit_glyph false (n % 10) ∷ []) (digits_onto k 10 false (n / 10) (digit_glyph false (n % 10) ∷ [])) next (digits_more k (n / 10) (digit_glyph false (n % 10) ∷ []) next)

decimal_digits : (n : ℕ) → AreSome (decimal n)
unfolding digits
decimal_digits n = digits_some 63 n

decimal_high : (n : ℕ) → AreHigh (decimal n)
decimal_high n = digits_high (decimal n) (decimal_digits n).all

hex_high : (d : ℕ) → 48 ≤ hex_digit d
hex_high d = go (nat_lt d 10)
  where
    go : (t : Bool) → 48 ≤ (if t then 48 + d else 87 + d)
    go true = omega arith
    go false = omega arith

bytes_high : (bytes : List ℕ) → AreHigh (flat_map log_hex bytes)
unfolding AreHigh
bytes_high [] = tt
bytes_high (b ∷ bs) = (hex_high (b / 16), (hex_high (b % 16), bytes_high bs))

-- ---- lines

-- a line that begins with a digit counts
begins_counted : (b : ℕ) (bs : List ℕ) → 48 ≤ b → b ≤ 57 → counted true (b ∷ bs) ≡ suc (counted false bs)
unfolding counted
begins_counted b bs low high =
    ap (λ (t : Bool). if t then 0 else (if nat_eq b 111 then counted false bs else suc (counted false bs))) (ne_eqb b 101 (λ same. omega (arith, high, same)))
    ∙ ap (λ (t : Bool). if t then counted false bs else suc (counted false bs)) (ne_eqb b 111 (λ same. omega (arith, high, same)))

digits_counted : (ds more : List ℕ) → AreSome ds → counted true (ds ++ more) ≡ suc (counted false more)
unfolding AreDigits
digits_counted ds more some =
    let all : AreDigits (some.first ∷ some.more) = subst AreDigits some.is some.all in
    ap (λ (l : List ℕ). counted true (l ++ more)) some.is ∙ begins_counted some.first (some.more ++ more) all.0 all.1 ∙ ap suc (within some.more more (digits_high some.more all.2))

start_counted : (s : ℕ) (more : List ℕ) → counted true (start_line s ++ more) ≡ suc (counted true more)
unfolding counted start_line
start_counted s more = ap suc (ends (decimal s) more (decimal_high s))

step_counted : (m i : ℕ) (more : List ℕ) → counted true (step_line m i ++ more) ≡ suc (counted true more)
unfolding counted step_line
step_counted m i more =
    let line : (decimal m ++ 32 ∷ decimal i) ++ 10 ∷ [] ≡ decimal m ++ 32 ∷ (decimal i ++ 10 ∷ []) = append_assoc (decimal m) (32 ∷ decimal i) (10 ∷ []) in
    ap (λ (l : List ℕ). counted true (l ++ more)) line
    ∙ ap (counted true) (append_assoc (decimal m) (32 ∷ (decimal i ++ 10 ∷ [])) more)
    ∙ digits_counted (decimal m) (32 ∷ ((decimal i ++ 10 ∷ []) ++ more)) (decimal_digits m)
    ∙ ap suc (ends (decimal i) more (decimal_high i))

out_counted : (wrote more : List ℕ) → counted true (out_line wrote ++ more) ≡ counted true more
unfolding counted
out_counted [] more = refl
out_counted (b ∷ bs) more = ends (flat_map log_hex (b ∷ bs)) more (bytes_high (b ∷ bs))

end_counted : (v : Abc) (e : End) → counted true (end_line v e) ≡ 0
unfolding counted limit_end profile_end uncaught_end word_end
end_counted v Done = refl
end_counted v (Uncaught t) = refl
end_counted v (Profile m i fault) = refl
end_counted v FuelSpent = refl
end_counted v (Full limit) = refl
end_counted v Stuck = refl

limit_counted : (limit : Limit) → counted true (limit_end limit) ≡ 0
unfolding counted limit_end
limit_counted limit = refl

-- ---- steps

instruction_counted : (o : Option ℕ) (f : Frame) (more : List ℕ) → counted true (step_lines o f ++ more) ≡ suc (counted true more)
instruction_counted (Some s) f more = start_counted s more
instruction_counted None f more = step_counted f.method f.place more

line_counted : (p : Setting) (q : Machine) (now : List Bool) (fs : List Frame) (more : List ℕ) → counted true (line_of p q now fs ++ more) ≡ suc (counted true more)
line_counted p q now [] more = start_counted (last_script p) more
line_counted p q now (f ∷ fs) more = instruction_counted (started_from 0 q.world.started now) f more

lines_counted : (p : Setting) (q : Machine) (r : Stepped) (more : List ℕ) → counted true (lines_of_step p q r ++ more) ≡ suc (counted true more)
lines_counted p q r more =
    let line = line_of p q (world_left r).started q.frames in
    let out = out_line (wrote_since q.world (world_left r)) in
    ap (counted true) (append_assoc line out more) ∙ line_counted p q (world_left r).started q.frames (out ++ more) ∙ ap suc (out_counted (wrote_since q.world (world_left r)) more)

then_counted : (p : Setting) (r : Stepped) (go : Machine → List ℕ) (count : Machine → ℕ) → ((q : Machine) → counted true (go q) ≡ count q) → suc (counted true (then_logs p r go)) ≡ then_counts r count
then_counted p (Steps q) go count same = ap suc (same q)
then_counted p (Ends w e) go count same = ap suc (end_counted p.linked.file e)

run_counted : (p : Setting) (fuel : ℕ) (q : Machine) → counted true (logs_for p fuel q) ≡ steps_for p fuel q
run_counted p zero q = end_counted p.linked.file FuelSpent
run_counted p (suc fuel) q = lines_counted p q (step p q) (then_logs p (step p q) (logs_for p fuel)) ∙ then_counted p (step p q) (logs_for p fuel) (steps_for p fuel) (run_counted p fuel)

if_counted : (o : Option Limit) (lines : List ℕ) (n : ℕ) → counted true lines ≡ n → counted true (log_if o lines) ≡ steps_if o n
if_counted (Some limit) lines n same = limit_counted limit
if_counted None lines n same = same

pub log_counted : (p : Setting) (m : Limits) (fuel : ℕ) → counted true (log p m fuel) ≡ steps p m fuel
unfolding log steps
log_counted p m fuel = if_counted (too_small (first_world p m).heap) (logs_for p fuel (first_state p m)) (steps_for p fuel (first_state p m)) (run_counted p fuel (first_state p m))
