-- Numbers and bytes that are read straight from those that a window holds.
use Rattle.std.proofs.Common.{◌≡◌, ℕ, ℤ, ◌+◌, ◌*◌, ◌%◌, ◌<◌, ◌≤◌, List, [], ◌∷◌, ◌++◌, get_or, length, take, drop, length-take, Ok, refl, sym, ap, ◌∙◌, arith}
use Rattle.std.specs.List.{AllByRecursion}
use Rattle.std.specs.declared.option.Option.{Option}
use Rattle.std.proofs.lemmas.List.{drop-drop, take-append-drop, take-append-le}
use Rattle.abc_base.specs.Numbers.{SpellsNumber, number_bytes, signed24}
use Rattle.abc_base.proofs.Spelling.{groups_number, number_shortest}
use Rattle.abc_file_types.specs.Law.{Exact}
use Rattle.abc_file_types.specs.Part.{Front, Part}
use Rattle.abc_file_types.specs.Numbers.{number, s24, u8}
use Rattle.abc_file_types.proofs.Numbers.{number-exact, u8-exact}
use Rattle.abc_varint.specs.Ready.{HoldsReady, TakesNumber}
use Rattle.abc_varint.specs.Reads.{Input, IsInput, Reads, ReadsNumber, stand}
use Rattle.abc_varint.specs.View.{View, GoesOver, held_bytes, onward}
use Rattle.abc_varint.proofs.Inputs.{ahead, among, rest}

-- ---- what five bytes spell

pub spells_1 : (bs : List ℕ) (x : ℕ) → 5 ≤ length bs → x ≡ get_or bs 0 0 → x < 128 → SpellsNumber x (take 1 bs)
spells_1 [] x le e lt = absurd (omega arith)
spells_1 (a ∷ r) x le e lt = groups_number x (a ∷ []) (omega arith) (omega arith) (omega arith)

pub spells_2 : (bs : List ℕ) (a b x : ℕ) → 5 ≤ length bs → a ≡ get_or bs 0 0 → b ≡ get_or bs 1 0 → 128 ≤ a → b < 128 → x ≡ a % 128 + 128 * b → SpellsNumber x (take 2 bs)
spells_2 [] a b x le ea eb ha lt e = absurd (omega arith)
spells_2 (a2 ∷ []) a b x le ea eb ha lt e = absurd (omega arith)
spells_2 (a2 ∷ b2 ∷ r) a b x le ea eb ha lt e = groups_number x (a2 ∷ b2 ∷ []) (omega arith, omega arith) (omega arith) (omega arith)

pub spells_3 : (bs : List ℕ) (a b c x : ℕ) → 5 ≤ length bs → a ≡ get_or bs 0 0 → b ≡ get_or bs 1 0 → c ≡ get_or bs 2 0 → 128 ≤ a → 128 ≤ b → c < 128 → x ≡ a % 128 + 128 * (b % 128) + 16384 * c → SpellsNumber x (take 3 bs)
spells_3 [] a b c x le ea eb ec ha hb lt e = absurd (omega arith)
spells_3 (a2 ∷ []) a b c x le ea eb ec ha hb lt e = absurd (omega arith)
spells_3 (a2 ∷ b2 ∷ []) a b c x le ea eb ec ha hb lt e = absurd (omega arith)
spells_3 (a2 ∷ b2 ∷ c2 ∷ r) a b c x le ea eb ec ha hb lt e = groups_number x (a2 ∷ b2 ∷ c2 ∷ []) (omega arith, (omega arith, omega arith)) (omega arith) (omega arith)

pub spells_4 : (bs : List ℕ) (a b c d x : ℕ) → 5 ≤ length bs → a ≡ get_or bs 0 0 → b ≡ get_or bs 1 0 → c ≡ get_or bs 2 0 → d ≡ get_or bs 3 0 → 128 ≤ a → 128 ≤ b → 128 ≤ c → d < 128
    → x ≡ a % 128 + 128 * (b % 128) + 16384 * (c % 128) + 2097152 * d → SpellsNumber x (take 4 bs)
spells_4 [] a b c d x le ea eb ec ed ha hb hc lt e = absurd (omega arith)
spells_4 (a2 ∷ []) a b c d x le ea eb ec ed ha hb hc lt e = absurd (omega arith)
spells_4 (a2 ∷ b2 ∷ []) a b c d x le ea eb ec ed ha hb hc lt e = absurd (omega arith)
spells_4 (a2 ∷ b2 ∷ c2 ∷ []) a b c d x le ea eb ec ed ha hb hc lt e = absurd (omega arith)
spells_4 (a2 ∷ b2 ∷ c2 ∷ d2 ∷ r) a b c d x le ea eb ec ed ha hb hc lt e = groups_number x (a2 ∷ b2 ∷ c2 ∷ d2 ∷ []) (omega arith, (omega arith, (omega arith, omega arith))) (omega arith) (omega arith)

pub spells_5 : (bs : List ℕ) (a b c d f x : ℕ) → 5 ≤ length bs → a ≡ get_or bs 0 0 → b ≡ get_or bs 1 0 → c ≡ get_or bs 2 0 → d ≡ get_or bs 3 0 → f ≡ get_or bs 4 0 → 128 ≤ a → 128 ≤ b → 128 ≤ c → 128 ≤ d → f < 128
    → x ≡ a % 128 + 128 * (b % 128) + 16384 * (c % 128) + 2097152 * (d % 128) + 268435456 * f → SpellsNumber x (take 5 bs)
spells_5 [] a b c d f x le ea eb ec ed ef ha hb hc hd lt e = absurd (omega arith)
spells_5 (a2 ∷ []) a b c d f x le ea eb ec ed ef ha hb hc hd lt e = absurd (omega arith)
spells_5 (a2 ∷ b2 ∷ []) a b c d f x le ea eb ec ed ef ha hb hc hd lt e = absurd (omega arith)
spells_5 (a2 ∷ b2 ∷ c2 ∷ []) a b c d f x le ea eb ec ed ef ha hb hc hd lt e = absurd (omega arith)
spells_5 (a2 ∷ b2 ∷ c2 ∷ d2 ∷ []) a b c d f x le ea eb ec ed ef ha hb hc hd lt e = absurd (omega arith)
spells_5 (a2 ∷ b2 ∷ c2 ∷ d2 ∷ f2 ∷ r) a b c d f x le ea eb ec ed ef ha hb hc hd lt e =
    groups_number x (a2 ∷ b2 ∷ c2 ∷ d2 ∷ f2 ∷ []) (omega arith, (omega arith, (omega arith, (omega arith, omega arith)))) (omega arith) (omega arith)

-- five that spell none
pub all_high : (bs : List ℕ) (a b c d f : ℕ) → 5 ≤ length bs → a ≡ get_or bs 0 0 → b ≡ get_or bs 1 0 → c ≡ get_or bs 2 0 → d ≡ get_or bs 3 0 → f ≡ get_or bs 4 0 → 128 ≤ a → 128 ≤ b → 128 ≤ c → 128 ≤ d → 128 ≤ f
    → AllByRecursion (λ n. 128 ≤ n) (take 5 bs)
all_high [] a b c d f le ea eb ec ed ef ha hb hc hd hf = absurd (omega arith)
all_high (a2 ∷ []) a b c d f le ea eb ec ed ef ha hb hc hd hf = absurd (omega arith)
all_high (a2 ∷ b2 ∷ []) a b c d f le ea eb ec ed ef ha hb hc hd hf = absurd (omega arith)
all_high (a2 ∷ b2 ∷ c2 ∷ []) a b c d f le ea eb ec ed ef ha hb hc hd hf = absurd (omega arith)
all_high (a2 ∷ b2 ∷ c2 ∷ d2 ∷ []) a b c d f le ea eb ec ed ef ha hb hc hd hf = absurd (omega arith)
all_high (a2 ∷ b2 ∷ c2 ∷ d2 ∷ f2 ∷ r) a b c d f le ea eb ec ed ef ha hb hc hd hf =
    (omega arith, (omega arith, (omega arith, (omega arith, (omega arith, tt)))))

-- three bytes, whatever they are
pub three_bytes : (bs : List ℕ) (z : ℤ) → 3 ≤ length bs → z ≡ signed24 (get_or bs 0 0 % 256 + 256 * (get_or bs 1 0 % 256) + 65536 * (get_or bs 2 0 % 256)) → s24.spells z (take 3 bs)
unfolding s24 u8
three_bytes [] z le e = absurd (omega arith)
three_bytes (a ∷ []) z le e = absurd (omega arith)
three_bytes (a ∷ b ∷ []) z le e = absurd (omega arith)
three_bytes (a ∷ b ∷ c ∷ r) z le e = ((a, (b, c)), (a ∷ [], b ∷ c ∷ [], refl, refl, (b ∷ [], c ∷ [], refl, refl, refl)), e)

-- ---- what is read then

front_of : (w : View) (s : Option (List ℕ)) (input : Input) (n : ℕ) → w.place ≤ length w.taken → IsInput w s input → HoldsReady n w → Front (stand w input) (take n (held_bytes w)) (stand (onward n w) input)
front_of w s input n among is r =
    let len : length (take n (held_bytes w)) ≡ n = omega (arith, length-take n (held_bytes w), r.held) in
    let here : drop w.place input.bytes ≡ held_bytes w ++ rest w input = ahead w s input among is in
    let front : take n (drop w.place input.bytes) ≡ take n (held_bytes w) = ap (λ (t : List ℕ). take n t) here ∙ take-append-le n (held_bytes w) (rest w input) r.held in
    record {
      parts = sym (take-append-drop n (drop w.place input.bytes)) ∙ ap (λ (t : List ℕ). t ++ drop n (drop w.place input.bytes)) front ∙ ap (λ (t : List ℕ). take n (held_bytes w) ++ t) (drop-drop n w.place input.bytes);
      place = ap (λ (k : ℕ). w.place + k) (sym len);
      room = r.within;
      same = refl;
      within = λ h. r.before;
    }

-- A value that these bytes spell is read, and the window stands after them.
pub front_taken : {A : Type 0} (p : Part A) (x : A) (n : ℕ) (w w2 : View) (s : Option (List ℕ)) → Exact p → w.place ≤ length w.taken → HoldsReady n w → p.spells x (take n (held_bytes w)) → w2 ≡ onward n w → Reads p.reads w s w2 s (Ok x)
front_taken p x n w w2 s exact among r e is =
    rw is (r.fresh, r.fresh, omega arith, refl, λ input is_input. (is_input, exact.again (stand w input) x (stand (onward n w) input) (record { front = take n (held_bytes w); spelled = e; is = front_of w s input n among is_input r })))

pub number_taken : (x : ℕ) (w w2 : View) (s : Option (List ℕ)) → TakesNumber x w w2 → Reads number.reads w s w2 s (Ok x)
number_taken x w w2 s t = front_taken number x t.count w w2 s number-exact (omega (arith, among w t.count t.some t.ready.held)) t.ready t.spelled t.is

-- as a reader of numbers does
pub number_read : {S : Type 0} (left : S → Option (List ℕ)) (faults : S → ℕ) (x : ℕ) (w w2 : View) (s : S) → TakesNumber x w w2 → ReadsNumber left faults number w s w2 s (Ok x)
number_read left faults x w w2 s t = (
  (number_taken x w w2 (left s) t, (λ e k. absurd (let fresh = t.ready.fresh in cc)), omega arith, (λ k h. absurd cc), tt),
  tt,
  (λ h. absurd cc),
)

-- no fewer bytes than the shortest spelling has
pub number_passes : (x : ℕ) (w w2 : View) → TakesNumber x w w2 → GoesOver (length (number_bytes x)) w w2
number_passes x w w2 t =
    let at : w2.place ≡ w.place + t.count = ap (λ (v : View). v.place) t.is in
    (omega (arith, number_shortest x (take t.count (held_bytes w)) t.spelled, length-take t.count (held_bytes w), t.ready.held), omega (arith, t.ready.before))

first : (bs : List ℕ) (x : ℕ) → 1 ≤ length bs → x ≡ get_or bs 0 0 → take 1 bs ≡ x ∷ []
first [] x le e = absurd (omega arith)
first (y ∷ more) x le e = rw e refl

pub byte_taken : (x : ℕ) (bytes : List ℕ) (w w2 : View) (s : Option (List ℕ)) → HoldsReady 1 w → bytes ≡ held_bytes w → x ≡ get_or bytes 0 0 → w2 ≡ onward 1 w → Reads u8.reads w s w2 s (Ok x)
unfolding u8
byte_taken x bytes w w2 s r same e is = front_taken u8 x 1 w w2 s u8-exact (omega (arith, among w 1 (omega arith) r.held)) r (first (held_bytes w) x r.held (e ∙ ap (λ (l : List ℕ). get_or l 0 0) same)) is
