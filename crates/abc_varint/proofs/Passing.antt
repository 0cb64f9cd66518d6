-- Passing items one after the other, as a loop does.
use Rattle.std.proofs.Common.{◌≡◌, ℕ, zero, suc, ◌-◌, nat_eq, if◌then◌else◌, ◌<◌, ◌≤◌, List, [], ◌∷◌, ◌++◌, length, Ok, Err, None, refl, sym, ap, ◌∙◌, append_assoc, arith}
use Rattle.std.proofs.lemmas.List.{append-nil, flat_map_more}
use Rattle.std.proofs.lemmas.Bool.Decides.{nat_tests}
use Rattle.std.specs.List.{flat_map}
use Rattle.std.specs.declared.result.Result.{Result}
use Rattle.std.specs.declared.option.Option.{Option}
use Rattle.abc_varint.specs.declared.error.ReadError.{ReadError}
use Rattle.abc_varint.specs.declared.error.ReadError.TheVariants as errors
use Rattle.abc_file_types.specs.Part.{At, Refusal, refusal, Part, ◌>>=◌}
use Rattle.abc_base.specs.Numbers.{number_bytes}
use Rattle.abc_file_types.specs.Canonical.{pool_bytes, pool_count}
use Rattle.abc_file_types.specs.Lists.{times, count_and_items, pool}
use Rattle.abc_file_types.specs.Numbers.{u30}
use Rattle.abc_varint.specs.View.{View}
use Rattle.abc_varint.specs.Passes.{Passes, nothing_told}
use Rattle.abc_varint.specs.Reads.{Reads, FailsReading, Input, IsInput, stand}
use Rattle.abc_varint.proofs.Loop.{with_front, moved, beside, joined, nothing as no_front}

-- Of `total` items some were read, and their bytes were appended; `more` are to come.
pub record Middle {A : Type 0} (p : Part A) (canonical : A → List ℕ) (total more : ℕ) (from here : At) (old new : List ℕ) : Type 0 where
  pub items : List A
  pub read : with_front items ((times more p).reads here) ≡ (times total p).reads from
  pub bytes : new ≡ old ++ flat_map canonical items

pub record PassesOn {A : Type 0} (p : Part A) (canonical : A → List ℕ) (total more : ℕ) (old new : List ℕ) (w0 : View) (s0 : Option (List ℕ)) (w : View) (s : Option (List ℕ)) : Type 0 where
  pub fresh : w.kept ≡ None
  pub forth : w0.place ≤ w.place
  pub ends_at : w.end ≡ w0.end
  pub told : (input : Input) → IsInput w s input → IsInput w0 s0 input
  pub same : (input : Input) → IsInput w s input → Middle p canonical total more (stand w0 input) (stand w input) old new

pub starts : {A : Type 0} (p : Part A) (canonical : A → List ℕ) (n : ℕ) (old : List ℕ) (w : View) (s : Option (List ℕ)) → w.kept ≡ None → PassesOn p canonical n (n - 0) old old w s w s
starts {A = A} p canonical n old w s k = let e : n - 0 ≡ n = omega arith in record {
  fresh = k;
  forth = omega arith;
  ends_at = refl;
  told = λ input is. is;
  same = λ input is. record { items = []; read = rw e (no_front ((times n p).reads (stand w input))); bytes = sym (append-nil old) };
}

pub goes_on : {A : Type 0} (p : Part A) (canonical : A → List ℕ) (total more less : ℕ) (old new new2 : List ℕ) (w0 : View) (s0 : Option (List ℕ)) (w : View) (s : Option (List ℕ)) (w2 : View) (s2 : Option (List ℕ))
    → more ≡ suc less → PassesOn p canonical total more old new w0 s0 w s → Passes p canonical nothing_told w s w2 s2 new new2 (Ok tt) → PassesOn p canonical total less old new2 w0 s0 w2 s2
goes_on p canonical total more less old new new2 w0 s0 w s w2 s2 k g r = record {
  fresh = r.1;
  forth = omega (arith, g.forth, r.2);
  ends_at = r.3 ∙ g.ends_at;
  told = λ input is. g.told input (r.4 input is).0;
  same = λ input is. let m = g.same input (r.4 input is).0 in let x = (r.4 input is).1 in record {
    items = m.items ++ x.value ∷ [];
    read = sym (rw (k, x.read) (moved m.items x.value ((times less p).reads (stand w2 input)))) ∙ m.read;
    bytes = x.bytes ∙ ap (λ (t : List ℕ). t ++ canonical x.value) m.bytes ∙ flat_map_more canonical old m.items x.value;
  };
}

pub ends : {A : Type 0} (e : ReadError) (p : Part A) (canonical : A → List ℕ) (total more : ℕ) (old new : List ℕ) (w0 : View) (s0 : Option (List ℕ)) (w : View) (s : Option (List ℕ)) (input : Input)
    → 0 < more → PassesOn p canonical total more old new w0 s0 w s → IsInput w s input × FailsReading e (p.reads (stand w input)) → IsInput w0 s0 input × FailsReading e ((times total p).reads (stand w0 input))
ends (errors.Refused place reason) p canonical total more old new w0 s0 w s input lt g f =
    let k : more ≡ suc (more - 1) = omega arith in
    let m = g.same input f.0 in
    let h : p.reads (stand w input) ≡ Err (refusal place reason) = f.1 in
    let one : with_front m.items ((times more p).reads (stand w input)) ≡ Err (refusal place reason) = rw (k, h) refl in
    (g.told input f.0, sym m.read ∙ one)
ends errors.ReadFault p canonical total more old new w0 s0 w s input lt g f = (g.told input f.0, tt)
ends errors.NoMemory p canonical total more old new w0 s0 w s input lt g f = (g.told input f.0, tt)

pub is_done : {A : Type 0} (p : Part A) (canonical : A → List ℕ) (total more : ℕ) (old new : List ℕ) (w0 : View) (s0 : Option (List ℕ)) (w : View) (s : Option (List ℕ))
    → more ≡ 0 → w0.kept ≡ None → PassesOn p canonical total more old new w0 s0 w s → Passes (times total p) (flat_map canonical) nothing_told w0 s0 w s old new (Ok tt)
is_done {A = A} p canonical total more old new w0 s0 w s k fresh g = (
  fresh,
  g.fresh,
  g.forth,
  g.ends_at,
  λ input is. (
    g.told input is,
    let m = g.same input is in record {
      value = m.items;
      read = sym m.read ∙ rw k (ap (λ (ns : List A). Ok (ns, stand w input)) (append-nil m.items));
      bytes = m.bytes;
      tells = refl;
    },
  ),
)

-- ---- how many items there are

second : {A : Type 0} (n : ℕ) (x : A) (xs : List A) (after : At) (r : Result (List A × At) Refusal) → ((ys : List A) (a : At) → r ≡ Ok (ys, a) → length ys ≡ n)
    → ((r >>= beside x) >>= joined) ≡ Ok (xs, after) → length xs ≡ suc n
second {A = A} n x xs after (Ok y) count e = let h : (xs, after) ≡ (x ∷ y.0, y.1) = cc in let k : xs ≡ x ∷ y.0 = ap (λ (z : List A × At). z.0) h in rw k (ap suc (count y.0 y.1 refl))
second n x xs after (Err f) count e = absurd cc

first : {A : Type 0} (n : ℕ) (p : Part A) (xs : List A) (after : At) (r : Result (A × At) Refusal) → ((from a : At) (ys : List A) → (times n p).reads from ≡ Ok (ys, a) → length ys ≡ n)
    → ((r >>= λ x. (times n p).reads x.1 >>= beside x.0) >>= joined) ≡ Ok (xs, after) → length xs ≡ suc n
first n p xs after (Ok x) count e = second n x.0 xs after ((times n p).reads x.1) (λ ys a h. count x.1 a ys h) e
first n p xs after (Err f) count e = absurd cc

pub times_count : {A : Type 0} (n : ℕ) (p : Part A) (from after : At) (xs : List A) → (times n p).reads from ≡ Ok (xs, after) → length xs ≡ n
times_count {A = A} zero p from after xs e = let none : List A = [] in let h : (xs, after) ≡ (none, from) = cc in ap (λ (z : List A × At). length z.0) h
times_count (suc n) p from after xs e = first n p xs after (p.reads from) (λ f a ys h. times_count n p f a ys h) e

-- the shortest count of a pool, by that which was read
pub shortest_count : {A : Type 0} (n : ℕ) (xs : List A) → length xs ≡ n - 1 → pool_count xs ≡ (if nat_eq n 1 then 0 else n)
shortest_count zero [] e = refl
shortest_count (suc zero) [] e = refl
shortest_count (suc (suc n)) [] e = absurd (omega (arith, e))
shortest_count n (x ∷ xs) e = let h : n ≡ suc (suc (length xs)) = omega (arith, e) in rw h (grind (arith, nat_tests))

-- ---- a count and the items

-- with what puts all items
pub counted_passes : {A : Type 0} (p : Part A) (all : List A → List ℕ) (n : ℕ) (old middle new : List ℕ) (w : View) (s : Option (List ℕ)) (w1 : View) (s1 : Option (List ℕ)) (w2 : View) (s2 : Option (List ℕ))
    → Reads u30.reads w s w1 s1 (Ok n) → middle ≡ old ++ number_bytes n → Passes (times n p) all nothing_told w1 s1 w2 s2 middle new (Ok tt)
    → Passes (count_and_items p) (λ xs. number_bytes (length xs) ++ all xs) length w s w2 s2 old new (Ok n)
unfolding count_and_items
counted_passes p all n old middle new w s w1 s1 w2 s2 r b g = (
  r.0,
  g.1,
  omega (arith, r.2, g.2),
  g.3 ∙ r.3,
  λ input is.
      let d = g.4 input is in let a = r.4 input d.0 in let x = d.1 in
      let count : length x.value ≡ n = times_count n p _ _ x.value x.read in (
        a.0,
        record {
          value = x.value;
          read = rw (a.1, x.read) refl;
          bytes = x.bytes ∙ ap (λ (t : List ℕ). t ++ all x.value) b ∙ append_assoc old (number_bytes n) (all x.value) ∙ ap (λ (k : ℕ). old ++ (number_bytes k ++ all x.value)) (sym count);
          tells = sym count;
        },
      ),
)

-- what nothing is told of
pub untold : {X T : Type 0} (p : Part X) (canonical : X → List ℕ) (tell : X → T) (w : View) (s : Option (List ℕ)) (w2 : View) (s2 : Option (List ℕ)) (old new : List ℕ) (t : T)
    → Passes p canonical tell w s w2 s2 old new (Ok t) → Passes p canonical nothing_told w s w2 s2 old new (Ok tt)
untold p canonical tell w s w2 s2 old new t g = (g.0, g.1, g.2, g.3, λ input is. let d = g.4 input is in let x = d.1 in (d.0, record { value = x.value; read = x.read; bytes = x.bytes; tells = refl }))

pub pool_passes : {A : Type 0} (p : Part A) (canonical : A → List ℕ) (n m : ℕ) (old middle new : List ℕ) (w : View) (s : Option (List ℕ)) (w1 : View) (s1 : Option (List ℕ)) (w2 : View) (s2 : Option (List ℕ))
    → m ≡ n - 1 → Reads u30.reads w s w1 s1 (Ok n) → middle ≡ old ++ number_bytes (if nat_eq n 1 then 0 else n) → Passes (times m p) (flat_map canonical) nothing_told w1 s1 w2 s2 middle new (Ok tt)
    → Passes (pool p) (pool_bytes canonical) length w s w2 s2 old new (Ok m)
unfolding pool pool_bytes
pool_passes p canonical n m old middle new w s w1 s1 w2 s2 less r b g = (
  r.0,
  g.1,
  omega (arith, r.2, g.2),
  g.3 ∙ r.3,
  λ input is.
      let d = g.4 input is in let a = r.4 input d.0 in let x = d.1 in
      let count : length x.value ≡ m = times_count m p _ _ x.value x.read in (
        a.0,
        record {
          value = x.value;
          read = rw (a.1, ← less, x.read) refl;
          bytes =
              x.bytes ∙ ap (λ (t : List ℕ). t ++ flat_map canonical x.value) b ∙ append_assoc old (number_bytes (if nat_eq n 1 then 0 else n)) (flat_map canonical x.value)
              ∙ ap (λ (k : ℕ). old ++ (number_bytes k ++ flat_map canonical x.value)) (sym (shortest_count n x.value (count ∙ less)));
          tells = sym count;
        },
      ),
)

-- what is read and then put
pub puts_read : {X : Type 0} (p : Part X) (x : X) (canonical : X → List ℕ) (old new : List ℕ) (w : View) (s : Option (List ℕ)) (w2 : View) (s2 : Option (List ℕ))
    → Reads p.reads w s w2 s2 (Ok x) → new ≡ old ++ canonical x → Passes p canonical nothing_told w s w2 s2 old new (Ok tt)
puts_read p x canonical old new w s w2 s2 r b = (r.0, r.1, r.2, r.3, λ input is. let a = r.4 input is in (a.0, record { value = x; read = a.1; bytes = b; tells = refl }))
