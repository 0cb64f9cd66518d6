-- What a reading knows of the instructions that were read, how it grows, and how its instructions get their targets.
use Rattle.std.proofs.Common.{◌≡◌, ℕ, suc, ◌+◌, ◌^◌, ◌<◌, ◌≤◌, List, [], ◌∷◌, ◌++◌, length, drop, get_or, set, false, Ok, Err, Some, None, refl, sym, ap, subst, ◌∙◌, length-append, append_assoc, zero-add, arith}
use Rattle.std.specs.Prelude.{All, map}
use Rattle.std.specs.declared.option.Option.{Option}
use Rattle.std.specs.declared.result.Result.{Result}
use Rattle.std.proofs.Math.Seq.{set-append_seam}
use Rattle.std.proofs.lemmas.List.{append-nil, get_or-append-add, get_or_default, length-map, map-append, set-set}
use Rattle.std.proofs.lemmas.List.Elements.{All-append, All-nil, All-push}
use Rattle.abc_file_types.specs.Part.{At, Refusal, refusal, ◌>>=◌}
use Rattle.abc_file_types.specs.declared.code.Instr.{Instr}
use Rattle.abc_file_types.specs.declared.code.Instr.TheVariants as variants
use Rattle.abc_file_types.specs.declared.instructions.Code.{Code}
use Rattle.abc_file_types.specs.Code.{code, code_body}
use Rattle.abc_file_types.specs.Instructions.{Branch, Same, Switch, code_length, pieces}
use Rattle.abc_file_types.specs.Ready.{IsReady}
use Rattle.abc_file_types.specs.Starts.{IsRising, starts, size}
use Rattle.abc_file_types.specs.Targets.{instr_of, instrs_of, resolve_targets}
use Rattle.abc_file_types.proofs.Resolving.{drop_read, few_starts, length-starts, missed_within, starts_rising}
use Rattle.abc_instr.specs.declared.raw.RawInstr.{RawInstr as Raw}
use Rattle.abc_instr.specs.declared.raw.RawInstr.TheVariants as raws
use Rattle.abc_instr.specs.declared.reading.Reading.{Reading}
use Rattle.abc_instr.specs.Offsets.{IsRaw, has_targets, raw_of}
use Rattle.abc_instr.specs.Reading.{AreSmallStarts, AreInstructionsRead, IsReading, Takes, with_targets, aims_from, aims_in, done_in, raws_in_pieces, raw_instr, starts_before, with_starts}
use Rattle.abc_instr.specs.Resolving.{onto_found}
use Rattle.abc_instr.specs.Scanning.{AreRead, jump_in, raws_in}
use Rattle.abc_instr.proofs.Passing.{raws_size, raws_some, raws_starts}
use Rattle.abc_instr.proofs.Resolved.{resolved_ready}

-- ---- the starts

-- with the end they are all starts
starts_end : (at : ℕ) (xs : List (Raw × ℕ)) → starts_before at xs ++ (at + size xs) ∷ [] ≡ starts at xs
starts_end at [] = let e : at + 0 ≡ at = omega arith in rw e refl
starts_end at (x ∷ xs) = let e : at + (x.1 + size xs) ≡ at + x.1 + size xs = omega arith in rw e (ap (λ (l : List ℕ). at ∷ l) (starts_end (at + x.1) xs))

starts_push : (at : ℕ) (xs : List (Raw × ℕ)) (x : Raw × ℕ) → starts_before at (xs ++ x ∷ []) ≡ starts_before at xs ++ (at + size xs) ∷ []
starts_push at [] x = let e : at + 0 ≡ at = omega arith in rw e refl
starts_push at (y ∷ xs) x = let e : at + (y.1 + size xs) ≡ at + y.1 + size xs = omega arith in rw e (ap (λ (l : List ℕ). at ∷ l) (starts_push (at + y.1) xs x))

-- none is behind the end
small_from : (at : ℕ) (xs : List (Raw × ℕ)) → All (λ s. s ≤ at + size xs) (starts at xs)
small_from at [] = let P : ℕ → Type 0 = λ s. s ≤ at + 0 in All-push P [] at (All-nil P) (omega arith)
small_from at (x ∷ xs) =
    let P : ℕ → Type 0 = λ s. s ≤ at + (x.1 + size xs) in
    let e : at + x.1 + size xs ≡ at + (x.1 + size xs) = omega arith in
    let rest = subst (λ (n : ℕ). All (λ s. s ≤ n) (starts (at + x.1) xs)) e (small_from (at + x.1) xs) in
    All-append P (at ∷ []) (starts (at + x.1) xs) (All-push P [] at (All-nil P) (omega arith)) rest

pub as_few : (xs : List (Raw × ℕ)) → All (λ x. 0 < x.1) xs → length xs ≤ size xs
as_few [] some = omega arith
as_few (x ∷ xs) some = omega (arith, some 0 x (omega arith), as_few xs (λ k d lt. some (suc k) d (omega arith)))

-- ---- one more

-- there are as many as were read
pub read_count : (xs : List (Raw × ℕ)) (is : List Instr) → map raw_instr is ≡ raws_in_pieces xs → length is ≡ length xs
read_count xs is e = sym (length-map is raw_instr) ∙ ap length e ∙ length-map xs (λ (x : Raw × ℕ). raw_of x.0)

aims_push : (i : ℕ) (xs : List (Raw × ℕ)) (x : Raw × ℕ) → aims_from i (xs ++ x ∷ []) ≡ aims_from i xs ++ aims_in (jump_in x.0) (i + length xs)
aims_push i [] x = let a : i + 0 ≡ i = omega arith in rw a (append-nil (aims_in (jump_in x.0) i))
aims_push i (y ∷ xs) x =
    let one = aims_in (jump_in y.0) i in
    let a : i + 1 + length xs ≡ i + suc (length xs) = omega arith in
    let g = rw a at (aims_push (i + 1) xs x) in
    ap (λ (l : List ℕ). one ++ l) g ∙ sym (append_assoc one (aims_from (i + 1) xs) _)

raws_push : (xs : List (Raw × ℕ)) (x : Raw × ℕ) → raws_in_pieces (xs ++ x ∷ []) ≡ raws_in_pieces xs ++ raw_of x.0 ∷ []
raws_push xs x = map-append (λ (y : Raw × ℕ). raw_of y.0) xs (x ∷ [])

-- An instruction x of n bytes came to some others, whose end was put among the starts before.
pub reading_push : (xs : List (Raw × ℕ)) (x : Raw) (n here : ℕ) (old mid new : Reading) → here ≡ size xs → IsReading xs old
    → mid.starts ≡ old.starts ++ here ∷ [] → mid.instrs ≡ old.instrs → mid.aims.items ≡ old.aims.items → Takes x mid new → IsReading (xs ++ (x, n) ∷ []) new
reading_push xs x n here old mid new h is starts instrs aims takes =
    let count = read_count xs old.instrs is.instrs in
    record {
      starts = takes.starts ∙ starts ∙ rw (is.starts, h) (simp zero-add at (sym (starts_push 0 xs (x, n))));
      instrs = ap (map raw_instr) (takes.instrs ∙ ap (λ (l : List Instr). l ++ takes.instr ∷ []) instrs) ∙ map-append raw_instr old.instrs (takes.instr ∷ []) ∙ rw (is.instrs, takes.is) (sym (raws_push xs (x, n)));
      aims = takes.aims ∙ rw (instrs, count, aims, is.aims) (simp zero-add at (sym (aims_push 0 xs (x, n))));
    }

-- Once the end is put among the starts, nothing is left to read.
pub reading_whole : (xs : List (Raw × ℕ)) (here : ℕ) (old new : Reading) → here ≡ size xs → IsReading xs old
    → new.starts ≡ old.starts ++ here ∷ [] → new.instrs ≡ old.instrs → new.aims.items ≡ old.aims.items → AreInstructionsRead xs new
reading_whole xs here old new h is starts instrs aims = record {
  starts = starts ∙ rw (is.starts, h) (simp zero-add at (starts_end 0 xs));
  instrs = ap (map raw_instr) instrs ∙ is.instrs;
  aims = aims ∙ is.aims;
}

-- ---- those that wait

aim_ok : (n i : ℕ) (o : Option Raw) → i < n → All (λ a. a < n) (aims_in o i)
aim_ok n i (Some x) lt = let P : ℕ → Type 0 = λ a. a < n in All-push P [] i (All-nil P) lt
aim_ok n i None lt = All-nil (λ (a : ℕ). a < n)

aims_ok : (n i : ℕ) (xs : List (Raw × ℕ)) → i + length xs ≤ n → All (λ a. a < n) (aims_from i xs)
aims_ok n i [] le = All-nil (λ (a : ℕ). a < n)
aims_ok n i (x ∷ xs) le =
    let P : ℕ → Type 0 = λ a. a < n in
    All-append P (aims_in (jump_in x.0) i) (aims_from (i + 1) xs) (aim_ok n i (jump_in x.0) (omega arith)) (aims_ok n (i + 1) xs (omega arith))

pub aims_are : (xs : List (Raw × ℕ)) (r : Reading) → AreInstructionsRead xs r → All (λ a. a < length r.instrs) r.aims.items
aims_are xs r is = rw (read_count xs r.instrs is.instrs, is.aims) (aims_ok (length xs) 0 xs (omega arith))

pub places_are : (n : ℕ) (xs : List (Raw × ℕ)) (r : Reading) → n < 2 ^ 23 → AreInstructionsRead xs r → AreRead n xs → AreSmallStarts (length r.instrs) r.starts
places_are n xs r small is read = record {
  rising = subst IsRising (sym is.starts) (starts_rising xs read.some);
  count = omega (arith, ap length is.starts, length-starts 0 xs, read_count xs r.instrs is.instrs);
  few = omega (arith, ap length is.starts, few_starts xs read.some (omega (arith, read.size)));
  small = rw is.starts (λ k d lt. omega (arith, small_from 0 xs k d lt, read.size));
}

-- ---- targets

onto_step : {A : Type 0} (front : List A) (x : A) (more : Result (List A) Refusal) → onto_found (front ++ x ∷ []) more ≡ onto_found front (more >>= λ ys. Ok (x ∷ ys))
onto_step {A = A} front x (Ok ys) = ap (λ (zs : List A). Ok zs) (append_assoc front (x ∷ []) ys)
onto_step front x (Err d) = refl

-- one that waits gets its targets, and then the others do
waiting : (ss : List ℕ) (i : ℕ) (front others : List Instr) (y : Instr) (aims : List ℕ) (one : Result Instr Refusal) (more : Result (List Instr) Refusal) → i ≡ length front
    → ((z : Instr) → with_targets ss aims ((front ++ z ∷ []) ++ others) ≡ onto_found (front ++ z ∷ []) more)
    → (one >>= λ z. with_targets ss aims (set (front ++ y ∷ others) i z)) ≡ onto_found front (one >>= λ z. more >>= λ zs. Ok (z ∷ zs))
waiting ss i front others y aims (Ok z) more e rest =
    ap (with_targets ss aims) (ap (λ (k : ℕ). set (front ++ y ∷ others) k z) e ∙ set-append_seam front y others z ∙ sym (append_assoc front (z ∷ []) others)) ∙ rest z ∙ onto_step front z more
waiting ss i front others y aims (Err d) more e rest = refl

seam : {A : Type 0} (front : List A) (y : A) (others : List A) (i : ℕ) (d : A) → i ≡ length front → get_or (front ++ y ∷ others) i d ≡ y
seam front y others i d e = let z : i ≡ length front + 0 = omega (arith, e) in rw z (get_or-append-add front (y ∷ others) 0 d)

first_start : (h : ℕ) (xs : List (Raw × ℕ)) → get_or (starts h xs) 0 0 ≡ h
first_start h [] = refl
first_start h (x ∷ xs) = refl

next_start : (before : List ℕ) (i h : ℕ) (xs : List (Raw × ℕ)) (ss : List ℕ) → ss ≡ before ++ starts h xs → i ≡ length before → get_or ss i 0 ≡ h
next_start before i h xs ss s e = let z : i ≡ length before + 0 = omega (arith, e) in rw (s, z) (get_or-append-add before (starts h xs) 0 0 ∙ first_start h xs)

-- the same where it is one of them, from place h on
waits : (ss : List ℕ) (i h n : ℕ) (x : Raw) (xs : List (Raw × ℕ)) (front others : List Instr) (y : Instr) → i ≡ length front → get_or ss i 0 ≡ h → get_or ss (i + 1) 0 ≡ h + n → raw_instr y ≡ raw_of x
    → ((z : Instr) → with_targets ss (aims_from (i + 1) xs) ((front ++ z ∷ []) ++ others) ≡ onto_found (front ++ z ∷ []) (instrs_of ss (h + n) (raws_in xs)))
    → with_targets ss (i ∷ aims_from (i + 1) xs) (front ++ y ∷ others) ≡ onto_found front (instr_of ss h (h + n) (raw_of x) >>= λ z. instrs_of ss (h + n) (raws_in xs) >>= λ zs. Ok (z ∷ zs))
waits ss i h n x xs front others y e here next is rest =
    rw (here, next, seam front y others i (variants.Plain 0) e, is) (waiting ss i front others y (aims_from (i + 1) xs) (instr_of ss h (h + n) (raw_of x)) (instrs_of ss (h + n) (raws_in xs)) e rest)

-- only what has no targets is spelled as itself
same_is : (y j : Instr) → raw_instr y ≡ Same j → y ≡ j
same_is (variants.Plain op) j e = cc
same_is (variants.One op n) j e = cc
same_is (variants.Two op n m) j e = cc
same_is (variants.Branch op n) j e = absurd cc
same_is (variants.Switch n ns) j e = absurd cc
same_is (variants.Byte z) j e = cc
same_is (variants.Short z) j e = cc
same_is (variants.ScopeObject x) j e = cc
same_is (variants.Debug kind name reg extra) j e = cc

aimed_all : (ss before : List ℕ) (i h : ℕ) (xs : List (Raw × ℕ)) (front is : List Instr) → ss ≡ before ++ starts h xs → i ≡ length before → i ≡ length front → map raw_instr is ≡ raws_in_pieces xs
    → with_targets ss (aims_from i xs) (front ++ is) ≡ onto_found front (instrs_of ss h (raws_in xs))
aimed_all ss before i h [] front [] s b e k = refl
aimed_all ss before i h [] front (y ∷ ys) s b e k = absurd cc
aimed_all ss before i h (x ∷ xs) front [] s b e k = absurd cc
aimed_all ss before i h ((raws.Same j, n) ∷ xs) front (y ∷ ys) s b e k =
    let one : raw_instr y ≡ Same j = cc in
    let more : map raw_instr ys ≡ raws_in_pieces xs = cc in
    let s2 = s ∙ sym (append_assoc before (h ∷ []) (starts (h + n) xs)) in
    let b2 : i + 1 ≡ length (before ++ h ∷ []) = omega (arith, b, length-append before (h ∷ [])) in
    let e2 : i + 1 ≡ length (front ++ j ∷ []) = omega (arith, e, length-append front (j ∷ [])) in
    ap (with_targets ss (aims_from (i + 1) xs)) (ap (λ (z : Instr). front ++ z ∷ ys) (same_is y j one) ∙ sym (append_assoc front (j ∷ []) ys))
    ∙ aimed_all ss (before ++ h ∷ []) (i + 1) (h + n) xs (front ++ j ∷ []) ys s2 b2 e2 more ∙ onto_step front j (instrs_of ss (h + n) (raws_in xs))
aimed_all ss before i h ((raws.Branch op z, n) ∷ xs) front (y ∷ ys) s b e k =
    let one : raw_instr y ≡ Branch op z = cc in
    let more : map raw_instr ys ≡ raws_in_pieces xs = cc in
    let s2 = s ∙ sym (append_assoc before (h ∷ []) (starts (h + n) xs)) in
    let b2 : i + 1 ≡ length (before ++ h ∷ []) = omega (arith, b, length-append before (h ∷ [])) in
    waits ss i h n (raws.Branch op z) xs front ys y e (next_start before i h ((raws.Branch op z, n) ∷ xs) ss s b) (next_start (before ++ h ∷ []) (i + 1) (h + n) xs ss s2 b2) one
    (λ w. aimed_all ss (before ++ h ∷ []) (i + 1) (h + n) xs (front ++ w ∷ []) ys s2 b2 (omega (arith, e, length-append front (w ∷ []))) more)
aimed_all ss before i h ((raws.Switch z zs, n) ∷ xs) front (y ∷ ys) s b e k =
    let one : raw_instr y ≡ Switch z zs = cc in
    let more : map raw_instr ys ≡ raws_in_pieces xs = cc in
    let s2 = s ∙ sym (append_assoc before (h ∷ []) (starts (h + n) xs)) in
    let b2 : i + 1 ≡ length (before ++ h ∷ []) = omega (arith, b, length-append before (h ∷ [])) in
    waits ss i h n (raws.Switch z zs) xs front ys y e (next_start before i h ((raws.Switch z zs, n) ∷ xs) ss s b) (next_start (before ++ h ∷ []) (i + 1) (h + n) xs ss s2 b2) one
    (λ w. aimed_all ss (before ++ h ∷ []) (i + 1) (h + n) xs (front ++ w ∷ []) ys s2 b2 (omega (arith, e, length-append front (w ∷ []))) more)

-- what was read gets its targets from its starts
pub aimed_is : (xs : List (Raw × ℕ)) (r : Reading) → AreInstructionsRead xs r → with_targets r.starts r.aims.items r.instrs ≡ instrs_of (starts 0 xs) 0 (raws_in xs)
aimed_is xs r is = rw (is.starts, is.aims) (aimed_all (starts 0 xs) [] 0 0 xs [] r.instrs refl refl refl is.instrs ∙ nothing (instrs_of (starts 0 xs) 0 (raws_in xs))) where
  nothing : (o : Result (List Instr) Refusal) → onto_found [] o ≡ o
  nothing (Ok xs) = refl
  nothing (Err d) = refl

-- one that waits after the other, as a loop takes them
module _ (ss aims : List ℕ) (k a : ℕ) (lt : k < length aims) (at : a ≡ get_or aims k a) (is : List Instr) (all : Result (List Instr) Refusal) (h : with_targets ss (drop k aims) is ≡ all) (j : Instr) (within : a < length is) (held : get_or is a j ≡ j) (here next : ℕ)
    (first : here ≡ get_or ss a 0) (second : next ≡ get_or ss (a + 1) 0) where
  step : with_targets ss (drop k aims) is ≡ (instr_of ss here next (raw_instr j) >>= λ i. with_targets ss (drop (k + 1) aims) (set is a i))
  step =
      let one = get_or_default is a (variants.Plain 0) j within ∙ held in
      ap (λ (l : List ℕ). with_targets ss l is) (drop_read aims k a lt at) ∙ rw (first, second, one) refl

  pub aims_on : (y : Instr) → instr_of ss here next (raw_instr j) ≡ Ok y → with_targets ss (drop (k + 1) aims) (set (set is a (variants.Plain 0)) a y) ≡ all
  aims_on y e =
      ap (with_targets ss (drop (k + 1) aims)) (set-set is a (variants.Plain 0) y) ∙ sym (ap (λ (r : Result Instr Refusal). r >>= λ i. with_targets ss (drop (k + 1) aims) (set is a i)) e) ∙ sym step ∙ h

-- ---- one instruction

as_itself : (i : Instr) → has_targets i ≡ false → raw_instr i ≡ Same i
as_itself (variants.Plain op) e = refl
as_itself (variants.One op n) e = refl
as_itself (variants.Two op n m) e = refl
as_itself (variants.Branch op t) e = absurd cc
as_itself (variants.Switch t ts) e = absurd cc
as_itself (variants.Byte z) e = refl
as_itself (variants.Short z) e = refl
as_itself (variants.ScopeObject x) e = refl
as_itself (variants.Debug kind name reg extra) e = refl

-- one without targets stands as it is
pub done : (i : Raw) (old new : Reading) → IsRaw i → jump_in i ≡ None → new.instrs ≡ old.instrs ++ done_in i → new.aims.items ≡ old.aims.items → new.starts ≡ old.starts → Takes i old new
done (raws.Same i) old new raw none put a s = record { instr = i; is = as_itself i raw.1; instrs = put; aims = a ∙ sym (append-nil old.aims.items); starts = s }
done (raws.Branch op z) old new raw none put a s = absurd cc
done (raws.Switch z zs) old new raw none put a s = absurd cc

-- one with targets waits
pub waited : (i j : Raw) (y : Instr) (old mid new : Reading) → Some j ≡ jump_in i → raw_instr y ≡ raw_of j → mid.instrs ≡ old.instrs ++ done_in i → mid.aims.items ≡ old.aims.items → mid.starts ≡ old.starts
    → new.instrs ≡ mid.instrs ++ y ∷ [] → new.aims.items ≡ mid.aims.items ++ length mid.instrs ∷ [] → new.starts ≡ mid.starts → Takes i old new
waited (raws.Same i) j y old mid new e is put a s instrs aims starts = absurd cc
waited (raws.Branch op z) j y old mid new e is put a s instrs aims starts =
    let one : j ≡ raws.Branch op z = cc in
    let same = put ∙ append-nil old.instrs in
    record { instr = y; is = is ∙ ap raw_of one; instrs = instrs ∙ rw same refl; aims = aims ∙ rw (a, same) refl; starts = starts ∙ s }
waited (raws.Switch z zs) j y old mid new e is put a s instrs aims starts =
    let one : j ≡ raws.Switch z zs = cc in
    let same = put ∙ append-nil old.instrs in
    record { instr = y; is = is ∙ ap raw_of one; instrs = instrs ∙ rw same refl; aims = aims ∙ rw (a, same) refl; starts = starts ∙ s }

-- ---- code

-- the instructions that were read, with their targets
abbrev pub made_in : Reading → Result (List Instr) Refusal
made_in r = with_targets r.starts r.aims.items r.instrs

pub resolved : (xs : List (Raw × ℕ)) (r : Reading) → AreInstructionsRead xs r → resolve_targets (raws_in xs) ≡ with_starts r.starts (made_in r)
unfolding resolve_targets
resolved xs r is = rw (aimed_is xs r is, is.starts, raws_starts 0 xs) refl

pub code_read : (n : ℕ) (from a b : At) (xs : List (Raw × ℕ)) (c : Code) → code_length.reads from ≡ Ok (n, a) → (pieces n).reads a ≡ Ok (raws_in xs, b) → resolve_targets (raws_in xs) ≡ Ok c → code.reads from ≡ Ok (c, b)
unfolding code code_body
code_read n from a b xs c e f g = rw (e, f, g) refl

pub code_refused : (n : ℕ) (from a b : At) (xs : List (Raw × ℕ)) (d : Refusal) → code_length.reads from ≡ Ok (n, a) → (pieces n).reads a ≡ Ok (raws_in xs, b) → resolve_targets (raws_in xs) ≡ Err d → code.reads from ≡ Err (refusal (a.place + d.place) d.reason)
unfolding code code_body
code_refused n from a b xs d e f g = rw (e, f, g) refl

-- what is known of the instructions that were taken out, beside their starts
pub record CodeOf (xs : List (Raw × ℕ)) (ss : List ℕ) (is : List Instr) : Type 0 where
  pub starts_are : ss ≡ starts 0 xs
  pub rising : IsRising ss
  pub few : length ss < 2 ^ 32
  pub count : length ss ≡ length is + 1
  pub ready : IsReady is

pub code_of : (n : ℕ) (xs : List (Raw × ℕ)) (r : Reading) (is : List Instr) → n < 2 ^ 23 → AreInstructionsRead xs r → AreRead n xs → made_in r ≡ Ok is → CodeOf xs r.starts is
code_of n xs r js small is read e =
    let places = places_are n xs r small is read in
    let count = length-starts 0 xs in
    let found : instrs_of (starts 0 xs) 0 (raws_in xs) ≡ Ok js = sym (aimed_is xs r is) ∙ e in
    let ready = resolved_ready (starts 0 xs) xs js (omega (arith, count)) found read.raw (omega (arith, read.few)) in
    record {
      starts_are = is.starts;
      rising = places.rising;
      few = places.few;
      count = omega (arith, ap length is.starts, count, ready.number);
      ready = ready.ready;
    }

-- where the target stands that leads nowhere
pub missed_near : (xs : List (Raw × ℕ)) (r : Reading) (d : Refusal) → AreInstructionsRead xs r → All (λ x. 0 < x.1) xs → made_in r ≡ Err d → d.place ≤ size xs
missed_near xs r d is some e = omega (arith, missed_within (starts 0 xs) 0 (raws_in xs) d (raws_some xs some) (sym (aimed_is xs r is) ∙ e), raws_size xs)
