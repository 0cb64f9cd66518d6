-- What reading up to an end leaves so far, and how it goes on: by the instructions at hand, or by one.
use Rattle.std.proofs.Common.{◌≡◌, ℕ, ◌+◌, ◌-◌, ◌<◌, ◌≤◌, min, List, [], ◌∷◌, ◌++◌, length, Ok, None, sym, ap, subst, ◌∙◌, length-append, arith}
use Rattle.std.specs.Prelude.{All}
use Rattle.std.specs.declared.option.Option.{Option}
use Rattle.std.proofs.lemmas.List.{append-nil, map-append}
use Rattle.std.proofs.lemmas.List.Elements.{All-append, All-nil, All-push}
use Rattle.abc_file_types.specs.Ends.{blame_first}
use Rattle.abc_file_types.specs.Instructions.{instruction, pieces}
use Rattle.abc_file_types.specs.Part.{limit}
use Rattle.abc_file_types.specs.Starts.{size as size_of}
use Rattle.abc_file_types.proofs.CodeParts.{instruction-exact, instruction-some}
use Rattle.abc_varint.specs.declared.error.ReadError.{ReadError}
use Rattle.abc_varint.specs.Ready.{HoldsReady}
use Rattle.abc_varint.specs.Reads.{FailsReading, Input, IsInput, Reads, ReadsUntil, with_end, stand}
use Rattle.abc_varint.specs.View.{GoesOver, View, held_bytes, onward}
use Rattle.abc_varint.proofs.Fill.{Filling, fill_done, fill_ends, fill_goes_on, fill_starts}
use Rattle.abc_instr.specs.declared.raw.RawInstr.{RawInstr as Raw}
use Rattle.abc_instr.specs.Offsets.{AreRaw, IsRaw, raw_len, raw_of, raws_len}
use Rattle.abc_instr.specs.Runs.{AreSpelled}
use Rattle.abc_instr.specs.Scanning.{AreRead, instrs_in, raws_in}
use Rattle.abc_instr.proofs.Resolved.{raw_push}
use Rattle.abc_instr.proofs.Running.{fill_run, spelled_few, spelled_raw, spelled_some}

-- These instructions were read so far, of n bytes.
pub record Until (n : ℕ) (xs : List (Raw × ℕ)) (w0 : View) (s0 : Option (List ℕ)) (w : View) (s : Option (List ℕ)) : Type 0 where
  pub filling : Filling (blame_first instruction) n (length xs) (raws_in xs) w0 s0 w s
  pub some : All (λ x. 0 < x.1) xs
  pub raw : AreRaw (instrs_in xs)
  pub size : w0.place + size_of xs ≡ w.place
  pub few : raws_len (instrs_in xs) ≤ size_of xs
  pub room : w.place ≤ limit
  pub within : w.place ≤ w0.place + n

pub until_starts : (n : ℕ) (w : View) (s : Option (List ℕ)) → w.kept ≡ None → w.end ≤ w.place + n → w.place ≤ limit → Until n [] w s w s
until_starts n w s fresh end room = record {
  filling = fill_starts (blame_first instruction) n w s fresh end;
  some = All-nil (λ (x : Raw × ℕ). 0 < x.1);
  raw = tt;
  size = omega arith;
  few = omega arith;
  room = room;
  within = omega arith;
}

-- ---- several

size-append : (xs ys : List (Raw × ℕ)) → size_of (xs ++ ys) ≡ size_of xs + size_of ys
size-append [] ys = omega arith
size-append (x ∷ xs) ys = omega (arith, size-append xs ys)

len-append : (xs ys : List (Raw × ℕ)) → raws_len (instrs_in (xs ++ ys)) ≡ raws_len (instrs_in xs) + raws_len (instrs_in ys)
len-append [] ys = omega arith
len-append (x ∷ xs) ys = omega (arith, len-append xs ys)

raw_append : (xs ys : List (Raw × ℕ)) → AreRaw (instrs_in xs) → AreRaw (instrs_in ys) → AreRaw (instrs_in (xs ++ ys))
raw_append [] ys a b = b
raw_append (x ∷ xs) ys a b = (a.0, raw_append xs ys a.1 b)

module _ (n : ℕ) (xs : List (Raw × ℕ)) (w0 : View) (s0 : Option (List ℕ)) (w : View) (s : Option (List ℕ)) (so_far : Until n xs w0 s0 w s) where
  some_run : (ys : List (Raw × ℕ)) (count : ℕ) (w2 : View) → AreSpelled ys (held_bytes w) → size_of ys ≡ count → HoldsReady count w → w2 ≡ onward count w → Until n (xs ++ ys) w0 s0 w2 s
  some_run ys count w2 are count_is ready is =
      let place : w2.place ≡ w.place + count = ap (λ (v : View). v.place) is in
      let len : length (xs ++ ys) ≡ length xs + length ys = length-append xs ys in
      let raws : raws_in (xs ++ ys) ≡ raws_in xs ++ raws_in ys = map-append (λ (y : Raw × ℕ). (raw_of y.0, y.1)) xs ys in
      let all : HoldsReady (size_of ys) w = subst (λ (k : ℕ). HoldsReady k w) (sym count_is) ready in
      let filled = fill_run n (length xs) (raws_in xs) w0 s0 w s ys are all (omega (arith, ready.before, so_far.filling.end, count_is)) so_far.filling in
      let to : onward (size_of ys) w ≡ w2 = ap (λ (k : ℕ). onward k w) count_is ∙ sym is in
      record {
        filling = subst (λ (v : View). Filling (blame_first instruction) n (length (xs ++ ys)) (raws_in (xs ++ ys)) w0 s0 v s) to (rw (len, raws) filled);
        some = All-append (λ (x : Raw × ℕ). 0 < x.1) xs ys so_far.some (spelled_some ys (held_bytes w) are);
        raw = raw_append xs ys so_far.raw (spelled_raw ys (held_bytes w) are);
        size = omega (arith, size-append xs ys, so_far.size, count_is, place);
        few = omega (arith, size-append xs ys, len-append xs ys, so_far.few, spelled_few ys (held_bytes w) are);
        room = omega (arith, ready.within, place);
        within = omega (arith, ready.before, so_far.filling.end, place);
      }

  -- those at hand
  pub until_run : (ys : List (Raw × ℕ)) (count : ℕ) (w2 : View) → AreSpelled ys (held_bytes w) → size_of ys ≡ count → (0 < count → HoldsReady count w) → w2 ≡ onward count w → Until n (xs ++ ys) w0 s0 w2 s
  until_run [] count w2 are count_is ready is =
      let none : count ≡ 0 = omega (arith, count_is) in
      let back : onward 0 w ≡ w = let e : w.place + 0 ≡ w.place = omega arith in λ t. record { place = e t; taken = w.taken; kept = w.kept; end = w.end } in
      rw (append-nil xs) (subst (λ (v : View). Until n xs w0 s0 v s) (sym (is ∙ ap (λ (k : ℕ). onward k w) none ∙ back)) so_far)
  until_run (y ∷ ys) count w2 are count_is ready is = some_run (y ∷ ys) count w2 are count_is (ready (omega (arith, are.0.some, count_is))) is

  -- one
  pub until_one : (x : Raw) (w2 : View) (s2 : Option (List ℕ)) → w.place < w0.place + n → w.place < w2.place → GoesOver (raw_len x) w w2 → w2.place ≤ limit → IsRaw x
      → Reads (blame_first instruction).reads w s w2 s2 (Ok (raw_of x)) → Until n (xs ++ (x, w2.place - w.place) ∷ []) w0 s0 w2 s2
  until_one x w2 s2 before moves passes room raw reads =
      let m = w2.place - w.place in
      let len : length (xs ++ (x, m) ∷ []) ≡ length xs + 1 = length-append xs ((x, m) ∷ []) in
      let all : instrs_in (xs ++ (x, m) ∷ []) ≡ instrs_in xs ++ x ∷ [] = map-append (λ (y : Raw × ℕ). y.0) xs ((x, m) ∷ []) in
      let raws : raws_in (xs ++ (x, m) ∷ []) ≡ raws_in xs ++ (raw_of x, m) ∷ [] = map-append (λ (y : Raw × ℕ). (raw_of y.0, y.1)) xs ((x, m) ∷ []) in
      record {
        filling = rw (len, raws) (fill_goes_on (blame_first instruction) n (length xs) (raws_in xs) w0 s0 w s w2 s2 (raw_of x) instruction-exact instruction-some so_far.room
            (omega (arith, so_far.filling.room.1, before)) before so_far.filling reads);
        some = All-push (λ (p : Raw × ℕ). 0 < p.1) xs (x, m) so_far.some (omega (arith, moves));
        raw = rw all (raw_push (instrs_in xs) x so_far.raw raw);
        size = omega (arith, so_far.size, size-append xs ((x, m) ∷ []), moves);
        few = omega (arith, so_far.few, size-append xs ((x, m) ∷ []), len-append xs ((x, m) ∷ []), passes.0);
        room = room;
        within = omega (arith, passes.1, so_far.filling.end);
      }

  -- ---- what is known of it all

  pub until_read : AreRead n xs
  until_read = record { some = so_far.some; raw = so_far.raw; size = omega (arith, so_far.size, so_far.within); few = omega (arith, so_far.few, so_far.size, so_far.within) }

  pub until_done : w0.place + n ≤ w.place → w0.kept ≡ None → ReadsUntil n (pieces n).reads w0 s0 w s (Ok (raws_in xs))
  unfolding pieces
  until_done at_end fresh = fill_done (blame_first instruction) n (length xs) (raws_in xs) w0 s0 w s at_end fresh so_far.filling

  pub until_ends : (e : ReadError) (input : Input) → w.place < w0.place + n → IsInput w s input × FailsReading e ((blame_first instruction).reads (stand w input))
      → IsInput w0 s0 input × ((outer : ℕ) → w0.end ≡ min outer (w0.place + n) → FailsReading e ((pieces n).reads (with_end outer (stand w0 input))))
  unfolding pieces
  until_ends e input before fails = fill_ends e (blame_first instruction) n (length xs) (raws_in xs) w0 s0 w s input (omega (arith, so_far.filling.room.1, before)) before so_far.filling fails
