-- What a run of copied instructions is, how it grows, and what it leaves.
use Rattle.std.proofs.Common.{◌≡◌, ℕ, suc, ◌+◌, ◌-◌, ◌<◌, ◌≤◌, List, [], ◌∷◌, ◌++◌, length, take, drop, None, Some, refl, sym, ap, subst, ◌∙◌, length-take, length-drop, append_assoc, zero-add, inl, inr, false, arith}
use Rattle.std.specs.Prelude.{All, nat_eq}
use Rattle.std.specs.List.{flat_map}
use Rattle.std.specs.declared.option.Option.{Option}
use Rattle.std.proofs.Math.Seq.{take-add}
use Rattle.std.proofs.lemmas.Bool.{ne_eqb}
use Rattle.std.proofs.lemmas.Bool.Decides.{eqb_tells}
use Rattle.std.proofs.lemmas.List.{append-nil, drop-drop, map-append, take_all}
use Rattle.std.proofs.lemmas.List.Concat.{flat_map-append}
use Rattle.std.proofs.lemmas.List.Elements.{All-cons, All-nil}
use Rattle.abc_file_types.specs.Ends.{blame_first}
use Rattle.abc_file_types.specs.Instructions.{RawInstr, instruction}
use Rattle.abc_file_types.specs.Starts.{size}
use Rattle.abc_file_types.proofs.CodeParts.{instruction-exact, instruction-some}
use Rattle.abc_file_types.proofs.Resolving.{size-push}
use Rattle.abc_varint.specs.Ready.{HoldsReady}
use Rattle.abc_varint.specs.View.{View, held_bytes, onward}
use Rattle.abc_varint.proofs.Fill.{Filling, fill_goes_on}
use Rattle.abc_varint.proofs.Front.{front_taken}
use Rattle.abc_varint.proofs.Inputs.{among}
use Rattle.abc_instr.specs.declared.holes.Hole.{Hole}
use Rattle.abc_instr.specs.declared.raw.RawInstr.{RawInstr as Raw}
use Rattle.abc_instr.specs.declared.scan.Scan.{Scan}
use Rattle.abc_instr.specs.Marks.{mark_at, with_mark}
use Rattle.abc_instr.specs.Offsets.{AreRaw, raw_len, raw_of, raws_len}
use Rattle.abc_instr.specs.Runs.{AreSpelled, IsCopied, IsPassed, IsSpelled, Runs, StepsOver, started}
use Rattle.abc_instr.specs.Scanning.{IsScan, holes_from, holes_in, instrs_in, raw_bytes, raws_in, start_in}
use Rattle.abc_instr.proofs.Adding.{no_holes}
use Rattle.abc_instr.proofs.Scanned.{all_bytes_len, code_len_is}

-- ---- what is known of all of them

pub spelled_raw : (xs : List (Raw × ℕ)) (bytes : List ℕ) → AreSpelled xs bytes → AreRaw (instrs_in xs)
spelled_raw [] bytes are = tt
spelled_raw (x ∷ xs) bytes are = (are.0.raw, spelled_raw xs (drop x.1 bytes) are.1)

pub spelled_some : (xs : List (Raw × ℕ)) (bytes : List ℕ) → AreSpelled xs bytes → All (λ y. 0 < y.1) xs
spelled_some [] bytes are = All-nil (λ (y : Raw × ℕ). 0 < y.1)
spelled_some (x ∷ xs) bytes are = All-cons (λ (y : Raw × ℕ). 0 < y.1) x xs are.0.some (spelled_some xs (drop x.1 bytes) are.1)

pub spelled_few : (xs : List (Raw × ℕ)) (bytes : List ℕ) → AreSpelled xs bytes → raws_len (instrs_in xs) ≤ size xs
spelled_few [] bytes are = omega arith
spelled_few (x ∷ xs) bytes are = omega (arith, are.0.short, spelled_few xs (drop x.1 bytes) are.1)

spelled_within : (xs : List (Raw × ℕ)) (bytes : List ℕ) → AreSpelled xs bytes → size xs ≤ length bytes
spelled_within [] bytes are = omega arith
spelled_within (x ∷ xs) bytes are = omega (arith, are.0.within, spelled_within xs (drop x.1 bytes) are.1, length-drop x.1 bytes)

-- copied as they stand, they have as many bytes as they had
copied_len : (xs : List (Raw × ℕ)) (bytes : List ℕ) → AreSpelled xs bytes → take (size xs) bytes ≡ flat_map raw_bytes (instrs_in xs) → raws_len (instrs_in xs) ≡ size xs
copied_len xs bytes are copied = omega (arith, all_bytes_len xs (spelled_raw xs bytes are), ap length copied, length-take (size xs) bytes, spelled_within xs bytes are)

-- ---- one more

pub spelled_push : (xs : List (Raw × ℕ)) (x : Raw) (n : ℕ) (bytes : List ℕ) → AreSpelled xs bytes → IsSpelled x n (drop (size xs) bytes) → AreSpelled (xs ++ (x, n) ∷ []) bytes
spelled_push [] x n bytes are one = (one, tt)
spelled_push (y ∷ xs) x n bytes are one = (are.0, spelled_push xs x n (drop y.1 bytes) are.1 (subst (IsSpelled x n) (sym (drop-drop (size xs) y.1 bytes)) one))

-- no start is before the first
start_before : (here moved : ℕ) (xs : List (Raw × ℕ)) (p : ℕ) → p < here → start_in here moved xs p ≡ None
start_before here moved [] p lt = refl
start_before here moved (x ∷ xs) p lt =
    let other : nat_eq p here ≡ false = ne_eqb p here (λ same. omega (arith, lt, same)) in
    rw other (start_before (here + x.1) (moved + raw_len x.0) xs p (omega arith))

-- the starts of some, and of others after them
pub start_append : (here moved : ℕ) (xs ys : List (Raw × ℕ)) (p : ℕ) → All (λ y. 0 < y.1) xs
    → start_in here moved (xs ++ ys) p ≡ started (start_in here moved xs) (start_in (here + size xs) (moved + raws_len (instrs_in xs)) ys p) p
start_append here moved [] ys p some =
    let e : here + 0 ≡ here = omega arith in let f : moved + 0 ≡ moved = omega arith in rw (e, f) (by (start_in here moved ys p)) where
      by : (o : Option ℕ) → o ≡ started (start_in here moved []) o p
      by (Some m) = refl
      by None = refl
start_append here moved (x ∷ xs) ys p some =
    let first : 0 < x.1 = some 0 x (omega arith) in
    let e : here + (x.1 + size xs) ≡ here + x.1 + size xs = omega arith in
    let f : moved + (raw_len x.0 + raws_len (instrs_in xs)) ≡ moved + raw_len x.0 + raws_len (instrs_in xs) = omega arith in
    let rest = start_append (here + x.1) (moved + raw_len x.0) xs ys p (λ k d lt. some (suc k) d (omega arith)) in
    elim (eqb_tells p here) [
      | inl at ↦ let none = start_before (here + x.1 + size xs) (moved + raw_len x.0 + raws_len (instrs_in xs)) ys p (omega (arith, at.1)) in rw (e, f, none, at.0) refl
      | inr other ↦ rw (e, f, other.0) (rest ∙ same (start_in (here + x.1 + size xs) (moved + raw_len x.0 + raws_len (instrs_in xs)) ys p) other.0)
    ] where
      same : (o : Option ℕ) → nat_eq p here ≡ false
          → started (start_in (here + x.1) (moved + raw_len x.0) xs) o p ≡ started (start_in here moved (x ∷ xs)) o p
      same (Some m) e = refl
      same None e = rw e refl

pub holes_append : (here moved : ℕ) (xs ys : List (Raw × ℕ)) → holes_from here moved (xs ++ ys) ≡ holes_from here moved xs ++ holes_from (here + size xs) (moved + raws_len (instrs_in xs)) ys
holes_append here moved [] ys = let e : here + 0 ≡ here = omega arith in let f : moved + 0 ≡ moved = omega arith in rw (e, f) refl
holes_append here moved (x ∷ xs) ys =
    let one = holes_in x.0 here (here + x.1) moved in
    let e : here + x.1 + size xs ≡ here + (x.1 + size xs) = omega arith in
    let f : moved + raw_len x.0 + raws_len (instrs_in xs) ≡ moved + (raw_len x.0 + raws_len (instrs_in xs)) = omega arith in
    let g = rw (e, f) at (holes_append (here + x.1) (moved + raw_len x.0) xs ys) in
    ap (λ (l : List Hole). one ++ l) g ∙ sym (append_assoc one (holes_from (here + x.1) (moved + raw_len x.0) xs) _)

-- ---- a run that begins, and one that goes on

pub run_starts : (bytes : List ℕ) (here moved : ℕ) (marks : ℕ → Option ℕ) (holes : List Hole) → Runs bytes here moved marks marks holes holes 0
run_starts bytes here moved marks holes = record { xs = []; spelled = tt; size = refl; shortest = refl; marked = λ p. refl; noted = sym (append-nil holes) }

pub run_on : (bytes : List ℕ) (here moved : ℕ) (marks marks1 marks2 : ℕ → Option ℕ) (holes holes1 holes2 : List Hole) (n k : ℕ) (x : Raw) → Runs bytes here moved marks marks1 holes holes1 n
    → IsCopied x k (drop n bytes) → ((p : ℕ) → marks2 p ≡ with_mark (here + n) (moved + n) marks1 p) → holes2 ≡ holes1 ++ holes_in x (here + n) (here + n + k) (moved + n)
    → Runs bytes here moved marks marks2 holes holes2 (n + k)
run_on bytes here moved marks marks1 marks2 holes holes1 holes2 n k x run one mark note =
    let xs = run.xs in
    let len : raws_len (instrs_in xs) ≡ n = copied_len xs bytes run.spelled (ap (λ (m : ℕ). take m bytes) run.size ∙ run.shortest) ∙ run.size in
    let all : instrs_in (xs ++ (x, k) ∷ []) ≡ instrs_in xs ++ x ∷ [] = map-append (λ (y : Raw × ℕ). y.0) xs ((x, k) ∷ []) in
    let h : here + size xs ≡ here + n = ap (λ (m : ℕ). here + m) run.size in
    let m : moved + raws_len (instrs_in xs) ≡ moved + n = ap (λ (k : ℕ). moved + k) len in
    let some = spelled_some xs bytes run.spelled in
    let starts : (p : ℕ) → start_in here moved (xs ++ (x, k) ∷ []) p ≡ started (start_in here moved xs) (start_in (here + n) (moved + n) ((x, k) ∷ []) p) p =
    λ p. start_append here moved xs ((x, k) ∷ []) p some ∙ (λ t. started (start_in here moved xs) (start_in (h t) (m t) ((x, k) ∷ []) p) p) in
    let more : holes_from here moved (xs ++ (x, k) ∷ []) ≡ holes_from here moved xs ++ holes_from (here + n) (moved + n) ((x, k) ∷ []) =
    holes_append here moved xs ((x, k) ∷ []) ∙ (λ t. holes_from here moved xs ++ holes_from (h t) (m t) ((x, k) ∷ [])) in
    record {
      xs = xs ++ (x, k) ∷ [];
      spelled = spelled_push xs x k bytes run.spelled (subst (λ (m : ℕ). IsSpelled x k (drop m bytes)) (sym run.size) one.spelled);
      size = omega (arith, size-push xs (x, k), run.size);
      shortest = take-add n k bytes ∙ (λ t. run.shortest t ++ (one.shortest ∙ sym (append-nil (raw_bytes x))) t) ∙ sym (ap (flat_map raw_bytes) all ∙ flat_map-append raw_bytes (instrs_in xs) (x ∷ []));
      marked = λ p. mark p ∙ by p (run.marked p) ∙ sym (ap (λ (o : Option ℕ). started marks o p) (starts p));
      noted = note ∙ ap (λ (l : List Hole). l ++ holes_in x (here + n) (here + n + k) (moved + n)) run.noted ∙ append_assoc holes (holes_from here moved xs) (holes_in x (here + n) (here + n + k) (moved + n))
          ∙ ap (λ (l : List Hole). holes ++ (holes_from here moved xs ++ l)) (sym (append-nil (holes_in x (here + n) (here + n + k) (moved + n))))
          ∙ ap (λ (l : List Hole). holes ++ l) (sym more);
    } where
      by : (p : ℕ) → marks1 p ≡ started marks (start_in here moved run.xs p) p
          → with_mark (here + n) (moved + n) marks1 p ≡ started marks (started (start_in here moved run.xs) (start_in (here + n) (moved + n) ((x, k) ∷ []) p) p) p
      by p e = elim (eqb_tells p (here + n)) [
        | inl same ↦ rw same.0 refl
        | inr other ↦ rw other.0 e
      ]

pub run_step : (bytes : List ℕ) (here moved : ℕ) (marks marks1 marks2 : ℕ → Option ℕ) (holes holes1 holes2 : List Hole) (at k most : ℕ) → Runs bytes here moved marks marks1 holes holes1 at
    → StepsOver k (take (length bytes - at) (drop at bytes)) most (here + at) (moved + at) holes1 holes2 → ((p : ℕ) → marks2 p ≡ with_mark (here + at) (moved + at) marks1 p) → Runs bytes here moved marks marks2 holes holes2 (at + k)
run_step bytes here moved marks marks1 marks2 holes holes1 holes2 at k most run step mark =
    let all : take (length bytes - at) (drop at bytes) ≡ drop at bytes = take_all (length bytes - at) (drop at bytes) (omega (arith, length-drop at bytes)) in
    run_on bytes here moved marks marks1 marks2 holes holes1 holes2 at k step.instr run (subst (IsCopied step.instr k) all step.copied) mark step.noted

pub passed_over : (n : ℕ) (bytes : List ℕ) (most here moved : ℕ) (old : List Hole) → IsPassed n bytes → n ≤ most → StepsOver n bytes most here moved old old
passed_over n bytes most here moved old p room = record {
  instr = p.instr;
  copied = p.copied;
  room = room;
  noted = sym (append-nil old) ∙ ap (λ (l : List Hole). old ++ l) (sym (no_holes p.instr here (here + n) moved p.plain));
}

-- where the marks before it stand in another table
pub run_over : (bytes : List ℕ) (here moved : ℕ) (marks grown marks2 : ℕ → Option ℕ) (holes holes2 : List Hole) (n : ℕ) → ((p : ℕ) → grown p ≡ marks p) → Runs bytes here moved grown marks2 holes holes2 n
    → Runs bytes here moved marks marks2 holes holes2 n
run_over bytes here moved marks grown marks2 holes holes2 n same run = record {
  xs = run.xs;
  spelled = run.spelled;
  size = run.size;
  shortest = run.shortest;
  marked = λ p. run.marked p ∙ by p (start_in here moved run.xs p);
  noted = run.noted;
} where
  by : (p : ℕ) (o : Option ℕ) → started grown o p ≡ started marks o p
  by p (Some m) = refl
  by p None = same p

-- ---- a scan that a run came to

pub scan_run : (ys : List (Raw × ℕ)) (bytes : List ℕ) (here n : ℕ) (old new : Scan) → All (λ y. 0 < y.1) ys → AreRaw (instrs_in ys) → here ≡ size ys → IsScan ys old
    → (run : Runs bytes here (length old.code.items) (mark_at old.marks) (mark_at new.marks) old.holes.items new.holes.items n) → new.code.items ≡ old.code.items ++ take n bytes → IsScan (ys ++ run.xs) new
scan_run ys bytes here n old new some raw h is run code =
    let xs = run.xs in
    let len = code_len_is ys old raw is in
    let all : instrs_in (ys ++ xs) ≡ instrs_in ys ++ instrs_in xs = map-append (λ (y : Raw × ℕ). y.0) ys xs in
    record {
      marks = λ p. run.marked p ∙ (λ t. started (mark_at old.marks) (start_in (h t) (len t) xs p) p) ∙ by p (start_in (size ys) (raws_len (instrs_in ys)) xs p) ∙ sym (simp zero-add at (start_append 0 0 ys xs p some));
      code = code ∙ (λ t. is.code t ++ run.shortest t) ∙ sym (ap (flat_map raw_bytes) all ∙ flat_map-append raw_bytes (instrs_in ys) (instrs_in xs));
      holes = run.noted ∙ (λ t. is.holes t ++ holes_from (h t) (len t) xs) ∙ sym (simp zero-add at (holes_append 0 0 ys xs));
    } where
      by : (p : ℕ) (o : Option ℕ) → started (mark_at old.marks) o p ≡ started (start_in 0 0 ys) o p
      by p (Some m) = refl
      by p None = is.marks p

-- ---- a run is read

pub fill_run : (n i : ℕ) (items : List (RawInstr × ℕ)) (w0 : View) (s0 : Option (List ℕ)) (w : View) (s : Option (List ℕ)) (xs : List (Raw × ℕ)) → AreSpelled xs (held_bytes w) → HoldsReady (size xs) w → w.place + size xs ≤ w0.place + n
    → Filling (blame_first instruction) n i items w0 s0 w s → Filling (blame_first instruction) n (i + length xs) (items ++ raws_in xs) w0 s0 (onward (size xs) w) s
fill_run n i items w0 s0 w s [] are ready room g =
    let e : i + 0 ≡ i = omega arith in
    let f : w.place + 0 ≡ w.place = omega arith in
    rw (e, f, append-nil items) g
fill_run n i items w0 s0 w s (x ∷ xs) are ready room g =
    let v = onward x.1 w in
    let first : HoldsReady x.1 w = record { fresh = ready.fresh; held = are.0.within; before = omega (arith, ready.before); within = omega (arith, ready.within) } in
    let read = front_taken (blame_first instruction) (raw_of x.0) x.1 w v s instruction-exact (omega (arith, among w x.1 are.0.some are.0.within)) first are.0.spells refl in
    let count : w.place + x.1 - w.place ≡ x.1 = omega arith in
    let one = rw count at (fill_goes_on (blame_first instruction) n i items w0 s0 w s v s (raw_of x.0) instruction-exact instruction-some (omega (arith, ready.within)) (omega (arith, g.room.1, are.0.some, room)) (omega (arith, are.0.some, room)) g read) in
    let after : drop x.1 (held_bytes w) ≡ held_bytes v = drop-drop x.1 w.place w.taken in
    let rest : HoldsReady (size xs) v = record {
      fresh = ready.fresh;
      held = omega (arith, ready.held, ap length after, length-drop x.1 (held_bytes w));
      before = omega (arith, ready.before);
      within = omega (arith, ready.within);
    } in
    let all = fill_run n (i + 1) (items ++ (raw_of x.0, x.1) ∷ []) w0 s0 v s xs (subst (AreSpelled xs) after are.1) rest (omega (arith, room)) one in
    let e : i + 1 + length xs ≡ i + suc (length xs) = omega arith in
    let f : w.place + x.1 + size xs ≡ w.place + (x.1 + size xs) = omega arith in
    rw (e, f, append_assoc items ((raw_of x.0, x.1) ∷ []) (raws_in xs)) at all
