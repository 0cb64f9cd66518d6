-- Reading bytes many at a time, as they stand in the window.
use Rattle.std.proofs.Common.{◌≡◌, ℕ, zero, suc, ◌+◌, ◌-◌, ◌<◌, ◌≤◌, List, [], ◌∷◌, ◌++◌, length, take, drop, length-append, length-take, Ok, Err, refl, sym, ap, ◌∙◌, append_assoc, arith}
use Rattle.std.specs.declared.result.Result.{Result}
use Rattle.std.specs.declared.option.Option.{Option}
use Rattle.abc_file_types.specs.Part.{At, Refusal, limit, ◌>>=◌}
use Rattle.abc_file_types.specs.Numbers.{byte_at, u8}
use Rattle.abc_file_types.specs.Lists.{times}
use Rattle.abc_file_types.proofs.Numbers.{byte_again}
use Rattle.abc_varint.specs.Ready.{HoldsReady}
use Rattle.abc_varint.specs.View.{View, held_bytes, onward}
use Rattle.abc_varint.specs.Reads.{Input, IsInput, Reads, stand}
use Rattle.std.proofs.lemmas.List.{drop-append-le, drop-drop}
use Rattle.abc_varint.proofs.Inputs.{ahead, among, rest}
use Rattle.abc_varint.proofs.Loop.{Going, beside, is_done, joined, nothing, starts, with_front}

abbrev placed : ℕ → ℕ → List ℕ → At
placed end n bytes = record { place = n; bytes = bytes; end = end }

one_before : (x : ℕ) (front : List ℕ) (read : Result (List ℕ × At) Refusal) → ((with_front front read >>= beside x) >>= joined) ≡ with_front (x ∷ front) read
one_before x front (Ok y) = refl
one_before x front (Err e) = refl

both_fronts : (a b : List ℕ) (read : Result (List ℕ × At) Refusal) → with_front a (with_front b read) ≡ with_front (a ++ b) read
both_fronts a b (Ok y) = ap (λ (ns : List ℕ). Ok (ns, y.1)) (sym (append_assoc a b y.0))
both_fronts a b (Err e) = refl

-- bytes that stand here, before the end and within the longest file, are read as they are
chunk : (k m : ℕ) (held left : List ℕ) (end n : ℕ) → k ≤ length held → (0 < k → n + k ≤ end) → n + k ≤ limit
    → (times (k + m) u8).reads (placed end n (held ++ left)) ≡ with_front (take k held) ((times m u8).reads (placed end (n + k) (drop k held ++ left)))
unfolding u8
chunk zero m held left end n le within room = let a : 0 + m ≡ m = omega arith in let b : n + 0 ≡ n = omega arith in rw (a, b) (sym (nothing ((times m u8).reads (placed end n (held ++ left)))))
chunk (suc k) m [] left end n le within room = absurd (omega arith)
chunk (suc k) m (x ∷ held) left end n le within room =
    let a : suc k + m ≡ suc (k + m) = omega arith in
    let b : n + suc k ≡ n + 1 + k = omega arith in
    let to = within (omega arith) in
    let one : byte_at end n (x ∷ (held ++ left)) ≡ Ok (x, placed end (n + 1) (held ++ left)) = byte_again end n x (held ++ left) (omega arith) (omega arith) in
    let rest = chunk k m held left end (n + 1) (omega arith) (λ h. omega arith) (omega arith) in
    rw (a, b, one, rest) (one_before x (take k held) ((times m u8).reads (placed end (n + 1 + k) (drop k held ++ left))))

-- the bytes that are held, in an input
chunk_of : (k m : ℕ) (w : View) (s : Option (List ℕ)) (input : Input) → k ≤ length (held_bytes w) → (0 < k → w.place + k ≤ w.end) → w.place + k ≤ limit → IsInput w s input
    → (times (k + m) u8).reads (stand w input) ≡ with_front (take k (held_bytes w)) ((times m u8).reads (stand (onward k w) input))
chunk_of zero m w s input few within room is =
    let a : 0 + m ≡ m = omega arith in let b : w.place + 0 ≡ w.place = omega arith in rw (a, b) (sym (nothing ((times m u8).reads (stand w input))))
chunk_of (suc k) m w s input few within room is =
    let le : w.place ≤ length w.taken = omega (arith, among w (suc k) (omega arith) few) in
    let here : drop w.place input.bytes ≡ held_bytes w ++ rest w input = ahead w s input le is in
    let after : drop (w.place + suc k) input.bytes ≡ drop (suc k) (held_bytes w) ++ rest w input = sym (drop-drop (suc k) w.place input.bytes) ∙ ap (λ (t : List ℕ). drop (suc k) t) here ∙ drop-append-le (suc k) (held_bytes w) (rest w input) few in
    rw (here, after) (chunk (suc k) m (held_bytes w) (rest w input) w.end w.place few within room)

pub goes_far : (k total more less : ℕ) (items : List ℕ) (w0 : View) (s0 : Option (List ℕ)) (w : View) (s : Option (List ℕ)) → k + less ≡ more → k ≤ length (held_bytes w) → (0 < k → w.place + k ≤ w.end) → w.place + k ≤ limit
    → Going u8 total more items w0 s0 w s → Going u8 total less (items ++ take k (held_bytes w)) w0 s0 (onward k w) s
goes_far k total more less items w0 s0 w s all few within room g = record {
  fresh = g.fresh;
  forth = omega (arith, g.forth);
  ends_at = g.ends_at;
  told = g.told;
  same = λ input is.
      let read = (times less u8).reads (stand (onward k w) input) in
      let one = chunk_of k less w s input few within room is in
      let two : (times more u8).reads (stand w input) ≡ with_front (take k (held_bytes w)) read = rw (← all) one in
      sym (both_fronts items (take k (held_bytes w)) read) ∙ ap (with_front items) (sym two) ∙ g.same input is;
}

-- how many there are then
pub far_length : (k less more total : ℕ) (items held : List ℕ) → k + less ≡ more → k ≤ length held → length items + more ≡ total → length (items ++ take k held) + less ≡ total
far_length k less more total items held all few sum = omega (arith, length-append items (take k held), length-take k held)

pub more_length : (more less total : ℕ) (items : List ℕ) (x : ℕ) → more ≡ suc less → length items + more ≡ total → length (items ++ x ∷ []) + less ≡ total
more_length more less total items x one sum = omega (arith, length-append items (x ∷ []))

-- bytes that are ready, as a whole
pub text_taken : (n : ℕ) (bytes ready : List ℕ) (w w2 : View) (s : Option (List ℕ)) → HoldsReady n w → ready ≡ held_bytes w → bytes ≡ take n ready → w2 ≡ onward n w → Reads (times n u8).reads w s w2 s (Ok bytes)
text_taken n bytes ready w w2 s r same e is =
    let front : bytes ≡ take n (held_bytes w) = rw (← same) e in
    rw (is, front) (is_done u8 n 0 (take n (held_bytes w)) w s (onward n w) s refl r.fresh (goes_far n n (n - 0) 0 [] w s w s (omega arith) r.held (λ h. r.before) r.within (starts u8 n w s r.fresh)))
