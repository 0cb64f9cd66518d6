-- Reading items until an end, as a loop does.
use Rattle.std.proofs.Common.{◌≡◌, ℕ, suc, ◌+◌, ◌-◌, ◌<◌, ◌≤◌, min, List, [], ◌∷◌, ◌++◌, length, Ok, Err, None, refl, sym, ap, ◌∙◌, arith}
use Rattle.std.proofs.lemmas.List.{append-nil}
use Rattle.std.specs.declared.option.Option.{Option}
use Rattle.std.specs.declared.result.Result.{Result}
use Rattle.abc_varint.specs.declared.error.ReadError.{ReadError}
use Rattle.abc_varint.specs.declared.error.ReadError.TheVariants as errors
use Rattle.abc_file_types.specs.Part.{At, Refusal, refusal, Part, limit}
use Rattle.abc_file_types.specs.Ends.{fill, inside, IsNonEmpty}
use Rattle.abc_file_types.specs.Law.{Exact}
use Rattle.abc_varint.specs.View.{View}
use Rattle.abc_varint.specs.Reads.{Reads, FailsReading, Input, IsInput, known_input, stand, with_end, ReadsUntil}
use Rattle.abc_varint.proofs.Inputs.{known_is}
use Rattle.abc_varint.proofs.Loop.{with_front, moved, nothing}

-- With `items` read so far, what is read in all, whatever the end was before one was set within the next n bytes.
pub record Filling {A : Type 0} (p : Part A) (n i : ℕ) (items : List (A × ℕ)) (w0 : View) (s0 : Option (List ℕ)) (w : View) (s : Option (List ℕ)) : Type 0 where
  pub fresh : w.kept ≡ None
  pub forth : w0.place ≤ w.place
  pub told : (input : Input) → IsInput w s input → IsInput w0 s0 input
  pub end : w.end ≤ w0.place + n
  pub ends_at : w.end ≡ w0.end
  pub room : (w.place ≤ w0.place + n) × (w0.place + n - w.place + i ≤ n)
  pub same : (input : Input) → IsInput w s input → (outer : ℕ) → w0.end ≡ min outer (w0.place + n)
      → with_front items ((fill (n - i) (w0.place + n - w.place) p).reads (with_end outer (stand w input))) ≡ (fill n n p).reads (with_end outer (stand w0 input))

pub fill_starts : {A : Type 0} (p : Part A) (n : ℕ) (w : View) (s : Option (List ℕ)) → w.kept ≡ None → w.end ≤ w.place + n → Filling p n 0 [] w s w s
fill_starts p n w s k e =
    let a : n - 0 ≡ n = omega arith in
    let b : w.place + n - w.place ≡ n = omega arith in
    record { fresh = k; forth = omega arith; told = λ input is. is; end = e; ends_at = refl; room = (omega arith, omega arith); same = λ input is outer h. rw (a, b) (nothing ((fill n n p).reads (with_end outer (stand w input)))) }

-- one item within the room
step_ok : {A : Type 0} (p : Part A) (m outer : ℕ) (w : View) (x : A) (w2 : View) (input : Input) → w.end ≡ min outer (w.place + m)
    → p.reads (stand w input) ≡ Ok (x, stand w2 input) → (inside m p).reads (with_end outer (stand w input)) ≡ Ok (x, with_end outer (stand w2 input))
step_ok p m outer w x w2 input e h =
    let c : min outer (w.place + m) ≡ w.end = sym e in
    rw (c, h) refl

step_err : {A : Type 0} (p : Part A) (m outer : ℕ) (w : View) (input : Input) (r : Refusal) → w.end ≡ min outer (w.place + m)
    → p.reads (stand w input) ≡ Err r → (inside m p).reads (with_end outer (stand w input)) ≡ Err r
step_err p m outer w input r e h =
    let c : min outer (w.place + m) ≡ w.end = sym e in
    rw (c, h) refl

-- the end that was set, from further on
same_end : (outer at n place m end : ℕ) → end ≡ min outer (at + n) → place + m ≡ at + n → end ≡ min outer (place + m)
same_end outer at n place m end e same = e ∙ ap (min outer) (sym same)

pub fill_goes_on : {A : Type 0} (p : Part A) (n i : ℕ) (items : List (A × ℕ)) (w0 : View) (s0 : Option (List ℕ)) (w : View) (s : Option (List ℕ)) (w2 : View) (s2 : Option (List ℕ)) (x : A)
    → Exact p → IsNonEmpty p → w.place ≤ limit → i < n → w.place < w0.place + n → Filling p n i items w0 s0 w s → Reads p.reads w s w2 s2 (Ok x)
    → Filling p n (i + 1) (items ++ (x, w2.place - w.place) ∷ []) w0 s0 w2 s2
fill_goes_on {A = A} p n i items w0 s0 w s w2 s2 x ep full here lt before g r =
    let b = ep.found (stand w (known_input w2 s2)) x (stand w2 (known_input w2 s2)) here (r.4 (known_input w2 s2) (known_is w2 s2)).1 in
    let one : 1 ≤ length b.front = full.some x b.front b.spelled in
    let some : 0 < length b.front = omega arith in
    let to : w2.place ≤ w.end = b.is.within some in
    let by : w2.place ≡ w.place + length b.front = b.is.place in
    let e = g.end in
    record {
      fresh = r.1;
      forth = omega (arith, g.forth, r.2);
      told = λ input is. g.told input (r.4 input is).0;
      end = omega (arith, r.3, g.end);
      ends_at = r.3 ∙ g.ends_at;
      room = let q = g.room.1 in (omega arith, omega arith);
      same = λ input is outer end.
          let h = (r.4 input is).1 in
          let fuel : n - i ≡ suc (n - (i + 1)) = omega arith in
          let m = w0.place + n - (w.place + 1) in
          let room : w0.place + n - w.place ≡ suc m = omega arith in
          let left : suc m - (w2.place - w.place) ≡ w0.place + n - w2.place = omega arith in
          let here_end : w.end ≡ min outer (w.place + suc m) = same_end outer w0.place n w.place (suc m) w.end (g.ends_at ∙ end) (omega arith) in
          let step : (inside (suc m) p).reads (with_end outer (stand w input)) ≡ Ok (x, with_end outer (stand w2 input)) = step_ok p (suc m) outer w x w2 input here_end h in
          sym (rw (fuel, room, step, left) (moved items (x, w2.place - w.place) ((fill (n - (i + 1)) (w0.place + n - w2.place) p).reads (with_end outer (stand w2 input))))) ∙ g.same input (r.4 input is).0 outer end;
    }

pub fill_ends : {A : Type 0} (e : ReadError) (p : Part A) (n i : ℕ) (items : List (A × ℕ)) (w0 : View) (s0 : Option (List ℕ)) (w : View) (s : Option (List ℕ)) (input : Input)
    → i < n → w.place < w0.place + n → Filling p n i items w0 s0 w s → IsInput w s input × FailsReading e (p.reads (stand w input))
    → IsInput w0 s0 input × ((outer : ℕ) → w0.end ≡ min outer (w0.place + n) → FailsReading e ((fill n n p).reads (with_end outer (stand w0 input))))
fill_ends (errors.Refused place reason) p n i items w0 s0 w s input lt before g f =
    let h : p.reads (stand w input) ≡ Err (refusal place reason) = f.1 in
    let fuel : n - i ≡ suc (n - (i + 1)) = omega arith in
    let m = w0.place + n - (w.place + 1) in
    let room : w0.place + n - w.place ≡ suc m = omega arith in (
      g.told input f.0,
      λ outer end.
          let here_end : w.end ≡ min outer (w.place + suc m) = same_end outer w0.place n w.place (suc m) w.end (g.ends_at ∙ end) (omega arith) in
          let step : (inside (suc m) p).reads (with_end outer (stand w input)) ≡ Err (refusal place reason) = step_err p (suc m) outer w input (refusal place reason) here_end h in
          let one : with_front items ((fill (n - i) (w0.place + n - w.place) p).reads (with_end outer (stand w input))) ≡ Err (refusal place reason) = rw (fuel, room, step) refl in
          sym (g.same input f.0 outer end) ∙ one,
    )
fill_ends errors.ReadFault p n i items w0 s0 w s input lt before g f = (g.told input f.0, λ outer end. tt)
fill_ends errors.NoMemory p n i items w0 s0 w s input lt before g f = (g.told input f.0, λ outer end. tt)

pub fill_done : {A : Type 0} (p : Part A) (n i : ℕ) (items : List (A × ℕ)) (w0 : View) (s0 : Option (List ℕ)) (w : View) (s : Option (List ℕ))
    → w0.place + n ≤ w.place → w0.kept ≡ None → Filling p n i items w0 s0 w s → ReadsUntil n (fill n n p).reads w0 s0 w s (Ok items)
fill_done {A = A} p n i items w0 s0 w s at_end fresh g = (
  fresh,
  g.fresh,
  g.forth,
  g.ends_at,
  λ input is. (
    g.told input is,
    λ outer end.
        let room : w0.place + n - w.place ≡ 0 = omega arith in
        sym (g.same input is outer end) ∙ rw room (ap (λ (ns : List (A × ℕ)). Ok (ns, with_end outer (stand w input))) (append-nil items)),
  ),
)

-- Where the end was set within the next n bytes, and then set back, it was read from there.
pub until_within : {X : Type 0} (reads : At → Result (X × At) Refusal) (n : ℕ) (w : View) (s : Option (List ℕ)) (w2 : View) (s2 : Option (List ℕ)) (r : Result X ReadError)
    → ReadsUntil n reads (record w { end = min w.end (w.place + n) }) s w2 s2 r → Reads reads w s (record w2 { end = w.end }) s2 r
until_within reads n w s w2 s2 (Ok x) h = (h.0, h.1, h.2, refl, λ input is. let d = h.4 input is in (d.0, d.1 w.end refl))
until_within reads n w s w2 s2 (Err e) h = λ fresh. let d = h fresh in (d.0, d.1 w.end refl)
