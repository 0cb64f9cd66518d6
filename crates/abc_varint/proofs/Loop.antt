-- Reading items one after the other, as a loop does.
use Rattle.std.proofs.Common.{◌≡◌, ℕ, suc, ◌-◌, ◌<◌, ◌≤◌, List, [], ◌∷◌, ◌++◌, Ok, Err, None, refl, sym, ap, ◌∙◌, append_assoc, arith}
use Rattle.std.proofs.lemmas.List.{append-nil}
use Rattle.std.specs.declared.result.Result.{Result}
use Rattle.std.specs.declared.option.Option.{Option}
use Rattle.abc_varint.specs.declared.error.ReadError.{ReadError}
use Rattle.abc_varint.specs.declared.error.ReadError.TheVariants as errors
use Rattle.abc_file_types.specs.Part.{At, Refusal, refusal, Part, ◌>>=◌}
use Rattle.abc_file_types.specs.Lists.{times}
use Rattle.abc_varint.specs.View.{View}
use Rattle.abc_varint.specs.Reads.{Reads, FailsReading, Input, IsInput, stand}

-- what was read before, and what is still read
abbrev pub with_front : {A : Type 0} → List A → Result (List A × At) Refusal → Result (List A × At) Refusal
with_front front read = read >>= λ x. Ok (front ++ x.0, x.1)

-- With `items` read so far and `more` to come, what is read in all.
pub record Going {A : Type 0} (p : Part A) (total more : ℕ) (items : List A) (w0 : View) (s0 : Option (List ℕ)) (w : View) (s : Option (List ℕ)) : Type 0 where
  pub fresh : w.kept ≡ None
  pub forth : w0.place ≤ w.place
  pub ends_at : w.end ≡ w0.end
  pub told : (input : Input) → IsInput w s input → IsInput w0 s0 input
  pub same : (input : Input) → IsInput w s input → with_front items ((times more p).reads (stand w input)) ≡ (times total p).reads (stand w0 input)

abbrev pub beside : {A : Type 0} → A → List A × At → Result ((A × List A) × At) Refusal
beside x y = Ok ((x, y.0), y.1)

abbrev pub joined : {A : Type 0} → (A × List A) × At → Result (List A × At) Refusal
joined z = Ok (z.0.0 ∷ z.0.1, z.1)

pub moved : {A : Type 0} (front : List A) (x : A) (read : Result (List A × At) Refusal) → with_front front ((read >>= beside x) >>= joined) ≡ with_front (front ++ x ∷ []) read
moved {A = A} front x (Ok y) = ap (λ (ns : List A). Ok (ns, y.1)) (simp append_assoc)
moved front x (Err f) = refl

pub nothing : {A : Type 0} (read : Result (List A × At) Refusal) → with_front [] read ≡ read
nothing (Ok y) = refl
nothing (Err f) = refl

pub starts : {A : Type 0} (p : Part A) (n : ℕ) (w : View) (s : Option (List ℕ)) → w.kept ≡ None → Going p n (n - 0) [] w s w s
starts {A = A} p n w s k = let e : n - 0 ≡ n = omega arith in record { fresh = k; forth = omega arith; ends_at = refl; told = λ input is. is; same = λ input is. rw e (nothing ((times n p).reads (stand w input))) }

pub goes_on : {A : Type 0} (p : Part A) (total more less : ℕ) (items : List A) (w0 : View) (s0 : Option (List ℕ)) (w : View) (s : Option (List ℕ)) (w2 : View) (s2 : Option (List ℕ)) (x : A)
    → more ≡ suc less → Going p total more items w0 s0 w s → Reads p.reads w s w2 s2 (Ok x) → Going p total less (items ++ x ∷ []) w0 s0 w2 s2
goes_on p total more less items w0 s0 w s w2 s2 x k g r = record {
  fresh = r.1;
  forth = omega (arith, g.forth, r.2);
  ends_at = r.3 ∙ g.ends_at;
  told = λ input is. g.told input (r.4 input is).0;
  same = λ input is. let e = (r.4 input is).1 in sym (rw (k, e) (moved items x ((times less p).reads (stand w2 input)))) ∙ g.same input (r.4 input is).0;
}

-- an Err of the item that comes next is that of all
pub ends : {A : Type 0} (e : ReadError) (p : Part A) (total more : ℕ) (items : List A) (w0 : View) (s0 : Option (List ℕ)) (w : View) (s : Option (List ℕ)) (input : Input)
    → 0 < more → Going p total more items w0 s0 w s → IsInput w s input × FailsReading e (p.reads (stand w input)) → IsInput w0 s0 input × FailsReading e ((times total p).reads (stand w0 input))
ends (errors.Refused place reason) p total more items w0 s0 w s input lt g f =
    let k : more ≡ suc (more - 1) = omega arith in
    let h : p.reads (stand w input) ≡ Err (refusal place reason) = f.1 in
    let one : with_front items ((times more p).reads (stand w input)) ≡ Err (refusal place reason) = rw (k, h) refl in
    (g.told input f.0, sym (g.same input f.0) ∙ one)
ends errors.ReadFault p total more items w0 s0 w s input lt g f = (g.told input f.0, tt)
ends errors.NoMemory p total more items w0 s0 w s input lt g f = (g.told input f.0, tt)

pub is_done : {A : Type 0} (p : Part A) (total more : ℕ) (items : List A) (w0 : View) (s0 : Option (List ℕ)) (w : View) (s : Option (List ℕ))
    → more ≡ 0 → w0.kept ≡ None → Going p total more items w0 s0 w s → Reads (times total p).reads w0 s0 w s (Ok items)
is_done {A = A} p total more items w0 s0 w s k fresh g = (fresh, g.fresh, g.forth, g.ends_at, λ input is. (g.told input is, sym (g.same input is) ∙ rw k (ap (λ (ns : List A). Ok (ns, stand w input)) (append-nil items))))

abbrev pub failed : (A : Type 0) → ReadError → Result A ReadError
failed A e = Err e

-- the same error, in a result of another type
pub other_err : {A B : Type 0} (e f : ReadError) → failed A e ≡ failed A f → failed B e ≡ failed B f
other_err {B = B} e f h = let same : e ≡ f = cc in ap (failed B) same
