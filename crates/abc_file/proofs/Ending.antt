-- What reading the parts of a file, and then asking for more, says of the whole input.
use Rattle.std.proofs.Common.{◌≡◌, inl, inr, ℕ, List, ◌++◌, length, arith, ◌+◌, ◌^◌, ◌≤◌, Ok, Err, None, Some, [], drop, refl, subst, sym, ap, ◌∙◌}
use Rattle.std.specs.Prelude.{◌≢◌, IfOk}
use Rattle.std.specs.declared.option.Option.{Option}
use Rattle.std.specs.declared.result.Result.{Result}
use Rattle.abc_file_types.specs.declared.reason.Reason.TheVariants as reasons
use Rattle.abc_file_types.specs.Part.{At, at_of, Begins, image, refusal}
use Rattle.abc_base.specs.Taking.{TakesAtMost}
use Rattle.abc_varint.specs.declared.error.ReadError.{ReadError}
use Rattle.abc_varint.specs.declared.error.ReadError.TheVariants as errors
use Rattle.abc_varint.specs.View.{View}
use Rattle.abc_varint.specs.Reads.{FailsReading, Input, IsInput, Reads, known_input, stand, told_bytes}
use Rattle.abc_varint.proofs.Inputs.{known_is}
use Rattle.abc_file_types.specs.declared.tables.Abc.{Abc}
use Rattle.abc_file_types.specs.Files.{file_read, Fits, IsBadFile, IsFile, IsFileRead}
use Rattle.abc_file_types.proofs.Whole.{file_read-exact, read_bad, read_begins, read_spelled, whole_begins}
use Rattle.abc_bodies.specs.Places.{ArePlaces, KeepPlaces}
use Rattle.abc_bodies.specs.Reading.{keeping}
use Rattle.abc_bodies.proofs.Moving.{Mapped, mapped, unmapped}
use Rattle.abc_file.specs.Reading.{AnswersFile, AnswersKept, IsInputEnd, IsNew, IsTrailing, IsUsedUp, OfInput, Refuses}

-- ---- the input of a new window

pub of_input : (P : List ℕ → Type 0) (w : View) (s : Option (List ℕ)) (input : Input) → IsNew w → IsInput w s input → P input.bytes → OfInput s P
of_input P w None input n is p = (input.bytes, p)
of_input P w (Some b) input n is p = let e : input.bytes ≡ b = is.1 ∙ ap (λ (t : List ℕ). t ++ b) n.taken in subst P e p

-- a fault of no byte is that of any input
pub of_any : (P : List ℕ → Type 0) (s : Option (List ℕ)) → ((input : List ℕ) → P input) → OfInput s P
of_any P None p = ([], p [])
of_any P (Some b) p = p b

pub begins : (w : View) (input : Input) → IsNew w → stand w input ≡ at_of 0 input.bytes
begins w input n = rw (n.place, n.end) refl

-- ---- what was read of it

refused : (b : List ℕ) (e : ReadError) → FailsReading e (file_read.reads (at_of 0 b)) → Refuses e b
refused b (errors.Refused place reason) f = inl (read_bad (at_of 0 b) (refusal place reason) (file_read-exact.refused (at_of 0 b) (refusal place reason) (omega arith) f))
refused b errors.ReadFault f = tt
refused b errors.NoMemory f = tt

-- some input is refused so
pub part_refused : (w : View) (s : Option (List ℕ)) (input : Input) (e : ReadError) → IsNew w → IsInput w s input × FailsReading e (file_read.reads (stand w input)) → OfInput s (Refuses e)
part_refused w s input e n f = of_input (Refuses e) w s input n f.0 (refused input.bytes e (subst (λ (a : At). FailsReading e (file_read.reads a)) (begins w input n) f.1))

pub begun : (w : View) (input : Input) (v : Abc × List (List ℕ)) (after : At) → IsNew w → file_read.reads (stand w input) ≡ Ok (v, after) → Begins file_read (at_of 0 input.bytes) v after
begun w input v after n e = file_read-exact.found (at_of 0 input.bytes) v after (omega arith) (subst (λ (a : At). file_read.reads a ≡ Ok (v, after)) (begins w input n) e)

-- a byte follows the file
pub trails : (w2 : View) (input : Input) (v : Abc × List (List ℕ)) (place : ℕ) (reason : _) → place ≡ w2.place → reason ≡ reasons.Trailing → Begins file_read (at_of 0 input.bytes) v (stand w2 input) → drop w2.place input.bytes ≢ [] → IsBadFile input.bytes (refusal place reason)
trails w2 input v place reason here is b some =
    let bad : IsBadFile input.bytes (refusal w2.place reasons.Trailing) = inr (v.0, stand w2 input, read_begins (at_of 0 input.bytes) v (stand w2 input) b, some, refl) in
    rw (here, is) bad

-- ---- the whole, with what is kept of the places

unkept : {K : Type 0} (of_places : List (List ℕ) → K) (e : ReadError) (from : At) → FailsReading e ((image (keeping of_places) file_read).reads from) → FailsReading e (file_read.reads from)
unkept of_places (errors.Refused place reason) from f = unmapped (keeping of_places) (file_read.reads from) (refusal place reason) f
unkept of_places errors.ReadFault from f = tt
unkept of_places errors.NoMemory from f = tt

pub all_refused : {K : Type 0} (of_places : List (List ℕ) → K) (w w2 : View) (s s2 : Option (List ℕ)) (e : ReadError) → IsNew w → Reads (image (keeping of_places) file_read).reads w s w2 s2 (Err e) → OfInput s (λ b. AnswersKept of_places b (Err e))
all_refused of_places w w2 s s2 e n r = let f = r n.kept in part_refused w s (known_input w2 s2) e n (f.0, unkept of_places e (stand w (known_input w2 s2)) f.1)

module _ {K : Type 0} (of_places : List (List ℕ) → K) (w w2 w3 : View) (s s2 s3 : Option (List ℕ)) (x : Abc × K) (n : IsNew w) (r : Reads (image (keeping of_places) file_read).reads w s w2 s2 (Ok x)) where
  found : (input : Input) → IsInput w2 s2 input → IsInput w s input × Mapped (keeping of_places) (file_read.reads (stand w input)) x (stand w2 input)
  found input is = let h = r.4 input is in (h.0, mapped (keeping of_places) (file_read.reads (stand w input)) x (stand w2 input) h.1)

  pub all_read : IsInputEnd w2 s2 w3 s3 → OfInput s (λ b. AnswersKept of_places b (Ok x))
  all_read end =
      let input = known_input w3 s3 in
      let h = found input end.input in
      let v = h.1.value in
      of_input (λ b. AnswersKept of_places b (Ok x)) w s input n h.0 (v, whole_begins file_read v input.bytes (stand w2 input) (begun w input v (stand w2 input) n h.1.read) end.none, h.1.is)

  pub more_follows : (e : ReadError) → IsTrailing w2 s2 w3 s3 e → OfInput s (λ b. AnswersKept of_places b (Err e))
  more_follows (errors.Refused place reason) t =
      let input = known_input w3 s3 in
      let h = found input t.2 in
      of_input (λ b. AnswersKept of_places b (Err (errors.Refused place reason))) w s input n h.0 (trails w2 input h.1.value place reason t.0 t.1 (begun w input h.1.value (stand w2 input) n h.1.read) t.3)
  more_follows errors.ReadFault t = of_any (λ b. AnswersKept of_places b (Err errors.ReadFault)) s (λ b. tt)
  more_follows errors.NoMemory t = absurd t

-- ---- where the places themselves are kept

answers_err : (b : List ℕ) (e : ReadError) → Refuses e b → AnswersFile b (Err e)
answers_err b (errors.Refused place reason) f = f
answers_err b errors.ReadFault f = tt
answers_err b errors.NoMemory f = tt

one_placed : (b : List ℕ) (r : Result (Abc × List (List ℕ)) ReadError) → AnswersKept (λ (places : List (List ℕ)). places) b r → AnswersFile b r
one_placed b (Ok x) a = subst (λ (y : Abc × List (List ℕ)). IsFileRead y b) (sym a.2) a.1
one_placed b (Err e) a = answers_err b e a

pub answers_placed : (s : Option (List ℕ)) (r : Result (Abc × List (List ℕ)) ReadError) → OfInput s (λ b. AnswersKept (λ (places : List (List ℕ)). places) b r) → OfInput s (λ b. AnswersFile b r)
answers_placed None r a = (a.0, one_placed a.0 r a.1)
answers_placed (Some b) r a = one_placed b r a

pub places_kept : (r : Result (Abc × List (List ℕ)) ReadError) → IfOk r (λ x. KeepPlaces (λ (places : List (List ℕ)). places) x.0.bodies x.1) → IfOk r (λ x. ArePlaces x.0.bodies x.1)
places_kept (Ok x) p = subst (ArePlaces x.0.bodies) (sym p.is) p.each
places_kept (Err e) p = tt

-- ---- nothing of the input is left

tells_still : (w w2 : View) (b : List ℕ) (s2 : Option (List ℕ)) → ((input : Input) → IsInput w2 s2 input → IsInput w (Some b) input) → (left : List ℕ) × (s2 ≡ Some left)
tells_still w w2 b None same = absurd (let told_bytes = (same (known_input w2 None) (known_is w2 None)).0 in cc)
tells_still w w2 b (Some left) same = (left, refl)

-- where the source told its bytes, and tells of no more
pub used_up : (w w2 : View) (s s2 : Option (List ℕ)) → ((input : Input) → IsInput w2 s2 input → IsInput w s input) → told_bytes s2 ≡ [] → IsUsedUp s s2
used_up w w2 None s2 same none = tt
used_up w w2 (Some b) s2 same none =
    let t = tells_still w w2 b s2 same in
    let no_left : t.0 ≡ [] = ap told_bytes (sym t.1) ∙ none in
    t.1 ∙ ap (λ (l : List ℕ). Some l) no_left

pub used_up_first : (w w2 : View) (s s2 s3 : Option (List ℕ)) → ((input : Input) → IsInput w2 s2 input → IsInput w s input) → IsUsedUp s2 s3 → IsUsedUp s s3
used_up_first w w2 None s2 s3 same used = tt
used_up_first w w2 (Some b) s2 s3 same used = let t = tells_still w w2 b s2 same in subst (λ (s : Option (List ℕ)). IsUsedUp s s3) t.1 used

-- ---- how much is taken

-- what a new window has taken by now is what its source has lost
pub taken_little : (w w2 : View) (s s2 : Option (List ℕ)) → IsNew w → length w2.taken ≤ 2 ^ 24 + 1 → IsInput w s (known_input w2 s2) → TakesAtMost s s2 (2 ^ 24 + 1)
taken_little w w2 None s2 n few is = ([], tt, omega arith)
taken_little w w2 (Some b) None n few is = absurd (let told_bytes = is.0 in cc)
taken_little w w2 (Some b) (Some left) n few is = (w2.taken, sym (is.1 ∙ ap (λ (t : List ℕ). t ++ b) n.taken), few)

-- nothing is taken
pub none_taken : (s : Option (List ℕ)) → TakesAtMost s s (2 ^ 24 + 1)
none_taken None = ([], tt, omega arith)
none_taken (Some b) = ([], refl, omega arith)

-- ---- the value

value_read : {K : Type 0} (of_places : List (List ℕ) → K) (b : List ℕ) (x : Abc × K) → AnswersKept of_places b (Ok x) → IsFile x.0 b
value_read {K = K} of_places b x a =
    let same : x.0 ≡ a.0.0 = ap (λ (y : Abc × K). y.0) a.2 in
    subst (λ (v : Abc). IsFile v b) (sym same) (read_spelled a.0 b a.1.0, a.1.1)

pub file_alone : {K : Type 0} (of_places : List (List ℕ) → K) (s : Option (List ℕ)) (x : Abc × K) → OfInput s (λ b. AnswersKept of_places b (Ok x)) → OfInput s (IsFile x.0)
file_alone of_places None x a = (a.0, value_read of_places a.0 x a.1)
file_alone of_places (Some b) x a = value_read of_places b x a

pub some_fits : {K : Type 0} (of_places : List (List ℕ) → K) (s : Option (List ℕ)) (x : Abc × K) → OfInput s (λ b. AnswersKept of_places b (Ok x)) → Fits x.0
some_fits of_places None x a = (a.0, value_read of_places a.0 x a.1)
some_fits of_places (Some b) x a = (b, value_read of_places b x a)
