-- Reading items each of which depends on those before it, as a loop does.
use Rattle.std.proofs.Common.{◌≡◌, ℕ, suc, ◌-◌, ◌<◌, ◌≤◌, List, [], ◌∷◌, ◌++◌, Ok, Err, None, refl, sym, ◌∙◌, arith}
use Rattle.std.specs.declared.result.Result.{Result}
use Rattle.std.specs.declared.option.Option.{Option}
use Rattle.abc_file_types.specs.Part.{At, Part, Refusal, refusal, ◌>>=◌}
use Rattle.abc_file_types.specs.Lists.{chain}
use Rattle.abc_varint.specs.declared.error.ReadError.{ReadError}
use Rattle.abc_varint.specs.declared.error.ReadError.TheVariants as errors
use Rattle.abc_varint.specs.View.{View}
use Rattle.abc_varint.specs.Reads.{Reads, FailsReading, Input, IsInput, known_input, stand}

-- With the items `before` read so far and `more` to come, what is read in all.
pub record Chaining {A : Type 0} (p : List A → Part A) (total more : ℕ) (before : List A) (w0 : View) (s0 : Option (List ℕ)) (w : View) (s : Option (List ℕ)) : Type 0 where
  pub fresh : w.kept ≡ None
  pub forth : w0.place ≤ w.place
  pub ends_at : w.end ≡ w0.end
  pub told : (input : Input) → IsInput w s input → IsInput w0 s0 input
  pub same : (input : Input) → IsInput w s input → (chain more p before).reads (stand w input) ≡ (chain total p []).reads (stand w0 input)

abbrev beside : {A : Type 0} → A → List A × At → Result ((A × List A) × At) Refusal
beside x y = Ok ((x, y.0), y.1)

abbrev second : {A : Type 0} → (A × List A) × At → Result (List A × At) Refusal
second z = Ok (z.0.1, z.1)

dropped : {A : Type 0} (x : A) (read : Result (List A × At) Refusal) → ((read >>= beside x) >>= second) ≡ read
dropped x (Ok y) = refl
dropped x (Err d) = refl

module _ {A : Type 0} (p : List A → Part A) (total more : ℕ) (before : List A) (from here : At) (read : (chain more p before).reads here ≡ (chain total p []).reads from) where
  -- one more was read
  pub chain_step : (less : ℕ) (x : A) (after : At) → more ≡ suc less → (p before).reads here ≡ Ok (x, after) → (chain less p (before ++ x ∷ [])).reads after ≡ (chain total p []).reads from
  chain_step less x after k e = sym (rw (k, e) (dropped x ((chain less p (before ++ x ∷ [])).reads after))) ∙ read

  -- the next is refused
  pub chain_stops : (e : ReadError) → 0 < more → FailsReading e ((p before).reads here) → FailsReading e ((chain total p []).reads from)
  chain_stops (errors.Refused place reason) lt h =
      let k : more ≡ suc (more - 1) = omega arith in
      let one : (chain more p before).reads here ≡ Err (refusal place reason) = rw (k, h) refl in
      sym read ∙ one
  chain_stops errors.ReadFault lt h = tt
  chain_stops errors.NoMemory lt h = tt

  -- none is left
  pub chain_ends : more ≡ 0 → (chain total p []).reads from ≡ Ok (before, here)
  chain_ends k = sym read ∙ rw k refl

module _ {A : Type 0} (p : List A → Part A) where
  pub chain_begins : (n : ℕ) (w : View) (s : Option (List ℕ)) → w.kept ≡ None → Chaining p n (n - 0) [] w s w s
  chain_begins n w s k = let e : n - 0 ≡ n = omega arith in record { fresh = k; forth = omega arith; ends_at = refl; told = λ input is. is; same = λ input is. rw e refl }

  pub chain_goes_on : (total more less : ℕ) (before : List A) (w0 : View) (s0 : Option (List ℕ)) (w : View) (s : Option (List ℕ)) (w2 : View) (s2 : Option (List ℕ)) (x : A)
      → more ≡ suc less → Chaining p total more before w0 s0 w s → Reads (p before).reads w s w2 s2 (Ok x) → Chaining p total less (before ++ x ∷ []) w0 s0 w2 s2
  chain_goes_on total more less before w0 s0 w s w2 s2 x k g r = record {
    fresh = r.1;
    forth = omega (arith, g.forth, r.2);
    ends_at = r.3 ∙ g.ends_at;
    told = λ input is. g.told input (r.4 input is).0;
    same = λ input is. let e = r.4 input is in chain_step p total more before (stand w0 input) (stand w input) (g.same input e.0) less x (stand w2 input) k e.1;
  }

  pub chain_fails : (e : ReadError) (total more : ℕ) (before : List A) (w0 : View) (s0 : Option (List ℕ)) (w : View) (s : Option (List ℕ)) (w2 : View) (s2 : Option (List ℕ))
      → 0 < more → Chaining p total more before w0 s0 w s → Reads (p before).reads w s w2 s2 (Err e) → Reads (chain total p []).reads w0 s0 w2 s2 (Err e)
  chain_fails e total more before w0 s0 w s w2 s2 lt g f = λ fresh.
      let input = known_input w2 s2 in let h = f g.fresh in
      (g.told input h.0, chain_stops p total more before (stand w0 input) (stand w input) (g.same input h.0) e lt h.1)

  pub chain_done : (total more : ℕ) (before : List A) (w0 : View) (s0 : Option (List ℕ)) (w : View) (s : Option (List ℕ))
      → more ≡ 0 → w0.kept ≡ None → Chaining p total more before w0 s0 w s → Reads (chain total p []).reads w0 s0 w s (Ok before)
  chain_done total more before w0 s0 w s k fresh g = (fresh, g.fresh, g.forth, g.ends_at, λ input is. (g.told input is, chain_ends p total more before (stand w0 input) (stand w input) (g.same input is) k))
