-- Bodies are passed one after the other, with a flag for each method that has one.
use Rattle.std.proofs.Common.{◌≡◌, ℕ, suc, ◌+◌, ◌-◌, ◌<◌, ◌≤◌, Bool, true, false, List, [], ◌∷◌, ◌++◌, length, map, set, Ok, Err, None, Some, refl, sym, subst, ap, ◌∙◌, length-append, length-set, arith}
use Rattle.std.specs.Prelude.{replicate, slice_get}
use Rattle.std.specs.List.{flat_map}
use Rattle.std.specs.declared.option.Option.{Option}
use Rattle.std.specs.declared.result.Result.{Result}
use Rattle.std.proofs.lemmas.List.{append-nil, flat_map_more, length-replicate, map-append}
use Rattle.std.proofs.lemmas.Option.{slice_get_within}
use Rattle.abc_file_types.specs.Lists.{chain}
use Rattle.abc_file_types.specs.Part.{At, Refusal, ◌>>=◌}
use Rattle.abc_file_types.specs.declared.code.Body.{Body}
use Rattle.abc_file_types.specs.declared.tables.Sizes.{Sizes}
use Rattle.abc_file_types.specs.declared.tables.Abc.{Abc}
use Rattle.abc_file_types.specs.Bodies.{bodies, body_bytes, body_list, methods_of}
use Rattle.abc_file_types.specs.Classes.{sizes_of}
use Rattle.abc_varint.specs.declared.error.ReadError.{ReadError}
use Rattle.abc_varint.specs.Passes.{Passes}
use Rattle.abc_varint.specs.View.{View}
use Rattle.abc_varint.specs.Reads.{Reads, FailsReading, Input, IsInput, known_input, stand}
use Rattle.abc_bodies.specs.Reading.{IsFlagged, free_body}
use Rattle.abc_bodies.proofs.Alike.{flags_up, free_body-alike, no_flags}
use Rattle.abc_bodies.proofs.Chaining.{chain_begins, chain_ends, chain_step, chain_stops}
use Rattle.abc_bodies.proofs.Collecting.{next_body}

abbrev pub entry_bytes : Body × List ℕ → List ℕ
entry_bytes x = body_bytes x.0

-- Some bodies are passed, with what is put of each, and `more` are to come.
pub record Middle (entry : Body × List ℕ → List ℕ) (v : Sizes) (total more : ℕ) (flags : List Bool) (from here : At) (old new : List ℕ) : Type 0 where
  pub before : List (Body × List ℕ)
  pub read : (chain more (next_body v) before).reads here ≡ (chain total (next_body v) []).reads from
  pub flagged : IsFlagged flags (methods_of before)
  pub many : length before + more ≡ total
  pub bytes : new ≡ old ++ flat_map entry before

pub record PassesBodies (entry : Body × List ℕ → List ℕ) (v : Sizes) (total more : ℕ) (flags : List Bool) (old new : List ℕ) (w0 : View) (s0 : Option (List ℕ)) (w : View) (s : Option (List ℕ)) : Type 0 where
  pub fresh : w.kept ≡ None
  pub forth : w0.place ≤ w.place
  pub ends_at : w.end ≡ w0.end
  pub told : (input : Input) → IsInput w s input → IsInput w0 s0 input
  pub count : length flags ≡ v.methods
  pub same : (input : Input) → IsInput w s input → Middle entry v total more flags (stand w0 input) (stand w input) old new

module _ (entry : Body × List ℕ → List ℕ) (v : Sizes) (total : ℕ) (w0 : View) (s0 : Option (List ℕ)) (old : List ℕ) where
  pub begins : (flags : List Bool) → flags ≡ replicate v.methods false → w0.kept ≡ None → PassesBodies entry v total (total - 0) flags old old w0 s0 w0 s0
  begins flags is fresh = record {
    fresh = fresh;
    forth = omega arith;
    ends_at = refl;
    told = λ input is. is;
    count = ap length is ∙ length-replicate v.methods false;
    same = λ input known_input. record {
      before = [];
      read = (chain_begins (next_body v) total w0 s0 fresh).same input known_input;
      flagged = rw is (no_flags v.methods);
      many = omega arith;
      bytes = sym (append-nil old);
    };
  }

  pub goes_on : (more less : ℕ) (flags : List Bool) (new new2 : List ℕ) (w : View) (s : Option (List ℕ)) (w2 : View) (s2 : Option (List ℕ)) (method : ℕ)
      → more ≡ suc less → PassesBodies entry v total more flags old new w0 s0 w s → Passes (free_body v flags) entry (λ x. x.0.method) w s w2 s2 new new2 (Ok method) → slice_get flags method ≡ Some false
      → PassesBodies entry v total less (set flags method true) old new2 w0 s0 w2 s2
  goes_on more less flags new new2 w s w2 s2 method k g r free = record {
    fresh = r.1;
    forth = omega (arith, g.forth, r.2);
    ends_at = r.3 ∙ g.ends_at;
    told = λ input is. g.told input (r.4 input is).0;
    count = length-set flags method true ∙ g.count;
    same = λ input is.
        let a = r.4 input is in
        let m = g.same input a.0 in
        let x = a.1 in
        let read : (next_body v m.before).reads (stand w input) ≡ Ok (x.value, stand w2 input) = sym ((free_body-alike v flags (methods_of m.before) g.count m.flagged).same (stand w input)) ∙ x.read in
        let methods : methods_of (m.before ++ x.value ∷ []) ≡ methods_of m.before ++ method ∷ [] = map-append (λ (y : Body × List ℕ). y.0.method) m.before (x.value ∷ []) ∙ ap (λ (n : ℕ). methods_of m.before ++ n ∷ []) (sym x.tells) in
        record {
          before = m.before ++ x.value ∷ [];
          read = chain_step (next_body v) total more m.before (stand w0 input) (stand w input) m.read less x.value (stand w2 input) k read;
          flagged = rw methods (flags_up flags (methods_of m.before) method (slice_get_within flags method false free) m.flagged);
          many = omega (arith, k, m.many, length-append m.before (x.value ∷ []));
          bytes = x.bytes ∙ ap (λ (u : List ℕ). u ++ entry x.value) m.bytes ∙ flat_map_more entry old m.before x.value;
        };
  }

  pub fails : {T : Type 0} (told : List (Body × List ℕ) → T) (e : ReadError) (more : ℕ) (flags : List Bool) (new new2 : List ℕ) (w : View) (s : Option (List ℕ)) (w2 : View) (s2 : Option (List ℕ))
      → 0 < more → PassesBodies entry v total more flags old new w0 s0 w s → Reads (free_body v flags).reads w s w2 s2 (Err e) → Passes (chain total (next_body v) []) (flat_map entry) told w0 s0 w2 s2 old new2 (Err e)
  fails told e more flags new new2 w s w2 s2 lt g r = λ fresh.
      let input = known_input w2 s2 in
      let h = r g.fresh in
      let m = g.same input h.0 in
      let next = subst (λ (z : Result ((Body × List ℕ) × At) Refusal). FailsReading e z) ((free_body-alike v flags (methods_of m.before) g.count m.flagged).same (stand w input)) h.1 in
      (g.told input h.0, chain_stops (next_body v) total more m.before (stand w0 input) (stand w input) m.read e lt next)

  pub passed : (more : ℕ) (flags : List Bool) (new : List ℕ) (w : View) (s : Option (List ℕ))
      → more ≡ 0 → w0.kept ≡ None → PassesBodies entry v total more flags old new w0 s0 w s → Passes (chain total (next_body v) []) (flat_map entry) length w0 s0 w s old new (Ok total)
  passed more flags new w s k fresh g = (
    fresh,
    g.fresh,
    g.forth,
    g.ends_at,
    λ input is.
        let m = g.same input is in
        (g.told input is, record { value = m.before; read = chain_ends (next_body v) total more m.before (stand w0 input) (stand w input) m.read k; bytes = m.bytes; tells = omega (arith, k, m.many) }),
  )

-- ---- bodies beside the other tables

-- an Abc with these bodies, and the starts of their instructions
abbrev pub beside : Abc → List (Body × List ℕ) → Abc × List (List ℕ)
beside abc xs = (record abc { bodies = map (λ x. x.0) xs }, map (λ x. x.1) xs)

pub filled : (abc : Abc) (v : Sizes) (from : At) → v ≡ sizes_of abc → (bodies abc).reads from ≡ ((body_list v).reads from >>= λ x. Ok (beside abc x.0, x.1))
unfolding bodies
filled abc v from same = rw same refl
