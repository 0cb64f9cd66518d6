-- What passing the parts of a file, and then asking for more, says of the whole input.
use Rattle.std.proofs.Common.{◌≡◌, ℕ, List, [], ◌++◌, Ok, None, refl, sym, ap, ◌∙◌, append_assoc}
use Rattle.std.specs.declared.option.Option.{Option}
use Rattle.abc_file_types.specs.Part.{At}
use Rattle.abc_varint.specs.declared.error.ReadError.{ReadError}
use Rattle.abc_varint.specs.declared.error.ReadError.TheVariants as errors
use Rattle.abc_varint.specs.Passes.{Passes, nothing_told}
use Rattle.abc_varint.specs.Reads.{FailsReading, IsInput, known_input, stand}
use Rattle.abc_varint.specs.View.{View}
use Rattle.abc_file_types.specs.declared.tables.Abc.{Abc}
use Rattle.abc_file_types.specs.declared.tables.Sizes.{Sizes}
use Rattle.abc_file_types.specs.declared.code.Body.{Body}
use Rattle.abc_file_types.specs.Bodies.{bodies_bytes, body_bytes, body_list}
use Rattle.abc_file_types.specs.Canonical.{counted_bytes}
use Rattle.abc_file_types.specs.Classes.{definitions, definitions_bytes, sizes_of, sizes_with}
use Rattle.abc_file_types.specs.Files.{file_bytes, file_read, version, version_bytes}
use Rattle.abc_file_types.specs.Pools.{pools, pools_bytes}
use Rattle.abc_file_types.proofs.Whole.{read_spelled, whole_begins}
use Rattle.abc_traits.specs.declared.definitions.Definitions.{Definitions}
use Rattle.abc_traits.specs.Definitions.{tables, with_later_tables}
use Rattle.abc_traits.proofs.Filling.{filled}
use Rattle.abc_bodies.proofs.Moving.{mapped}
use Rattle.abc_bodies.proofs.Passing.{filled as bodies_filled}
use Rattle.abc_file.specs.Reading.{IsInputEnd, IsErrorOf, IsNew, IsTrailing, IsWrittenOf, Refuses, WritesFile}
use Rattle.abc_file.proofs.Ending.{begun, of_any, of_input, part_refused, trails}

-- ---- the bytes of all parts

appended : (old a b c d b1 b2 b3 b4 : List ℕ) → b1 ≡ old ++ a → b2 ≡ b1 ++ b → b3 ≡ b2 ++ c → b4 ≡ b3 ++ d → b4 ≡ old ++ (a ++ b ++ c ++ d)
appended old a b c d b1 b2 b3 b4 e1 e2 e3 e4 = rw (e4, e3, e2, e1) (simp append_assoc)

pub joined : (v full : Abc) (bs : List Body) (old b1 b2 b3 b4 : List ℕ) → pools_bytes full ≡ pools_bytes v → b1 ≡ old ++ version_bytes → b2 ≡ b1 ++ pools_bytes v → b3 ≡ b2 ++ definitions_bytes full → b4 ≡ b3 ++ counted_bytes body_bytes bs
    → b4 ≡ old ++ file_bytes (record full { bodies = bs })
unfolding file_bytes pools_bytes definitions_bytes bodies_bytes
joined v full bs old b1 b2 b3 b4 stay e1 e2 e3 e4 =
    let same : version_bytes ++ pools_bytes v ++ definitions_bytes full ++ counted_bytes body_bytes bs ≡ file_bytes (record full { bodies = bs }) = ap (λ (p : List ℕ). version_bytes ++ p ++ definitions_bytes full ++ counted_bytes body_bytes bs) (sym stay) in
    appended old version_bytes (pools_bytes v) (definitions_bytes full) (counted_bytes body_bytes bs) b1 b2 b3 b4 e1 e2 e3 e4 ∙ ap (λ (t : List ℕ). old ++ t) same

same_pools : (v : Abc) (d : Definitions) → pools_bytes (with_later_tables v d) ≡ pools_bytes v
unfolding pools_bytes
same_pools v d = refl

-- definitions are read beside pools, which stay
pub pools_stay : (v full : Abc) (from after : At) → (definitions v).reads from ≡ Ok (full, after) → pools_bytes full ≡ pools_bytes v
pools_stay v full from after e =
    let sizes = sizes_with v 0 0 0 in
    let m = mapped (with_later_tables v) ((tables sizes).reads from) full after (sym (filled v sizes from refl) ∙ e) in
    ap pools_bytes m.is ∙ same_pools v m.value

-- ---- a part that fails, after those before it were passed

pub definitions_fail : (e : ReadError) (from b c : At) (n : ℕ × ℕ) (v : Abc) → version.reads from ≡ Ok (n, b) → pools.reads b ≡ Ok (v, c) → FailsReading e ((definitions v).reads c) → FailsReading e (file_read.reads from)
unfolding file_read
definitions_fail (errors.Refused place reason) from b c n v r1 r2 f = rw (r1, r2, f) refl
definitions_fail errors.ReadFault from b c n v r1 r2 f = tt
definitions_fail errors.NoMemory from b c n v r1 r2 f = tt

pub bodies_fail : (e : ReadError) (from b c d : At) (n : ℕ × ℕ) (v full : Abc) (sizes : Sizes) → version.reads from ≡ Ok (n, b) → pools.reads b ≡ Ok (v, c) → (definitions v).reads c ≡ Ok (full, d) → sizes ≡ sizes_of full
    → FailsReading e ((body_list sizes).reads d) → FailsReading e (file_read.reads from)
unfolding file_read
bodies_fail (errors.Refused place reason) from b c d n v full sizes r1 r2 r3 same f = rw (r1, r2, r3, bodies_filled full sizes d same, f) refl
bodies_fail errors.ReadFault from b c d n v full sizes r1 r2 r3 same f = tt
bodies_fail errors.NoMemory from b c d n v full sizes r1 r2 r3 same f = tt

module _ (write : Abc → List ℕ) (w w2 w3 : View) (s s2 s3 : Option (List ℕ)) (old new : List ℕ) (n : IsNew w) (p : Passes file_read (λ x. write x.0) nothing_told w s w2 s2 old new (Ok tt)) where
  pub all_passed : old ≡ [] → IsInputEnd w2 s2 w3 s3 → IsWrittenOf write s new
  all_passed empty end =
      let input = known_input w3 s3 in
      let h = p.4 input end.input in
      let x = h.1 in
      let whole = whole_begins file_read x.value input.bytes (stand w2 input) (begun w input x.value (stand w2 input) n x.read) end.none in
      of_input (WritesFile write new) w s input n h.0 (x.value.0, (read_spelled x.value input.bytes whole.0, whole.1), x.bytes ∙ rw empty refl)

  pub more_follows : (e : ReadError) → IsTrailing w2 s2 w3 s3 e → IsErrorOf s e
  more_follows (errors.Refused place reason) t =
      let input = known_input w3 s3 in
      let h = p.4 input t.2 in
      of_input (Refuses (errors.Refused place reason)) w s input n h.0 (trails w2 input h.1.value place reason t.0 t.1 (begun w input h.1.value (stand w2 input) n h.1.read) t.3)
  more_follows errors.ReadFault t = of_any (Refuses errors.ReadFault) s (λ b. tt)
  more_follows errors.NoMemory t = absurd t

pub all_refused_too : (w w2 : View) (s s2 : Option (List ℕ)) (e : ReadError) → IsNew w → (w.kept ≡ None → IsInput w s (known_input w2 s2) × FailsReading e (file_read.reads (stand w (known_input w2 s2)))) → IsErrorOf s e
all_refused_too w w2 s s2 e n f = part_refused w s (known_input w2 s2) e n (f n.kept)
