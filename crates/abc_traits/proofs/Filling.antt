-- An Abc is filled with the tables that were read beside its pools.
use Rattle.std.proofs.Common.{◌≡◌, ℕ, ◌^◌, ◌++◌, length, List, Ok, Err, refl, sym, ap, subst, ◌∙◌, min, arith}
use Rattle.std.specs.declared.result.Result.{Result}
use Rattle.std.specs.declared.option.Option.{Option}
use Rattle.abc_file_types.specs.Part.{At, Part, image, ◌>>=◌}
use Rattle.abc_file_types.specs.Numbers.{u30}
use Rattle.abc_file_types.specs.declared.tables.Abc.{Abc}
use Rattle.abc_file_types.specs.declared.tables.Sizes.{Sizes}
use Rattle.abc_file_types.specs.Classes.{instance, class_info, script, sizes_of, sizes_with, definitions, definitions_bytes}
use Rattle.abc_file_types.specs.Sizes.{capped_sizes}
use Rattle.abc_varint.specs.declared.error.ReadError.{ReadError}
use Rattle.abc_varint.specs.declared.error.ReadError.TheVariants as errors
use Rattle.abc_varint.specs.View.{View}
use Rattle.abc_varint.specs.Passes.{Passes}
use Rattle.abc_varint.specs.Reads.{FailsReading, Reads, known_input, stand}
use Rattle.abc_traits.specs.declared.definitions.Definitions.{Definitions}
use Rattle.abc_traits.specs.Definitions.{with_later_tables, sizes_beside, sizes_within, tables, tables_bytes}
use Rattle.abc_traits.proofs.Alike.{Alike, alike_refl, alike_sym, alike_trans, image-alike, image_image, then-alike, times-alike, counted-alike}
use Rattle.abc_traits.proofs.Capped.{method-capped, metadata-capped, instance-capped, class_info-capped, script-capped}

-- ---- reading, through parts that read alike

pub reads_alike : {A : Type 0} (p q : Part A) → Alike p q → (w : View) (s : Option (List ℕ)) (w2 : View) (s2 : Option (List ℕ)) (r : Result A ReadError) → Reads p.reads w s w2 s2 r → Reads q.reads w s w2 s2 r
reads_alike p q k w s w2 s2 (Ok x) h = (h.0, h.1, h.2, h.3, λ input is. ((h.4 input is).0, sym (k.same (stand w input)) ∙ (h.4 input is).1))
reads_alike p q k w s w2 s2 (Err (errors.Refused place reason)) h = λ fresh. ((h fresh).0, sym (k.same (stand w (known_input w2 s2))) ∙ (h fresh).1)
reads_alike p q k w s w2 s2 (Err errors.ReadFault) h = λ fresh. ((h fresh).0, tt)
reads_alike p q k w s w2 s2 (Err errors.NoMemory) h = λ fresh. ((h fresh).0, tt)

abbrev pub mapped : {A B : Type 0} → (A → B) → Result A ReadError → Result B ReadError
mapped f (Ok x) = Ok (f x)
mapped f (Err e) = Err e

pub reads_image : {A B : Type 0} (f : A → B) (p : Part A) (w : View) (s : Option (List ℕ)) (w2 : View) (s2 : Option (List ℕ)) (r : Result A ReadError) → Reads p.reads w s w2 s2 r → Reads (image f p).reads w s w2 s2 (mapped f r)
reads_image f p w s w2 s2 (Ok x) h = (h.0, h.1, h.2, h.3, λ input is. let e = (h.4 input is).1 in ((h.4 input is).0, rw e refl))
reads_image f p w s w2 s2 (Err (errors.Refused place reason)) h = λ fresh. let e = (h fresh).1 in ((h fresh).0, rw e refl)
reads_image f p w s w2 s2 (Err errors.ReadFault) h = λ fresh. ((h fresh).0, tt)
reads_image f p w s w2 s2 (Err errors.NoMemory) h = λ fresh. ((h fresh).0, tt)

-- ---- the tables, beside pools whose sizes an index cannot tell apart

-- where every part reads as over capped sizes, it reads the same over any two that are the same once capped
pub same_capped : {A : Type 0} (p : Sizes → Part A) → ((v : Sizes) → Alike (p v) (p (capped_sizes v))) → (v w : Sizes) → capped_sizes v ≡ capped_sizes w → Alike (p v) (p w)
same_capped p h v w e = alike_trans _ _ _ (h v) (subst (λ (s : Sizes). Alike (p s) (p w)) (sym e) (alike_sym _ _ (h w)))

min_again : (n : ℕ) → min n (2 ^ 30) ≡ min (min n (2 ^ 30)) (2 ^ 30)
min_again n = omega arith

within_capped : (v : Sizes) (methods metadata classes : ℕ) → capped_sizes (sizes_within v methods metadata classes) ≡ capped_sizes (sizes_within (capped_sizes v) methods metadata classes)
within_capped v methods metadata classes =
    rw (← min_again v.ints, ← min_again v.uints, ← min_again v.doubles, ← min_again v.strings, ← min_again v.namespaces, ← min_again v.sets, ← min_again v.names) refl

pub tables-capped : (v : Sizes) → Alike (tables v) (tables (capped_sizes v))
unfolding tables
tables-capped v =
    image-alike _ _ _
    (then-alike _ _ _ _ (counted-alike _ _ (method-capped v)) (λ methods.
    then-alike _ _ _ _ (counted-alike _ _ (metadata-capped v)) (λ metadata.
    then-alike _ _ _ _ (alike_refl u30) (λ classes.
    let a = sizes_within v (length methods) (length metadata) classes in
    let b = sizes_within (capped_sizes v) (length methods) (length metadata) classes in
    let e = within_capped v (length methods) (length metadata) classes in
    then-alike _ _ _ _ (times-alike classes _ _ (same_capped instance instance-capped a b e)) (λ _.
    then-alike _ _ _ _ (times-alike classes _ _ (same_capped class_info class_info-capped a b e)) (λ _.
    counted-alike _ _ (same_capped script script-capped a b e)))))))

definitions_alike : (abc : Abc) → Alike (image (with_later_tables abc) (tables (sizes_with abc 0 0 0))) (definitions abc)
unfolding tables definitions
definitions_alike abc = image_image _ _ _

-- the tables that are read beside the pools of an Abc fill it as its definitions do
fills : (abc : Abc) (w : View) (s : Option (List ℕ)) (w2 : View) (s2 : Option (List ℕ)) (r : Result Definitions ReadError)
    → Reads (tables (capped_sizes (sizes_with abc 0 0 0))).reads w s w2 s2 r → Reads (definitions abc).reads w s w2 s2 (mapped (with_later_tables abc) r)
fills abc w s w2 s2 r h =
    let exact = reads_alike _ _ (alike_sym _ _ (tables-capped (sizes_with abc 0 0 0))) w s w2 s2 r h in
    reads_alike _ _ (definitions_alike abc) w s w2 s2 (mapped (with_later_tables abc) r) (reads_image (with_later_tables abc) (tables (sizes_with abc 0 0 0)) w s w2 s2 r exact)

pub fills_ok : (abc : Abc) (pools : Sizes) (w : View) (s : Option (List ℕ)) (w2 : View) (s2 : Option (List ℕ)) (d : Definitions)
    → pools ≡ capped_sizes (sizes_with abc 0 0 0) → Reads (tables pools).reads w s w2 s2 (Ok d) → Reads (definitions abc).reads w s w2 s2 (Ok (with_later_tables abc d))
fills_ok abc pools w s w2 s2 d same h = fills abc w s w2 s2 (Ok d) (subst (λ (v : Sizes). Reads (tables v).reads w s w2 s2 (Ok d)) same h)

pub fills_err : (abc : Abc) (pools : Sizes) (w : View) (s : Option (List ℕ)) (w2 : View) (s2 : Option (List ℕ)) (e : ReadError)
    → pools ≡ capped_sizes (sizes_with abc 0 0 0) → Reads (tables pools).reads w s w2 s2 (Err e) → Reads (definitions abc).reads w s w2 s2 (Err e)
fills_err abc pools w s w2 s2 e same h = fills abc w s w2 s2 (Err e) (subst (λ (v : Sizes). Reads (tables v).reads w s w2 s2 (Err e)) same h)

-- the definitions beside an Abc's pools are read as the tables are, and fill it
pub filled : (abc : Abc) (pools : Sizes) (from : At) → pools ≡ sizes_with abc 0 0 0 → (definitions abc).reads from ≡ ((tables pools).reads from >>= λ x. Ok (with_later_tables abc x.0, x.1))
filled abc pools from same = sym ((definitions_alike abc).same from) ∙ rw same refl

-- and passed as they are
put_alike : (abc : Abc) (d : Definitions) → tables_bytes d ≡ definitions_bytes (with_later_tables abc d)
unfolding definitions_bytes
put_alike abc d = refl

pub definitions_fail : (e : ReadError) (abc : Abc) (pools : Sizes) (from : At) → pools ≡ sizes_with abc 0 0 0 → FailsReading e ((tables pools).reads from) → FailsReading e ((definitions abc).reads from)
definitions_fail (errors.Refused place reason) abc pools from same f = rw (filled abc pools from same, f) refl
definitions_fail errors.ReadFault abc pools from same f = tt
definitions_fail errors.NoMemory abc pools from same f = tt

pub passes_definitions : (abc : Abc) (pools : Sizes) (w : View) (s : Option (List ℕ)) (w2 : View) (s2 : Option (List ℕ)) (old new : List ℕ) (r : Result Sizes ReadError)
    → pools ≡ sizes_with abc 0 0 0 → Passes (tables pools) tables_bytes (sizes_beside pools) w s w2 s2 old new r → Passes (definitions abc) definitions_bytes sizes_of w s w2 s2 old new r
passes_definitions abc pools w s w2 s2 old new (Ok sizes) same h = (
  h.0,
  h.1,
  h.2,
  h.3,
  λ input is.
      let d = h.4 input is in
      let x = d.1 in (
        d.0,
        record {
          value = with_later_tables abc x.value;
          read = rw (filled abc pools (stand w input) same, x.read) refl;
          bytes = x.bytes ∙ ap (λ (b : List ℕ). old ++ b) (put_alike abc x.value);
          tells = x.tells ∙ ap (λ (v : Sizes). sizes_beside v x.value) same;
        },
      ),
)
passes_definitions abc pools w s w2 s2 old new (Err e) same h = λ fresh. ((h fresh).0, definitions_fail e abc pools (stand w (known_input w2 s2)) same (h fresh).1)
