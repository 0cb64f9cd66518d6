-- What is read of a text is its file or its first fault.
use Rattle.std.proofs.Common.{◌≡◌, ℕ, suc, ◌≤◌, ◌<◌, ◌^◌, inl, inr, Bool, true, false, Some, None, cond, nat_eq, List, [], ◌∷◌, length, map, Ok, Err, refl, sym, ap, subst, ◌∙◌, arith}
use Rattle.std.specs.declared.option.Option.{Option}
use Rattle.std.specs.declared.result.Result.{Result}
use Rattle.abc_text_lines.specs.declared.reason.AsmReason.{AsmReason}
use Rattle.abc_text_lines.specs.declared.reason.AsmReason.TheVariants as reasons
use Rattle.abc_text_lines.specs.Reasons.{least}
use Rattle.abc_text_lines.specs.Words.{place_of}
use Rattle.abc_file_types.specs.declared.tables.Abc.{Abc}
use Rattle.abc_file_types.specs.declared.tables.Sizes.{Sizes}
use Rattle.abc_file_types.specs.Classes.{sizes_of}
use Rattle.abc_file_types.specs.Files.{file_bytes}
use Rattle.abc_text_lines.specs.Assembly as rows
use Rattle.abc_text_lines.specs.Assembly.{assembles, end_or_fault, order_fault}
use Rattle.abc_text_lines.specs.Law.{Match}
use Rattle.abc_text_lines.specs.Lines.{Row}
use Rattle.abc_text_lines.specs.Rows.{Fault, Faults, Rows, fault, unless, ◌>>=◌}
use Rattle.abc_text_lines.specs.Wordlines.{count_all, shows_operands}
use Rattle.abc_text_lines.proofs.Determined.{assembled, refused}
use Rattle.abc_text_lines.specs.Answers.{IsAssemblyFault, IsAssemblyOf, AreFileLines, abc_of, instance_parts, metadata_lines, outline_of}
use Rattle.abc_text_lines.specs.File.{IsBalanced, Outline, body_below, body_lines, classes, faults, file, instance_below, instance_lines, metadata, method_below, methods, pools, scripts, traits}
use Rattle.abc_text_lines.specs.Texts.{instances_in, rows_of, sizes_in}
use Rattle.abc_text_lines.proofs.Answering.{text_decided}
use Rattle.abc_text_lines.proofs.Sizing.{are_counted}
use Rattle.abc_text_lines.proofs.Whole.{balanced, file-lawful, rows_determined, version_clean, version_found}
use Rattle.abc_asm.proofs.Alike.{Reading, as_other}
use Rattle.abc_asm.specs.Whole.{rows_after_version, file_part_read, text_read}
use Rattle.abc_asm.proofs.Filed.{file_is}

length_map : {A B : Type 0} (f : A → B) (xs : List A) → length (map f xs) ≡ length xs
length_map f [] = refl
length_map f (x ∷ xs) = ap (λ (n : ℕ). suc n) (length_map f xs)

abbrev as_value : {A B : Type 0} → (A → B) → Result A Fault → Result B Fault
as_value f (Ok x) = Ok (f x)
as_value f (Err d) = Err d

cond_value : {A B : Type 0} (f : A → B) (b : Bool) (x y : Result A Fault) → as_value f (cond b x y) ≡ cond b (as_value f x) (as_value f y)
cond_value f true x y = refl
cond_value f false x y = refl

unless_value : {A B : Type 0} (f : A → B) (o : Option AsmReason) (line : ℕ) (r : Result A Fault) → as_value f (unless o line r) ≡ unless o line (as_value f r)
unless_value f None line r = refl
unless_value f (Some s) line r = refl

ended_value : {A B : Type 0} (f : A → B) (told : Faults) (r : Reading A) → as_value f (r >>= λ x. end_or_fault told x) ≡ (as_other f r >>= λ x. end_or_fault told x)
ended_value f told (Ok (x, [])) = refl
ended_value f told (Ok (x, row ∷ after)) = refl
ended_value f told (Err d) = refl

-- the program for lines, and for what is made of them
begun_value : {A B : Type 0} (f : A → B) (told : Faults) (body : Rows A) (read : List Row → Reading B) → ((rows : List Row) → as_other f (body.reads rows) ≡ read rows) → (rows : List Row) → as_value f (assembles told body rows) ≡ rows_after_version told rows (λ left. read left >>= λ x. end_or_fault told x)
begun_value f told body read same [] = refl
begun_value {A} {B} f told body read same (row ∷ rows) =
    let here : Result A Fault = body.reads rows >>= λ x. end_or_fault told x in
    let there : Result B Fault = read rows >>= λ x. end_or_fault told x in
    let is : as_value f here ≡ there = ended_value f told (body.reads rows) ∙ ap (λ (r : Reading B). r >>= λ x. end_or_fault told x) (same rows) in
    cond_value f (nat_eq (place_of row.word) 0) (unless (least (told row rows)) row.number here) (order_fault told row rows)
    ∙ ap (λ (r : Result B Fault). cond (nat_eq (place_of row.word) 0) r (order_fault told row rows)) (unless_value f (least (told row rows)) row.number here ∙ ap (λ (r : Result B Fault). unless (least (told row rows)) row.number r) is)

value_ok : {A B : Type 0} (f : A → B) (r : Result A Fault) (y : B) → as_value f r ≡ Ok y → (x : A) × (r ≡ Ok x) × (f x ≡ y)
value_ok f (Ok x) y e = (x, refl, cc)
value_ok f (Err d) y e = absurd cc

value_err : {A B : Type 0} (f : A → B) (r : Result A Fault) (d : Fault) → as_value f r ≡ Err d → r ≡ Err d
value_err f (Ok x) d e = absurd cc
value_err {A} f (Err c) d e = let same : c ≡ d = cc in let bad : Fault → Result A Fault = λ g. Err g in ap bad same

-- ---- the sizes of a file that the lines are those of

shown_any : (s : Sizes) (i n m : ℕ) (x : Outline s i) (rs : List Row) → Match shows_operands rs (rows.lines_of_value (file s i n) x) → Match shows_operands rs (rows.lines_of_value (file s i m) x)
unfolding file pools methods method_below metadata instance_lines instance_below classes scripts body_lines body_below traits
shown_any s i n m x rs match = match

fits_any : (s : Sizes) (i n m : ℕ) (x : Outline s i) → (file s i n).fits x → (file s i m).fits x
unfolding file pools methods method_below metadata instance_lines instance_below classes scripts body_lines body_below traits
fits_any s i n m x fit = fit

record IsListedBy (s : Sizes) (i n : ℕ) (rs : List Row) (v : Abc) : Type 0 where
  shown : Match shows_operands rs (rows.lines_of_value (file s i n) (outline_of s i v))
  fits : (file s i n).fits (outline_of s i v)

sizes_same : (rs : List Row) (v : Abc) → AreFileLines rs v → (sizes_of v ≡ sizes_in rs) × (length v.instances ≡ instances_in rs)
sizes_same rs v l =
    let s = sizes_of v in let i = length v.instances in
    let c = are_counted s i 0 rs (outline_of s i v) l.shown in
    let c1 = c.ints in let c2 = c.uints in let c3 = c.doubles in let c4 = c.strings in let c5 = c.namespaces in let c6 = c.sets in let c7 = c.names in let c8 = c.methods in
    let c9 : count_all 12 rs ≡ length v.metadata = c.metadata ∙ length_map metadata_lines v.metadata in
    let c10 = c.classes in
    (rw (c1, c2, c3, c4, c5, c6, c7, c8, c9, c10) refl, sym (c.instance_list ∙ length_map instance_parts v.instances))

by_rows : (rs : List Row) (v : Abc) → AreFileLines rs v → IsListedBy (sizes_in rs) (instances_in rs) (length rs) rs v
by_rows rs v l =
    let same = sizes_same rs v l in
    let own : IsListedBy (sizes_of v) (length v.instances) 0 rs v = record { shown = l.shown; fits = l.fits } in
    let here : IsListedBy (sizes_in rs) (instances_in rs) 0 rs v = subst (λ (k : ℕ). IsListedBy (sizes_in rs) k 0 rs v) same.1 (subst (λ (z : Sizes). IsListedBy z (length v.instances) 0 rs v) same.0 own) in
    record {
      shown = shown_any (sizes_in rs) (instances_in rs) 0 (length rs) (outline_of (sizes_in rs) (instances_in rs) v) rs here.shown;
      fits = fits_any (sizes_in rs) (instances_in rs) 0 (length rs) (outline_of (sizes_in rs) (instances_in rs) v) here.fits;
    }

-- ---- what a text is

module _ (text : List ℕ) where
  abbrev rs : List Row
  rs = rows_of text

  abbrev s : Sizes
  s = sizes_in rs

  abbrev i : ℕ
  i = instances_in rs

  abbrev body : Rows (Outline s i)
  body = file s i (length rs)

  abbrev remake : Outline s i → Abc
  remake x = abc_of s i x

  decided : rows.IsTextDetermined shows_operands (faults s i) body rs
  decided = rows_determined s i rs refl refl

  program_is : as_value remake (assembles (faults s i) body rs) ≡ text_read text
  program_is = begun_value remake (faults s i) body (file_part_read s i (length rs)) (file_is s i (length rs)) rs

  -- the file that the lines are those of is what is made of the outline
  listed_by : (x : Outline s i) → rows.IsAssemblyOf shows_operands body rs x → (w : Abc) → AreFileLines rs w → AreFileLines rs (remake x)
  listed_by x is w l =
      let b = by_rows rs w l in
      let outlined : rows.IsAssemblyOf shows_operands body rs (outline_of s i w) = record { shown = b.shown; fits = b.fits } in
      let whole : remake (outline_of s i w) ≡ w = l.whole in
      let same : w ≡ remake x = sym whole ∙ ap remake (decided.one_value (outline_of s i w) x outlined is) in
      subst (λ (v : Abc). AreFileLines rs v) same l

  listed_as : (x : Outline s i) → rows.IsAssemblyOf shows_operands body rs x → AreFileLines rs (remake x)
  listed_as x is =
      elim (text_decided text).some [
        | inl a ↦ let of = a.1 in listed_by x is a.0 of.listed
        | inr b ↦ elim b.1 [
          | inl bad ↦ absurd (decided.never_both x b.0 is bad)
          | inr long ↦ listed_by x is long.0 long.1
        ]
      ]

  pub read_listed : (v : Abc) → text_read text ≡ Ok v → AreFileLines rs v
  read_listed v e =
      let o = value_ok remake (assembles (faults s i) body rs) v (program_is ∙ e) in
      subst (λ (w : Abc). AreFileLines rs w) o.2 (listed_as o.0 (assembled (IsBalanced s i) shows_operands (faults s i) body (version_found s i) (version_clean s i) (length rs) (file-lawful s i (length rs)) rs o.0 (balanced s i rs refl refl) (omega arith) o.1))

  pub read_short : (v : Abc) → text_read text ≡ Ok v → length (file_bytes v) ≤ 2 ^ 24 → IsAssemblyOf text v
  read_short v e short = record { listed = read_listed v e; short = short }

  pub read_long : (v : Abc) → text_read text ≡ Ok v → 2 ^ 24 < length (file_bytes v) → IsAssemblyFault text (fault 1 reasons.FileTooLong)
  read_long v e long = inr (v, read_listed v e, long, refl)

  pub read_fault : (f : Fault) → text_read text ≡ Err f → IsAssemblyFault text f
  read_fault f e =
      inl (refused (IsBalanced s i) shows_operands (faults s i) body (version_found s i) (version_clean s i) (length rs) (file-lawful s i (length rs)) rs f (balanced s i rs refl refl) (omega arith) (value_err remake (assembles (faults s i) body rs) f (program_is ∙ e)))
