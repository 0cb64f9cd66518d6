-- A text is one of exactly one file, or has exactly one fault.
use Rattle.std.proofs.Common.{◌≡◌, ℕ, suc, ◌<◌, ◌^◌, ◌⊎◌, inl, inr, Bool, true, false, List, [], ◌∷◌, length, map, Some, None, refl, sym, ap, subst, ◌∙◌, arith}
use Rattle.std.proofs.lemmas.Bool.{cases_lt}
use Rattle.std.specs.Option.{IsSome, option_to_list}
use Rattle.std.specs.declared.option.Option.{Option}
use Rattle.abc_text_lines.specs.declared.reason.AsmReason.TheVariants as reasons
use Rattle.abc_file_types.specs.declared.tables.Abc.{Abc}
use Rattle.abc_file_types.specs.declared.tables.Sizes.{Sizes}
use Rattle.abc_file_types.specs.declared.traits.TraitInfo.{TraitInfo}
use Rattle.abc_file_types.specs.Classes.{sizes_of}
use Rattle.abc_file_types.specs.Files.{file_bytes}
use Rattle.abc_file_types.specs.Methods.{has_flag}
use Rattle.abc_text_lines.specs.Assembly as rows
use Rattle.abc_text_lines.specs.Law.{Match}
use Rattle.abc_text_lines.specs.Lines.{Row}
use Rattle.abc_text_lines.specs.Rows.{Fault, Rows, fault}
use Rattle.abc_text_lines.specs.Wordlines.{count_all, shows_operands}
use Rattle.abc_text_lines.specs.Answers.{HasOneAnswer, IsAssemblyFault, IsAssemblyOf, AreFileLines, abc_of, first_in, initializer_in, instance_parts, instance_of_parts, flat_pairs, metadata_lines, metadata_of_parts, outline_of, pairs}
use Rattle.abc_text_lines.specs.File.{InstanceAgrees, InstanceBelow, Outline, body_below, body_lines, classes, faults, file, instance_below, instance_lines, metadata, method_below, methods, pools, scripts, traits, where_set}
use Rattle.abc_text_lines.specs.Lineforms.{InstanceHead}
use Rattle.abc_text_lines.specs.Texts.{instances_in, rows_of, sizes_in}
use Rattle.abc_text_lines.proofs.Sizing.{are_counted}
use Rattle.abc_text_lines.proofs.Whole.{rows_determined}

length_map : {A B : Type 0} (f : A → B) (xs : List A) → length (map f xs) ≡ length xs
length_map f [] = refl
length_map f (x ∷ xs) = ap (λ (n : ℕ). suc n) (length_map f xs)

-- ---- an outline and its file

pairs_back : (x : List (ℕ × ℕ)) → pairs (flat_pairs x) ≡ x
pairs_back [] = refl
pairs_back (p ∷ x) = ap (λ (l : List (ℕ × ℕ)). p ∷ l) (pairs_back x)

metadata_back : (ms : List (ℕ × List (ℕ × ℕ))) → map metadata_lines (map metadata_of_parts ms) ≡ ms
metadata_back [] = refl
metadata_back (m ∷ ms) = let a = pairs_back m.1 in let b = metadata_back ms in rw (a, b) refl

at_most_one : (ns : List ℕ) (b : Bool) → length ns ≡ where_set b 1 → option_to_list (first_in ns) ≡ ns
at_most_one [] b e = refl
at_most_one (n ∷ []) b e = refl
at_most_one (n ∷ m ∷ ns) true e = absurd (omega arith)
at_most_one (n ∷ m ∷ ns) false e = absurd (omega arith)

some_back : (o : Option (ℕ × List TraitInfo)) → IsSome o → Some (initializer_in o) ≡ o
some_back (Some x) some = refl
some_back None some = absurd cc

module _ (s : Sizes) (i : ℕ) where
  instance_back : (x : InstanceHead × InstanceBelow s i) → InstanceAgrees s i x.0 x.1 → instance_parts (instance_of_parts x) ≡ x
  instance_back x agrees =
      let a = at_most_one x.1.0 (has_flag x.0.flags 0x08) agrees.0 in
      let b = some_back x.1.1.1 agrees.1 in
      ap (λ (l : List ℕ). (x.0, (l, (x.1.1.0, Some (initializer_in x.1.1.1))))) a ∙ ap (λ (o : Option (ℕ × List TraitInfo)). (x.0, (x.1.0, (x.1.1.0, o)))) b

  instances_back : (n : ℕ) (xs : List (InstanceHead × InstanceBelow s i)) → (instance_lines s i n).fits xs → map instance_parts (map instance_of_parts xs) ≡ xs
  unfolding instance_lines
  instances_back n [] fit = refl
  instances_back n (x ∷ xs) fit = let a = instance_back x fit.0.1 in let b = instances_back n xs fit.2 in rw (a, b) refl

  outline_back : (n : ℕ) (x : Outline s i) → (file s i n).fits x → outline_of s i (abc_of s i x) ≡ x
  unfolding file
  outline_back n x fit =
      let a = metadata_back x.1.1.0 in
      let b = instances_back n x.1.1.1.0 fit.1.1.1.0 in
      rw (a, b) refl

  -- how many lines a reader may take doesn't matter for the lines and what fits
  fits_any : (n m : ℕ) (x : Outline s i) → (file s i n).fits x → (file s i m).fits x
  unfolding file pools methods method_below metadata instance_lines instance_below classes scripts body_lines body_below traits
  fits_any n m x fit = fit

  shown_any : (n m : ℕ) (x : Outline s i) (rs : List Row) → Match shows_operands rs (rows.lines_of_value (file s i n) x) → Match shows_operands rs (rows.lines_of_value (file s i m) x)
  unfolding file pools methods method_below metadata instance_lines instance_below classes scripts body_lines body_below traits
  shown_any n m x rs match = match

-- ---- sizes

-- the lines of a file, and that its fields fit, by sizes that are the file's
record IsListedBy (s : Sizes) (i n : ℕ) (rs : List Row) (v : Abc) : Type 0 where
  shown : Match shows_operands rs (rows.lines_of_value (file s i n) (outline_of s i v))
  fits : (file s i n).fits (outline_of s i v)

abbrev same_sizes : List Row → Abc → Type 0
same_sizes rs v = (sizes_of v ≡ sizes_in rs) × (length v.instances ≡ instances_in rs)

sizes_same : (s : Sizes) (i n : ℕ) (rs : List Row) (v : Abc) → Match shows_operands rs (rows.lines_of_value (file s i n) (outline_of s i v)) → same_sizes rs v
sizes_same s i n rs v match =
    let c = are_counted s i n rs (outline_of s i v) match in
    let c1 = c.ints in let c2 = c.uints in let c3 = c.doubles in let c4 = c.strings in let c5 = c.namespaces in let c6 = c.sets in let c7 = c.names in let c8 = c.methods in
    let c9 : count_all 12 rs ≡ length v.metadata = c.metadata ∙ length_map metadata_lines v.metadata in
    let c10 = c.classes in
    (rw (c1, c2, c3, c4, c5, c6, c7, c8, c9, c10) refl, sym (c.instance_list ∙ length_map instance_parts v.instances))

-- the lines of a text by its own sizes are those of a file by its sizes
listed_by_file : (rs : List Row) (v : Abc) → IsListedBy (sizes_in rs) (instances_in rs) (length rs) rs v → IsListedBy (sizes_of v) (length v.instances) 0 rs v
listed_by_file rs v l =
    let same = sizes_same (sizes_in rs) (instances_in rs) (length rs) rs v l.shown in
    let here : IsListedBy (sizes_in rs) (instances_in rs) 0 rs v = record {
      shown = shown_any (sizes_in rs) (instances_in rs) (length rs) 0 (outline_of (sizes_in rs) (instances_in rs) v) rs l.shown;
      fits = fits_any (sizes_in rs) (instances_in rs) (length rs) 0 (outline_of (sizes_in rs) (instances_in rs) v) l.fits;
    } in
    subst (λ (k : ℕ). IsListedBy (sizes_of v) k 0 rs v) (sym same.1) (subst (λ (z : Sizes). IsListedBy z (instances_in rs) 0 rs v) (sym same.0) here)

listed_by_rows : (rs : List Row) (v : Abc) → IsListedBy (sizes_of v) (length v.instances) 0 rs v → IsListedBy (sizes_in rs) (instances_in rs) (length rs) rs v
listed_by_rows rs v l =
    let same = sizes_same (sizes_of v) (length v.instances) 0 rs v l.shown in
    let here : IsListedBy (sizes_in rs) (instances_in rs) 0 rs v =
    subst (λ (k : ℕ). IsListedBy (sizes_in rs) k 0 rs v) same.1 (subst (λ (z : Sizes). IsListedBy z (length v.instances) 0 rs v) same.0 l) in
    record {
      shown = shown_any (sizes_in rs) (instances_in rs) 0 (length rs) (outline_of (sizes_in rs) (instances_in rs) v) rs here.shown;
      fits = fits_any (sizes_in rs) (instances_in rs) 0 (length rs) (outline_of (sizes_in rs) (instances_in rs) v) here.fits;
    }

-- ---- texts

module _ (text : List ℕ) where
  abbrev rs : List Row
  rs = rows_of text

  abbrev s : Sizes
  s = sizes_in rs

  abbrev i : ℕ
  i = instances_in rs

  abbrev body : Rows (Outline s i)
  body = file s i (length rs)

  decided : rows.IsTextDetermined shows_operands (faults s i) body rs
  decided = rows_determined s i rs refl refl

  -- the file of an outline that the lines are those of
  listed : (x : Outline s i) → rows.IsAssemblyOf shows_operands body rs x → AreFileLines rs (abc_of s i x)
  listed x is =
      let v = abc_of s i x in
      let back = outline_back s i (length rs) x is.fits in
      let l : IsListedBy s i (length rs) rs v = record {
        shown = subst (λ (y : Outline s i). Match shows_operands rs (rows.lines_of_value body y)) (sym back) is.shown;
        fits = subst (λ (y : Outline s i). body.fits y) (sym back) is.fits;
      } in
      let by_file = listed_by_file rs v l in
      record { shown = by_file.shown; fits = by_file.fits; whole = ap (abc_of s i) back }

  -- the outline of a file that the lines are those of
  outlined : (v : Abc) → AreFileLines rs v → rows.IsAssemblyOf shows_operands body rs (outline_of s i v)
  outlined v l = let b = listed_by_rows rs v (record { shown = l.shown; fits = l.fits }) in record { shown = b.shown; fits = b.fits }

  whole_by_rows : (v : Abc) → AreFileLines rs v → abc_of s i (outline_of s i v) ≡ v
  whole_by_rows v l = l.whole

  one_listed : (v w : Abc) → AreFileLines rs v → AreFileLines rs w → v ≡ w
  one_listed v w p q = sym (whole_by_rows v p) ∙ ap (abc_of s i) (decided.one_value (outline_of s i v) (outline_of s i w) (outlined v p) (outlined w q)) ∙ whole_by_rows w q

  answer_of : (v : Abc) → AreFileLines rs v → ((v : Abc) × IsAssemblyOf text v) ⊎ ((f : Fault) × IsAssemblyFault text f)
  answer_of v l =
      elim (cases_lt (2 ^ 24) (length (file_bytes v))) [
        | inl long ↦ inr (fault 1 reasons.FileTooLong, inr (v, l, long, refl))
        | inr short ↦ inl (v, record { listed = l; short = omega arith })
      ]

  pub text_decided : HasOneAnswer text
  text_decided = record {
    some = elim decided.some [ inl a ↦ answer_of (abc_of s i a.0) (listed a.0 a.1) | inr b ↦ inr (b.0, inl b.1) ];
    one_value = λ v w p q. one_listed v w p.listed q.listed;
    one_fault = λ f g p q. elim p [
      | inl a ↦ elim q [
        | inl b ↦ decided.one_fault f g a b
        | inr b ↦ absurd (decided.never_both (outline_of s i b.0) f (outlined b.0 b.1) a)
      ]
      | inr a ↦ elim q [
        | inl b ↦ absurd (decided.never_both (outline_of s i a.0) g (outlined a.0 a.1) b)
        | inr b ↦ a.3 ∙ sym b.3
      ]
    ];
    never_both = λ v f p q. elim q [
      | inl a ↦ decided.never_both (outline_of s i v) f (outlined v p.listed) a
      | inr a ↦ let same = one_listed v a.0 p.listed a.1 in let le = p.short in let lt : 2 ^ 24 < length (file_bytes v) = subst (λ (w : Abc). 2 ^ 24 < length (file_bytes w)) (sym same) a.2 in omega arith
    ];
  }
