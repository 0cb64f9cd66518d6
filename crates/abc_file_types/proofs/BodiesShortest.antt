-- The canonical bytes of bodies are a spelling, and none is shorter: their exceptions name places in the canonical code.
use Rattle.std.proofs.Common.{◌≡◌, ℕ, zero, suc, ◌+◌, ◌^◌, ◌<◌, ◌≤◌, true, List, [], ◌∷◌, ◌++◌, length, get_or, map, Some, None, refl, sym, ap, subst, ◌∙◌, append_assoc, length-append, arith}
use Rattle.std.specs.Prelude.{is_some, nat_eq, unwrap_or}
use Rattle.std.specs.declared.option.Option.{Option}
use Rattle.std.specs.List.{All, flat_map, position}
use Rattle.std.proofs.lemmas.Bool.{lt-ltb, ltb-true}
use Rattle.std.proofs.lemmas.Bool.Decides.{nat_tests}
use Rattle.std.proofs.lemmas.List.Elements.{All-cons, All-nil}
use Rattle.std.proofs.lemmas.List.Folds.{flat_map-map}
use Rattle.std.proofs.lemmas.List.{length-map}
use Rattle.std.proofs.lemmas.List.Quantifiers.{position-Some}
use Rattle.std.proofs.lemmas.Simd.{map-map}
use Rattle.abc_base.specs.Numbers.{number_bytes}
use Rattle.abc_base.proofs.Spelling.{number_grows}
use Rattle.abc_file_types.specs.Canonical.{IsCanonical, NoGreater, counted_bytes}
use Rattle.abc_file_types.specs.Ends.{Pieces}
use Rattle.abc_file_types.specs.Lists.{chain, count_and_items}
use Rattle.abc_file_types.specs.Numbers.{u30}
use Rattle.abc_file_types.specs.Part.{Part, both, then_by}
use Rattle.abc_file_types.proofs.Canon.{both-canonical, image-canonical, checked-canonical, counted-canonical, index_below-canonical, pool_index-canonical, u30-canonical, u30_fits}
use Rattle.abc_file_types.specs.declared.code.Body.{Body}
use Rattle.abc_file_types.specs.declared.code.Instr.{Instr}
use Rattle.abc_file_types.specs.declared.code.Instr.TheVariants as instrs
use Rattle.abc_file_types.specs.declared.instructions.Code.{Code}
use Rattle.abc_file_types.specs.declared.tables.Abc.{Abc}
use Rattle.abc_file_types.specs.declared.tables.Sizes.{Sizes}
use Rattle.abc_file_types.specs.Bodies.{handler, handler_bytes, body_method, body_with, body, body_bytes, body_list, bodies, bodies_bytes, bodies_alone, methods_of}
use Rattle.abc_file_types.specs.Classes.{sizes_of}
use Rattle.abc_file_types.specs.Code.{MeansAll, SpellsCode, code, code_body, code_listing}
use Rattle.abc_file_types.specs.CodeBytes.{canonical_starts, code_bytes, code_len, instr_len, instrs_bytes, with_lengths}
use Rattle.abc_file_types.specs.Instructions.{RawInstr, code_length, instruction}
use Rattle.abc_file_types.specs.Places.{instruction_place}
use Rattle.abc_file_types.specs.Ready.{IsReady}
use Rattle.abc_file_types.specs.Starts.{IsRising, start}
use Rattle.abc_file_types.specs.Traits.{trait_bytes, trait_info}
use Rattle.abc_file_types.proofs.CodeShortest.{canonical_body, code_bytes_length, code_can, offsets_canonical, code_listing-canonical, listing_ready, piece_can}
use Rattle.abc_file_types.proofs.Lengths.{canonical_count}
use Rattle.abc_file_types.proofs.Meaning.{starts_from}
use Rattle.abc_file_types.proofs.Resolving.{length-starts, position_is, starts_rising}
use Rattle.abc_file_types.proofs.Shortening.{Lessens, Shortens, both-lessens, both-shortens, canonical-lessens, canonical-shortens, chained, counted-shortens, image-lessens, image-shortens, kept, lessens-canonical, then-lessens, then-shortens}
use Rattle.abc_file_types.proofs.Lesser.{halves, no_greater_append}
use Rattle.abc_file_types.proofs.Shortest.{trait_info-canonical}

-- ---- places

-- The second list has a start for each of the first, in order, and none is further on.
pub record IsNearer (ss cs : List ℕ) : Type 0 where
  pub count : length cs ≡ length ss
  pub up : IsRising cs
  pub below : (t : ℕ) → t < length ss → get_or cs t 0 ≤ get_or ss t 0

-- What is known of a number that a place has: it was spelled by the start.
pub record IsPlace (ss : List ℕ) (t : ℕ) (b : List ℕ) : Type 0 where
  pub within : t < length ss
  pub spelled : u30.spells (get_or ss t 0) b

known : (o : Option ℕ) → is_some o ≡ true → o ≡ Some (unwrap_or o 0)
known (Some t) h = refl
known None h = absurd cc

pub place_is : (ss : List ℕ) (t : ℕ) (b : List ℕ) → (instruction_place ss).spells t b → IsPlace ss t b
unfolding instruction_place
place_is ss t b s =
    let x = s.0 in
    let o = position (λ y. nat_eq y x) ss in
    let is : o ≡ Some t = known o s.1.1 ∙ ap (λ (n : ℕ). Some n) (sym s.2) in
    let p = position-Some (λ y. nat_eq y x) ss t 0 is in
    let at : get_or ss t 0 ≡ x = let test = p.1 in grind (arith, nat_tests) in
    record { within = p.0; spelled = subst (λ (n : ℕ). u30.spells n b) (sym at) s.1.0 }

u30_below : (x : ℕ) (b : List ℕ) → u30.spells x b → x < 2 ^ 30
unfolding u30
u30_below x b s = ltb-true x (2 ^ 30) s.1

-- a number of the instructions or of the end is spelled by its start
pub place_spelled : (ss : List ℕ) (t : ℕ) → IsRising ss → t < length ss → get_or ss t 0 < 2 ^ 30 → (instruction_place ss).spells t (number_bytes (get_or ss t 0))
unfolding instruction_place
place_spelled ss t up lt small =
    let x = get_or ss t 0 in
    let p : position (λ y. nat_eq y x) ss ≡ Some t = position_is ss t up lt in
    (x, (u30_fits x small, ap is_some p), ap (λ (o : Option ℕ). unwrap_or o 0) (sym p))

place-shortens : (ss cs : List ℕ) → IsNearer ss cs → Shortens (instruction_place ss) (instruction_place cs) kept (λ t. number_bytes (get_or cs t 0))
place-shortens ss cs near = record {
  spelled = λ t b s.
      let p = place_is ss t b s in
      let le = near.below t p.within in
      let lt = u30_below (get_or ss t 0) b p.spelled in
      place_spelled cs t near.up (omega (arith, near.count, p.within)) (omega (arith, le, lt));
  shortest = λ t b s.
      let p = place_is ss t b s in
      let less = number_grows (get_or cs t 0) (get_or ss t 0) (near.below t p.within) in
      let most = u30-canonical.shortest (get_or ss t 0) b p.spelled in
      omega (arith, less, most);
}

pub handler-shortens : (v : Sizes) (ss cs : List ℕ) → IsNearer ss cs → Shortens (handler v ss) (handler v cs) kept (handler_bytes cs)
unfolding handler handler_bytes
handler-shortens v ss cs near =
    let place = place-shortens ss cs near in
    let name = canonical-shortens _ _ (pool_index-canonical v.names) in
    image-shortens _ _ _ _ _ _ kept (handler_bytes cs)
    (both-shortens _ _ _ _ _ _ _ _ place (both-shortens _ _ _ _ _ _ _ _ place (both-shortens _ _ _ _ _ _ _ _ place (both-shortens _ _ _ _ _ _ _ _ name name))))
    (λ x. refl) (λ x b s. simp append_assoc)

place-canonical : (ss : List ℕ) → IsRising ss → IsCanonical (instruction_place ss) (λ t. number_bytes (get_or ss t 0))
place-canonical ss up =
    let k = place-shortens ss ss (record { count = refl; up = up; below = λ t lt. omega arith }) in
    record { spelled = k.spelled; shortest = k.shortest; least = λ t b s len. u30-canonical.least (get_or ss t 0) b (place_is ss t b s).spelled len }

-- where the starts are those that the places were spelled by
handler-canonical : (v : Sizes) (ss : List ℕ) → IsRising ss → IsCanonical (handler v ss) (handler_bytes ss)
unfolding handler handler_bytes
handler-canonical v ss up =
    let place = place-canonical ss up in
    let name = pool_index-canonical v.names in
    image-canonical _ _ _ (handler_bytes ss) (both-canonical _ _ _ _ place (both-canonical _ _ _ _ place (both-canonical _ _ _ _ place (both-canonical _ _ _ _ name name)))) (λ x b s. simp append_assoc)

-- ---- the starts of the canonical code

some_bytes : (i : Instr) → 0 < instr_len i
some_bytes (instrs.Plain op) = omega arith
some_bytes (instrs.One op n) = omega arith
some_bytes (instrs.Two op n m) = omega arith
some_bytes (instrs.Branch op t) = omega arith
some_bytes (instrs.Switch t ts) = omega arith
some_bytes (instrs.Byte z) = omega arith
some_bytes (instrs.Short z) = omega arith
some_bytes (instrs.ScopeObject x) = omega arith
some_bytes (instrs.Debug kind name reg extra) = omega arith

all_long : (is : List Instr) → All (λ p. 0 < p.1) (with_lengths is)
all_long [] = All-nil (λ p. 0 < p.1)
all_long (i ∷ is) = All-cons (λ p. 0 < p.1) (i, instr_len i) (with_lengths is) (some_bytes i) (all_long is)

pub canonical_rising : (is : List Instr) → IsRising (canonical_starts is)
unfolding canonical_starts
canonical_rising is = starts_rising (with_lengths is) (all_long is)

-- the first t instructions have no more bytes than their pieces
abbrev no_pieces : List (RawInstr × ℕ)
no_pieces = []

record Shorter (is : List Instr) (xs : List (RawInstr × ℕ)) : Type 0 where
  count : length is ≡ length xs
  each : (t : ℕ) → start (with_lengths is) t ≤ start xs t

nothing : (t : ℕ) → start (with_lengths []) t ≤ start no_pieces t
nothing zero = omega arith
nothing (suc t) = omega arith

further : (i : Instr) (is : List Instr) (x : RawInstr × ℕ) (xs : List (RawInstr × ℕ)) → instr_len i ≤ x.1 → Shorter is xs → Shorter (i ∷ is) (x ∷ xs)
further i is x xs le more = record { count = ap suc more.count; each = each_further } where
  each_further : (t : ℕ) → start (with_lengths (i ∷ is)) t ≤ start (x ∷ xs) t
  each_further zero = omega arith
  each_further (suc t) = omega (arith, more.each t)

shorter : (ps : List (RawInstr × ℕ)) (here : ℕ) (xs : List (RawInstr × ℕ)) (b : List ℕ) (is : List Instr) → Pieces instruction xs b → MeansAll ps here xs is → Shorter is xs
shorter ps here [] b [] s m = record { count = refl; each = nothing }
shorter ps here [] b (i ∷ is) s m = absurd m
shorter ps here (x ∷ xs) b [] s m = absurd m
shorter ps here (x ∷ xs) b (i ∷ is) s m = further i is x xs (omega (arith, (piece_can ps here (here + x.1) x.0 s.0 i s.3 m.0).1, s.4)) (shorter ps (here + x.1) xs s.1 is s.5 m.1)

body_nearer : (c : Code) (b : List ℕ) → SpellsCode c b → IsNearer c.offsets (canonical_starts c.instrs)
unfolding canonical_starts
body_nearer c b s =
    let is = c.instrs in
    let h = shorter s.pieces 0 s.pieces b is s.filled s.means in
    let many : length (canonical_starts is) ≡ suc (length is) = canonical_count is in
    record {
      count = omega (arith, many, h.count, s.offsets.count);
      up = canonical_rising is;
      below = λ t lt.
          let le : t ≤ length s.pieces = omega (arith, s.offsets.count) in
          let one = starts_from (with_lengths is) t (omega (arith, many, length-starts 0 (with_lengths is), h.count)) in
          let two = s.offsets.each t le in
          omega (arith, one, two, h.each t);
    }

pub code_nearer : (c : Code) (b : List ℕ) → code.spells c b → IsNearer c.offsets (canonical_starts c.instrs)
unfolding code code_body
code_nearer c b s =
    let d = s.0.1 in
    subst (λ (e : Code). IsNearer e.offsets (canonical_starts e.instrs)) (sym s.2) (body_nearer d s.1.1 s.1.4.0)

-- ---- code, with the starts in its canonical bytes

abbrev pub anew : Code → Code
anew c = record { instrs = c.instrs; offsets = canonical_starts c.instrs }

listed : (c : Code) (b : List ℕ) → code.spells c b → code_listing.spells c.instrs b
unfolding code_listing
listed c b s = (c, s, refl)

pub code_ready : (c : Code) (b : List ℕ) → code.spells c b → IsReady c.instrs
code_ready c b s = listing_ready c.instrs b (listed c b s)

pub code_again : (is : List Instr) → IsReady is → code.spells (record { instrs = is; offsets = canonical_starts is }) (code_bytes is)
unfolding code code_body code_bytes code_length
code_again is r =
    let made : Code = record { instrs = is; offsets = canonical_starts is } in
    let body = instrs_bytes (canonical_starts is) 0 is in
    let len : length body ≡ code_len is = omega (arith, code_bytes_length is, length-append (number_bytes (code_len is)) body) in
    let lt = r.short in
    ((code_len is, made), (number_bytes (code_len is), body, refl, (u30_fits (code_len is) (omega arith), lt-ltb (code_len is) (2 ^ 23) lt), (canonical_body is r.can lt, len)), refl)

code-shortens : Shortens code code anew (λ c. code_bytes c.instrs)
code-shortens = record {
  spelled = λ c b s. code_again c.instrs (code_ready c b s);
  shortest = λ c b s. code_listing-canonical.shortest c.instrs b (listed c b s);
}

code-lessens : Lessens code (λ c. code_bytes c.instrs)
code-lessens = record {
  shortest = λ c b s. code_listing-canonical.shortest c.instrs b (listed c b s);
  least = λ c b s len. code_listing-canonical.least c.instrs b (listed c b s) len;
}

offsets_from : (n : ℕ) (d : Code) (b1 b2 : List ℕ) → code_length.spells n b1 → SpellsCode d b2 → length b2 ≡ n → length (code_bytes d.instrs) ≡ length b1 + length b2 → d.offsets ≡ canonical_starts d.instrs
unfolding code_length
offsets_from n d b1 b2 l s full len =
    let can = code_can d b2 s in
    let count = number_grows (code_len d.instrs) n (omega (arith, can.1, full)) in
    let few = u30-canonical.shortest n b1 l.0 in
    offsets_canonical d b2 s (omega (arith, can.1, count, few, len, code_bytes_length d.instrs))

-- code as short as its canonical bytes has its starts where they have them
code_offsets : (c : Code) (b : List ℕ) → code.spells c b → length (code_bytes c.instrs) ≡ length b → c.offsets ≡ canonical_starts c.instrs
unfolding code code_body
code_offsets c b s len =
    let t = s.1 in
    let here = offsets_from s.0.0 s.0.1 t.0 t.1 t.3 t.4.0 t.4.1 in
    let long : length (code_bytes s.0.1.instrs) ≡ length t.0 + length t.1 = ap (λ (d : Code). length (code_bytes d.instrs)) (sym s.2) ∙ len ∙ ap length t.2 ∙ length-append t.0 t.1 in
    subst (λ (d : Code). d.offsets ≡ canonical_starts d.instrs) (sym s.2) (here long)

-- ---- one body

-- the body, with the starts in its canonical code
abbrev pub renewed : Body × List ℕ → Body × List ℕ
renewed x = (x.0, canonical_starts x.0.code)

rest-shortens : (v : Sizes) → Shortens (then_by code (λ c. both (count_and_items (handler v c.offsets)) (count_and_items (trait_info v)))) (then_by code (λ c. both (count_and_items (handler v c.offsets)) (count_and_items (trait_info v))))
    (λ x. (anew x.0, (x.1.0, x.1.1))) (λ x. code_bytes x.0.instrs ++ (counted_bytes (handler_bytes (canonical_starts x.0.instrs)) x.1.0 ++ counted_bytes trait_bytes x.1.1))
rest-shortens v =
    then-shortens code code anew (λ c. code_bytes c.instrs) (λ c. both (count_and_items (handler v c.offsets)) (count_and_items (trait_info v))) (λ c. both (count_and_items (handler v c.offsets)) (count_and_items (trait_info v)))
    (λ c y. (y.0, y.1)) (λ c y. counted_bytes (handler_bytes (canonical_starts c.instrs)) y.0 ++ counted_bytes trait_bytes y.1) code-shortens
    (λ c b s. both-shortens _ _ _ _ _ _ _ _ (counted-shortens _ _ _ (handler-shortens v c.offsets (canonical_starts c.instrs) (code_nearer c b s)))
    (canonical-shortens _ _ (counted-canonical _ _ (trait_info-canonical v))))

pub body-shortens : (v : Sizes) (taken : List ℕ) → Shortens (body v taken) (body v taken) renewed (λ x. body_bytes x.0)
unfolding body body_with body_bytes body_method
body-shortens v taken =
    let number = canonical-shortens _ _ u30-canonical in
    image-shortens _ _ _ _ _ _ renewed (λ x. body_bytes x.0)
    (both-shortens _ _ _ _ _ _ _ _ (canonical-shortens _ _ (checked-canonical _ _ _ _ (index_below-canonical v.methods)))
    (both-shortens _ _ _ _ _ _ _ _ number (both-shortens _ _ _ _ _ _ _ _ number (both-shortens _ _ _ _ _ _ _ _ number (both-shortens _ _ _ _ _ _ _ _ number (rest-shortens v))))))
    (λ x. refl) (λ x b s. simp append_assoc)

rest-lessens : (v : Sizes) → Lessens (then_by code (λ c. both (count_and_items (handler v c.offsets)) (count_and_items (trait_info v))))
    (λ x. code_bytes x.0.instrs ++ (counted_bytes (handler_bytes (canonical_starts x.0.instrs)) x.1.0 ++ counted_bytes trait_bytes x.1.1))
rest-lessens v =
    then-lessens code (λ c. code_bytes c.instrs) (λ c. both (count_and_items (handler v c.offsets)) (count_and_items (trait_info v))) (λ c y. counted_bytes (handler_bytes (canonical_starts c.instrs)) y.0 ++ counted_bytes trait_bytes y.1) code-lessens
    (λ c b s. (both-shortens _ _ _ _ _ _ _ _ (counted-shortens _ _ _ (handler-shortens v c.offsets (canonical_starts c.instrs) (code_nearer c b s)))
    (canonical-shortens _ _ (counted-canonical _ _ (trait_info-canonical v)))).shortest)
    (λ c b s len.
    let is = code_offsets c b s len in
    let up : IsRising c.offsets = subst IsRising (sym is) (canonical_rising c.instrs) in
    subst (λ (ss : List ℕ). Lessens (both (count_and_items (handler v c.offsets)) (count_and_items (trait_info v))) (λ y. counted_bytes (handler_bytes ss) y.0 ++ counted_bytes trait_bytes y.1)) is
    (both-lessens _ _ _ _ (canonical-lessens _ _ (counted-canonical _ _ (handler-canonical v c.offsets up))) (canonical-lessens _ _ (counted-canonical _ _ (trait_info-canonical v)))))

body-lessens : (v : Sizes) (taken : List ℕ) → Lessens (body v taken) (λ x. body_bytes x.0)
unfolding body body_with body_bytes body_method
body-lessens v taken =
    let number = canonical-lessens _ _ u30-canonical in
    image-lessens _ _ _ (λ x. body_bytes x.0)
    (both-lessens _ _ _ _ (canonical-lessens _ _ (checked-canonical _ _ _ _ (index_below-canonical v.methods)))
    (both-lessens _ _ _ _ number (both-lessens _ _ _ _ number (both-lessens _ _ _ _ number (both-lessens _ _ _ _ number (rest-lessens v))))))
    (λ x b s. simp append_assoc)

-- ---- all bodies

methods_renewed : (read : List (Body × List ℕ)) → methods_of (map renewed read) ≡ methods_of read
methods_renewed [] = refl
methods_renewed (x ∷ read) = ap (λ (l : List ℕ). x.0.method ∷ l) (methods_renewed read)

next-shortens : (v : Sizes) (before : List (Body × List ℕ)) → Shortens (body v (methods_of before)) (body v (methods_of (map renewed before))) renewed (λ x. body_bytes x.0)
next-shortens v before =
    subst (λ (l : List ℕ). Shortens (body v (methods_of before)) (body v l) renewed (λ x. body_bytes x.0)) (sym (methods_renewed before)) (body-shortens v (methods_of before))

-- the bytes of a list of bodies, which may stand with the starts of their instructions
abbrev pub list_bytes : List (Body × List ℕ) → List ℕ
list_bytes xs = counted_bytes body_bytes (map (λ x. x.0) xs)

abbrev next_body : Sizes → List (Body × List ℕ) → Part (Body × List ℕ)
next_body v before = body v (methods_of before)

abbrev pub one_bytes : Body × List ℕ → List ℕ
one_bytes x = body_bytes x.0

list_best : (v : Sizes) (xs : List (Body × List ℕ)) (b : List ℕ) → (body_list v).spells xs b
    → (body_list v).spells (map renewed xs) (list_bytes xs) × (length (list_bytes xs) ≤ length b) × (length (list_bytes xs) ≡ length b → NoGreater (list_bytes xs) b)
unfolding body_list counted_bytes
list_best v xs b s =
    let n = s.0.0 in
    let c = chained (next_body v) renewed one_bytes (next-shortens v) (λ before. body-lessens v (methods_of before)) n [] s.0.1 s.1.1 s.1.4 in
    let all : xs ≡ c.rest = s.2 ∙ c.is in
    let len : length (map (λ (x : Body × List ℕ). x.0) xs) ≡ n = length-map xs (λ (x : Body × List ℕ). x.0) ∙ ap length all ∙ c.count in
    let one : flat_map body_bytes (map (λ (x : Body × List ℕ). x.0) xs) ≡ flat_map one_bytes c.rest = flat_map-map body_bytes (λ (x : Body × List ℕ). x.0) xs ∙ ap (flat_map one_bytes) all in
    let is : list_bytes xs ≡ number_bytes n ++ flat_map one_bytes c.rest = rw (len, one) refl in
    let moved : (chain n (next_body v) []).spells (map renewed xs) (flat_map one_bytes c.rest) = subst (λ (l : List (Body × List ℕ)). (chain n (next_body v) []).spells (map renewed l) (flat_map one_bytes c.rest)) (sym s.2) c.spelled in
    let few = u30-canonical.shortest n s.1.0 s.1.3 in (
      ((n, map renewed xs), (number_bytes n, flat_map one_bytes c.rest, is, u30-canonical.spelled n s.1.0 s.1.3, moved), refl),
      omega (arith, few, c.short, ap length is, length-append (number_bytes n) (flat_map one_bytes c.rest), ap length s.1.2, length-append s.1.0 s.1.1),
      λ long.
          let h = halves (number_bytes n) (flat_map one_bytes c.rest) s.1.0 s.1.1 few c.short (ap length (sym is) ∙ long ∙ ap length s.1.2) in
          rw (is, s.1.2) (no_greater_append (number_bytes n) (flat_map one_bytes c.rest) s.1.0 s.1.1 (u30-canonical.least n s.1.0 s.1.3 h.0) (c.least h.1)),
    )

pub body_list-shortens : (v : Sizes) → Shortens (body_list v) (body_list v) (map renewed) list_bytes
body_list-shortens v = record { spelled = λ xs b s. (list_best v xs b s).0; shortest = λ xs b s. (list_best v xs b s).1 }

body_list-lessens : (v : Sizes) → Lessens (body_list v) list_bytes
body_list-lessens v = record { shortest = λ xs b s. (list_best v xs b s).1; least = λ xs b s. (list_best v xs b s).2 }

-- the bodies as they are, with the starts in their canonical code
abbrev pub again : Abc × List (List ℕ) → Abc × List (List ℕ)
again x = (x.0, map (λ (b : Body). canonical_starts b.code) (x.0).bodies)

pub bodies-shortens : (abc : Abc) → Shortens (bodies abc) (bodies abc) again (λ x. bodies_bytes x.0)
unfolding bodies bodies_bytes
bodies-shortens abc =
    image-shortens _ _ _ _ (map renewed) list_bytes again (λ (x : Abc × List (List ℕ)). bodies_bytes x.0) (body_list-shortens (sizes_of abc))
    (λ xs. simp map-map) (λ xs b s. refl)

bodies-lessens : (abc : Abc) → Lessens (bodies abc) (λ x. bodies_bytes x.0)
unfolding bodies bodies_bytes
bodies-lessens abc = image-lessens _ _ list_bytes (λ (x : Abc × List (List ℕ)). bodies_bytes x.0) (body_list-lessens (sizes_of abc)) (λ xs b s. refl)

pub bodies_alone-canonical : (abc : Abc) → IsCanonical (bodies_alone abc) bodies_bytes
unfolding bodies_alone
bodies_alone-canonical abc =
    lessens-canonical _ bodies_bytes (image-shortens _ _ _ _ again (λ (x : Abc × List (List ℕ)). bodies_bytes x.0) kept bodies_bytes (bodies-shortens abc) (λ x. refl) (λ x b s. refl))
    (image-lessens _ _ (λ (x : Abc × List (List ℕ)). bodies_bytes x.0) bodies_bytes (bodies-lessens abc) (λ x b s. refl))
