-- Bodies are read one after the other, with a flag for each method that has one.
use Rattle.std.proofs.Common.{◌≡◌, ℕ, zero, suc, ◌+◌, ◌-◌, ◌<◌, Bool, true, false, List, [], ◌∷◌, ◌++◌, length, map, get_or, set, Ok, Err, None, Some, refl, sym, ap, subst, ◌∙◌, length-append, length-set, arith}
use Rattle.std.specs.Prelude.{replicate, slice_get}
use Rattle.std.specs.declared.option.Option.{Option}
use Rattle.std.proofs.lemmas.List.{length-replicate, map-append}
use Rattle.std.proofs.lemmas.Option.{slice_get_within}
use Rattle.abc_file_types.specs.Lists.{chain}
use Rattle.abc_file_types.specs.Part.{Part, image}
use Rattle.abc_file_types.specs.declared.code.Body.{Body}
use Rattle.abc_file_types.specs.declared.tables.Abc.{Abc}
use Rattle.abc_file_types.specs.declared.tables.Sizes.{Sizes}
use Rattle.abc_file_types.specs.Bodies.{bodies, body, body_list, methods_of}
use Rattle.abc_file_types.specs.Classes.{sizes_of}
use Rattle.abc_file_types.specs.Sizes.{capped_sizes}
use Rattle.abc_varint.specs.declared.error.ReadError.{ReadError}
use Rattle.abc_varint.specs.View.{View}
use Rattle.abc_varint.specs.Reads.{Reads}
use Rattle.abc_traits.proofs.Alike.{Alike, alike_sym, alike_trans, image-alike, image_image}
use Rattle.abc_traits.proofs.Filling.{reads_alike, reads_image}
use Rattle.abc_bodies.specs.Places.{ArePlaces, KeepPlaces}
use Rattle.abc_bodies.specs.Reading.{IsFlagged, free_body, halves, keeping}
use Rattle.abc_bodies.proofs.Alike.{body_list-capped, flags_up, free_body-alike, no_flags}
use Rattle.abc_bodies.proofs.Chaining.{Chaining, chain_begins, chain_done, chain_fails, chain_goes_on}

-- ---- each body beside its starts

abbrev pub paired : List Body → List (List ℕ) → List (Body × List ℕ)
paired [] ss = []
paired (b ∷ bs) [] = []
paired (b ∷ bs) (s ∷ ss) = (b, s) ∷ paired bs ss

paired-push : (bs : List Body) (ss : List (List ℕ)) (b : Body) (s : List ℕ) → length bs ≡ length ss → paired (bs ++ b ∷ []) (ss ++ s ∷ []) ≡ paired bs ss ++ (b, s) ∷ []
paired-push [] [] b s e = refl
paired-push [] (t ∷ ss) b s e = absurd (omega arith)
paired-push (c ∷ bs) [] b s e = absurd (omega arith)
paired-push (c ∷ bs) (t ∷ ss) b s e = ap (λ (l : List (Body × List ℕ)). (c, t) ∷ l) (paired-push bs ss b s (omega arith))

paired-halves : (bs : List Body) (ss : List (List ℕ)) → length bs ≡ length ss → halves (λ (starts : List (List ℕ)). starts) (paired bs ss) ≡ (bs, ss)
paired-halves [] [] e = refl
paired-halves [] (t ∷ ss) e = absurd (omega arith)
paired-halves (b ∷ bs) [] e = absurd (omega arith)
paired-halves (b ∷ bs) (t ∷ ss) e =
    let h = paired-halves bs ss (omega arith) in
    ap (λ (x : List Body × List (List ℕ)). (b ∷ x.0, t ∷ x.1)) h

-- ---- places

new_place : (bs : List Body) (ss : List (List ℕ)) (b : Body) (s : List ℕ) → length s ≡ length b.code + 1 → length ss ≡ length bs → (i : ℕ) (c : Body)
    → slice_get (bs ++ b ∷ []) i ≡ Some c → ((j : ℕ) (d : Body) → slice_get bs j ≡ Some d → length (get_or ss j []) ≡ length d.code + 1) → length (get_or (ss ++ s ∷ []) i []) ≡ length c.code + 1
new_place [] [] b s many even zero c h each = let same : b ≡ c = cc in ap (λ (d : Body). length s) same ∙ many ∙ ap (λ (d : Body). length d.code + 1) same
new_place [] [] b s many even (suc i) c h each = absurd cc
new_place [] (t ∷ ss) b s many even i c h each = absurd (omega arith)
new_place (a ∷ bs) [] b s many even i c h each = absurd (omega arith)
new_place (a ∷ bs) (t ∷ ss) b s many even zero c h each = each 0 c h
new_place (a ∷ bs) (t ∷ ss) b s many even (suc i) c h each = new_place bs ss b s many (omega arith) i c h (λ j d g. each (suc j) d g)

place_more : (bs : List Body) (ss : List (List ℕ)) (b : Body) (s : List ℕ) → length s ≡ length b.code + 1 → ArePlaces bs ss → ArePlaces (bs ++ b ∷ []) (ss ++ s ∷ [])
place_more bs ss b s many p = record {
  count = omega (arith, p.count, length-append bs (b ∷ []), length-append ss (s ∷ []));
  each = λ i c h. new_place bs ss b s many p.count i c h p.each;
}

-- ---- the loop

abbrev pub next_body : Sizes → List (Body × List ℕ) → Part (Body × List ℕ)
next_body v before = body v (methods_of before)

-- what is known where some bodies are read and `more` are to come
pub record Collecting (v : Sizes) (total more : ℕ) (flags : List Bool) (bs : List Body) (ss : List (List ℕ)) (w0 : View) (s0 : Option (List ℕ)) (w : View) (s : Option (List ℕ)) : Type 0 where
  pub chained : Chaining (next_body v) total more (paired bs ss) w0 s0 w s
  pub flagged : IsFlagged flags (methods_of (paired bs ss))
  pub count : length flags ≡ v.methods
  pub placed : ArePlaces bs ss

module _ (v : Sizes) (total : ℕ) (w0 : View) (s0 : Option (List ℕ)) where
  pub begins : (flags : List Bool) → flags ≡ replicate v.methods false → w0.kept ≡ None → Collecting v total (total - 0) flags [] [] w0 s0 w0 s0
  begins flags is fresh = record {
    chained = chain_begins (next_body v) total w0 s0 fresh;
    flagged = rw is (no_flags v.methods);
    count = ap length is ∙ length-replicate v.methods false;
    placed = record { count = refl; each = λ i b h. absurd cc };
  }

  exact : (flags : List Bool) (bs : List Body) (ss : List (List ℕ)) → IsFlagged flags (methods_of (paired bs ss)) → length flags ≡ v.methods → Alike (free_body v flags) (next_body v (paired bs ss))
  exact flags bs ss flagged count = free_body-alike v flags (methods_of (paired bs ss)) count flagged

  pub collects : (more less : ℕ) (flags : List Bool) (bs : List Body) (ss : List (List ℕ)) (w : View) (s : Option (List ℕ)) (w2 : View) (s2 : Option (List ℕ)) (x : Body × List ℕ)
      → more ≡ suc less → Collecting v total more flags bs ss w0 s0 w s → Reads (free_body v flags).reads w s w2 s2 (Ok x) → slice_get flags x.0.method ≡ Some false → length x.1 ≡ length x.0.code + 1
      → Collecting v total less (set flags x.0.method true) (bs ++ x.0 ∷ []) (ss ++ x.1 ∷ []) w0 s0 w2 s2
  collects more less flags bs ss w s w2 s2 x k g r free many =
      let read = reads_alike _ _ (exact flags bs ss g.flagged g.count) w s w2 s2 (Ok x) r in
      let even = sym g.placed.count in
      let push = paired-push bs ss x.0 x.1 even in
      let methods : methods_of (paired bs ss ++ x ∷ []) ≡ methods_of (paired bs ss) ++ x.0.method ∷ [] = map-append (λ (y : Body × List ℕ). y.0.method) (paired bs ss) (x ∷ []) in
      let up = flags_up flags (methods_of (paired bs ss)) x.0.method (slice_get_within flags x.0.method false free) g.flagged in
      record {
        chained = rw push (chain_goes_on (next_body v) total more less (paired bs ss) w0 s0 w s w2 s2 x k g.chained read);
        flagged = rw (push, methods) up;
        count = length-set flags x.0.method true ∙ g.count;
        placed = place_more bs ss x.0 x.1 many g.placed;
      }

  pub fails : {K : Type 0} (of_places : List (List ℕ) → K) (e : ReadError) (more : ℕ) (flags : List Bool) (bs : List Body) (ss : List (List ℕ)) (w : View) (s : Option (List ℕ)) (w2 : View) (s2 : Option (List ℕ))
      → 0 < more → Collecting v total more flags bs ss w0 s0 w s → Reads (free_body v flags).reads w s w2 s2 (Err e) → Reads (image (halves of_places) (chain total (next_body v) [])).reads w0 s0 w2 s2 (Err e)
  fails of_places e more flags bs ss w s w2 s2 lt g r =
      let read = reads_alike _ _ (exact flags bs ss g.flagged g.count) w s w2 s2 (Err e) r in
      reads_image (halves of_places) (chain total (next_body v) []) w0 s0 w2 s2 (Err e) (chain_fails (next_body v) e total more (paired bs ss) w0 s0 w s w2 s2 lt g.chained read)

  pub collected : {K : Type 0} (of_places : List (List ℕ) → K) (more : ℕ) (flags : List Bool) (bs : List Body) (ss : List (List ℕ)) (w : View) (s : Option (List ℕ))
      → more ≡ 0 → w0.kept ≡ None → Collecting v total more flags bs ss w0 s0 w s → Reads (image (halves of_places) (chain total (next_body v) [])).reads w0 s0 w s (Ok (bs, of_places ss))
  collected of_places more flags bs ss w s k fresh g =
      subst (λ (x : List Body × List (List ℕ)). Reads (image (halves of_places) (chain total (next_body v) [])).reads w0 s0 w s (Ok (x.0, of_places x.1))) (paired-halves bs ss (sym g.placed.count))
      (reads_image (halves of_places) (chain total (next_body v) []) w0 s0 w s (Ok (paired bs ss)) (chain_done (next_body v) total more (paired bs ss) w0 s0 w s k fresh g.chained))

-- ---- the same, where this is kept of the starts

pub record Gathering {K : Type 0} (of_places : List (List ℕ) → K) (v : Sizes) (total more : ℕ) (flags : List Bool) (bs : List Body) (kept : K) (w0 : View) (s0 : Option (List ℕ)) (w : View) (s : Option (List ℕ)) : Type 0 where
  pub starts : List (List ℕ)
  pub is : kept ≡ of_places starts
  pub collecting : Collecting v total more flags bs starts w0 s0 w s

pub gathering_begins : {K : Type 0} (of_places : List (List ℕ) → K) (v : Sizes) (total : ℕ) (w0 : View) (s0 : Option (List ℕ)) (flags : List Bool) (bs : List Body) (kept : K)
    → flags ≡ replicate v.methods false → bs ≡ [] → kept ≡ of_places [] → w0.kept ≡ None → Gathering of_places v total (total - 0) flags bs kept w0 s0 w0 s0
gathering_begins of_places v total w0 s0 flags bs kept is empty none fresh = record {
  starts = [];
  is = none;
  collecting = subst (λ (l : List Body). Collecting v total (total - 0) flags l [] w0 s0 w0 s0) (sym empty) (begins v total w0 s0 flags is fresh);
}

pub gathers : {K : Type 0} (of_places : List (List ℕ) → K) (v : Sizes) (total : ℕ) (w0 : View) (s0 : Option (List ℕ)) (more less : ℕ) (flags : List Bool) (bs : List Body) (kept kept2 : K) (w : View) (s : Option (List ℕ)) (w2 : View) (s2 : Option (List ℕ)) (b : Body) (row : List ℕ)
    → more ≡ suc less → Gathering of_places v total more flags bs kept w0 s0 w s → Reads (free_body v flags).reads w s w2 s2 (Ok (b, row)) → slice_get flags b.method ≡ Some false → length row ≡ length b.code + 1
    → ((places : List (List ℕ)) → kept ≡ of_places places → kept2 ≡ of_places (places ++ row ∷ [])) → Gathering of_places v total less (set flags b.method true) (bs ++ b ∷ []) kept2 w0 s0 w2 s2
gathers of_places v total w0 s0 more less flags bs kept kept2 w s w2 s2 b row k g r free many next = record {
  starts = g.starts ++ row ∷ [];
  is = next g.starts g.is;
  collecting = collects v total w0 s0 more less flags bs g.starts w s w2 s2 (b, row) k g.collecting r free many;
}

pub gathering_fails : {K : Type 0} (of_places : List (List ℕ) → K) (v : Sizes) (total : ℕ) (w0 : View) (s0 : Option (List ℕ)) (e : ReadError) (more : ℕ) (flags : List Bool) (bs : List Body) (kept : K) (w : View) (s : Option (List ℕ)) (w2 : View) (s2 : Option (List ℕ))
    → 0 < more → Gathering of_places v total more flags bs kept w0 s0 w s → Reads (free_body v flags).reads w s w2 s2 (Err e) → Reads (image (halves of_places) (chain total (next_body v) [])).reads w0 s0 w2 s2 (Err e)
gathering_fails of_places v total w0 s0 e more flags bs kept w s w2 s2 lt g r = fails v total w0 s0 of_places e more flags bs g.starts w s w2 s2 lt g.collecting r

pub gathered : {K : Type 0} (of_places : List (List ℕ) → K) (v : Sizes) (total : ℕ) (w0 : View) (s0 : Option (List ℕ)) (more : ℕ) (flags : List Bool) (bs : List Body) (kept : K) (w : View) (s : Option (List ℕ))
    → more ≡ 0 → w0.kept ≡ None → Gathering of_places v total more flags bs kept w0 s0 w s → Reads (image (halves of_places) (chain total (next_body v) [])).reads w0 s0 w s (Ok (bs, kept))
gathered {K = K} of_places v total w0 s0 more flags bs kept w s k fresh g =
    subst (λ (x : K). Reads (image (halves of_places) (chain total (next_body v) [])).reads w0 s0 w s (Ok (bs, x))) (sym g.is)
    (collected v total w0 s0 of_places more flags bs g.starts w s k fresh g.collecting)

pub gathered_places : {K : Type 0} (of_places : List (List ℕ) → K) (v : Sizes) (total more : ℕ) (flags : List Bool) (bs : List Body) (kept : K) (w0 : View) (s0 : Option (List ℕ)) (w : View) (s : Option (List ℕ))
    → Gathering of_places v total more flags bs kept w0 s0 w s → KeepPlaces of_places bs kept
gathered_places of_places v total more flags bs kept w0 s0 w s g = record { places = g.starts; is = g.is; each = g.collecting.placed }

-- ---- an Abc is filled with the bodies that were read beside its other tables

abbrev pub with_bodies : {K : Type 0} → Abc → List Body × K → Abc × K
with_bodies abc x = (record abc { bodies = x.0 }, x.1)

bodies_alike : {K : Type 0} (of_places : List (List ℕ) → K) (abc : Abc) → Alike (image (with_bodies abc) (image (halves of_places) (body_list (sizes_of abc)))) (image (keeping of_places) (bodies abc))
unfolding bodies
bodies_alike of_places abc =
    let list = body_list (sizes_of abc) in
    let placed : List (Body × List ℕ) → Abc × List (List ℕ) = λ (xs : List (Body × List ℕ)). (record abc { bodies = map (λ x. x.0) xs }, map (λ x. x.1) xs) in
    let whole = image (λ (xs : List (Body × List ℕ)). keeping of_places (placed xs)) list in
    alike_trans (image (with_bodies abc) (image (halves of_places) list)) whole (image (keeping of_places) (image placed list)) (image_image (with_bodies abc) (halves of_places) list)
    (alike_sym (image (keeping of_places) (image placed list)) whole (image_image (keeping of_places) placed list))

module _ (abc : Abc) (v : Sizes) (same : v ≡ capped_sizes (sizes_of abc)) (w : View) (s : Option (List ℕ)) (w2 : View) (s2 : Option (List ℕ)) where
  all_alike : {K : Type 0} (of_places : List (List ℕ) → K) → Alike (image (halves of_places) (body_list v)) (image (halves of_places) (body_list (sizes_of abc)))
  all_alike of_places = image-alike _ _ _ (rw same (alike_sym _ _ (body_list-capped (sizes_of abc))))

  pub fills_ok : {K : Type 0} (of_places : List (List ℕ) → K) (x : List Body × K) → Reads (image (halves of_places) (body_list v)).reads w s w2 s2 (Ok x) → Reads (image (keeping of_places) (bodies abc)).reads w s w2 s2 (Ok (with_bodies abc x))
  fills_ok of_places x r =
      reads_alike _ _ (bodies_alike of_places abc) w s w2 s2 (Ok (with_bodies abc x))
      (reads_image (with_bodies abc) (image (halves of_places) (body_list (sizes_of abc))) w s w2 s2 (Ok x) (reads_alike _ _ (all_alike of_places) w s w2 s2 (Ok x) r))

  pub fills_err : {K : Type 0} (of_places : List (List ℕ) → K) (e : ReadError) → Reads (image (halves of_places) (body_list v)).reads w s w2 s2 (Err e) → Reads (image (keeping of_places) (bodies abc)).reads w s w2 s2 (Err e)
  fills_err of_places e r =
      reads_alike _ _ (bodies_alike of_places abc) w s w2 s2 (Err e)
      (reads_image (with_bodies abc) (image (halves of_places) (body_list (sizes_of abc))) w s w2 s2 (Err e) (reads_alike _ _ (all_alike of_places) w s w2 s2 (Err e) r))
