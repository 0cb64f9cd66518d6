-- Which bodies some bytes spell.
use Rattle.std.proofs.Common.{◌≡◌, ◌≢◌, ℕ, ◌+◌, ◌-◌, ◌^◌, ◌<◌, ◌≤◌, Bool, true, false, List, [], ◌∷◌, ◌++◌, length, get_or, map, refl, sym, ap, subst, ◌∙◌, append_assoc, arith}
use Rattle.std.specs.Prelude.{◌↔◌, All, AllPairs, nat_eq, not}
use Rattle.std.specs.List.{list_any}
use Rattle.std.proofs.lemmas.Bool.Decides.{nat_tests}
use Rattle.std.proofs.lemmas.List.{append-nil, get_or-map, length-map, map-append}
use Rattle.std.proofs.lemmas.List.Elements.{All-cons, All-head, All-map, All-nil, All-tail}
use Rattle.std.proofs.lemmas.List.Folds.{list_any_at, list_any_none}
use Rattle.std.proofs.lemmas.List.Quantifiers.{all_pairs_push}
use Rattle.std.proofs.lemmas.Simd.{map-map}
use Rattle.abc_file_types.specs.Numbers.{index_below}
use Rattle.abc_file_types.specs.Part.{Part}
use Rattle.abc_file_types.specs.declared.code.Body.{Body}
use Rattle.abc_file_types.specs.declared.code.Handler.{Handler}
use Rattle.abc_file_types.specs.declared.instructions.Code.{Code}
use Rattle.abc_file_types.specs.declared.tables.Abc.{Abc}
use Rattle.abc_file_types.specs.declared.tables.Sizes.{Sizes}
use Rattle.abc_file_types.specs.Bodies.{IsReadyBody, IsHandlerWithin, bodies, bodies_alone, body, body_list, body_method, body_with, handler, methods_of}
use Rattle.abc_file_types.specs.Classes.{sizes_of}
use Rattle.abc_file_types.specs.CodeBytes.{canonical_starts, code_bytes}
use Rattle.abc_file_types.specs.Places.{instruction_place}
use Rattle.abc_file_types.specs.Ready.{IsReady}
use Rattle.abc_file_types.proofs.BodiesReady.{code_count, handler_within}
use Rattle.abc_file_types.proofs.BodiesShortest.{canonical_rising, code_again, code_ready, place_spelled}
use Rattle.abc_file_types.proofs.Lengths.{canonical_count, canonical_small}
use Rattle.abc_tables.specs.Distinct.{Differ}
use Rattle.abc_tables.specs.Fitting.{FitBodies, FitTraits, FitsBody, HasNames, HasSizes, FitsNumber, IsPoolIndex, IsPosition, Spelled}
use Rattle.abc_tables.proofs.Combined.{counted_spelled, number_fits, position_fits}
use Rattle.abc_tables.proofs.Chains.{Follow, chain_spelled, chained, pairs_before, pairs_map}

-- ---- handlers

place_from : (is : List _) (t : ℕ) → IsReady is → t ≤ length is → Spelled (instruction_place (canonical_starts is)) t
place_from is t r le =
    let small = canonical_small is r.short t le in
    let within : t < length (canonical_starts is) = omega (arith, canonical_count is) in
    record { bytes = _; is = place_spelled (canonical_starts is) t (canonical_rising is) within (omega arith) }

names_in : (v : Sizes) (starts : List ℕ) (h : Handler) → Spelled (handler v starts) h → HasNames v h
unfolding IsPoolIndex handler
names_in v starts h s =
    let t = s.is.1.4.4.4 in
    subst (HasNames v) (sym s.is.2) (record { exc_type = record { bytes = t.0; is = t.3 }; var_name = record { bytes = t.1; is = t.4 } })

handler_from : (v : Sizes) (is : List _) (h : Handler) → IsReady is → IsHandlerWithin (length is) h → HasNames v h → Spelled (handler v (canonical_starts is)) h
unfolding IsPoolIndex handler
handler_from v is h r within names =
    let from = place_from is h.from r within.from in
    let to = place_from is h.to r within.to in
    let target = place_from is h.target r within.target in
    let e = names.exc_type in
    let n = names.var_name in
    record {
      bytes = from.bytes ++ (to.bytes ++ (target.bytes ++ (e.bytes ++ n.bytes)));
      is = ((h.from, (h.to, (h.target, (h.exc_type, h.var_name)))), (from.bytes, _, refl, from.is, (to.bytes, _, refl, to.is, (target.bytes, _, refl, target.is, (e.bytes, n.bytes, refl, e.is, n.is)))), refl);
    }

-- ---- a body

-- what is asked of a body beside its method
pub record FitsRest (v : Sizes) (b : Body) : Type 0 where
  pub sizes : HasSizes b
  pub ready : IsReadyBody b
  pub handler_count : length b.handlers < 2 ^ 30
  pub handlers : All (HasNames v) b.handlers
  pub traits : FitTraits v b.traits

rest_in : (v : Sizes) (q : Part ℕ) (y : Body × List ℕ) → Spelled (body_with v q) y → Spelled q y.0.method × FitsRest v y.0
unfolding FitTraits FitsNumber body_with
rest_in v q y s =
    let x = s.is.0 in
    let method = s.is.1 in
    let stack = method.4 in
    let locals = stack.4 in
    let init = locals.4 in
    let scope = init.4 in
    let instrs = scope.4 in
    let caught = instrs.4 in
    let c = x.1.1.1.1.1.0 in
    let listed = (counted_spelled (handler v c.offsets) x.1.1.1.1.1.1.0).0 (record { bytes = caught.0; is = caught.3 }) in
    let within : All (IsHandlerWithin (length c.instrs)) x.1.1.1.1.1.1.0 = λ k d lt. let h = listed.1 k d lt in handler_within v c.offsets (length c.instrs) (code_count c instrs.0 instrs.3) _ h.bytes h.is in
    let rest : Spelled q x.0 × FitsRest v _ = (
      record { bytes = method.0; is = method.3 },
      record {
        sizes = record {
          max_stack = record { bytes = stack.0; is = stack.3 };
          local_count = record { bytes = locals.0; is = locals.3 };
          init_scope = record { bytes = init.0; is = init.3 };
          max_scope = record { bytes = scope.0; is = scope.3 };
        };
        ready = record { code = code_ready c instrs.0 instrs.3; places = within };
        handler_count = listed.0;
        handlers = λ k d lt. names_in v c.offsets _ (listed.1 k d lt);
        traits = record { bytes = caught.1; is = caught.4 };
      },
    ) in
    subst (λ (z : Body × List ℕ). Spelled q z.0.method × FitsRest v z.0) (sym s.is.2) rest

rest_from : (v : Sizes) (q : Part ℕ) (b : Body) → Spelled q b.method → FitsRest v b → Spelled (body_with v q) (b, canonical_starts b.code)
unfolding FitTraits FitsNumber body_with
rest_from v q b m r =
    let z = r.sizes in
    let starts = canonical_starts b.code in
    let c : Code = record { instrs = b.code; offsets = starts } in
    let each : All (Spelled (handler v starts)) b.handlers = λ k d lt. handler_from v b.code _ r.ready.code (r.ready.places k d lt) (r.handlers k d lt) in
    let caught = (counted_spelled (handler v starts) b.handlers).1 (r.handler_count, each) in
    let t = r.traits in
    record {
      bytes = m.bytes ++ (z.max_stack.bytes ++ (z.local_count.bytes ++ (z.init_scope.bytes ++ (z.max_scope.bytes ++ (code_bytes b.code ++ (caught.bytes ++ t.bytes))))));
      is = (
        (b.method, (b.max_stack, (b.local_count, (b.init_scope, (b.max_scope, (c, (b.handlers, b.traits))))))),
        (
          m.bytes,
          _,
          refl,
          m.is,
          (
            z.max_stack.bytes,
            _,
            refl,
            z.max_stack.is,
            (
              z.local_count.bytes,
              _,
              refl,
              z.local_count.is,
              (
                z.init_scope.bytes,
                _,
                refl,
                z.init_scope.is,
                (
                  z.max_scope.bytes,
                  _,
                  refl,
                  z.max_scope.is,
                  (code_bytes b.code, _, refl, code_again b.code r.ready.code, (caught.bytes, t.bytes, refl, caught.is, t.is)),
                ),
              ),
            ),
          ),
        ),
        refl,
      );
    }

pub body_fits : (v : Sizes) (b : Body) → FitsBody v b ↔ (IsPosition v.methods b.method × HasSizes b × IsReadyBody b × (length b.handlers < 2 ^ 30) × All (HasNames v) b.handlers × FitTraits v b.traits)
unfolding FitsBody IsPosition
body_fits v b = (
  λ s. let r = rest_in v (index_below v.methods) (b, canonical_starts b.code) s in (r.0, r.1.sizes, r.1.ready, r.1.handler_count, r.1.handlers, r.1.traits),
  λ h. rest_from v (index_below v.methods) b h.0 (record { sizes = h.1; ready = h.2; handler_count = h.3; handlers = h.4; traits = h.5 }),
)

-- ---- bodies of different methods

abbrev Read : Type 0
Read = Body × List ℕ

abbrev next : Sizes → List Read → Part Read
next v before = body v (methods_of before)

-- with the starts of its instructions in canonical code
abbrev anew : Body → Read
anew b = (b, canonical_starts b.code)

abbrev Apart : Read → Read → Type 0
Apart x y = Differ x.0 y.0

equal : (m : ℕ) → nat_eq m m ≡ true
equal m = grind (arith, nat_tests)

not_true : (t : Bool) → not t ≡ true → t ≡ true → ⊥
not_true true e f = absurd cc
not_true false e f = absurd cc

untaken : (m : ℕ) (reads : List Read) → not (list_any (nat_eq m) (methods_of reads)) ≡ true → All (λ y. y.0.method ≢ m) reads
untaken m reads e = λ k d lt same.
    let at : get_or (methods_of reads) k 0 ≡ m = get_or-map (λ (x : Read). x.0.method) reads k d 0 lt ∙ same in
    let test : nat_eq m (get_or (methods_of reads) k 0) ≡ true = rw at (equal m) in
    not_true (list_any (nat_eq m) (methods_of reads)) e (list_any_at (nat_eq m) (methods_of reads) k 0 (omega (arith, length-map reads (λ (x : Read). x.0.method))) test)

absent : (m : ℕ) (ms : List ℕ) → All (λ n. n ≢ m) ms → not (list_any (nat_eq m) ms) ≡ true
absent m ms all =
    let none : list_any (nat_eq m) ms ≡ false = list_any_none (nat_eq m) ms (λ k d lt. let n = all k d lt in grind (arith, nat_tests)) in
    rw none refl

method_in : (v : Sizes) (taken : List ℕ) (y : Read) → Spelled (body v taken) y → FitsBody v y.0 × (not (list_any (nat_eq y.0.method) taken) ≡ true)
unfolding IsPosition body body_method
method_in v taken y s =
    let r = rest_in v (body_method v taken) y s in
    let method = r.0.is in
    ((body_fits v y.0).1 (record { bytes = r.0.bytes; is = method.0 }, r.1.sizes, r.1.ready, r.1.handler_count, r.1.handlers, r.1.traits), method.1)

method_from : (v : Sizes) (taken : List ℕ) (b : Body) → FitsBody v b → not (list_any (nat_eq b.method) taken) ≡ true → Spelled (body v taken) (anew b)
unfolding IsPosition body body_method
method_from v taken b f e =
    let h = (body_fits v b).0 f in
    rest_from v (body_method v taken) b (record { bytes = h.0.bytes; is = (h.0.is, e) }) (record { sizes = h.1; ready = h.2; handler_count = h.3; handlers = h.4; traits = h.5 })

follow_in : (v : Sizes) (before rest : List Read) → Follow (next v) before rest → AllPairs Apart before → All (λ y. FitsBody v y.0) rest × AllPairs Apart (before ++ rest)
follow_in v before [] f pairs = (All-nil (λ y. FitsBody v y.0), subst (AllPairs Apart) (sym (append-nil before)) pairs)
follow_in v before (x ∷ rest) f pairs =
    let m = method_in v (methods_of before) x f.0 in
    let more = follow_in v (before ++ x ∷ []) rest f.1 (all_pairs_push Apart before x pairs (untaken x.0.method before m.1)) in
    (All-cons (λ y. FitsBody v y.0) x rest m.0 more.0, subst (AllPairs Apart) (append_assoc before (x ∷ []) rest) more.1)

methods_anew : (bs : List Body) → methods_of (map anew bs) ≡ map (λ b. b.method) bs
methods_anew bs = simp map-map

follow_from : (v : Sizes) (before rest : List Body) → All (FitsBody v) rest → AllPairs Differ (before ++ rest) → Follow (next v) (map anew before) (map anew rest)
follow_from v before [] all pairs = tt
follow_from v before (x ∷ rest) all pairs =
    let others : All (λ y. y.method ≢ x.method) before = pairs_before Differ before x rest pairs in
    let taken : All (λ n. n ≢ x.method) (methods_of (map anew before)) = subst (All (λ n. n ≢ x.method)) (sym (methods_anew before)) (All-map (λ n. n ≢ x.method) (λ (b : Body). b.method) before others) in
    let one = method_from v (methods_of (map anew before)) x (All-head (FitsBody v) x rest all) (absent x.method (methods_of (map anew before)) taken) in
    let more = follow_from v (before ++ x ∷ []) rest (All-tail (FitsBody v) x rest all) (subst (AllPairs Differ) (sym (append_assoc before (x ∷ []) rest)) pairs) in
    (one, subst (λ (l : List Read). Follow (next v) l (map anew rest)) (map-append anew before (x ∷ [])) more)

-- ---- all bodies

abbrev BodiesFit : Sizes → List Body → Type 0
BodiesFit v bs = (length bs < 2 ^ 30) × All (FitsBody v) bs × AllPairs Differ bs

list_in : (v : Sizes) (xs : List Read) → Spelled (body_list v) xs → BodiesFit v (map (λ x. x.0) xs)
unfolding FitsNumber body_list
list_in v xs s =
    let x = s.is.0 in
    let t = s.is.1 in
    let c = chained x.0 (next v) [] x.1 t.1 t.4 in
    let few : x.0 < 2 ^ 30 = (number_fits x.0).0 (record { bytes = t.0; is = t.3 }) in
    let is : xs ≡ c.rest = s.is.2 ∙ c.is in
    let f = follow_in v [] c.rest c.follow (λ i j d lt len. absurd (omega arith)) in
    let fits : BodiesFit v (map (λ (y : Read). y.0) c.rest) = (omega (arith, c.count, few, length-map c.rest (λ (y : Read). y.0)), All-map (FitsBody v) (λ (y : Read). y.0) c.rest f.0, pairs_map Differ (λ (y : Read). y.0) c.rest f.1) in
    subst (λ (l : List Read). BodiesFit v (map (λ (y : Read). y.0) l)) (sym is) fits

list_from : (v : Sizes) (bs : List Body) → BodiesFit v bs → Spelled (body_list v) (map anew bs)
unfolding FitsNumber body_list
list_from v bs h =
    let len : length (map anew bs) ≡ length bs = length-map bs anew in
    let count = (number_fits (length (map anew bs))).1 (omega (arith, h.0, len)) in
    let all = chain_spelled (next v) [] (map anew bs) (follow_from v [] bs h.1 h.2) in
    record { bytes = count.bytes ++ all.bytes; is = ((length (map anew bs), map anew bs), (count.bytes, all.bytes, refl, count.is, all.is), refl) }

bodies_again : (bs : List Body) → map (λ (x : Read). x.0) (map anew bs) ≡ bs
bodies_again [] = refl
bodies_again (b ∷ bs) = ap (λ (l : List Body). b ∷ l) (bodies_again bs)

pub bodies_fit : (v : Abc) → FitBodies v ↔ ((length v.bodies < 2 ^ 30) × All (FitsBody (sizes_of v)) v.bodies × AllPairs Differ v.bodies)
unfolding FitBodies bodies_alone bodies
bodies_fit v = (
  λ s.
      let t = s.is.1 in
      let same : v.bodies ≡ map (λ (x : Read). x.0) t.0 = ap (λ (w : Abc). w.bodies) s.is.2 ∙ ap (λ (w : Abc × List (List ℕ)). (w.0).bodies) t.2 in
      subst (BodiesFit (sizes_of v)) (sym same) (list_in (sizes_of v) t.0 (record { bytes = s.bytes; is = t.1 })),
  λ h.
      let l = list_from (sizes_of v) v.bodies h in
      let same : v ≡ record v { bodies = map (λ (x : Read). x.0) (map anew v.bodies) } = ap (λ (bs : List Body). let w : Abc = record v { bodies = bs } in w) (sym (bodies_again v.bodies)) in
      record { bytes = l.bytes; is = ((record v { bodies = map (λ (x : Read). x.0) (map anew v.bodies) }, map (λ (x : Read). x.1) (map anew v.bodies)), (map anew v.bodies, l.is, refl), same) },
)

-- each method is in its table
pub methods_below : (v : Sizes) (bs : List Body) → All (FitsBody v) bs → All (λ b. b.method < v.methods) bs
methods_below v bs all = λ k d lt. ((position_fits v.methods (get_or bs k d).method).0 ((body_fits v (get_or bs k d)).0 (all k d lt)).0).0

-- bodies that are spelled, one by one
pub bodies_in : (v : Abc) (s : Sizes) (bs : List Body) → s ≡ sizes_of v → bs ≡ v.bodies → FitBodies v → All (FitsBody s) bs
bodies_in v s bs e f fit = rw (e, f) ((bodies_fit v).0 fit).1
