-- What is known of bodies that some bytes spell.
use Rattle.std.proofs.Common.{◌≡◌, ℕ, zero, suc, List, [], ◌∷◌, ◌++◌, length, map, sym, ap, subst, ◌∙◌, arith}
use Rattle.std.specs.List.{All}
use Rattle.std.proofs.lemmas.List.Elements.{All-cons, All-map, All-nil, All-push, All-same}
use Rattle.abc_file_types.specs.Lists.{chain, count_and_items, times}
use Rattle.abc_file_types.specs.Part.{Part}
use Rattle.abc_file_types.specs.declared.code.Body.{Body}
use Rattle.abc_file_types.specs.declared.code.Handler.{Handler}
use Rattle.abc_file_types.specs.declared.instructions.Code.{Code}
use Rattle.abc_file_types.specs.declared.tables.Abc.{Abc}
use Rattle.abc_file_types.specs.declared.tables.Sizes.{Sizes}
use Rattle.abc_file_types.specs.Bodies.{IsReadyBody, IsHandlerWithin, bodies, bodies_alone, body, body_list, body_with, handler, methods_of}
use Rattle.abc_file_types.specs.Classes.{sizes_of}
use Rattle.abc_file_types.specs.Code.{code}
use Rattle.abc_file_types.proofs.BodiesShortest.{code_nearer, code_ready, place_is}
use Rattle.abc_file_types.proofs.Lengths.{canonical_count}

-- ---- lists

times_all : {A : Type 0} (P : A → Type 0) (n : ℕ) (p : Part A) → ((x : A) (b : List ℕ) → p.spells x b → P x) → (xs : List A) (b : List ℕ) → (times n p).spells xs b → All P xs
times_all P zero p each xs b s = All-same P xs [] s.0 (All-nil P)
times_all P (suc n) p each xs b s =
    All-same P xs (s.0.0 ∷ s.0.1) s.2 (All-cons P s.0.0 s.0.1 (each s.0.0 s.1.0 s.1.3) (times_all P n p each s.0.1 s.1.1 s.1.4))

counted_all : {A : Type 0} (P : A → Type 0) (p : Part A) → ((x : A) (b : List ℕ) → p.spells x b → P x) → (xs : List A) (b : List ℕ) → (count_and_items p).spells xs b → All P xs
unfolding count_and_items
counted_all P p each xs b s = All-same P xs s.0.1 s.2 (times_all P s.0.0 p each s.0.1 s.1.1 s.1.4)

chain_all : {A : Type 0} (P : A → Type 0) (n : ℕ) (p : List A → Part A) → ((before : List A) (x : A) (b : List ℕ) → (p before).spells x b → P x) → (before xs : List A) (b : List ℕ) → (chain n p before).spells xs b → All P before → All P xs
chain_all P zero p each before xs b s all = All-same P xs before s.0 all
chain_all P (suc n) p each before xs b s all =
    All-same P xs s.0.1 s.2 (chain_all P n p each (before ++ s.0.0 ∷ []) s.0.1 s.1.1 s.1.4 (All-push P before s.0.0 all (each before s.0.0 s.1.0 s.1.3)))

-- ---- bodies

pub handler_within : (v : Sizes) (ss : List ℕ) (n : ℕ) → length ss ≡ suc n → (h : Handler) (b : List ℕ) → (handler v ss).spells h b → IsHandlerWithin n h
unfolding handler
handler_within v ss n count h b s =
    let x = s.0 in
    let t = s.1 in
    let from = place_is ss x.0 t.0 t.3 in
    let to = place_is ss x.1.0 t.4.0 t.4.3 in
    let target = place_is ss x.1.1.0 t.4.4.0 t.4.4.3 in
    subst (IsHandlerWithin n) (sym s.2) (record { from = omega (arith, from.within); to = omega (arith, to.within); target = omega (arith, target.within) })

pub code_count : (c : Code) (b : List ℕ) → code.spells c b → length c.offsets ≡ suc (length c.instrs)
code_count c b s = sym (code_nearer c b s).count ∙ canonical_count c.instrs

body_ready : (v : Sizes) (taken : List ℕ) (y : Body × List ℕ) (b : List ℕ) → (body v taken).spells y b → IsReadyBody y.0
unfolding body body_with
body_ready v taken y b s =
    let x = s.0 in
    let c = x.1.1.1.1.1.0 in
    let t = s.1.4.4.4.4.4 in
    let ready : IsReadyBody _ = record {
      code = code_ready c t.0 t.3;
      places = counted_all (IsHandlerWithin (length c.instrs)) (handler v c.offsets) (handler_within v c.offsets (length c.instrs) (code_count c t.0 t.3)) x.1.1.1.1.1.1.0 t.4.0 t.4.3;
    } in
    subst (λ (z : Body × List ℕ). IsReadyBody z.0) (sym s.2) ready

-- what some bytes spell can be put
pub bodies_ready : (abc v : Abc) (b : List ℕ) → (bodies_alone abc).spells v b → All IsReadyBody v.bodies
unfolding bodies_alone bodies body_list
bodies_ready abc v b s =
    let c = s.1 in
    let xs = c.0 in
    let d = c.1 in
    let Is : Body × List ℕ → Type 0 = λ y. IsReadyBody y.0 in
    let all : All Is d.0.1 = chain_all Is d.0.0 (λ before. body (sizes_of abc) (methods_of before)) (λ before. body_ready (sizes_of abc) (methods_of before)) [] d.0.1 d.1.1 d.1.4 (All-nil Is) in
    let listed : All IsReadyBody (map (λ x. x.0) xs) = All-map IsReadyBody (λ x. x.0) xs (All-same Is xs d.0.1 d.2 all) in
    All-same IsReadyBody v.bodies (map (λ x. x.0) xs) (ap (λ (w : Abc). w.bodies) s.2 ∙ ap (λ (w : Abc × List (List ℕ)). (w.0).bodies) c.2) listed
