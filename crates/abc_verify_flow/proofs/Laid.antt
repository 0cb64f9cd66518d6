-- States whose values lie one behind the other.
use Rattle.std.proofs.Common.{◌≡◌, ◌≢◌, ℕ, zero, suc, ◌+◌, ◌≤◌, ◌<◌, List, [], ◌∷◌, ◌++◌, Some, length, set, refl, sym, ap, ◌∙◌, subst, arith, inl, inr}
use Rattle.std.specs.Prelude.{slice_get}
use Rattle.std.proofs.lemmas.List.{length-map, map-append}
use Rattle.std.proofs.lemmas.Bool.{cases_lt}
use Rattle.abc_link_names.specs.declared.types.Kind.{Kind}
use Rattle.abc_verify_typing.specs.declared.state.Scope.{Scope}
use Rattle.abc_verify_typing.specs.declared.state.State.{State}
use Rattle.abc_verify_flow.proofs.Cut.{joined_cut, length-cut}
use Rattle.abc_verify_flow.proofs.Parts.{added_length, got_inside, got_last, got_map, longer_length, map_but, map_same, over_length, part_before, part_behind, part_last, part_longer, part_put}
use Rattle.abc_verify_flow.specs.Blocks.{blocks_of_64}
use Rattle.abc_verify_flow.specs.Kept.{LieApart, AreStatesLaid, HasLengths, IsHeadBehind, IsLonger, IsSpan, concat_blocks, over, part, state_of, states_of}
use Rattle.abc_verify_flow.specs.declared.kept.Head.{Head}
use Rattle.abc_verify_flow.specs.declared.span.Span.{Span}

-- ---- the values of states lie one behind the other

apart_more : (span : Head → Span) (hs : List Head) (m n : ℕ) → LieApart span hs m → m ≤ n → LieApart span hs n
apart_more span hs m n h le = record { inside = λ i k e. let z = h.inside i k e in omega (arith, z, le); apart = h.apart }

apart_pushed : (span : Head → Span) (hs : List Head) (h : Head) (m c n : ℕ) → LieApart span hs m → IsSpan m c (span h) → n ≡ m + c → LieApart span (hs ++ h ∷ []) n
apart_pushed span hs h m c n old is e = record { inside = inside; apart = apart }
  where
    inside : (i : ℕ) (k : Head) → slice_get (hs ++ h ∷ []) i ≡ Some k → (span k).first + (span k).count ≤ n
    inside i k g = elim (got_last hs h i k g) [
      | inl a ↦ (let z = old.inside i k a in omega (arith, z, e))
      | inr a ↦ subst (λ (x : Head). (span x).first + (span x).count ≤ n) a.1 (let f = is.first in let q = is.count in omega (arith, f, q, e))
    ]

    apart : (i j : ℕ) (k l : Head) → i < j → slice_get (hs ++ h ∷ []) i ≡ Some k → slice_get (hs ++ h ∷ []) j ≡ Some l → (span k).first + (span k).count ≤ (span l).first
    apart i j k l lt f g = elim (got_last hs h i k f) [
      | inl a ↦ elim (got_last hs h j l g) [
        | inl b ↦ old.apart i j k l lt a b
        | inr b ↦ subst (λ (x : Head). (span k).first + (span k).count ≤ (span x).first) b.1 (let z = old.inside i k a in let q = is.first in omega (arith, z, q))
      ]
      | inr a ↦ absurd (elim (got_last hs h j l g) [
        | inl b ↦ (let z = got_inside hs j l b in let q = a.0 in omega (arith, z, q, lt))
        | inr b ↦ (let z = b.0 in let q = a.0 in omega (arith, z, q, lt))
      ])
    ]

-- what is put in place of the values of one state leaves those of another
part_kept : {X : Type 0} (span : Head → Span) (hs : List Head) (i j : ℕ) (h k : Head) (xs ys zs : List X) → LieApart span hs (length xs) → slice_get hs i ≡ Some h → j ≢ i → slice_get hs j ≡ Some k → zs ≡ over (span h) xs ys → length ys ≡ (span h).count → part (span k) zs ≡ part (span k) xs
part_kept span hs i j h k xs ys zs laid e ne f is c =
    let inside = laid.inside i h e in
    ap (part (span k)) is
    ∙ elim (cases_lt j i) [
      | inl lt ↦ part_before (span h) (span k) xs ys (laid.apart j i k h lt f e) (omega (arith, inside))
      | inr le ↦ part_behind (span h) (span k) xs ys (laid.apart i j h k (near i j le ne) e f) (omega (arith, inside)) c
    ]
  where
    near : (m n : ℕ) → m ≤ n → n ≢ m → m < n
    near zero zero le q = absurd (q refl)
    near zero (suc n) le q = omega arith
    near (suc m) zero le q = absurd (omega arith)
    near (suc m) (suc n) le q = let z = near m n (omega arith) (λ r. q (ap suc r)) in omega arith

-- ---- states

abbrev made : List Kind → List Scope → List Kind → State
made operands scopes locals = record { stack = operands; scopes = scopes; locals = locals }

state_is : (h : Head) (os : List Kind) (ss : List Scope) (ls : List (List Kind)) (s : State) → part h.operands os ≡ s.stack → part h.scopes ss ≡ s.scopes → concat_blocks (part h.locals ls) ≡ s.locals → state_of os ss ls h ≡ s
state_is h os ss ls s p q r =
    ap (λ (x : List Kind). made x (part h.scopes ss) (concat_blocks (part h.locals ls))) p
    ∙ ap (λ (x : List Scope). made s.stack x (concat_blocks (part h.locals ls))) q
    ∙ ap (λ (x : List Kind). made s.stack s.scopes x) r

pub head_along : (a b c m n k : ℕ) (s : State) (h : Head) → IsHeadBehind a b c s h → a ≡ m → b ≡ n → c ≡ k → IsHeadBehind m n k s h
head_along a b c m n k s h is p q r = subst (λ (x : ℕ). IsHeadBehind x n k s h) p (subst (λ (x : ℕ). IsHeadBehind a x k s h) q (subst (λ (x : ℕ). IsHeadBehind a b x s h) r is))

-- where the blocks of a state lie that comes behind all others
blocks_span : (l : ℕ) (h : Head) (locals : List Kind) → h.locals.first ≡ l → IsSpan l (length (blocks_of_64 h.locals.count locals)) h.locals
blocks_span l h locals e = record { first = e; count = sym (length-cut h.locals.count locals) }

module _ (hs : List Head) (os ps : List Kind) (ss ts : List Scope) (ls ms : List (List Kind)) where
  pub longer_states : AreStatesLaid hs (length os) (length ss) (length ls) → IsLonger os ps → IsLonger ss ts → IsLonger ls ms → states_of ps ts ms hs ≡ states_of os ss ls hs
  longer_states laid p q r = map_same (state_of ps ts ms) (state_of os ss ls) hs (λ i h e. state_is h ps ts ms (state_of os ss ls h) (part_longer h.operands os ps p (laid.operands.inside i h e)) (part_longer h.scopes ss ts q (laid.scopes.inside i h e)) (ap concat_blocks (part_longer h.locals ls ms r (laid.locals.inside i h e))))

  pub longer_laid : AreStatesLaid hs (length os) (length ss) (length ls) → IsLonger os ps → IsLonger ss ts → IsLonger ls ms → AreStatesLaid hs (length ps) (length ts) (length ms)
  longer_laid laid p q r = record {
    operands = apart_more (λ h. h.operands) hs (length os) (length ps) laid.operands (longer_length os ps p);
    scopes = apart_more (λ h. h.scopes) hs (length ss) (length ts) laid.scopes (longer_length ss ts q);
    locals = apart_more (λ h. h.locals) hs (length ls) (length ms) laid.locals (longer_length ls ms r);
  }

  pub pushed_states : (h : Head) (s : State) → AreStatesLaid hs (length os) (length ss) (length ls) → IsHeadBehind (length os) (length ss) (length ls) s h → ps ≡ os ++ s.stack → ts ≡ ss ++ s.scopes → ms ≡ ls ++ blocks_of_64 h.locals.count s.locals → states_of ps ts ms (hs ++ h ∷ []) ≡ states_of os ss ls hs ++ s ∷ []
  pushed_states h s laid is p q r =
      map-append (state_of ps ts ms) hs (h ∷ [])
      ∙ ap (λ (xs : List State). xs ++ state_of ps ts ms h ∷ []) (longer_states laid (s.stack, p) (s.scopes, q) (blocks_of_64 h.locals.count s.locals, r))
      ∙ ap (λ (x : State). states_of os ss ls hs ++ x ∷ []) (state_is h ps ts ms s (part_last h.operands os s.stack ps is.operands p) (part_last h.scopes ss s.scopes ts is.scopes q) (ap concat_blocks (part_last h.locals ls (blocks_of_64 h.locals.count s.locals) ms (blocks_span (length ls) h s.locals is.first) r) ∙ joined_cut h.locals.count s.locals is.all))

  pub pushed_laid : (h : Head) (s : State) → AreStatesLaid hs (length os) (length ss) (length ls) → IsHeadBehind (length os) (length ss) (length ls) s h → ps ≡ os ++ s.stack → ts ≡ ss ++ s.scopes → ms ≡ ls ++ blocks_of_64 h.locals.count s.locals → AreStatesLaid (hs ++ h ∷ []) (length ps) (length ts) (length ms)
  pushed_laid h s laid is p q r = record {
    operands = apart_pushed (λ k. k.operands) hs h (length os) (length s.stack) (length ps) laid.operands is.operands (added_length os s.stack ps p);
    scopes = apart_pushed (λ k. k.scopes) hs h (length ss) (length s.scopes) (length ts) laid.scopes is.scopes (added_length ss s.scopes ts q);
    locals = apart_pushed (λ k. k.locals) hs h (length ls) (length (blocks_of_64 h.locals.count s.locals)) (length ms) laid.locals (blocks_span (length ls) h s.locals is.first) (added_length ls (blocks_of_64 h.locals.count s.locals) ms r);
  }

  pub put_states : (i : ℕ) (h : Head) (s : State) → AreStatesLaid hs (length os) (length ss) (length ls) → slice_get hs i ≡ Some h → HasLengths h s → ps ≡ over h.operands os s.stack → ts ≡ over h.scopes ss s.scopes → ms ≡ over h.locals ls (blocks_of_64 h.locals.count s.locals) → states_of ps ts ms hs ≡ set (states_of os ss ls hs) i s
  put_states i h s laid e fits p q r = map_but (state_of os ss ls) (state_of ps ts ms) hs i s (got_inside hs i h e) here other
    where
      here : (k : Head) → slice_get hs i ≡ Some k → state_of ps ts ms k ≡ s
      here k f =
          let z : Some h ≡ Some k = sym e ∙ f in
          let same : h ≡ k = cc in
          subst (λ (x : Head). state_of ps ts ms x ≡ s) same (state_is h ps ts ms s (part_put h.operands os s.stack ps p (laid.operands.inside i h e) fits.operands) (part_put h.scopes ss s.scopes ts q (laid.scopes.inside i h e) fits.scopes) (ap concat_blocks (part_put h.locals ls (blocks_of_64 h.locals.count s.locals) ms r (laid.locals.inside i h e) (length-cut h.locals.count s.locals)) ∙ joined_cut h.locals.count s.locals fits.locals))

      other : (j : ℕ) (k : Head) → j ≢ i → slice_get hs j ≡ Some k → state_of ps ts ms k ≡ state_of os ss ls k
      other j k ne f = state_is k ps ts ms (state_of os ss ls k) (part_kept (λ x. x.operands) hs i j h k os s.stack ps laid.operands e ne f p fits.operands) (part_kept (λ x. x.scopes) hs i j h k ss s.scopes ts laid.scopes e ne f q fits.scopes) (ap concat_blocks (part_kept (λ x. x.locals) hs i j h k ls (blocks_of_64 h.locals.count s.locals) ms laid.locals e ne f r (length-cut h.locals.count s.locals)))

  pub put_laid : (i : ℕ) (h : Head) (s : State) → AreStatesLaid hs (length os) (length ss) (length ls) → slice_get hs i ≡ Some h → HasLengths h s → ps ≡ over h.operands os s.stack → ts ≡ over h.scopes ss s.scopes → ms ≡ over h.locals ls (blocks_of_64 h.locals.count s.locals) → AreStatesLaid hs (length ps) (length ts) (length ms)
  put_laid i h s laid e fits p q r =
      let a = over_length h.operands os s.stack ps p (laid.operands.inside i h e) fits.operands in
      let b = over_length h.scopes ss s.scopes ts q (laid.scopes.inside i h e) fits.scopes in
      let c = over_length h.locals ls (blocks_of_64 h.locals.count s.locals) ms r (laid.locals.inside i h e) (length-cut h.locals.count s.locals) in
      record {
        operands = apart_more (λ k. k.operands) hs (length os) (length ps) laid.operands (omega (arith, a));
        scopes = apart_more (λ k. k.scopes) hs (length ss) (length ts) laid.scopes (omega (arith, b));
        locals = apart_more (λ k. k.locals) hs (length ls) (length ms) laid.locals (omega (arith, c));
      }

-- only locals changed, and as many blocks are there
pub put_length : (hs : List Head) (os ps : List Kind) (ss ts : List Scope) (ls ms : List (List Kind)) → length (states_of ps ts ms hs) ≡ length (states_of os ss ls hs)
put_length hs os ps ss ts ls ms = length-map hs (state_of ps ts ms) ∙ sym (length-map hs (state_of os ss ls))

module _ (hs : List Head) (os : List Kind) (ss : List Scope) (ls : List (List Kind)) (a : List State) where
  -- where the values of a state lie is known, if the state is one of them
  pub head_inside : (i : ℕ) → states_of os ss ls hs ≡ a → i < length a → i < length hs
  head_inside i e lt = let z : length a ≡ length hs = ap (λ xs. length xs) (sym e) ∙ length-map hs (state_of os ss ls) in omega (arith, z, lt)

  -- a state is read
  pub state_here : (i : ℕ) (h : Head) (s : State) → states_of os ss ls hs ≡ a → slice_get hs i ≡ Some h → part h.operands os ≡ s.stack → part h.scopes ss ≡ s.scopes → concat_blocks (part h.locals ls) ≡ s.locals → slice_get a i ≡ Some s
  state_here i h s e f p q r = ap (λ (xs : List State). slice_get xs i) (sym e) ∙ got_map (state_of os ss ls) hs i h f ∙ ap (λ (x : State). Some x) (state_is h os ss ls s p q r)

pub none_laid : AreStatesLaid [] 0 0 0
none_laid = record { operands = none (λ h. h.operands); scopes = none (λ h. h.scopes); locals = none (λ h. h.locals) }
  where
    none : (span : Head → Span) → LieApart span [] 0
    none span = record { inside = λ i h e. absurd cc; apart = λ i j h k lt e f. absurd cc }
