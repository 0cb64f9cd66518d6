-- Arguments that stand in a list are coerced one after another.
use Rattle.std.proofs.Common.{◌≡◌, ℕ, suc, ◌+◌, ◌<◌, ◌≤◌, List, [], ◌∷◌, ◌++◌, length, drop, refl, sym, ap, ◌∙◌, subst, arith}
use Rattle.std.proofs.lemmas.List.{drop-append-le, drop-drop, drop_all, length_push}
use Rattle.std.specs.declared.option.Option.{Option}
use Rattle.abc_heap_values.specs.Filling.{Filling}
use Rattle.abc_heap_values.specs.declared.values.Value.{Value}
use Rattle.abc_run_calls.proofs.Coerced.{IsMadeBy, all_made, begins, first_open, goes_on, makes_on, stops_there}
use Rattle.abc_run_calls.specs.Arguments.{Makes, coerces_first, first_receiver}
use Rattle.abc_run_state.proofs.Keeping.{each_grown}
use Rattle.abc_meaning.specs.Entering.{coerced_arguments}
use Rattle.abc_run_state.specs.Outer.{Outer, setting_in, world}
use Rattle.abc_meaning.specs.Setting.{options_of}
use Rattle.abc_run_state.specs.Standing.{Stays}
use Rattle.abc_run_state.specs.declared.state.State.{State}
use Rattle.abc_run_state.specs.Stops.{IsOpen}
use Rattle.abc_meaning.specs.World.{Outcome, Stop, Stopped, Went, World}
use Rattle.abc_objects.proofs.Grown.{grows_self}
use Rattle.abc_objects.specs.Stands.{EachAt, StandsOver}
use Rattle.abc_objects.specs.Values.{Exists}
use Rattle.abc_link_names.specs.Linked.{LinkedFile}
use Rattle.abc_file_types.specs.declared.methods.Method.{Method}
use Rattle.abc_file_types.specs.declared.methods.OptionValue.{OptionValue}

module _ (l : LinkedFile) (out : Outer) (m : Method) (vs : List Value) where
  -- what all come to, from a state
  abbrev pub all_of : State → Outcome (List Value)
  all_of s = coerced_arguments (setting_in l out) m.params (options_of m) vs (world s out)

  -- what the next comes to, of a type
  abbrev pub next_of : (k ty : ℕ) → State → Outcome Value
  next_of k ty s = coerces_first (setting_in l out) ty (drop k (options_of m)) (drop k vs) (world s out)

  -- so many are made by now, behind the receiver
  pub record AreMade (k : ℕ) (old now : State) : Type 0 where
    pub made : IsMadeBy (setting_in l out) (all_of old) (drop k m.params) (drop k (options_of m)) (drop k vs) (world now out) (drop 1 now.given.items)
    pub makes : Makes l old now
    pub there : EachAt (Exists l now.arena) vs
    pub many : length now.given.items ≡ k + 1
    pub first : first_receiver now.given.items ≡ first_receiver old.given.items

  pub none_made : (s : State) → StandsOver l s.arena → EachAt (Exists l s.arena) vs → length s.given.items ≡ 1 → IsOpen (all_of s) → AreMade 0 s s
  none_made s over there alone h =
      let none : drop 1 s.given.items ≡ [] = drop_all 1 s.given.items (omega (arith, alone)) in
      record {
        made = subst (λ (xs : List Value). IsMadeBy (setting_in l out) (all_of s) m.params (options_of m) vs (world s out) xs) (sym none) (begins (setting_in l out) m.params (options_of m) vs (world s out) h);
        makes = record { over = over; grows = grows_self s.arena; frames = refl; started = refl; limit = refl };
        there = there;
        many = omega (arith, alone);
        first = refl;
      }

  -- the next parameter is of this type
  abbrev pub IsNext : (k ty : ℕ) → Type 0
  IsNext k ty = drop k m.params ≡ ty ∷ drop (suc k) m.params

  module _ (k ty : ℕ) (old now : State) (next : IsNext k ty) (a : AreMade k old now) where
    at_next : IsMadeBy (setting_in l out) (all_of old) (ty ∷ drop (suc k) m.params) (drop k (options_of m)) (drop k vs) (world now out) (drop 1 now.given.items)
    at_next = subst (λ (ts : List ℕ). IsMadeBy (setting_in l out) (all_of old) ts (drop k (options_of m)) (drop k vs) (world now out) (drop 1 now.given.items)) next a.made

    pub next_open : IsOpen (next_of k ty now)
    next_open = first_open (setting_in l out) (all_of old) ty (drop (suc k) m.params) (drop k (options_of m)) (drop k vs) (world now out) (drop 1 now.given.items) at_next

    pub next_stops : (n : World) (why : Stop) → next_of k ty now ≡ Stopped n why → all_of old ≡ Stopped n why
    next_stops n why e = stops_there (setting_in l out) (all_of old) ty (drop (suc k) m.params) (drop k (options_of m)) (drop k vs) (world now out) n why (drop 1 now.given.items) at_next e

    pub next_made : (mid : State) (given : Filling Value) (v : Value) → next_of k ty now ≡ Went (world mid out) v → Stays l now mid → given ≡ record { items = mid.given.items ++ v ∷ []; limit = mid.given.limit } → AreMade (k + 1) old (record mid { given = given })
    next_made mid given v e s is =
        let p = setting_in l out in
        let os = options_of m in
        let made = drop 1 now.given.items in
        let one : suc k ≡ k + 1 = omega arith in
        let some : 0 < length now.given.items = let many = a.many in omega (arith, many) in
        let items : given.items ≡ now.given.items ++ v ∷ [] = ap (λ (g : Filling Value). g.items) is ∙ ap (λ (g : Filling Value). g.items ++ v ∷ []) s.given in
        let more : drop 1 given.items ≡ made ++ v ∷ [] = ap (λ (xs : List Value). drop 1 xs) items ∙ drop-append-le 1 now.given.items (v ∷ []) (omega (arith, some)) in
        let g = goes_on p (all_of old) ty (drop (suc k) m.params) (drop k os) (drop k vs) (world now out) (world mid out) v made at_next e in
        let to = makes_on l old now mid a.makes s in
        record {
          made = subst (λ (xs : List Value). IsMadeBy p (all_of old) (drop (k + 1) m.params) (drop (k + 1) os) (drop (k + 1) vs) (world mid out) xs) (sym more)
              (subst (λ (xs : List Value). IsMadeBy p (all_of old) (drop (k + 1) m.params) (drop (k + 1) os) xs (world mid out) (made ++ v ∷ [])) (drop-drop 1 k vs)
              (subst (λ (xs : List (Option OptionValue)). IsMadeBy p (all_of old) (drop (k + 1) m.params) xs (drop 1 (drop k vs)) (world mid out) (made ++ v ∷ [])) (drop-drop 1 k os)
              (subst (λ (n : ℕ). IsMadeBy p (all_of old) (drop n m.params) (drop 1 (drop k os)) (drop 1 (drop k vs)) (world mid out) (made ++ v ∷ [])) one g)));
          makes = record { over = to.over; grows = to.grows; frames = to.frames; started = to.started; limit = ap (λ (g : Filling Value). g.limit) is ∙ to.limit };
          there = each_grown l now.arena mid.arena vs s.grows a.there;
          many = ap length items ∙ length_push now.given.items v ∙ ap (λ (n : ℕ). n + 1) a.many;
          first = ap first_receiver items ∙ first_kept now.given.items (v ∷ []) some ∙ a.first;
        }
      where
        first_kept : (xs ys : List Value) → 0 < length xs → first_receiver (xs ++ ys) ≡ first_receiver xs
        first_kept [] ys h = absurd (omega arith)
        first_kept (x ∷ xs) ys h = refl

  pub none_left : (k : ℕ) (old now : State) → length m.params ≤ k → AreMade k old now → all_of old ≡ Went (world now out) (drop 1 now.given.items)
  none_left k old now h a =
      let none : drop k m.params ≡ [] = drop_all k m.params h in
      let os = drop k (options_of m) in
      all_made (setting_in l out) (all_of old) os (drop k vs) (world now out) (drop 1 now.given.items) (subst (λ (ts : List ℕ). IsMadeBy (setting_in l out) (all_of old) ts os (drop k vs) (world now out) (drop 1 now.given.items)) none a.made)
