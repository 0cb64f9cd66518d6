-- What is read as moved is what is read, and then moved.
use Rattle.std.proofs.Common.{◌≡◌, ◌⊎◌, inl, inr, Bool, ℕ, zero, suc, List, [], ◌∷◌, ◌++◌, map, get_or, nat_eq, is_some, unwrap_or, if◌then◌else◌, Ok, Err, Some, None, refl, sym, ap}
use Rattle.std.specs.List.{flat_map, position}
use Rattle.std.specs.declared.option.Option.{Option}
use Rattle.std.specs.declared.result.Result.{Result}
use Rattle.std.proofs.lemmas.List.{length-map}
use Rattle.abc_file_types.specs.declared.reason.Reason.TheVariants as reasons
use Rattle.abc_file_types.specs.Canonical.{counted_bytes}
use Rattle.abc_file_types.specs.Lists.{count_and_items, times}
use Rattle.abc_file_types.specs.Numbers.{pool_index, u30}
use Rattle.abc_file_types.proofs.Exact.{ok_is}
use Rattle.abc_file_types.specs.Part.{At, Part, Refusal, both, image, refusal, ◌>>=◌}
use Rattle.abc_file_types.specs.declared.code.Handler.{Handler}
use Rattle.abc_file_types.specs.declared.tables.Sizes.{Sizes}
use Rattle.abc_file_types.specs.Bodies.{handler, handler_bytes}
use Rattle.abc_file_types.specs.Places.{instruction_place}
use Rattle.abc_instr.specs.Marks.{moved_at}
use Rattle.abc_bodies.specs.Moved.{moved_bytes, moved_handler, moved_place}

-- another value
abbrev pub valued : {A B : Type 0} → (A → B) → Result (A × At) Refusal → Result (B × At) Refusal
valued g r = r >>= λ x. Ok (g x.0, x.1)

-- and then a part
abbrev paired : {A B : Type 0} → Result (A × At) Refusal → Part B → Result ((A × B) × At) Refusal
paired r p = r >>= λ x. valued (λ y. (x.0, y)) (p.reads x.1)

-- and then so many of a part
abbrev listed : {A : Type 0} → Result (ℕ × At) Refusal → Part A → Result ((ℕ × List A) × At) Refusal
listed r p = r >>= λ n. valued (λ xs. (n.0, xs)) ((times n.0 p).reads n.1)

-- the other part reads what the first reads, as another value
abbrev pub Maps : {A B : Type 0} → (A → B) → Part A → Part B → Type 0
Maps g p q = (from : At) → q.reads from ≡ valued g (p.reads from)

again : {A : Type 0} (r : Result (A × At) Refusal) → r ≡ valued (λ x. x) r
again (Ok x) = refl
again (Err d) = refl

same : {A : Type 0} (p : Part A) → Maps (λ x. x) p p
same p from = again (p.reads from)

maps_image : {A B C D : Type 0} (g : A → B) (f : A → C) (k : B → D) (h : C → D) (p : Part A) (q : Part B) → Maps g p q → ((x : A) → k (g x) ≡ h (f x)) → Maps h (image f p) (image k q)
maps_image {A = A} {D = D} g f k h p q m e from = rw (m from) (step (p.reads from)) where
  step : (r : Result (A × At) Refusal) → valued k (valued g r) ≡ valued h (valued f r)
  step (Ok x) = ap (λ (d : D). Ok (d, x.1)) (e x.0)
  step (Err d) = refl

maps_both : {A B C D : Type 0} (g : A → B) (h : C → D) (p : Part A) (q : Part B) (s : Part C) (t : Part D) → Maps g p q → Maps h s t → Maps (λ x. (g x.0, h x.1)) (both p s) (both q t)
maps_both {A = A} {B = B} {C = C} {D = D} g h p q s t m n from = rw (m from) (first (p.reads from)) where
  second : (x : A) (r : Result (C × At) Refusal) → valued {B = B × D} (λ d. (g x, d)) (valued h r) ≡ valued {A = A × C} {B = B × D} (λ z. (g z.0, h z.1)) (valued {B = A × C} (λ c. (x, c)) r)
  second x (Ok y) = refl
  second x (Err d) = refl

  first : (r : Result (A × At) Refusal) → paired (valued g r) t ≡ valued {A = A × C} {B = B × D} (λ z. (g z.0, h z.1)) (paired r s)
  first (Ok x) = rw (n x.1) (second x.0 (s.reads x.1))
  first (Err d) = refl

maps_times : {A B : Type 0} (n : ℕ) (g : A → B) (p : Part A) (q : Part B) → Maps g p q → Maps (map g) (times n p) (times n q)
maps_times zero g p q m from = refl
maps_times (suc n) g p q m from =
    maps_image (λ x. (g x.0, map g x.1)) (λ x. x.0 ∷ x.1) (λ x. x.0 ∷ x.1) (map g) (both p (times n p)) (both q (times n q)) (maps_both g (map g) p q (times n p) (times n q) m (maps_times n g p q m)) (λ x. refl) from

pub maps_counted : {A B : Type 0} (g : A → B) (p : Part A) (q : Part B) → Maps g p q → Maps (map g) (count_and_items p) (count_and_items q)
unfolding count_and_items
maps_counted {A = A} {B = B} g p q m from = step (u30.reads from) where
  one : (n : ℕ) (r : Result (List A × At) Refusal) → valued (λ (x : ℕ × List B). x.1) (valued {B = ℕ × List B} (λ ys. (n, ys)) (valued (map g) r)) ≡ valued (map g) (valued (λ (x : ℕ × List A). x.1) (valued {B = ℕ × List A} (λ xs. (n, xs)) r))
  one n (Ok x) = refl
  one n (Err d) = refl

  step : (r : Result (ℕ × At) Refusal) → valued (λ (x : ℕ × List B). x.1) (listed r q) ≡ valued (map g) (valued (λ (x : ℕ × List A). x.1) (listed r p))
  step (Ok n) = rw (maps_times n.0 g p q m n.1) (one n.0 ((times n.0 p).reads n.1))
  step (Err d) = refl

-- ---- exceptions

abbrev tested : Bool → ℕ × At → Refusal → Result (ℕ × At) Refusal
tested b x d = if b then Ok x else Err d

some_or_none : (o : Option ℕ) → ((k : ℕ) × (o ≡ Some k)) ⊎ (o ≡ None)
some_or_none (Some k) = inl (k, refl)
some_or_none None = inr refl

module _ (os ms : List ℕ) where
  abbrev moved_to : ℕ → ℕ
  moved_to k = get_or ms k 0

  place_moves : Maps moved_to (instruction_place os) (moved_place (moved_at os ms))
  unfolding instruction_place moved_place
  place_moves from = step (u30.reads from) where
    step : (r : Result (ℕ × At) Refusal)
        → valued (λ x. unwrap_or (moved_at os ms x) 0) (r >>= λ x. tested (is_some (moved_at os ms x.0)) x (refusal from.place reasons.HandlerRange))
        ≡ valued moved_to (valued (λ x. unwrap_or (position (λ s. nat_eq s x) os) 0) (r >>= λ x. tested (is_some (position (λ s. nat_eq s x.0) os)) x (refusal from.place reasons.HandlerRange)))
    step (Ok x) = elim (some_or_none (position (λ s. nat_eq s x.0) os)) [
      | inl k ↦ rw k.1 (rw k.1 refl)
      | inr none ↦ rw none refl
    ]
    step (Err d) = refl

  abbrev pub move : Handler → Handler
  move h = record { from = moved_to h.from; to = moved_to h.to; target = moved_to h.target; exc_type = h.exc_type; var_name = h.var_name }

  handler_moves : (v : Sizes) → Maps move (handler v os) (moved_handler v (moved_at os ms))
  unfolding handler moved_handler
  handler_moves v =
      let names = pool_index v.names in
      let place = instruction_place os in
      let moved = moved_place (moved_at os ms) in
      let same_names : ℕ × ℕ → ℕ × ℕ = λ x. (x.0, x.1) in
      let third : ℕ × (ℕ × ℕ) → ℕ × (ℕ × ℕ) = λ x. (moved_to x.0, same_names x.1) in
      let second : ℕ × (ℕ × (ℕ × ℕ)) → ℕ × (ℕ × (ℕ × ℕ)) = λ x. (moved_to x.0, third x.1) in
      let first : ℕ × (ℕ × (ℕ × (ℕ × ℕ))) → ℕ × (ℕ × (ℕ × (ℕ × ℕ))) = λ x. (moved_to x.0, second x.1) in
      let record_of : ℕ × (ℕ × (ℕ × (ℕ × ℕ))) → Handler = λ x. record { from = x.0; to = x.1.0; target = x.1.1.0; exc_type = x.1.1.1.0; var_name = x.1.1.1.1 } in
      let both_names = both names names in
      let last = both place both_names in
      let last_moved = both moved both_names in
      let n : Maps same_names both_names both_names = maps_both (λ x. x) (λ x. x) names names names names (same names) (same names) in
      let t : Maps third last last_moved = maps_both moved_to same_names place moved both_names both_names place_moves n in
      let s : Maps second (both place last) (both moved last_moved) = maps_both moved_to third place moved last last_moved place_moves t in
      let f : Maps first (both place (both place last)) (both moved (both moved last_moved)) = maps_both moved_to second place moved (both place last) (both moved last_moved) place_moves s in
      maps_image first record_of record_of move (both place (both place last)) (both moved (both moved last_moved)) f (λ x. refl)

  pub handlers_move : (v : Sizes) → Maps (map move) (count_and_items (handler v os)) (count_and_items (moved_handler v (moved_at os ms)))
  handlers_move v = maps_counted move (handler v os) (moved_handler v (moved_at os ms)) (handler_moves v)

  each_moved : (hs : List Handler) → flat_map moved_bytes (map move hs) ≡ flat_map (handler_bytes ms) hs
  unfolding moved_bytes handler_bytes
  each_moved [] = refl
  each_moved (h ∷ hs) = ap (λ (l : List ℕ). handler_bytes ms h ++ l) (each_moved hs)

  pub bytes_moved : (hs : List Handler) → counted_bytes moved_bytes (map move hs) ≡ counted_bytes (handler_bytes ms) hs
  unfolding counted_bytes
  bytes_moved hs = rw (length-map hs move, each_moved hs) refl

-- ---- what is read as another value

pub record Mapped {A B : Type 0} (g : A → B) (r : Result (A × At) Refusal) (y : B) (after : At) : Type 0 where
  pub value : A
  pub read : r ≡ Ok (value, after)
  pub is : y ≡ g value

pub mapped : {A B : Type 0} (g : A → B) (r : Result (A × At) Refusal) (y : B) (after : At) → valued g r ≡ Ok (y, after) → Mapped g r y after
mapped {A = A} {B = B} g (Ok x) y after e =
    let left : B × At = (g x.0, x.1) in
    let right : B × At = (y, after) in
    let both : left ≡ right = ok_is left right e in
    let at : x.1 ≡ after = ap (λ (z : B × At). z.1) both in
    record { value = x.0; read = ap (λ (a : At). Ok (x.0, a)) at; is = sym (ap (λ (z : B × At). z.0) both) }
mapped g (Err d) y after e = absurd cc

pub unmapped : {A B : Type 0} (g : A → B) (r : Result (A × At) Refusal) (d : Refusal) → valued g r ≡ Err d → r ≡ Err d
unmapped g (Ok x) d e = absurd cc
unmapped g (Err c) d e = let same : c ≡ d = cc in ap (λ (x : Refusal). Err x) same
