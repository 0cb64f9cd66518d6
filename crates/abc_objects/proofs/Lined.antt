-- A line, as it is written text by text.
use Rattle.std.proofs.Common.{◌≡◌, ◌<◌, ℕ, zero, suc, List, [], ◌∷◌, ◌++◌, length, take, drop, slice_index_or, drop-cons, ap, sym, ◌∙◌, subst, append_assoc, arith}
use Rattle.std.proofs.lemmas.List.{take-append-drop}
use Rattle.std.proofs.lemmas.Grind.{flat_map-append}
use Rattle.std.specs.List.{flat_map}
use Rattle.std.specs.declared.option.Option.{Option}
use Rattle.std.specs.Io.KnownBytes.{append_known}
use Rattle.std.specs.declared.result.Result.{Result}
use Rattle.std.specs.Prelude.{MatchResult, Ok, Err}
use Rattle.abc_base.proofs.Writing.{front_first, front_second, known_twice}
use Rattle.abc_base.specs.Sinks.{GrowsByFront}
use Rattle.abc_heap_values.specs.declared.values.Value.{Value}
use Rattle.abc_heap_store.specs.Heap.{Heap}
use Rattle.abc_objects.specs.Lines.{AreThere, AreTextsThere, behind, bytes_of_value, texts_line}

-- one piece was written, and then another
pub both_written : {T E : Type 0} → (old mid new : Option (List ℕ)) (a b : List ℕ) (r : Result T E) → mid ≡ append_known old a → MatchResult r (λ x. new ≡ append_known mid b) (λ x. GrowsByFront mid new b) → MatchResult r (λ x. new ≡ append_known old (a ++ b)) (λ x. GrowsByFront old new (a ++ b))
both_written old mid new a b (Ok x) is e = e ∙ ap (λ m. append_known m b) is ∙ known_twice old a b
both_written old mid new a b (Err x) is g = front_second old new a b (subst (λ (m : Option (List ℕ)). GrowsByFront m new b) is g)

-- a line is its first text, the others behind spaces, and a line feed
pub line_parts : (strings : List (List ℕ)) (h : Heap) (t : Value) (ts : List Value) → bytes_of_value strings h t ++ flat_map (behind strings h) ts ++ 10 ∷ [] ≡ texts_line strings h (t ∷ ts)
line_parts strings h t [] = append_assoc (bytes_of_value strings h t) [] (10 ∷ [])
line_parts strings h t (u ∷ us) =
    append_assoc (bytes_of_value strings h t) (behind strings h u ++ flat_map (behind strings h) us) (10 ∷ [])
    ∙ ap (λ bs. bytes_of_value strings h t ++ (32 ∷ bs)) (line_parts strings h u us)

pub there_at : (strings : List (List ℕ)) (h : Heap) (xs : List Value) (i : ℕ) (d : Value) → AreThere strings h xs → i < length xs → AreTextsThere strings h (slice_index_or xs i d)
there_at strings h [] i d a b = absurd (omega arith)
there_at strings h (y ∷ ys) zero d a b = a.0
there_at strings h (y ∷ ys) (suc i) d a b = there_at strings h ys i d a.1 (omega arith)

-- what was written before a text, its own bytes, and what comes after
parts : (f : Value → List ℕ) (xs : List Value) (i : ℕ) (d : Value) → i < length xs → (flat_map f (take i xs) ++ f (slice_index_or xs i d)) ++ flat_map f (drop (suc i) xs) ≡ flat_map f xs
parts f xs i d lt =
    append_assoc (flat_map f (take i xs)) (f (slice_index_or xs i d)) (flat_map f (drop (suc i) xs))
    ∙ ap (λ (t : List Value). flat_map f (take i xs) ++ flat_map f t) (sym (drop-cons xs i d lt))
    ∙ sym (flat_map-append f (take i xs) (drop i xs))
    ∙ ap (flat_map f) (take-append-drop i xs)

-- the front of a text, behind those before it, is a front of all
pub front_in : (f : Value → List ℕ) (old mid new : Option (List ℕ)) (xs : List Value) (i : ℕ) (d : Value) → i < length xs → mid ≡ append_known old (flat_map f (take i xs)) → GrowsByFront mid new (f (slice_index_or xs i d)) → GrowsByFront old new (flat_map f xs)
front_in f old mid new xs i d lt is g =
    let here = f (slice_index_or xs i d) in
    let before = flat_map f (take i xs) in
    let two = front_second old new before here (subst (λ (m : Option (List ℕ)). GrowsByFront m new here) is g) in
    subst (GrowsByFront old new) (parts f xs i d lt) (front_first old new (before ++ here) (flat_map f (drop (suc i) xs)) two)
