-- Values that are made in their places are those that are made of a list in turn.
use Rattle.std.proofs.Common.{◌≡◌, ℕ, zero, suc, ◌+◌, ◌<◌, ◌≤◌, List, [], ◌∷◌, length, take, drop, reverse, get_or, set, refl, sym, ap, ◌∙◌, subst, arith, drop-cons}
use Rattle.std.proofs.Math.Seq.{take-suc}
use Rattle.std.proofs.lemmas.List.{drop-set, drop-set-lt, length-set, reverse-append, take-set}
use Rattle.abc_heap_values.specs.declared.values.Value.{Value}
use Rattle.abc_heap_values.specs.declared.values.Value.TheVariants.{Undefined}
use Rattle.abc_run_finish.specs.Turned.{turned_at}
use Rattle.abc_meaning.specs.World.{Outcome, Run, Stop, Stopped, Went, World, and_then, pure, each_of, ◌>>=◌}

-- ---- what is made leaves the deeper ones as they are

pub record IsKept (n : ℕ) (vs ws : List Value) : Type 0 where
  pub long : length ws ≡ length vs
  pub deep : drop n ws ≡ drop n vs

abbrev Keeps : ℕ → List Value → Outcome (List Value) → Type 0
Keeps n vs (Went w ws) = IsKept n vs ws
Keeps n vs (Stopped w why) = Unit {0}

drop_more : (n : ℕ) (xs ys : List Value) → drop n xs ≡ drop n ys → drop (suc n) xs ≡ drop (suc n) ys
drop_more n xs ys e = sym (twice n xs) ∙ ap (drop 1) e ∙ twice n ys
  where
    twice : (n : ℕ) (xs : List Value) → drop 1 (drop n xs) ≡ drop (suc n) xs
    twice zero xs = refl
    twice (suc n) [] = refl
    twice (suc n) (x ∷ xs) = twice n xs

kept_more : (n : ℕ) (vs : List Value) (v : Value) (o : Outcome (List Value)) → Keeps n (set vs n v) o → Keeps (suc n) vs o
kept_more n vs v (Stopped w why) k = tt
kept_more n vs v (Went w ws) k = record {
  long = k.long ∙ length-set vs n v;
  deep = drop_more n ws (set vs n v) k.deep ∙ drop-set-lt (suc n) vs n v (omega arith);
}

kept_then : (f : Value → Run Value) (n : ℕ) (vs : List Value) (o : Outcome Value) → ((w : World) (v : Value) → Keeps n (set vs n v) (turned_at f n (set vs n v) w)) → Keeps (suc n) vs (and_then o (λ v. turned_at f n (set vs n v)))
kept_then f n vs (Stopped w why) h = tt
kept_then f n vs (Went w v) h = kept_more n vs v (turned_at f n (set vs n v) w) (h w v)

turned_keeps : (f : Value → Run Value) (n : ℕ) (vs : List Value) (w : World) → Keeps n vs (turned_at f n vs w)
turned_keeps f zero vs w = record { long = refl; deep = refl }
turned_keeps f (suc n) vs w = kept_then f n vs (f (get_or vs n Undefined) w) (λ u v. turned_keeps f n (set vs n v) u)

pub turned_kept : (f : Value → Run Value) (n : ℕ) (vs ws : List Value) (w new : World) → turned_at f n vs w ≡ Went new ws → IsKept n vs ws
turned_kept f n vs ws w new e = subst (λ (o : Outcome (List Value)). Keeps n vs o) e (turned_keeps f n vs w)

-- ---- the deepest first

pub next_of : (n : ℕ) (vs : List Value) → n < length vs → reverse (take (suc n) vs) ≡ get_or vs n Undefined ∷ reverse (take n vs)
next_of n vs b = ap (λ (xs : List Value). reverse xs) (take-suc vs n Undefined b) ∙ reverse-append (take n vs) (get_or vs n Undefined ∷ [])

-- what was made first is still there
first_made : (n : ℕ) (vs ws : List Value) (v : Value) → n < length vs → IsKept n (set vs n v) ws → reverse (take (suc n) ws) ≡ v ∷ reverse (take n ws)
first_made n vs ws v b k =
    let long : n < length ws = omega (arith, b, k.long, length-set vs n v) in
    let head : get_or ws n Undefined ∷ drop (suc n) ws ≡ v ∷ drop (n + 1) vs = sym (drop-cons ws n Undefined long) ∙ k.deep ∙ drop-set vs n v b in
    let same : get_or ws n Undefined ≡ v = cc in
    next_of n ws long ∙ ap (λ (x : Value). x ∷ reverse (take n ws)) same

one_made : (n : ℕ) (vs : List Value) (v : Value) (o : Outcome (List Value)) → n < length vs → Keeps n (set vs n v) o
    → and_then (and_then o (λ ws. pure (reverse (take n ws)))) (λ ys. pure (v ∷ ys)) ≡ and_then o (λ ws. pure (reverse (take (suc n) ws)))
one_made n vs v (Stopped w why) b k = refl
one_made n vs v (Went w ws) b k = ap (λ (xs : List Value). Went w xs) (sym (first_made n vs ws v b k))

made_then : (f : Value → Run Value) (n : ℕ) (vs : List Value) (o : Outcome Value) → n < length vs
    → ((w : World) (v : Value) → each_of f (reverse (take n (set vs n v))) w ≡ and_then (turned_at f n (set vs n v) w) (λ ws. pure (reverse (take n ws))))
    → and_then o (λ v. each_of f (reverse (take n vs)) >>= λ ys. pure (v ∷ ys)) ≡ and_then (and_then o (λ v. turned_at f n (set vs n v))) (λ ws. pure (reverse (take (suc n) ws)))
made_then f n vs (Stopped w why) b h = refl
made_then f n vs (Went w v) b h =
    ap (λ (xs : List Value). and_then (each_of f (reverse xs) w) (λ ys. pure (v ∷ ys))) (sym (take-set vs n v))
    ∙ ap (λ (o : Outcome (List Value)). and_then o (λ ys. pure (v ∷ ys))) (h w v)
    ∙ one_made n vs v (turned_at f n (set vs n v) w) b (turned_keeps f n (set vs n v) w)

-- each of the arguments, which stand on top of a stack
pub each_turned : (f : Value → Run Value) (n : ℕ) (vs : List Value) (w : World) → n ≤ length vs → each_of f (reverse (take n vs)) w ≡ and_then (turned_at f n vs w) (λ ws. pure (reverse (take n ws)))
each_turned f zero vs w b = refl
each_turned f (suc n) vs w b =
    let lt : n < length vs = omega (arith, b) in
    ap (λ (xs : List Value). each_of f xs w) (next_of n vs lt)
    ∙ made_then f n vs (f (get_or vs n Undefined) w) lt (λ u v. each_turned f n (set vs n v) u (omega (arith, length-set vs n v, b)))

-- ---- one after the other

pub turned_step : (f : Value → Run Value) (n m : ℕ) (vs : List Value) (w new : World) (v : Value) → m ≡ suc n → f (get_or vs n Undefined) w ≡ Went new v → turned_at f m vs w ≡ turned_at f n (set vs n v) new
turned_step f n m vs w new v e s = ap (λ (k : ℕ). turned_at f k vs w) e ∙ ap (λ (o : Outcome Value). and_then o (λ u. turned_at f n (set vs n u))) s

pub turned_stops : (f : Value → Run Value) (n m : ℕ) (vs : List Value) (w new : World) (why : Stop) → m ≡ suc n → f (get_or vs n Undefined) w ≡ Stopped new why → turned_at f m vs w ≡ Stopped new why
turned_stops f n m vs w new why e s = ap (λ (k : ℕ). turned_at f k vs w) e ∙ ap (λ (o : Outcome Value). and_then o (λ u. turned_at f n (set vs n u))) s
