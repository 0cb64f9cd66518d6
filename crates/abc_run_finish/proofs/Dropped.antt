-- Frames that are left one after the other.
use Rattle.std.proofs.Common.{◌≡◌, ℕ, ◌+◌, ◌<◌, ◌≤◌, List, [], ◌∷◌, length, refl, sym, ap, ◌∙◌, arith}
use Rattle.abc_frames.specs.Frame.{Frame, Frames, after_leave, no_frames, rest_of, under}
use Rattle.abc_frames.specs.declared.records.Size.{Size}

-- some are left by now, and those that live have their sizes, as before
pub record AreLeft (old now : Frames) : Type 0 where
  pub many : length old.sizes ≡ length old.living → length now.sizes ≡ length now.living
  pub frames : now.frame_limit ≡ old.frame_limit
  pub values : now.value_limit ≡ old.value_limit

under_long : (fs : List Frame) → 0 < length fs → length (under fs) + 1 ≡ length fs
under_long [] b = absurd (omega arith)
under_long (f ∷ fs) b = omega arith

rest_long : (ss : List Size) → 0 < length ss → length (rest_of ss) + 1 ≡ length ss
rest_long [] b = absurd (omega arith)
rest_long (s ∷ ss) b = omega arith

pub fewer : (q r : Frames) → 0 < length q.living → r ≡ after_leave q → length r.living + 1 ≡ length q.living
fewer q r b e = ap (λ (x : Frames). length x.living + 1) e ∙ under_long q.living b

more_on : (q r : Frames) → 0 < length q.living → r ≡ after_leave q → length q.sizes ≡ length q.living → length r.sizes ≡ length r.living
more_on q r b e many =
    let sizes = rest_long q.sizes (omega arith) in
    let frames = under_long q.living b in
    ap (λ (x : Frames). length x.sizes) e ∙ omega (arith, many, sizes, frames) ∙ ap (λ (x : Frames). length x.living) (sym e)

pub left_on : (old q r : Frames) → 0 < length q.living → r ≡ after_leave q → AreLeft old q → AreLeft old r
left_on old q r b e a =
    record {
      many = λ so. more_on q r b e (a.many so);
      frames = ap (λ (x : Frames). x.frame_limit) e ∙ a.frames;
      values = ap (λ (x : Frames). x.value_limit) e ∙ a.values;
    }

no_more : {X : Type 0} (xs : List X) → length xs ≤ 0 → xs ≡ []
no_more [] b = refl
no_more (x ∷ xs) b = absurd (omega arith)

pub all_left : (old q : Frames) → length q.living ≤ 0 → AreLeft old q → length old.sizes ≡ length old.living → q ≡ no_frames old.frame_limit old.value_limit
all_left old q b a so =
    let many = a.many so in
    ap (λ (fs : List Frame). record q { living = fs }) (no_more q.living b)
    ∙ ap (λ (ss : List Size). record q { living = []; sizes = ss }) (no_more q.sizes (omega (arith, many, b)))
    ∙ ap (λ (n : ℕ). record q { living = []; sizes = []; frame_limit = n }) a.frames
    ∙ ap (λ (n : ℕ). record { living = []; sizes = []; frame_limit = old.frame_limit; value_limit = n }) a.values
