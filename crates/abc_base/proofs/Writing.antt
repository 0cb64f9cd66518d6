-- What several writes do together, one after the other.
use Rattle.std.proofs.Common.{◌≡◌, ℕ, ◌+◌, ◌-◌, min, List, ◌++◌, length, take, drop, Some, None, is_some, refl, sym, ap, subst, ◌∙◌, arith, append_assoc}
use Rattle.std.proofs.lemmas.List.{take-take, drop-take, take-append-drop, take-append-le, take_min, take_rest}
use Rattle.std.proofs.Math.Seq.{take-append-add}
use Rattle.std.proofs.KnownBytes.{Appends-trans}
use Rattle.std.specs.declared.option.Option.{Option}
use Rattle.std.specs.Io.KnownBytes.{Appends, append_known}
use Rattle.abc_base.specs.Sinks.{GrowsByFront}

-- ---- one piece, in several calls

take_both : (n m : ℕ) (xs : List ℕ) → take n xs ++ take m (drop n xs) ≡ take (n + m) xs
take_both n m xs =
    let whole = take-append-drop n (take (n + m) xs) in
    let front : take n (take (n + m) xs) ≡ take n xs = take-take n (n + m) xs (omega arith) in
    let rest = drop-take n m xs in
    cc

-- the first `done` bytes are written, and then a call takes `count` of the rest
pub appends_more : (a b c : Option (List ℕ)) (piece : List ℕ) (done count : ℕ)
    → Appends a b (take done piece) → Appends b c (take count (take (length piece - done) (drop done piece))) → Appends a c (take (done + count) piece)
appends_more a b c piece done count p q =
    let rest : take done piece ++ take count (take (length piece - done) (drop done piece)) ≡ take (done + count) piece
    = ap (λ (l : List ℕ). take done piece ++ take count l) (take_rest piece done) ∙ take_both done count piece in
    subst (λ (l : List ℕ). Appends a c l) rest (Appends-trans a b c _ _ p q)

-- ---- several pieces

pub known_twice : (known : Option (List ℕ)) (a b : List ℕ) → append_known (append_known known a) b ≡ append_known known (a ++ b)
known_twice None a b = refl
known_twice (Some xs) a b = ap Some (append_assoc xs a b)

pub known_told : (known : Option (List ℕ)) (a : List ℕ) → is_some (append_known known a) ≡ is_some known
known_told None a = refl
known_told (Some xs) a = refl

-- the front of the first piece is a front of both
pub front_first : (old new : Option (List ℕ)) (a b : List ℕ) → GrowsByFront old new a → GrowsByFront old new (a ++ b)
front_first old new a b f =
    let n : ℕ = min f.count (length a) in
    let same : take n (a ++ b) ≡ take f.count a = take-append-le n a b (omega arith) ∙ take_min f.count a in
    record { count = n; front = f.front ∙ ap (append_known old) (sym same) }

-- the first piece, and the front of the second
pub front_second : (old new : Option (List ℕ)) (a b : List ℕ) → GrowsByFront (append_known old a) new b → GrowsByFront old new (a ++ b)
front_second old new a b f = record {
  count = length a + f.count;
  front = f.front ∙ known_twice old a (take f.count b) ∙ ap (append_known old) (sym (take-append-add a b f.count));
}

-- by which writes in a row are one write of all that they wrote
pub ruleset writing = (known_twice, known_told, front_first, front_second)
