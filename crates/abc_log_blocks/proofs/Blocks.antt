-- What waits in a block, and what is at hand in one, as it moves.
use Rattle.std.proofs.Common.{◌≡◌, ℕ, ◌+◌, ◌-◌, ◌<◌, ◌≤◌, List, [], ◌∷◌, ◌++◌, length, take, drop, min, refl, sym, ap, subst, ◌∙◌, arith, length-take, length-take-le, None, Some}
use Rattle.std.proofs.KnownBytes.{append_known-grown, append_known-moved, prepend_known-read}
use Rattle.std.proofs.lemmas.List.{drop-append-le, drop-drop, drop-take, drop_all, append-nil, take-append-drop, take_at}
use Rattle.std.proofs.Math.Seq.{take-append-add}
use Rattle.std.proofs.lemmas.Slice.{take-put_mid}
use Rattle.std.specs.Prelude.{IsSome}
use Rattle.std.specs.Io.KnownBytes.{Appends, Consumes, IsAtEnd, Keeps, append_known, prepend_known}
use Rattle.std.specs.declared.option.Option.{Option}
use Rattle.abc_base.specs.Sinks.{GrowsByFront}
use Rattle.abc_log_blocks.specs.Begun.{BeginsWith}
use borrow.Rule.Slice.PartMut.{put_mid}

-- ---- the bytes from place a up to place e

-- but for the first n
pub rest_of : (bytes : List ℕ) (a e n : ℕ) → a + n ≤ e → take (e - (a + n)) (drop (a + n) bytes) ≡ drop n (take (e - a) (drop a bytes))
rest_of bytes a e n fits =
    let split : e - a ≡ n + (e - (a + n)) = omega (arith, fits) in
    ap (take (e - (a + n))) (sym (drop-drop n a bytes)) ∙ sym (drop-take n (e - (a + n)) (drop a bytes)) ∙ ap (λ (m : ℕ). drop n (take m (drop a bytes))) (sym split)

-- and others that are written behind them
pub grown : (bytes more : List ℕ) (a e k j : ℕ) → a ≤ e → e ≤ length bytes → length more ≡ k → take (e + k - a) (drop a (put_mid e j bytes more)) ≡ take (e - a) (drop a bytes) ++ more
grown bytes more a e k j low high long =
    let all : e + k ≡ a + (e + k - a) = omega (arith, low) in
    let end : e ≡ a + (e - a) = omega (arith, low) in
    let far : e + k ≡ e + length more = omega (arith, long) in
    let within : a ≤ length (take e bytes) = omega (arith, low, length-take-le e bytes high) in
    sym (drop-take a (e + k - a) (put_mid e j bytes more)) ∙ ap (λ (n : ℕ). drop a (take n (put_mid e j bytes more))) (sym all) ∙ ap (drop a) (take-put_mid e j bytes more (e + k) far high)
    ∙ drop-append-le a (take e bytes) more within ∙ ap (λ (l : List ℕ). l ++ more) (ap (λ (n : ℕ). drop a (take n bytes)) end ∙ drop-take a (e - a) bytes)

-- ---- a sink

-- the first n of those that wait are handed on
pub handed_on : (a b : Option (List ℕ)) (bytes : List ℕ) (at end n : ℕ) → at + n ≤ end → Appends a b (take n (take (end - at) (drop at bytes)))
    → Keeps (append_known a (take (end - at) (drop at bytes))) (append_known b (take (end - (at + n)) (drop (at + n) bytes)))
handed_on a b bytes at end n fits more =
    let waiting : List ℕ = take (end - at) (drop at bytes) in
    let parts : waiting ≡ take n waiting ++ take (end - (at + n)) (drop (at + n) bytes) = sym (take-append-drop n waiting) ∙ ap (λ (l : List ℕ). take n waiting ++ l) (sym (rest_of bytes at end n fits)) in
    append_known-moved a b (take n waiting) (take (end - (at + n)) (drop (at + n) bytes)) waiting more parts

-- nothing waits yet
pub none_waits : (o : Option (List ℕ)) → append_known o [] ≡ o
none_waits None = refl
none_waits (Some xs) = ap Some (append-nil xs)

-- a piece is gathered
pub gathered : (a b now : Option (List ℕ)) (old new piece : List ℕ) → Keeps a (append_known b old) → now ≡ b → new ≡ old ++ piece → Appends a (append_known now new) piece
gathered a b now old new piece keeps same e = subst (λ (o : Option (List ℕ)). Appends a (append_known o new) piece) (sym same) (append_known-grown a b old new piece keeps e)

-- ---- a source

none_at_hand : (held : List ℕ) → length held ≡ 0 → held ≡ []
none_at_hand [] e = refl
none_at_hand (b ∷ held) e = absurd (omega (arith, e))

-- of what is at hand the first bytes are given, as many as there is room for
pub given : (a b now : Option (List ℕ)) (old new into : List ℕ) (n : ℕ) → Keeps a (prepend_known old b) → (old ≡ [] → IsAtEnd b) → now ≡ b → n ≡ min (length old) (length into) → take n into ≡ take n old → new ≡ drop n old
    → Consumes a (prepend_known new now) (take n into) × (n ≡ 0 → 0 < length into → IsAtEnd (prepend_known new now))
given a b now old new into n keeps end same count front rest =
    let parts : old ≡ take n into ++ new = sym (take-append-drop n old) ∙ ap (λ (l : List ℕ). l ++ drop n old) (sym front) ∙ ap (λ (l : List ℕ). take n into ++ l) (sym rest) in
    let read = prepend_known-read a b old new (take n into) ((n ≡ 0) × (0 < length into)) keeps parts (λ (w : (n ≡ 0) × (0 < length into)).
    let none : length old ≡ 0 = omega (arith, count, w.0, w.1) in
    let few : length old ≤ n = omega (arith, none) in
    (rest ∙ drop_all n old few, end (none_at_hand old none))) in
    subst (λ (o : Option (List ℕ)). Consumes a (prepend_known new o) (take n into) × (n ≡ 0 → 0 < length into → IsAtEnd (prepend_known new o))) (sym same) (read.0, λ zero some. read.1 (zero, some))

-- where none is left to read, none is left of the source below
none_of : (held rest : List ℕ) → held ++ rest ≡ [] → rest ≡ []
none_of [] rest e = e
none_of (b ∷ held) rest e = absurd (cc)

pub none_below : (held : List ℕ) (left : Option (List ℕ)) → prepend_known held left ≡ Some [] → left ≡ Some []
none_below held None e = absurd (cc)
none_below held (Some rest) e = let all : held ++ rest ≡ [] = cc in ap Some (none_of held rest all)

-- ---- what a sink has of what was written

-- all of it, where nothing waits
pub whole_below : (before now : Option (List ℕ)) (wrote waiting : List ℕ) → IsSome before → Keeps (append_known before wrote) (append_known now waiting) → waiting ≡ [] → now ≡ append_known before wrote
whole_below None now wrote waiting some keeps none = absurd (cc)
whole_below (Some xs) None wrote waiting some keeps none = absurd keeps
whole_below (Some xs) (Some ys) wrote waiting some keeps none = ap Some (sym (append-nil ys) ∙ ap (λ (l : List ℕ). ys ++ l) (sym none) ∙ keeps)

-- and otherwise a front of it, since nothing that was there before is lost
pub front_below : (before now : Option (List ℕ)) (wrote waiting : List ℕ) → BeginsWith before now → IsSome before → Keeps (append_known before wrote) (append_known now waiting) → GrowsByFront before now wrote
front_below None now wrote waiting begun some keeps = absurd (cc)
front_below (Some xs) None wrote waiting begun some keeps = absurd keeps
front_below (Some xs) (Some ys) wrote waiting begun some keeps =
    let e : Some (take (length xs) ys) ≡ Some xs = begun some in
    let is : take (length xs) ys ≡ xs = cc in
    let long : length xs ≤ length ys = omega (arith, ap length is, length-take (length xs) ys) in
    let n : ℕ = length ys - length xs in
    let all : length ys ≡ length xs + n = omega (arith, long) in
    record {
      count = n;
      front = ap Some (sym (take_at ys waiting (length ys) refl) ∙ ap (take (length ys)) keeps ∙ ap (λ (k : ℕ). take k (xs ++ wrote)) all ∙ take-append-add xs wrote n);
    }
