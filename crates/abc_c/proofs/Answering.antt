-- Calls that are answered one after the other, and what stands in the output.
use Rattle.std.proofs.Common.{◌≡◌, ℕ, ◌+◌, ◌<◌, List, [], ◌∷◌, ◌++◌, length, get_or, set, take, sym, ap, ◌∙◌, subst}
use Rattle.std.proofs.lemmas.List.{take_more, take_more_set}
use Rattle.abc_machine.specs.Machines.{Opened}
use Rattle.abc_c.specs.Answered.{AreAnswered, IsAnswered}
use Rattle.abc_c.specs.Answered as made
use Rattle.abc_c.specs.declared.crossing.Answer.{Answer}
use Rattle.abc_c.specs.declared.crossing.Call.{Call}

-- one more call, after all others
answered_on : (names : List ℕ) (first old new : Opened) (cs : List Call) (told : List Answer) (c : Call) (a : Answer) (x y z : List ℕ) → AreAnswered names first cs told x old y → IsAnswered names old new c y z a → AreAnswered names first (cs ++ c ∷ []) (told ++ a ∷ []) x new z
answered_on names first old new cs told c a x y z (made.nothing m written) one = made.more m new new c [] a [] written z z one (made.nothing new z)
answered_on names first old new cs told c a x y z (made.more before mid last d ds b bs from between to here rest) one =
    made.more before mid new d (ds ++ c ∷ []) b (bs ++ a ∷ []) from between z here (answered_on names mid last new ds bs c a between to z rest one)

-- the call at a place is answered there, after those before it
pub answered_more : (names : List ℕ) (first old new : Opened) (cs : List Call) (told : List Answer) (i : ℕ) (c : Call) (a : Answer) (x y z : List ℕ) → i < length cs → i < length told → c ≡ get_or cs i c
    → AreAnswered names first (take i cs) (take i told) x old y → IsAnswered names old new c y z a → AreAnswered names first (take (i + 1) cs) (take (i + 1) (set told i a)) x new z
answered_more names first old new cs told i c a x y z call room is before one =
    let calls : take i cs ++ c ∷ [] ≡ take (i + 1) cs = ap (λ (d : Call). take i cs ++ d ∷ []) is ∙ sym (take_more cs i c call) in
    let all = answered_on names first old new (take i cs) (take i told) c a x y z before one in
    subst (λ (bs : List Answer). AreAnswered names first (take (i + 1) cs) bs x new z) (sym (take_more_set told i a room)) (subst (λ (ds : List Call). AreAnswered names first ds (take i told ++ a ∷ []) x new z) calls all)
