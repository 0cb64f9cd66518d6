-- A walk over bodies, each of which is of a later method than those before it.
use Rattle.std.proofs.Common.{◌≡◌, ℕ, ◌+◌, ◌<◌, ◌≤◌, List, [], ◌∷◌, ◌++◌, length, get_or, take, sym, ap, subst, ◌∙◌, arith}
use Rattle.std.specs.Prelude.{All, AllPairs}
use Rattle.std.proofs.lemmas.List.{take_all, take_more}
use Rattle.std.proofs.lemmas.List.Elements.{All-nil, All-push}
use Rattle.std.proofs.lemmas.List.Quantifiers.{all_pairs_push}
use Rattle.abc_file_types.specs.declared.code.Body.{Body}
use Rattle.abc_tables.specs.Distinct.{Differ, Rise}

-- Each of these bodies is of a later method than the one before, and `least` is the first method after all of them.
pub record Risen (least : ℕ) (met : List Body) : Type 0 where
  pub rise : AllPairs Rise met
  pub below : All (λ b. b.method < least) met

pub none_risen : (bs : List Body) → Risen 0 (take 0 bs)
none_risen bs = record { rise = λ i j d lt len. absurd (omega arith); below = All-nil (λ (b : Body). b.method < 0) }

later : (least : ℕ) (met : List Body) (x : Body) → Risen least met → least ≤ x.method → Risen (x.method + 1) (met ++ x ∷ [])
later least met x r le = record {
  rise = all_pairs_push Rise met x r.rise (λ k d lt. let less : (get_or met k d).method < least = r.below k d lt in omega arith);
  below = All-push (λ (b : Body). b.method < x.method + 1) met x (λ k d lt. let less : (get_or met k d).method < least = r.below k d lt in omega arith) (omega arith);
}

-- at a body of a list
pub later_at : (least : ℕ) (bodies : List Body) (i : ℕ) (x : Body) → i < length bodies → x ≡ get_or bodies i x → Risen least (take i bodies) → least ≤ x.method → Risen (x.method + 1) (take (i + 1) bodies)
later_at least bodies i x within is r le =
    let front : take (i + 1) bodies ≡ take i bodies ++ x ∷ [] = take_more bodies i x within ∙ ap (λ (y : Body). take i bodies ++ y ∷ []) (sym is) in
    rw front (later least (take i bodies) x r le)

pub all_risen : (least : ℕ) (bodies : List Body) (i : ℕ) → length bodies ≤ i → Risen least (take i bodies) → AllPairs Rise bodies
all_risen least bodies i le r = subst (AllPairs Rise) (take_all i bodies le) r.rise

pub rise_differ : (bodies : List Body) → AllPairs Rise bodies → AllPairs Differ bodies
rise_differ bodies pairs = λ i j d lt len same.
    let less : (get_or bodies i d).method < (get_or bodies j d).method = pairs i j d lt len in
    omega arith
