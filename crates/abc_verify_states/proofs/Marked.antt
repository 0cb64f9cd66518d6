-- Marks, one after the other.
use Rattle.std.proofs.Common.{◌≡◌, ◌≢◌, ℕ, zero, suc, ◌+◌, ◌-◌, ◌≤◌, ◌<◌, List, [], ◌∷◌, ◌++◌, Some, None, length, set, take, get_or, refl, sym, ap, ◌∙◌, subst, arith, ◌⊎◌, inl, inr, length-set}
use Rattle.std.specs.Prelude.{Bool, true, false, Option, slice_get, replicate}
use Rattle.std.proofs.lemmas.List.{append-nil, length-replicate}
use Rattle.std.proofs.lemmas.Bool.{cases_eq}
use Rattle.abc_verify_typing.specs.Instructions.{targets}
use Rattle.abc_file_types.specs.declared.code.Instr.{Instr}
use Rattle.abc_verify_typing.specs.Routines.{Routine}
use Rattle.abc_verify_typing.specs.Typing.{In}
use Rattle.abc_verify_typing.specs.declared.catch.Catch.{Catch}
use Rattle.abc_verify_typing.proofs.Member.{in_append, in_left, in_right}
use Rattle.abc_verify_flow.specs.Walking.{AreWalkHeads, AtHandler, AtStart, AtTarget, BeginsWalk, holds_so, is_head, targets_at, targets_of_instr}
use Rattle.abc_verify_states.specs.Marking.{AreHeadsOf, Marks, code_targets, handler_places}

-- a list of none, filled up
pub none_marked : (xs ys : List Bool) (n : ℕ) → xs ≡ [] → ys ≡ take n xs ++ replicate (n - length xs) false → ys ≡ replicate n false
none_marked xs ys n e is = is ∙ ap (λ (us : List Bool). take n us ++ replicate (n - length us) false) e ∙ blank n
  where
    blank : (k : ℕ) → take k [] ++ replicate (k - length {A = Bool} []) false ≡ replicate k false
    blank zero = refl
    blank (suc k) = let z : suc k - length {A = Bool} [] ≡ suc k = omega arith in ap (λ (j : ℕ). replicate j false) z

head_set : (marks : List Bool) (t : ℕ) → t < length marks → is_head (set marks t true) t ≡ true
head_set [] t h = absurd (omega arith)
head_set (x ∷ marks) zero h = refl
head_set (x ∷ marks) (suc t) h = head_set marks t (omega arith)

head_kept : (marks : List Bool) (t i : ℕ) → is_head marks i ≡ true → is_head (set marks t true) i ≡ true
head_kept [] t i e = e
head_kept (x ∷ marks) zero zero e = refl
head_kept (x ∷ marks) zero (suc i) e = e
head_kept (x ∷ marks) (suc t) zero e = e
head_kept (x ∷ marks) (suc t) (suc i) e = head_kept marks t i e

head_only : (marks : List Bool) (t i : ℕ) → is_head (set marks t true) i ≡ true → (is_head marks i ≡ true) ⊎ (i ≡ t)
head_only [] t i e = inl e
head_only (x ∷ marks) zero zero e = inr refl
head_only (x ∷ marks) zero (suc i) e = inl e
head_only (x ∷ marks) (suc t) zero e = inl e
head_only (x ∷ marks) (suc t) (suc i) e = elim (head_only marks t i e) [ inl f ↦ inl f | inr q ↦ inr (ap suc q) ]

pub marks_set : (marks : List Bool) (t : ℕ) → t < length marks → Marks (t ∷ []) marks (set marks t true)
marks_set marks t h = record { long = length-set marks t true; keeps = λ i e. head_kept marks t i e; marks = marks_it; only = λ i e. elim (head_only marks t i e) [ inl f ↦ inl f | inr q ↦ inr (inl q) ] }
  where
    marks_it : (i : ℕ) → In i (t ∷ []) → i < length marks → is_head (set marks t true) i ≡ true
    marks_it i (inl q) lt = ap (is_head (set marks t true)) q ∙ head_set marks t h
    marks_it i (inr k) lt = absurd k

pub marks_past : (marks : List Bool) (t : ℕ) → length marks ≤ t → Marks (t ∷ []) marks marks
marks_past marks t h = record { long = refl; keeps = λ i e. e; marks = marks_it; only = λ i e. inl e }
  where
    marks_it : (i : ℕ) → In i (t ∷ []) → i < length marks → is_head marks i ≡ true
    marks_it i (inl q) lt = absurd (omega arith)
    marks_it i (inr k) lt = absurd k

pub marks_none : (marks : List Bool) → Marks [] marks marks
marks_none marks = record { long = refl; keeps = λ i e. e; marks = λ i k lt. absurd k; only = λ i e. inl e }

pub marks_more : (ts us : List ℕ) (a b c : List Bool) → Marks ts a b → Marks us b c → Marks (ts ++ us) a c
marks_more ts us a b c x y = record {
  long = y.long ∙ x.long;
  keeps = λ i e. y.keeps i (x.keeps i e);
  marks = λ i k lt. elim (in_append i ts us k) [ inl j ↦ y.keeps i (x.marks i j lt) | inr j ↦ y.marks i j (let e = x.long in omega arith) ];
  only = λ i e. elim (y.only i e) [ inr k ↦ inr (in_right i ts us k) | inl f ↦ elim (x.only i f) [ inl g ↦ inl g | inr k ↦ inr (in_left i ts us k) ] ];
}

pub marks_both : (t : ℕ) (us vs : List ℕ) (a b c : List Bool) → vs ≡ us → Marks (t ∷ []) a b → Marks vs b c → Marks (t ∷ us) a c
marks_both t us vs a b c e x y = marks_more (t ∷ []) us a b c x (subst (λ (ws : List ℕ). Marks ws b c) e y)

pub marks_three : (t u v : ℕ) (a b c d : List Bool) → Marks (t ∷ []) a b → Marks (u ∷ []) b c → Marks (v ∷ []) c d → Marks (t ∷ u ∷ v ∷ []) a d
marks_three t u v a b c d x y z = marks_more (t ∷ []) (u ∷ v ∷ []) a b d x (marks_more (u ∷ []) (v ∷ []) b c d y z)

take_next : {X : Type 0} (xs : List X) (k : ℕ) (d : X) → k < length xs → take (k + 1) xs ≡ take k xs ++ get_or xs k d ∷ []
take_next {X} xs k d h = let z : k + 1 ≡ suc k = omega arith in ap (λ (n : ℕ). take n xs) z ∙ go xs k h
  where
    go : (xs : List X) (k : ℕ) → k < length xs → take (suc k) xs ≡ take k xs ++ get_or xs k d ∷ []
    go [] k h = absurd (omega arith)
    go (x ∷ xs) zero h = refl
    go (x ∷ xs) (suc k) h = ap (λ (ys : List X). x ∷ ys) (go xs k (omega arith))

take_whole : {X : Type 0} (xs : List X) (k : ℕ) → length xs ≤ k → take k xs ≡ xs
take_whole [] zero h = refl
take_whole [] (suc k) h = refl
take_whole (x ∷ xs) zero h = absurd (omega arith)
take_whole {X} (x ∷ xs) (suc k) h = ap (λ (ys : List X). x ∷ ys) (take_whole xs k (omega arith))

pub marks_next : (ts : List ℕ) (k d : ℕ) (a b c : List Bool) → k < length ts → Marks (take k ts) a b → Marks (get_or ts k d ∷ []) b c → Marks (take (k + 1) ts) a c
marks_next ts k d a b c lt x y = subst (λ (us : List ℕ). Marks us a c) (sym (take_next ts k d lt)) (marks_more (take k ts) (get_or ts k d ∷ []) a b c x y)

pub marks_whole : (ts : List ℕ) (k : ℕ) (a b : List Bool) → length ts ≤ k → Marks (take k ts) a b → Marks ts a b
marks_whole ts k a b le x = subst (λ (us : List ℕ). Marks us a b) (take_whole ts k le) x

-- ---- instructions

code_append : (xs ys : List Instr) → code_targets (xs ++ ys) ≡ code_targets xs ++ code_targets ys
code_append [] ys = refl
code_append (x ∷ xs) ys = ap (λ (ts : List ℕ). targets x ++ ts) (code_append xs ys) ∙ assoc (targets x) (code_targets xs) (code_targets ys)
  where
    assoc : (us vs ws : List ℕ) → us ++ (vs ++ ws) ≡ (us ++ vs) ++ ws
    assoc [] vs ws = refl
    assoc (u ∷ us) vs ws = ap (λ (ts : List ℕ). u ∷ ts) (assoc us vs ws)

pub code_none : (code : List Instr) (marks : List Bool) → Marks (code_targets (take 0 code)) marks marks
code_none code marks = marks_none marks

pub code_next : (code : List Instr) (k : ℕ) (d : Instr) (a b c : List Bool) → k < length code → Marks (code_targets (take k code)) a b → Marks (targets (get_or code k d)) b c → Marks (code_targets (take (k + 1) code)) a c
code_next code k d a b c lt x y =
    let one : code_targets (get_or code k d ∷ []) ≡ targets (get_or code k d) = append-nil (targets (get_or code k d)) in
    let e : code_targets (take (k + 1) code) ≡ code_targets (take k code) ++ targets (get_or code k d) = ap code_targets (take_next code k d lt) ∙ code_append (take k code) (get_or code k d ∷ []) ∙ ap (λ (ts : List ℕ). code_targets (take k code) ++ ts) one in
    subst (λ (us : List ℕ). Marks us a c) (sym e) (marks_more (code_targets (take k code)) (targets (get_or code k d)) a b c x y)

pub code_whole : (code : List Instr) (k : ℕ) (a b : List Bool) → length code ≤ k → Marks (code_targets (take k code)) a b → Marks (code_targets code) a b
code_whole code k a b le x = subst (λ (is : List Instr). Marks (code_targets is) a b) (take_whole code k le) x

in_code : (code : List Instr) (i t : ℕ) → In t (targets_of_instr (slice_get code i)) → In t (code_targets code)
in_code [] i t k = absurd k
in_code (x ∷ code) zero t k = in_left t (targets x) (code_targets code) k
in_code (x ∷ code) (suc i) t k = in_right t (targets x) (code_targets code) (in_code code i t k)

code_in : (code : List Instr) (t : ℕ) → In t (code_targets code) → (i : ℕ) × In t (targets_of_instr (slice_get code i))
code_in [] t k = absurd k
code_in (x ∷ code) t k = elim (in_append t (targets x) (code_targets code) k) [ inl j ↦ (0, j) | inr j ↦ (let r = code_in code t j in (suc r.0, r.1)) ]

-- ---- handlers

handlers_append : (xs ys : List Catch) → handler_places (xs ++ ys) ≡ handler_places xs ++ handler_places ys
handlers_append [] ys = refl
handlers_append (x ∷ xs) ys = ap (λ (ts : List ℕ). x.target ∷ x.from ∷ x.to ∷ ts) (handlers_append xs ys)

pub handlers_none : (hs : List Catch) (marks : List Bool) → Marks (handler_places (take 0 hs)) marks marks
handlers_none hs marks = marks_none marks

pub handlers_next : (hs : List Catch) (k : ℕ) (d : Catch) (a b c : List Bool) → k < length hs → Marks (handler_places (take k hs)) a b → Marks (handler_places (get_or hs k d ∷ [])) b c → Marks (handler_places (take (k + 1) hs)) a c
handlers_next hs k d a b c lt x y =
    let e : handler_places (take (k + 1) hs) ≡ handler_places (take k hs) ++ handler_places (get_or hs k d ∷ []) = ap handler_places (take_next hs k d lt) ∙ handlers_append (take k hs) (get_or hs k d ∷ []) in
    subst (λ (us : List ℕ). Marks us a c) (sym e) (marks_more (handler_places (take k hs)) (handler_places (get_or hs k d ∷ [])) a b c x y)

pub handlers_whole : (hs : List Catch) (k : ℕ) (a b : List Bool) → length hs ≤ k → Marks (handler_places (take k hs)) a b → Marks (handler_places hs) a b
handlers_whole hs k a b le x = subst (λ (us : List Catch). Marks (handler_places us) a b) (take_whole hs k le) x

in_target : (h : Catch) (hs : List Catch) → In h hs → In h.target (handler_places hs)
in_target h [] k = absurd k
in_target h (x ∷ hs) (inl q) = inl (ap (λ (y : Catch). y.target) q)
in_target h (x ∷ hs) (inr k) = inr (inr (inr (in_target h hs k)))

in_from : (h : Catch) (hs : List Catch) → In h hs → In h.from (handler_places hs)
in_from h [] k = absurd k
in_from h (x ∷ hs) (inl q) = inr (inl (ap (λ (y : Catch). y.from) q))
in_from h (x ∷ hs) (inr k) = inr (inr (inr (in_from h hs k)))

in_to : (h : Catch) (hs : List Catch) → In h hs → In h.to (handler_places hs)
in_to h [] k = absurd k
in_to h (x ∷ hs) (inl q) = inr (inr (inl (ap (λ (y : Catch). y.to) q)))
in_to h (x ∷ hs) (inr k) = inr (inr (inr (in_to h hs k)))

place_in : (hs : List Catch) (t : ℕ) → In t (handler_places hs) → (h : Catch) × In h hs × ((t ≡ h.target) ⊎ ((t ≡ h.from) ⊎ (t ≡ h.to)))
place_in [] t k = absurd k
place_in (x ∷ hs) t (inl q) = (x, inl refl, inl q)
place_in (x ∷ hs) t (inr (inl q)) = (x, inl refl, inr (inl q))
place_in (x ∷ hs) t (inr (inr (inl q))) = (x, inl refl, inr (inr q))
place_in (x ∷ hs) t (inr (inr (inr k))) = let r = place_in hs t k in (r.0, inr r.1, r.2)

none_head : (n i : ℕ) → is_head (replicate n false) i ≡ true → ⊥
none_head zero i e = absurd cc
none_head (suc n) zero e = absurd cc
none_head (suc n) (suc i) e = none_head n i e

-- ---- all

pub heads : (code : List Instr) (hs : List Catch) (n : ℕ) (a b c d : List Bool) → 0 < n → length code ≤ n → a ≡ replicate n false → Marks (0 ∷ []) a b → Marks (code_targets code) b c → Marks (handler_places hs) c d → AreHeadsOf code hs d
heads code hs n a b c d some enough blank x y z m is_code is_handlers =
    let long : length a ≡ n = ap (λ (ms : List Bool). length ms) blank ∙ length-replicate n false in
    let wide : length m.code ≡ length code = ap (λ (is : List Instr). length is) is_code in
    let xl = x.long in
    let yl = y.long in
    record {
      first = z.keeps 0 (y.keeps 0 (x.marks 0 (inl refl) (omega arith)));
      jumps = λ i t k lt. z.keeps t (y.marks t (in_code code i t (subst (λ (is : List Instr). In t (targets_of_instr (slice_get is i))) is_code k)) (omega arith));
      handlers = λ h k lt. z.marks h.target (in_target h hs (subst (λ (us : List Catch). In h us) is_handlers k)) (omega arith);
      begins = λ h k lt. z.marks h.from (in_from h hs (subst (λ (us : List Catch). In h us) is_handlers k)) (omega arith);
      only = only;
      ends = λ h k lt. z.marks h.to (in_to h hs (subst (λ (us : List Catch). In h us) is_handlers k)) (omega arith);
    }
  where
    only : (t : ℕ) → is_head d t ≡ true → BeginsWalk m t
    only t e = elim (z.only t e) [
      | inr k ↦ (let r = place_in hs t k in AtHandler r.0 (subst (λ (us : List Catch). In r.0 us) (sym is_handlers) r.1) r.2)
      | inl f ↦ elim (y.only t f) [
        | inr k ↦ (let r = code_in code t k in AtTarget r.0 (subst (λ (is : List Instr). In t (targets_of_instr (slice_get is r.0))) (sym is_code) r.1))
        | inl g ↦ elim (x.only t g) [
          | inr (inl q) ↦ AtStart q
          | inr (inr k) ↦ absurd k
          | inl i ↦ absurd (none_head n t (ap (λ (ms : List Bool). is_head ms t) (sym blank) ∙ i))
        ]
      ]
    ]
