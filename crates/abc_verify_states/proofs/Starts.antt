-- What a method starts with, its handlers, and what it is as a whole.
use Rattle.std.proofs.Common.{◌≡◌, ℕ, zero, suc, ◌+◌, ◌-◌, ◌<◌, ◌≤◌, List, [], ◌∷◌, ◌++◌, Bool, true, false, length, take, drop, map, get_or, refl, sym, ap, ◌∙◌, append_assoc, arith}
use Rattle.std.specs.Prelude.{cond, replicate}
use Rattle.std.proofs.lemmas.List.{append-nil, take-replicate}
use Rattle.abc_link_names.specs.Linked.{LinkedFile, layout_of}
use Rattle.abc_link_names.specs.declared.part.LayoutId.{LayoutId}
use Rattle.abc_link_names.specs.declared.part.Part.TheVariants as parts
use Rattle.abc_link_names.specs.declared.types.Kind.{Kind}
use Rattle.abc_link_names.specs.declared.types.Owner.{Owner}
use Rattle.abc_file_types.specs.Methods.{has_flag}
use Rattle.abc_file_types.specs.declared.code.Body.{Body}
use Rattle.abc_file_types.specs.declared.code.Handler.{Handler}
use Rattle.abc_file_types.specs.declared.methods.Method.{Method}
use Rattle.abc_verify_typing.specs.Routines.{Routine, arrays, catches_from, filled_by, home_of, is_unsupported, or_any, routine_with, this_kind, type_at}
use Rattle.abc_verify_typing.specs.declared.catch.Catch.{Catch}
use Rattle.abc_verify_typing.specs.declared.home.Home.{Home}
use Rattle.abc_verify_typing.specs.declared.state.Scope.{Scope}
use Rattle.abc_verify_typing.specs.declared.state.State.{State}
use Rattle.abc_verify_states.specs.Frames.{catch_in}
use Rattle.abc_verify_states.proofs.Finds.{next_left, none_left}

-- ---- what a call fills

pub none_added : {A : Type 0} (b : Bool) (xs ys : List A) → b ≡ false → xs ≡ xs ++ cond b ys []
none_added true xs ys e = absurd cc
none_added false xs ys e = sym (append-nil xs)

pub one_added : {A : Type 0} (b : Bool) (k x : A) (old new : List A) → b ≡ true → k ≡ x → new ≡ old ++ k ∷ [] → new ≡ old ++ cond b (x ∷ []) []
one_added {A} true k x old new e q is = is ∙ ap (λ (z : A). old ++ z ∷ []) q
one_added false k x old new e q is = absurd cc

pub filled_all : (l : LinkedFile) (o whose : Owner) (m : Method) (this : Kind) (types : List ℕ) (flags : ℕ) (e a b c : List Kind)
    → e ≡ [] → a ≡ e ++ this ∷ [] → this ≡ this_kind l whose → whose ≡ o → types ≡ m.params → b ≡ a ++ map (λ t. or_any (type_at l t)) types → flags ≡ m.flags → c ≡ b ++ arrays l flags
    → c ≡ filled_by l o m
filled_all l o whose m this types flags e a b c xe xa xt xo xp xb xf xc =
    let first : a ≡ this_kind l o ∷ [] = xa ∙ ap (λ (ks : List Kind). ks ++ this ∷ []) xe ∙ ap (λ (k : Kind). k ∷ []) (xt ∙ ap (this_kind l) xo) in
    let next : b ≡ this_kind l o ∷ map (λ t. or_any (type_at l t)) m.params =
    xb ∙ ap (λ (ks : List Kind). ks ++ map (λ t. or_any (type_at l t)) types) first ∙ ap (λ (ts : List ℕ). this_kind l o ∷ map (λ t. or_any (type_at l t)) ts) xp in
    xc ∙ ap (λ (ks : List Kind). ks ++ arrays l flags) next ∙ ap (λ (n : ℕ). this_kind l o ∷ (map (λ t. or_any (type_at l t)) m.params ++ arrays l n)) xf

-- ---- handlers

pub catches_next : (l : LinkedFile) (b : ℕ) (hs : List Handler) (k : ℕ) (x : Handler) (y : Catch) (list new whole : List Catch)
    → k < length hs → get_or hs k x ≡ x → list ++ catches_from l b k (drop k hs) ≡ whole → y ≡ catch_in l b k x → new ≡ list ++ y ∷ []
    → new ++ catches_from l b (k + 1) (drop (k + 1) hs) ≡ whole
catches_next l b hs k x y list new whole lt at before made is =
    let next : k + 1 ≡ suc k = omega arith in
    ap (λ (n : ℕ). new ++ catches_from l b n (drop n hs)) next
    ∙ ap (λ (cs : List Catch). cs ++ catches_from l b (suc k) (drop (suc k) hs)) (is ∙ ap (λ (z : Catch). list ++ z ∷ []) made)
    ∙ append_assoc list (catch_in l b k x ∷ []) (catches_from l b (suc k) (drop (suc k) hs))
    ∙ ap (λ (ys : List Handler). list ++ catches_from l b k ys) (sym (next_left hs k x lt at))
    ∙ before

pub catches_all : (l : LinkedFile) (b : ℕ) (hs : List Handler) (k : ℕ) (list whole : List Catch) → length hs ≤ k → list ++ catches_from l b k (drop k hs) ≡ whole → list ≡ whole
catches_all l b hs k list whole le e = sym (append-nil list) ∙ ap (λ (ys : List Handler). list ++ catches_from l b k ys) (sym (none_left hs k le)) ∙ e

-- ---- locals

padded : {A : Type 0} (xs : List A) (n m : ℕ) (d : A) → n ≤ m → take n xs ++ replicate (n - length xs) d ≡ take n (xs ++ replicate m d)
padded [] zero m d h = refl
padded {A} [] (suc n) m d h = let z : suc n - length {A = A} [] ≡ suc n = omega arith in ap (λ (k : ℕ). replicate k d) z ∙ sym (take-replicate (suc n) m d h)
padded (x ∷ xs) zero m d h = let z : 0 - length (x ∷ xs) ≡ 0 = omega arith in ap (λ (k : ℕ). replicate k d) z
padded {A} (x ∷ xs) (suc n) m d h =
    let z : suc n - length (x ∷ xs) ≡ n - length xs = omega arith in
    ap (λ (k : ℕ). x ∷ (take n xs ++ replicate k d)) z ∙ ap (λ (ys : List A). x ∷ ys) (padded xs n m d (omega arith))

-- a copy that is cut off or filled up
pub filled_up : {A : Type 0} (xs ys zs : List A) (n : ℕ) (d : A) → ys ≡ xs → zs ≡ take n ys ++ replicate (n - length ys) d → zs ≡ take n (xs ++ replicate n d)
filled_up {A} xs ys zs n d e is = is ∙ ap (λ (us : List A). take n us ++ replicate (n - length us) d) e ∙ padded xs n n d (omega arith)

abbrev pub state_of : List Kind → List Scope → List Kind → State
state_of s x ks = record { stack = s; scopes = x; locals = ks }

pub begun : (s : List Kind) (x : List Scope) (ks js : List Kind) → s ≡ [] → x ≡ [] → ks ≡ js → state_of s x ks ≡ state_of [] [] js
begun s x ks js p q r = ap (λ (z : List Kind). state_of z x ks) p ∙ ap (λ (z : List Scope). state_of [] z ks) q ∙ ap (λ (z : List Kind). state_of [] [] z) r

-- ---- the whole

abbrev pub made : Body → List Kind → Home → Bool → Bool → LayoutId → ℕ → List Catch → Routine
made body filled home activates refused layout size handlers = record {
  filled = filled;
  home = home;
  needs_activation = activates;
  unsupported = refused;
  activation = layout;
  max_stack = body.max_stack;
  local_count = body.local_count;
  scope_size = size;
  code = body.code;
  handlers = handlers;
}

pub framed : (l : LinkedFile) (b : ℕ) (body : Body) (m : Method) (o whose : Owner) (filled : List Kind) (home : Home) (flags : ℕ) (activates refused : Bool) (layout : LayoutId) (size : ℕ) (handlers : List Catch)
    → filled ≡ filled_by l o m → home ≡ home_of l whose → whose ≡ o → flags ≡ m.flags → activates ≡ has_flag flags 0x02 → refused ≡ is_unsupported flags → layout ≡ layout_of l (parts.Activation b) → size ≡ body.max_scope - body.init_scope → handlers ≡ catches_from l b 0 body.handlers
    → made body filled home activates refused layout size handlers ≡ routine_with l b body m o
framed l b body m o whose filled home flags activates refused layout size handlers xf xh xo xg xa xr xl xs xc =
    let h : home ≡ home_of l o = xh ∙ ap (home_of l) xo in
    let a : activates ≡ has_flag m.flags 0x02 = xa ∙ ap (λ (n : ℕ). has_flag n 0x02) xg in
    let r : refused ≡ is_unsupported m.flags = xr ∙ ap is_unsupported xg in
    ap (λ (z : List Kind). made body z home activates refused layout size handlers) xf
    ∙ ap (λ (z : Home). made body (filled_by l o m) z activates refused layout size handlers) h
    ∙ ap (λ (z : Bool). made body (filled_by l o m) (home_of l o) z refused layout size handlers) a
    ∙ ap (λ (z : Bool). made body (filled_by l o m) (home_of l o) (has_flag m.flags 0x02) z layout size handlers) r
    ∙ ap (λ (z : LayoutId). made body (filled_by l o m) (home_of l o) (has_flag m.flags 0x02) (is_unsupported m.flags) z size handlers) xl
    ∙ ap (λ (z : ℕ). made body (filled_by l o m) (home_of l o) (has_flag m.flags 0x02) (is_unsupported m.flags) (layout_of l (parts.Activation b)) z handlers) xs
    ∙ ap (λ (z : List Catch). made body (filled_by l o m) (home_of l o) (has_flag m.flags 0x02) (is_unsupported m.flags) (layout_of l (parts.Activation b)) (body.max_scope - body.init_scope) z) xc
