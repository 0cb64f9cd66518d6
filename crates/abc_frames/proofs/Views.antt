-- What each write of the flat lists is to the frames.
use Rattle.std.proofs.Common.{◌≡◌, ℕ, zero, suc, ◌+◌, ◌-◌, ◌≤◌, ◌<◌, List, [], ◌∷◌, ◌++◌, length, take, drop, set, reverse, replicate, refl, sym, ap, ◌∙◌, arith, length-append, length-drop, Some, slice_get}
use Rattle.std.proofs.lemmas.List.{take-take, take-append-le, drop-append-le, take-set-le, drop-set-lt, drop-set-add, reverse-append, length-reverse, length-take, length-take-le, take_all, drop_all, drop-drop, take_at, drop_at, take-append-drop, length-replicate, reverse-reverse, drop-take, set_at, set-append_left, take-replicate}
use Rattle.abc_heap_values.specs.declared.values.Value.{Value}
use Rattle.abc_heap_values.specs.declared.values.Value.TheVariants.{Undefined}
use Rattle.abc_heap_store.specs.declared.records.ScopeEntry.{ScopeEntry}
use Rattle.abc_frames.specs.declared.records.Below.{Below}
use Rattle.abc_frames.specs.declared.records.Entry.{Entry}
use Rattle.abc_frames.specs.declared.records.Head.{Head}
use Rattle.abc_frames.specs.declared.records.Marks.{Marks}
use Rattle.abc_frames.specs.declared.records.Size.{Size}
use Rattle.abc_frames.specs.declared.records.Wait.{Wait}
use Rattle.abc_frames.specs.declared.records.Wait.TheVariants.{Not}
use Rattle.abc_frames.specs.Frame.{Frame, Frames, newest_of, first_size, under, after_push, with_operand, after_drop, dropped_under, with_local, with_scope, at_place, waiting, after_catch, arguments, frame_of_entry, total_of_all}
use Rattle.abc_frames.specs.Laid.{frame_of, living_in, sizes_between, IsFrameWithin, IsOver, AreFramesLaid, new_head, new_marks}

-- ---- lists

-- lists that agree up to a height agree below it
agree : {X : Type 0} (m n : ℕ) (us vs : List X) → m ≤ n → take n us ≡ take n vs → take m us ≡ take m vs
agree m n us vs b e = sym (take-take m n us b) ∙ ap (take m) e ∙ take-take m n vs b

-- an item more on a stack that begins at n
top_more : {X : Type 0} (n : ℕ) (xs : List X) (x : X) → n ≤ length xs → reverse (drop n (xs ++ x ∷ [])) ≡ x ∷ reverse (drop n xs)
top_more n xs x b = rw (drop-append-le n xs (x ∷ []) b) (reverse-append (drop n xs) (x ∷ []))

take-set-lt : {X : Type 0} (n : ℕ) (xs : List X) (i : ℕ) (x : X) → i < n → take n (set xs i x) ≡ set (take n xs) i x
take-set-lt zero xs i x b = absurd (omega arith)
take-set-lt (suc n) [] i x b = refl
take-set-lt (suc n) (y ∷ ys) zero x b = refl
take-set-lt (suc n) (y ∷ ys) (suc i) x b = ap (λ zs. y ∷ zs) (take-set-lt n ys i x (omega arith))

reverse-set : {X : Type 0} (xs : List X) (j : ℕ) (x : X) → j < length xs → reverse (set xs j x) ≡ set (reverse xs) (length xs - 1 - j) x
reverse-set [] j x b = absurd (omega arith)
reverse-set (y ∷ ys) zero x b =
    let n : length (reverse ys) ≡ length (y ∷ ys) - 1 - 0 = length-reverse ys ∙ omega arith in
    reverse-append (x ∷ []) ys ∙ sym (ap (λ zs. set zs (length (y ∷ ys) - 1 - 0) x) (reverse-append (y ∷ []) ys) ∙ set_at (reverse ys) y [] x (length (y ∷ ys) - 1 - 0) n)
reverse-set (y ∷ ys) (suc j) x b =
    let k : length ys - 1 - j ≡ length (y ∷ ys) - 1 - suc j = omega arith in
    let n : length (y ∷ ys) - 1 - suc j < length (reverse ys) = omega (arith, length-reverse ys) in
    reverse-append (y ∷ []) (set ys j x) ∙ ap (λ zs. zs ++ y ∷ []) (reverse-set ys j x (omega arith) ∙ ap (λ i. set (reverse ys) i x) k) ∙ sym (ap (λ zs. set zs (length (y ∷ ys) - 1 - suc j) x) (reverse-append (y ∷ []) ys) ∙ set-append_left (reverse ys) (y ∷ []) (length (y ∷ ys) - 1 - suc j) x n)

-- the top n of a stack and what is under them
tops : {X : Type 0} (xs : List X) (n : ℕ) → n ≤ length xs → take n (reverse xs) ≡ reverse (drop (length xs - n) xs)
tops xs n b =
    let m = length xs - n in
    let e : take m xs ++ drop m xs ≡ xs = take-append-drop m xs in
    let r : reverse xs ≡ reverse (drop m xs) ++ reverse (take m xs) = ap reverse (sym e) ∙ reverse-append (take m xs) (drop m xs) in
    rw r (take_at (reverse (drop m xs)) (reverse (take m xs)) n (length-reverse (drop m xs) ∙ length-drop m xs ∙ omega arith))

rests : {X : Type 0} (xs : List X) (n : ℕ) → n ≤ length xs → drop n (reverse xs) ≡ reverse (take (length xs - n) xs)
rests xs n b =
    let m = length xs - n in
    let e : take m xs ++ drop m xs ≡ xs = take-append-drop m xs in
    let r : reverse xs ≡ reverse (drop m xs) ++ reverse (take m xs) = ap reverse (sym e) ∙ reverse-append (take m xs) (drop m xs) in
    rw r (drop_at (reverse (drop m xs)) (reverse (take m xs)) n (length-reverse (drop m xs) ∙ length-drop m xs ∙ omega arith))

-- a stack that begins at s, the top first, of a list that is cut by n
pub cut_stack : {X : Type 0} (xs : List X) (s c n : ℕ) → s ≤ c → c + n ≡ length xs → reverse (drop s (take c xs)) ≡ drop n (reverse (drop s xs))
cut_stack xs s c n a e =
    let zs = drop s xs in
    let z : length zs ≡ length xs - s = length-drop s xs in
    let low : s + (length zs - n) ≡ c = omega arith in
    sym (rests zs n (omega arith) ∙ ap reverse (sym (drop-take s (length zs - n) xs)) ∙ ap (λ i. reverse (drop s (take i xs))) low)

-- and its top n
pub top_stack : {X : Type 0} (xs : List X) (s c n : ℕ) → s ≤ c → c + n ≡ length xs → take n (reverse (drop s xs)) ≡ reverse (drop c xs)
top_stack xs s c n a e =
    let zs = drop s xs in
    let z : length zs ≡ length xs - s = length-drop s xs in
    let high : s + (length zs - n) ≡ c = omega arith in
    tops zs n (omega arith) ∙ ap reverse (drop-drop (length zs - n) s xs ∙ ap (λ i. drop i xs) high)

-- the first of some values, and enough undefined ones
filled_to : (m k : ℕ) (vs : List Value) → length vs ≤ m → m ≤ k → take m (vs ++ replicate k Undefined) ≡ vs ++ replicate (m - length vs) Undefined
filled_to m k [] b c =
    let e : m ≡ m - length (let none : List Value = [] in none) = omega arith in
    take-replicate m k Undefined c ∙ ap (λ i. replicate i Undefined) e
filled_to zero k (v ∷ vs) b c = absurd (omega arith)
filled_to (suc m) k (v ∷ vs) b c =
    let e : m - length vs ≡ suc m - length (v ∷ vs) = omega arith in
    ap (λ ys. v ∷ ys) (filled_to m k vs (omega arith) (omega arith) ∙ ap (λ i. vs ++ replicate i Undefined) e)

-- ---- the newest frame

pub length_living : (h : Head) (bs : List Below) (vs : List Value) (ss : List ScopeEntry) → length (living_in h bs vs ss) ≡ length bs
length_living h [] vs ss = refl
length_living h (b ∷ bs) vs ss = ap suc (length_living b.head bs (take b.values vs) (take b.scopes ss))

pub operands_within : (h : Head) (bs : List Below) (vs : List Value) (ss : List ScopeEntry) (n : ℕ) → h.marks.stack_at ≤ length vs → n ≤ length (newest_of (living_in h bs vs ss)).stack → h.marks.stack_at + n ≤ length vs
operands_within h [] vs ss n a b = omega arith
operands_within h (x ∷ bs) vs ss n a b = omega (arith, length-reverse (drop h.marks.stack_at vs), length-drop h.marks.stack_at vs)

pub live_operands : (h : Head) (bs : List Below) (vs : List Value) (ss : List ScopeEntry) (n : ℕ) → n < length (newest_of (living_in h bs vs ss)).stack → 0 < length bs
live_operands h [] vs ss n b = absurd (omega arith)
live_operands h (x ∷ bs) vs ss n b = omega arith

pub locals_within : (h : Head) (bs : List Below) (vs : List Value) (ss : List ScopeEntry) (n : ℕ) → h.marks.stack_at ≤ length vs → n < length (newest_of (living_in h bs vs ss)).locals → h.marks.locals_at + n < h.marks.stack_at
locals_within h [] vs ss n a b = absurd (omega arith)
locals_within h (x ∷ bs) vs ss n a b = omega (arith, length-drop h.marks.locals_at (take h.marks.stack_at vs), length-take-le h.marks.stack_at vs a)

pub live_locals : (h : Head) (bs : List Below) (vs : List Value) (ss : List ScopeEntry) (n : ℕ) → n < length (newest_of (living_in h bs vs ss)).locals → 0 < length bs
live_locals h [] vs ss n b = absurd (omega arith)
live_locals h (x ∷ bs) vs ss n b = omega arith

pub live_scopes : (h : Head) (bs : List Below) (vs : List Value) (ss : List ScopeEntry) (n : ℕ) → n < length (newest_of (living_in h bs vs ss)).scopes → 0 < length bs
live_scopes h [] vs ss n b = absurd (omega arith)
live_scopes h (x ∷ bs) vs ss n b = omega arith

pub scopes_within : (h : Head) (bs : List Below) (vs : List Value) (ss : List ScopeEntry) (n : ℕ) → h.marks.scopes_at ≤ length ss → n ≤ length (newest_of (living_in h bs vs ss)).scopes → h.marks.scopes_at + n ≤ length ss
scopes_within h [] vs ss n a b = omega arith
scopes_within h (x ∷ bs) vs ss n a b = omega (arith, length-drop h.marks.scopes_at ss)

pub live_size : (m : Marks) (bs : List Below) (n : ℕ) → n < (first_size (sizes_between m bs)).stack → 0 < length bs
live_size m [] n b = absurd (omega arith)
live_size m (x ∷ bs) n b = omega arith

pub live_scope_size : (m : Marks) (bs : List Below) (n : ℕ) → n < (first_size (sizes_between m bs)).scopes → 0 < length bs
live_scope_size m [] n b = absurd (omega arith)
live_scope_size m (x ∷ bs) n b = omega arith

-- a value more, or a scope more, is within the size
pub push_fits : (h : Head) (bs : List Below) (vs : List Value) (ss : List ScopeEntry) → h.marks.stack_at ≤ length vs → length (newest_of (living_in h bs vs ss)).stack < (first_size (sizes_between h.marks bs)).stack → length vs < h.marks.stack_at + h.marks.max_stack
push_fits h [] vs ss a b = absurd (omega arith)
push_fits h (x ∷ bs) vs ss a b = omega (arith, length-reverse (drop h.marks.stack_at vs), length-drop h.marks.stack_at vs)

pub scope_fits : (h : Head) (bs : List Below) (vs : List Value) (ss : List ScopeEntry) → h.marks.scopes_at ≤ length ss → length (newest_of (living_in h bs vs ss)).scopes < (first_size (sizes_between h.marks bs)).scopes → length ss < h.marks.scopes_at + h.marks.max_scopes
scope_fits h [] vs ss a b = absurd (omega arith)
scope_fits h (x ∷ bs) vs ss a b = omega (arith, length-drop h.marks.scopes_at ss)

pub catch_fits : (m : Marks) (bs : List Below) → 0 < (first_size (sizes_between m bs)).stack → 0 < m.max_stack
catch_fits m [] b = absurd (omega arith)
catch_fits m (x ∷ bs) b = b

-- ---- what is written

-- no frame under the newest changes where the lists agree up to where that begins
below_same : (m : Marks) (b : Below) (bs : List Below) (us vs : List Value) (ts ss : List ScopeEntry) → IsOver m b → take m.locals_at us ≡ take m.locals_at vs → take m.scopes_at ts ≡ take m.scopes_at ss → living_in b.head bs (take b.values us) (take b.scopes ts) ≡ living_in b.head bs (take b.values vs) (take b.scopes ss)
below_same m b bs us vs ts ss o e f =
    let p : take b.values us ≡ take b.values vs = agree b.values m.locals_at us vs o.values e in
    let q : take b.scopes ts ≡ take b.scopes ss = agree b.scopes m.scopes_at ts ss o.scopes f in
    rw (p, q) refl

pub push_view : (h : Head) (bs : List Below) (vs : List Value) (ss : List ScopeEntry) (v : Value) → IsFrameWithin h.marks (length vs) (length ss) → AreFramesLaid h.marks bs → 0 < length bs → living_in h bs (vs ++ v ∷ []) ss ≡ after_push v (newest_of (living_in h bs vs ss)) ∷ under (living_in h bs vs ss)
push_view h [] vs ss v o l p = absurd (omega arith)
push_view h (b ∷ bs) vs ss v o l p =
    let a : h.marks.locals_at ≤ length vs = omega (arith, o.locals, o.stack) in
    let u = below_same h.marks b bs (vs ++ v ∷ []) vs ss ss l.0 (take-append-le h.marks.locals_at vs (v ∷ []) a) refl in
    let t = take-append-le h.marks.stack_at vs (v ∷ []) o.stack in
    let s = top_more h.marks.stack_at vs v o.stack in
    rw (u, t, s) refl

pub scope_view : (h : Head) (bs : List Below) (vs : List Value) (ss : List ScopeEntry) (x : ScopeEntry) → h.marks.scopes_at ≤ length ss → AreFramesLaid h.marks bs → 0 < length bs → living_in h bs vs (ss ++ x ∷ []) ≡ with_scope x (newest_of (living_in h bs vs ss)) ∷ under (living_in h bs vs ss)
scope_view h [] vs ss x a l p = absurd (omega arith)
scope_view h (b ∷ bs) vs ss x a l p =
    let u = below_same h.marks b bs vs vs (ss ++ x ∷ []) ss l.0 refl (take-append-le h.marks.scopes_at ss (x ∷ []) a) in
    let s = drop-append-le h.marks.scopes_at ss (x ∷ []) a in
    rw (u, s) refl

pub local_view : (h : Head) (bs : List Below) (vs : List Value) (ss : List ScopeEntry) (n : ℕ) (v : Value) → AreFramesLaid h.marks bs → h.marks.locals_at + n < h.marks.stack_at → 0 < length bs → living_in h bs (set vs (h.marks.locals_at + n) v) ss ≡ with_local n v (newest_of (living_in h bs vs ss)) ∷ under (living_in h bs vs ss)
local_view h [] vs ss n v l a p = absurd (omega arith)
local_view h (b ∷ bs) vs ss n v l a p =
    let u = below_same h.marks b bs (set vs (h.marks.locals_at + n) v) vs ss ss l.0 (take-set-le h.marks.locals_at vs (h.marks.locals_at + n) v (omega arith)) refl in
    let t = take-set-lt h.marks.stack_at vs (h.marks.locals_at + n) v a in
    let d = drop-set-add h.marks.locals_at (take h.marks.stack_at vs) n v in
    let s = drop-set-lt h.marks.stack_at vs (h.marks.locals_at + n) v a in
    rw (u, t, d, s) refl

pub operand_view : (h : Head) (bs : List Below) (vs : List Value) (ss : List ScopeEntry) (n : ℕ) (v : Value) → IsFrameWithin h.marks (length vs) (length ss) → AreFramesLaid h.marks bs → h.marks.stack_at + suc n ≤ length vs → 0 < length bs → living_in h bs (set vs (length vs - 1 - n) v) ss ≡ with_operand n v (newest_of (living_in h bs vs ss)) ∷ under (living_in h bs vs ss)
operand_view h [] vs ss n v o l a p = absurd (omega arith)
operand_view h (b ∷ bs) vs ss n v o l a p =
    let sa = h.marks.stack_at in
    let zs = drop sa vs in
    let z : length zs ≡ length vs - sa = length-drop sa vs in
    let at : length vs - 1 - n ≡ sa + (length zs - 1 - n) = omega arith in
    let back : length zs - 1 - (length zs - 1 - n) ≡ n = omega arith in
    let u = below_same h.marks b bs (set vs (length vs - 1 - n) v) vs ss ss l.0 (take-set-le h.marks.locals_at vs (length vs - 1 - n) v (omega (arith, o.locals))) refl in
    let t = take-set-le sa vs (length vs - 1 - n) v (omega arith) in
    let s : reverse (drop sa (set vs (length vs - 1 - n) v)) ≡ set (reverse zs) n v = ap (λ k. reverse (drop sa (set vs k v))) at ∙ ap reverse (drop-set-add sa vs (length zs - 1 - n) v) ∙ reverse-set zs (length zs - 1 - n) v (omega arith) ∙ ap (λ k. set (reverse zs) k v) back in
    rw (u, t, s) refl

-- the top n operands leave
pub cut_view : (h : Head) (bs : List Below) (vs : List Value) (ss : List ScopeEntry) (c n : ℕ) → h.marks.locals_at ≤ h.marks.stack_at → AreFramesLaid h.marks bs → h.marks.stack_at ≤ c → c + n ≡ length vs → 0 < length bs → living_in h bs (take c vs) ss ≡ after_drop n (newest_of (living_in h bs vs ss)) ∷ under (living_in h bs vs ss)
cut_view h [] vs ss c n a l b e p = absurd (omega arith)
cut_view h (x ∷ bs) vs ss c n a l b e p =
    let u = below_same h.marks x bs (take c vs) vs ss ss l.0 (take-take h.marks.locals_at c vs (omega arith)) refl in
    let t = take-take h.marks.stack_at c vs b in
    let s = cut_stack vs h.marks.stack_at c n b e in
    rw (u, t, s) refl

-- k operands leave from under the top n
pub under_view : (h : Head) (bs : List Below) (vs : List Value) (ss : List ScopeEntry) (c n k : ℕ) → h.marks.locals_at ≤ h.marks.stack_at → AreFramesLaid h.marks bs → h.marks.stack_at ≤ c → c + (n + k) ≡ length vs → 0 < length bs → living_in h bs (take c vs ++ drop (c + k) vs) ss ≡ dropped_under n k (newest_of (living_in h bs vs ss)) ∷ under (living_in h bs vs ss)
under_view h [] vs ss c n k a l b e p = absurd (omega arith)
under_view h (x ∷ bs) vs ss c n k a l b e p =
    let sa = h.marks.stack_at in
    let z : length (take c vs) ≡ c = length-take-le c vs (omega arith) in
    let low : h.marks.locals_at ≤ length (take c vs) = omega arith in
    let mid : sa ≤ length (take c vs) = omega arith in
    let f : take h.marks.locals_at (take c vs ++ drop (c + k) vs) ≡ take h.marks.locals_at vs = take-append-le h.marks.locals_at (take c vs) (drop (c + k) vs) low ∙ take-take h.marks.locals_at c vs (omega arith) in
    let u = below_same h.marks x bs (take c vs ++ drop (c + k) vs) vs ss ss l.0 f refl in
    let t : take sa (take c vs ++ drop (c + k) vs) ≡ take sa vs = take-append-le sa (take c vs) (drop (c + k) vs) mid ∙ take-take sa c vs b in
    let s : reverse (drop sa (take c vs ++ drop (c + k) vs)) ≡ take n (reverse (drop sa vs)) ++ drop (n + k) (reverse (drop sa vs)) = ap reverse (drop-append-le sa (take c vs) (drop (c + k) vs) mid) ∙ reverse-append (drop sa (take c vs)) (drop (c + k) vs) ∙ ap (λ ys. ys ++ reverse (drop sa (take c vs))) (sym (top_stack vs sa (c + k) n (omega arith) (omega arith))) ∙ ap (λ ys. take n (reverse (drop sa vs)) ++ ys) (cut_stack vs sa c (n + k) b e) in
    rw (u, t, s) refl

pub arguments_are : (h : Head) (bs : List Below) (vs : List Value) (ss : List ScopeEntry) (n : ℕ) → h.marks.stack_at ≤ length vs → n ≤ length (newest_of (living_in h bs vs ss)).stack → drop (length vs - n) vs ≡ arguments n (newest_of (living_in h bs vs ss))
arguments_are h [] vs ss zero a b = drop_all (length vs - zero) vs (omega arith)
arguments_are h [] vs ss (suc n) a b = absurd (omega arith)
arguments_are h (x ∷ bs) vs ss n a b =
    let w : h.marks.stack_at + n ≤ length vs = operands_within h (x ∷ bs) vs ss n a b in
    sym (ap reverse (top_stack vs h.marks.stack_at (length vs - n) n (omega arith) (omega arith)) ∙ reverse-reverse (drop (length vs - n) vs))

pub catch_view : (h : Head) (bs : List Below) (vs : List Value) (ss : List ScopeEntry) (v : Value) (target : ℕ) → IsFrameWithin h.marks (length vs) (length ss) → AreFramesLaid h.marks bs → 0 < length bs → living_in (record h { place = target; wait = Not }) bs (take h.marks.stack_at vs ++ v ∷ []) (take h.marks.scopes_at ss) ≡ after_catch v target (newest_of (living_in h bs vs ss)) ∷ under (living_in h bs vs ss)
catch_view h [] vs ss v target o l p = absurd (omega arith)
catch_view h (x ∷ bs) vs ss v target o l p =
    let sa = h.marks.stack_at in
    let la = h.marks.locals_at in
    let sc = h.marks.scopes_at in
    let z : length (take sa vs) ≡ sa = length-take-le sa vs o.stack in
    let mid : sa ≤ length (take sa vs) = omega arith in
    let low : la ≤ length (take sa vs) = omega (arith, o.locals) in
    let f : take la (take sa vs ++ v ∷ []) ≡ take la vs = take-append-le la (take sa vs) (v ∷ []) low ∙ take-take la sa vs o.locals in
    let g : take sc (take sc ss) ≡ take sc ss = take-take sc sc ss (omega arith) in
    let u = below_same h.marks x bs (take sa vs ++ v ∷ []) vs (take sc ss) ss l.0 f g in
    let t : take sa (take sa vs ++ v ∷ []) ≡ take sa vs = take-append-le sa (take sa vs) (v ∷ []) mid ∙ take-take sa sa vs (omega arith) in
    let none : drop sa (take sa vs) ≡ [] = drop_all sa (take sa vs) (omega arith) in
    let s : reverse (drop sa (take sa vs ++ v ∷ [])) ≡ v ∷ [] = top_more sa (take sa vs) v mid ∙ ap (λ ys. v ∷ reverse ys) none in
    let e : drop sc (take sc ss) ≡ [] = drop_all sc (take sc ss) (omega (arith, length-take sc ss)) in
    rw (u, t, s, e) refl

-- ---- a method is entered

pub new_frame : (m : Marks) (e : Entry) (at : ℕ) (xs : List Value) (ss : List ScopeEntry) (args : List Value) (k : ℕ) → at ≤ length xs → drop at xs ≡ args → k ≡ length args → k ≤ e.size.locals → frame_of (new_head m e at (length ss)) (xs ++ replicate (e.size.locals - k) Undefined) ss ≡ frame_of_entry e args
new_frame m e at xs ss args k a d c b =
    let lc = e.size.locals in
    let us = replicate (lc - k) Undefined in
    let r : length us ≡ lc - k = length-replicate (lc - k) Undefined in
    let n : length args ≡ length xs - at = ap length (sym d) ∙ length-drop at xs in
    let z : length (xs ++ us) ≡ at + lc = length-append xs us ∙ omega arith in
    let all : take (at + lc) (xs ++ us) ≡ xs ++ us = take_all (at + lc) (xs ++ us) (omega arith) in
    let mine : drop at (xs ++ us) ≡ args ++ us = drop-append-le at xs us a ∙ ap (λ ys. ys ++ us) d in
    let over : drop (at + lc) (xs ++ us) ≡ [] = drop_all (at + lc) (xs ++ us) (omega arith) in
    let none : drop (length ss) ss ≡ [] = drop_all (length ss) ss (omega arith) in
    let f : args ++ us ≡ take lc (args ++ replicate lc Undefined) = ap (λ i. args ++ replicate (lc - i) Undefined) c ∙ sym (filled_to lc lc args (omega arith) (omega arith)) in
    rw (all, mine, over, none, f) refl

pub waits : (h : Head) (bs : List Below) (vs : List Value) (ss : List ScopeEntry) (w : Wait) → 0 < length bs → living_in (record h { wait = w }) bs vs ss ≡ waiting w (newest_of (living_in h bs vs ss)) ∷ under (living_in h bs vs ss)
waits h [] vs ss w p = absurd (omega arith)
waits h (x ∷ bs) vs ss w p = refl

-- over a frame whose top n operands leave
pub enter_view : (h : Head) (bs : List Below) (vs xs : List Value) (ss : List ScopeEntry) (e : Entry) (at c n k : ℕ) (w : Wait) (args : List Value) → h.marks.locals_at ≤ h.marks.stack_at → AreFramesLaid h.marks bs → h.marks.stack_at ≤ c → c + n ≡ length vs → c ≤ length xs → at ≤ length xs → take c xs ≡ take c vs → drop at xs ≡ args → k ≡ length args → k ≤ e.size.locals → 0 < length bs → living_in (new_head h.marks e at (length ss)) (record { head = record h { wait = w }; values = c; scopes = length ss } ∷ bs) (xs ++ replicate (e.size.locals - k) Undefined) ss ≡ frame_of_entry e args ∷ waiting w (after_drop n (newest_of (living_in h bs vs ss))) ∷ under (living_in h bs vs ss)
enter_view h bs vs xs ss e at c n k w args a l b s r q t d f g p =
    let us = replicate (e.size.locals - k) Undefined in
    let first = new_frame h.marks e at xs ss args k q d f g in
    let cut : take c (xs ++ us) ≡ take c vs = take-append-le c xs us r ∙ t in
    let whole : take (length ss) ss ≡ ss = take_all (length ss) ss (omega arith) in
    let v = cut_view h bs vs ss c n a l b s p in
    let rest : living_in (record h { wait = w }) bs (take c (xs ++ us)) (take (length ss) ss) ≡ waiting w (after_drop n (newest_of (living_in h bs vs ss))) ∷ under (living_in h bs vs ss) = ap (λ ys. living_in (record h { wait = w }) bs ys (take (length ss) ss)) cut ∙ ap (λ ys. living_in (record h { wait = w }) bs (take c vs) ys) whole ∙ waits h bs (take c vs) ss w p ∙ ap (λ gs. waiting w (newest_of gs) ∷ under gs) v in
    ap (λ y. y ∷ living_in (record h { wait = w }) bs (take c (xs ++ us)) (take (length ss) ss)) first ∙ ap (λ ys. frame_of_entry e args ∷ ys) rest

pub new_sizes : (h : Head) (bs : List Below) (s : Size) (at sc c : ℕ) (w : Wait) → sizes_between (new_marks h.marks s at sc) (record { head = record h { wait = w }; values = c; scopes = sc } ∷ bs) ≡ s ∷ sizes_between h.marks bs
new_sizes h bs s at sc c w =
    let e : at + s.locals - at ≡ s.locals = omega arith in
    rw e refl

abbrev pub mk : List Frame → List Size → (frames values : ℕ) → Frames
mk fs ss frames values = record { living = fs; sizes = ss; frame_limit = frames; value_limit = values }

pub same_frames : (fs gs : List Frame) (ss ts : List Size) (frames values : ℕ) → fs ≡ gs → ss ≡ ts → mk fs ss frames values ≡ mk gs ts frames values
same_frames fs gs ss ts frames values p q = ap (λ ys. mk ys ss frames values) p ∙ ap (λ ys. mk gs ys frames values) q

-- ---- room

pub used_is : (m : Marks) (bs : List Below) → AreFramesLaid m bs → total_of_all (sizes_between m bs) ≡ m.used
used_is m [] l = sym l
used_is m (b ∷ bs) l = omega (arith, used_is b.head.marks bs l.1, l.0.used)

-- ---- what is read

-- what lives has its head
pub newest_is : (h : Head) (bs : List Below) (vs : List Value) (ss : List ScopeEntry) → 0 < length bs → newest_of (living_in h bs vs ss) ≡ frame_of h vs ss
newest_is h [] vs ss p = absurd (omega arith)
newest_is h (x ∷ bs) vs ss p = refl

pub goes : (h : Head) (bs : List Below) (vs : List Value) (ss : List ScopeEntry) (i : ℕ) → 0 < length bs → living_in (record h { place = i }) bs vs ss ≡ at_place i (newest_of (living_in h bs vs ss)) ∷ under (living_in h bs vs ss)
goes h [] vs ss i p = absurd (omega arith)
goes h (x ∷ bs) vs ss i p = refl

get-drop : {X : Type 0} (n : ℕ) (xs : List X) (i : ℕ) → slice_get (drop n xs) i ≡ slice_get xs (n + i)
get-drop zero xs i = let e : i ≡ zero + i = omega arith in ap (slice_get xs) e
get-drop (suc n) [] i = refl
get-drop (suc n) (x ∷ xs) i = let e : suc n + i ≡ suc (n + i) = omega arith in get-drop n xs i ∙ sym (ap (slice_get (x ∷ xs)) e)

get-take : {X : Type 0} (n : ℕ) (xs : List X) (i : ℕ) → i < n → slice_get (take n xs) i ≡ slice_get xs i
get-take zero xs i b = absurd (omega arith)
get-take (suc n) [] i b = refl
get-take (suc n) (x ∷ xs) zero b = refl
get-take (suc n) (x ∷ xs) (suc i) b = get-take n xs i (omega arith)

get-append_left : {X : Type 0} (xs ys : List X) (i : ℕ) → i < length xs → slice_get (xs ++ ys) i ≡ slice_get xs i
get-append_left [] ys i b = absurd (omega arith)
get-append_left (x ∷ xs) ys zero b = refl
get-append_left (x ∷ xs) ys (suc i) b = get-append_left xs ys i (omega arith)

get_last : {X : Type 0} (xs : List X) (x : X) (i : ℕ) → i ≡ length xs → slice_get (xs ++ x ∷ []) i ≡ Some x
get_last [] x zero e = refl
get_last [] x (suc i) e = absurd (omega arith)
get_last (y ∷ ys) x zero e = absurd (omega arith)
get_last (y ∷ ys) x (suc i) e = get_last ys x i (omega arith)

get-reverse : {X : Type 0} (xs : List X) (j i : ℕ) → suc (i + j) ≡ length xs → slice_get (reverse xs) i ≡ slice_get xs j
get-reverse [] j i e = absurd (omega arith)
get-reverse (x ∷ xs) zero i e =
    ap (λ ys. slice_get ys i) (reverse-append (x ∷ []) xs) ∙ get_last (reverse xs) x i (omega (arith, length-reverse xs))
get-reverse (x ∷ xs) (suc j) i e =
    ap (λ ys. slice_get ys i) (reverse-append (x ∷ []) xs) ∙ get-append_left (reverse xs) (x ∷ []) i (omega (arith, length-reverse xs)) ∙ get-reverse xs j i (omega arith)

pub get_local : (h : Head) (bs : List Below) (vs : List Value) (ss : List ScopeEntry) (n : ℕ) (v : Value) → 0 < length bs → h.marks.locals_at + n < h.marks.stack_at → slice_get vs (h.marks.locals_at + n) ≡ Some v → slice_get (newest_of (living_in h bs vs ss)).locals n ≡ Some v
get_local h [] vs ss n v p b e = absurd (omega arith)
get_local h (x ∷ bs) vs ss n v p b e = get-drop h.marks.locals_at (take h.marks.stack_at vs) n ∙ get-take h.marks.stack_at vs (h.marks.locals_at + n) b ∙ e

pub get_operand : (h : Head) (bs : List Below) (vs : List Value) (ss : List ScopeEntry) (n : ℕ) (v : Value) → 0 < length bs → h.marks.stack_at + suc n ≤ length vs → slice_get vs (length vs - 1 - n) ≡ Some v → slice_get (newest_of (living_in h bs vs ss)).stack n ≡ Some v
get_operand h [] vs ss n v p b e = absurd (omega arith)
get_operand h (x ∷ bs) vs ss n v p b e =
    let zs = drop h.marks.stack_at vs in
    let z : length zs ≡ length vs - h.marks.stack_at = length-drop h.marks.stack_at vs in
    let at : h.marks.stack_at + (length zs - 1 - n) ≡ length vs - 1 - n = omega arith in
    get-reverse zs (length zs - 1 - n) n (omega arith) ∙ get-drop h.marks.stack_at vs (length zs - 1 - n) ∙ ap (slice_get vs) at ∙ e
