-- Names and values in turn: from the arguments of the instruction to the stack.
use Rattle.std.proofs.Common.{◌≡◌, ℕ, zero, suc, ◌+◌, ◌-◌, ◌*◌, ◌<◌, ◌≤◌, List, [], ◌∷◌, ◌++◌, length, take, drop, reverse, get_or, set, refl, sym, ap, ◌∙◌, subst, arith}
use Rattle.std.proofs.Math.Seq.{take-suc}
use Rattle.std.proofs.lemmas.List.{ext_get_or, get_or-drop, get_or-set_other, get_or-set_same, length-drop, length-set, reverse-append}
use Rattle.abc_heap_values.specs.declared.values.Span.{Span}
use Rattle.abc_heap_values.specs.declared.values.Value.{Value}
use Rattle.abc_heap_values.specs.declared.values.Value.TheVariants.{Undefined, Null, Num, Bool as Truth, Text, Space, Obj}
use Rattle.abc_base.specs.declared.names.HostClass.TheVariants as hosts
use Rattle.abc_heap_values.specs.declared.values.ObjId.{ObjId}
use Rattle.abc_heap_store.specs.declared.records.What.TheVariants as whats
use Rattle.abc_heap_store.specs.Heap.{Heap}
use Rattle.abc_heap_store.specs.Texts.{IsText}
use Rattle.abc_objects.specs.Values.{Exists}
use Rattle.abc_link_names.specs.Linked.{LinkedFile}
use Rattle.abc_meaning.specs.Newing.{entries_of, set_all}
use Rattle.abc_meaning.specs.Objects.{new_of_host, set_property}
use Rattle.abc_meaning.specs.Ops.{spells}
use Rattle.abc_meaning.specs.Setting.{Setting}
use Rattle.abc_meaning.specs.World.{Outcome, Run, Stop, Stopped, Went, World, and_then, pure, ◌>>=◌, ◌>>◌}
use Rattle.abc_run_state.specs.Makers.{make_object}
use Rattle.abc_run_state.specs.Pairs.{pairs_at, pair_name, pairs_of, pair_texts, pair_text, value_at, with_name}

-- ---- a list that is written

other : (vs : List Value) (i k : ℕ) (v : Value) → (k ≡ i → ⊥) → get_or (set vs i v) k Undefined ≡ get_or vs k Undefined
other vs i k v ne = get_or-set_other vs i k v Undefined ne

-- pairs under one that is written
pairs_kept : (n i : ℕ) (vs : List Value) (v : Value) → 2 * n ≤ i → pairs_of n (set vs i v) ≡ pairs_of n vs
pairs_kept zero i vs v h = refl
pairs_kept (suc n) i vs v h =
    let a = other vs i (2 * n + 1) v (λ q. omega (arith, q, h)) in
    let b = other vs i (2 * n) v (λ q. omega (arith, q, h)) in
    let c = pairs_kept n i vs v (omega arith) in
    cc

-- the arguments are the pairs
two_more : (n : ℕ) (vs : List Value) → 2 * suc n ≤ length vs → take (2 * suc n) vs ≡ (take (2 * n) vs ++ value_at n vs ∷ []) ++ pair_name n vs ∷ []
two_more n vs b =
    let same : 2 * suc n ≡ suc (suc (2 * n)) = omega arith in
    let next : suc (2 * n) ≡ 2 * n + 1 = omega arith in
    ap (λ k. take k vs) same ∙ take-suc vs (suc (2 * n)) Undefined (omega (arith, b))
    ∙ ap (λ xs. xs ++ get_or vs (suc (2 * n)) Undefined ∷ []) (take-suc vs (2 * n) Undefined (omega (arith, b)))
    ∙ ap (λ k. (take (2 * n) vs ++ value_at n vs ∷ []) ++ get_or vs k Undefined ∷ []) next

pub pairs_are : (n : ℕ) (vs : List Value) → 2 * n ≤ length vs → reverse (take (2 * n) vs) ≡ pairs_of n vs
pairs_are zero vs b = refl
pairs_are (suc n) vs b =
    ap (λ (xs : List Value). reverse xs) (two_more n vs b)
    ∙ reverse-append (take (2 * n) vs ++ value_at n vs ∷ []) (pair_name n vs ∷ [])
    ∙ ap (λ xs. pair_name n vs ∷ xs) (reverse-append (take (2 * n) vs) (value_at n vs ∷ []))
    ∙ ap (λ xs. pair_name n vs ∷ value_at n vs ∷ xs) (pairs_are n vs (omega (arith, b)))

-- ---- what is spelled leaves the deeper ones as they are

abbrev Keeps : ℕ → List Value → Outcome (List Value) → Type 0
Keeps n vs (Went w ws) = (length ws ≡ length vs) × ((k : ℕ) → 2 * n ≤ k → get_or ws k Undefined ≡ get_or vs k Undefined)
Keeps n vs (Stopped w why) = Unit {0}

keeps_more : (n i : ℕ) (vs us : List Value) (o : Outcome (List Value)) → length us ≡ length vs → ((k : ℕ) → 2 * suc n ≤ k → get_or us k Undefined ≡ get_or vs k Undefined) → Keeps n us o → Keeps (suc n) vs o
keeps_more n i vs us (Stopped w why) l e h = tt
keeps_more n i vs us (Went w ws) l e h = (h.0 ∙ l, λ k b. h.1 k (omega arith) ∙ e k b)

keeps_then : (p : Setting) (n : ℕ) (vs : List Value) (o : Outcome Span) → ((w : World) (t : Span) → Keeps n (with_name n t vs) (pair_texts p n (with_name n t vs) w)) → Keeps (suc n) vs (and_then o (λ t. pair_texts p n (with_name n t vs)))
keeps_then p n vs (Stopped w why) h = tt
keeps_then p n vs (Went w t) h = keeps_more n (2 * n + 1) vs (with_name n t vs) (pair_texts p n (with_name n t vs) w) (length-set vs (2 * n + 1) (Text t)) (λ k b. other vs (2 * n + 1) k (Text t) (λ q. omega (arith, q, b))) (h w t)

spelled_keeps : (p : Setting) (n : ℕ) (vs : List Value) (w : World) → Keeps n vs (pair_texts p n vs w)
spelled_keeps p zero vs w = (refl, λ k b. refl)
spelled_keeps p (suc n) vs w = keeps_then p n vs (spells p (pair_name n vs) w) (λ u t. spelled_keeps p n (with_name n t vs) u)

pub spelled_drop : (p : Setting) (n : ℕ) (vs ws : List Value) (w new : World) → pair_texts p n vs w ≡ Went new ws → drop (2 * n) ws ≡ drop (2 * n) vs
spelled_drop p n vs ws w new e =
    let k = subst (Keeps n vs) e (spelled_keeps p n vs w) in
    ext_get_or Undefined (drop (2 * n) ws) (drop (2 * n) vs) (length-drop (2 * n) ws ∙ ap (λ m. m - 2 * n) k.0 ∙ sym (length-drop (2 * n) vs))
    (λ i b. get_or-drop (2 * n) ws i Undefined ∙ k.1 (2 * n + i) (omega arith) ∙ sym (get_or-drop (2 * n) vs i Undefined))

-- ---- the entries of the arguments are those that then stand there

entry_then : (n : ℕ) (t : Span) (v : Value) (o : Outcome (List Value)) (vs : List Value) → 2 * n + 1 < length vs → v ≡ value_at n vs → Keeps n (with_name n t vs) o
    → and_then (and_then o (λ ws. pure (pairs_at n ws))) (λ es. pure ((t, v) ∷ es)) ≡ and_then o (λ ws. pure (pairs_at (suc n) ws))
entry_then n t v (Stopped w why) vs b e k = refl
entry_then n t v (Went w ws) vs b e k =
    let name : pair_name n ws ≡ Text t = k.1 (2 * n + 1) (omega arith) ∙ get_or-set_same vs (2 * n + 1) (Text t) Undefined b in
    let value : value_at n ws ≡ v = k.1 (2 * n) (omega arith) ∙ other vs (2 * n + 1) (2 * n) (Text t) (λ q. omega (arith, q)) ∙ sym e in
    ap (λ (x : Value). Went w ((pair_text x, v) ∷ pairs_at n ws)) (sym name) ∙ ap (λ (x : Value). Went w ((pair_text (pair_name n ws), x) ∷ pairs_at n ws)) (sym value)

entries_then : (p : Setting) (n : ℕ) (vs : List Value) (o : Outcome Span) → 2 * suc n ≤ length vs
    → ((w : World) (t : Span) → entries_of p (pairs_of n (with_name n t vs)) w ≡ and_then (pair_texts p n (with_name n t vs) w) (λ ws. pure (pairs_at n ws)))
    → and_then o (λ t. entries_of p (pairs_of n vs) >>= λ es. pure ((t, value_at n vs) ∷ es)) ≡ and_then (and_then o (λ t. pair_texts p n (with_name n t vs))) (λ ws. pure (pairs_at (suc n) ws))
entries_then p n vs (Stopped w why) b h = refl
entries_then p n vs (Went w t) b h =
    ap (λ xs. and_then (entries_of p xs w) (λ es. pure ((t, value_at n vs) ∷ es))) (sym (pairs_kept n (2 * n + 1) vs (Text t) (omega arith)))
    ∙ ap (λ o. and_then o (λ es. pure ((t, value_at n vs) ∷ es))) (h w t)
    ∙ entry_then n t (value_at n vs) (pair_texts p n (with_name n t vs) w) vs (omega arith) refl (spelled_keeps p n (with_name n t vs) w)

pub entries_spelled : (p : Setting) (n : ℕ) (vs : List Value) (w : World) → 2 * n ≤ length vs → entries_of p (pairs_of n vs) w ≡ and_then (pair_texts p n vs w) (λ ws. pure (pairs_at n ws))
entries_spelled p zero vs w b = refl
entries_spelled p (suc n) vs w b = entries_then p n vs (spells p (pair_name n vs) w) b (λ u t. entries_spelled p n (with_name n t vs) u (omega (arith, length-set vs (2 * n + 1) (Text t), b)))

-- ---- one pair after the other

-- the deepest pair that is left is spelled
pub spelled_step : (p : Setting) (n m : ℕ) (vs : List Value) (w new : World) (t : Span) → m ≡ suc n → spells p (pair_name n vs) w ≡ Went new t → pair_texts p m vs w ≡ pair_texts p n (with_name n t vs) new
spelled_step p n m vs w new t e s = ap (λ k. pair_texts p k vs w) e ∙ ap (λ o. and_then o (λ u. pair_texts p n (with_name n u vs))) s

pub spelled_stops : (p : Setting) (n m : ℕ) (vs : List Value) (w new : World) (why : Stop) → m ≡ suc n → spells p (pair_name n vs) w ≡ Stopped new why → pair_texts p m vs w ≡ Stopped new why
spelled_stops p n m vs w new why e s = ap (λ k. pair_texts p k vs w) e ∙ ap (λ o. and_then o (λ u. pair_texts p n (with_name n u vs))) s

-- and it is put
pub put_step : (p : Setting) (o : ObjId) (n m : ℕ) (vs : List Value) (w new : World) → m ≡ suc n → set_property p o (pair_text (pair_name n vs)) (value_at n vs) w ≡ Went new tt → set_all p o (pairs_at m vs) w ≡ set_all p o (pairs_at n vs) new
put_step p o n m vs w new e s = ap (λ k. set_all p o (pairs_at k vs) w) e ∙ ap (λ r. and_then r (λ u. set_all p o (pairs_at n vs))) s

pub put_stops : (p : Setting) (o : ObjId) (n m : ℕ) (vs : List Value) (w new : World) (why : Stop) → m ≡ suc n → set_property p o (pair_text (pair_name n vs)) (value_at n vs) w ≡ Stopped new why → set_all p o (pairs_at m vs) w ≡ Stopped new why
put_stops p o n m vs w new why e s = ap (λ k. set_all p o (pairs_at k vs) w) e ∙ ap (λ r. and_then r (λ u. set_all p o (pairs_at n vs))) s

-- by what the calls gave
pub put_is : (p : Setting) (o : ObjId) (n : ℕ) (us vs : List Value) (t : Span) (x v : Value) (w : World) → us ≡ vs → x ≡ pair_name n us → t ≡ pair_text x → v ≡ value_at n us
    → set_property p o (pair_text (pair_name n vs)) (value_at n vs) w ≡ set_property p o t v w
put_is p o n us vs t x v w same is text value =
    let e : pair_text (pair_name n vs) ≡ t = ap (λ (ws : List Value). pair_text (pair_name n ws)) (sym same) ∙ ap pair_text (sym is) ∙ sym text in
    let f : value_at n vs ≡ v = ap (λ (ws : List Value). value_at n ws) (sym same) ∙ sym value in
    ap (λ s. set_property p o s (value_at n vs) w) e ∙ ap (λ y. set_property p o t y w) f

-- the text of a value that is there is there
pub text_there : (l : LinkedFile) (h : Heap) (v : Value) → Exists l h v → IsText l.file.strings h (pair_text v)
text_there l h (Text t) e = e
text_there l h Undefined e = omega arith
text_there l h Null e = omega arith
text_there l h (Num n) e = omega arith
text_there l h (Truth b) e = omega arith
text_there l h (Space n) e = omega arith
text_there l h (Obj o) e = omega arith

-- ---- the whole instruction

pub object_spelled : (p : Setting) (n : ℕ) (vs : List Value) (w : World) → 2 * n ≤ length vs
    → make_object p (reverse (take (2 * n) vs)) w ≡ and_then (and_then (pair_texts p n vs w) (λ ws. pure (pairs_at n ws))) (λ es. new_of_host p hosts.Object whats.Plain >>= λ o. set_all p o es >> pure (Obj o))
object_spelled p n vs w b =
    ap (λ xs. make_object p xs w) (pairs_are n vs b)
    ∙ ap (λ r. and_then r (λ es. new_of_host p hosts.Object whats.Plain >>= λ o. set_all p o es >> pure (Obj o))) (entries_spelled p n vs w b)

-- the parts after the names
abbrev makes_after : Setting → List (Span × Value) → Run Value
makes_after p es = new_of_host p hosts.Object whats.Plain >>= λ o. set_all p o es >> pure (Obj o)

abbrev then_made : Setting → ℕ → Outcome (List Value) → Outcome Value
then_made p n r = and_then (and_then r (λ ws. pure (pairs_at n ws))) (makes_after p)

pub names_stop : (p : Setting) (n : ℕ) (vs : List Value) (w new : World) (why : Stop) → 2 * n ≤ length vs → pair_texts p n vs w ≡ Stopped new why → make_object p (reverse (take (2 * n) vs)) w ≡ Stopped new why
names_stop p n vs w new why b e = object_spelled p n vs w b ∙ ap (then_made p n) e

after_names : (p : Setting) (n : ℕ) (vs ws : List Value) (w a : World) → 2 * n ≤ length vs → pair_texts p n vs w ≡ Went a ws → make_object p (reverse (take (2 * n) vs)) w ≡ makes_after p (pairs_at n ws) a
after_names p n vs ws w a b e = object_spelled p n vs w b ∙ ap (then_made p n) e

put_after : Setting → List (Span × Value) → Outcome ObjId → Outcome Value
put_after p es r = and_then r (λ o. set_all p o es >> pure (Obj o))

pub making_stops : (p : Setting) (n : ℕ) (vs ws : List Value) (w a new : World) (why : Stop) → 2 * n ≤ length vs → pair_texts p n vs w ≡ Went a ws → new_of_host p hosts.Object whats.Plain a ≡ Stopped new why → make_object p (reverse (take (2 * n) vs)) w ≡ Stopped new why
unfolding put_after
making_stops p n vs ws w a new why b e m = after_names p n vs ws w a b e ∙ ap (put_after p (pairs_at n ws)) m

after_made : (p : Setting) (n : ℕ) (vs ws : List Value) (w a c : World) (o : ObjId) → 2 * n ≤ length vs → pair_texts p n vs w ≡ Went a ws → new_of_host p hosts.Object whats.Plain a ≡ Went c o → make_object p (reverse (take (2 * n) vs)) w ≡ and_then (set_all p o (pairs_at n ws) c) (λ u. pure (Obj o))
unfolding put_after
after_made p n vs ws w a c o b e m = after_names p n vs ws w a b e ∙ ap (put_after p (pairs_at n ws)) m

pub putting_stops : (p : Setting) (n : ℕ) (vs ws : List Value) (w a c new : World) (o : ObjId) (why : Stop) → 2 * n ≤ length vs → pair_texts p n vs w ≡ Went a ws → new_of_host p hosts.Object whats.Plain a ≡ Went c o → set_all p o (pairs_at n ws) c ≡ Stopped new why → make_object p (reverse (take (2 * n) vs)) w ≡ Stopped new why
putting_stops p n vs ws w a c new o why b e m s = after_made p n vs ws w a c o b e m ∙ ap (λ r. and_then r (λ u. pure (Obj o))) s

pub object_is_made : (p : Setting) (n : ℕ) (vs ws : List Value) (w a c new : World) (o : ObjId) → 2 * n ≤ length vs → pair_texts p n vs w ≡ Went a ws → new_of_host p hosts.Object whats.Plain a ≡ Went c o → set_all p o (pairs_at n ws) c ≡ Went new tt → make_object p (reverse (take (2 * n) vs)) w ≡ Went new (Obj o)
object_is_made p n vs ws w a c new o b e m s = after_made p n vs ws w a c o b e m ∙ ap (λ r. and_then r (λ u. pure (Obj o))) s
