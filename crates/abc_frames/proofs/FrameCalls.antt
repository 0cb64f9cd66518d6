-- What each call does: it has room, the lists stay laid, and the frames change as is said.
use Rattle.std.proofs.Common.{◌≡◌, ℕ, suc, ◌+◌, ◌-◌, ◌≤◌, ◌<◌, List, [], ◌∷◌, ◌++◌, length, take, drop, set, reverse, replicate, refl, sym, ap, ◌∙◌, arith, length-append, length-drop, Some, Ok, Err, true, false, nat_le, slice_get}
use Rattle.std.proofs.lemmas.List.{reverse-append, length-reverse, length-take, length-take-le, length-replicate, length-set, nil_from_length, drop_at, take_at}
use Rattle.std.proofs.lemmas.Bool.Decides.{nat_tests}
use Rattle.abc_heap_values.specs.declared.values.Value.{Value}
use Rattle.abc_heap_values.specs.declared.values.Value.TheVariants.{Undefined}
use Rattle.abc_heap_values.specs.Filling.{Filling}
use Rattle.abc_heap_store.specs.declared.records.Limit.TheVariants.{Frames as FrameLimit, Stack as StackLimit}
use Rattle.abc_heap_store.specs.declared.records.ScopeEntry.{ScopeEntry}
use Rattle.abc_frames.specs.declared.records.Below.{Below}
use Rattle.abc_frames.specs.declared.records.Entry.{Entry}
use Rattle.abc_frames.specs.declared.records.Head.{Head}
use Rattle.abc_frames.specs.declared.records.Marks.{Marks}
use Rattle.abc_frames.specs.declared.records.Size.{Size}
use Rattle.abc_frames.specs.declared.records.Wait.{Wait}
use Rattle.abc_frames.specs.declared.records.Wait.TheVariants.{Not}
use Rattle.abc_frames.specs.Frame.{Frame, Frames, newest, newest_size, with_newest, after_push, with_operand, after_drop, dropped_under, with_local, with_scope, at_place, waiting, after_catch, arguments, after_entry, frames_at_start, after_leave, HasRoomForFrame, room_for, total_size, total_of_all}
use Rattle.abc_frames.specs.Laid.{frame_of, sizes_between, frames_in, AreFramesLaid, IsLaid, new_head, new_marks}
use Rattle.abc_frames.proofs.Views.{mk, same_frames, length_living, operands_within, live_operands, locals_within, live_locals, live_scopes, scopes_within, live_size, live_scope_size, push_fits, scope_fits, catch_fits, push_view, scope_view, local_view, operand_view, cut_view, under_view, arguments_are, catch_view, new_frame, enter_view, new_sizes, used_is, newest_is, goes, waits, get_local, get_operand}

-- ---- the lists stay laid

laid_values : (m : Marks) (w : Filling Below) (vs : Filling Value) (ss : Filling ScopeEntry) (us : List Value) → IsLaid m w vs ss → m.stack_at ≤ length us → length us ≤ m.stack_at + m.max_stack → IsLaid m w (record { items = us; limit = vs.limit }) ss
laid_values m w vs ss us l a b = record {
  newest = record { locals = l.newest.locals; stack = a; stack_room = b; scopes_from = l.newest.scopes_from; scopes_room = l.newest.scopes_room; used = l.newest.used };
  laid = l.laid;
  used = l.used;
  limit = l.limit;
  small = l.small;
}

laid_scopes : (m : Marks) (w : Filling Below) (vs : Filling Value) (ss : Filling ScopeEntry) (ts : List ScopeEntry) → IsLaid m w vs ss → m.scopes_at ≤ length ts → length ts ≤ m.scopes_at + m.max_scopes → IsLaid m w vs (record { items = ts; limit = ss.limit })
laid_scopes m w vs ss ts l a b = record {
  newest = record { locals = l.newest.locals; stack = l.newest.stack; stack_room = l.newest.stack_room; scopes_from = a; scopes_room = b; used = l.newest.used };
  laid = l.laid;
  used = l.used;
  limit = l.limit;
  small = l.small;
}

-- frames whose list alone changes
lists : (w : Filling Below) (h : Head) (m : ℕ) (fs gs : List Frame) → fs ≡ gs → mk fs (sizes_between h.marks (reverse w.items)) w.limit m ≡ mk gs (sizes_between h.marks (reverse w.items)) w.limit m
lists w h m fs gs e = ap (λ ys. mk ys (sizes_between h.marks (reverse w.items)) w.limit m) e

-- what lives waits over the ground
pub live : (h : Head) (w : Filling Below) (vs : Filling Value) (ss : Filling ScopeEntry) → 0 < length (frames_in h w vs ss).living → 0 < length (reverse w.items)
live h w vs ss b = omega (arith, length_living h (reverse w.items) vs.items ss.items)

pub depth_is : (h : Head) (w : Filling Below) (vs : Filling Value) (ss : Filling ScopeEntry) → length (frames_in h w vs ss).living ≡ length w.items
depth_is h w vs ss = length_living h (reverse w.items) vs.items ss.items ∙ length-reverse w.items

pub same_depth : (h : Head) (w : Filling Below) (vs us : Filling Value) (ss ts : Filling ScopeEntry) → length (frames_in h w us ts).living ≡ length (frames_in h w vs ss).living
same_depth h w vs us ss ts = depth_is h w us ts ∙ sym (depth_is h w vs ss)

-- ---- operands

pub push_room : (h : Head) (w : Filling Below) (vs : Filling Value) (ss : Filling ScopeEntry) → IsLaid h.marks w vs ss → length (newest (frames_in h w vs ss)).stack < (newest_size (frames_in h w vs ss)).stack → length vs.items + 1 ≤ vs.limit
push_room h w vs ss l b = omega (arith, push_fits h (reverse w.items) vs.items ss.items l.newest.stack b, l.newest.used, l.used)

pub push_laid : (h : Head) (w : Filling Below) (vs : Filling Value) (ss : Filling ScopeEntry) (v : Value) → IsLaid h.marks w vs ss → length (newest (frames_in h w vs ss)).stack < (newest_size (frames_in h w vs ss)).stack → IsLaid h.marks w (record { items = vs.items ++ v ∷ []; limit = vs.limit }) ss
push_laid h w vs ss v l b =
    let n : length (vs.items ++ v ∷ []) ≡ length vs.items + 1 = length-append vs.items (v ∷ []) in
    let f = push_fits h (reverse w.items) vs.items ss.items l.newest.stack b in
    laid_values h.marks w vs ss (vs.items ++ v ∷ []) l (omega (arith, n, l.newest.stack)) (omega (arith, n, f))

pub push_is : (h : Head) (w : Filling Below) (vs : Filling Value) (ss : Filling ScopeEntry) (v : Value) → IsLaid h.marks w vs ss → length (newest (frames_in h w vs ss)).stack < (newest_size (frames_in h w vs ss)).stack → frames_in h w (record { items = vs.items ++ v ∷ []; limit = vs.limit }) ss ≡ with_newest (after_push v) (frames_in h w vs ss)
push_is h w vs ss v l b =
    let p : 0 < length (reverse w.items) = live_size h.marks (reverse w.items) (length (newest (frames_in h w vs ss)).stack) b in
    lists w h vs.limit _ _ (push_view h (reverse w.items) vs.items ss.items v l.newest l.laid p)

-- a value that leaves a list, whose operands are there
pub record Pops (h : Head) (w : Filling Below) (vs us : Filling Value) (r : Value) : Type 0 where
  pub live : 0 < length (reverse w.items)
  pub more : length vs.items ≡ length us.items + 1
  pub stack : h.marks.stack_at ≤ length us.items

pub pops : (h : Head) (w : Filling Below) (vs us : Filling Value) (ss : Filling ScopeEntry) (r : Value) → vs ≡ record { items = us.items ++ r ∷ []; limit = us.limit } → IsLaid h.marks w vs ss → 0 < length (newest (frames_in h w vs ss)).stack → Pops h w vs us r
pops h w vs us ss r e l b =
    let n : length vs.items ≡ length us.items + 1 = ap (λ (f : Filling Value). length f.items) e ∙ length-append us.items (r ∷ []) in
    let k : h.marks.stack_at + 1 ≤ length vs.items = operands_within h (reverse w.items) vs.items ss.items 1 l.newest.stack b in
    record { live = live_operands h (reverse w.items) vs.items ss.items 0 b; more = n; stack = omega arith }

pub pop_some : (h : Head) (w : Filling Below) (vs : Filling Value) (ss : Filling ScopeEntry) → IsLaid h.marks w vs ss → 0 < length (newest (frames_in h w vs ss)).stack → 0 < length vs.items
pop_some h w vs ss l b = omega (arith, operands_within h (reverse w.items) vs.items ss.items 1 l.newest.stack b)

pub pop_laid : (h : Head) (w : Filling Below) (vs us : Filling Value) (ss : Filling ScopeEntry) (r : Value) → vs ≡ record { items = us.items ++ r ∷ []; limit = us.limit } → IsLaid h.marks w vs ss → 0 < length (newest (frames_in h w vs ss)).stack → IsLaid h.marks w us ss
pop_laid h w vs us ss r e l b =
    let p : Pops h w vs us r = pops h w vs us ss r e l b in
    let m : vs.limit ≡ us.limit = ap (λ (f : Filling Value). f.limit) e in
    rw m at (laid_values h.marks w vs ss us.items l p.stack (omega (arith, p.more, l.newest.stack_room)))

pub pop_is : (h : Head) (w : Filling Below) (vs us : Filling Value) (ss : Filling ScopeEntry) (r : Value) → vs ≡ record { items = us.items ++ r ∷ []; limit = us.limit } → IsLaid h.marks w vs ss → 0 < length (newest (frames_in h w vs ss)).stack → frames_in h w vs ss ≡ with_newest (after_push r) (frames_in h w us ss)
pop_is h w vs us ss r e l b =
    let p : Pops h w vs us r = pops h w vs us ss r e l b in
    let m : IsLaid h.marks w us ss = pop_laid h w vs us ss r e l b in
    rw e (lists w h us.limit _ _ (push_view h (reverse w.items) us.items ss.items r m.newest m.laid p.live))

pub operand_at : (h : Head) (w : Filling Below) (vs : Filling Value) (ss : Filling ScopeEntry) (n : ℕ) → IsLaid h.marks w vs ss → n < length (newest (frames_in h w vs ss)).stack → h.marks.stack_at + suc n ≤ length vs.items
operand_at h w vs ss n l b = operands_within h (reverse w.items) vs.items ss.items (suc n) l.newest.stack b

pub set_operand_is : (h : Head) (w : Filling Below) (vs : Filling Value) (ss : Filling ScopeEntry) (n : ℕ) (v : Value) → IsLaid h.marks w vs ss → n < length (newest (frames_in h w vs ss)).stack → frames_in h w (record { items = set vs.items (length vs.items - 1 - n) v; limit = vs.limit }) ss ≡ with_newest (with_operand n v) (frames_in h w vs ss)
set_operand_is h w vs ss n v l b =
    lists w h vs.limit _ _ (operand_view h (reverse w.items) vs.items ss.items n v l.newest l.laid (operand_at h w vs ss n l b) (live_operands h (reverse w.items) vs.items ss.items n b))

pub set_laid : (h : Head) (w : Filling Below) (vs : Filling Value) (ss : Filling ScopeEntry) (i : ℕ) (v : Value) → IsLaid h.marks w vs ss → IsLaid h.marks w (record { items = set vs.items i v; limit = vs.limit }) ss
set_laid h w vs ss i v l =
    let n : length (set vs.items i v) ≡ length vs.items = length-set vs.items i v in
    laid_values h.marks w vs ss (set vs.items i v) l (omega (arith, n, l.newest.stack)) (omega (arith, n, l.newest.stack_room))

pub set_local_is : (h : Head) (w : Filling Below) (vs : Filling Value) (ss : Filling ScopeEntry) (n : ℕ) (v : Value) → IsLaid h.marks w vs ss → n < length (newest (frames_in h w vs ss)).locals → frames_in h w (record { items = set vs.items (h.marks.locals_at + n) v; limit = vs.limit }) ss ≡ with_newest (with_local n v) (frames_in h w vs ss)
set_local_is h w vs ss n v l b =
    lists w h vs.limit _ _ (local_view h (reverse w.items) vs.items ss.items n v l.laid (locals_within h (reverse w.items) vs.items ss.items n l.newest.stack b) (live_locals h (reverse w.items) vs.items ss.items n b))

-- where the operands under the top n end
pub operands_from : (h : Head) (w : Filling Below) (vs : Filling Value) (ss : Filling ScopeEntry) (n : ℕ) → IsLaid h.marks w vs ss → n ≤ length (newest (frames_in h w vs ss)).stack → h.marks.stack_at + n ≤ length vs.items
operands_from h w vs ss n l b = operands_within h (reverse w.items) vs.items ss.items n l.newest.stack b

pub cut_laid : (h : Head) (w : Filling Below) (vs : Filling Value) (ss : Filling ScopeEntry) (n : ℕ) → IsLaid h.marks w vs ss → n ≤ length (newest (frames_in h w vs ss)).stack → IsLaid h.marks w (record { items = take (length vs.items - n) vs.items; limit = vs.limit }) ss
cut_laid h w vs ss n l b =
    let a = operands_from h w vs ss n l b in
    let k : length (take (length vs.items - n) vs.items) ≡ length vs.items - n = length-take-le (length vs.items - n) vs.items (omega arith) in
    laid_values h.marks w vs ss (take (length vs.items - n) vs.items) l (omega (arith, k, a)) (omega (arith, k, l.newest.stack_room))

pub cut_is : (h : Head) (w : Filling Below) (vs : Filling Value) (ss : Filling ScopeEntry) (n : ℕ) → IsLaid h.marks w vs ss → n ≤ length (newest (frames_in h w vs ss)).stack → 0 < length (frames_in h w vs ss).living → frames_in h w (record { items = take (length vs.items - n) vs.items; limit = vs.limit }) ss ≡ with_newest (after_drop n) (frames_in h w vs ss)
cut_is h w vs ss n l b p =
    let a = operands_from h w vs ss n l b in
    lists w h vs.limit _ _ (cut_view h (reverse w.items) vs.items ss.items (length vs.items - n) n l.newest.locals l.laid (omega (arith, a)) (omega (arith, a)) (live h w vs ss p))

pub under_laid : (h : Head) (w : Filling Below) (vs : Filling Value) (ss : Filling ScopeEntry) (n k : ℕ) → IsLaid h.marks w vs ss → n + k ≤ length (newest (frames_in h w vs ss)).stack → IsLaid h.marks w (record { items = take (length vs.items - n - k) vs.items ++ drop (length vs.items - n - k + k) vs.items; limit = vs.limit }) ss
under_laid h w vs ss n k l b =
    let c = length vs.items - n - k in
    let a = operands_from h w vs ss (n + k) l b in
    let f : length (take c vs.items) ≡ c = length-take-le c vs.items (omega arith) in
    let z : length (take c vs.items ++ drop (c + k) vs.items) ≡ c + (length vs.items - (c + k)) = length-append (take c vs.items) (drop (c + k) vs.items) ∙ omega (arith, f, length-drop (c + k) vs.items) in
    laid_values h.marks w vs ss (take c vs.items ++ drop (c + k) vs.items) l (omega (arith, z, a)) (omega (arith, z, a, l.newest.stack_room))

pub under_is : (h : Head) (w : Filling Below) (vs : Filling Value) (ss : Filling ScopeEntry) (n k : ℕ) → IsLaid h.marks w vs ss → n + k ≤ length (newest (frames_in h w vs ss)).stack → 0 < length (frames_in h w vs ss).living → frames_in h w (record { items = take (length vs.items - n - k) vs.items ++ drop (length vs.items - n - k + k) vs.items; limit = vs.limit }) ss ≡ with_newest (dropped_under n k) (frames_in h w vs ss)
under_is h w vs ss n k l b p =
    let a = operands_from h w vs ss (n + k) l b in
    lists w h vs.limit _ _ (under_view h (reverse w.items) vs.items ss.items (length vs.items - n - k) n k l.newest.locals l.laid (omega (arith, a)) (omega (arith, a)) (live h w vs ss p))

-- ---- scopes

pub scope_room : (h : Head) (w : Filling Below) (vs : Filling Value) (ss : Filling ScopeEntry) → IsLaid h.marks w vs ss → length (newest (frames_in h w vs ss)).scopes < (newest_size (frames_in h w vs ss)).scopes → length ss.items + 1 ≤ ss.limit
scope_room h w vs ss l b = omega (arith, scope_fits h (reverse w.items) vs.items ss.items l.newest.scopes_from b, l.newest.used, l.used, l.limit)

pub scope_laid : (h : Head) (w : Filling Below) (vs : Filling Value) (ss : Filling ScopeEntry) (x : ScopeEntry) → IsLaid h.marks w vs ss → length (newest (frames_in h w vs ss)).scopes < (newest_size (frames_in h w vs ss)).scopes → IsLaid h.marks w vs (record { items = ss.items ++ x ∷ []; limit = ss.limit })
scope_laid h w vs ss x l b =
    let n : length (ss.items ++ x ∷ []) ≡ length ss.items + 1 = length-append ss.items (x ∷ []) in
    let f = scope_fits h (reverse w.items) vs.items ss.items l.newest.scopes_from b in
    laid_scopes h.marks w vs ss (ss.items ++ x ∷ []) l (omega (arith, n, l.newest.scopes_from)) (omega (arith, n, f))

pub scope_is : (h : Head) (w : Filling Below) (vs : Filling Value) (ss : Filling ScopeEntry) (x : ScopeEntry) → IsLaid h.marks w vs ss → length (newest (frames_in h w vs ss)).scopes < (newest_size (frames_in h w vs ss)).scopes → frames_in h w vs (record { items = ss.items ++ x ∷ []; limit = ss.limit }) ≡ with_newest (with_scope x) (frames_in h w vs ss)
scope_is h w vs ss x l b =
    let p : 0 < length (reverse w.items) = live_scope_size h.marks (reverse w.items) (length (newest (frames_in h w vs ss)).scopes) b in
    lists w h vs.limit _ _ (scope_view h (reverse w.items) vs.items ss.items x l.newest.scopes_from l.laid p)

pub record PopsScope (h : Head) (w : Filling Below) (ss ts : Filling ScopeEntry) : Type 0 where
  pub live : 0 < length (reverse w.items)
  pub more : length ss.items ≡ length ts.items + 1
  pub scopes : h.marks.scopes_at ≤ length ts.items

pub pops_scope : (h : Head) (w : Filling Below) (vs : Filling Value) (ss ts : Filling ScopeEntry) (r : ScopeEntry) → ss ≡ record { items = ts.items ++ r ∷ []; limit = ts.limit } → IsLaid h.marks w vs ss → 0 < length (newest (frames_in h w vs ss)).scopes → PopsScope h w ss ts
pops_scope h w vs ss ts r e l b =
    let n : length ss.items ≡ length ts.items + 1 = ap (λ (f : Filling ScopeEntry). length f.items) e ∙ length-append ts.items (r ∷ []) in
    let k : h.marks.scopes_at + 1 ≤ length ss.items = scopes_within h (reverse w.items) vs.items ss.items 1 l.newest.scopes_from b in
    record { live = live_scopes h (reverse w.items) vs.items ss.items 0 b; more = n; scopes = omega arith }

pub scope_some : (h : Head) (w : Filling Below) (vs : Filling Value) (ss : Filling ScopeEntry) → IsLaid h.marks w vs ss → 0 < length (newest (frames_in h w vs ss)).scopes → 0 < length ss.items
scope_some h w vs ss l b = omega (arith, scopes_within h (reverse w.items) vs.items ss.items 1 l.newest.scopes_from b)

pub pop_scope_laid : (h : Head) (w : Filling Below) (vs : Filling Value) (ss ts : Filling ScopeEntry) (r : ScopeEntry) → ss ≡ record { items = ts.items ++ r ∷ []; limit = ts.limit } → IsLaid h.marks w vs ss → 0 < length (newest (frames_in h w vs ss)).scopes → IsLaid h.marks w vs ts
pop_scope_laid h w vs ss ts r e l b =
    let p : PopsScope h w ss ts = pops_scope h w vs ss ts r e l b in
    let m : ss.limit ≡ ts.limit = ap (λ (f : Filling ScopeEntry). f.limit) e in
    rw m at (laid_scopes h.marks w vs ss ts.items l p.scopes (omega (arith, p.more, l.newest.scopes_room)))

pub pop_scope_is : (h : Head) (w : Filling Below) (vs : Filling Value) (ss ts : Filling ScopeEntry) (r : ScopeEntry) → ss ≡ record { items = ts.items ++ r ∷ []; limit = ts.limit } → IsLaid h.marks w vs ss → 0 < length (newest (frames_in h w vs ss)).scopes → frames_in h w vs ss ≡ with_newest (with_scope r) (frames_in h w vs ts)
pop_scope_is h w vs ss ts r e l b =
    let p : PopsScope h w ss ts = pops_scope h w vs ss ts r e l b in
    rw e (lists w h vs.limit _ _ (scope_view h (reverse w.items) vs.items ts.items r p.scopes l.laid p.live))

-- ---- handlers

pub catch_room : (h : Head) (w : Filling Below) (vs : Filling Value) (ss : Filling ScopeEntry) → IsLaid h.marks w vs ss → 0 < (newest_size (frames_in h w vs ss)).stack → length (take h.marks.stack_at vs.items) + 1 ≤ vs.limit
catch_room h w vs ss l b = omega (arith, catch_fits h.marks (reverse w.items) b, l.newest.used, l.used, length-take h.marks.stack_at vs.items)

pub catch_laid : (h : Head) (w : Filling Below) (vs : Filling Value) (ss : Filling ScopeEntry) (v : Value) → IsLaid h.marks w vs ss → 0 < (newest_size (frames_in h w vs ss)).stack → IsLaid h.marks w (record { items = take h.marks.stack_at vs.items ++ v ∷ []; limit = vs.limit }) (record { items = take h.marks.scopes_at ss.items; limit = ss.limit })
catch_laid h w vs ss v l b =
    let f = catch_fits h.marks (reverse w.items) b in
    let n : length (take h.marks.stack_at vs.items ++ v ∷ []) ≡ h.marks.stack_at + 1 = length-append (take h.marks.stack_at vs.items) (v ∷ []) ∙ ap (λ i. i + 1) (length-take-le h.marks.stack_at vs.items l.newest.stack) in
    let k : length (take h.marks.scopes_at ss.items) ≡ h.marks.scopes_at = length-take-le h.marks.scopes_at ss.items l.newest.scopes_from in
    laid_scopes h.marks w (record { items = take h.marks.stack_at vs.items ++ v ∷ []; limit = vs.limit }) ss (take h.marks.scopes_at ss.items) (laid_values h.marks w vs ss (take h.marks.stack_at vs.items ++ v ∷ []) l (omega (arith, n)) (omega (arith, n, f))) (omega (arith, k)) (omega (arith, k))

pub catch_is : (h : Head) (w : Filling Below) (vs : Filling Value) (ss : Filling ScopeEntry) (v : Value) (target : ℕ) → IsLaid h.marks w vs ss → 0 < (newest_size (frames_in h w vs ss)).stack → frames_in (record h { place = target; wait = Not }) w (record { items = take h.marks.stack_at vs.items ++ v ∷ []; limit = vs.limit }) (record { items = take h.marks.scopes_at ss.items; limit = ss.limit }) ≡ with_newest (after_catch v target) (frames_in h w vs ss)
catch_is h w vs ss v target l b =
    lists w h vs.limit _ _ (catch_view h (reverse w.items) vs.items ss.items v target l.newest l.laid (live_size h.marks (reverse w.items) 0 b))

-- ---- room

pub record HasPlace (m : Marks) (w : Filling Below) (vs : Filling Value) (s : Size) : Type 0 where
  pub frames : length w.items + 1 ≤ w.limit
  pub values : m.used + total_size s ≤ vs.limit

pub has_place : (h : Head) (w : Filling Below) (vs : Filling Value) (ss : Filling ScopeEntry) (s : Size) → IsLaid h.marks w vs ss → HasRoomForFrame (frames_in h w vs ss) s → HasPlace h.marks w vs s
has_place h w vs ss s l r = record { frames = omega (arith, r.0, depth_is h w vs ss); values = omega (arith, r.1, used_is h.marks (reverse w.items) l.laid) }

pub used_in : (h : Head) (w : Filling Below) (vs : Filling Value) (ss : Filling ScopeEntry) → IsLaid h.marks w vs ss → total_of_all (frames_in h w vs ss).sizes ≡ h.marks.used
used_in h w vs ss l = used_is h.marks (reverse w.items) l.laid

pub room_ok : (q : Frames) (s : Size) → length q.living + 1 ≤ q.frame_limit → total_of_all q.sizes + total_size s ≤ q.value_limit → room_for q s ≡ Ok tt
room_ok q s a b = let x : nat_le (length q.living + 1) q.frame_limit ≡ true = grind (arith, nat_tests) in let y : nat_le (total_of_all q.sizes + total_size s) q.value_limit ≡ true = grind (arith, nat_tests) in rw (x, y) refl

pub room_frames : (q : Frames) (s : Size) → q.frame_limit < length q.living + 1 → room_for q s ≡ Err (record { 0 = FrameLimit })
room_frames q s a = let x : nat_le (length q.living + 1) q.frame_limit ≡ false = grind (arith, nat_tests) in rw x refl

pub room_stack : (q : Frames) (s : Size) → length q.living + 1 ≤ q.frame_limit → q.value_limit < total_of_all q.sizes + total_size s → room_for q s ≡ Err (record { 0 = StackLimit })
room_stack q s a b = let x : nat_le (length q.living + 1) q.frame_limit ≡ true = grind (arith, nat_tests) in let y : nat_le (total_of_all q.sizes + total_size s) q.value_limit ≡ false = grind (arith, nat_tests) in rw (x, y) refl

pub arguments_in : (h : Head) (w : Filling Below) (vs : Filling Value) (ss : Filling ScopeEntry) (n : ℕ) → IsLaid h.marks w vs ss → n ≤ length (newest (frames_in h w vs ss)).stack → drop (length vs.items - n) vs.items ≡ arguments n (newest (frames_in h w vs ss))
arguments_in h w vs ss n l b = arguments_are h (reverse w.items) vs.items ss.items n l.newest.stack b

-- ---- entering and leaving

-- a method stands over a head whose operands end at c
pub over_laid : (h : Head) (w : Filling Below) (vs : Filling Value) (ss : Filling ScopeEntry) (zs : List Value) (s : Size) (at c : ℕ) (wait : Wait) → IsLaid h.marks w vs ss → HasPlace h.marks w vs s → h.marks.stack_at ≤ c → c ≤ at → at ≤ length vs.items → length zs ≡ at + s.locals → IsLaid (new_marks h.marks s at (length ss.items)) (record { items = w.items ++ record { head = record h { wait = wait }; values = c; scopes = length ss.items } ∷ []; limit = w.limit }) (record { items = zs; limit = vs.limit }) ss
over_laid h w vs ss zs s at c wait l r a b d z =
    let o = l.newest in
    let last = reverse-append w.items (record { head = record h { wait = wait }; values = c; scopes = length ss.items } ∷ []) in
    record {
      newest = record { locals = omega arith; stack = omega arith; stack_room = omega arith; scopes_from = omega arith; scopes_room = omega arith; used = omega (arith, o.scopes_room, o.stack_room, o.used) };
      laid = rw last (record { values = omega arith; scopes = omega arith; used = omega arith; within = record { locals = o.locals; stack = a; stack_room = omega (arith, o.stack_room); scopes_from = o.scopes_from; scopes_room = o.scopes_room; used = o.used } }, l.laid);
      used = r.values;
      limit = l.limit;
      small = l.small;
    }

pub over_is : (h : Head) (w : Filling Below) (vs : Filling Value) (ss : Filling ScopeEntry) (xs : List Value) (e : Entry) (at c n k : ℕ) (wait : Wait) (args : List Value) → IsLaid h.marks w vs ss → h.marks.stack_at ≤ c → c + n ≡ length vs.items → c ≤ length xs → at ≤ length xs → take c xs ≡ take c vs.items → drop at xs ≡ args → k ≡ length args → k ≤ e.size.locals → 0 < length (frames_in h w vs ss).living → frames_in (new_head h.marks e at (length ss.items)) (record { items = w.items ++ record { head = record h { wait = wait }; values = c; scopes = length ss.items } ∷ []; limit = w.limit }) (record { items = xs ++ replicate (e.size.locals - k) Undefined; limit = vs.limit }) ss ≡ after_entry e args n wait (frames_in h w vs ss)
over_is h w vs ss xs e at c n k wait args l a b d f g i j q p =
    let below : Below = record { head = record h { wait = wait }; values = c; scopes = length ss.items } in
    let last : reverse (w.items ++ below ∷ []) ≡ below ∷ reverse w.items = reverse-append w.items (below ∷ []) in
    rw last (same_frames _ _ _ _ w.limit vs.limit (enter_view h (reverse w.items) vs.items xs ss.items e at c n k wait args l.newest.locals l.laid a b d f g i j q (live h w vs ss p)) (new_sizes h (reverse w.items) e.size at (length ss.items) c wait))

pub over_none : (h : Head) (w : Filling Below) (vs : Filling Value) (ss : Filling ScopeEntry) (xs : List Value) (e : Entry) (at c k : ℕ) (wait : Wait) (args : List Value) → at ≤ length xs → drop at xs ≡ args → k ≡ length args → k ≤ e.size.locals → (frames_in h w vs ss).living ≡ [] → frames_in (new_head h.marks e at (length ss.items)) (record { items = w.items ++ record { head = record h { wait = wait }; values = c; scopes = length ss.items } ∷ []; limit = w.limit }) (record { items = xs ++ replicate (e.size.locals - k) Undefined; limit = vs.limit }) ss ≡ frames_at_start e args (frames_in h w vs ss)
over_none h w vs ss xs e at c k wait args f i j q none =
    let below : Below = record { head = record h { wait = wait }; values = c; scopes = length ss.items } in
    let last : reverse (w.items ++ below ∷ []) ≡ below ∷ reverse w.items = reverse-append w.items (below ∷ []) in
    let zero_below : reverse w.items ≡ [] = nil_from_length (reverse w.items) (sym (length_living h (reverse w.items) vs.items ss.items) ∙ ap length none) in
    rw (last, zero_below) (same_frames _ _ _ _ w.limit vs.limit (ap (λ y. y ∷ []) (new_frame h.marks e at xs ss.items args k f i j q)) (new_sizes h [] e.size at (length ss.items) c wait))

-- with values that fill its locals
filled : (xs : List Value) (at count k : ℕ) → length xs ≡ at + k → k ≤ count → length (xs ++ replicate (count - k) Undefined) ≡ at + count
filled xs at count k e b = length-append xs (replicate (count - k) Undefined) ∙ omega (arith, length-replicate (count - k) Undefined)

-- over no frame
pub start_laid : (h : Head) (w : Filling Below) (vs : Filling Value) (ss : Filling ScopeEntry) (given : List Value) (s : Size) (k : ℕ) (wait : Wait) → IsLaid h.marks w vs ss → HasPlace h.marks w vs s → k ≡ length given → k ≤ s.locals → IsLaid (new_marks h.marks s (length vs.items) (length ss.items)) (record { items = w.items ++ record { head = record h { wait = wait }; values = length vs.items; scopes = length ss.items } ∷ []; limit = w.limit }) (record { items = (vs.items ++ given) ++ replicate (s.locals - k) Undefined; limit = vs.limit }) ss
start_laid h w vs ss given s k wait l r e b =
    let n : length (vs.items ++ given) ≡ length vs.items + k = length-append vs.items given ∙ omega arith in
    over_laid h w vs ss ((vs.items ++ given) ++ replicate (s.locals - k) Undefined) s (length vs.items) (length vs.items) wait l r l.newest.stack (omega arith) (omega arith) (filled (vs.items ++ given) (length vs.items) s.locals k n b)

pub start_is : (h : Head) (w : Filling Below) (vs : Filling Value) (ss : Filling ScopeEntry) (given : List Value) (e : Entry) (k : ℕ) → k ≡ length given → k ≤ e.size.locals → (frames_in h w vs ss).living ≡ [] → frames_in (new_head h.marks e (length vs.items) (length ss.items)) (record { items = w.items ++ record { head = record h { wait = Not }; values = length vs.items; scopes = length ss.items } ∷ []; limit = w.limit }) (record { items = (vs.items ++ given) ++ replicate (e.size.locals - k) Undefined; limit = vs.limit }) ss ≡ frames_at_start e given (frames_in h w vs ss)
start_is h w vs ss given e k c b none =
    over_none h w vs ss (vs.items ++ given) e (length vs.items) (length vs.items) k Not given (omega (arith, length-append vs.items given)) (drop_at vs.items given (length vs.items) refl) c b none

-- over the top n operands, which stay, and k more under them
pub enter_laid : (h : Head) (w : Filling Below) (vs : Filling Value) (ss : Filling ScopeEntry) (s : Size) (n k : ℕ) (wait : Wait) → IsLaid h.marks w vs ss → HasPlace h.marks w vs s → h.marks.stack_at + (n + k) ≤ length vs.items → n ≤ s.locals → IsLaid (new_marks h.marks s (length vs.items - n) (length ss.items)) (record { items = w.items ++ record { head = record h { wait = wait }; values = length vs.items - n - k; scopes = length ss.items } ∷ []; limit = w.limit }) (record { items = vs.items ++ replicate (s.locals - n) Undefined; limit = vs.limit }) ss
enter_laid h w vs ss s n k wait l r a b =
    over_laid h w vs ss (vs.items ++ replicate (s.locals - n) Undefined) s (length vs.items - n) (length vs.items - n - k) wait l r (omega arith) (omega arith) (omega arith) (filled vs.items (length vs.items - n) s.locals n (omega arith) b)

pub enter_is : (h : Head) (w : Filling Below) (vs : Filling Value) (ss : Filling ScopeEntry) (e : Entry) (n k : ℕ) (wait : Wait) → IsLaid h.marks w vs ss → n + k ≤ length (newest (frames_in h w vs ss)).stack → n ≤ e.size.locals → 0 < length (frames_in h w vs ss).living → frames_in (new_head h.marks e (length vs.items - n) (length ss.items)) (record { items = w.items ++ record { head = record h { wait = wait }; values = length vs.items - n - k; scopes = length ss.items } ∷ []; limit = w.limit }) (record { items = vs.items ++ replicate (e.size.locals - n) Undefined; limit = vs.limit }) ss ≡ after_entry e (arguments n (newest (frames_in h w vs ss))) (n + k) wait (frames_in h w vs ss)
enter_is h w vs ss e n k wait l r b p =
    let a : h.marks.stack_at + (n + k) ≤ length vs.items = operands_from h w vs ss (n + k) l r in
    let d = arguments_in h w vs ss n l (omega arith) in
    let m : n ≡ length (arguments n (newest (frames_in h w vs ss))) = sym (ap length (sym d) ∙ length-drop (length vs.items - n) vs.items ∙ omega arith) in
    over_is h w vs ss vs.items e (length vs.items - n) (length vs.items - n - k) (n + k) n wait (arguments n (newest (frames_in h w vs ss))) l (omega arith) (omega arith) (omega arith) (omega arith) refl d m b p

-- in place of the top n operands, with values that are given
with_given : (vs given : List Value) (at k : ℕ) → at ≤ length vs → k ≡ length given → length (take at vs ++ given) ≡ at + k
with_given vs given at k b e = length-append (take at vs) given ∙ omega (arith, length-take-le at vs b)

pub with_laid : (h : Head) (w : Filling Below) (vs : Filling Value) (ss : Filling ScopeEntry) (given : List Value) (s : Size) (n k : ℕ) (wait : Wait) → IsLaid h.marks w vs ss → HasPlace h.marks w vs s → h.marks.stack_at + n ≤ length vs.items → k ≡ length given → k ≤ s.locals → IsLaid (new_marks h.marks s (length vs.items - n) (length ss.items)) (record { items = w.items ++ record { head = record h { wait = wait }; values = length vs.items - n; scopes = length ss.items } ∷ []; limit = w.limit }) (record { items = (take (length vs.items - n) vs.items ++ given) ++ replicate (s.locals - k) Undefined; limit = vs.limit }) ss
with_laid h w vs ss given s n k wait l r a e b =
    let at = length vs.items - n in
    over_laid h w vs ss ((take at vs.items ++ given) ++ replicate (s.locals - k) Undefined) s at at wait l r (omega arith) (omega arith) (omega arith) (filled (take at vs.items ++ given) at s.locals k (with_given vs.items given at k (omega arith) e) b)

pub with_is : (h : Head) (w : Filling Below) (vs : Filling Value) (ss : Filling ScopeEntry) (given : List Value) (e : Entry) (n k : ℕ) (wait : Wait) → IsLaid h.marks w vs ss → n ≤ length (newest (frames_in h w vs ss)).stack → k ≡ length given → k ≤ e.size.locals → 0 < length (frames_in h w vs ss).living → frames_in (new_head h.marks e (length vs.items - n) (length ss.items)) (record { items = w.items ++ record { head = record h { wait = wait }; values = length vs.items - n; scopes = length ss.items } ∷ []; limit = w.limit }) (record { items = (take (length vs.items - n) vs.items ++ given) ++ replicate (e.size.locals - k) Undefined; limit = vs.limit }) ss ≡ after_entry e given n wait (frames_in h w vs ss)
with_is h w vs ss given e n k wait l r c b p =
    let at = length vs.items - n in
    let a : h.marks.stack_at + n ≤ length vs.items = operands_from h w vs ss n l r in
    let z : length (take at vs.items) ≡ at = length-take-le at vs.items (omega arith) in
    let g : length (take at vs.items ++ given) ≡ at + k = with_given vs.items given at k (omega arith) c in
    let t : take at (take at vs.items ++ given) ≡ take at vs.items = take_at (take at vs.items) given at z in
    over_is h w vs ss (take at vs.items ++ given) e at at n k wait given l (omega arith) (omega arith) (omega arith) (omega arith) t (drop_at (take at vs.items) given at z) c b p

pub leave_laid : (h : Head) (w u : Filling Below) (b : Below) (vs : Filling Value) (ss : Filling ScopeEntry) → w ≡ record { items = u.items ++ b ∷ []; limit = u.limit } → IsLaid h.marks w vs ss → IsLaid b.head.marks u (record { items = take b.values vs.items; limit = vs.limit }) (record { items = take b.scopes ss.items; limit = ss.limit })
leave_laid h w u b vs ss e l =
    let last : reverse w.items ≡ b ∷ reverse u.items = ap (λ (f : Filling Below). reverse f.items) e ∙ reverse-append u.items (b ∷ []) in
    let laid : AreFramesLaid h.marks (b ∷ reverse u.items) = rw last at l.laid in
    let o = laid.0 in
    let n : length (take b.values vs.items) ≡ b.values = length-take-le b.values vs.items (omega (arith, o.values, l.newest.locals, l.newest.stack)) in
    let k : length (take b.scopes ss.items) ≡ b.scopes = length-take-le b.scopes ss.items (omega (arith, o.scopes, l.newest.scopes_from)) in
    record {
      newest = rw (n, k) o.within;
      laid = laid.1;
      used = omega (arith, o.used, l.used);
      limit = l.limit;
      small = l.small;
    }

pub leave_is : (h : Head) (w u : Filling Below) (b : Below) (vs : Filling Value) (ss : Filling ScopeEntry) → w ≡ record { items = u.items ++ b ∷ []; limit = u.limit } → frames_in b.head u (record { items = take b.values vs.items; limit = vs.limit }) (record { items = take b.scopes ss.items; limit = ss.limit }) ≡ after_leave (frames_in h w vs ss)
leave_is h w u b vs ss e =
    let last : reverse (u.items ++ b ∷ []) ≡ b ∷ reverse u.items = reverse-append u.items (b ∷ []) in
    rw (e, last) refl

-- ---- what is read and written of a head

head_is : (h : Head) (w : Filling Below) (vs : Filling Value) (ss : Filling ScopeEntry) → 0 < length (frames_in h w vs ss).living → newest (frames_in h w vs ss) ≡ frame_of h vs.items ss.items
head_is h w vs ss p = newest_is h (reverse w.items) vs.items ss.items (live h w vs ss p)

pub method_is : (h : Head) (w : Filling Below) (vs : Filling Value) (ss : Filling ScopeEntry) → 0 < length (frames_in h w vs ss).living → h.method ≡ (newest (frames_in h w vs ss)).method
method_is h w vs ss p = sym (ap (λ (f : Frame). f.method) (head_is h w vs ss p))

pub home_is : (h : Head) (w : Filling Below) (vs : Filling Value) (ss : Filling ScopeEntry) → 0 < length (frames_in h w vs ss).living → h.home ≡ (newest (frames_in h w vs ss)).home
home_is h w vs ss p = sym (ap (λ (f : Frame). f.home) (head_is h w vs ss p))

pub saved_is : (h : Head) (w : Filling Below) (vs : Filling Value) (ss : Filling ScopeEntry) → 0 < length (frames_in h w vs ss).living → h.saved ≡ (newest (frames_in h w vs ss)).saved
saved_is h w vs ss p = sym (ap (λ (f : Frame). f.saved) (head_is h w vs ss p))

pub place_is : (h : Head) (w : Filling Below) (vs : Filling Value) (ss : Filling ScopeEntry) → 0 < length (frames_in h w vs ss).living → h.place ≡ (newest (frames_in h w vs ss)).place
place_is h w vs ss p = sym (ap (λ (f : Frame). f.place) (head_is h w vs ss p))

pub wait_is : (h : Head) (w : Filling Below) (vs : Filling Value) (ss : Filling ScopeEntry) → 0 < length (frames_in h w vs ss).living → h.wait ≡ (newest (frames_in h w vs ss)).wait
wait_is h w vs ss p = sym (ap (λ (f : Frame). f.wait) (head_is h w vs ss p))

pub scopes_are : (h : Head) (w : Filling Below) (vs : Filling Value) (ss : Filling ScopeEntry) → 0 < length (frames_in h w vs ss).living → drop h.marks.scopes_at ss.items ≡ (newest (frames_in h w vs ss)).scopes
scopes_are h w vs ss p = sym (ap (λ (f : Frame). f.scopes) (head_is h w vs ss p))

pub go_is : (h : Head) (w : Filling Below) (vs : Filling Value) (ss : Filling ScopeEntry) (i : ℕ) → 0 < length (frames_in h w vs ss).living → frames_in (record h { place = i }) w vs ss ≡ with_newest (at_place i) (frames_in h w vs ss)
go_is h w vs ss i p = lists w h vs.limit _ _ (goes h (reverse w.items) vs.items ss.items i (live h w vs ss p))

pub take_wait_is : (h : Head) (w : Filling Below) (vs : Filling Value) (ss : Filling ScopeEntry) → 0 < length (frames_in h w vs ss).living → frames_in (record h { wait = Not }) w vs ss ≡ with_newest (waiting Not) (frames_in h w vs ss)
take_wait_is h w vs ss p = lists w h vs.limit _ _ (waits h (reverse w.items) vs.items ss.items Not (live h w vs ss p))

pub local_at : (h : Head) (w : Filling Below) (vs : Filling Value) (ss : Filling ScopeEntry) (n : ℕ) → IsLaid h.marks w vs ss → n < length (newest (frames_in h w vs ss)).locals → h.marks.locals_at + n < h.marks.stack_at
local_at h w vs ss n l b = locals_within h (reverse w.items) vs.items ss.items n l.newest.stack b

pub local_is : (h : Head) (w : Filling Below) (vs : Filling Value) (ss : Filling ScopeEntry) (n : ℕ) (v : Value) → IsLaid h.marks w vs ss → n < length (newest (frames_in h w vs ss)).locals → slice_get vs.items (h.marks.locals_at + n) ≡ Some v → slice_get (newest (frames_in h w vs ss)).locals n ≡ Some v
local_is h w vs ss n v l b e = get_local h (reverse w.items) vs.items ss.items n v (live_locals h (reverse w.items) vs.items ss.items n b) (local_at h w vs ss n l b) e

pub operand_is : (h : Head) (w : Filling Below) (vs : Filling Value) (ss : Filling ScopeEntry) (n : ℕ) (v : Value) → IsLaid h.marks w vs ss → n < length (newest (frames_in h w vs ss)).stack → slice_get vs.items (length vs.items - 1 - n) ≡ Some v → slice_get (newest (frames_in h w vs ss)).stack n ≡ Some v
operand_is h w vs ss n v l b e = get_operand h (reverse w.items) vs.items ss.items n v (live_operands h (reverse w.items) vs.items ss.items n b) (operand_at h w vs ss n l b) e
