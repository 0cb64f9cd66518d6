-- New objects, and their slots.
use Rattle.std.proofs.Common.{◌≡◌, ℕ, zero, suc, ◌+◌, ◌<◌, false, cond, List, [], ◌∷◌, ◌++◌, Option, Some, length, refl, sym, ap, ◌∙◌, subst, arith, length-append, append_assoc, inl, inr, append-nil, ne_eqb}
use Rattle.std.specs.Prelude.{slice_get, nat_eq}
use Rattle.std.proofs.lemmas.Bool.{and_left, cases_lt}
use Rattle.std.proofs.lemmas.List.{length-map, map-append}
use Rattle.abc_heap_values.specs.declared.cell.Cell.{Cell}
use Rattle.abc_heap_values.specs.declared.cell.Held.TheVariants.{Slot}
use Rattle.abc_heap_values.specs.declared.values.Value.{Value}
use Rattle.abc_heap_values.specs.declared.cell.Lane.{Lane}
use Rattle.abc_heap_values.specs.declared.cell.Lane.TheVariants.{Slots, Properties, Elements}
use Rattle.abc_heap_values.specs.declared.chain.Chain.{Chain}
use Rattle.abc_heap_values.specs.Lanes.{lane_of, same_lane, belongs_to_lane, cells_of_lane, value_of_held}
use Rattle.abc_heap_values.specs.Links.{Link, link_of, links, count, IsChain, AreLinked, IsCellAdded}
use Rattle.abc_heap_values.proofs.Parts.{slice_get_more, slice_get_seam, set_same}
use Rattle.abc_heap_values.proofs.Grows.{count_in, chain_other, at_more, is_in_own, links_more}
use Rattle.abc_heap_values.proofs.Owned.{count_owned, owned_more, is_of_lane}
use Rattle.abc_heap_store.specs.declared.heads.Head.{Head}
use Rattle.abc_heap_store.specs.declared.records.ScopeEntry.{ScopeEntry}
use Rattle.abc_heap_store.specs.Scopes.{nodes, scope_id}
use Rattle.abc_heap_store.specs.Heap.{Object, Heap}
use Rattle.abc_heap_store.specs.Changes.{change, with_more_slots, bare_object}
use Rattle.abc_heap_store.specs.declared.records.ScopeId.{ScopeId}
use Rattle.abc_heap_store.specs.What.{what_in, elements_in}
use Rattle.abc_heap_store.specs.View.{object_viewed, objects, IsHead, AreObjectHeads}
use Rattle.abc_heap_store.specs.Spots.{IsFilling}
use Rattle.abc_heap_store.proofs.Writes.{built}
use Rattle.abc_heap_store.proofs.Growth.{grown_heads, grown_objects, past, lane_off}

-- an object of a number that no cell has
none_owned : (o : ℕ) (l : Lane) (cells : List Cell) → ((i : ℕ) (x : Link) → slice_get (links cells) i ≡ Some x → x.owner < o) → cells_of_lane o l cells ≡ []
none_owned o l [] f = refl
none_owned o l (c ∷ cells) f =
    let b : c.owner < o = f 0 (link_of c) refl in
    let n : belongs_to_lane o l c ≡ false = and_left (nat_eq c.owner o) (same_lane (lane_of c.held) l) (ne_eqb c.owner o (λ (q : c.owner ≡ o). absurd (omega arith))) in
    ap (λ t. cond t (c ∷ cells_of_lane o l cells) (cells_of_lane o l cells)) n ∙ none_owned o l cells (λ i x e. f (suc i) x e)

objects_more : (cells : List Cell) (m : ℕ) (hs : List Head) (h : Head) → objects cells m (hs ++ h ∷ []) ≡ objects cells m hs ++ object_viewed cells (m + length hs) h ∷ []
objects_more cells m [] h = ap (λ n. object_viewed cells n h ∷ []) (omega arith)
objects_more cells m (x ∷ hs) h = ap (λ r. object_viewed cells m x ∷ r) (objects_more cells (m + 1) hs h ∙ ap (λ n. objects cells (m + 1) hs ++ object_viewed cells n h ∷ []) (omega arith))

pub object_added : (cells : List Cell) (hs : List Head) (h : Head) → AreObjectHeads (links cells) hs → objects cells 0 (hs ++ h ∷ []) ≡ objects cells 0 hs ++ bare_object h.layout h.delegate (what_in h.what) ∷ []
object_added cells hs h a =
    let z : 0 + length hs ≡ length hs = omega arith in
    let none = λ (l : Lane). none_owned (length hs) l cells a.owners in
    objects_more cells 0 hs h
    ∙ (ap (λ n. objects cells 0 hs ++ object_viewed cells n h ∷ []) z
    ∙ ap (λ ob. objects cells 0 hs ++ ob ∷ []) (built h (cells_of_lane (length hs) Slots cells) [] (cells_of_lane (length hs) Properties cells) [] (cells_of_lane (length hs) Elements cells) [] (none Slots) (none Properties) (none Elements)))

count_none : (cells : List Cell) (hs : List Head) (l : Lane) → AreObjectHeads (links cells) hs → count (length hs) l (links cells) ≡ 0
count_none cells hs l a = count_owned (length hs) l cells ∙ ap length (none_owned (length hs) l cells a.owners)

pub empty_chain : (cells : List Cell) (hs : List Head) (l : Lane) → AreObjectHeads (links cells) hs → IsChain (links cells) (length hs) l (record { last = 0; count = 0 })
empty_chain cells hs l a = record { counted = sym (count_none cells hs l a); last = λ b. absurd (omega arith) }

pub head_added : (cells : List Cell) (hs : List Head) (h : Head) → AreObjectHeads (links cells) hs → h.properties ≡ record { last = 0; count = 0 } → elements_in h.what ≡ record { last = 0; count = 0 } → AreObjectHeads (links cells) (hs ++ h ∷ [])
head_added cells hs h a p e = record {
  linked = a.linked;
  heads = λ o x q. elim (slice_get_more hs h x o q) [
    | inl r ↦ a.heads o x r.1
    | inr r ↦
        let own : IsHead (links cells) (length hs) h = record {
          slots = λ k b. absurd (omega (arith, count_none cells hs Slots a));
          properties = subst (λ c. IsChain (links cells) (length hs) Properties c) (sym p) (empty_chain cells hs Properties a);
          elements = subst (λ c. IsChain (links cells) (length hs) Elements c) (sym e) (empty_chain cells hs Elements a);
        } in
        subst (λ n. IsHead (links cells) n x) (sym r.0) (subst (λ y. IsHead (links cells) (length hs) y) r.1 own)
  ];
  owners = λ i x q. omega (arith, a.owners i x q, length-append hs (h ∷ []));
}

pub filling_starts : (cells : List Cell) (hs : List Head) (h : Head) → AreObjectHeads (links cells) hs → h.slots ≡ length cells → IsFilling cells (hs ++ h ∷ []) (length hs) (record { last = 0; count = 0 })
filling_starts cells hs h a s = record {
  chain = empty_chain cells hs Slots a;
  next = λ x e. let t = slice_get_seam hs h in let q : h ≡ x = cc in omega (arith, s, ap (λ (y : Head). y.slots) q);
}

-- a slot
slot_added : (cells : List Cell) (c : Cell) (hs : List Head) (o : ℕ) (x : Head) (v : Value) → c.owner ≡ o → c.held ≡ Slot v → slice_get hs o ≡ Some x → o < length hs → objects (cells ++ c ∷ []) 0 hs ≡ change (with_more_slots (v ∷ [])) o (objects cells 0 hs)
slot_added cells c hs o x v w q e b =
    let lane : lane_of c.held ≡ Slots = ap lane_of q in
    ap (objects (cells ++ c ∷ []) 0) (sym (set_same hs o x e))
    ∙ grown_objects cells c hs o x (with_more_slots (v ∷ [])) w b (λ y ey.
    let same : x ≡ y = cc in
    built x (cells_of_lane o Slots (cells ++ c ∷ [])) (cells_of_lane o Slots cells ++ c ∷ []) (cells_of_lane o Properties (cells ++ c ∷ [])) (cells_of_lane o Properties cells) (cells_of_lane o Elements (cells ++ c ∷ [])) (cells_of_lane o Elements cells)
    (owned_more cells c o Slots (is_in_own (link_of c) o Slots w lane)) (past cells c o Properties (is_of_lane c o Properties (ap (λ m. same_lane m Properties) lane))) (past cells c o Elements (is_of_lane c o Elements (ap (λ m. same_lane m Elements) lane)))
    ∙ (ap (λ ss. record (object_viewed cells o x) { slots = ss }) (map-append (λ (c : Cell). value_of_held c.held) (cells_of_lane o Slots cells) (c ∷ []))
    ∙ (ap (λ p. record (object_viewed cells o x) { slots = (object_viewed cells o x).slots ++ p ∷ [] }) (ap value_of_held q)
    ∙ ap (λ (y : Head). with_more_slots (v ∷ []) (object_viewed cells o y)) same)))

slot_head : (xs : List Link) (x : Link) (o n : ℕ) (h : Head) → IsHead xs o h → x.owner ≡ o → x.lane ≡ Slots → x.position ≡ n → count o Slots xs ≡ n → h.slots + n ≡ length xs → IsHead (xs ++ x ∷ []) o h
slot_head xs x o n h a w e p c s = record {
  slots = λ k b. elim (cases_lt k n) [
    | inl r ↦ at_more xs (x ∷ []) (h.slots + k) o Slots k (a.slots k (omega (arith, c)))
    | inr r ↦
        let b' = omega_count xs x o n k b w e c in
        let q : k ≡ n = omega arith in
        let t : h.slots + k ≡ length xs = omega arith in
        record {
          inside = omega (arith, t, length-append xs (x ∷ []));
          is = λ y ey.
              let f : slice_get (xs ++ x ∷ []) (length xs) ≡ Some y = ap (slice_get (xs ++ x ∷ [])) (sym t) ∙ ey in
              let g = slice_get_seam xs x in
              let same : x ≡ y = cc in
              (sym (ap (λ (z : Link). z.owner) same) ∙ w, sym (ap (λ (z : Link). z.lane) same) ∙ e, omega (arith, ap (λ (z : Link). z.position) same));
        }
  ];
  properties = chain_other xs x o Properties h.properties (lane_off x o Slots Properties e refl) a.properties;
  elements = chain_other xs x o Elements (elements_in h.what) (lane_off x o Slots Elements e refl) a.elements;
}
  where
    omega_count : (xs : List Link) (x : Link) (o n k : ℕ) → k < count o Slots (xs ++ x ∷ []) → x.owner ≡ o → x.lane ≡ Slots → count o Slots xs ≡ n → k < n + 1
    omega_count xs x o n k b w e c = omega (arith, count_in o Slots xs x (is_in_own x o Slots w e))

pub slot_grown : (cells new : List Cell) (hs : List Head) (o : ℕ) (c d : Chain) (v : Value) → AreObjectHeads (links cells) hs → o < length hs → IsFilling cells hs o c → IsCellAdded cells new o (Slot v) → AreLinked (links new) → IsChain (links new) o Slots d → (d.last ≡ length cells) × (d.count ≡ c.count + 1) → (objects new 0 hs ≡ change (with_more_slots (v ∷ [])) o (objects cells 0 hs)) × AreObjectHeads (links new) hs × IsFilling new hs o d × (length new ≡ length cells + 1)
slot_grown cells new hs o c d v a b f (x, q, w, h) l k p =
    let g = head_of hs o b in
    let more : links new ≡ links cells ++ link_of x ∷ [] = ap links q ∙ links_more cells x in
    let l' : AreLinked (links cells ++ link_of x ∷ []) = subst AreLinked more l in
    let k' : IsChain (links cells ++ link_of x ∷ []) o Slots d = subst (λ xs. IsChain xs o Slots d) more k in
    let n : length (links cells) ≡ length cells = length-map cells link_of in
    let at : slice_get (links cells ++ link_of x ∷ []) d.last ≡ Some (link_of x) = ap (slice_get (links cells ++ link_of x ∷ [])) (p.0 ∙ sym n) ∙ slice_get_seam (links cells) (link_of x) in
    let position : x.position ≡ c.count = omega (arith, (k'.last (omega arith)).is (link_of x) at, p.1) in
    let own = slot_head (links cells) (link_of x) o c.count g.0 (a.heads o g.0 g.1) w (ap lane_of h) position (sym f.chain.counted) (f.next g.0 g.1 ∙ sym n) in
    let longer : length new ≡ length cells + 1 = ap length q ∙ length-append cells (x ∷ []) in (
      ap (λ cs. objects cs 0 hs) q ∙ slot_added cells x hs o g.0 v w h g.1 b,
      subst (λ xs. AreObjectHeads xs hs) (sym more) (subst (λ ys. AreObjectHeads (links cells ++ link_of x ∷ []) ys) (set_same hs o g.0 g.1) (grown_heads (links cells) (link_of x) hs o g.0 a l' w b own)),
      record { chain = k; next = λ y e. omega (arith, f.next y e, p.1, longer) },
      longer,
    )
  where
    head_of : (hs : List Head) (o : ℕ) → o < length hs → (h : Head) × (slice_get hs o ≡ Some h)
    head_of (h ∷ hs) zero b = (h, refl)
    head_of (h ∷ hs) (suc o) b = head_of hs o (omega arith)
    head_of [] o b = absurd (omega arith)

-- slots, one after the other
pub slots_on : (vs ws : List Value) (o : ℕ) (obs : List Object) → change (with_more_slots ws) o (change (with_more_slots vs) o obs) ≡ change (with_more_slots (vs ++ ws)) o obs
slots_on vs ws o [] = refl
slots_on vs ws zero (ob ∷ obs) = ap (λ ss. (record ob { slots = ss }) ∷ obs) (append_assoc ob.slots vs ws)
slots_on vs ws (suc o) (ob ∷ obs) = ap (λ r. ob ∷ r) (slots_on vs ws o obs)

pub no_slots : (o : ℕ) (obs : List Object) → change (with_more_slots []) o obs ≡ obs
no_slots o [] = refl
no_slots zero (ob ∷ obs) = ap (λ ss. (record ob { slots = ss }) ∷ obs) (append-nil ob.slots)
no_slots (suc o) (ob ∷ obs) = ap (λ r. ob ∷ r) (no_slots o obs)

-- the last object
pub change_last : (f : Object → Object) (obs : List Object) (ob : Object) (o : ℕ) → o ≡ length obs → change f o (obs ++ ob ∷ []) ≡ obs ++ f ob ∷ []
change_last f [] ob o e = ap (λ n. change f n (ob ∷ [])) e
change_last f (x ∷ obs) ob o e = ap (λ n. change f n (x ∷ (obs ++ ob ∷ []))) e ∙ ap (λ r. x ∷ r) (change_last f obs ob (length obs) refl)

pub filling_begins : (cells : List Cell) (hs new : List Head) (h : Head) (o : ℕ) → AreObjectHeads (links cells) hs → new ≡ hs ++ h ∷ [] → o ≡ length hs → h.slots ≡ length cells → IsFilling cells new o (record { last = 0; count = 0 })
filling_begins cells hs new h o a e q s = subst (λ n. IsFilling cells new n (record { last = 0; count = 0 })) (sym q) (subst (λ xs. IsFilling cells xs (length hs) (record { last = 0; count = 0 })) (sym e) (filling_starts cells hs h a s))

pub object_last : (a old : Heap) (obs : List Object) (ob : Object) → a ≡ old → obs ≡ a.objects ++ ob ∷ [] → record a { objects = obs } ≡ record old { objects = old.objects ++ ob ∷ [] }
object_last a old obs ob e q = subst (λ (h : Heap). record a { objects = obs } ≡ record h { objects = h.objects ++ ob ∷ [] }) e (ap (λ s. record a { objects = s }) q)

pub made_heap : (a old : Heap) (mid new : List Object) (o : ℕ) (vs : List Value) (ob : Object) → a ≡ old → mid ≡ a.objects ++ ob ∷ [] → new ≡ change (with_more_slots vs) o mid → o ≡ length a.objects → record a { objects = new } ≡ record old { objects = old.objects ++ with_more_slots vs ob ∷ [] }
made_heap a old mid new o vs ob e p q b =
    let f = with_more_slots vs in
    let r : new ≡ a.objects ++ f ob ∷ [] = q ∙ (ap (change f o) p ∙ change_last f a.objects ob o b) in
    subst (λ (h : Heap). record a { objects = new } ≡ record h { objects = h.objects ++ f ob ∷ [] }) e (ap (λ s. record a { objects = s }) r)

pub nodes_length : (at : ℕ) (below : Option ScopeId) (es : List ScopeEntry) → length (nodes at below es) ≡ length es
nodes_length at below [] = refl
nodes_length at below (e ∷ es) = ap suc (nodes_length (at + 1) (Some (scope_id at)) es)
