-- The flat lists stand for a heap, also after a call.
use Rattle.std.proofs.Common.{◌≡◌, ℕ, ◌<◌, ◌^◌, true, List, [], Option, Some, None, length, replicate, set, get_or, refl, sym, ap, ◌∙◌, subst, arith}
use Rattle.std.specs.Prelude.{slice_get, is_some}
use Rattle.abc_heap_values.specs.Filling.{Filling}
use Rattle.abc_heap_values.specs.declared.cell.Cell.{Cell}
use Rattle.abc_heap_values.specs.declared.cell.Held.{Held}
use Rattle.abc_heap_values.specs.declared.cell.Held.TheVariants.{Slot, Property, Deleted, Element}
use Rattle.abc_heap_values.specs.declared.values.Span.{Span}
use Rattle.abc_heap_values.specs.declared.values.Value.{Value}
use Rattle.abc_heap_values.specs.declared.cell.Lane.{Lane}
use Rattle.abc_heap_values.specs.declared.cell.Lane.TheVariants.{Slots, Properties, Elements}
use Rattle.abc_heap_values.specs.Lanes.{lane_of, property_in}
use Rattle.abc_heap_values.specs.Links.{links, IsCellAt, held_at}
use Rattle.abc_heap_values.proofs.Parts.{slice_get_some}
use Rattle.abc_heap_store.specs.declared.heads.Head.{Head}
use Rattle.abc_heap_store.specs.declared.search.Spot.{Spot}
use Rattle.abc_heap_store.specs.declared.records.ScopeNode.{ScopeNode}
use Rattle.abc_heap_store.specs.declared.records.Limits.{Limits}
use Rattle.abc_heap_store.specs.declared.buckets.Buckets.{Buckets}
use Rattle.abc_heap_store.specs.Buckets.{bucket, bucket_of, buckets_of, AreBuckets, IsIndexed}
use Rattle.abc_heap_store.specs.Gaps.{AreGaps}
use Rattle.abc_heap_store.specs.Heap.{properties_of}
use Rattle.abc_heap_store.specs.Texts.{text_in, IsTextIn}
use Rattle.abc_heap_store.specs.Properties.{with_value, is_property_named}
use Rattle.abc_heap_store.specs.Spots.{IsSpot}
use Rattle.abc_heap_store.specs.View.{objects, AreObjectHeads, IsStored}
use Rattle.abc_heap_store.proofs.Flat.{property_read}
use Rattle.abc_heap_store.proofs.Gaps.{gaps_held, gaps_gone}
use Rattle.abc_heap_store.proofs.Indexed.{IsNameIn, index_held, index_gone, index_empty, key_at, same_some, slot_full, element_full}
use Rattle.abc_heap_store.proofs.Searches.{found_named, named_bucket}
use Rattle.abc_heap_store.proofs.Writes.{hold_keeps, inside, cell_in}

-- what holds no property has no name
pub nameless : (fixed made : List ℕ) (strings : List (List ℕ)) (h : Held) → property_in h ≡ None → IsNameIn fixed made strings h
nameless fixed made strings h e = λ n v p. no_name (sym e ∙ p)
  where
    no_name : {X Y : Type 0} {p : X} → ◌≡◌ {A = Option X} None (Some p) → Y
    no_name e = absurd cc

slot_none : (h : Held) → lane_of h ≡ Slots → property_in h ≡ None
slot_none (Slot v) e = refl
slot_none (Property n v) e = absurd cc
slot_none (Deleted n) e = absurd cc
slot_none (Element v) e = absurd cc

element_none : (h : Held) → lane_of h ≡ Elements → property_in h ≡ None
element_none (Slot v) e = absurd cc
element_none (Property n v) e = absurd cc
element_none (Deleted n) e = absurd cc
element_none (Element v) e = refl

hold_stored : (hs : Filling Head) (cs new : Filling Cell) (ss : Filling ScopeNode) (fixed : List ℕ) (ts : Filling ℕ) (strings : List (List ℕ)) (b : Buckets) (m : Limits) (p o : ℕ) (l : Lane) (k : ℕ) (h : Held) → IsStored hs cs ss fixed ts strings b m → IsCellAt (links cs.items) p o l k → lane_of h ≡ l → new ≡ record { items = held_at cs.items p h; limit = cs.limit } → IsNameIn fixed ts.items strings h → ((c : Cell) → slice_get cs.items p ≡ Some c → lane_of c.held ≡ l → bucket_of (length b.lasts.items) (text_in fixed ts.items strings) c.owner (property_in h) ≡ bucket_of (length b.lasts.items) (text_in fixed ts.items strings) c.owner (property_in c.held)) → ((c : Cell) → slice_get cs.items p ≡ Some c → lane_of c.held ≡ l → AreGaps (held_at cs.items p h)) → IsStored hs new ss fixed ts strings b m
hold_stored hs cs new ss fixed ts strings b m p o l k h s at lane e name same gaps =
    let i = inside cs.items p o l k at in
    let w = slice_get_some cs.items p i in
    let kept = hold_keeps hs cs new ss ts m p o l k h (s.heads, s.limits) at i lane e in
    let own = (cell_in cs.items p o l k w.0 at w.1).1 in
    record {
      heads = kept.0;
      limits = kept.1;
      index = index_held fixed ts.items strings cs new b p w.0 h s.index w.1 e name (same w.0 w.1 own) (gaps w.0 w.1 own);
    }

pub hold_slot : (hs : Filling Head) (cs new : Filling Cell) (ss : Filling ScopeNode) (fixed : List ℕ) (ts : Filling ℕ) (strings : List (List ℕ)) (b : Buckets) (m : Limits) (p o k : ℕ) (v : Value) → IsStored hs cs ss fixed ts strings b m → IsCellAt (links cs.items) p o Slots k → new ≡ record { items = held_at cs.items p (Slot v); limit = cs.limit } → IsStored hs new ss fixed ts strings b m
hold_slot hs cs new ss fixed ts strings b m p o k v s at e = hold_stored hs cs new ss fixed ts strings b m p o Slots k (Slot v) s at refl e (nameless fixed ts.items strings (Slot v) refl) (λ c q lane. ap (bucket_of (length b.lasts.items) (text_in fixed ts.items strings) c.owner) (sym (slot_none c.held lane))) (λ c q lane. gaps_held cs.items p c (Slot v) s.index.gaps q (sym lane) (λ n. refl) (λ n d. absurd (slot_full v n d)))

pub hold_element : (hs : Filling Head) (cs new : Filling Cell) (ss : Filling ScopeNode) (fixed : List ℕ) (ts : Filling ℕ) (strings : List (List ℕ)) (b : Buckets) (m : Limits) (p o k : ℕ) (v : Value) → IsStored hs cs ss fixed ts strings b m → IsCellAt (links cs.items) p o Elements k → new ≡ record { items = held_at cs.items p (Element v); limit = cs.limit } → IsStored hs new ss fixed ts strings b m
hold_element hs cs new ss fixed ts strings b m p o k v s at e = hold_stored hs cs new ss fixed ts strings b m p o Elements k (Element v) s at refl e (nameless fixed ts.items strings (Element v) refl) (λ c q lane. ap (bucket_of (length b.lasts.items) (text_in fixed ts.items strings) c.owner) (sym (element_none c.held lane))) (λ c q lane. gaps_held cs.items p c (Element v) s.index.gaps q (sym lane) (λ n. refl) (λ n d. absurd (element_full v n d)))

-- a property with another value
valued_bucket : (n o : ℕ) (f : Span → List ℕ) (v : Value) (p : Option (Span × Value)) → bucket_of n f o (with_value v p) ≡ bucket_of n f o p
valued_bucket n o f v None = refl
valued_bucket n o f v (Some p) = refl

valued_name : (fixed made : List ℕ) (strings : List (List ℕ)) (v : Value) (p : Option (Span × Value)) → ((n : Span) (w : Value) → p ≡ Some (n, w) → IsTextIn fixed made strings n) → (n : Span) (w : Value) → with_value v p ≡ Some (n, w) → IsTextIn fixed made strings n
valued_name fixed made strings v None g n w e = absurd cc
valued_name fixed made strings v (Some p) g n w e = subst (IsTextIn fixed made strings) (ap (λ (q : Span × Value). q.0) (same_some (p.0, v) (n, w) e)) (g p.0 p.1 refl)

-- what a search found is filled, and in its bucket
spot_named : (hs : List Head) (cells : List Cell) (o : ℕ) (f : Span → List ℕ) (t : List ℕ) (x : Spot) (c : Cell) → AreObjectHeads (links cells) hs → o < length hs → IsSpot f t cells hs o x → slice_get cells x.place ≡ Some c → is_property_named f t (Some (property_in c.held)) ≡ true
spot_named hs cells o f t x c a b spot e =
    let read = property_read cells hs x.place o x.position c a b spot.at e in
    ap (is_property_named f t) (sym read) ∙ found_named f t (properties_of (objects cells 0 hs) o) x.position (length (properties_of (objects cells 0 hs) o)) spot.is

spot_filled : (hs : List Head) (cells : List Cell) (o : ℕ) (f : Span → List ℕ) (t : List ℕ) (x : Spot) (c : Cell) → AreObjectHeads (links cells) hs → o < length hs → IsSpot f t cells hs o x → slice_get cells x.place ≡ Some c → is_some (property_in c.held) ≡ true
spot_filled hs cells o f t x c a b spot e = go (property_in c.held) (spot_named hs cells o f t x c a b spot e)
  where
    go : (p : Option (Span × Value)) → is_property_named f t (Some p) ≡ true → is_some p ≡ true
    go None q = absurd cc
    go (Some p) q = refl

pub spot_bucket : (hs : List Head) (cells : List Cell) (o n : ℕ) (f : Span → List ℕ) (t : List ℕ) (x : Spot) → AreObjectHeads (links cells) hs → o < length hs → IsSpot f t cells hs o x → get_or (buckets_of n f cells) x.place None ≡ Some (bucket n o t)
spot_bucket hs cells o n f t x a b spot =
    let i = inside cells x.place o Properties x.position spot.at in
    let w = slice_get_some cells x.place i in
    let own = (cell_in cells x.place o Properties x.position w.0 spot.at w.1).0 in
    key_at n f cells x.place w.0 w.1 ∙ (ap (λ m. bucket_of n f m (property_in w.0.held)) own ∙ named_bucket n o f t (property_in w.0.held) (spot_named hs cells o f t x w.0 a b spot w.1))

valued_full : (v : Value) (p : Option (Span × Value)) → is_some p ≡ true → ◌≡◌ {A = Option (Span × Value)} None (with_value v p) → ⊥
valued_full v None s e = absurd cc
valued_full v (Some p) s e = absurd cc

pub hold_put : (hs : Filling Head) (cs new : Filling Cell) (ss : Filling ScopeNode) (fixed : List ℕ) (ts : Filling ℕ) (strings : List (List ℕ)) (b : Buckets) (m : Limits) (o : ℕ) (t : List ℕ) (x : Spot) (c : Cell) (h : Held) (v : Value) → IsStored hs cs ss fixed ts strings b m → o < length hs.items → IsSpot (text_in fixed ts.items strings) t cs.items hs.items o x → slice_get cs.items x.place ≡ Some c → lane_of h ≡ Properties → property_in h ≡ with_value v (property_in c.held) → new ≡ record { items = held_at cs.items x.place h; limit = cs.limit } → IsStored hs new ss fixed ts strings b m
hold_put hs cs new ss fixed ts strings b m o t x c h v s in_heads spot is lane put e =
    let n = length b.lasts.items in
    let f = text_in fixed ts.items strings in
    let p = x.place in
    let there = spot_filled hs.items cs.items o f t x c s.heads in_heads spot is in
    hold_stored hs cs new ss fixed ts strings b m p o Properties x.position h s spot.at lane e
    (λ name w q. valued_name fixed ts.items strings v (property_in c.held) (λ name w q. s.index.names p c name w is q) name w (sym put ∙ q))
    (λ d q l. let same : c ≡ d = one_cell d q in ap (bucket_of n f d.owner) put ∙ (valued_bucket n d.owner f v (property_in c.held) ∙ ap (λ (x : Cell). bucket_of n f d.owner (property_in x.held)) same))
    (λ d q l. gaps_held cs.items p d h s.index.gaps q (lane ∙ sym l) (λ n. put ∙ ap (with_value v) (ap (λ (x : Cell). property_in x.held) (one_cell d q) ∙ n)) (λ m g. absurd (valued_full v (property_in c.held) there (sym (ap property_in g) ∙ put))))
  where
    one_cell : (d : Cell) → slice_get cs.items x.place ≡ Some d → c ≡ d
    one_cell d q = cc

-- a property goes
pub hold_gone : (hs : Filling Head) (cs new : Filling Cell) (ss : Filling ScopeNode) (fixed : List ℕ) (ts : Filling ℕ) (strings : List (List ℕ)) (b b' : Buckets) (m : Limits) (o d : ℕ) (t : List ℕ) (x : Spot) → IsStored hs cs ss fixed ts strings b m → o < length hs.items → IsSpot (text_in fixed ts.items strings) t cs.items hs.items o x → d ≡ bucket (length b.lasts.items) o t → new ≡ record { items = held_at cs.items x.place (Deleted 1); limit = cs.limit } → ((ks : List (Option ℕ)) → AreBuckets ks b.lasts.items b.befores.items → get_or ks x.place None ≡ Some d → AreBuckets (set ks x.place None) b'.lasts.items b'.befores.items) → (length b'.lasts.items ≡ length b.lasts.items) × (b'.befores.limit ≡ b.befores.limit) → IsStored hs new ss fixed ts strings b' m
hold_gone hs cs new ss fixed ts strings b b' m o d t x s in_heads spot key e goes sizes =
    let n = length b.lasts.items in
    let f = text_in fixed ts.items strings in
    let i = inside cs.items x.place o Properties x.position spot.at in
    let w = slice_get_some cs.items x.place i in
    let kept = hold_keeps hs cs new ss ts m x.place o Properties x.position (Deleted 1) (s.heads, s.limits) spot.at i refl e in
    record {
      heads = kept.0;
      limits = kept.1;
      index = index_gone fixed ts.items strings cs new b b' x.place d w.0 (Deleted 1) s.index w.1 e refl (sym (key_at n f cs.items x.place w.0 w.1) ∙ (spot_bucket hs.items cs.items o n f t x s.heads in_heads spot ∙ ap Some (sym key))) goes sizes (gaps_gone cs.items x.place o x.position w.0 s.heads.linked s.index.gaps spot.at w.1);
    }

-- at first there is nothing
pub empty_stored : (hs : Filling Head) (cs : Filling Cell) (ss : Filling ScopeNode) (fixed : List ℕ) (ts : Filling ℕ) (strings : List (List ℕ)) (b : Buckets) (m : Limits) (n : ℕ) → hs ≡ record { items = []; limit = m.objects } → cs ≡ record { items = []; limit = m.cells } → ss ≡ record { items = []; limit = m.cells } → ts ≡ record { items = []; limit = m.text } → m.cells < 2 ^ 32 → 0 < n → b.lasts.items ≡ replicate n 0 → b.befores ≡ record { items = []; limit = m.cells } → IsStored hs cs ss fixed ts strings b m
empty_stored hs cs ss fixed ts strings b m n eh ec es et small some lasts befores =
    let no_heads : hs.items ≡ [] = ap (λ (f : Filling Head). f.items) eh in
    let no_cells : cs.items ≡ [] = ap (λ (f : Filling Cell). f.items) ec in
    let no_texts : ts.items ≡ [] = ap (λ (f : Filling ℕ). f.items) et in
    let limit : cs.limit ≡ m.cells = ap (λ (f : Filling Cell). f.limit) ec in
    record {
      heads = subst (λ xs. AreObjectHeads (links xs) hs.items) (sym no_cells) (subst (AreObjectHeads []) (sym no_heads) nothing);
      limits = record {
        objects = ap (λ (f : Filling Head). f.limit) eh;
        cells = limit;
        scopes = ap (λ (f : Filling ScopeNode). f.limit) es;
        text = ap (λ (f : Filling ℕ). f.limit) et;
        within = omega (arith, ap length no_cells, ap (λ (f : Filling ScopeNode). length f.items) es);
        small = small;
      };
      index = subst (λ t. IsIndexed fixed t strings cs b) (sym no_texts) (index_empty fixed strings cs b n m.cells no_cells (omega (arith, limit)) some lasts befores);
    }
  where
    nothing : AreObjectHeads [] []
    nothing = record { linked = λ i x e. absurd cc; heads = λ o h e. absurd cc; owners = λ i x e. absurd cc }
