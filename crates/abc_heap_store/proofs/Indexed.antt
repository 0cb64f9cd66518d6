-- The properties stay in their buckets.
use Rattle.std.proofs.Common.{◌≡◌, ℕ, zero, suc, ◌+◌, ◌<◌, ◌≤◌, List, [], ◌∷◌, ◌++◌, Option, Some, None, length, set, get_or, take, drop, refl, sym, ap, ◌∙◌, subst, arith, inl, inr, length-append, replicate}
use lib.ListN.{get_or-replicate, length-replicate}
use lib.Seq.{set-get_or}
use Rattle.std.specs.Prelude.{slice_get}
use Rattle.std.proofs.lemmas.List.{length-map, map-append, map-set}
use Rattle.abc_heap_values.specs.Filling.{Filling}
use Rattle.abc_heap_values.specs.Lanes.{property_in}
use Rattle.abc_heap_values.specs.Links.{held_at, IsCellAdded}
use Rattle.abc_heap_values.specs.declared.cell.Cell.{Cell}
use Rattle.abc_heap_values.specs.declared.cell.Held.{Held}
use Rattle.abc_heap_values.specs.declared.cell.Held.TheVariants.{Slot, Deleted, Element}
use Rattle.abc_heap_values.specs.declared.values.Span.{Span}
use Rattle.abc_heap_values.specs.declared.values.Value.{Value}
use Rattle.abc_heap_values.proofs.Parts.{slice_get_more}
use Rattle.abc_heap_values.proofs.Grows.{set_held}
use Rattle.abc_heap_store.specs.Buckets.{bucket, bucket_of, buckets_of, AreBuckets, AreNamesIn, IsIndexed, KeepsIndex}
use Rattle.abc_heap_store.specs.declared.buckets.Buckets.{Buckets}
use Rattle.abc_heap_store.specs.Gaps.{AreGaps}
use Rattle.abc_heap_store.specs.Texts.{part_of_text, text_in, IsTextIn}
use Rattle.abc_heap_store.proofs.Lasts.{none_added}
use Rattle.abc_heap_store.proofs.Gaps.{gaps_more}
use Rattle.abc_heap_store.proofs.Growth.{set_read}
use Rattle.abc_heap_store.proofs.Pieces.{front}

-- what two options hold that are equal
pub same_some : {X : Type 0} (x y : X) → ◌≡◌ {A = Option X} (Some x) (Some y) → x ≡ y
same_some x y e = cc

pub key_at : (n : ℕ) (f : Span → List ℕ) (cells : List Cell) (i : ℕ) (c : Cell) → slice_get cells i ≡ Some c → get_or (buckets_of n f cells) i None ≡ bucket_of n f c.owner (property_in c.held)
key_at n f (x ∷ cells) zero c e = let q : x ≡ c = cc in ap (λ (y : Cell). bucket_of n f y.owner (property_in y.held)) q
key_at n f (x ∷ cells) (suc i) c e = key_at n f cells i c e
key_at n f [] i c e = absurd cc

pub buckets_long : (n : ℕ) (f : Span → List ℕ) (cells : List Cell) → length (buckets_of n f cells) ≡ length cells
buckets_long n f cells = length-map cells (λ (c : Cell). bucket_of n f c.owner (property_in c.held))

buckets_more : (n : ℕ) (f : Span → List ℕ) (cells : List Cell) (c : Cell) → buckets_of n f (cells ++ c ∷ []) ≡ buckets_of n f cells ++ bucket_of n f c.owner (property_in c.held) ∷ []
buckets_more n f cells c = map-append (λ (c : Cell). bucket_of n f c.owner (property_in c.held)) cells (c ∷ [])

buckets_held : (n : ℕ) (f : Span → List ℕ) (cells : List Cell) (i : ℕ) (c : Cell) (h : Held) → slice_get cells i ≡ Some c → buckets_of n f (held_at cells i h) ≡ set (buckets_of n f cells) i (bucket_of n f c.owner (property_in h))
buckets_held n f cells i c h e = ap (buckets_of n f) (sym (set_held cells i c h e)) ∙ map-set (λ (c : Cell). bucket_of n f c.owner (property_in c.held)) cells i (record c { held = h })

-- each name is a text
abbrev pub IsNameIn : List ℕ → List ℕ → List (List ℕ) → Held → Type 0
IsNameIn fixed made strings h = (n : Span) (v : Value) → property_in h ≡ Some (n, v) → IsTextIn fixed made strings n

names_held : (fixed made : List ℕ) (strings : List (List ℕ)) (cells : List Cell) (i : ℕ) (c : Cell) (h : Held) → AreNamesIn fixed made strings cells → slice_get cells i ≡ Some c → IsNameIn fixed made strings h → AreNamesIn fixed made strings (held_at cells i h)
names_held fixed made strings cells i c h a e g = λ j d n v ed p.
    elim (set_read cells i j (record c { held = h }) d (ap (λ xs. slice_get xs j) (set_held cells i c h e) ∙ ed)) [
      | inl q ↦ g n v (ap (λ (x : Cell). property_in x.held) q.1 ∙ p)
      | inr q ↦ a j d n v q.1 p
    ]

names_more : (fixed made : List ℕ) (strings : List (List ℕ)) (cells : List Cell) (c : Cell) → AreNamesIn fixed made strings cells → IsNameIn fixed made strings c.held → AreNamesIn fixed made strings (cells ++ c ∷ [])
names_more fixed made strings cells c a g = λ j d n v ed p.
    elim (slice_get_more cells c d j ed) [
      | inl q ↦ a j d n v q.1 p
      | inr q ↦ g n v (ap (λ (x : Cell). property_in x.held) q.1 ∙ p)
    ]

-- a cell that holds another thing of the same bucket
pub index_held : (fixed made : List ℕ) (strings : List (List ℕ)) (cs new : Filling Cell) (b : Buckets) (i : ℕ) (c : Cell) (h : Held) → IsIndexed fixed made strings cs b → slice_get cs.items i ≡ Some c → new ≡ record { items = held_at cs.items i h; limit = cs.limit } → IsNameIn fixed made strings h → bucket_of (length b.lasts.items) (text_in fixed made strings) c.owner (property_in h) ≡ bucket_of (length b.lasts.items) (text_in fixed made strings) c.owner (property_in c.held) → AreGaps (held_at cs.items i h) → IsIndexed fixed made strings new b
index_held fixed made strings cs new b i c h x e is g same gaps =
    let n = length b.lasts.items in
    let f = text_in fixed made strings in
    let ks = buckets_of n f cs.items in
    let stays : buckets_of n f (held_at cs.items i h) ≡ ks = buckets_held n f cs.items i c h e ∙ (ap (set ks i) (same ∙ sym (key_at n f cs.items i c e)) ∙ set-get_or ks i None) in
    let held : Filling Cell = record { items = held_at cs.items i h; limit = cs.limit } in
    let done : IsIndexed fixed made strings held b = record {
      names = names_held fixed made strings cs.items i c h x.names e g;
      buckets = subst (λ k. AreBuckets k b.lasts.items b.befores.items) (sym stays) x.buckets;
      some = x.some;
      room = x.room;
      gaps = gaps;
    } in
    subst (λ (y : Filling Cell). IsIndexed fixed made strings y b) (sym is) done

-- a property that goes
pub index_gone : (fixed made : List ℕ) (strings : List (List ℕ)) (cs new : Filling Cell) (b b' : Buckets) (i d : ℕ) (c : Cell) (h : Held) → IsIndexed fixed made strings cs b → slice_get cs.items i ≡ Some c → new ≡ record { items = held_at cs.items i h; limit = cs.limit } → property_in h ≡ None → bucket_of (length b.lasts.items) (text_in fixed made strings) c.owner (property_in c.held) ≡ Some d → ((ks : List (Option ℕ)) → AreBuckets ks b.lasts.items b.befores.items → get_or ks i None ≡ Some d → AreBuckets (set ks i None) b'.lasts.items b'.befores.items) → (length b'.lasts.items ≡ length b.lasts.items) × (b'.befores.limit ≡ b.befores.limit) → AreGaps (held_at cs.items i h) → IsIndexed fixed made strings new b'
index_gone fixed made strings cs new b b' i d c h x e is none key goes sizes gaps =
    let n = length b.lasts.items in
    let f = text_in fixed made strings in
    let ks = buckets_of n f cs.items in
    let now : buckets_of (length b'.lasts.items) f (held_at cs.items i h) ≡ set ks i None = ap (λ m. buckets_of m f (held_at cs.items i h)) sizes.0 ∙ (buckets_held n f cs.items i c h e ∙ ap (λ p. set ks i (bucket_of n f c.owner p)) none) in
    let held : Filling Cell = record { items = held_at cs.items i h; limit = cs.limit } in
    let done : IsIndexed fixed made strings held b' = record {
      names = names_held fixed made strings cs.items i c h x.names e (λ m v p. no_name (sym none ∙ p));
      buckets = subst (λ k. AreBuckets k b'.lasts.items b'.befores.items) (sym now) (goes ks x.buckets (key_at n f cs.items i c e ∙ key));
      some = omega (arith, x.some, sizes.0);
      room = omega (arith, x.room, sizes.1);
      gaps = gaps;
    } in
    subst (λ (y : Filling Cell). IsIndexed fixed made strings y b') (sym is) done
  where
    no_name : {X Y : Type 0} {p : X} → ◌≡◌ {A = Option X} None (Some p) → Y
    no_name e = absurd cc

-- one more cell that holds no property, and is not emptied
pub index_none : (fixed made : List ℕ) (strings : List (List ℕ)) (cs new : Filling Cell) (b : Buckets) (c : Cell) → IsIndexed fixed made strings cs b → new.items ≡ cs.items ++ c ∷ [] → new.limit ≡ cs.limit → length cs.items + 1 ≤ cs.limit → property_in c.held ≡ None → ((n : ℕ) → c.held ≡ Deleted n → ⊥) → IsIndexed fixed made strings new b
index_none fixed made strings cs new b c x is limit room none full =
    let n = length b.lasts.items in
    let f = text_in fixed made strings in
    let ks = buckets_of n f cs.items in
    let now : buckets_of n f new.items ≡ ks ++ None ∷ [] = ap (buckets_of n f) is ∙ (buckets_more n f cs.items c ∙ ap (λ p. ks ++ bucket_of n f c.owner p ∷ []) none) in
    record {
      names = subst (AreNamesIn fixed made strings) (sym is) (names_more fixed made strings cs.items c x.names (λ m v p. no_name (sym none ∙ p)));
      buckets = subst (λ k. AreBuckets k b.lasts.items b.befores.items) (sym now) (none_added ks b.lasts.items b.befores.items x.buckets);
      some = x.some;
      room = omega (arith, x.room);
      gaps = subst AreGaps (sym is) (gaps_more cs.items c x.gaps full);
    }
  where
    no_name : {X Y : Type 0} {p : X} → ◌≡◌ {A = Option X} None (Some p) → Y
    no_name e = absurd cc

pub added_keeps : (cs new : Filling Cell) (o : ℕ) (h : Held) → IsCellAdded cs.items new.items o h → new.limit ≡ cs.limit → length cs.items + 1 ≤ cs.limit → property_in h ≡ None → ((n : ℕ) → h ≡ Deleted n → ⊥) → KeepsIndex cs new
added_keeps cs new o h (c, is, own, held) limit room none full = λ fixed made strings b x. index_none fixed made strings cs new b c x is limit room (ap property_in held ∙ none) (λ n q. full n (sym held ∙ q))

-- a slot and an element are not emptied
pub slot_full : (v : Value) (n : ℕ) → Slot v ≡ Deleted n → ⊥
slot_full v n e = absurd cc

pub element_full : (v : Value) (n : ℕ) → Element v ≡ Deleted n → ⊥
element_full v n e = absurd cc

pub keeps_on : (a b c : Filling Cell) → KeepsIndex a b → KeepsIndex b c → KeepsIndex a c
keeps_on a b c f g = λ fixed made strings x i. g fixed made strings x (f fixed made strings x i)

-- one more property
pub index_one : (fixed made : List ℕ) (strings : List (List ℕ)) (cs new : Filling Cell) (b b' : Buckets) (o place d : ℕ) (h : Held) (name : Span) (v : Value) → IsIndexed fixed made strings cs b → IsCellAdded cs.items new.items o h → property_in h ≡ Some (name, v) → new.limit ≡ cs.limit → IsTextIn fixed made strings name → place ≡ length cs.items → d ≡ bucket (length b.lasts.items) o (text_in fixed made strings name) → ((ks : List (Option ℕ)) → place ≡ length ks → AreBuckets ks b.lasts.items b.befores.items → AreBuckets (ks ++ Some d ∷ []) b'.lasts.items b'.befores.items) → (length b'.lasts.items ≡ length b.lasts.items) × (b'.befores.limit ≡ b.befores.limit) → IsIndexed fixed made strings new b'
index_one fixed made strings cs new b b' o place d h name v x (c, is, own, held) prop limit text at key comes sizes =
    let n = length b.lasts.items in
    let f = text_in fixed made strings in
    let ks = buckets_of n f cs.items in
    let holds : property_in c.held ≡ Some (name, v) = ap property_in held ∙ prop in
    let last : bucket_of n f c.owner (property_in c.held) ≡ Some d = ap (bucket_of n f c.owner) holds ∙ (ap (λ m. Some (bucket n m (f name))) own ∙ ap Some (sym key)) in
    let now : buckets_of (length b'.lasts.items) f new.items ≡ ks ++ Some d ∷ [] = ap (λ m. buckets_of m f new.items) sizes.0 ∙ (ap (buckets_of n f) is ∙ (buckets_more n f cs.items c ∙ ap (λ p. ks ++ p ∷ []) last)) in
    record {
      names = subst (AreNamesIn fixed made strings) (sym is) (names_more fixed made strings cs.items c x.names (λ m w p. the_text m w (sym holds ∙ p)));
      buckets = subst (λ k. AreBuckets k b'.lasts.items b'.befores.items) (sym now) (comes ks (omega (arith, at, buckets_long n f cs.items)) x.buckets);
      some = omega (arith, x.some, sizes.0);
      room = omega (arith, x.room, sizes.1);
      gaps = subst AreGaps (sym is) (gaps_more cs.items c x.gaps (λ n q. full (sym holds ∙ ap property_in q)));
    }
  where
    the_text : (m : Span) (w : Value) → ◌≡◌ {A = Option (Span × Value)} (Some (name, v)) (Some (m, w)) → IsTextIn fixed made strings m
    the_text m w e = subst (IsTextIn fixed made strings) (ap (λ (p : Span × Value). p.0) (same_some (name, v) (m, w) e)) text

    full : ◌≡◌ {A = Option (Span × Value)} (Some (name, v)) None → ⊥
    full e = absurd cc

-- more texts are made
pub text_more : (fixed made more : List ℕ) (strings : List (List ℕ)) (p start n : ℕ) → start + n ≤ length (part_of_text fixed made strings p) → take n (drop start (part_of_text fixed (made ++ more) strings p)) ≡ take n (drop start (part_of_text fixed made strings p))
text_more fixed made more strings zero start n b = refl
text_more fixed made more strings (suc zero) start n b = front start n made more b
text_more fixed made more strings (suc (suc p)) start n b = refl

part_more : (fixed made more : List ℕ) (strings : List (List ℕ)) (p : ℕ) → length (part_of_text fixed made strings p) ≤ length (part_of_text fixed (made ++ more) strings p)
part_more fixed made more strings zero = omega arith
part_more fixed made more strings (suc zero) = omega (arith, length-append made more)
part_more fixed made more strings (suc (suc p)) = omega arith

bucket_text : (n o : ℕ) (fixed made more : List ℕ) (strings : List (List ℕ)) (p : Option (Span × Value)) → ((m : Span) (v : Value) → p ≡ Some (m, v) → IsTextIn fixed made strings m) → bucket_of n (text_in fixed (made ++ more) strings) o p ≡ bucket_of n (text_in fixed made strings) o p
bucket_text n o fixed made more strings None g = refl
bucket_text n o fixed made more strings (Some q) g = ap (λ t. Some (bucket n o t)) (text_more fixed made more strings q.0.part q.0.start q.0.len (g q.0 q.1 refl))

buckets_text : (n : ℕ) (fixed made more : List ℕ) (strings : List (List ℕ)) (cells : List Cell) → AreNamesIn fixed made strings cells → buckets_of n (text_in fixed (made ++ more) strings) cells ≡ buckets_of n (text_in fixed made strings) cells
buckets_text n fixed made more strings [] a = refl
buckets_text n fixed made more strings (c ∷ cells) a =
    ap (λ k. k ∷ buckets_of n (text_in fixed (made ++ more) strings) cells) (bucket_text n c.owner fixed made more strings (property_in c.held) (λ m v e. a 0 c m v refl e))
    ∙ ap (λ ks. bucket_of n (text_in fixed made strings) c.owner (property_in c.held) ∷ ks) (buckets_text n fixed made more strings cells (λ i d m v e p. a (suc i) d m v e p))

pub index_text : (fixed made new more : List ℕ) (strings : List (List ℕ)) (cs : Filling Cell) (b : Buckets) → IsIndexed fixed made strings cs b → new ≡ made ++ more → IsIndexed fixed new strings cs b
index_text fixed made new more strings cs b x is =
    let grown : IsIndexed fixed (made ++ more) strings cs b = record {
      names = λ i c n v e p. let t = x.names i c n v e p in omega (arith, t, part_more fixed made more strings n.part);
      buckets = subst (λ k. AreBuckets k b.lasts.items b.befores.items) (sym (buckets_text (length b.lasts.items) fixed made more strings cs.items x.names)) x.buckets;
      some = x.some;
      room = x.room;
      gaps = x.gaps;
    } in
    subst (λ m. IsIndexed fixed m strings cs b) (sym is) grown

-- nothing is in the buckets at first
pub index_empty : (fixed : List ℕ) (strings : List (List ℕ)) (cs : Filling Cell) (b : Buckets) (n m : ℕ) → cs.items ≡ [] → cs.limit ≤ m → 0 < n → b.lasts.items ≡ replicate n 0 → b.befores ≡ record { items = []; limit = m } → IsIndexed fixed [] strings cs b
index_empty fixed strings cs b n m none limit some lasts befores = record {
  names = λ i c s v e p. no_cell (sym (ap (λ xs. slice_get xs i) none) ∙ e);
  buckets = subst (λ ks. AreBuckets ks b.lasts.items b.befores.items) (sym (ap (buckets_of (length b.lasts.items) (text_in fixed [] strings)) none)) nothing;
  some = omega (arith, ap length lasts, length-replicate {A = ℕ} n 0);
  room = omega (arith, limit, ap (λ (f : Filling ℕ). f.limit) befores);
  gaps = λ i c k e p. no_cell (sym (ap (λ xs. slice_get xs i) none) ∙ e);
}
  where
    no_cell : {X Y : Type 0} {p : X} → ◌≡◌ {A = Option X} None (Some p) → Y
    no_cell e = absurd cc

    nothing : AreBuckets [] b.lasts.items b.befores.items
    nothing = record {
      lasts = λ d h. ap (λ xs. get_or xs d 0) lasts ∙ get_or-replicate n d 0 0 (omega (arith, h, ap length lasts, length-replicate {A = ℕ} n 0));
      befores = λ p d e. no_cell e;
      room = λ p d e. no_cell e;
    }
