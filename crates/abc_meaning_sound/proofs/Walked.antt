-- Walking over properties and elements.
use Rattle.std.proofs.Common.{◌≡◌, inl, ℕ, zero, suc, ◌+◌, ◌-◌, ◌≤◌, ◌<◌, List, [], ◌∷◌, length, drop, set, refl, ap, ◌∙◌, subst, arith, length-drop, ltb, ltb-true, eqb}
use Rattle.std.specs.Prelude.{Bool, true, false, not, ◌&&◌, pos, nat_lt, slice_get, Some, None, if◌then◌else◌}
use Rattle.std.specs.Fmt.{decimal}
use Rattle.std.specs.declared.option.Option.{Option}
use Rattle.std.proofs.lemmas.Int.{ints}
use Rattle.abc_base.specs.Ranges.{IsNumber}
use Rattle.abc_heap_values.specs.declared.values.ObjId.{ObjId}
use Rattle.abc_heap_values.specs.declared.values.Span.{Span}
use Rattle.abc_heap_values.specs.declared.values.Value.{Value}
use Rattle.abc_heap_values.specs.declared.values.Value.TheVariants.{Undefined, Null, Num, Bool as Truth, Text, Space, Obj}
use Rattle.abc_base_graphs.specs.Ways.{way}
use Rattle.abc_heap_store.specs.Heap.{Object, all_cells, cells_of, object_at, obj_id}
use Rattle.abc_heap_store.specs.Properties.{at_position, element_at, present_property, first_filled, next_element, next_filled, the_name, the_value, walked_next}
use Rattle.abc_heap_store.specs.Texts.{IsText}
use Rattle.abc_heap_store.specs.What.{is_array}
use Rattle.abc_objects.specs.Stands.{ObjectStands}
use Rattle.abc_objects.specs.Values.{Exists}
use Rattle.abc_objects.proofs.Reshaped.{object_there}
use Rattle.abc_link_names.specs.declared.types.Kind.TheVariants as kinds
use Rattle.abc_objects.specs.Objects.{delegate_at}
use Rattle.abc_verify_typing.specs.Instructions.{local, second_local}
use Rattle.abc_verify_typing.specs.Rows.{Shape, makes, on_locals, row_at, table_of_rows}
use Rattle.abc_verify_typing.specs.declared.row.Locals.TheVariants.{Walks}
use Rattle.abc_verify_typing.specs.declared.row.Need.TheVariants as needed
use Rattle.abc_verify_typing.specs.declared.row.RowKind.TheVariants as rows
use Rattle.abc_verify_typing.specs.declared.row.Source.TheVariants.{Fixed}
use Rattle.abc_verify_typing.specs.Effects.{kind_of_row}
use Rattle.abc_verify_typing.specs.Lists.{Each}
use Rattle.abc_verify_typing.specs.Rules.{has_locals}
use Rattle.abc_verify_typing.specs.declared.rule.VerifyRule.TheVariants.{LocalIndex}
use Rattle.abc_verify_typing.proofs.Lists.{Each2-length, Each2-set}
use Rattle.abc_verify_typing.proofs.Member.{and_left, and_right}
use Rattle.abc_meaning.specs.Setting.{Setting}
use Rattle.abc_meaning.specs.World.{World, pure, object_named, see, ◌>>=◌}
use Rattle.abc_meaning.specs.At.{Doing, gives_pushed, goes, after_pushes, two, frame_with_local}
use Rattle.abc_meaning.specs.Walking.{Position, element_text, first_along, has_next, has_next2, walked_name, next_along, next_in, number_or_zero, object_number, or_later, position, position_at, text_or_null, value_in, value_or_undefined, object_of, walks_to}
use Rattle.abc_meaning.specs.Sound.{AreTypings, IsOfKind, Typings, WorldSound}
use Rattle.abc_meaning.proofs.ValueKinds.{below_object}
use Rattle.abc_meaning_sound.specs.Given.{FileGiven, OpsGiven}
use Rattle.abc_meaning_sound.specs.Keeping.{ActSound, EntrySound, Fares}
use Rattle.abc_meaning_sound.proofs.Cases.{Case, Sound, at_of, by_case, here_of, two_give, entry}
use Rattle.abc_meaning_sound.proofs.Faring.{done_fares, leaves_self, some_then, then_fares}
use Rattle.abc_meaning_sound.proofs.Growing.{any_kind}
use Rattle.abc_meaning_sound.proofs.Plainly.{local_there}
use Rattle.abc_meaning_sound.proofs.Shapes.{moves_to, scopes_left, stack_left, unslotted_left}
use Rattle.abc_meaning_sound.proofs.Tests.{local_at}

-- ---- positions

found_position : (ps : List (Option (Span × Value))) (k : ℕ) (x : Span × Value) → at_position ps k ≡ Some x → (j : ℕ) × (slice_get ps j ≡ Some (Some x))
found_position ps zero x e = absurd cc
found_position ps (suc k) x e = go (slice_get ps k) refl e
  where
    go : (o : Option (Option (Span × Value))) → slice_get ps k ≡ o → present_property o ≡ Some x → (j : ℕ) × (slice_get ps j ≡ Some (Some x))
    go None is e = absurd cc
    go (Some q) is e = (k, is ∙ ap Some e)

filled_low : (k r : ℕ) (ps : List (Option (Span × Value))) → first_filled k ps ≡ Some r → (r ≤ k + length ps) × (0 < length ps)
filled_low k r [] e = absurd cc
filled_low k r (None ∷ ps) e = let z = filled_low (k + 1) r ps e in let a = z.0 in (omega (arith, a), omega arith)
filled_low k r (Some x ∷ ps) e = let same : k + 1 ≡ r = cc in (omega (arith, same), omega arith)

walked_low : (ob : Object) (k r : ℕ) → walked_next ob k ≡ Some r → r ≤ length ob.properties + length ob.elements
walked_low ob k r e = go (is_array ob.what) e
  where
    elements : (b : Bool) → nat_lt k (length ob.elements) ≡ b → (if b then Some (k + 1) else None) ≡ Some r → r ≤ length ob.properties + length ob.elements
    elements true is e = let same : k + 1 ≡ r = cc in let low = ltb-true k (length ob.elements) is in omega (arith, same, low)
    elements false is e = absurd cc

    go : (b : Bool) → (if b then next_element (length ob.elements) k else next_filled ob.properties k) ≡ Some r → r ≤ length ob.properties + length ob.elements
    go true e = elements (nat_lt k (length ob.elements)) refl e
    go false e = let z = filled_low k r (drop k ob.properties) e in let a = z.0 in let b = z.1 in let l = length-drop k ob.properties in omega (arith, a, b, l)

pub cells_in : (obs : List Object) (o : ℕ) → cells_of (object_at obs o) ≤ all_cells obs
cells_in [] o = omega arith
cells_in (x ∷ obs) zero = omega arith
cells_in (x ∷ obs) (suc o) = let r = cells_in obs o in omega (arith, r)

no_more : (k : ℕ) → next_filled [] k ≡ None
no_more zero = refl
no_more (suc k) = refl

-- where there is a position, there is an object
walked_there : (obs : List Object) (o k r : ℕ) → walked_next (object_at obs o) k ≡ Some r → o < length obs
walked_there [] o k r e = absurd (let z = no_more k in cc)
walked_there (x ∷ obs) zero k r e = omega arith
walked_there (x ∷ obs) (suc o) k r e = let z = walked_there obs o k r e in omega (arith, z)

module _ (p : Setting) (file : FileGiven p) (ops : OpsGiven p) (typings : Typings) (typed : AreTypings p typings) where
  abbrev E : ℕ × Doing → Type 0
  E = EntrySound p typings

  -- a number of cells is a number
  small : (w : World) (n : ℕ) → WorldSound p w → n ≤ all_cells w.heap.objects → IsNumber (pos n)
  small w n z le = let a = z.within.cells in let b = z.within.counted in (omega (arith, ints), omega (arith, ints, le, a, b))

  position_small : (w : World) (o k r : ℕ) → WorldSound p w → walked_next (object_at w.heap.objects o) k ≡ Some r → IsNumber (pos r)
  position_small w o k r z e = let a = walked_low (object_at w.heap.objects o) k r e in let c = cells_in w.heap.objects o in small w r z (omega (arith, a, c))

  -- what is walked over stands
  pub walked_stands : (w : World) (o : ObjId) (ob : Object) → WorldSound p w → object_named o w ≡ Some ob → ObjectStands p.linked w.heap o.0 ob
  walked_stands w o ob z e = z.stands.objects o.0 ob e

  -- ---- hasnext

  next_fares : (w : World) (v i : Value) → WorldSound p w → IsOfKind p.linked w.heap kinds.Num (has_next v i w)
  next_fares w (Obj o) i z = at (object_named o w) refl
    where
      number : (ob : Object) → object_named o w ≡ Some ob → (r : Option ℕ) → walked_next ob (position i) ≡ r → IsOfKind p.linked w.heap kinds.Num (number_or_zero r)
      number ob is None e = record { exists = small w 0 z (omega arith); kind = tt }
      number ob is (Some r) e = record { exists = position_small w o.0 (position i) r z (ap (λ x. walked_next x (position i)) (object_there w.heap.objects o.0 ob is) ∙ e); kind = tt }

      at : (x : Option Object) → object_named o w ≡ x → IsOfKind p.linked w.heap kinds.Num (number_or_zero (next_in x (position i)))
      at None is = record { exists = small w 0 z (omega arith); kind = tt }
      at (Some ob) is = number ob is (walked_next ob (position i)) refl
  next_fares w Undefined i z = record { exists = small w 0 z (omega arith); kind = tt }
  next_fares w Null i z = record { exists = small w 0 z (omega arith); kind = tt }
  next_fares w (Num n) i z = record { exists = small w 0 z (omega arith); kind = tt }
  next_fares w (Truth n) i z = record { exists = small w 0 z (omega arith); kind = tt }
  next_fares w (Text n) i z = record { exists = small w 0 z (omega arith); kind = tt }
  next_fares w (Space n) i z = record { exists = small w 0 z (omega arith); kind = tt }

  hasnext : E (0x1F, gives_pushed (λ a. two a λ o i. see (has_next o i)))
  unfolding row_at table_of_rows
  hasnext = entry p typings 0x1F (makes (needed.Index ∷ needed.Value ∷ []) rows.Num) (gives_pushed (λ a. two a λ o i. see (has_next o i))) refl (two_give p file ops typings typed 0x1F (makes (needed.Index ∷ needed.Value ∷ []) rows.Num) (Fixed rows.Num) (λ a o i. see (has_next o i)) (record { unslotted_is = refl; scoping = refl; locals = λ h t. refl; leads_is = refl }) refl refl
      (λ c k l x y q hx hy. done_fares p c.world _ _ c.ready.world (next_fares c.world x y c.ready.world)))

  -- ---- nextname, nextvalue

  abbrev IsName : World → Value → Type 0
  IsName n v = IsOfKind p.linked n.heap kinds.Text v

  property_there : (w : World) (ob : Object) (o : ℕ) (k : ℕ) (x : Span × Value) → ObjectStands p.linked w.heap o ob → at_position ob.properties k ≡ Some x → IsText p.linked.file.strings w.heap x.0 × Exists p.linked w.heap x.1
  property_there w ob o k x s e = let f = found_position ob.properties k x e in s.properties f.0 (Some x) f.1

  name_fares : (w : World) (x : Option Object) (o : ℕ) (k : ℕ) → WorldSound p w → ((ob : Object) → x ≡ Some ob → ObjectStands p.linked w.heap o ob) → Fares p w (walked_name x k w) IsName
  name_fares w None o k z s = done_fares p w Null _ z (record { exists = tt; kind = tt })
  name_fares w (Some ob) o k z s = go (is_array ob.what)
    where
      element : (e : Option Value) → Fares p w (element_text k e w) IsName
      element None = done_fares p w Null _ z (record { exists = tt; kind = tt })
      element (Some v) = then_fares p w _ _ _ _ (ops.text w (decimal (k - 1)) z) (λ n t l ht. done_fares p n (Text t) _ l.sound (record { exists = ht; kind = tt }))

      property : (e : Option (Span × Value)) → at_position ob.properties k ≡ e → IsName w (text_or_null (the_name e))
      property None is = record { exists = tt; kind = tt }
      property (Some x) is = record { exists = (property_there w ob o k x (s ob refl) is).0; kind = tt }

      go : (b : Bool) → Fares p w ((if b then element_text k (element_at ob.elements k) else pure (text_or_null (the_name (at_position ob.properties k)))) w) IsName
      go true = element (element_at ob.elements k)
      go false = done_fares p w _ _ z (property (at_position ob.properties k) refl)

  value_there : (w : World) (x : Option Object) (o : ℕ) (k : ℕ) → ((ob : Object) → x ≡ Some ob → ObjectStands p.linked w.heap o ob) → Exists p.linked w.heap (value_in x k)
  value_there w None o k s = tt
  value_there w (Some ob) o k s = go (is_array ob.what)
    where
      element : (j : ℕ) (e : Option Value) → element_at ob.elements j ≡ e → Exists p.linked w.heap (value_or_undefined e)
      element j None is = tt
      element zero (Some v) is = absurd cc
      element (suc j) (Some v) is = (s ob refl).element_values j v is

      property : (e : Option (Span × Value)) → at_position ob.properties k ≡ e → Exists p.linked w.heap (value_or_undefined (the_value e))
      property None is = tt
      property (Some x) is = (property_there w ob o k x (s ob refl) is).1

      go : (b : Bool) → Exists p.linked w.heap (value_or_undefined (if b then element_at ob.elements k else the_value (at_position ob.properties k)))
      go true = element k (element_at ob.elements k) refl
      go false = property (at_position ob.properties k) refl

  nextname : E (0x1E, gives_pushed (λ a. two a λ o i. see (object_of o) >>= λ ob. walked_name ob (position i)))
  unfolding row_at table_of_rows
  nextname = entry p typings 0x1E (makes (needed.Index ∷ needed.Value ∷ []) rows.Text) (gives_pushed (λ a. two a λ o i. see (object_of o) >>= λ ob. walked_name ob (position i))) refl (two_give p file ops typings typed 0x1E (makes (needed.Index ∷ needed.Value ∷ []) rows.Text) (Fixed rows.Text) (λ a o i. see (object_of o) >>= λ ob. walked_name ob (position i)) (record { unslotted_is = refl; scoping = refl; locals = λ h t. refl; leads_is = refl }) refl refl
      (λ c k l x y q hx hy. over c.world x (position y) c.ready.world))
    where
      over : (w : World) (v : Value) (k : ℕ) → WorldSound p w → Fares p w (walked_name (object_of v w) k w) IsName
      over w (Obj o) k z = name_fares w (object_named o w) o.0 k z (λ ob e. walked_stands w o ob z e)
      over w Undefined k z = name_fares w None 0 k z (λ ob e. absurd cc)
      over w Null k z = name_fares w None 0 k z (λ ob e. absurd cc)
      over w (Num n) k z = name_fares w None 0 k z (λ ob e. absurd cc)
      over w (Truth n) k z = name_fares w None 0 k z (λ ob e. absurd cc)
      over w (Text n) k z = name_fares w None 0 k z (λ ob e. absurd cc)
      over w (Space n) k z = name_fares w None 0 k z (λ ob e. absurd cc)

  nextvalue : E (0x23, gives_pushed (λ a. two a λ o i. see (object_of o) >>= λ ob. pure (value_in ob (position i))))
  unfolding row_at table_of_rows
  nextvalue = entry p typings 0x23 (makes (needed.Index ∷ needed.Value ∷ []) rows.Any) (gives_pushed (λ a. two a λ o i. see (object_of o) >>= λ ob. pure (value_in ob (position i)))) refl (two_give p file ops typings typed 0x23 (makes (needed.Index ∷ needed.Value ∷ []) rows.Any) (Fixed rows.Any) (λ a o i. see (object_of o) >>= λ ob. pure (value_in ob (position i))) (record { unslotted_is = refl; scoping = refl; locals = λ h t. refl; leads_is = refl }) refl refl
      (λ c k l x y q hx hy. done_fares p c.world _ _ c.ready.world (any_kind p.linked c.world.heap _ (over c.world x (position y) c.ready.world))))
    where
      over : (w : World) (v : Value) (k : ℕ) → WorldSound p w → Exists p.linked w.heap (value_in (object_of v w) k)
      over w (Obj o) k z = value_there w (object_named o w) o.0 k (λ ob e. walked_stands w o ob z e)
      over w Undefined k z = tt
      over w Null k z = tt
      over w (Num n) k z = tt
      over w (Truth n) k z = tt
      over w (Text n) k z = tt
      over w (Space n) k z = tt

  -- ---- hasnext2

  pub record IsPosition (w : World) (e : Position) : Type 0 where
    pub inside : e.holder < length w.heap.objects
    pub number : IsNumber (pos e.position)

  AllSo : World → Option Position → Type 0
  AllSo w o = (e : Position) → o ≡ Some e → IsPosition w e

  at_object : (w : World) (o k : ℕ) → WorldSound p w → (e : Position) → position_at o (walked_next (object_at w.heap.objects o) k) ≡ Some e → IsPosition w e
  at_object w o k z e is = go (walked_next (object_at w.heap.objects o) k) refl is
    where
      go : (r : Option ℕ) → walked_next (object_at w.heap.objects o) k ≡ r → position_at o r ≡ Some e → IsPosition w e
      go None q is = absurd cc
      go (Some r) q is = let same : record { holder = o; position = r } ≡ e = cc in subst (IsPosition w) same (record { inside = walked_there w.heap.objects o k r q; number = position_small w o k r z q })

  either : (w : World) (a b : Option Position) (e : Position) → ((e : Position) → a ≡ Some e → IsPosition w e) → ((e : Position) → b ≡ Some e → IsPosition w e) → or_later a b ≡ Some e → IsPosition w e
  either w None b e f g is = g e is
  either w (Some q) b e f g is = f e is

  along : (w : World) (os : List ℕ) → WorldSound p w → (e : Position) → first_along w.heap os ≡ Some e → IsPosition w e
  along w [] z e is = absurd cc
  along w (o ∷ os) z e is = either w (position_at o (walked_next (object_at w.heap.objects o) 0)) (first_along w.heap os) e (λ q. at_object w o 0 z q) (λ q. along w os z q) is

  next_position : (w : World) (o : Option ℕ) (k : ℕ) → WorldSound p w → (e : Position) → next_along o k w.heap ≡ Some e → IsPosition w e
  next_position w None k z e is = absurd cc
  next_position w (Some o) k z e is = either w (position_at o (walked_next (object_at w.heap.objects o) k)) (first_along w.heap (way (delegate_at w.heap) (delegate_at w.heap o))) e (λ q. at_object w o k z q) (λ q. along w (way (delegate_at w.heap) (delegate_at w.heap o)) z q) is

  abbrev walk_row : Shape
  walk_row = on_locals Walks (makes [] rows.Bool)

  hasnext2 : Sound p file ops typings typed 0x32 (on_locals Walks (makes [] rows.Bool)) has_next2
  hasnext2 = by_case p file ops typings typed 0x32 walk_row has_next2 go
    where
      move : (c : Case p typings 0x32 walk_row) (b : Bool) (v : Value) (n : ℕ) → IsOfKind p.linked c.world.heap (kind_of_row p.linked rows.Object) v → IsNumber (pos n) → Fares p c.world (goes (after_pushes (Truth b ∷ []) (frame_with_local (second_local c.instr) (Num (pos n)) (frame_with_local (local c.instr) v (at_of c).rest))) c.world) (ActSound p typings c.frame)
      move c b v n hv hn =
          let w = c.world in
          let f = c.frame in
          let l = leaves_self p w c.ready.world in
          let first = Each2-set (IsOfKind p.linked w.heap) (local c.instr) c.state.locals f.locals (kind_of_row p.linked rows.Object) v c.ready.is.locals hv in
          let both = Each2-set (IsOfKind p.linked w.heap) (second_local c.instr) (set c.state.locals (local c.instr) (kind_of_row p.linked rows.Object)) (set f.locals (local c.instr) v) kinds.Num (Num (pos n)) first (record { exists = hn; kind = tt }) in
          done_fares p w _ _ c.ready.world (
            refl,
            moves_to p file typings typed w f c.routine c.state c.instr walk_row c.ready w l (after_pushes (Truth b ∷ []) (frame_with_local (second_local c.instr) (Num (pos n)) (frame_with_local (local c.instr) v (at_of c).rest))) (f.place + 1) (inl refl) (unslotted_left [] (Rattle.abc_verify_typing.specs.Effects.stack_below (here_of c) c.state) refl) (record { method = refl; home = refl; saved = refl; place = refl; wait = refl })
                (record { stack = (record { exists = tt; kind = tt }, stack_left p file typings typed w f c.routine c.state c.instr walk_row c.ready w l); scopes = scopes_left p file typings typed w f c.routine c.state c.instr walk_row c.ready w l; locals = both }),
          )

      walks : (c : Case p typings 0x32 walk_row) (e : Option Position) → ((q : Position) → e ≡ Some q → IsPosition c.world q) → Fares p c.world (walks_to (at_of c) e c.world) (ActSound p typings c.frame)
      walks c None g = move c false Null 0 (record { exists = tt; kind = tt }) (small c.world 0 c.ready.world (omega arith))
      walks c (Some e) g = let q = g e refl in move c true (Obj (obj_id e.holder)) e.position (record { exists = q.inside; kind = (q.inside, below_object p.linked file.linked (object_at c.world.heap.objects e.holder).layout) }) q.number

      go : (c : Case p typings 0x32 walk_row) → Fares p c.world (has_next2 (at_of c) c.world) (ActSound p typings c.frame)
      go c =
          let both : has_locals Walks c.instr c.routine.local_count ≡ true = c.ready.kept LocalIndex in
          let later = and_right (ltb (local c.instr) c.routine.local_count) (ltb (second_local c.instr) c.routine.local_count && not (eqb (local c.instr) (second_local c.instr))) both in
          let low = ltb-true (second_local c.instr) c.routine.local_count (and_left _ _ later) in
          let same = Each2-length (IsOfKind p.linked c.world.heap) c.state.locals c.frame.locals c.ready.is.locals in
          let count = c.ready.sized.locals in
          let v = local_there p file ops typings typed 0x32 walk_row c (and_left _ _ both) in
          let i = local_at p c.world c.state.locals c.frame.locals (second_local c.instr) c.ready.is.locals (omega (arith, low, same, count)) in
          some_then p c.world (slice_get c.frame.locals (local c.instr)) v.0 _ _ v.1
          (some_then p c.world (slice_get c.frame.locals (second_local c.instr)) i.0 _ _ i.1
          (walks c (next_along (object_number v.0) (position i.0) c.world.heap) (λ e q. next_position c.world (object_number v.0) (position i.0) c.ready.world e q)))

  pub walking_hold : (rest : List (ℕ × Doing)) → Each (EntrySound p typings) rest → Each (EntrySound p typings) ((0x1E, gives_pushed (λ a. two a λ o i. see (object_of o) >>= λ ob. walked_name ob (position i))) ∷ (0x1F, gives_pushed (λ a. two a λ o i. see (has_next o i))) ∷ (0x23, gives_pushed (λ a. two a λ o i. see (object_of o) >>= λ ob. pure (value_in ob (position i)))) ∷ (0x32, has_next2) ∷ rest)
  unfolding row_at table_of_rows
  walking_hold rest more = (nextname, (hasnext, (nextvalue, (entry p typings 0x32 (on_locals Walks (makes [] rows.Bool)) has_next2 refl hasnext2, more))))
