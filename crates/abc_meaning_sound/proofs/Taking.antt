-- What an instruction takes: its values, the parts of its name, its operands.
use Rattle.std.proofs.Common.{◌≡◌, ℕ, zero, suc, ◌≤◌, List, [], ◌∷◌, ◌++◌, length, take, drop, refl, sym, ap, ◌∙◌, subst, arith, length-append, length-drop, length-take-le}
use Rattle.std.specs.Prelude.{Bool, true, false, flat_map, Some, None}
use Rattle.std.specs.declared.option.Option.{Option}
use Rattle.std.proofs.lemmas.Bool.{false≢true}
use Rattle.abc_heap_values.specs.declared.values.Value.{Value}
use Rattle.abc_heap_values.specs.declared.values.Value.TheVariants.{Null, Space}
use Rattle.abc_heap_store.specs.Heap.{Heap}
use Rattle.abc_heap_store.specs.Texts.{IsText}
use Rattle.abc_objects.proofs.Grown.{text_grown}
use Rattle.abc_link_names.specs.declared.types.Kind.{Kind}
use Rattle.abc_link_names.specs.declared.types.Kind.TheVariants as kinds
use Rattle.abc_objects.specs.declared.name.Name.{Name}
use Rattle.abc_verify_typing.specs.Instructions.{operand}
use Rattle.abc_verify_typing.specs.Rows.{Shape}
use Rattle.abc_verify_typing.specs.declared.row.Need.{Need}
use Rattle.abc_verify_typing.specs.declared.row.Need.TheVariants as needed
use Rattle.abc_verify_typing.specs.declared.row.Operand.TheVariants.{NameAt, PlainNameAt}
use Rattle.abc_file_types.specs.declared.code.Instr.{Instr}
use Rattle.abc_file_types.specs.declared.names.Multiname.{Multiname}
use Rattle.abc_file_types.specs.declared.names.Multiname.TheVariants as names
use Rattle.abc_verify_typing.specs.Effects.{Here, args, kind_at, multiname_at, needs, runtime, stack_below, parts_of_need}
use Rattle.abc_verify_typing.specs.Lists.{Each2}
use Rattle.abc_verify_typing.specs.Routines.{Routine}
use Rattle.abc_verify_typing.specs.Rules.{all_suit, has_form, is_static_name, is_namespace, is_plain_multiname, suits}
use Rattle.abc_verify_typing.specs.Standing.{here_with}
use Rattle.abc_verify_typing.specs.declared.rule.VerifyRule.{VerifyRule}
use Rattle.abc_verify_typing.specs.declared.rule.VerifyRule.TheVariants.{NameForm, NotSpace}
use Rattle.abc_verify_typing.specs.declared.state.State.{State}
use Rattle.abc_verify_typing.proofs.Lists.{Each2-drop, Each2-take}
use Rattle.abc_verify_typing.proofs.Member.{and_both, and_left, and_right}
use Rattle.abc_frames.specs.Frame.{Frame}
use Rattle.abc_meaning.specs.Setting.{NameForm as Form, NoPart, NoSpace, NoText, Setting, Whole, string_of}
use Rattle.abc_meaning.specs.World.{Run, World}
use Rattle.abc_meaning.specs.At.{ActCase, one, take_one, take_two, two}
use Rattle.abc_meaning.specs.Names.{form_of_name, name_of, name_by_form, space_of}
use Rattle.abc_meaning.specs.Sound.{AreTypings, IsOfKind, Typings, WorldSound}
use Rattle.abc_meaning.specs.Tests.{at_frame, name_values, parts_count, values_of}
use Rattle.abc_meaning_sound.specs.Given.{FileGiven, OpsGiven}
use Rattle.abc_meaning_sound.specs.Keeping.{Fares, Ready}
use Rattle.abc_meaning_sound.proofs.Faring.{done_fares, stop_fares, then_fares}
use Rattle.abc_meaning_sound.proofs.Growing.{kind_on}
use Rattle.abc_meaning_sound.proofs.Shapes.{below_holds, enough}

-- ---- plain values, and the parts of a name among them

abbrev pub plain_count : List Need → ℕ
plain_count [] = 0
plain_count (needed.Runtime ∷ ns) = plain_count ns
plain_count (need ∷ ns) = suc (plain_count ns)

abbrev pub has_parts : List Need → Bool
has_parts [] = false
has_parts (needed.Runtime ∷ ns) = true
has_parts (need ∷ ns) = has_parts ns

-- the same of any list
abbrev pub plain_of : {X : Type 0} → List Need → ℕ → List X → List X
plain_of (needed.Runtime ∷ ns) n vs = plain_of ns n (drop n vs)
plain_of (need ∷ ns) n (v ∷ vs) = v ∷ plain_of ns n vs
plain_of ns n vs = []

abbrev pub parts_in : {X : Type 0} → List Need → ℕ → List X → List X
parts_in (needed.Runtime ∷ ns) n vs = take n vs
parts_in (need ∷ ns) n (v ∷ vs) = parts_in ns n vs
parts_in ns n vs = []

plain_is : (ns : List Need) (n : ℕ) (vs : List Value) → values_of ns n vs ≡ plain_of ns n vs
plain_is [] n vs = refl
plain_is (needed.Runtime ∷ ns) n vs = plain_is ns n (drop n vs)
plain_is (need ∷ ns) n [] = grind arith
plain_is (need ∷ ns) n (v ∷ vs) = ap (λ xs. v ∷ xs) (plain_is ns n vs)

parts_are : (ns : List Need) (n : ℕ) (vs : List Value) → name_values ns n vs ≡ parts_in ns n vs
parts_are [] n vs = refl
parts_are (needed.Runtime ∷ ns) n vs = refl
parts_are (need ∷ ns) n [] = grind arith
parts_are (need ∷ ns) n (v ∷ vs) = parts_are ns n vs

plain_each : {X Y : Type 0} (R : X → Y → Type 0) (ns : List Need) (n : ℕ) (xs : List X) (ys : List Y) → Each2 R xs ys → Each2 R (plain_of ns n xs) (plain_of ns n ys)
plain_each R [] n xs ys e = tt
plain_each R (needed.Runtime ∷ ns) n xs ys e = plain_each R ns n (drop n xs) (drop n ys) (Each2-drop R n xs ys e)
plain_each R (need ∷ ns) n [] [] e = grind arith
plain_each R (need ∷ ns) n (x ∷ xs) (y ∷ ys) e = (e.0, plain_each R ns n xs ys e.1)
plain_each R (need ∷ ns) n [] (y ∷ ys) e = absurd e
plain_each R (need ∷ ns) n (x ∷ xs) [] e = absurd e

parts_each : {X Y : Type 0} (R : X → Y → Type 0) (ns : List Need) (n : ℕ) (xs : List X) (ys : List Y) → Each2 R xs ys → Each2 R (parts_in ns n xs) (parts_in ns n ys)
parts_each R [] n xs ys e = tt
parts_each R (needed.Runtime ∷ ns) n xs ys e = Each2-take R n xs ys e
parts_each R (need ∷ ns) n [] [] e = grind arith
parts_each R (need ∷ ns) n (x ∷ xs) (y ∷ ys) e = parts_each R ns n xs ys e.1
parts_each R (need ∷ ns) n [] (y ∷ ys) e = absurd e
parts_each R (need ∷ ns) n (x ∷ xs) [] e = absurd e

plain_long : {X : Type 0} (parts ns : List Need) (xs : List X) → length (flat_map (parts_of_need parts) ns) ≤ length xs → length (plain_of ns (length parts) xs) ≡ plain_count ns
plain_long parts [] xs le = refl
plain_long parts (needed.Runtime ∷ ns) xs le = plain_long parts ns (drop (length parts) xs) (let e = length-append parts (flat_map (parts_of_need parts) ns) in let d = length-drop (length parts) xs in omega (arith, le, e, d))
plain_long parts (need ∷ ns) [] le = absurd (omega (arith, le))
plain_long parts (need ∷ ns) (x ∷ xs) le = ap suc (plain_long parts ns xs (omega (arith, le)))

parts_long : {X : Type 0} (parts ns : List Need) (xs : List X) → has_parts ns ≡ true → length (flat_map (parts_of_need parts) ns) ≤ length xs → length (parts_in ns (length parts) xs) ≡ length parts
parts_long parts [] xs e le = absurd cc
parts_long parts (needed.Runtime ∷ ns) xs e le = length-take-le (length parts) xs (let e = length-append parts (flat_map (parts_of_need parts) ns) in omega (arith, le, e))
parts_long parts (need ∷ ns) [] e le = absurd (omega (arith, le))
parts_long parts (need ∷ ns) (x ∷ xs) e le = parts_long parts ns xs e (omega (arith, le))

suit_front : (h : Here) (r : VerifyRule) (xs ys : List Need) (ks : List Kind) → all_suit h r (xs ++ ys) ks ≡ true → all_suit h r xs (take (length xs) ks) ≡ true
suit_front h r [] ys ks e = refl
suit_front h r (x ∷ xs) ys [] e = refl
suit_front h r (x ∷ xs) ys (k ∷ ks) e = and_both _ _ (and_left _ _ e) (suit_front h r xs ys ks (and_right (suits h r x k) _ e))

parts_suit : (h : Here) (r : VerifyRule) (parts ns : List Need) (ks : List Kind) → has_parts ns ≡ true → all_suit h r (flat_map (parts_of_need parts) ns) ks ≡ true → all_suit h r parts (parts_in ns (length parts) ks) ≡ true
parts_suit h r parts [] ks e s = absurd cc
parts_suit h r parts (needed.Runtime ∷ ns) ks e s = suit_front h r parts (flat_map (parts_of_need parts) ns) ks s
parts_suit h r parts (need ∷ ns) [] e s = idle parts
  where
    idle : (ns : List Need) → all_suit h r ns [] ≡ true
    idle [] = refl
    idle (n ∷ ns) = refl
parts_suit h r parts (need ∷ ns) (k ∷ ks) e s = parts_suit h r parts ns ks e (and_right (suits h r need k) _ s)

-- the first kinds, where plain values are taken alone
pub first_kind : (n : ℕ) (ks : List Kind) (k : Kind) → plain_of (needed.Value ∷ []) n ks ≡ k ∷ [] → kind_at ks 0 ≡ k
first_kind n [] k e = absurd cc
first_kind n (x ∷ ks) k e = cc

pub two_kinds : (n : ℕ) (ks : List Kind) (k l : Kind) → plain_of (needed.Value ∷ needed.Value ∷ []) n ks ≡ l ∷ k ∷ [] → (kind_at ks 0 ≡ l) × (kind_at ks 1 ≡ k)
two_kinds n [] k l e = absurd cc
two_kinds n (x ∷ []) k l e = absurd cc
two_kinds n (x ∷ y ∷ ks) k l e = (cc, cc)

-- ---- the form of a name

abbrev pub parts_of : Form → List Need
parts_of (Whole name) = []
parts_of (NoSpace text) = needed.Namespace ∷ []
parts_of (NoText spaces) = needed.Value ∷ []
parts_of NoPart = needed.Value ∷ needed.Namespace ∷ []

-- its text is there
abbrev pub FormText : Setting → Heap → Form → Type 0
FormText p h (Whole name) = IsText p.linked.file.strings h name.text
FormText p h (NoSpace text) = IsText p.linked.file.strings h text
FormText p h form = Unit {0}

pub string_there : (p : Setting) (h : Heap) (i : ℕ) → IsText p.linked.file.strings h (string_of p i)
string_there p h zero = omega arith
string_there p h (suc i) = omega arith

pub record IsForm (p : Setting) (o : Option Multiname) : Type 0 where
  pub form : Form
  pub is : form_of_name p o ≡ Some form
  pub parts : runtime o ≡ parts_of form
  pub text : (h : Heap) → FormText p h form

form_found : (p : Setting) (o : Option Multiname) → is_static_name o ≡ true → IsForm p o
form_found p None e = absurd (false≢true e)
form_found p (Some (names.QName false ns n)) e = record { form = Whole (record { spaces = Rattle.abc_meaning.specs.Setting.spaces_for ns; text = string_of p n }); is = refl; parts = refl; text = λ h. string_there p h n }
form_found p (Some (names.QName true ns n)) e = absurd (false≢true e)
form_found p (Some (names.Multi false n set)) e = record { form = Whole (record { spaces = Rattle.abc_objects.specs.declared.name.Spaces.TheVariants.Set set; text = string_of p n }); is = refl; parts = refl; text = λ h. string_there p h n }
form_found p (Some (names.Multi true n set)) e = absurd (false≢true e)
form_found p (Some (names.Rt false n)) e = record { form = NoSpace (string_of p n); is = refl; parts = refl; text = λ h. string_there p h n }
form_found p (Some (names.Rt true n)) e = absurd (false≢true e)
form_found p (Some (names.RtL false)) e = record { form = NoPart; is = refl; parts = refl; text = λ h. tt }
form_found p (Some (names.RtL true)) e = absurd (false≢true e)
form_found p (Some (names.MultiL false set)) e = record { form = NoText (Rattle.abc_objects.specs.declared.name.Spaces.TheVariants.Set set); is = refl; parts = refl; text = λ h. tt }
form_found p (Some (names.MultiL true set)) e = absurd (false≢true e)
form_found p (Some (names.TypeName base params)) e = absurd (false≢true e)

-- a plain name is a name, without runtime parts
plain_name : (o : Option Multiname) → is_plain_multiname o ≡ true → is_static_name o ≡ true
plain_name None e = e
plain_name (Some (names.QName attr ns n)) e = e
plain_name (Some (names.Multi attr n set)) e = e
plain_name (Some (names.Rt attr n)) e = absurd (false≢true e)
plain_name (Some (names.RtL attr)) e = absurd (false≢true e)
plain_name (Some (names.MultiL attr set)) e = absurd (false≢true e)
plain_name (Some (names.TypeName base params)) e = absurd (false≢true e)

plain_parts : (o : Option Multiname) → is_plain_multiname o ≡ true → runtime o ≡ []
plain_parts None e = refl
plain_parts (Some (names.QName attr ns n)) e = refl
plain_parts (Some (names.Multi attr n set)) e = refl
plain_parts (Some (names.Rt attr n)) e = absurd (false≢true e)
plain_parts (Some (names.RtL attr)) e = absurd (false≢true e)
plain_parts (Some (names.MultiL attr set)) e = absurd (false≢true e)
plain_parts (Some (names.TypeName base params)) e = refl

module _ (p : Setting) (file : FileGiven p) (ops : OpsGiven p) (typings : Typings) (typed : AreTypings p typings) (w : World) (f : Frame) (r : Routine) (s : State) (instr : Instr) (row : Shape) (ready : Ready p typings w f r s instr row) where
  abbrev here_at : Here
  here_at = here_with p.linked r f.place instr row

  abbrev is_at : ActCase
  is_at = at_frame p here_at f

  abbrev count : ℕ
  count = parts_count here_at

  holds_there : Each2 (IsOfKind p.linked w.heap) (stack_below here_at s) (drop (args here_at) f.stack)
  holds_there = below_holds p file typings typed w f r s instr row ready

  long : length (needs here_at) ≤ length (stack_below here_at s)
  long = enough p file typings typed w f r s instr row ready

  abbrev pub kinds_taken : List Kind
  kinds_taken = plain_of row.takes count (stack_below here_at s)

  values_there : Each2 (IsOfKind p.linked w.heap) kinds_taken is_at.values
  values_there = subst (λ vs. Each2 (IsOfKind p.linked w.heap) kinds_taken vs) (sym (plain_is row.takes count (drop (args here_at) f.stack))) (plain_each (IsOfKind p.linked w.heap) row.takes count _ _ holds_there)

  counted : length kinds_taken ≡ plain_count row.takes
  counted = plain_long (runtime (multiname_at p.linked (operand instr))) row.takes (stack_below here_at s) long

  one_of : {X : Type 0} (ks : List Kind) (vs : List Value) → length ks ≡ 1 → Each2 (IsOfKind p.linked w.heap) ks vs → (m : Value → Run X) (R : World → X → Type 0) → ((k : Kind) (v : Value) → ks ≡ k ∷ [] → IsOfKind p.linked w.heap k v → Fares p w (m v w) R) → Fares p w (take_one vs m w) R
  one_of (k ∷ []) (v ∷ vs) e h m R g = g k v refl h.0
  one_of (k ∷ []) [] e h m R g = absurd h
  one_of [] vs e h m R g = absurd cc
  one_of (k ∷ l ∷ ks) vs e h m R g = absurd cc

  pub one_then : {X : Type 0} (m : Value → Run X) (R : World → X → Type 0) → plain_count row.takes ≡ 1 → ((k : Kind) (v : Value) → kinds_taken ≡ k ∷ [] → IsOfKind p.linked w.heap k v → Fares p w (m v w) R) → Fares p w (one is_at m w) R
  one_then m R e g = one_of kinds_taken is_at.values (counted ∙ e) values_there m R g

  two_of : {X : Type 0} (ks : List Kind) (vs : List Value) → length ks ≡ 2 → Each2 (IsOfKind p.linked w.heap) ks vs → (m : Value → Value → Run X) (R : World → X → Type 0) → ((k l : Kind) (x y : Value) → ks ≡ l ∷ k ∷ [] → IsOfKind p.linked w.heap k x → IsOfKind p.linked w.heap l y → Fares p w (m x y w) R) → Fares p w (take_two vs m w) R
  two_of (l ∷ k ∷ []) (y ∷ x ∷ vs) e h m R g = g k l x y refl h.1.0 h.0
  two_of (l ∷ k ∷ []) (y ∷ []) e h m R g = absurd h.1
  two_of (l ∷ k ∷ []) [] e h m R g = absurd h
  two_of [] vs e h m R g = absurd cc
  two_of (l ∷ []) vs e h m R g = absurd cc
  two_of (l ∷ k ∷ j ∷ ks) vs e h m R g = absurd cc

  pub two_then : {X : Type 0} (m : Value → Value → Run X) (R : World → X → Type 0) → plain_count row.takes ≡ 2 → ((k l : Kind) (x y : Value) → kinds_taken ≡ l ∷ k ∷ [] → IsOfKind p.linked w.heap k x → IsOfKind p.linked w.heap l y → Fares p w (m x y w) R) → Fares p w (two is_at m w) R
  two_then m R e g = two_of kinds_taken is_at.values (counted ∙ e) values_there m R g

  -- ---- the name

  abbrev pub NameThere : World → Name → Type 0
  NameThere n name = IsText p.linked.file.strings n.heap name.text

  space_fares : (n : World) (k : Kind) (v : Value) → WorldSound p n → IsOfKind p.linked n.heap k v → is_namespace k ≡ true → Fares p n (space_of v n) (λ i x. Unit {0})
  space_fares n k (Space x) z hv e = done_fares p n _ _ z tt
  space_fares n k Null z hv e = stop_fares p n _ _ z tt
  space_fares n kinds.Null v z hv e = absurd (let q = hv.kind in grind (arith, q))
  space_fares n kinds.Space v z hv e = absurd (let q = hv.kind in grind (arith, q))
  space_fares n k v z hv e = absurd cc

  named_fares : (form : Form) (ks : List Kind) (vs : List Value) → FormText p w.heap form → Each2 (IsOfKind p.linked w.heap) ks vs → length ks ≡ length (parts_of form) → all_suit here_at NotSpace (parts_of form) ks ≡ true → Fares p w (name_by_form p (Some form) vs w) NameThere
  named_fares (Whole name) ks vs x e l q = done_fares p w _ _ ready.world x
  named_fares (NoSpace text) (k ∷ []) (v ∷ vs) x e l q = then_fares p w _ _ _ _ (space_fares w k v ready.world e.0 (and_left _ _ q)) (λ n of z u. done_fares p n _ _ z.sound (text_grown p.linked w.heap n.heap text z.grows.grows x))
  named_fares (NoSpace text) (k ∷ []) [] x e l q = absurd e
  named_fares (NoSpace text) [] vs x e l q = absurd cc
  named_fares (NoSpace text) (k ∷ j ∷ ks) vs x e l q = absurd cc
  named_fares (NoText spaces) (k ∷ []) (v ∷ vs) x e l q = then_fares p w _ _ _ _ (ops.spell w v ready.world e.0.exists) (λ n t z u. done_fares p n _ _ z.sound u)
  named_fares (NoText spaces) (k ∷ []) [] x e l q = absurd e
  named_fares (NoText spaces) [] vs x e l q = absurd cc
  named_fares (NoText spaces) (k ∷ j ∷ ks) vs x e l q = absurd cc
  named_fares NoPart (k ∷ j ∷ []) (t ∷ v ∷ vs) x e l q = then_fares p w _ _ _ _ (ops.spell w t ready.world e.0.exists) (λ n text z u. then_fares p n _ _ _ _ (space_fares n j v z.sound (kind_on p w.heap n.heap z.grows j v e.1.0) (and_left (is_namespace j) true q)) (λ i of z' u'. done_fares p i _ _ z'.sound (text_grown p.linked n.heap i.heap text z'.grows.grows u)))
  named_fares NoPart (k ∷ j ∷ []) [] x e l q = absurd e
  named_fares NoPart (k ∷ j ∷ []) (t ∷ []) x e l q = absurd e.1
  named_fares NoPart [] vs x e l q = absurd cc
  named_fares NoPart (k ∷ []) vs x e l q = absurd cc
  named_fares NoPart (k ∷ j ∷ i ∷ ks) vs x e l q = absurd cc

  pub name_fares : row.operand ≡ NameAt → has_parts row.takes ≡ true → Fares p w (name_of is_at w) NameThere
  name_fares o has =
      let name = multiname_at p.linked (operand instr) in
      let is : is_static_name name ≡ true = subst (λ x. has_form p.linked x (operand instr) ≡ true) o (ready.kept NameForm) in
      let form = form_found p name is in
      let parts = parts_in row.takes count (stack_below here_at s) in
      let q : all_suit here_at NotSpace (runtime name) parts ≡ true = parts_suit here_at NotSpace (runtime name) row.takes (stack_below here_at s) has (ready.kept NotSpace) in
      let l : length parts ≡ length (runtime name) = parts_long (runtime name) row.takes (stack_below here_at s) has long in
      let there : Each2 (IsOfKind p.linked w.heap) parts is_at.parts = subst (λ vs. Each2 (IsOfKind p.linked w.heap) parts vs) (sym (parts_are row.takes count (drop (args here_at) f.stack))) (parts_each (IsOfKind p.linked w.heap) row.takes count _ _ holds_there) in
      subst (λ x. Fares p w (name_by_form p x is_at.parts w) NameThere) (sym form.is) (named_fares form.form parts is_at.parts (form.text w.heap) there (subst (λ x. length parts ≡ length x) form.parts l) (subst (λ x. all_suit here_at NotSpace x parts ≡ true) form.parts q))

  -- a name without runtime parts
  pub plain_name_fares : row.operand ≡ PlainNameAt → Fares p w (name_of is_at w) NameThere
  plain_name_fares o =
      let name = multiname_at p.linked (operand instr) in
      let is : is_plain_multiname name ≡ true = subst (λ x. has_form p.linked x (operand instr) ≡ true) o (ready.kept NameForm) in
      let form = form_found p name (plain_name name is) in
      let none : parts_of form.form ≡ [] = sym form.parts ∙ plain_parts name is in
      subst (λ x. Fares p w (name_by_form p x is_at.parts w) NameThere) (sym form.is) (whole form.form none (form.text w.heap))
    where
      whole : (form : Form) → parts_of form ≡ [] → FormText p w.heap form → Fares p w (name_by_form p (Some form) is_at.parts w) NameThere
      whole (Whole name) e x = done_fares p w _ _ ready.world x
      whole (NoSpace text) e x = absurd cc
      whole (NoText spaces) e x = absurd cc
      whole NoPart e x = absurd cc
