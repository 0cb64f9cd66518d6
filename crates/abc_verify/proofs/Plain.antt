-- What is worked out once of an instruction, and what follows of it.
use Rattle.std.proofs.Common.{◌≡◌, ℕ, ◌+◌, ◌^◌, ◌<◌, List, [], ◌∷◌, ◌++◌, length, drop, refl, sym, ap, ◌∙◌, subst}
use Rattle.std.specs.Prelude.{Bool, true, false, cond, not, ◌&&◌, flat_map}
use Rattle.std.specs.Bool.{OnFalse, OnTrue}
use Rattle.std.proofs.lemmas.List.{append-nil}
use Rattle.abc_link_names.specs.declared.types.Kind.{Kind}
use Rattle.abc_link_names.specs.declared.types.Kind.TheVariants.{Any}
use Rattle.abc_verify_typing.specs.Instructions.{operand}
use Rattle.abc_verify_typing.specs.declared.row.Need.{Need}
use Rattle.abc_verify_typing.specs.declared.row.Need.TheVariants.{Value, Namespace}
use Rattle.abc_verify_states.specs.Needs.{parts_of}
use Rattle.abc_verify_states.specs.declared.names.Parts.{Parts}
use Rattle.abc_verify_typing.specs.Effects.{Here, args, multiname_at, needs, receiver_kind, runtime, parts_of_need}
use Rattle.abc_verify_typing.specs.Rules.{all_suit, suits}
use Rattle.abc_verify_typing.specs.declared.rule.VerifyRule.{VerifyRule}
use Rattle.abc_verify_typing.specs.declared.rule.VerifyRule.TheVariants.{NotSpace}
use Rattle.abc_verify.specs.Asking.{AreClosed, AreValues, HasValues, IsAsked}
use Rattle.abc_verify.specs.declared.visit.Asked.{Asked}

-- ---- values that may be any

pub parts_plain : (x : Parts) → OnTrue (not x.space) (AreValues (parts_of x))
parts_plain x = go x.name x.space
  where
    go : (a b : Bool) → OnTrue (not b) (AreValues (cond a (Value ∷ []) [] ++ cond b (Namespace ∷ []) []))
    go true true = tt
    go true false = (refl, tt)
    go false true = tt
    go false false = tt

both : (xs ys : List Need) → AreValues xs → AreValues ys → AreValues (xs ++ ys)
both [] ys a b = b
both (x ∷ xs) ys a b = (a.0, both xs ys a.1 b)

on : (b : Bool) (P Q : Type 0) → (P → Q) → OnTrue b P → OnTrue b Q
on true P Q f p = f p
on false P Q f p = tt

pub one_plain : (f : Need → List Need) (a : Need) (p : Bool) → OnTrue p (AreValues (f a)) → OnTrue p (AreValues (flat_map f (a ∷ [])))
one_plain f a p h = on p (AreValues (f a)) (AreValues (flat_map f (a ∷ []))) (λ v. both (f a) [] v tt) h

held : (p : Bool) (P : Type 0) → p ≡ true → OnTrue p P → P
held true P e h = h
held false P e h = absurd cc

pub two_plain : (f : Need → List Need) (a b : Need) (p q : Bool) → p ≡ true → OnTrue p (AreValues (f a)) → OnTrue q (AreValues (f b)) → OnTrue q (AreValues (flat_map f (a ∷ b ∷ [])))
two_plain f a b p q e v h = on q (AreValues (f b)) (AreValues (flat_map f (a ∷ b ∷ []))) (λ w. both (f a) (f b ++ []) (held p (AreValues (f a)) e v) (both (f b) [] w tt)) h

pub three_plain : (f : Need → List Need) (a b c : Need) (p q : Bool) → p ≡ true → OnTrue p (AreValues (f a)) → OnTrue q (AreValues (flat_map f (b ∷ c ∷ []))) → OnTrue q (AreValues (flat_map f (a ∷ b ∷ c ∷ [])))
three_plain f a b c p q e v h = on q (AreValues (flat_map f (b ∷ c ∷ []))) (AreValues (flat_map f (a ∷ b ∷ c ∷ []))) (λ w. both (f a) (flat_map f (b ∷ c ∷ [])) (held p (AreValues (f a)) e v) w) h

-- ---- the parts of a name

more : (n : Need) (ns : List Need) → AreClosed (n ∷ []) → AreClosed ns → AreClosed (n ∷ ns)
more n ns a b ps qs =
    let one : parts_of_need ps n ≡ parts_of_need qs n = sym (append-nil (parts_of_need ps n)) ∙ a ps qs ∙ append-nil (parts_of_need qs n) in
    ap (λ (xs : List Need). xs ++ flat_map (parts_of_need ps) ns) one ∙ ap (λ (xs : List Need). parts_of_need qs n ++ xs) (b ps qs)

closed : (p : Bool) (P : Type 0) → p ≡ false → OnFalse p P → P
closed false P e h = h
closed true P e h = absurd cc

pub more_closed : (n : Need) (ns : List Need) (p q : Bool) → p ≡ false → OnFalse p (AreClosed (n ∷ [])) → OnFalse q (AreClosed ns) → OnFalse q (AreClosed (n ∷ ns))
more_closed n ns p q e a b = go q b
  where
    go : (q : Bool) → OnFalse q (AreClosed ns) → OnFalse q (AreClosed (n ∷ ns))
    go true b = tt
    go false b = more n ns (closed p (AreClosed (n ∷ [])) e a) b

pub closed_parts : (h : Here) (ps : List Need) (p : Bool) → p ≡ false → OnFalse p (AreClosed h.row.takes) → flat_map (parts_of_need ps) h.row.takes ≡ needs h
closed_parts h ps p e c = closed p (AreClosed h.row.takes) e c ps (runtime (multiname_at h.file (operand h.instr)))

pub named_parts : (h : Here) (ps : List Need) → ps ≡ runtime (multiname_at h.file (operand h.instr)) → flat_map (parts_of_need ps) h.row.takes ≡ needs h
named_parts h ps e = ap (λ (qs : List Need). flat_map (parts_of_need qs) h.row.takes) e

pub asked_is : (h : Here) (a : Asked) (n : ℕ) → flat_map (parts_of_need (parts_of a.parts)) h.row.takes ≡ needs h → a.args ≡ args h → a.args < 2 ^ 40 → n ≡ length (flat_map (parts_of_need (parts_of a.parts)) h.row.takes) → a.depth ≡ a.args + n
    → OnTrue a.is_plain (AreValues (flat_map (parts_of_need (parts_of a.parts)) h.row.takes)) → IsAsked h a
asked_is h a n p at few e d plain = record {
  parts = p;
  args = at;
  few = few;
  depth = d ∙ ap (λ (k : ℕ). k + n) at ∙ ap (λ (k : ℕ). args h + k) (e ∙ ap (λ (qs : List Need). length qs) p);
  plain = subst (λ (qs : List Need). OnTrue a.is_plain (AreValues qs)) p plain;
}

-- values of which nothing is asked stand for themselves
unfolded_values : (ps ns : List Need) → AreValues ns → flat_map (parts_of_need ps) ns ≡ ns
unfolded_values ps [] v = refl
unfolded_values ps (n ∷ ns) v =
    ap (λ (x : Need). parts_of_need ps x ++ flat_map (parts_of_need ps) ns) v.0
    ∙ ap (λ (xs : List Need). Value ∷ xs) (unfolded_values ps ns v.1)
    ∙ ap (λ (x : Need). x ∷ ns) (sym v.0)

pub values_asked : (h : Here) (a : Asked) (n : ℕ) → HasValues h.row.takes n → a.args ≡ args h → a.args < 2 ^ 40 → a.depth ≡ a.args + n → IsAsked h a
values_asked h a n v at few d =
    let same : (ps : List Need) → flat_map (parts_of_need ps) h.row.takes ≡ h.row.takes = λ ps. unfolded_values ps h.row.takes v.values in
    let mine : needs h ≡ h.row.takes = same (runtime (multiname_at h.file (operand h.instr))) in
    record {
      parts = same (parts_of a.parts) ∙ sym mine;
      args = at;
      few = few;
      depth = d ∙ ap (λ (k : ℕ). k + n) at ∙ ap (λ (k : ℕ). args h + k) (v.as_many ∙ sym (ap (λ (qs : List Need). length qs) mine));
      plain = on_any a.is_plain (AreValues (needs h)) (subst (λ (qs : List Need). AreValues qs) (sym mine) v.values);
    }
  where
    on_any : (b : Bool) (P : Type 0) → P → OnTrue b P
    on_any true P p = p
    on_any false P p = tt

-- ---- what follows

all_plain : (h : Here) (r : VerifyRule) (ns : List Need) (ks : List Kind) → AreValues ns → all_suit h r ns ks ≡ true
all_plain h r [] ks v = refl
all_plain h r (n ∷ ns) [] v = refl
all_plain h r (n ∷ ns) (k ∷ ks) v = ap (λ (x : Need). suits h r x k && all_suit h r ns ks) v.0 ∙ ap (λ (b : Bool). b && all_suit h r ns ks) (any r) ∙ all_plain h r ns ks v.1
  where
    any : (r : VerifyRule) → suits h r Value k ≡ true
    any NotSpace = refl
    any r = refl

none_slotted : (ns : List Need) (ks : List Kind) → AreValues ns → receiver_kind ns ks ≡ Any
none_slotted [] ks v = refl
none_slotted (n ∷ ns) [] v = ap (λ (x : Need). receiver_kind (x ∷ ns) []) v.0
none_slotted (n ∷ ns) (k ∷ ks) v = ap (λ (x : Need). receiver_kind (x ∷ ns) (k ∷ ks)) v.0 ∙ none_slotted ns ks v.1

values : (h : Here) (a : Asked) → IsAsked h a → a.is_plain ≡ true → AreValues (needs h)
values h a is on = subst (λ (b : Bool). OnTrue b (AreValues (needs h))) on is.plain

pub plain_suits : (h : Here) (a : Asked) (r : VerifyRule) (ks : List Kind) → IsAsked h a → a.is_plain ≡ true → true ≡ all_suit h r (needs h) ks
plain_suits h a r ks is on = sym (all_plain h r (needs h) ks (values h a is on))

pub asked_suits : (h : Here) (a : Asked) (r : VerifyRule) (ks : List Kind) (b : Bool) → IsAsked h a → b ≡ all_suit h r (flat_map (parts_of_need (parts_of a.parts)) h.row.takes) (drop a.args ks) → b ≡ all_suit h r (needs h) (drop (args h) ks)
asked_suits h a r ks b is e =
    e
    ∙ ap (λ (qs : List Need). all_suit h r qs (drop a.args ks)) is.parts
    ∙ ap (λ (k : ℕ). all_suit h r (needs h) (drop k ks)) is.args

pub plain_receiver : (h : Here) (a : Asked) (ks : List Kind) → IsAsked h a → a.is_plain ≡ true → Any ≡ receiver_kind (needs h) ks
plain_receiver h a ks is on = sym (none_slotted (needs h) ks (values h a is on))

pub asked_receiver : (h : Here) (a : Asked) (ks : List Kind) (x : Kind) → IsAsked h a → x ≡ receiver_kind (flat_map (parts_of_need (parts_of a.parts)) h.row.takes) (drop a.args ks) → x ≡ receiver_kind (needs h) (drop (args h) ks)
asked_receiver h a ks x is e =
    e
    ∙ ap (λ (qs : List Need). receiver_kind qs (drop a.args ks)) is.parts
    ∙ ap (λ (k : ℕ). receiver_kind (needs h) (drop k ks)) is.args
