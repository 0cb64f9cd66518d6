-- Two answers on one file.
use Rattle.std.proofs.Common.{◌≡◌, ◌⊎◌, inl, inr, ℕ, ◌<◌, List, [], Some, length, refl, sym, ap, subst, ◌∙◌, append-nil, arith}
use Rattle.std.proofs.lemmas.Bool.{cases_order}
use Rattle.std.specs.Prelude.{if◌then◌else◌, nat_eq}
use Rattle.abc_base.specs.declared.status.Status.TheVariants as status
use Rattle.abc_file_types.specs.Files.{IsFile, IsFileRead, file_read}
use Rattle.abc_file_types.specs.Law.{IsDetermined}
use Rattle.abc_file_types.specs.Part.{Begins, at_of}
use Rattle.abc_file_types.specs.declared.tables.Abc.{Abc}
use Rattle.abc_file_types.proofs.Determined.{determined}
use Rattle.abc_file_types.proofs.Whole.{decided, file_read-exact, read_spelled}
use Rattle.abc_link_layouts.specs.Numbering.{HasLayoutNumbers}
use Rattle.abc_link_names.specs.Items.{kind_number, rule_number}
use Rattle.abc_link_names.specs.Rules.{IsFirstBroken}
use Rattle.abc_link_names.specs.declared.items.Item.{Item}
use Rattle.abc_link_names.specs.declared.items.ItemKind.{ItemKind}
use Rattle.abc_link_names.specs.declared.items.ItemKind.TheVariants as kinds
use Rattle.abc_link_names.specs.declared.items.LinkRule.{LinkRule}
use Rattle.abc_link_names.specs.declared.items.LinkRule.TheVariants as rules
use Rattle.abc_link_names.specs.Linked.{IsLinkedFile, LinkedFile}
use Rattle.abc_link_names.specs.Owners.{body_of}
use Rattle.abc_verify.specs.FileRefusing.{IsUnverified, unlinked, untyped}
use Rattle.abc_verify.specs.Typed.{AllTyped}
use Rattle.abc_verify.specs.Verified.{IsVerifiedOf}
use Rattle.abc_verify.specs.VerifyRefusing.{IsFirstUntyped}
use Rattle.abc_verify.specs.declared.verified_error.VerifiedError.{VerifiedError}
use Rattle.abc_link_names.proofs.MethodBodies.{body_inside}
use Rattle.abc_verify.proofs.Single.{one_numbered}
use Rattle.abc_verify_typing.specs.declared.rule.VerifyRule.{VerifyRule}
use Rattle.abc_cli_answers.specs.Answers.{Answer, OfFile, OfFileRead, Unverified, line_answer}
use Rattle.abc_cli_answers.specs.Lines.{item_text, refusal_text, unverified_text}
use Rattle.abc_cli.specs.Answered.{AreAlikeAnswers, NamesMethod}

-- ---- bytes that spell a file, or are refused

pub one_of_file : (Answers : Abc → Answer → Type 0) → ((v : Abc) (a b : Answer) → Answers v a → Answers v b → a ≡ b) → (input : List ℕ) (a b : Answer) → OfFile Answers input a → OfFile Answers input b → a ≡ b
one_of_file Answers one input a b (OfFile.accepted v f x) (OfFile.accepted w g y) = one v a b x (subst (λ u. Answers u b) (sym ((decided input).one_value v w f g)) y)
one_of_file Answers one input a b (OfFile.accepted v f x) (OfFile.refused r bad y) = absurd ((decided input).never_both v r f bad)
one_of_file Answers one input a b (OfFile.refused r bad x) (OfFile.accepted w g y) = absurd ((decided input).never_both w r g bad)
one_of_file Answers one input a b (OfFile.refused r bad x) (OfFile.refused s worse y) = x ∙ ap (λ q. line_answer status.Refused (refusal_text q)) ((decided input).one_refusal r s bad worse) ∙ sym y

law : IsDetermined file_read
law = determined file_read file_read-exact

begins : (v : Abc × List (List ℕ)) (b : List ℕ) → IsFileRead v b → Begins file_read (at_of 0 b) v (at_of (length b) [])
begins v b f = record { front = b; spelled = f.0; is = record { parts = sym (append-nil b); place = omega arith; room = f.1; same = refl; within = λ h. omega arith } }

-- bytes are read as one file with one list of starts
pub one_read : (v w : Abc × List (List ℕ)) (b : List ℕ) → IsFileRead v b → IsFileRead w b → v ≡ w
one_read v w b f g = (law.one_value (at_of 0 b) v w (at_of (length b) []) (at_of (length b) []) (begins v b f) (begins w b g)).0

pub file_of : (v : Abc) (starts : List (List ℕ)) (b : List ℕ) → IsFileRead (v, starts) b → IsFile v b
file_of v starts b f = (read_spelled (v, starts) b f.0, f.1)

-- two answers of a command that speaks of code as it was read
pub one_of_read : (Answers : Abc → List (List ℕ) → Answer → Type 0) (file : List ℕ) → ((v : Abc) (starts : List (List ℕ)) (a b : Answer) → IsFileRead (v, starts) file → Answers v starts a → Answers v starts b → AreAlikeAnswers file a b)
    → (a b : Answer) → OfFileRead Answers file a → OfFileRead Answers file b → AreAlikeAnswers file a b
one_of_read Answers file one a b (OfFileRead.accepted v starts f x) (OfFileRead.accepted w others g y) =
    one v starts a b f x (subst (λ (p : Abc × List (List ℕ)). Answers p.0 p.1 b) (sym (one_read (v, starts) (w, others) file f g)) y)
one_of_read Answers file one a b (OfFileRead.accepted v starts f x) (OfFileRead.refused r bad y) = absurd ((decided file).never_both v r (file_of v starts file f) bad)
one_of_read Answers file one a b (OfFileRead.refused r bad x) (OfFileRead.accepted w others g y) = absurd ((decided file).never_both w r (file_of w others file g) bad)
one_of_read Answers file one a b (OfFileRead.refused r bad x) (OfFileRead.refused s worse y) = inl (x ∙ ap (λ q. line_answer status.Refused (refusal_text q)) ((decided file).one_refusal r s bad worse) ∙ sym y)

-- ---- the first broken rule of linking

rule_of : ℕ → LinkRule
rule_of n =
    if nat_eq n 1 then rules.NoScript else if nat_eq n 2 then rules.NameKind else if nat_eq n 3 then rules.UnknownBase else if nat_eq n 4 then rules.BaseCycle
    else if nat_eq n 5 then rules.FinalBase else if nat_eq n 6 then rules.BaseIsInterface else if nat_eq n 7 then rules.UnknownInterface else if nat_eq n 8 then rules.UnknownType
    else if nat_eq n 9 then rules.OwnedTwice else if nat_eq n 10 then rules.NoBody else if nat_eq n 11 then rules.SameName else if nat_eq n 12 then rules.SameSlot
    else if nat_eq n 13 then rules.TraitNotRun else rules.TooLarge

rule_back : (rule : LinkRule) → rule_of (rule_number rule) ≡ rule
unfolding rule_of
rule_back rules.NoScript = refl
rule_back rules.NameKind = refl
rule_back rules.UnknownBase = refl
rule_back rules.BaseCycle = refl
rule_back rules.FinalBase = refl
rule_back rules.BaseIsInterface = refl
rule_back rules.UnknownInterface = refl
rule_back rules.UnknownType = refl
rule_back rules.OwnedTwice = refl
rule_back rules.NoBody = refl
rule_back rules.SameName = refl
rule_back rules.SameSlot = refl
rule_back rules.TraitNotRun = refl
rule_back rules.TooLarge = refl

kind_of : ℕ → ItemKind
kind_of n = if nat_eq n 0 then kinds.File else if nat_eq n 1 then kinds.Method else if nat_eq n 2 then kinds.Class else if nat_eq n 3 then kinds.Script else kinds.Body

kind_back : (kind : ItemKind) → kind_of (kind_number kind) ≡ kind
unfolding kind_of
kind_back kinds.File = refl
kind_back kinds.Method = refl
kind_back kinds.Class = refl
kind_back kinds.Script = refl
kind_back kinds.Body = refl

same_item : (i j : Item) → kind_number i.kind ≡ kind_number j.kind → i.index ≡ j.index → i ≡ j
same_item i j k n =
    let kind : i.kind ≡ j.kind = sym (kind_back i.kind) ∙ ap kind_of k ∙ kind_back j.kind in
    λ t. record { kind = kind t; index = n t }

same_breaker : (v : Abc) (rule : LinkRule) (i j : Item) → IsFirstBroken v rule i → IsFirstBroken v rule j → i ≡ j
same_breaker v rule i j f g = go (cases_order (kind_number i.kind) (kind_number j.kind)) (cases_order i.index j.index)
  where
    go : (kind_number i.kind ≡ kind_number j.kind) ⊎ ((kind_number i.kind < kind_number j.kind) ⊎ (kind_number j.kind < kind_number i.kind)) → (i.index ≡ j.index) ⊎ ((i.index < j.index) ⊎ (j.index < i.index)) → i ≡ j
    go (inl k) (inl n) = same_item i j k n
    go (inl k) (inr (inl lt)) = absurd (g.first i f.item (inr (k, lt)) f.breaks)
    go (inl k) (inr (inr lt)) = absurd (f.first j g.item (inr (sym k, lt)) g.breaks)
    go (inr (inl lt)) n = absurd (g.first i f.item (inl lt) f.breaks)
    go (inr (inr lt)) n = absurd (f.first j g.item (inl lt) g.breaks)

pub same_broken : (v : Abc) (rule other : LinkRule) (i j : Item) → IsFirstBroken v rule i → IsFirstBroken v other j → (rule ≡ other) × (i ≡ j)
same_broken v rule other i j f g = go (cases_order (rule_number rule) (rule_number other))
  where
    go : (rule_number rule ≡ rule_number other) ⊎ ((rule_number rule < rule_number other) ⊎ (rule_number other < rule_number rule)) → (rule ≡ other) × (i ≡ j)
    go (inl e) =
        let r : rule ≡ other = sym (rule_back rule) ∙ ap rule_of e ∙ rule_back other in
        (r, same_breaker v other i j (subst (λ x. IsFirstBroken v x i) r f) g)
    go (inr (inl lt)) = absurd (g.before rule lt i f.item f.breaks)
    go (inr (inr lt)) = absurd (f.before other lt j g.item g.breaks)

-- no rule is broken by a linked file
pub none_broken : (v : Abc) (l : LinkedFile) (rule : LinkRule) (i : Item) → l.file ≡ v → IsLinkedFile l → IsFirstBroken v rule i → ⊥
none_broken v l rule i e is f =
    let g : IsFirstBroken l.file rule i = subst (λ w. IsFirstBroken w rule i) (sym e) f in
    is.rules rule i g.item g.breaks

-- ---- the first method without a typing

same_untyped : (l : LinkedFile) (m n b c i j : ℕ) (r s : VerifyRule) → IsFirstUntyped l m b i r → IsFirstUntyped l n c j s → (m ≡ n) × (b ≡ c)
same_untyped l m n b c i j r s f g = go (cases_order m n)
  where
    same_body : m ≡ n → b ≡ c
    same_body e = let bodies : Some b ≡ Some c = sym f.2.of_method ∙ ap (λ k. body_of l.file k) e ∙ g.2.of_method in cc

    go : (m ≡ n) ⊎ ((m < n) ⊎ (n < m)) → (m ≡ n) × (b ≡ c)
    go (inl e) = (e, same_body e)
    go (inr (inl lt)) = absurd (f.2.untyped (g.1 m lt b f.2.of_method))
    go (inr (inr lt)) = absurd (g.2.untyped (f.1 n lt c g.2.of_method))

-- why a file isn't verified, told twice
pub one_unverified : (file : List ℕ) (v : Abc) (starts : List (List ℕ)) (d e : VerifiedError) (a b : Answer) → IsFileRead (v, starts) file → IsUnverified v starts d → IsUnverified v starts e → a ≡ line_answer status.Refused (unverified_text d) → b ≡ line_answer status.Refused (unverified_text e) → AreAlikeAnswers file a b
one_unverified file v starts d e a b read (unlinked rule i f) (unlinked other j g) x y =
    let same = same_broken v rule other i j f g in
    inl (x ∙ (λ t. line_answer status.Refused (item_text (same.1 t) (same.0 t))) ∙ sym y)
one_unverified file v starts d e a b read (unlinked rule i f) (untyped l m c k r is linked numbered g) x y = absurd (none_broken v l rule i is linked f)
one_unverified file v starts d e a b read (untyped l m c k r is linked numbered g) (unlinked rule i f) x y = absurd (none_broken v l rule i is linked f)
one_unverified file v starts d e a b read (untyped l m c k r is linked numbered f) (untyped l2 m2 c2 k2 r2 is2 linked2 numbered2 g) x y =
    let one : l2 ≡ l = one_numbered l2 l numbered2 numbered (is2 ∙ sym is) in
    let h : IsFirstUntyped l m2 c2 k2 r2 = subst (λ z. IsFirstUntyped z m2 c2 k2 r2) one g in
    let same = same_untyped l m m2 c c2 k k2 r r2 f h in
    inr (record {
      linked = l;
      starts = starts;
      read = subst (λ w. IsFileRead (w, starts) file) (sym is) read;
      is_linked = linked;
      numbered = numbered;
      method = m2;
      body = c2;
      first = subst (λ n. NamesMethod l starts n c2 a) same.0 (subst (λ n. NamesMethod l starts m n a) same.1 (record { place = k; rule = r; refuted = f; is = x }));
      second = record { place = k2; rule = r2; refuted = h; is = y };
    })

pub both_unverified : (file : List ℕ) (v : Abc) (starts : List (List ℕ)) (a b : Answer) → IsFileRead (v, starts) file → Unverified v starts a → Unverified v starts b → AreAlikeAnswers file a b
both_unverified file v starts a b read x y = one_unverified file v starts x.0 y.0 a b read x.1 y.1 x.2 y.2

-- a linked file whose bodies have typings is never unverified
pub not_unverified : (v : Abc) (starts : List (List ℕ)) (l : LinkedFile) (e : VerifiedError) → l.file ≡ v → IsLinkedFile l → HasLayoutNumbers l → AllTyped l → IsUnverified v starts e → ⊥
not_unverified v starts l e is linked numbered typed (unlinked rule i f) = none_broken v l rule i is linked f
not_unverified v starts l e is linked numbered typed (untyped k m b i rule is2 linked2 numbered2 f) =
    let one : k ≡ l = one_numbered k l numbered2 numbered (is2 ∙ sym is) in
    let g : IsFirstUntyped l m b i rule = subst (λ z. IsFirstUntyped z m b i rule) one f in
    g.2.untyped (typed b (body_inside l.file m b g.2.of_method))

pub not_both : (v : Abc) (starts : List (List ℕ)) (l : LinkedFile) (a : Answer) → IsVerifiedOf v l → Unverified v starts a → ⊥
not_both v starts l a is x = not_unverified v starts l x.0 is.file is.linked is.numbered is.typed x.1
