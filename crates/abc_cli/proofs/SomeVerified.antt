-- A file is verified, or it isn't for some reason: it can't be that neither holds.
use Rattle.std.proofs.Common.{◌≡◌, ◌≢◌, ◌⊎◌, inl, inr, ℕ, zero, suc, ◌+◌, ◌<◌, ◌≤◌, List, [], ◌∷◌, Some, None, length, refl, subst, arith}
use Rattle.std.specs.declared.option.Option.{Option}
use Rattle.std.proofs.lemmas.Bool.{cases_lt}
use Rattle.abc_file_types.specs.Files.{Fits, IsBadFile, IsFileRead, file_read}
use Rattle.abc_file_types.specs.Law.{IsDetermined}
use Rattle.abc_file_types.specs.Part.{At, Begins, Refusal, at_of, refusal}
use Rattle.abc_file_types.specs.declared.reason.Reason.TheVariants as reasons
use Rattle.abc_file_types.specs.declared.tables.Abc.{Abc}
use Rattle.abc_file_types.proofs.Determined.{determined}
use Rattle.abc_file_types.proofs.Whole.{file_read-exact, read_bad, read_begins, whole_begins}
use Rattle.abc_link_layouts.specs.Numbering.{HasLayoutNumbers}
use Rattle.abc_link_names.proofs.FirstBroken.{all_hold}
use Rattle.abc_link_names.specs.Items.{IsItem, kind_number, rule_number}
use Rattle.abc_link_names.specs.Rules.{AllHold, AllHoldBefore, Breaks, IsFirstBroken}
use Rattle.abc_link_names.specs.declared.items.Item.{Item}
use Rattle.abc_link_names.specs.declared.items.LinkRule.{LinkRule}
use Rattle.abc_link_names.specs.Linked.{IsLinkedFile, LinkedFile}
use Rattle.abc_link_names.specs.Owners.{body_of}
use Rattle.abc_verify.specs.FileRefusing.{IsUnverified, offset_in, unlinked, untyped}
use Rattle.abc_verify.specs.Typed.{AreTyped, IsTyped}
use Rattle.abc_verify.specs.Verified.{IsVerifiedOf}
use Rattle.abc_verify.specs.VerifyRefusing.{IsFirstUntyped}
use Rattle.abc_verify_typing.specs.declared.rule.VerifyRule.{VerifyRule}
use Rattle.abc_verify.specs.declared.verified_error.VerifiedError.{VerifiedError}
use Rattle.abc_verify.specs.declared.verified_error.VerifiedError.TheVariants as errors
use Rattle.abc_verify.proofs.Methods.{all_typed, is_typed, more_typed, none_typed, not_typed}
use Rattle.abc_verify_typing.specs.Routines.{routine}
use Rattle.abc_verify_typing.specs.Typing.{HasTyping, IsRefuted}
use Rattle.abc_verify_typing.proofs.Decides.{decides}
use Rattle.abc_verify_typing.proofs.Exact.{typed_not_refuted}
use Rattle.abc_verify_typing.proofs.Good.{good}
use Rattle.abc_cli.proofs.SomeLinked.{is_linked, linked_of}

-- ---- bytes are read as a file, or bad

law : IsDetermined file_read
law = determined file_read file_read-exact

pub read_or_bad : (b : List ℕ) → ((v : Abc × List (List ℕ)) × IsFileRead v b) ⊎ ((r : Refusal) × IsBadFile b r)
read_or_bad b = go (law.some (at_of 0 b) (omega arith))
  where
    is_empty : (xs : List ℕ) → (xs ≡ []) ⊎ (xs ≢ [])
    is_empty [] = inl refl
    is_empty (x ∷ xs) = inr (λ e. cc)

    go : ((v : Abc × List (List ℕ)) × (after : At) × Begins file_read (at_of 0 b) v after) ⊎ ((r : Refusal) × file_read.bad (at_of 0 b) r) → ((v : Abc × List (List ℕ)) × IsFileRead v b) ⊎ ((r : Refusal) × IsBadFile b r)
    go (inl s) = elim (is_empty s.1.bytes) [
      | inl none ↦ inl (s.0, whole_begins file_read s.0 b s.1 s.2 none)
      | inr some ↦ inr (refusal s.1.place reasons.Trailing, inr (s.0.0, s.1, read_begins (at_of 0 b) s.0 s.1 s.2, some, refl))
    ]
    go (inr r) = inr (r.0, inl (read_bad (at_of 0 b) r.0 r.1))

-- ---- where no rule of linking is the first broken one, all hold

module _ (v : Abc) (none : (rule : LinkRule) (i : Item) → IsFirstBroken v rule i → ⊥) where
  -- no item of a kind breaks a rule, where none of a kind before does
  index_holds : (rule : LinkRule) → AllHoldBefore v (rule_number rule) → (n : ℕ) → ((j : Item) → kind_number j.kind < n → IsItem v j → Breaks v rule j → ⊥) → (m : ℕ) (j : Item) → kind_number j.kind ≤ n → j.index < m → IsItem v j → Breaks v rule j → ⊥
  index_holds rule before n lower zero j le low item breaks = absurd (omega (arith, low))
  index_holds rule before n lower (suc m) j le low item breaks =
      none rule j (record {
        item = item;
        breaks = breaks;
        first = λ k is stands b. elim stands [
          | inl less ↦ lower k (omega (arith, less, le)) is b
          | inr same ↦ index_holds rule before n lower m k (let e = same.0 in omega (arith, e, le)) (let l = same.1 in omega (arith, l, low)) is b
        ];
        before = before;
      })

  kind_holds : (rule : LinkRule) → AllHoldBefore v (rule_number rule) → (n : ℕ) (j : Item) → kind_number j.kind < n → IsItem v j → Breaks v rule j → ⊥
  kind_holds rule before zero j low item breaks = absurd (omega (arith, low))
  kind_holds rule before (suc n) j low item breaks = index_holds rule before n (kind_holds rule before n) (suc j.index) j (omega (arith, low)) (omega arith) item breaks

  before_holds : (n : ℕ) → AllHoldBefore v n
  before_holds zero rule low i item breaks = absurd (omega (arith, low))
  before_holds (suc n) rule low i item breaks = elim (cases_lt (rule_number rule) n) [
    | inl less ↦ before_holds n rule less i item breaks
    | inr more ↦ (let same : n ≡ rule_number rule = omega (arith, low, more) in kind_holds rule (subst (AllHoldBefore v) same (before_holds n)) (suc (kind_number i.kind)) i (omega arith) item breaks)
  ]

  rules_hold : AllHold v
  rules_hold = all_hold v (before_holds 15)

-- ---- where no method is the first without a typing, all have one

module _ (l : LinkedFile) (linked : IsLinkedFile l) (none : (m b i : ℕ) → (r : VerifyRule) → IsFirstUntyped l m b i r → ⊥) where
  one_typed : (m : ℕ) → m < length l.file.methods → AreTyped l m → (o : Option ℕ) → body_of l.file m ≡ o → IsTyped l m
  one_typed m low before None e = not_typed l m e
  one_typed m low before (Some b) e = go (decides l (routine l b) (good l linked))
    where
      go : HasTyping l (routine l b) ⊎ IsRefuted l (routine l b) → IsTyped l m
      go (inl t) = is_typed l m b e t
      go (inr r) = absurd (none m b r.0 r.1.0 (low, before, record { of_method = e; refuted = r.1.1; untyped = λ t. typed_not_refuted l (routine l b) (good l linked) t r }))

  methods_typed : (n : ℕ) → n ≤ length l.file.methods → AreTyped l n
  methods_typed zero le = none_typed l
  methods_typed (suc n) le =
      let before = methods_typed n (omega (arith, le)) in
      let more : n + 1 ≡ suc n = omega arith in
      subst (AreTyped l) more (more_typed l n before (one_typed n (omega (arith, le)) before (body_of l.file n) refl))

-- ---- the file

pub some_verified : (v : Abc) (starts : List (List ℕ)) → Fits v → ((l : LinkedFile) → IsVerifiedOf v l → ⊥) → ((e : VerifiedError) → IsUnverified v starts e → ⊥) → ⊥
some_verified v starts fits no_file no_reason =
    no_file (linked_of v) (record { file = refl; linked = linked; numbered = numbered; typed = all_typed (linked_of v) linked (methods_typed (linked_of v) linked untyped_never (length v.methods) (omega arith)) })
  where
    linked : IsLinkedFile (linked_of v)
    linked = is_linked v fits (rules_hold v (λ rule i f. no_reason (errors.Link rule i) (unlinked rule i f)))

    numbered : HasLayoutNumbers (linked_of v)
    numbered = refl

    untyped_never : (m b i : ℕ) (r : VerifyRule) → IsFirstUntyped (linked_of v) m b i r → ⊥
    untyped_never m b i r f = no_reason (errors.Verify m (offset_in starts b i) r) (untyped (linked_of v) m b i r refl linked numbered f)
