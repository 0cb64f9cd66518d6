-- The first item that breaks a rule, kind by kind; and the rules, one by one.
use Rattle.std.proofs.Common.{◌≡◌, ℕ, ◌+◌, ◌<◌, ◌≤◌, ◌⊎◌, inl, inr, Some, None, nat_eq, if◌then◌else◌, ◌∙◌, refl, sym, ap, subst, arith}
use Rattle.std.specs.declared.option.Option.{Option}
use Rattle.std.proofs.lemmas.Bool.{cases_lt}
use Rattle.abc_file_types.specs.declared.tables.Abc.{Abc}
use Rattle.abc_link_names.specs.declared.items.LinkRule.{LinkRule}
use Rattle.abc_link_names.specs.declared.items.LinkRule.TheVariants as rules
use Rattle.abc_link_names.specs.declared.items.ItemKind.{ItemKind}
use Rattle.abc_link_names.specs.declared.items.ItemKind.TheVariants as kinds
use Rattle.abc_link_names.specs.declared.items.Item.{Item}
use Rattle.abc_link_names.specs.Items.{IsItem, StandsBefore, count_of, rule_number, kind_number}
use Rattle.abc_link_names.specs.Rules.{AllHold, AllHoldBefore, Breaks, IsFirstBroken}
use Rattle.abc_link_names.specs.Firsts.{item, IsFirstOfKind, IsFirstItem, IsFirstBelow}

kind_at : ℕ → ItemKind
kind_at n = if nat_eq n 0 then kinds.File else if nat_eq n 1 then kinds.Method else if nat_eq n 2 then kinds.Class else if nat_eq n 3 then kinds.Script else kinds.Body

kind_back : (k : ItemKind) → kind_at (kind_number k) ≡ k
unfolding kind_at
kind_back kinds.File = refl
kind_back kinds.Method = refl
kind_back kinds.Class = refl
kind_back kinds.Script = refl
kind_back kinds.Body = refl

same_kind : (a b : ItemKind) → kind_number a ≡ kind_number b → a ≡ b
same_kind a b e = sym (kind_back a) ∙ ap kind_at e ∙ kind_back b

pub none_below : (v : Abc) (rule : LinkRule) → IsFirstBelow v rule 0 None
none_below v rule = λ j i lt b. omega arith

pub all_kinds : (v : Abc) (rule : LinkRule) → IsFirstBelow v rule 5 None → IsFirstItem v rule None
all_kinds v rule none = λ j i b. none j i (below j.kind) b
  where
    below : (k : ItemKind) → kind_number k < 5
    below kinds.File = omega arith
    below kinds.Method = omega arith
    below kinds.Class = omega arith
    below kinds.Script = omega arith
    below kinds.Body = omega arith

pub next_kind_none : (v : Abc) (rule : LinkRule) (kind : ItemKind) → IsFirstBelow v rule (kind_number kind) None → IsFirstOfKind v rule kind None → IsFirstBelow v rule (kind_number kind + 1) None
next_kind_none v rule kind before none = λ j i lt b. go j i b (cases_lt (kind_number j.kind) (kind_number kind)) lt
  where
    go : (j : Item) → IsItem v j → Breaks v rule j → (kind_number j.kind < kind_number kind) ⊎ (kind_number kind ≤ kind_number j.kind) → kind_number j.kind < kind_number kind + 1 → ⊥
    go j i b (inl less) lt = before j i less b
    go j i b (inr le) lt =
        let e : j.kind ≡ kind = same_kind j.kind kind (omega arith) in
        none j.index (subst (λ k. j.index < count_of v k) e i.within) (subst (λ k. Breaks v rule (item k j.index)) e b)

pub next_kind_some : (v : Abc) (rule : LinkRule) (kind : ItemKind) (x : Item) → IsFirstBelow v rule (kind_number kind) None → IsFirstOfKind v rule kind (Some x) → IsFirstBelow v rule (kind_number kind + 1) (Some x)
next_kind_some v rule kind x before some = (some.1, some.2, λ j i s b. go j i b s)
  where
    go : (j : Item) → IsItem v j → Breaks v rule j → StandsBefore j x → ⊥
    go j i b (inl less) = before j i (subst (λ k. kind_number j.kind < kind_number k) some.0 less) b
    go j i b (inr p) = let e : j.kind ≡ kind = same_kind j.kind x.kind p.0 ∙ some.0 in some.3 j.index p.1 (subst (λ k. Breaks v rule (item k j.index)) e b)

pub next_kind : (v : Abc) (rule : LinkRule) (kind : ItemKind) (r : Option Item) → IsFirstBelow v rule (kind_number kind) None → IsFirstOfKind v rule kind r → IsFirstBelow v rule (kind_number kind + 1) r
next_kind v rule kind None before none = next_kind_none v rule kind before none
next_kind v rule kind (Some x) before some = next_kind_some v rule kind x before some

rule_at : ℕ → LinkRule
rule_at n =
    if nat_eq n 1 then rules.NoScript else if nat_eq n 2 then rules.NameKind else if nat_eq n 3 then rules.UnknownBase else if nat_eq n 4 then rules.BaseCycle
    else if nat_eq n 5 then rules.FinalBase else if nat_eq n 6 then rules.BaseIsInterface else if nat_eq n 7 then rules.UnknownInterface
    else if nat_eq n 8 then rules.UnknownType else if nat_eq n 9 then rules.OwnedTwice else if nat_eq n 10 then rules.NoBody
    else if nat_eq n 11 then rules.SameName else if nat_eq n 12 then rules.SameSlot else if nat_eq n 13 then rules.TraitNotRun else rules.TooLarge

rule_back : (r : LinkRule) → rule_at (rule_number r) ≡ r
unfolding rule_at
rule_back rules.NoScript = refl
rule_back rules.NameKind = refl
rule_back rules.UnknownBase = refl
rule_back rules.BaseCycle = refl
rule_back rules.FinalBase = refl
rule_back rules.BaseIsInterface = refl
rule_back rules.UnknownInterface = refl
rule_back rules.UnknownType = refl
rule_back rules.OwnedTwice = refl
rule_back rules.NoBody = refl
rule_back rules.SameName = refl
rule_back rules.SameSlot = refl
rule_back rules.TraitNotRun = refl
rule_back rules.TooLarge = refl

same_rule : (a b : LinkRule) → rule_number a ≡ rule_number b → a ≡ b
same_rule a b e = sym (rule_back a) ∙ ap rule_at e ∙ rule_back b

pub one_more : (v : Abc) (rule : LinkRule) → AllHoldBefore v (rule_number rule) → IsFirstItem v rule None → AllHoldBefore v (rule_number rule + 1)
one_more v rule before none = λ r lt i is b. go r i is b (cases_lt (rule_number r) (rule_number rule)) lt
  where
    go : (r : LinkRule) (i : Item) → IsItem v i → Breaks v r i → (rule_number r < rule_number rule) ⊎ (rule_number rule ≤ rule_number r) → rule_number r < rule_number rule + 1 → ⊥
    go r i is b (inl less) lt = before r less i is b
    go r i is b (inr le) lt = let e : r ≡ rule = same_rule r rule (omega arith) in none i is (subst (λ q. Breaks v q i) e b)

pub refused : (v : Abc) (rule : LinkRule) (x : Item) → AllHoldBefore v (rule_number rule) → IsFirstItem v rule (Some x) → IsFirstBroken v rule x
refused v rule x before some = record { item = some.0; breaks = some.1; first = some.2; before = before }

pub none_before : (v : Abc) → AllHoldBefore v 1
none_before v = λ r lt i is b. absurd (go r lt)
  where
    go : (r : LinkRule) → rule_number r < 1 → ⊥
    go rules.NoScript lt = omega arith
    go rules.NameKind lt = omega arith
    go rules.UnknownBase lt = omega arith
    go rules.BaseCycle lt = omega arith
    go rules.FinalBase lt = omega arith
    go rules.BaseIsInterface lt = omega arith
    go rules.UnknownInterface lt = omega arith
    go rules.UnknownType lt = omega arith
    go rules.OwnedTwice lt = omega arith
    go rules.NoBody lt = omega arith
    go rules.SameName lt = omega arith
    go rules.SameSlot lt = omega arith
    go rules.TraitNotRun lt = omega arith
    go rules.TooLarge lt = omega arith

last_rule : (r : LinkRule) → rule_number r < 15
last_rule rules.NoScript = omega arith
last_rule rules.NameKind = omega arith
last_rule rules.UnknownBase = omega arith
last_rule rules.BaseCycle = omega arith
last_rule rules.FinalBase = omega arith
last_rule rules.BaseIsInterface = omega arith
last_rule rules.UnknownInterface = omega arith
last_rule rules.UnknownType = omega arith
last_rule rules.OwnedTwice = omega arith
last_rule rules.NoBody = omega arith
last_rule rules.SameName = omega arith
last_rule rules.SameSlot = omega arith
last_rule rules.TraitNotRun = omega arith
last_rule rules.TooLarge = omega arith

-- after the last rule each holds
pub all_hold : (v : Abc) → AllHoldBefore v 15 → AllHold v
all_hold v before = λ r i is b. before r (last_rule r) i is b
