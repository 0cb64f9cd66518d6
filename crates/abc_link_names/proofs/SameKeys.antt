-- Equal names have equal keys, and unequal names unequal ones.
use Rattle.std.proofs.Common.{◌≡◌, ℕ, Bool, true, false, ◌&&◌, cond, nat_eq, eq-eqb, eqb-true, refl, sym, ap, ◌∙◌}
use Rattle.std.specs.Str.{bytes_eq}
use Rattle.std.proofs.lemmas.Bool.{false≢true}
use Rattle.abc_file_types.specs.declared.tables.Abc.{Abc}
use Rattle.abc_link_names.specs.declared.keys.NameKey.{NameKey}
use Rattle.abc_link_names.specs.declared.named.DefiniteName.{DefiniteName}
use Rattle.abc_link_names.specs.declared.tables.NameTables.{NameTables}
use Rattle.abc_link_names.specs.Pool.{space, text, is_private, shared_code}
use Rattle.abc_link_names.specs.Keys.{keys_eq, name_key, same_name}
use Rattle.abc_link_names.specs.Numbers.{AreNames, number_of_text}

not_equal : (m n : ℕ) → (m ≡ n → ⊥) → nat_eq m n ≡ false
not_equal m n ne = go (nat_eq m n) refl
  where
    go : (b : Bool) → nat_eq m n ≡ b → nat_eq m n ≡ false
    go true e = absurd (ne (eqb-true m n e))
    go false e = e

and_true : (b : Bool) → (b && true) ≡ b
and_true true = refl
and_true false = refl

and_false : (b : Bool) → (b && false) ≡ false
and_false true = refl
and_false false = refl

abbrev key : Bool → ℕ → ℕ → ℕ → ℕ → NameKey
key b t c n p = cond b (record { text = t; code = 0x05; name = 0; place = p }) (record { text = t; code = c; name = n; place = 0 })

-- two keys of which each is private or not
core : (ta tb ca cb na nb pa pb : ℕ) (p q : Bool) → nat_eq ca 0x05 ≡ p → nat_eq cb 0x05 ≡ q → (pa ≡ pb → ca ≡ cb)
    → keys_eq (key p ta ca na pa) (key q tb cb nb pb) ≡ (nat_eq ta tb && cond p (nat_eq pa pb) (nat_eq ca cb && nat_eq na nb))
core ta tb ca cb na nb pa pb true true e f same = refl
core ta tb ca cb na nb pa pb true false e f same =
    let c5 : ca ≡ 0x05 = eqb-true ca 0x05 e in
    let apart : pa ≡ pb → ⊥ = λ h. false≢true (sym f ∙ eq-eqb cb 0x05 (sym (same h) ∙ c5)) in
    let other : nat_eq 0x05 cb ≡ false = not_equal 0x05 cb (λ h. false≢true (sym f ∙ eq-eqb cb 0x05 (sym h))) in
    ap (λ b. nat_eq ta tb && (b && (nat_eq 0 nb && nat_eq pa 0))) other ∙ ap (λ b. nat_eq ta tb && b) (sym (not_equal pa pb apart))
core ta tb ca cb na nb pa pb false true e f same =
    let c5 : cb ≡ 0x05 = eqb-true cb 0x05 f in
    let unlike : nat_eq ca cb ≡ false = not_equal ca cb (λ h. false≢true (sym e ∙ eq-eqb ca 0x05 (h ∙ c5))) in
    ap (λ b. nat_eq ta tb && (b && (nat_eq na 0 && nat_eq 0 pb))) e ∙ ap (λ b. nat_eq ta tb && (b && nat_eq na nb)) (sym unlike)
core ta tb ca cb na nb pa pb false false e f same = ap (λ b. nat_eq ta tb && (nat_eq ca cb && b)) (and_true (nat_eq na nb))

pub same_keys : (v : Abc) (t : NameTables) (a b : DefiniteName) → AreNames v t → keys_eq (name_key v t.numbers a) (name_key v t.numbers b) ≡ same_name v a b
same_keys v t a b h =
    core
    (number_of_text t.numbers a.string) (number_of_text t.numbers b.string)
    (shared_code (space v a.ns).kind) (shared_code (space v b.ns).kind)
    (number_of_text t.numbers (space v a.ns).name) (number_of_text t.numbers (space v b.ns).name)
    a.ns b.ns (is_private (space v a.ns).kind) (is_private (space v b.ns).kind)
    refl refl
    (λ e. ap (λ i. shared_code (space v i).kind) e)
    ∙ ap (λ x. x && cond (is_private (space v a.ns).kind) (nat_eq a.ns b.ns) (nat_eq (shared_code (space v a.ns).kind) (shared_code (space v b.ns).kind) && nat_eq (number_of_text t.numbers (space v a.ns).name) (number_of_text t.numbers (space v b.ns).name))) (h.same a.string b.string)
    ∙ ap (λ x. bytes_eq (text v a.string) (text v b.string) && cond (is_private (space v a.ns).kind) (nat_eq a.ns b.ns) (nat_eq (shared_code (space v a.ns).kind) (shared_code (space v b.ns).kind) && x)) (h.same (space v a.ns).name (space v b.ns).name)
